-- Only the words that may have changed are put.
use Rattle.std.proofs.Common.{◌≡◌, ◌≢◌, ℕ, zero, suc, ◌+◌, ◌-◌, ◌*◌, ◌<◌, ◌≤◌, ◌⊎◌, inl, inr, Bool, true, false, cond, List, [], ◌∷◌, length, take, drop, set, get_or, refl, ap, ◌∙◌, sym, arith, length-set, get_or-set_same, get_or-set_other, eqb-true, subst}
use Rattle.std.specs.Prelude.{◌==◌, ◌||◌}
use Rattle.std.proofs.Math.Seq.{sets, drop-cons, length-sets}
use Rattle.std.proofs.lemmas.List.{ext_get_or, get_or_append_left}
use Rattle.std.proofs.lemmas.Bool.{cases_order, eqb-false, ne_eqb}
use Rattle.hv_word.specs.Words.{has}
use Rattle.hv_word.specs.Storage.{page_count}
use Rattle.hv_cpu.specs.Regs.{Regs, file_of, spelled}
use Rattle.hv_block.specs.Block.{put_regs, regs_at}
use Rattle.hv_block.proofs.Same.{words_from}
use Rattle.hv_block.proofs.Words.{sets_at, sets_outside, length-put_regs}
use Rattle.hv_exec.specs.Changes.{changed_regs, differing}
use Rattle.hv_exec.specs.Touched.{AreAsBut, Touches}
use Rattle.hv_exec.specs.declared.touched.Touched.{Touched}
use Rattle.hv_nest.specs.Touching.{changed_word, changed_words, csr_words, file_words, with_words}
use Rattle.hv_exec.specs.Touched.{return_words, trap_to_m_words, trap_to_s_words}

-- places of registers, of which each is above those before it, from j on
abbrev pub Rising : ℕ → List ℕ → Type 0
Rising j [] = Unit {0}
Rising j (k ∷ ks) = (j ≤ k) × (k < 49) × Rising (suc k) ks

-- one more place of two lists
differing_at : (xs ys : List ℕ) (j : ℕ) → j < length xs → j < length ys → differing (drop j xs) (drop j ys) ≡ changed_word (get_or xs j 0) (get_or ys j 0) + differing (drop (suc j) xs) (drop (suc j) ys)
unfolding differing
differing_at xs ys j h k =
    ap (λ (us : List ℕ). differing us (drop j ys)) (drop-cons xs j 0 h)
    ∙ ap (λ (vs : List ℕ). differing (get_or xs j 0 ∷ drop (suc j) xs) vs) (drop-cons ys j 0 k)

-- fewer differ later on
differing_later : (xs ys : List ℕ) (j n k : ℕ) → j + n ≡ k → k ≤ length xs → k ≤ length ys → differing (drop k xs) (drop k ys) ≤ differing (drop j xs) (drop j ys)
differing_later xs ys j zero k e h l =
    let same : k ≡ j = omega arith in
    let s : differing (drop k xs) (drop k ys) ≡ differing (drop j xs) (drop j ys) = ap (λ (i : ℕ). differing (drop i xs) (drop i ys)) same in
    omega arith
differing_later xs ys j (suc n) k e h l =
    let next : suc j + n ≡ k = omega arith in
    let inside : j < length xs = omega arith in
    let within : j < length ys = omega arith in
    omega (arith, differing_later xs ys (suc j) n k next h l, differing_at xs ys j inside within)

-- no more of some words change than of all
few_from : (r q : Regs) (j : ℕ) (ks : List ℕ) → Rising j ks → changed_words r q ks ≤ differing (drop j (spelled r)) (drop j (spelled q))
few_from r q j [] h = omega arith
few_from r q j (k ∷ ks) h =
    let way : j + (k - j) ≡ k = omega (arith, h.0) in
    let long : k ≤ length (spelled r) = omega (arith, h.1) in
    let wide : k ≤ length (spelled q) = omega (arith, h.1) in
    let inside : k < length (spelled r) = omega (arith, h.1) in
    let within : k < length (spelled q) = omega (arith, h.1) in
    omega (arith, differing_later (spelled r) (spelled q) j (k - j) k way long wide, differing_at (spelled r) (spelled q) k inside within, few_from r q (suc k) ks h.2)

pub few_words : (r q : Regs) (ks : List ℕ) → Rising 0 ks → changed_words r q ks ≤ changed_regs r q
unfolding changed_regs
few_words r q ks h = few_from r q 0 ks h

-- word k of n words of S, from place i + m on
words_at : (S : List ℕ) (i m n k at : ℕ) → k < n → i + m + k ≡ at → get_or (words_from S i m n) k 0 ≡ get_or S at 0
unfolding words_from
words_at S i m zero k at h e = absurd (omega (arith, h))
words_at S i m (suc n) zero at h e =
    let here : i + m ≡ at = omega arith in
    ap (λ (p : ℕ). get_or S p 0) here
words_at S i m (suc n) (suc k) at h e =
    let less : k < n = omega arith in
    let there : i + suc m + k ≡ at = omega arith in
    words_at S i (suc m) n k at less there

-- what a block says of a word is that word
pub said_at : (S : List ℕ) (g k : ℕ) → k < 49 → get_or (spelled (regs_at S g)) k 0 ≡ get_or S (1024 * g + k) 0
unfolding words_from
said_at S g k h =
    let there : 1024 * g + 0 + k ≡ 1024 * g + k = omega arith in
    get_or_append_left (words_from S (1024 * g) 0 49) (get_or S (1024 * g + 64) 0 ∷ []) 0 k h
    ∙ words_at S (1024 * g) 0 49 k (1024 * g + k) h there

length-with_words : (S : List ℕ) (g : ℕ) (r : Regs) (ks : List ℕ) → length (with_words S g r ks) ≡ length S
length-with_words S g r [] = refl
length-with_words S g r (k ∷ ks) =
    length-with_words (set S (1024 * g + k) (get_or (spelled r) k 0)) g r ks
    ∙ length-set S (1024 * g + k) (get_or (spelled r) k 0)

-- a place outside the words of the registers is as it was
with_words_outside : (S : List ℕ) (g : ℕ) (r : Regs) (j x : ℕ) (ks : List ℕ) → Rising j ks → (x < 1024 * g) ⊎ (1024 * g + 49 ≤ x) → get_or (with_words S g r ks) x 0 ≡ get_or S x 0
with_words_outside S g r j x [] h out = refl
with_words_outside S g r j x (k ∷ ks) h out =
    with_words_outside (set S (1024 * g + k) (get_or (spelled r) k 0)) g r (suc k) x ks h.2 out
    ∙ get_or-set_other S (1024 * g + k) x (get_or (spelled r) k 0) 0 (apart out)
  where
    apart : (x < 1024 * g) ⊎ (1024 * g + 49 ≤ x) → x ≢ 1024 * g + k
    apart (inl e) = omega (arith, h.1)
    apart (inr e) = omega (arith, h.1)

-- a word that was put, or was there before, is that of the registers
with_words_at : (S : List ℕ) (g : ℕ) (r : Regs) (k : ℕ) (ks : List ℕ) → 1024 * g + k < length S → (has k ks ≡ false → get_or S (1024 * g + k) 0 ≡ get_or (spelled r) k 0) → get_or (with_words S g r ks) (1024 * g + k) 0 ≡ get_or (spelled r) k 0
with_words_at S g r k [] inside there = there refl
with_words_at S g r k (j ∷ ks) inside there =
    let within : 1024 * g + k < length (set S (1024 * g + j) (get_or (spelled r) j 0)) = omega (arith, length-set S (1024 * g + j) (get_or (spelled r) j 0)) in
    with_words_at (set S (1024 * g + j) (get_or (spelled r) j 0)) g r k ks within (λ none. by (k == j) refl none)
  where
    by : (t : Bool) → (k == j) ≡ t → has k ks ≡ false → get_or (set S (1024 * g + j) (get_or (spelled r) j 0)) (1024 * g + k) 0 ≡ get_or (spelled r) k 0
    by true e none =
        let same : k ≡ j = eqb-true k j e in
        ap (λ (i : ℕ). get_or (set S (1024 * g + i) (get_or (spelled r) i 0)) (1024 * g + k) 0) (sym same)
        ∙ get_or-set_same S (1024 * g + k) (get_or (spelled r) k 0) 0 inside
    by false e none =
        let apart : k ≢ j = eqb-false k j e in
        let far : 1024 * g + k ≢ 1024 * g + j = omega arith in
        get_or-set_other S (1024 * g + j) (1024 * g + k) (get_or (spelled r) j 0) 0 far
        ∙ there (ap (λ (t : Bool). t || has k ks) e ∙ none)

-- a place past those of some words is none of them
above_none : (n j : ℕ) (ks : List ℕ) → 49 ≤ n → Rising j ks → has n ks ≡ false
above_none n j [] h up = refl
above_none n j (k ∷ ks) h up =
    let apart : n ≢ k = omega (arith, up.1) in
    ap (λ (t : Bool). t || has n ks) (ne_eqb n k apart) ∙ above_none n (suc k) ks h up.2

-- Where no other words are others than in a block, it says all registers once these are put.
module _ (S : List ℕ) (g : ℕ) (q : Regs) (ks ls : List ℕ) (page : g < page_count S) (up : Rising 0 ks) (named : (k : ℕ) → has k ks ≡ false → has k ls ≡ false) (kept : AreAsBut ls (regs_at S g) q) where
  long : 1024 * g + 65 ≤ length S
  long = omega arith

  there : (k : ℕ) → k < 49 → has k ks ≡ false → get_or S (1024 * g + k) 0 ≡ get_or (spelled q) k 0
  there k h none = sym (kept.others k (named k none) ∙ said_at S g k h)

  next_there : get_or S (1024 * g + 64) 0 ≡ q.next
  next_there = sym (kept.others 49 (named 49 (above_none 49 0 ks (omega arith) up)))

  -- the words of a block in a row
  in_row : (x k : ℕ) → x ≡ 1024 * g + k → k < 49 → get_or (with_words S g q ks) x 0 ≡ get_or (put_regs S g q) x 0
  in_row x k e h =
      let inside : 1024 * g + k < length S = omega (arith, long) in
      let fits : 1024 * g + 49 ≤ length S = omega (arith, long) in
      let apart : x ≢ 1024 * g + 64 = omega arith in
      ap (λ (p : ℕ). get_or (with_words S g q ks) p 0) e
      ∙ with_words_at S g q k ks inside (there k h)
      ∙ sym (get_or-set_other (sets S (1024 * g) (take 49 (spelled q))) (1024 * g + 64) x q.next 0 apart
      ∙ sets_at (take 49 (spelled q)) S (1024 * g) k x fits h (sym e)
      ∙ row_word k h)
    where
      row_word : (k : ℕ) → k < 49 → get_or (take 49 (spelled q)) k 0 ≡ get_or (spelled q) k 0
      row_word k h = sym (get_or_append_left (take 49 (spelled q)) (q.next ∷ []) 0 k h)

  -- and all others
  outside : (x : ℕ) → (x < 1024 * g) ⊎ (1024 * g + 49 ≤ x) → get_or (with_words S g q ks) x 0 ≡ get_or (put_regs S g q) x 0
  outside x out = with_words_outside S g q 0 x ks up out ∙ sym (by (cases_order x (1024 * g + 64)))
    where
      apart : (x < 1024 * g + 64) ⊎ (1024 * g + 64 < x) → x ≢ 1024 * g + 64
      apart (inl e) = omega arith
      apart (inr e) = omega arith

      by : (x ≡ 1024 * g + 64) ⊎ ((x < 1024 * g + 64) ⊎ (1024 * g + 64 < x)) → get_or (put_regs S g q) x 0 ≡ get_or S x 0
      by (inl e) =
          let inside : 1024 * g + 64 < length (sets S (1024 * g) (take 49 (spelled q))) = omega (arith, long, length-sets S (1024 * g) (take 49 (spelled q))) in
          ap (λ (p : ℕ). get_or (put_regs S g q) p 0) e
          ∙ get_or-set_same (sets S (1024 * g) (take 49 (spelled q))) (1024 * g + 64) q.next 0 inside
          ∙ sym next_there
          ∙ ap (λ (p : ℕ). get_or S p 0) (sym e)
      by (inr e) =
          get_or-set_other (sets S (1024 * g) (take 49 (spelled q))) (1024 * g + 64) x q.next 0 (apart e)
          ∙ sets_outside (take 49 (spelled q)) S (1024 * g) x out

  each : (x : ℕ) → get_or (with_words S g q ks) x 0 ≡ get_or (put_regs S g q) x 0
  each x = by (cases_order x (1024 * g)) (cases_order x (1024 * g + 49))
    where
      by : (x ≡ 1024 * g) ⊎ ((x < 1024 * g) ⊎ (1024 * g < x)) → (x ≡ 1024 * g + 49) ⊎ ((x < 1024 * g + 49) ⊎ (1024 * g + 49 < x)) → get_or (with_words S g q ks) x 0 ≡ get_or (put_regs S g q) x 0
      by (inr (inl e)) f = outside x (inl e)
      by e (inl f) = outside x (inr (omega arith))
      by e (inr (inr f)) = outside x (inr (omega arith))
      by (inl e) (inr (inl f)) = in_row x 0 (omega arith) (omega arith)
      by (inr (inr e)) (inr (inl f)) = in_row x (x - 1024 * g) (omega arith) (omega arith)

  pub all_said : with_words S g q ks ≡ put_regs S g q
  all_said =
      ext_get_or 0 (with_words S g q ks) (put_regs S g q) (length-with_words S g q ks ∙ sym (length-put_regs S g q)) (λ x _. each x)

-- a register of x1 to x31 is a word of the registers
file_word : (q : Regs) (i : ℕ) → i ≢ 0 → i < 32 → get_or (file_of q) i 0 ≡ get_or (spelled q) i 0
file_word q zero ne h = absurd (ne refl)
file_word q (suc i) ne h =
    let less : i < 31 = omega arith in
    sym (get_or_append_left (drop 1 (file_of q)) (drop 32 (spelled q)) 0 i less)

-- the words of an instruction that writes such a register
file_is : (i : ℕ) → i ≢ 0 → file_words i ≡ 0 ∷ i ∷ []
file_is i ne = ap (λ (t : Bool). cond t (0 ∷ []) (0 ∷ i ∷ [])) (ne_eqb i 0 ne)

pub file_put : (S : List ℕ) (g i : ℕ) (q : Regs) → i ≢ 0 → i < 32 → set (set S (1024 * g + 0) q.pc) (1024 * g + i) (get_or (file_of q) i 0) ≡ with_words S g q (file_words i)
file_put S g i q ne h =
    ap (λ (v : ℕ). set (set S (1024 * g + 0) q.pc) (1024 * g + i) v) (file_word q i ne h)
    ∙ ap (λ (ks : List ℕ). with_words S g q ks) (sym (file_is i ne))

file_changes : (O : List ℕ) (g i : ℕ) (q : Regs) → i ≢ 0 → i < 32 → changed_words (regs_at O g) q (file_words i) ≡ changed_word (get_or O (1024 * g + 0) 0) q.pc + changed_word (get_or O (1024 * g + i) 0) (get_or (file_of q) i 0)
file_changes O g i q ne h =
    let row : i < 49 = omega arith in
    let said : changed_word (get_or (spelled (regs_at O g)) i 0) (get_or (spelled q) i 0) ≡ changed_word (get_or O (1024 * g + i) 0) (get_or (file_of q) i 0) = λ t. changed_word (said_at O g i row t) (sym (file_word q i ne h) t) in
    let all : changed_words (regs_at O g) q (file_words i) ≡ changed_words (regs_at O g) q (0 ∷ i ∷ []) = ap (λ (ks : List ℕ). changed_words (regs_at O g) q ks) (file_is i ne) in
    omega (arith, said, all)

-- a register after pc
pub file_step : (O O1 : List ℕ) (g i n m v x : ℕ) (q : Regs) → O1 ≡ O → v ≡ q.pc → x ≡ get_or (file_of q) i 0 → i ≢ 0 → i < 32 → m ≤ n + changed_word (get_or O (1024 * g + 0) 0) v → m + changed_word (get_or O1 (1024 * g + i) 0) x ≤ n + changed_words (regs_at O g) q (file_words i)
file_step O O1 g i n m v x q origin pc reg ne h few =
    let first : changed_word (get_or O (1024 * g + 0) 0) v ≡ changed_word (get_or O (1024 * g + 0) 0) q.pc = ap (λ (w : ℕ). changed_word (get_or O (1024 * g + 0) 0) w) pc in
    let second : changed_word (get_or O1 (1024 * g + i) 0) x ≡ changed_word (get_or O (1024 * g + i) 0) (get_or (file_of q) i 0) = λ t. changed_word (get_or (origin t) (1024 * g + i) 0) (reg t) in
    omega (arith, few, first, second, file_changes O g i q ne h)

-- a control register after these
pub csr_step : (O O1 : List ℕ) (g i w n m x : ℕ) (q : Regs) → O1 ≡ O → x ≡ get_or (spelled q) w 0 → w < 49 → m ≤ n + changed_words (regs_at O g) q (file_words i) → m + changed_word (get_or O1 (1024 * g + w) 0) x ≤ n + changed_words (regs_at O g) q (csr_words i w)
csr_step O O1 g i w n m x q origin value h few =
    let last : changed_word (get_or O1 (1024 * g + w) 0) x ≡ changed_word (get_or (spelled (regs_at O g)) w 0) (get_or (spelled q) w 0) = λ t. changed_word ((ap (λ (X : List ℕ). get_or X (1024 * g + w) 0) origin ∙ sym (said_at O g w h)) t) (value t) in
    omega (arith, few, last, by (i == 0))
  where
    by : (t : Bool) → changed_words (regs_at O g) q (cond t (0 ∷ w ∷ []) (0 ∷ i ∷ w ∷ [])) ≡ changed_words (regs_at O g) q (cond t (0 ∷ []) (0 ∷ i ∷ [])) + changed_word (get_or (spelled (regs_at O g)) w 0) (get_or (spelled q) w 0)
    by true = omega arith
    by false = omega arith

-- the places of these words rise
pub file_rises : (i : ℕ) → i < 32 → Rising 0 (file_words i)
file_rises i h = by (i == 0) refl
  where
    by : (t : Bool) → (i == 0) ≡ t → Rising 0 (cond t (0 ∷ []) (0 ∷ i ∷ []))
    by true e = (omega arith, omega arith, tt)
    by false e = let ne : i ≢ 0 = eqb-false i 0 e in (omega arith, omega arith, (omega arith, omega arith, tt))

pub csr_rises : (i w : ℕ) → i < 32 → 32 ≤ w → w < 49 → Rising 0 (csr_words i w)
csr_rises i w h k l = by (i == 0) refl
  where
    by : (t : Bool) → (i == 0) ≡ t → Rising 0 (cond t (0 ∷ w ∷ []) (0 ∷ i ∷ w ∷ []))
    by true e = (omega arith, omega arith, (omega arith, omega arith, tt))
    by false e =
        let ne : i ≢ 0 = eqb-false i 0 e in
        (omega arith, omega arith, (omega arith, omega arith, (omega arith, omega arith, tt)))

pub trap_to_m_rises : Rising 0 trap_to_m_words
trap_to_m_rises =
    (omega arith, omega arith, (omega arith, omega arith, (omega arith, omega arith, (omega arith, omega arith, (omega arith, omega arith, (omega arith, omega arith, tt))))))

pub trap_to_s_rises : Rising 0 trap_to_s_words
trap_to_s_rises =
    (omega arith, omega arith, (omega arith, omega arith, (omega arith, omega arith, (omega arith, omega arith, (omega arith, omega arith, (omega arith, omega arith, tt))))))

pub return_rises : Rising 0 return_words
return_rises = (omega arith, omega arith, (omega arith, omega arith, (omega arith, omega arith, tt)))

-- a word that is named twice
twice : (t s : Bool) → (t || s) ≡ false → (t || (t || s)) ≡ false
twice true s e = e
twice false s e = e

twice_around : (t s : Bool) → (t || (s || false)) ≡ false → (t || (s || (t || false))) ≡ false
twice_around true s e = e
twice_around false s e = e

-- and no other words are touched
pub file_named : (i k : ℕ) → has k (file_words i) ≡ false → has k (0 ∷ i ∷ []) ≡ false
file_named i k = by (i == 0) refl
  where
    by : (t : Bool) → (i == 0) ≡ t → has k (cond t (0 ∷ []) (0 ∷ i ∷ [])) ≡ false → has k (0 ∷ i ∷ []) ≡ false
    by true z none = subst (λ (j : ℕ). has k (0 ∷ j ∷ []) ≡ false) (sym (eqb-true i 0 z)) (twice (k == 0) false none)
    by false z none = none

pub bare_named : (i w k : ℕ) → w ≡ 0 → has k (file_words i) ≡ false → has k (0 ∷ i ∷ w ∷ []) ≡ false
bare_named i w k z none =
    subst (λ (v : ℕ). has k (0 ∷ i ∷ v ∷ []) ≡ false) (sym z) (twice_around (k == 0) (k == i) (file_named i k none))

pub csr_named : (i w k : ℕ) → has k (csr_words i w) ≡ false → has k (0 ∷ i ∷ w ∷ []) ≡ false
csr_named i w k = by (i == 0) refl
  where
    by : (t : Bool) → (i == 0) ≡ t → has k (cond t (0 ∷ w ∷ []) (0 ∷ i ∷ w ∷ [])) ≡ false → has k (0 ∷ i ∷ w ∷ []) ≡ false
    by true z none = subst (λ (j : ℕ). has k (0 ∷ j ∷ w ∷ []) ≡ false) (sym (eqb-true i 0 z)) (twice (k == 0) ((k == w) || false) none)
    by false z none = none

-- what is told of the same touched words
pub told_of : (s t : Touched) (r q : Regs) → s ≡ t → Touches s r q → Touches t r q
told_of s t r q e h = subst (λ (u : Touched). Touches u r q) e h
