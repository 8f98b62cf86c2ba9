-- Pages written one after another into different bare pages.
use Rattle.std.proofs.Common.{◌≡◌, ◌≢◌, ℕ, ◌+◌, ◌*◌, ◌<◌, ◌≤◌, ◌⊎◌, inl, inr, List, length, take, drop, get_or, set, get_or-set_same, get_or-set_other, length-set, Some, None, false, refl, ap, ◌∙◌, sym, subst, arith}
use Rattle.std.proofs.Math.Seq.{sets, length-sets}
use Rattle.std.proofs.lemmas.Bool.{cases_order}
use Rattle.std.proofs.lemmas.List.{get_or-drop, get_or-take, length-take, length-drop}
use Rattle.std.specs.Option.{is_none}
use Rattle.hv_word.specs.Storage.{word_at}
use Rattle.hv_block.proofs.Words.{sets_at, sets_outside}
use Rattle.hv_store.specs.declared.access.Slot.{Slot}
use Rattle.hv_apart.specs.Upgrade.{written_in}
use Rattle.hv_move.specs.Placed.{AreWritten, first_shut}
use Rattle.hv_move.proofs.Firsts.{find_first, find_none}

pub none_written : (S hosts T : List ℕ) → AreWritten S S hosts T 0
none_written S hosts T = record { len = refl; words = λ i w low h. absurd (omega arith); stays = λ g w h other. refl }

side : (x g w n : ℕ) → x ≢ g → w < 1024 → n ≡ 1024 → (1024 * x + w < 1024 * g) ⊎ (1024 * g + n ≤ 1024 * x + w)
side x g w n ne h e = by (cases_order x g)
  where
    by : (x ≡ g) ⊎ ((x < g) ⊎ (g < x)) → (1024 * x + w < 1024 * g) ⊎ (1024 * g + n ≤ 1024 * x + w)
    by (inl same) = absurd (ne same)
    by (inr (inl lt)) = inl (omega arith)
    by (inr (inr gt)) = inr (omega arith)

module _ (S now next hosts T : List ℕ) (n host : ℕ) (was : AreWritten S now hosts T n) (at : get_or hosts n 0 ≡ host) (vs : List ℕ) (long : length vs ≡ 1024) (same : (w : ℕ) → w < 1024 → get_or vs w 0 ≡ word_at T n w) (is : next ≡ sets now (1024 * host) vs) (differ : (i : ℕ) → i < n → get_or hosts i 0 ≢ host) (inside : 1024 * host + 1024 ≤ length S) where
  word_here : (w : ℕ) → w < 1024 → word_at next host w ≡ word_at T n w
  word_here w h =
      ap (λ xs. get_or xs (1024 * host + w) 0) is
      ∙ sets_at vs now (1024 * host) w (1024 * host + w) (omega (arith, was.len)) (omega arith) refl
      ∙ same w h

  word_there : (g w : ℕ) → w < 1024 → g ≢ host → word_at next g w ≡ word_at now g w
  word_there g w h ne =
      ap (λ xs. get_or xs (1024 * g + w) 0) is ∙ sets_outside vs now (1024 * host) (1024 * g + w) (side g host w (length vs) ne h long)

  pub more_written : AreWritten S next hosts T (n + 1)
  more_written = record {
    len = ap length is ∙ length-sets now (1024 * host) vs ∙ was.len;
    words = λ i w low h. words i w low h (cases_order i n);
    stays = λ g w h other.
        word_there g w h (λ e. other n (omega arith) (e ∙ sym at)) ∙ was.stays g w h (λ i low. other i (omega arith));
  }
    where
      words : (i w : ℕ) → i < n + 1 → w < 1024 → (i ≡ n) ⊎ ((i < n) ⊎ (n < i)) → word_at next (get_or hosts i 0) w ≡ word_at T i w
      words i w low h (inl e) =
          ap (λ k. word_at next k w) (ap (λ k. get_or hosts k 0) e ∙ at) ∙ word_here w h ∙ ap (λ k. word_at T k w) (sym e)
      words i w low h (inr (inl lt)) = word_there (get_or hosts i 0) w h (differ i lt) ∙ was.words i w lt h
      words i w low h (inr (inr gt)) = absurd (omega arith)

-- the bare pages that were found so far
pub record AreFound (P : ℕ) (F : List Slot) (hosts : List ℕ) (n : ℕ) : Type 0 where
  pub len : length hosts ≡ 16384
  pub found : (i : ℕ) → i < n → written_in F i ≡ Some (get_or hosts i 0)
  pub within : (i : ℕ) → i < n → get_or hosts i 0 < P

pub found_more : (P : ℕ) (F : List Slot) (hosts : List ℕ) (n host : ℕ) → n < 16384 → AreFound P F hosts n → written_in F n ≡ Some host → host < P → AreFound P F (set hosts n host) (n + 1)
found_more P F hosts n host room was here below = record {
  len = length-set hosts n host ∙ was.len;
  found = λ i low. found i low (cases_order i n);
  within = λ i low. within i low (cases_order i n);
}
  where
    at : get_or (set hosts n host) n 0 ≡ host
    at = get_or-set_same hosts n host 0 (omega (arith, was.len))

    other : (i : ℕ) → i < n → get_or (set hosts n host) i 0 ≡ get_or hosts i 0
    other i lt = get_or-set_other hosts n i host 0 (omega arith)

    found : (i : ℕ) → i < n + 1 → (i ≡ n) ⊎ ((i < n) ⊎ (n < i)) → written_in F i ≡ Some (get_or (set hosts n host) i 0)
    found i low (inl e) = ap (written_in F) e ∙ here ∙ ap Some (sym at ∙ ap (λ k. get_or (set hosts n host) k 0) (sym e))
    found i low (inr (inl lt)) = was.found i lt ∙ ap Some (sym (other i lt))
    found i low (inr (inr gt)) = absurd (omega arith)

    within : (i : ℕ) → i < n + 1 → (i ≡ n) ⊎ ((i < n) ⊎ (n < i)) → get_or (set hosts n host) i 0 < P
    within i low (inl e) = subst (λ k. k < P) (sym (ap (λ k. get_or (set hosts n host) k 0) e ∙ at)) below
    within i low (inr (inl lt)) = subst (λ k. k < P) (sym (other i lt)) (was.within i lt)
    within i low (inr (inr gt)) = absurd (omega arith)

pub shut_here : (F : List Slot) (k : ℕ) → k < length F → ((m : ℕ) → m < k → is_none (written_in F m) ≡ false) → written_in F k ≡ None → first_shut F ≡ Some k
shut_here F k lt before here =
    let e : 0 + k ≡ k = omega arith in
    find_first (λ i. is_none (written_in F i)) 0 (length F) k lt (λ m low. ap (λ j. is_none (written_in F j)) (let z : 0 + m ≡ m = omega arith in z) ∙ before m low) (ap (λ j. is_none (written_in F j)) e ∙ ap is_none here) ∙ ap Some e

pub shut_nowhere : (F : List Slot) → ((m : ℕ) → m < length F → is_none (written_in F m) ≡ false) → first_shut F ≡ None
shut_nowhere F all =
    find_none (λ i. is_none (written_in F i)) 0 (length F) (λ m low. ap (λ j. is_none (written_in F j)) (let z : 0 + m ≡ m = omega arith in z) ∙ all m low)

-- the words of a page in a row of a copy
pub row_words : (T vs : List ℕ) (n w : ℕ) → vs ≡ take 1024 (drop (1024 * n) T) → w < 1024 → get_or vs w 0 ≡ word_at T n w
row_words T vs n w is h =
    ap (λ (xs : List ℕ). get_or xs w 0) is ∙ get_or-take 1024 (drop (1024 * n) T) w 0 h ∙ get_or-drop (1024 * n) T w 0

pub row_long : (T vs : List ℕ) (n : ℕ) → vs ≡ take 1024 (drop (1024 * n) T) → 1024 * n + 1024 ≤ length T → length vs ≡ 1024
row_long T vs n is h = omega (arith, h, ap length is, length-take 1024 (drop (1024 * n) T), length-drop (1024 * n) T)
