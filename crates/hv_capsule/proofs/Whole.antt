-- The text of a parked machine as its lines, and that a text is that of one machine alone.
use Rattle.std.proofs.Common.{◌≡◌, ◌≢◌, ℕ, zero, suc, ◌+◌, ◌-◌, ◌*◌, ◌<◌, ◌≤◌, List, [], ◌∷◌, ◌++◌, length, take, drop, Bool, true, false, ◌==◌, refl, sym, ap, subst, ◌∙◌, append_assoc, arith, codes, decimal}
use Rattle.std.specs.List.{AllByRecursion}
use Rattle.std.proofs.lemmas.Bool.{and_parts, eqb-true, eq-eqb}
use Rattle.std.proofs.lemmas.List.{append-nil, length-append, length-drop, length-take-le, take_all, drop_at}
use Rattle.std.proofs.Math.Seq.{take-add}
use Rattle.hv_word.specs.Storage.{page_count}
use Rattle.hv_cpu.specs.Regs.{Regs, spelled}
use Rattle.hv_capsule.specs.Parked.{IsParked, Parked, regs_of_words}
use Rattle.hv_capsule.specs.Lines.{AreNext, AreRegs, EndsAt, EndsInPages, Holds, IsMachine, IsNext, IsSize, IsWord, Stands, are_zero, end_line, filled_lines, filled_of, header_line, least_behind, line_total, opened, regs_line, size_line}
use Rattle.hv_capsule.specs.Text.{capsule_text, machine_text, page_words, pages_text, words_digits}
use Rattle.hv_capsule.proofs.Written.{spelled_words}
use Rattle.hv_capsule.proofs.Filled.{at_some, at_zero, least_more, next_more, text_of_pages}
use Rattle.hv_capsule.proofs.Same.{end_has_none, one_opening, one_pages, size_small}

-- ---- the text as its lines

abbrev title : List ℕ
title = codes "machine 1\npages "

abbrev label : List ℕ
label = codes "\nregs "

opened_flat : (n : ℕ) (ws R : List ℕ)
    → opened n ws R ≡ title ++ (decimal n ++ (label ++ (words_digits ws ++ (codes "\n" ++ R))))
opened_flat n ws R =
    ap (λ (z : List ℕ). title ++ z)
    (append_assoc (decimal n) (codes "\n") (regs_line ws ++ R)
    ∙ ap (λ (z : List ℕ). decimal n ++ (label ++ z)) (append_assoc (words_digits ws) (codes "\n") R))

flat : (a b c d e f g r : List ℕ) → (a ++ b ++ c ++ d ++ e ++ f ++ g) ++ r ≡ a ++ (b ++ (c ++ (d ++ (e ++ (f ++ (g ++ r))))))
flat a b c d e f g r =
    append_assoc (a ++ b ++ c ++ d ++ e ++ f) g r
    ∙ append_assoc (a ++ b ++ c ++ d ++ e) f (g ++ r)
    ∙ append_assoc (a ++ b ++ c ++ d) e (f ++ (g ++ r))
    ∙ append_assoc (a ++ b ++ c) d (e ++ (f ++ (g ++ r)))
    ∙ append_assoc (a ++ b) c (d ++ (e ++ (f ++ (g ++ r))))
    ∙ append_assoc a b (c ++ (d ++ (e ++ (f ++ (g ++ r)))))

pub text_is : (ws S rest : List ℕ)
    → machine_text ws S ++ rest ≡ opened (page_count S) ws (filled_lines (filled_of S (page_count S)) ++ (end_line ++ rest))
unfolding machine_text
text_is ws S rest =
    flat title (decimal (page_count S)) label (words_digits ws) (codes "\n") (pages_text S (page_count S)) end_line rest
    ∙ sym (opened_flat (page_count S) ws (pages_text S (page_count S) ++ (end_line ++ rest)))
    ∙ ap (λ (z : List ℕ). opened (page_count S) ws (z ++ (end_line ++ rest))) (text_of_pages S (page_count S))

-- ---- the pages of a machine that aren't all zero

all_take : (n : ℕ) (xs : List ℕ) → AllByRecursion IsWord xs → AllByRecursion IsWord (take n xs)
all_take zero xs all = tt
all_take (suc n) [] all = tt
all_take (suc n) (x ∷ xs) all = (all.0, all_take n xs all.1)

all_drop : (n : ℕ) (xs : List ℕ) → AllByRecursion IsWord xs → AllByRecursion IsWord (drop n xs)
all_drop zero xs all = all
all_drop (suc n) [] all = tt
all_drop (suc n) (x ∷ xs) all = all_drop n xs all.1

page_size : (S : List ℕ) (n k : ℕ) → length S ≡ 1024 * n → k < n → length (page_words S k) ≡ 1024
page_size S n k whole lt =
    length-take-le 1024 (drop (1024 * k) S) (omega (arith, length-drop (1024 * k) S, whole, lt))

next_at : (S : List ℕ) (pages n : ℕ) (b : Bool) → length S ≡ 1024 * pages → AllByRecursion IsWord S → n < pages
    → AreNext pages 0 (filled_of S n) → least_behind 0 (filled_of S n) ≤ n → are_zero (page_words S n) ≡ b
    → AreNext pages 0 (filled_of S (suc n)) × (least_behind 0 (filled_of S (suc n)) ≤ suc n)
next_at S pages n true whole words lt next le e =
    let same : filled_of S (suc n) ≡ filled_of S n =
    ap (λ (xs : List (ℕ × List ℕ)). filled_of S n ++ xs) (at_zero S n e) ∙ append-nil (filled_of S n) in
    (subst (AreNext pages 0) (sym same) next, omega (arith, ap (least_behind 0) same, le))
next_at S pages n false whole words lt next le e =
    let same : filled_of S (suc n) ≡ filled_of S n ++ (n, page_words S n) ∷ [] =
    ap (λ (xs : List (ℕ × List ℕ)). filled_of S n ++ xs) (at_some S n e) in
    let is : IsNext pages (least_behind 0 (filled_of S n)) n (page_words S n) = record {
      from = le;
      inside = lt;
      size = page_size S pages n whole lt;
      each = all_take 1024 (drop (1024 * n) S) (all_drop (1024 * n) S words);
      some = e;
    } in (
      subst (AreNext pages 0) (sym same) (next_more pages 0 (filled_of S n) (n, page_words S n) next is),
      (let last : least_behind 0 (filled_of S (suc n)) ≡ n + 1 = ap (least_behind 0) same ∙ least_more 0 (filled_of S n) (n, page_words S n) in omega (arith, last)),
    )

pages_next : (S : List ℕ) (pages n : ℕ) → length S ≡ 1024 * pages → AllByRecursion IsWord S → n ≤ pages
    → AreNext pages 0 (filled_of S n) × (least_behind 0 (filled_of S n) ≤ n)
pages_next S pages zero whole words le = (tt, omega arith)
pages_next S pages (suc n) whole words le =
    let before = pages_next S pages n whole words (omega (arith, le)) in
    next_at S pages n (are_zero (page_words S n)) whole words (omega (arith, le)) before.0 before.1 refl

machine_next : (m : Parked) → IsMachine m → AreNext (page_count m.storage) 0 (filled_of m.storage (page_count m.storage))
machine_next m is = (pages_next m.storage (page_count m.storage) (page_count m.storage) is.whole is.words (omega arith)).0

machine_regs : (m : Parked) → IsMachine m → AreRegs (page_count m.storage) (spelled m.regs)
machine_regs m is = record { size = refl; each = is.spelled; fits = is.parked.fits; next = is.parked.next }

-- ---- storages with the same such pages

both_zero : (xs ys : List ℕ) → length xs ≡ length ys → are_zero xs ≡ true → are_zero ys ≡ true → xs ≡ ys
both_zero [] [] len p q = refl
both_zero [] (y ∷ ys) len p q = absurd (omega (arith, len))
both_zero (x ∷ xs) [] len p q = absurd (omega (arith, len))
both_zero (x ∷ xs) (y ∷ ys) len p q =
    let a = and_parts (x == 0) (are_zero xs) p in
    let b = and_parts (y == 0) (are_zero ys) q in
    ap (λ (z : ℕ). z ∷ xs) (eqb-true x 0 a.0 ∙ sym (eqb-true y 0 b.0))
    ∙ ap (λ (zs : List ℕ). y ∷ zs) (both_zero xs ys (omega (arith, len)) a.1 b.1)

last_same : (xs ys : List (ℕ × List ℕ)) (a b : ℕ × List ℕ) → xs ++ a ∷ [] ≡ ys ++ b ∷ [] → (xs ≡ ys) × (a ≡ b)
last_same [] [] a b e = (refl, cc e)
last_same [] (y ∷ ys) a b e =
    absurd (omega (arith, ap length e, length-append ys (b ∷ [])))
last_same (x ∷ xs) [] a b e =
    absurd (omega (arith, ap length e, length-append xs (a ∷ [])))
last_same (x ∷ xs) (y ∷ ys) a b e =
    let head : x ≡ y = cc e in
    let rest : xs ++ a ∷ [] ≡ ys ++ b ∷ [] = cc e in
    let more = last_same xs ys a b rest in
    (ap (λ (z : ℕ × List ℕ). z ∷ xs) head ∙ ap (λ (zs : List (ℕ × List ℕ)). y ∷ zs) more.0, more.1)

abbrev SameTo : ℕ → List ℕ → List ℕ → Type 0
SameTo n S T = (k : ℕ) → k < n → page_words S k ≡ page_words T k

one_more_at : (S T : List ℕ) (n k : ℕ) (b : Bool) → (k == n) ≡ b → SameTo n S T → page_words S n ≡ page_words T n → k < suc n
    → page_words S k ≡ page_words T k
one_more_at S T n k true same h e lt = subst (λ (j : ℕ). page_words S j ≡ page_words T j) (sym (eqb-true k n same)) e
one_more_at S T n k false same h e lt =
    let other : k ≢ n = λ is. let yes = eq-eqb k n is in cc (yes, same) in h k (omega (arith, lt, other))

one_more : (S T : List ℕ) (n : ℕ) → SameTo n S T → page_words S n ≡ page_words T n → SameTo (suc n) S T
one_more S T n h e k lt = one_more_at S T n k (k == n) refl h e lt

same_at : (S T : List ℕ) (pages n : ℕ) (b c : Bool) → length S ≡ 1024 * pages → length T ≡ 1024 * pages → n < pages
    → least_behind 0 (filled_of S n) ≤ n → least_behind 0 (filled_of T n) ≤ n
    → are_zero (page_words S n) ≡ b → are_zero (page_words T n) ≡ c → filled_of S (suc n) ≡ filled_of T (suc n)
    → (filled_of S n ≡ filled_of T n) × (page_words S n ≡ page_words T n)
same_at S T pages n true true ws wt lt ls lt' p q e =
    let s : filled_of S (suc n) ≡ filled_of S n =
    ap (λ (xs : List (ℕ × List ℕ)). filled_of S n ++ xs) (at_zero S n p) ∙ append-nil (filled_of S n) in
    let t : filled_of T (suc n) ≡ filled_of T n =
    ap (λ (xs : List (ℕ × List ℕ)). filled_of T n ++ xs) (at_zero T n q) ∙ append-nil (filled_of T n) in (
      sym s ∙ e ∙ t,
      both_zero (page_words S n) (page_words T n) (page_size S pages n ws lt ∙ sym (page_size T pages n wt lt)) p q,
    )
same_at S T pages n true false ws wt lt ls lt' p q e =
    let s : filled_of S (suc n) ≡ filled_of S n =
    ap (λ (xs : List (ℕ × List ℕ)). filled_of S n ++ xs) (at_zero S n p) ∙ append-nil (filled_of S n) in
    let t : filled_of T (suc n) ≡ filled_of T n ++ (n, page_words T n) ∷ [] =
    ap (λ (xs : List (ℕ × List ℕ)). filled_of T n ++ xs) (at_some T n q) in
    let over : least_behind 0 (filled_of S n) ≡ n + 1 =
    ap (least_behind 0) (sym s ∙ e ∙ t) ∙ least_more 0 (filled_of T n) (n, page_words T n) in
    absurd (omega (arith, over, ls))
same_at S T pages n false true ws wt lt ls lt' p q e =
    let s : filled_of S (suc n) ≡ filled_of S n ++ (n, page_words S n) ∷ [] =
    ap (λ (xs : List (ℕ × List ℕ)). filled_of S n ++ xs) (at_some S n p) in
    let t : filled_of T (suc n) ≡ filled_of T n =
    ap (λ (xs : List (ℕ × List ℕ)). filled_of T n ++ xs) (at_zero T n q) ∙ append-nil (filled_of T n) in
    let over : least_behind 0 (filled_of T n) ≡ n + 1 =
    ap (least_behind 0) (sym t ∙ sym e ∙ s) ∙ least_more 0 (filled_of S n) (n, page_words S n) in
    absurd (omega (arith, over, lt'))
same_at S T pages n false false ws wt lt ls lt' p q e =
    let s : filled_of S (suc n) ≡ filled_of S n ++ (n, page_words S n) ∷ [] =
    ap (λ (xs : List (ℕ × List ℕ)). filled_of S n ++ xs) (at_some S n p) in
    let t : filled_of T (suc n) ≡ filled_of T n ++ (n, page_words T n) ∷ [] =
    ap (λ (xs : List (ℕ × List ℕ)). filled_of T n ++ xs) (at_some T n q) in
    let both = last_same (filled_of S n) (filled_of T n) (n, page_words S n) (n, page_words T n) (sym s ∙ e ∙ t) in
    (both.0, ap (λ (x : ℕ × List ℕ). x.1) both.1)

-- the least number behind those of so many pages
least_at : (S : List ℕ) (n : ℕ) (b : Bool) → are_zero (page_words S n) ≡ b → least_behind 0 (filled_of S n) ≤ n
    → least_behind 0 (filled_of S (suc n)) ≤ suc n
least_at S n true e le =
    let s : filled_of S (suc n) ≡ filled_of S n =
    ap (λ (xs : List (ℕ × List ℕ)). filled_of S n ++ xs) (at_zero S n e) ∙ append-nil (filled_of S n) in
    let same : least_behind 0 (filled_of S (suc n)) ≡ least_behind 0 (filled_of S n) = ap (least_behind 0) s in
    omega (arith, le, same)
least_at S n false e le =
    let s : filled_of S (suc n) ≡ filled_of S n ++ (n, page_words S n) ∷ [] =
    ap (λ (xs : List (ℕ × List ℕ)). filled_of S n ++ xs) (at_some S n e) in
    let same : least_behind 0 (filled_of S (suc n)) ≡ n + 1 =
    ap (least_behind 0) s ∙ least_more 0 (filled_of S n) (n, page_words S n) in
    omega (arith, same)

least_of : (S : List ℕ) (n : ℕ) → least_behind 0 (filled_of S n) ≤ n
least_of S zero = omega arith
least_of S (suc n) = least_at S n (are_zero (page_words S n)) refl (least_of S n)

same_to : (S T : List ℕ) (pages n : ℕ) → length S ≡ 1024 * pages → length T ≡ 1024 * pages → n ≤ pages
    → filled_of S n ≡ filled_of T n → SameTo n S T
same_to S T pages zero ws wt le e = λ k lt. absurd (omega (arith, lt))
same_to S T pages (suc n) ws wt le e =
    let parts = same_at S T pages n (are_zero (page_words S n)) (are_zero (page_words T n)) ws wt (omega (arith, le))
    (least_of S n) (least_of T n) refl refl e in
    one_more S T n (same_to S T pages n ws wt (omega (arith, le)) parts.0) parts.1

front_same : (S T : List ℕ) (n : ℕ) → SameTo n S T → take (1024 * n) S ≡ take (1024 * n) T
front_same S T zero h = refl
front_same S T (suc n) h =
    let step : (X : List ℕ) → take (1024 * suc n) X ≡ take (1024 * n) X ++ page_words X n =
    λ X. ap (λ (j : ℕ). take j X) (let e : 1024 * suc n ≡ 1024 * n + 1024 = omega arith in e) ∙ take-add (1024 * n) 1024 X in
    step S ∙ ap (λ (z : List ℕ). z ++ page_words S n) (front_same S T n (λ k lt. h k (omega (arith, lt))))
    ∙ ap (λ (z : List ℕ). take (1024 * n) T ++ z) (h n (omega arith)) ∙ sym (step T)

same_storage : (S T : List ℕ) (n : ℕ) → length S ≡ 1024 * n → length T ≡ 1024 * n → filled_of S n ≡ filled_of T n → S ≡ T
same_storage S T n ws wt e =
    sym (take_all (1024 * n) S (omega (arith, ws))) ∙ front_same S T n (same_to S T n n ws wt (omega arith) e)
    ∙ take_all (1024 * n) T (omega (arith, wt))

-- ---- the machine of a text

abbrev pub machine_of : List ℕ → List ℕ → Parked
machine_of ws S = record { regs = regs_of_words ws; storage = S }

same_parts : (r s : Regs) (S T : List ℕ) → r ≡ s → S ≡ T → (let m : Parked = record { regs = r; storage = S } in m) ≡ record { regs = s; storage = T }
same_parts r s S T e f = ap (λ (x : Regs). (let m : Parked = record { regs = x; storage = S } in m)) e ∙ ap (λ (x : List ℕ). (let m : Parked = record { regs = s; storage = x } in m)) f

-- what stands at the front of a text, whose first lines and pages were read
pub stands : (text ws S more rest : List ℕ) (n lines : ℕ) → text ≡ opened n ws more → n ≡ page_count S → length ws ≡ 50
    → Holds S more lines rest → Stands text (machine_of ws S) lines rest
stands text ws S more rest n lines cut count size h = record {
  parts =
      cut ∙ ap (λ (k : ℕ). opened k ws more) count ∙ ap (opened (page_count S) ws) h.parts ∙ sym (text_is ws S rest)
      ∙ ap (λ (vs : List ℕ). machine_text vs S ++ rest) (sym (spelled_words ws size));
  lines = h.lines;
}

-- what was read is a parked machine
pub is_parked : (ws S more rest : List ℕ) (n lines : ℕ) → n ≡ page_count S → AreRegs n ws → Holds S more lines rest
    → IsParked (machine_of ws S)
is_parked ws S more rest n lines count regs h =
    record { fits = regs.fits; next = λ some. let below = regs.next some in omega (arith, below, count) }

-- what is behind is the end of the text
pub behind_is : (text ws S more rest : List ℕ) (n lines : ℕ) → text ≡ opened n ws more → Holds S more lines rest
    → (length rest ≤ length text) × (drop (length text - length rest) text ≡ rest)
behind_is text ws S more rest n lines cut h =
    let front : List ℕ = header_line ++ (size_line n ++ (regs_line ws ++ (filled_lines (filled_of S (page_count S)) ++ end_line))) in
    let parts : text ≡ front ++ rest =
    cut ∙ ap (opened n ws) h.parts ∙ ap (λ (z : List ℕ). header_line ++ z)
    (ap (λ (z : List ℕ). size_line n ++ z)
    (ap (λ (z : List ℕ). regs_line ws ++ z) (sym (append_assoc (filled_lines (filled_of S (page_count S))) end_line rest))
    ∙ sym (append_assoc (regs_line ws) (filled_lines (filled_of S (page_count S)) ++ end_line) rest))
    ∙ sym (append_assoc (size_line n) (regs_line ws ++ (filled_lines (filled_of S (page_count S)) ++ end_line)) rest)) in
    let size : length text ≡ length front + length rest = ap length parts ∙ length-append front rest in (
      omega (arith, size),
      ap (λ (z : List ℕ). drop (length text - length rest) z) parts
          ∙ drop_at front rest (length text - length rest) (omega (arith, size)),
    )

pub ends : (text ws S more rest : List ℕ) (n lines : ℕ) → text ≡ opened n ws more → n ≡ page_count S → IsSize n → AreRegs n ws
    → Holds S more lines rest → EndsAt text lines rest
ends text ws S more rest n lines cut count size regs h =
    let pages : EndsInPages n more lines rest =
    (filled_of S (page_count S), subst (λ (k : ℕ). AreNext k 0 (filled_of S (page_count S))) (sym count) h.next, h.parts, h.lines) in
    (n, ws, more, size, regs, cut, pages)

-- the lines of a machine's text
pub machine_ends : (m : Parked) (text behind : List ℕ) → IsMachine m → text ≡ capsule_text m ++ behind
    → EndsAt text (line_total m) behind
machine_ends m text behind is e =
    let more : List ℕ = filled_lines (filled_of m.storage (page_count m.storage)) ++ (end_line ++ behind) in
    let pages : EndsInPages (page_count m.storage) more (line_total m) behind =
    (filled_of m.storage (page_count m.storage), machine_next m is, refl, refl) in
    (page_count m.storage, spelled m.regs, more, is.pages, machine_regs m is, e ∙ text_is (spelled m.regs) m.storage behind, pages)

-- the machine that is read is the one whose text stands there
pub one_machine : (m : Parked) (text ws S more rest behind : List ℕ) (n lines : ℕ) → IsMachine m → text ≡ capsule_text m ++ behind
    → text ≡ opened n ws more → n ≡ page_count S → IsSize n → AreRegs n ws → Holds S more lines rest
    → machine_of ws S ≡ m
one_machine m text ws S more rest behind n lines is e cut count size regs h =
    let T : List ℕ = m.storage in
    let k : ℕ = page_count T in
    let tail : List ℕ = filled_lines (filled_of T k) ++ (end_line ++ behind) in
    let first = one_opening n k ws (spelled m.regs) more tail size is.pages regs (machine_regs m is)
    (sym cut ∙ e ∙ text_is (spelled m.regs) T behind) in
    let counts : page_count S ≡ k = sym count ∙ first.0 in
    let next : AreNext k 0 (filled_of S k) =
    subst (λ (j : ℕ). AreNext j 0 (filled_of S j)) counts h.next in
    let pages = one_pages k 0 (filled_of S k) (filled_of T k) (end_line ++ rest) (end_line ++ behind) (size_small k is.pages)
    next (machine_next m is) (end_has_none k (least_behind 0 (filled_of S k)) rest)
    (end_has_none k (least_behind 0 (filled_of T k)) behind)
    (ap (λ (j : ℕ). filled_lines (filled_of S j) ++ (end_line ++ rest)) (sym counts) ∙ sym h.parts ∙ first.2) in
    same_parts (regs_of_words ws) m.regs S T (ap regs_of_words first.1)
    (same_storage S T k (h.whole ∙ ap (λ (j : ℕ). 1024 * j) counts) is.whole pages.0)
