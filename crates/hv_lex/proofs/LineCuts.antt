-- Cutting a text at its first line feed.
use Rattle.std.proofs.Common.{◌≡◌, ◌≢◌, ℕ, zero, suc, ◌<◌, cond, List, [], ◌∷◌, length, get_or, take, drop, ◌≤◌, refl, sym, ap, ◌∙◌, arith, eq-eqb, length-drop, drop-cons}
use Rattle.std.proofs.Math.Seq.{take-length}
use Rattle.std.proofs.lemmas.List.{nil_from_length}
use Rattle.std.proofs.lemmas.Bool.{ne_eqb}
use Rattle.std.proofs.Common.{◌++◌, ◌-◌, map, append_assoc}
use Rattle.std.proofs.Math.Seq.{take-suc}
use Rattle.std.proofs.lemmas.List.{drop_all, get_or-take, length-take-le}
use Rattle.hv_lex.specs.Lines.{cut_of, lines_of, returned, onto}

-- a line feed ends the first line
pub line_cut : (s : List ℕ) (n : ℕ) → n < length s → ((k : ℕ) → k < n → get_or s k 0 ≢ 10) → get_or s n 0 ≡ 10 → cut_of s ≡ take n s ∷ cut_of (drop (suc n) s)
unfolding cut_of
line_cut [] n lt before here = absurd (omega arith)
line_cut (c ∷ cs) zero lt before here = ap (λ b. cond b ([] ∷ cut_of cs) (onto c (cut_of cs))) (eq-eqb c 10 here)
line_cut (c ∷ cs) (suc n) lt before here =
    ap (λ b. cond b ([] ∷ cut_of cs) (onto c (cut_of cs))) (ne_eqb c 10 (before zero (omega arith)))
    ∙ ap (onto c) (line_cut cs n (omega arith) (λ k h. before (suc k) (omega arith)) here)

-- no line feed ends it
pub line_last : (s : List ℕ) → 0 < length s → ((k : ℕ) → k < length s → get_or s k 0 ≢ 10) → cut_of s ≡ s ∷ []
unfolding cut_of
line_last [] some before = absurd (omega arith)
line_last (c ∷ []) some before = ap (λ b. cond b ([] ∷ cut_of []) (onto c (cut_of []))) (ne_eqb c 10 (before zero (omega arith)))
line_last (c ∷ d ∷ cs) some before =
    ap (λ b. cond b ([] ∷ cut_of (d ∷ cs)) (onto c (cut_of (d ∷ cs)))) (ne_eqb c 10 (before zero (omega arith)))
    ∙ ap (onto c) (line_last (d ∷ cs) (omega arith) (λ k h. before (suc k) (omega arith)))

-- The first line is what stands before place n, if no line feed stands before it: the line feed there, of which r is
-- behind, ends it, or the end of the text.
pub line_at : (s l t r : List ℕ) (b n : ℕ) → ((k : ℕ) → k < n → get_or s k 0 ≢ 10) → (n < length s → get_or s n 0 ≡ 10) → l ≡ take n s → t ≡ drop n s → t ≡ b ∷ r → cut_of s ≡ l ∷ cut_of r
line_at s l t r b n before here front back more =
    let e : drop n s ≡ b ∷ r = sym back ∙ more in
    let lt : n < length s = omega (arith, length-drop n s, ap length e) in
    let d : r ≡ drop (suc n) s = let f = drop-cons s n 0 lt in cc in
    rw (front, d) (line_cut s n lt before (here lt))

pub line_end : (s l t : List ℕ) (n : ℕ) → 0 < length s → n ≤ length s → ((k : ℕ) → k < n → get_or s k 0 ≢ 10) → l ≡ take n s → t ≡ drop n s → length t ≡ 0 → cut_of s ≡ l ∷ cut_of t
unfolding cut_of
line_end s l t n some inside before front back none =
    let e : n ≡ length s = omega (arith, length-drop n s, ap length back) in
    let f : l ≡ s = front ∙ rw e (take-length s) in
    rw (nil_from_length t none, f) (line_last s some (λ k h. before k (omega arith)))

pub line_first : (s l r k : List ℕ) → cut_of s ≡ l ∷ cut_of r → k ≡ returned l → lines_of s ≡ k ∷ lines_of r
unfolding lines_of
line_first s l r k cut is = ap (map returned) cut ∙ ap (λ k. k ∷ map returned (cut_of r)) (sym is)

returned_end : (s : List ℕ) (c : ℕ) → c ≡ 13 → returned (s ++ c ∷ []) ≡ s
unfolding returned
returned_end [] c e = ap (λ b. cond b [] (c ∷ [])) (eq-eqb c 13 e)
returned_end (d ∷ []) c e = ap (λ (t : List ℕ). d ∷ t) (returned_end [] c e)
returned_end (d ∷ f ∷ fs) c e = ap (λ (t : List ℕ). d ∷ t) (returned_end (f ∷ fs) c e)

returned_other : (s : List ℕ) (c : ℕ) → c ≢ 13 → returned (s ++ c ∷ []) ≡ s ++ c ∷ []
unfolding returned
returned_other [] c e = ap (λ b. cond b [] (c ∷ [])) (ne_eqb c 13 e)
returned_other (d ∷ []) c e = ap (λ (t : List ℕ). d ∷ t) (returned_other [] c e)
returned_other (d ∷ f ∷ fs) c e = ap (λ (t : List ℕ). d ∷ t) (returned_other (f ∷ fs) c e)

pub returned_is : (s l : List ℕ) (c : ℕ) → l ≡ s ++ c ∷ [] → c ≡ 13 → s ≡ returned l
returned_is s l c is e = sym (returned_end s c e) ∙ ap returned (sym is)

pub returned_not : (s l : List ℕ) (c : ℕ) → l ≡ s ++ c ∷ [] → c ≢ 13 → l ≡ returned l
returned_not s l c is e = is ∙ sym (returned_other s c e) ∙ ap returned (sym is)

pub returned_none : (l : List ℕ) → length l ≡ 0 → l ≡ returned l
unfolding returned
returned_none [] e = refl
returned_none (c ∷ cs) e = absurd (omega arith)

cut_whole : (l q : List ℕ) → ((k : ℕ) → k < length l → get_or l k 0 ≢ 10) → cut_of (l ++ 10 ∷ q) ≡ l ∷ cut_of q
unfolding cut_of
cut_whole [] q before = refl
cut_whole (c ∷ l) q before =
    ap (λ b. cond b ([] ∷ cut_of (l ++ 10 ∷ q)) (onto c (cut_of (l ++ 10 ∷ q)))) (ne_eqb c 10 (before zero (omega arith)))
    ∙ ap (onto c) (cut_whole l q (λ k h. before (suc k) (omega arith)))

-- what is behind a line feed at place n
pub rest_some : (s t r : List ℕ) (b n : ℕ) → t ≡ drop n s → t ≡ b ∷ r → r ≡ drop (length s - length r) s
rest_some s t r b n back more =
    let e : drop n s ≡ b ∷ r = sym back ∙ more in
    let lt : n < length s = omega (arith, length-drop n s, ap length e) in
    let d : r ≡ drop (suc n) s = let f = drop-cons s n 0 lt in cc in
    let k : length s - length r ≡ suc n = omega (arith, length-drop (suc n) s, ap length d) in
    d ∙ ap (λ k. drop k s) (sym k)

pub rest_none : (s t : List ℕ) → length t ≡ 0 → t ≡ drop (length s - length t) s
rest_none s t none = nil_from_length t none ∙ sym (drop_all (length s - length t) s (omega arith))

-- the text up to the line feed at place n is a line
pub front_some : (s l t r : List ℕ) (b n : ℕ) (q : List ℕ) → ((k : ℕ) → k < n → get_or s k 0 ≢ 10) → (n < length s → get_or s n 0 ≡ 10) → l ≡ take n s → t ≡ drop n s → t ≡ b ∷ r → cut_of (take (length s - length r) s ++ q) ≡ l ∷ cut_of q
front_some s l t r b n q before here front back more =
    let e : drop n s ≡ b ∷ r = sym back ∙ more in
    let lt : n < length s = omega (arith, length-drop n s, ap length e) in
    let d : r ≡ drop (suc n) s = let f = drop-cons s n 0 lt in cc in
    let k : length s - length r ≡ suc n = omega (arith, length-drop (suc n) s, ap length d) in
    let size : length l ≡ n = ap length front ∙ length-take-le n s (omega arith) in
    let cut : take (suc n) s ++ q ≡ l ++ 10 ∷ q =
    ap (λ x. x ++ q) (take-suc s n 0 lt) ∙ append_assoc (take n s) (get_or s n 0 ∷ []) q ∙ ap (λ (x : List ℕ). x ++ (get_or s n 0 ∷ q)) (sym front) ∙ ap (λ (c : ℕ). l ++ (c ∷ q)) (here lt)
    in
    ap (λ k. cut_of (take k s ++ q)) k ∙ ap cut_of cut
    ∙ cut_whole l q (λ i h. let i_lt : i < n = omega arith in let g : get_or l i 0 ≡ get_or s i 0 = ap (λ x. get_or x i 0) front ∙ get_or-take n s i 0 i_lt in λ z. before i i_lt (sym g ∙ z))

pub front_first : (s l k r q : List ℕ) → cut_of (take (length s - length r) s ++ q) ≡ l ∷ cut_of q → k ≡ returned l → lines_of (take (length s - length r) s ++ q) ≡ k ∷ lines_of q
unfolding lines_of
front_first s l k r q cut is = ap (map returned) cut ∙ ap (λ k. k ∷ map returned (cut_of q)) (sym is)
