-- Cutting tokens at their first comma, and the operands of a line one more at a time.
use Rattle.std.proofs.Common.{◌≡◌, ℕ, zero, suc, ◌<◌, ◌≤◌, nat_eq, true, false, cond, List, [], ◌∷◌, ◌++◌, length, get_or, take, drop, Option, Some, None, refl, sym, ap, ◌∙◌, arith, length-drop, drop-cons, eq-eqb}
use Rattle.std.specs.List.{onto_first}
use Rattle.std.specs.Option.{option_and_then}
use Rattle.std.proofs.Math.Seq.{take-length}
use Rattle.hv_lex.specs.declared.Token.{Token}
use Rattle.hv_asm.specs.Operands.{is_comma, groups_of, operand_of, operands_from, operands_of}
use Rattle.hv_asm.specs.declared.operands.Operand.{Operand}

group_cut : (s : List Token) (n : ℕ) → n < length s → ((k : ℕ) (d : Token) → k < n → is_comma (get_or s k d).kind ≡ false) → ((d : Token) → is_comma (get_or s n d).kind ≡ true) → groups_of s ≡ take n s ∷ groups_of (drop (suc n) s)
unfolding groups_of
group_cut [] n lt before here = absurd (omega arith)
group_cut (c ∷ cs) zero lt before here = ap (λ b. cond b ([] ∷ groups_of cs) (onto_first c (groups_of cs))) (here c)
group_cut (c ∷ cs) (suc n) lt before here =
    ap (λ b. cond b ([] ∷ groups_of cs) (onto_first c (groups_of cs))) (before zero c (omega arith))
    ∙ ap (onto_first c) (group_cut cs n (omega arith) (λ k d h. before (suc k) d (omega arith)) here)

group_last : (s : List Token) → ((k : ℕ) (d : Token) → k < length s → is_comma (get_or s k d).kind ≡ false) → groups_of s ≡ s ∷ []
unfolding groups_of
group_last [] before = refl
group_last (c ∷ cs) before =
    ap (λ b. cond b ([] ∷ groups_of cs) (onto_first c (groups_of cs))) (before zero c (omega arith))
    ∙ ap (onto_first c) (group_last cs (λ k d h. before (suc k) d (omega arith)))

pub group_at : (s l t r : List Token) (b : Token) (n : ℕ) → ((k : ℕ) (d : Token) → k < n → is_comma (get_or s k d).kind ≡ false) → ((d : Token) → n < length s → is_comma (get_or s n d).kind ≡ true) → l ≡ take n s → t ≡ drop n s → t ≡ b ∷ r → groups_of s ≡ l ∷ groups_of r
group_at s l t r b n before here front back more =
    let e : drop n s ≡ b ∷ r = sym back ∙ more in
    let lt : n < length s = omega (arith, length-drop n s, ap length e) in
    let d : r ≡ drop (suc n) s = let f = drop-cons s n b lt in cc in
    rw (front, d) (group_cut s n lt before (λ d. here d lt))

pub group_end : (s l t : List Token) (n : ℕ) → n ≤ length s → ((k : ℕ) (d : Token) → k < n → is_comma (get_or s k d).kind ≡ false) → l ≡ take n s → t ≡ drop n s → length t ≡ 0 → groups_of s ≡ l ∷ []
group_end s l t n inside before front back none =
    let e : n ≡ length s = omega (arith, length-drop n s, ap length back) in
    let f : l ≡ s = front ∙ rw e (take-length s) in
    rw f (group_last s (λ k d h. before k d (omega arith)))

next : (os : List Operand) (s p : List Token) (ps : List (List Token)) → groups_of s ≡ p ∷ ps → operands_from os (groups_of s) ≡ option_and_then (λ o. operands_from (os ++ o ∷ []) ps) (operand_of p)
unfolding operands_from
next os s p ps cut = ap (operands_from os) cut

pub operands_stop : (os : List Operand) (s p : List Token) (ps : List (List Token)) (all : Option (List Operand)) → groups_of s ≡ p ∷ ps → operand_of p ≡ None → operands_from os (groups_of s) ≡ all → None ≡ all
operands_stop os s p ps all cut none rest = sym (ap (option_and_then (λ o. operands_from (os ++ o ∷ []) ps)) none) ∙ sym (next os s p ps cut) ∙ rest

pub operands_more : (os new : List Operand) (o : Operand) (s p : List Token) (ps : List (List Token)) (all : Option (List Operand)) → groups_of s ≡ p ∷ ps → operand_of p ≡ Some o → new ≡ os ++ o ∷ [] → operands_from os (groups_of s) ≡ all → operands_from new ps ≡ all
operands_more os new o s p ps all cut found grown rest =
    ap (λ xs. operands_from xs ps) grown ∙ sym (ap (option_and_then (λ o. operands_from (os ++ o ∷ []) ps)) found) ∙ sym (next os s p ps cut) ∙ rest

pub operands_end : (os : List Operand) → Some os ≡ operands_from os []
unfolding operands_from
operands_end os = refl

pub operands_some : (ts : List Token) → nat_eq (length ts) 0 ≡ false → operands_from [] (groups_of ts) ≡ operands_of ts
unfolding operands_of
operands_some ts some = sym (ap (λ b. cond b (Some []) (operands_from [] (groups_of ts))) some)

pub operands_none : (ts : List Token) (os : List Operand) → length ts ≡ 0 → os ≡ [] → Some os ≡ operands_of ts
unfolding operands_of
operands_none ts os none empty = ap Some empty ∙ sym (ap (λ b. cond b (Some []) (operands_from [] (groups_of ts))) (eq-eqb (length ts) 0 none))
