-- Putting words in a row, with notes.
use Rattle.std.proofs.Common.{◌≡◌, ◌≢◌, ℕ, zero, suc, ◌+◌, ◌*◌, ◌<◌, ◌≤◌, Bool, true, false, cond, List, [], ◌∷◌, ◌++◌, length, take, drop, get_or, refl, ap, ◌∙◌, sym, arith}
use Rattle.std.specs.Prelude.{◌==◌}
use Rattle.std.proofs.Math.Seq.{drop-cons}
use Rattle.std.proofs.lemmas.List.{get_or-drop, length-drop}
use Rattle.std.proofs.lemmas.Bool.{ne_eqb, eqb-true}
use Rattle.hv_cpu.specs.Regs.{Regs, spelled}
use Rattle.hv_block.specs.Block.{regs_at}
use Rattle.hv_block.proofs.Edits.{sets_more, length-sets_lem}
use Rattle.hv_exec.specs.Changes.{differing, changed_regs}
use Rattle.hv_nest.proofs.Undone.{length-undone}
use Rattle.hv_nest.specs.Rows.{rows_limit}

pub differing_nil : (xs : List ℕ) → differing xs [] ≡ 0
unfolding differing
differing_nil [] = refl
differing_nil (x ∷ xs) = refl

-- one more word
pub differing_more : (xs ws : List ℕ) (i : ℕ) → i < length xs → i < length ws → differing xs (take (i + 1) ws) ≡ differing xs (take i ws) + cond (get_or xs i 0 == get_or ws i 0) 0 1
unfolding differing
differing_more [] ws i h k = absurd (omega (arith, h))
differing_more (x ∷ xs) [] i h k = absurd (omega (arith, k))
differing_more (x ∷ xs) (w ∷ ws) zero h k =
    let f : ℕ = cond (x == w) 0 1 in
    let e : f + 0 ≡ 0 + f = omega arith in
    ap (λ (n : ℕ). f + n) (differing_nil xs) ∙ e
differing_more (x ∷ xs) (w ∷ ws) (suc i) h k =
    let f : ℕ = cond (x == w) 0 1 in
    let g : ℕ = cond (get_or xs i 0 == get_or ws i 0) 0 1 in
    let lt : i < length xs = omega (arith, h) in
    let gt : i < length ws = omega (arith, k) in
    let e : f + (differing xs (take i ws) + g) ≡ f + differing xs (take i ws) + g = omega arith in
    let next : suc i + 1 ≡ suc (i + 1) = omega arith in
    ap (λ (n : ℕ). differing (x ∷ xs) (take n (w ∷ ws))) next
    ∙ ap (λ (n : ℕ). f + n) (differing_more xs ws i lt gt)
    ∙ e

pub differing_part : (xs ws : List ℕ) (i : ℕ) → differing xs (take i ws) ≤ differing xs ws
unfolding differing
differing_part [] ws i = omega arith
differing_part (x ∷ xs) ws zero = omega arith
differing_part (x ∷ xs) [] (suc i) = omega arith
differing_part (x ∷ xs) (w ∷ ws) (suc i) = omega (arith, differing_part xs ws i)

-- the step of a row: before it there is room where the word is another, and after it few are noted
step_more : (S ws : List ℕ) (at i : ℕ) → i < length ws → at + length ws ≤ length S → differing (drop at S) (take (i + 1) ws) ≡ differing (drop at S) (take i ws) + cond (get_or S (at + i) 0 == get_or ws i 0) 0 1
step_more S ws at i h long =
    let inside : i < length (drop at S) = omega (arith, length-drop at S) in
    differing_more (drop at S) ws i inside h
    ∙ ap (λ (k : ℕ). differing (drop at S) (take i ws) + cond (k == get_or ws i 0) 0 1) (get_or-drop at S i 0)

pub room_step : (S ws : List ℕ) (at i place m n : ℕ) → place ≡ at + i → i < length ws → at + length ws ≤ length S → m ≤ n + differing (drop at S) (take i ws) → n + differing (drop at S) ws ≤ rows_limit → get_or S place 0 ≢ get_or ws i 0 → m < rows_limit
room_step S ws at i place m n p h long few room ne =
    let other : get_or S (at + i) 0 ≢ get_or ws i 0 = λ e. ne (ap (λ (k : ℕ). get_or S k 0) p ∙ e) in
    let one : differing (drop at S) (take (i + 1) ws) ≡ differing (drop at S) (take i ws) + 1 =
    step_more S ws at i h long ∙ ap (λ (t : Bool). differing (drop at S) (take i ws) + cond t 0 1) (ne_eqb (get_or S (at + i) 0) (get_or ws i 0) other) in
    omega (arith, differing_part (drop at S) ws (i + 1))

pub count_step : (S ws : List ℕ) (at i place m k n : ℕ) → place ≡ at + i → i < length ws → at + length ws ≤ length S → m ≤ n + differing (drop at S) (take i ws) → k ≤ m + 1 → (get_or S place 0 ≡ get_or ws i 0 → k ≡ m) → k ≤ n + differing (drop at S) (take (i + 1) ws)
count_step S ws at i place m k n p h long few more same = by (get_or S (at + i) 0 == get_or ws i 0) refl
  where
    by : (t : Bool) → (get_or S (at + i) 0 == get_or ws i 0) ≡ t → k ≤ n + differing (drop at S) (take (i + 1) ws)
    by true e =
        let kept : k ≡ m = same (ap (λ (j : ℕ). get_or S j 0) p ∙ eqb-true (get_or S (at + i) 0) (get_or ws i 0) e) in
        let d : differing (drop at S) (take (i + 1) ws) ≡ differing (drop at S) (take i ws) + 0 = step_more S ws at i h long ∙ ap (λ (u : Bool). differing (drop at S) (take i ws) + cond u 0 1) e in
        omega arith
    by false e =
        let d : differing (drop at S) (take (i + 1) ws) ≡ differing (drop at S) (take i ws) + 1 = step_more S ws at i h long ∙ ap (λ (u : Bool). differing (drop at S) (take i ws) + cond u 0 1) e in
        omega arith

-- n words of S, from place i + k on
words_from : List ℕ → ℕ → ℕ → ℕ → List ℕ
words_from S i k zero = []
words_from S i k (suc n) = get_or S (i + k) 0 ∷ words_from S i (suc k) n

differing_from : (S ws : List ℕ) (i k n : ℕ) → length ws ≡ n → i + k + n ≤ length S → differing (drop (i + k) S) ws ≡ differing (words_from S i k n) ws
unfolding differing words_from
differing_from S [] i k n e h = differing_nil (drop (i + k) S) ∙ sym (differing_nil (words_from S i k n))
differing_from S (w ∷ ws) i k zero e h = absurd (omega (arith, e))
differing_from S (w ∷ ws) i k (suc n) e h =
    let inside : i + k < length S = omega (arith, h) in
    let next : suc (i + k) ≡ i + suc k = omega arith in
    let rest : length ws ≡ n = omega (arith, e) in
    let long : i + suc k + n ≤ length S = omega (arith, h) in
    ap (λ (xs : List ℕ). differing xs (w ∷ ws)) (drop-cons S (i + k) 0 inside)
    ∙ ap (λ (j : ℕ). cond (get_or S (i + k) 0 == w) 0 1 + differing (drop j S) ws) next
    ∙ ap (λ (m : ℕ). cond (get_or S (i + k) 0 == w) 0 1 + m) (differing_from S ws i (suc k) n rest long)

differing-snoc : (xs ys : List ℕ) (x y : ℕ) → length xs ≡ length ys → differing (xs ++ x ∷ []) (ys ++ y ∷ []) ≡ differing xs ys + cond (x == y) 0 1
unfolding differing
differing-snoc [] [] x y e = omega arith
differing-snoc [] (b ∷ ys) x y e = absurd (omega (arith, e))
differing-snoc (a ∷ xs) [] x y e = absurd (omega (arith, e))
differing-snoc (a ∷ xs) (b ∷ ys) x y e =
    let f : ℕ = cond (a == b) 0 1 in
    let rest : length xs ≡ length ys = omega (arith, e) in
    let m : f + (differing xs ys + cond (x == y) 0 1) ≡ f + differing xs ys + cond (x == y) 0 1 = omega arith in
    ap (λ (n : ℕ). f + n) (differing-snoc xs ys x y rest) ∙ m

-- the registers in a block: 49 words in a row, and one apart
pub block_changes : (S : List ℕ) (g : ℕ) (q : Regs) → 1024 * g + 49 ≤ length S → changed_regs (regs_at S g) q ≡ differing (drop (1024 * g) S) (take 49 (spelled q)) + cond (get_or S (1024 * g + 64) 0 == q.next) 0 1
unfolding words_from changed_regs
block_changes S g q long =
    let z : 1024 * g + 0 ≡ 1024 * g = omega arith in
    let far : 1024 * g + 0 + 49 ≤ length S = omega (arith, long) in
    differing-snoc (words_from S (1024 * g) 0 49) (take 49 (spelled q)) (get_or S (1024 * g + 64) 0) q.next refl
    ∙ ap (λ (m : ℕ). m + cond (get_or S (1024 * g + 64) 0 == q.next) 0 1)
    (sym (differing_from S (take 49 (spelled q)) (1024 * g) 0 49 refl far)
    ∙ ap (λ (k : ℕ). differing (drop k S) (take 49 (spelled q))) z)

pub ruleset puts = (sets_more, length-sets_lem, room_step, count_step)

pub ruleset faults = (length-undone)
