-- x0 to x31 filled in from the words of a page, one after another.
use Rattle.std.proofs.Common.{◌≡◌, ℕ, zero, suc, ◌+◌, ◌-◌, ◌*◌, ◌<◌, List, [], ◌∷◌, ◌++◌, length, take, set, get_or, replicate, refl, sym, ap, ◌∙◌, arith}
use Rattle.hv_word.specs.Storage.{word_at}
use Rattle.hv_cpu.specs.Regs.{file_of}
use Rattle.hv_block.specs.Block.{regs_at}
use Rattle.hv_block.proofs.Same.{words_from}

word_from : (S : List ℕ) (i k n j : ℕ) → j < n → get_or (words_from S i k n) j 0 ≡ get_or S (i + (k + j)) 0
unfolding words_from
word_from S i k zero j h = absurd (omega arith)
word_from S i k (suc n) zero h = ap (λ (p : ℕ). get_or S p 0) (omega arith)
word_from S i k (suc n) (suc j) h = word_from S i (suc k) n j (omega arith) ∙ ap (λ (p : ℕ). get_or S p 0) (omega arith)

-- register i of a page is its word i
pub file_at : (S : List ℕ) (g i : ℕ) → 0 < i → i < 32 → get_or (file_of (regs_at S g)) i 0 ≡ word_at S g i
unfolding words_from
file_at S g zero h k = absurd (omega arith)
file_at S g (suc j) h k =
    let e : 1 + j ≡ suc j = omega arith in
    word_from S (1024 * g) 1 31 j (omega arith) ∙ ap (λ (p : ℕ). get_or S (1024 * g + p) 0) e

one_more : (F : List ℕ) (i m : ℕ) → i < length F → set (take i F ++ replicate (suc m) 0) i (get_or F i 0) ≡ take (suc i) F ++ replicate m 0
one_more [] i m h = absurd (let n : i < 0 = h in omega arith)
one_more (f ∷ F) zero m h = refl
one_more (f ∷ F) (suc i) m h = ap (λ (l : List ℕ). f ∷ l) (one_more F i m (omega arith))

-- one more register than the first i
pub filled : (S xs : List ℕ) (g i : ℕ) → 0 < i → i < 32 → xs ≡ take i (file_of (regs_at S g)) ++ replicate (32 - i) 0
    → set xs i (word_at S g i) ≡ take (i + 1) (file_of (regs_at S g)) ++ replicate (32 - (i + 1)) 0
filled S xs g i h k is =
    let left : 32 - i ≡ suc (32 - (i + 1)) = omega arith in
    let next : suc i ≡ i + 1 = omega arith in
    ap (λ (l : List ℕ). set l i (word_at S g i)) (is ∙ ap (λ (n : ℕ). take i (file_of (regs_at S g)) ++ replicate n 0) left)
    ∙ ap (λ (w : ℕ). set (take i (file_of (regs_at S g)) ++ replicate (suc (32 - (i + 1))) 0) i w) (sym (file_at S g i h k))
    ∙ one_more (file_of (regs_at S g)) i (32 - (i + 1)) k
    ∙ ap (λ (n : ℕ). take n (file_of (regs_at S g)) ++ replicate (32 - (i + 1)) 0) next
