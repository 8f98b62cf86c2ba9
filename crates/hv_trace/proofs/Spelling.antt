-- x0 to x31 filled in from the words of registers, one after another.
use Rattle.std.proofs.Common.{◌≡◌, ℕ, zero, suc, ◌+◌, ◌-◌, ◌<◌, List, [], ◌∷◌, ◌++◌, length, take, set, get_or, replicate, refl, sym, ap, ◌∙◌, arith}
use Rattle.hv_cpu.specs.Regs.{file_of}
use Rattle.hv_capsule.specs.Parked.{regs_of_words}

-- n of the words, from place k on
words_from : List ℕ → ℕ → ℕ → List ℕ
words_from ws k zero = []
words_from ws k (suc n) = get_or ws k 0 ∷ words_from ws (suc k) n

word_from : (ws : List ℕ) (k n j : ℕ) → j < n → get_or (words_from ws k n) j 0 ≡ get_or ws (k + j) 0
unfolding words_from
word_from ws k zero j h = absurd (omega arith)
word_from ws k (suc n) zero h = ap (λ (p : ℕ). get_or ws p 0) (omega arith)
word_from ws k (suc n) (suc j) h = word_from ws (suc k) n j (omega arith) ∙ ap (λ (p : ℕ). get_or ws p 0) (omega arith)

-- register i is word i
file_at : (ws : List ℕ) (i : ℕ) → 0 < i → i < 32 → get_or (file_of (regs_of_words ws)) i 0 ≡ get_or ws i 0
unfolding words_from
file_at ws zero h k = absurd (omega arith)
file_at ws (suc j) h k = word_from ws 1 31 j (omega arith) ∙ ap (λ (p : ℕ). get_or ws p 0) (omega arith)

one_more : (F : List ℕ) (i m : ℕ) → i < length F → set (take i F ++ replicate (suc m) 0) i (get_or F i 0) ≡ take (suc i) F ++ replicate m 0
one_more [] i m h = absurd (let n : i < 0 = h in omega arith)
one_more (f ∷ F) zero m h = refl
one_more (f ∷ F) (suc i) m h = ap (λ (l : List ℕ). f ∷ l) (one_more F i m (omega arith))

-- one more register than the first i
pub filled : (ws xs : List ℕ) (i : ℕ) → 0 < i → i < 32 → xs ≡ take i (file_of (regs_of_words ws)) ++ replicate (32 - i) 0
    → set xs i (get_or ws i 0) ≡ take (i + 1) (file_of (regs_of_words ws)) ++ replicate (32 - (i + 1)) 0
filled ws xs i h k is =
    let left : 32 - i ≡ suc (32 - (i + 1)) = omega arith in
    let next : suc i ≡ i + 1 = omega arith in
    ap (λ (l : List ℕ). set l i (get_or ws i 0)) (is ∙ ap (λ (n : ℕ). take i (file_of (regs_of_words ws)) ++ replicate n 0) left)
    ∙ ap (λ (w : ℕ). set (take i (file_of (regs_of_words ws)) ++ replicate (suc (32 - (i + 1))) 0) i w) (sym (file_at ws i h k))
    ∙ one_more (file_of (regs_of_words ws)) i (32 - (i + 1)) k
    ∙ ap (λ (n : ℕ). take n (file_of (regs_of_words ws)) ++ replicate (32 - (i + 1)) 0) next
