-- Words of the registers in a control block, each named by its place there.
use Rattle.std.specs.Prelude.{ℕ, ◌+◌, ◌==◌, if◌then◌else◌, List, [], ◌∷◌, slice_index}
use Rattle.hv_word.specs.Storage.{with_word}
use Rattle.hv_cpu.specs.Regs.{Regs, spelled}

-- the storage with some words of the registers r put into page g
abbrev pub with_words : List ℕ → ℕ → Regs → List ℕ → List ℕ
with_words S g r [] = S
with_words S g r (k ∷ ks) = with_words (with_word S g k (slice_index (spelled r) k)) g r ks

-- how many words change where v becomes w
abbrev pub changed_word : ℕ → ℕ → ℕ
changed_word v w = if v == w then 0 else 1

-- how many of some words change where the registers r become q
abbrev pub changed_words : Regs → Regs → List ℕ → ℕ
changed_words r q [] = 0
changed_words r q (k ∷ ks) = changed_word (slice_index (spelled r) k) (slice_index (spelled q) k) + changed_words r q ks

-- what an instruction changes that writes register i of x0 to x31: pc and that register, of which there is none for x0
abbrev pub file_words : ℕ → List ℕ
file_words i = if i == 0 then 0 ∷ [] else 0 ∷ i ∷ []

-- the same with the control register in word w too
abbrev pub csr_words : ℕ → ℕ → List ℕ
csr_words i w = if i == 0 then 0 ∷ w ∷ [] else 0 ∷ i ∷ w ∷ []
