-- The laws of control blocks, as statements.
use Rattle.std.specs.Prelude.{◌≡◌, ◌≢◌, ◌↔◌, ℕ, ◌<◌, ◌⊎◌, List, true}
use Rattle.hv_word.specs.Storage.{page_count, word_at}
use Rattle.hv_cpu.specs.Regs.{Regs, FitsHart}
use Rattle.hv_block.specs.Block.{block_of, fits_hart, put_regs, regs_at, IsOther}

-- two pages with the same words hold the same block, or both none
abbrev pub PageLaw : Type 0
PageLaw =
    (S T : List ℕ) (g y : ℕ)
    → ((w : ℕ) → w < 1024 → word_at S g w ≡ word_at T y w)
    → block_of S g ≡ block_of T y

-- registers that are put into a block of the storage are what its page says then
abbrev pub PutLaw : Type 0
PutLaw = (S : List ℕ) (g : ℕ) (r : Regs) → g < page_count S → regs_at (put_regs S g r) g ≡ r

-- no word of another page changes by it, nor a word of this page that holds no register
abbrev pub OtherLaw : Type 0
OtherLaw =
    (S : List ℕ) (g : ℕ) (r : Regs) (x w : ℕ)
    → w < 1024
    → (x ≢ g) ⊎ IsOther w
    → word_at (put_regs S g r) x w ≡ word_at S x w

-- one state of a block has one spelling: to put the registers that its page says changes nothing
abbrev pub SpellingLaw : Type 0
SpellingLaw = (S : List ℕ) (g : ℕ) → put_regs S g (regs_at S g) ≡ S

-- the registers that a block can say are those that a hart can have
abbrev pub FitsLaw : Type 0
FitsLaw = (r : Regs) → (fits_hart r ≡ true) ↔ FitsHart r
