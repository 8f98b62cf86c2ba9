-- One machine on the way from the bare machine to a machine inside it.
use Rattle.std.specs.Prelude.{ℕ}

-- the page of its block as its parent numbers its pages, the bare page which that is, and what the block says: how many
-- pages the machine has, where its table or directory is, and the version of the block
pub record Item : Type 0 where
  pub syllable : ℕ
  pub block : ℕ
  pub pages : ℕ
  pub table : ℕ
  pub version : ℕ
