-- What a machine's map is made of besides the storage.
use Rattle.std.specs.Prelude.{ℕ}

-- one machine on the way: how many pages it has, where its table or directory is, and the version of its block
pub record Framed : Type 0 where
  pub pages : ℕ
  pub table : ℕ
  pub version : ℕ
