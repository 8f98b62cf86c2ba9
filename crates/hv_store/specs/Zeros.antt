-- The storage at the start.
use Rattle.std.specs.Prelude.{ℕ, List, replicate}

-- n words, all zero
unfoldable pub zeros : ℕ → List ℕ
zeros n = replicate n 0
