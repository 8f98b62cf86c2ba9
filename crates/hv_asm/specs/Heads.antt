-- What stands for a name where names are compared.
use Rattle.std.specs.Prelude.{ℕ, ◌+◌, ◌*◌, ◌%◌, ◌^◌, List, fold, take}

-- the number that the first bytes of a name make, eight at most, modulo 2 ^ 64
unfoldable pub head_of : List ℕ → ℕ
head_of name = fold (λ head byte. (head * 256 % 2 ^ 64 + byte) % 2 ^ 64) 0 (take 8 name)
