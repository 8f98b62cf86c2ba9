-- What holds of each block, and how many levels there are.
use Rattle.std.proofs.Common.{◌≡◌, ℕ, suc, ◌+◌, List, [], ◌∷◌, length, arith}
use Rattle.hv_map.specs.Item.{Item}
use Rattle.hv_whole.specs.Linked.{EachBlock}

-- what follows of each block
pub each_block : (P Q : ℕ → Type 0) → ((b : ℕ) → P b → Q b) → (xs : List Item) → EachBlock P xs → EachBlock Q xs
each_block P Q step [] each = tt
each_block P Q step (x ∷ xs) each = (step x.block each.0, each_block P Q step xs each.1)

-- how many levels there are in all, with m below the last of the items
unfoldable pub more : List Item → ℕ → ℕ
more [] m = m
more (x ∷ xs) m = suc (more xs m)

-- the level of the last of the items, where the machine before the first is at level j
unfoldable pub deep : ℕ → List Item → ℕ
deep j [] = j
deep j (x ∷ xs) = deep (j + 1) xs

pub deep_is : (j : ℕ) (xs : List Item) → deep j xs ≡ j + length xs
unfolding deep
deep_is j [] = omega arith
deep_is j (x ∷ xs) = omega (arith, deep_is (j + 1) xs)

pub more_is : (xs : List Item) (m : ℕ) → more xs m ≡ length xs + m
unfolding more
more_is [] m = omega arith
more_is (x ∷ xs) m = omega (arith, more_is xs m)
