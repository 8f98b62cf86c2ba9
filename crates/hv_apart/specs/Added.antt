-- What is told of the pages that were added so far.
use Rattle.std.specs.Prelude.{◌≡◌, ℕ, List, ◌++◌}
use Rattle.hv_map.specs.Apart.{are_distinct}
use Rattle.hv_apart.specs.Marked.{SetOf}
use Rattle.hv_apart.specs.declared.marks.Marks.{Marks}

-- they are those of the list xs: the set has them, and it is told whether they are all different
pub record Tells (m : Marks) (xs : List ℕ) : Type 0 where
  pub set : SetOf m.words xs
  pub apart : m.distinct ≡ are_distinct xs

-- behind the pages that were added before, those of the list ys were added
pub record Added (before after : Marks) (ys : List ℕ) : Type 0 where
  pub tells : (xs : List ℕ) → Tells before xs → Tells after (xs ++ ys)
