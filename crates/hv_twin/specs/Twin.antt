-- What a bare machine that runs alone is given.
use Rattle.std.specs.Prelude.{ℕ, ◌≤◌, List, [], ◌∷◌}
use Rattle.hv_nest.specs.Watched.{LineChange}

-- the counts of the changes don't fall, and none is below n
abbrev pub NeverFallsFrom : ℕ → List LineChange → Type 0
NeverFallsFrom n [] = Unit {0}
NeverFallsFrom n (l ∷ ls) = (n ≤ l.count) × NeverFallsFrom l.count ls

-- the counts of the changes don't fall
abbrev pub NeverFalls : List LineChange → Type 0
NeverFalls changes = NeverFallsFrom 0 changes
