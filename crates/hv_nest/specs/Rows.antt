-- The rows that tell what a step changed, and those behind them.
use Rattle.std.specs.Prelude.{◌≡◌, ℕ, ◌-◌, ◌≤◌, if◌then◌else◌, nat_lt, List, [], ◌∷◌, ◌++◌, length, take, drop}
use Rattle.std.specs.Prelude.{replicate}
use Rattle.std.proofs.Common.{ap, ap₂, sym, subst, ◌∙◌}
use Rattle.std.proofs.lemmas.List.{length-take-le, take-append-drop}
use Rattle.hv_nest.specs.declared.changed.ChangedRow.{ChangedRow}
use Rattle.hv_nest.specs.declared.changed.Changed.TheInside.{Inside}

-- how many bare words a step can change
abbrev pub rows_limit : ℕ
rows_limit = 8

-- a row that tells nothing
abbrev pub no_row : ChangedRow
no_row = record { at = 0; value = 0 }

-- as many rows as there is room for: those that tell something, and then such rows
abbrev pub filled_up : List ChangedRow → Inside
filled_up rows = record { len = length rows; rows = rows ++ replicate (rows_limit - length rows) no_row }

-- the rows that tell something are all that is to be known
pub filled_back : (c : Inside)
    → c.len ≤ rows_limit
    → length c.rows ≡ rows_limit
    → drop c.len c.rows ≡ replicate (rows_limit - c.len) no_row
    → filled_up (take c.len c.rows) ≡ c
filled_back c few long rest =
    let told : length (take c.len c.rows) ≡ c.len =
    length-take-le c.len c.rows (subst (λ (n : ℕ). c.len ≤ n) (sym long) few) in
    let all : take c.len c.rows ++ replicate (rows_limit - length (take c.len c.rows)) no_row ≡ c.rows =
    ap (λ (n : ℕ). take c.len c.rows ++ replicate (rows_limit - n) no_row) told
    ∙ ap (λ (xs : List ChangedRow). take c.len c.rows ++ xs) (sym rest)
    ∙ take-append-drop c.len c.rows in
    ap₂ (λ (n : ℕ) (xs : List ChangedRow). let i : Inside = record { len = n; rows = xs } in i) told all

-- rows with one more among them: of two rows the one of the lower place stands first, and the other goes on
unfoldable pub with_row : ChangedRow → List ChangedRow → List ChangedRow
with_row row [] = row ∷ []
with_row row (r ∷ rows) = if nat_lt row.at r.at then row ∷ with_row r rows else r ∷ with_row row rows
