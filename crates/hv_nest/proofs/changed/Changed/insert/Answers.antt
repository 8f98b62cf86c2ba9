-- The last row goes behind the others.
use Rattle.std.proofs.Common.{ℕ, ◌<◌, ◌≤◌, List, length, ap, ◌∙◌, refl, arith}
use Rattle.std.proofs.lemmas.List.{length-take-le}
use Rattle.hv_nest.specs.declared.changed.ChangedRow.{ChangedRow}
use Rattle.hv_nest.specs.Rows.{rows_limit, with_row}
use Rattle.hv_nest.proofs.Inserted.{length_inserted, rest_inserted, told_inserted}
use Rattle.hv_nest.proofs.changed.Changed.insert.Goals as goal

pub invariant_of-self : goal.invariant_of-self
invariant_of-self c =
    let n : ℕ = c.self.inside.len in
    let rows : List ChangedRow = c.self.inside.rows in
    let short : n ≤ length rows = omega (arith, c.self.invariant.0, c.self.invariant.1) in
    let room : n < rows_limit = omega (arith, c.requires, ap length c.self.view_is, length-take-le n rows short) in
    let put = c.put_among-last.ensures in (
      omega (arith, room),
      length_inserted rows c.put_among-last.new.rows _ n c.args.row c.put_among-last.result room c.self.invariant.1 c.self.invariant.2 refl put,
      rest_inserted rows c.put_among-last.new.rows _ n c.args.row c.put_among-last.result room c.self.invariant.1 c.self.invariant.2 refl put,
    )

pub returns : goal.returns
returns c =
    let n : ℕ = c.self.inside.len in
    let rows : List ChangedRow = c.self.inside.rows in
    let short : n ≤ length rows = omega (arith, c.self.invariant.0, c.self.invariant.1) in
    let room : n < rows_limit = omega (arith, c.requires, ap length c.self.view_is, length-take-le n rows short) in
    told_inserted rows c.put_among-last.new.rows _ n c.args.row c.put_among-last.result room c.self.invariant.1 c.self.invariant.2 refl c.put_among-last.ensures
    ∙ ap (with_row c.args.row) c.self.view_is
