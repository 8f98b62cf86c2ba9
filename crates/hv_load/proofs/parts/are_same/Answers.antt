use Rattle.std.proofs.Common.{◌≡◌, true, false, eqb, take, sym, ◌∙◌}
use Rattle.std.specs.Str.{bytes_eq}
use Rattle.hv_load.proofs.Naming.{same_names}
use Rattle.hv_load.proofs.parts.are_same.Goals as goal

pub returns-then-are_equal : goal.returns-then-are_equal
returns-then-are_equal c =
    let same : eqb c.name.inside.len c.other.inside.len ≡ bytes_eq (take c.name.inside.len c.name.inside.letters) (take c.other.inside.len c.other.inside.letters) =
    same_names c.name.inside.len c.other.inside.len c.name.inside.letters c.other.inside.letters true (sym c.if-are_equal.true ∙ c.are_equal.ensures) c.name.invariant.0 c.other.invariant.0 c.name.invariant.1 c.other.invariant.1 c.name.invariant.2 c.other.invariant.2 in
    cc (same, c.name.view_is, c.other.view_is)

pub returns-else-are_equal : goal.returns-else-are_equal
returns-else-are_equal c =
    let same : false ≡ bytes_eq (take c.name.inside.len c.name.inside.letters) (take c.other.inside.len c.other.inside.letters) =
    same_names c.name.inside.len c.other.inside.len c.name.inside.letters c.other.inside.letters false (sym c.if-are_equal.false ∙ c.are_equal.ensures) c.name.invariant.0 c.other.invariant.0 c.name.invariant.1 c.other.invariant.1 c.name.invariant.2 c.other.invariant.2 in
    cc (same, c.if-are_equal.false, c.name.view_is, c.other.view_is)
