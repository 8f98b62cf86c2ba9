use Rattle.std.proofs.Common.{◌≡◌, eqb, arith, rules}
use Rattle.std.specs.Int.{from_le_bytes, w128}
use Rattle.std.specs.Str.{bytes_eq}
use Rattle.hv_load.proofs.Naming.{same_number}
use Rattle.hv_load.proofs.parts.are_equal.Goals as goal

pub returns : goal.returns
returns c =
    let same : eqb (from_le_bytes w128 c.args.letters) (from_le_bytes w128 c.args.others) ≡ bytes_eq c.args.letters c.args.others =
    same_number c.args.letters c.args.others (omega arith) (omega arith) (search rules) (search rules) in
    cc (same, c.from_le_bytes.ensures, c.from_le_bytes-2.ensures)
