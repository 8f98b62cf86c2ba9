use Rattle.std.proofs.Common.{IfSome, sym, subst, ◌∙◌, arith}
use Rattle.hv_isa.specs.Table.{Row, NamesRegs}
use Rattle.hv_isa.proofs.Decoding.{Row-decoded, decode_of-row, NamesRegs-decoded}
use Rattle.hv_isa.proofs.decode.Goals as goal

pub returns-clause-found : goal.returns-clause-found
returns-clause-found c =
    let w = c.args.word in
    subst (λ o. IfSome o (λ i. Row i w)) (sym c.find_row.ensures) (Row-decoded w (omega arith))

pub returns-clause-only : goal.returns-clause-only
returns-clause-only c = λ i r. c.find_row.ensures ∙ decode_of-row i c.args.word r

pub returns-clause-registers : goal.returns-clause-registers
returns-clause-registers c =
    let w = c.args.word in
    subst (λ o. IfSome o NamesRegs) (sym c.find_row.ensures) (NamesRegs-decoded w (omega arith))
