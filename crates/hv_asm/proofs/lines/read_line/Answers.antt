use Rattle.std.proofs.Common.{◌≤◌, length}
use Rattle.std.proofs.lemmas.Result.{IfOk-weaker}
use Rattle.hv_asm.specs.Seen.{operand_count}
use Rattle.hv_asm.proofs.Rising.{rise_count}
use Rattle.hv_asm.specs.declared.lines.Line.{Line}
use Rattle.hv_asm.proofs.lines.read_line.Goals as goal

pub returns-clause-count : goal.returns-clause-count
returns-clause-count c =
    IfOk-weaker c.read_shape.result (λ (read : Line). operand_count read.body ≤ length c.deref.result.now) (λ (read : Line). operand_count read.body ≤ length c.args.line.now)
    (λ (read : Line) h. rise_count c.in-Ok.tokens.items (length c.args.line.now) (operand_count read.body) c.in-Ok.ensures.rise (rw (← c.deref.ensures.value) h))
    c.read_shape.ensures.count
