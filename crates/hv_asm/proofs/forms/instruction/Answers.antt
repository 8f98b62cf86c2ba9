use Rattle.std.proofs.Common.{sym, ap, ◌∙◌}
use Rattle.std.proofs.lemmas.Result.{err_from_is_err_and}
use Rattle.hv_isa.specs.Table.{row_of}
use Rattle.hv_asm.specs.Forms.{UsesRegisters, immediate_of}
use Rattle.hv_asm.specs.declared.forms.Form.{Form}
use Rattle.std.proofs.Common.{subst}
use Rattle.hv_asm.proofs.Fitting.{fits_row, word_ok, word_bad}
use Rattle.hv_asm.proofs.forms.instruction.Goals as goal

pub returns-in_err-imm : goal.returns-in_err-imm
returns-in_err-imm c =
    let p = err_from_is_err_and c.from_residual.result c.from_residual.ensures.1 in
    rw (p.1, p.2) (word_bad c.args.op c.args.rd c.args.rs1 c.args.rs2 c.args.amount c.args.form _ c.requires.form (sym c.in_err-imm.ensures))

pub encode-requires : goal.encode-requires
encode-requires c =
    fits_row c.args.op c.args.rd c.args.rs1 c.args.rs2 c.in_ok-imm.imm c.args.amount (row_of c.args.op)
    (subst (λ (f : Form). UsesRegisters f c.args.rd c.args.rs1 c.args.rs2) c.requires.form c.requires.registers)
    (ap (λ (f : Form). immediate_of f c.args.amount) (sym c.requires.form) ∙ sym c.in_ok-imm.ensures)

pub returns : goal.returns
returns c =
    word_ok c.args.op c.args.rd c.args.rs1 c.args.rs2 c.in_ok-imm.imm c.encode.result c.args.amount c.args.form c.requires.form (sym c.in_ok-imm.ensures) c.encode.ensures.word
