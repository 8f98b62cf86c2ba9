use Rattle.std.proofs.Common.{rules, ◌≡◌, ap, ◌∙◌, arith, string_bytes}
use Rattle.hv_asm.specs.Assembly.{asm_of}
use Rattle.hv_dis.specs.Dis.{dis_of}
use Rattle.hv_dis.proofs.Again.{dis_again}
use Rattle.hv_dis.proofs.disassemble.Goals as goal

pub returns-clause-back : goal.returns-clause-back
unfolding dis_of
returns-clause-back c =
    let line : string_bytes c.match-decode.out ≡ dis_of c.args.word = search rules in
    λ base room. ap (λ text. asm_of text base) line ∙ dis_again c.args.word base (omega arith) room
