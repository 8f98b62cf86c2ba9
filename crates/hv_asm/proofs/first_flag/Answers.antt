use Rattle.hv_asm.proofs.Placing.{flag_first, flag_none}
use Rattle.hv_asm.proofs.first_flag.Goals as goal

pub returns-in-Some : goal.returns-in-Some
returns-in-Some c = flag_first c.args.flags.now c.in-Some.behind.now c.in-Some.flag.now c.in-Some.ensures.cases.0

pub returns-in-None : goal.returns-in-None
returns-in-None c = λ line lines idle. flag_none c.args.flags.now c.in-None.ensures.cases line lines
