use Rattle.std.proofs.Common.{rules, tests}
use Rattle.std.proofs.lemmas.Iterator.{YieldsList-from_slice}
use Rattle.std.proofs.lemmas.Iterator.Search.{all_from_yields_List}
use Rattle.hv_line.specs.Lines.{is_allowed}
use Rattle.hv_lex.specs.Tokens.{is_plain}
use Rattle.hv_line.proofs.lines.has_allowed_bytes.Goals as goal

pub returns : goal.returns
unfolding is_allowed is_plain
returns c = all_from_yields_List is_plain _ _ _ c.all.ensures.ran (YieldsList-from_slice c.args.line.now cc) (λ x b q k. search (rules, tests))
