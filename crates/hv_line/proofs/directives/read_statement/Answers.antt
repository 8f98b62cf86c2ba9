use Rattle.std.proofs.Common.{subst}
use Rattle.hv_line.specs.Answers.{GivesLine}
use Rattle.hv_line.proofs.Reading.{statement_read}
use Rattle.hv_line.proofs.directives.read_statement.Goals as goal

pub returns-in-len1-up : goal.returns-in-len1-up
returns-in-len1-up c =
    subst (GivesLine c.statement.result)
    (statement_read c.args.version c.as_slice.result.now _ _ c.as_slice.ensures c.in-len1-up.len_at_least c.read_words.ensures) c.statement.ensures
