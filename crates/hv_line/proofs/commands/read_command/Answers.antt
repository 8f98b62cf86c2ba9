use Rattle.std.proofs.Common.{◌∙◌}
use Rattle.hv_line.proofs.Reading.{command_read}
use Rattle.hv_line.proofs.commands.read_command.Goals as goal

pub returns-in-len1-up : goal.returns-in-len1-up
returns-in-len1-up c =
    c.command.ensures ∙ command_read c.args.version c.as_slice.result.now _ _ c.as_slice.ensures c.in-len1-up.len_at_least c.read_words.ensures
