-- What the program makes of an input before it writes.
use Rattle.std.specs.Prelude.{if◌then◌else◌}
use Rattle.hv_top.specs.declared.answer.Answer.{Answer}
use Rattle.hv_top.specs.Output.{Output, Text, Refusal}

-- the output that an answer stands for
abbrev pub output_in : Answer → Output
output_in a = if a.refused then Refusal a.text.items else Text a.text.items
