use Rattle.std.proofs.Common.{◌≡◌, ◌++◌, take}
use Rattle.hv_report.specs.Report.{syllables_text}
use Rattle.hv_report.proofs.puts.put_syllables.Given as goal

abbrev pub invariant-loop-syllable : goal.invariant-loop-syllable
invariant-loop-syllable l = l.out.items ≡ l.fn.out.items ++ syllables_text (take l.syllable-index l.path)
