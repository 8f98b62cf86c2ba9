use Rattle.std.proofs.Common.{◌≡◌, ◌++◌, take}
use Rattle.hv_debug.specs.Answers.{pages_text}
use Rattle.hv_debug.proofs.answers.put_outer.Given as goal

abbrev pub invariant-loop-page : goal.invariant-loop-page
invariant-loop-page l = l.out.items ≡ l.fn.out.items ++ pages_text (take l.page-index l.pages)
