use Rattle.std.proofs.Common.{◌≡◌, ◌++◌}
use Rattle.hv_capsule.specs.Text.{pages_text}
use Rattle.hv_capsule.proofs.writing.put_pages.Given as goal

abbrev pub invariant-loop-page : goal.invariant-loop-page
invariant-loop-page l = l.out.items ≡ l.fn.out.items ++ pages_text l.store l.page
