use Rattle.std.proofs.Common.{◌≡◌, ℕ, cond, get_or, take}
use Rattle.hv_word.specs.Words.{has}
use Rattle.hv_fast.proofs.marks.erase.Given as goal

abbrev pub invariant-loop-page : goal.invariant-loop-page
invariant-loop-page l = (g : ℕ) → get_or l.kinds g 0 ≡ cond (has g (take l.page-index l.pages)) 0 (get_or l.initial.kinds g 0)
