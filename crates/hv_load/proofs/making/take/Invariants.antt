use Rattle.std.proofs.Common.{◌≡◌, drop, length}
use Rattle.hv_load.specs.Taking.{taken_in}
use Rattle.hv_load.proofs.making.take.Given as goal

-- what is left to give comes to the same
abbrev pub invariant-loop-page : goal.invariant-loop-page
invariant-loop-page l = record {
  left : taken_in l.marks.items (drop l.page-index l.pages) ≡ taken_in l.fn.marks.items l.pages;
  len : length l.marks.items ≡ length l.fn.marks.items;
}
