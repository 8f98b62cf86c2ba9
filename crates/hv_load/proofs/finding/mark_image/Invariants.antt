use Rattle.std.proofs.Common.{◌≡◌, drop, length, map}
use Rattle.hv_load.specs.declared.parts.Mark.TheVariants.{Image}
use Rattle.hv_load.specs.Pages.{marked, page_at}
use Rattle.hv_load.proofs.finding.mark_image.Given as goal

-- what is left to mark comes to the same
abbrev pub invariant-loop-place : goal.invariant-loop-place
invariant-loop-place l = record {
  left : marked Image (map page_at (drop l.place-index l.places)) l.marks.items ≡ marked Image (map page_at l.places) l.fn.marks.items;
  len : length l.marks.items ≡ length l.fn.marks.items;
}
