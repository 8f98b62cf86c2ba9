-- No page is listed.
use Rattle.std.proofs.Common.{◌≡◌, true, false, refl, arith}
use Rattle.std.specs.List.{IsDistinct}
use Rattle.hv_map.proofs.pages.Pages.new.Goals as goal

pub invariant_of-result : goal.invariant_of-result
unfolding IsDistinct
invariant_of-result c = (omega arith, refl, tt, λ full. absurd (let f : false ≡ true = full in cc))
