use Rattle.std.proofs.Common.{◌≡◌, ◌-◌}
use Rattle.hv_word.specs.Storage.{page_count}
use Rattle.hv_capsule.proofs.Filled.{IsReadTo}
use Rattle.hv_capsule.proofs.reading.read_pages.Given as goal

abbrev pub invariant-loop-page : goal.invariant-loop-page
invariant-loop-page l = record {
  count : l.pages ≡ page_count l.fn.store;
  read : IsReadTo l.store l.pages l.least l.text l.line l.rest;
}

abbrev pub decreases-loop-page : goal.decreases-loop-page
decreases-loop-page l = l.pages - l.least
