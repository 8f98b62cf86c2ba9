use Rattle.std.proofs.Common.{◌≡◌, ◌+◌, ◌-◌, ◌/◌, ◌<◌, length, Ok}
use Rattle.std.specs.Prelude.{IfSome}
use Rattle.std.specs.List.{All}
use Rattle.hv_word.specs.Storage.{page_count}
use Rattle.hv_load.specs.Finding.{found_by, in_front}
use Rattle.hv_load.specs.Pages.{each_from, place_by}
use Rattle.hv_load.proofs.finding.Finding.places.Given as goal

-- the places so far and those that are left are those of the line; the page of the word before is held
abbrev pub invariant-loop-i : goal.invariant-loop-i
invariant-loop-i l = record {
  left :
      in_front l.places.items (each_from (place_by (found_by l.self.store.now l.self.marks.now l.self.chain l.self.limit l.self.free)) (l.first + l.i) (l.count - l.i))
      ≡ each_from (place_by (found_by l.self.store.now l.self.marks.now l.self.chain l.self.limit l.self.free)) l.first l.count;
  number : length l.places.items ≡ l.i;
  within : All (λ place. place < length l.self.store.now) l.places.items;
  host : IfSome l.held (λ g. g < page_count l.self.store.now);
  held :
      IfSome
      l.held
      (λ g. Ok g ≡ found_by l.self.store.now l.self.marks.now l.self.chain l.self.limit l.self.free ((l.first + l.i - 1) / 1024));
}
