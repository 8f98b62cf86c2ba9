use Rattle.std.proofs.Common.{◌≡◌, ◌≤◌, drop, length}
use Rattle.hv_word.specs.Storage.{page_count}
use Rattle.hv_nest.specs.Bare.{alone, bare_moves}
use Rattle.hv_nest.specs.Kinds.{NextBelow}
use Rattle.hv_nest.specs.Move.{last_of}
use Rattle.hv_twin.specs.Twin.{NeverFallsFrom}
use Rattle.hv_twin.proofs.alone.bare_run.Given as goal

-- what is left leads to where the whole leads
abbrev pub invariant-loop-line : goal.invariant-loop-line
invariant-loop-line l = record {
  rest : last_of (alone l.store l.cpu) (bare_moves l.made (drop l.line-index l.lines) l.steps) ≡ last_of (alone l.fn.store l.fn.cpu) (bare_moves 0 l.lines l.steps);
  made : l.made ≤ l.steps;
  counts : NeverFallsFrom l.made (drop l.line-index l.lines);
  next : NextBelow (page_count l.store) l.cpu;
  len : length l.store ≡ length l.fn.store;
}
