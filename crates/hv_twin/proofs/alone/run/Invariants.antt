use Rattle.std.proofs.Common.{◌≡◌, length}
use Rattle.std.specs.Prelude.{replicate}
use Rattle.hv_word.specs.Storage.{page_count}
use Rattle.hv_nest.specs.Bare.{alone}
use Rattle.hv_nest.specs.Kinds.{NextBelow}
use Rattle.hv_nest.specs.Move.{StepOf, last_of}
use Rattle.hv_twin.proofs.alone.run.Given as goal

abbrev pub invariant-loop-step : goal.invariant-loop-step
invariant-loop-step l = record {
  state : alone l.store l.cpu ≡ last_of (alone l.fn.store l.fn.cpu) (replicate l._step (StepOf 0));
  next : NextBelow (page_count l.store) l.cpu;
  len : length l.store ≡ length l.fn.store;
}
