use Rattle.std.proofs.Common.{◌≡◌, ◌≤◌, vec_capacity}
use Rattle.hv_run.specs.Play.{all_so_far}
use Rattle.hv_run.proofs.moving.watch_rows.Given as goal

abbrev pub invariant-loop-one : goal.invariant-loop-one
invariant-loop-one l = record {
  told : l.rows.items ≡ all_so_far l.yielded;
  room : vec_capacity l.initial.rows ≤ vec_capacity l.rows;
}
