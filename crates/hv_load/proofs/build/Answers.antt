use Rattle.std.proofs.Common.{ℕ, Err, Result, ◌∙◌, ap, sym}
use Rattle.hv_load.specs.declared.ends.BuildKind.{BuildKind}
use Rattle.hv_load.specs.declared.start.Start.{Start}
use Rattle.hv_load.specs.Build.{GivesStart, build_of, end_of}
use Rattle.hv_load.proofs.Keeping.{ready_if}
use Rattle.hv_load.proofs.Doing.{built_more, built_stop, built_end}
use Rattle.hv_load.proofs.build.Goals as goal

pub returns-in-Err-Fault-clause-gives : goal.returns-in-Err-Fault-clause-gives
unfolding build_of
returns-in-Err-Fault-clause-gives c =
    let refused = rw c.in-Err-Fault.field-0-is at c.in-Err-Fault.ensures in
    built_stop c.loop-placed.builder c.as_slice-placed-items.result.now c.loop-placed.placed-index c.placed-item.result c.in-Err-Fault.kind _ (end_of c.args.job.now.commands) c.loop-placed-test.true c.placed-item.is refused c.loop-placed.invariant
    ∙ ap (λ (why : BuildKind). let r : Result Start (ℕ × BuildKind) = Err (c.placed-item.result.line, why) in r) (sym c.in-Err-Fault.kind-is)

pub loop-placed-preserved : goal.loop-placed-preserved
loop-placed-preserved c =
    built_more c.loop-placed.builder c.line.new.self c.as_slice-placed-items.result.now c.loop-placed.placed-index c.placed-item.result _ c.loop-placed-test.true c.placed-item.is c.in-Ok.ensures c.loop-placed.invariant

pub returns : goal.returns
unfolding build_of
returns c =
    let gives : GivesStart c.end.result (build_of c.args.job.now) = built_end c.loop-placed.builder c.as_slice-placed-items.result.now c.loop-placed.placed-index c.end.result _ c.as_slice.result.now c.args.job.now.commands c.loop-placed-test.false c.as_slice.ensures c.end.ensures c.loop-placed.invariant in
    record { gives = gives; ready = ready_if c.args.job.now c.end.result c.requires gives }
