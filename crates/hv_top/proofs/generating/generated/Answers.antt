use Rattle.std.proofs.Common.{◌≡◌, ℕ, true, false, Result, Err, sym, subst}
use Rattle.std.specs.Prelude.{IsOk}
use Rattle.hv_generated.proofs.Jobs.{jobs_built}
use Rattle.hv_job.specs.declared.job.Job.{Job}
use Rattle.hv_load.specs.Build.{GivesStart, build_of}
use Rattle.hv_load.specs.declared.ends.BuildEnd.{BuildEnd}
use Rattle.hv_load.specs.declared.ends.BuildKind.{BuildKind}
use Rattle.hv_load.specs.declared.start.Start.{Start}
use Rattle.hv_top.proofs.generating.generated.Goals as goal

pub unreachable-requires : goal.unreachable-requires
unreachable-requires c =
    let gives : build_of c.in_ok-job.job ≡ Err (c.in-Err-BuildFault.field-0-0, c.in-Err-BuildFault.field-0-1) =
    subst (λ (e : BuildEnd). GivesStart (Err e) (build_of c.in_ok-job.job)) c.in-Err-BuildFault.field-0-is c.in-Err-BuildFault.ensures.gives
    in
    let built : IsOk (build_of c.in_ok-job.job) =
    subst (λ (j : Job). IsOk (build_of j)) (sym c.in_ok-job.ensures.job) (jobs_built c.args.number)
    in
    let no : false ≡ true = subst (λ (r : Result Start (ℕ × BuildKind)). IsOk r) gives built in absurd (cc)
