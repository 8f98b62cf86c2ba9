use Rattle.std.proofs.Common.{◌≡◌, false, ap, ◌∙◌, arith}
use Rattle.hv_job.specs.Commands.{is_over}
use Rattle.hv_job.specs.IsJob.{breaks_in}
use Rattle.hv_job.proofs.Commanding.{breaks_more, room_breaks}
use Rattle.hv_job.proofs.commands.Commands.push.Goals as goal

pub invariant_of-self-2 : goal.invariant_of-self-2
invariant_of-self-2 c =
    let i = c.self.invariant in
    let items = c.self.inside.items.items in
    let few : is_over items c.args.what ≡ false = ap (λ lines. is_over lines c.args.what) c.self.view_is ∙ c.requires in
    let grown = c.in_ok-push.ensures.items in (
      omega (arith, i.0, c.breaks_of-breaks.ensures, ap breaks_in grown ∙ breaks_more items c.args.line c.args.words c.args.what),
      omega (arith, i.0, room_breaks items c.args.what few (omega (arith, i.0, i.1)), c.breaks_of-breaks.ensures),
    )
