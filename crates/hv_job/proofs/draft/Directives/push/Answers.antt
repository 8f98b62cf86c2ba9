use Rattle.std.proofs.Common.{◌≡◌, false, sym, ap, ◌∙◌, arith}
use Rattle.hv_job.specs.JobOf.{is_many}
use Rattle.hv_job.specs.Limited.{amount_of, part_of}
use Rattle.hv_job.proofs.Counting.{amount_more, fits, room}
use Rattle.hv_job.proofs.draft.Directives.push.Goals as goal

pub add-requires : goal.add-requires
add-requires c = λ share taken.
    let items = c.self.inside.items.items in
    let few : is_many items c.args.what ≡ false = ap (λ lines. is_many lines c.args.what) c.self.view_is ∙ c.requires in
    omega (arith, fits items c.args.what share few (sym c.taken_by-taken.ensures ∙ taken), (c.self.invariant share.of).0)

pub invariant_of-self-2 : goal.invariant_of-self-2
invariant_of-self-2 c = λ of.
    let items = c.self.inside.items.items in
    let few : is_many items c.args.what ≡ false = ap (λ lines. is_many lines c.args.what) c.self.view_is ∙ c.requires in
    let i = c.self.invariant of in
    let grown = ap (amount_of of) c.in_ok-push.ensures.items ∙ amount_more of items c.args.line c.args.what in (
      omega (arith, i.0, c.add.ensures of, ap (part_of of) c.taken_by-taken.ensures, grown),
      omega (arith, grown, room of items c.args.what few i.1),
    )
