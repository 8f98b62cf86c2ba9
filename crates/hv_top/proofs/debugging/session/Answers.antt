use Rattle.std.proofs.Common.{ℕ, ◌<◌, length, sym, subst}
use Rattle.std.specs.List.{All}
use Rattle.hv_irq.specs.declared.Event.{Event}
use Rattle.hv_irq.specs.Events.{hart_of}
use Rattle.hv_nest.specs.State.{State}
use Rattle.hv_word.specs.Storage.{page_count}
use Rattle.hv_top.proofs.Events.{own_events}
use Rattle.hv_top.proofs.Started.{none_next}
use Rattle.hv_top.proofs.debugging.session.Goals as goal

pub new-plain-requires : goal.new-plain-requires
new-plain-requires c =
    let h = c.requires.ready in
    none_next (page_count c.args.start.store) c.args.start.harts h.idle

pub transcript-requires : goal.transcript-requires
transcript-requires c =
    let h = c.requires.ready in
    subst (λ (st : State). All (λ (e : Event). hart_of e < length st.harts) c.args.job.now.recording)
    (sym c.new-plain.ensures)
    (subst (λ (n : ℕ). All (λ (e : Event). hart_of e < n) c.args.job.now.recording) (sym h.harts)
    (own_events c.args.job.now c.args.start c.requires.job c.requires.built))
