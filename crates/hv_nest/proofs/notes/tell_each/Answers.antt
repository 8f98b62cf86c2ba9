-- One note more is told.
use Rattle.std.proofs.Common.{ℕ, ◌<◌, ◌≤◌, List, [], length, get_or, ap, ◌∙◌, sym, refl, arith}
use Rattle.std.proofs.lemmas.List.{take_all}
use Rattle.hv_nest.specs.declared.notes.Note.{Note}
use Rattle.hv_nest.specs.Changes.{differences_to}
use Rattle.hv_nest.specs.Notes.{undone}
use Rattle.hv_nest.proofs.Told.{differences_unnoted, few_told, told_more}
use Rattle.hv_nest.proofs.Undone.{length-undone}
use Rattle.hv_nest.proofs.notes.tell_each.Goals as goal

pub loop-note-init : goal.loop-note-init
loop-note-init c = record {
  told = c.requires.none ∙ differences_unnoted c.args.store.now [] (length c.args.store.now) refl;
  few = omega (arith, ap length c.requires.none);
}

pub loop-note-preserved : goal.loop-note-preserved
loop-note-preserved c =
    let T : List ℕ = c.args.store.now in
    let notes : List Note = c.args.notes.now in
    let k : ℕ = c.loop-note.note-index in
    let lt : k < length notes = omega arith in
    record {
      told = c.tell_note.ensures ∙ told_more T notes k _ c.loop-note.changed lt c.requires.apart c.loop-note.invariant.told;
      few = omega (arith, ap length c.tell_note.ensures, few_told T (get_or notes k (record { at = 0; before = 0 })) c.loop-note.changed, c.loop-note.invariant.few);
    }

pub returns : goal.returns
returns c =
    let T : List ℕ = c.args.store.now in
    let notes : List Note = c.args.notes.now in
    let all : length notes ≤ c.loop-note.note-index = omega arith in
    c.loop-note.invariant.told
    ∙ ap (λ (ns : List Note). differences_to (undone T ns) T (length T)) (take_all c.loop-note.note-index notes all)
    ∙ ap (differences_to (undone T notes) T) (sym (length-undone T notes))
