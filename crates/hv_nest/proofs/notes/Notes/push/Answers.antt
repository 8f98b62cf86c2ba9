-- The last note is of a place that isn't noted before.
use Rattle.std.proofs.Common.{◌≡◌, ℕ, ◌<◌, ◌≤◌, List, length, take, false, ap, ◌∙◌, sym, subst, arith, length-set}
use Rattle.std.proofs.lemmas.List.{length-take-le, take_more_set}
use Rattle.hv_nest.specs.declared.notes.Note.{Note}
use Rattle.hv_nest.specs.Notes.{is_noted, AreApart}
use Rattle.hv_nest.specs.Rows.{rows_limit}
use Rattle.hv_nest.proofs.Apart.{apart_more}
use Rattle.hv_nest.proofs.notes.Notes.push.Goals as goal

pub invariant_of-self : goal.invariant_of-self
invariant_of-self c =
    let n : ℕ = c.self.inside.len in
    let items : List Note = c.self.inside.items in
    let note : Note = record { at = c.args.at; before = c.args.before } in
    let short : n ≤ length items = omega (arith, c.self.invariant.0, c.self.invariant.1) in
    let room : n < rows_limit = omega (arith, c.requires.room, ap length c.self.view_is, length-take-le n items short) in
    let inside : n < length items = omega (arith, room, c.self.invariant.1) in
    let free : is_noted note.at (take n items) ≡ false = ap (is_noted note.at) c.self.view_is ∙ c.requires.other in (
      omega (arith, room),
      length-set items n note ∙ c.self.invariant.1,
      subst AreApart (sym (take_more_set items n note inside)) (apart_more (take n items) note free c.self.invariant.2),
    )
