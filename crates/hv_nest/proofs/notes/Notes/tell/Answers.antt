-- Where nothing is noted nothing changed; one note is told alone, and two one behind the other.
use Rattle.std.proofs.Common.{◌≡◌, ℕ, ◌<◌, ◌≤◌, List, [], ◌∷◌, length, take, get_or, ap, ◌∙◌, arith}
use Rattle.hv_nest.specs.declared.notes.Note.{Note}
use Rattle.hv_nest.specs.Changes.{differences}
use Rattle.hv_nest.specs.Notes.{undone}
use Rattle.hv_nest.proofs.Told.{differences_unnoted, few_told, told_first, told_second}
use Rattle.hv_nest.proofs.notes.Notes.tell.Goals as goal

none_of : (notes : List Note) → length notes ≤ 0 → notes ≡ []
none_of [] h = cc
none_of (n ∷ notes) h = absurd (omega (arith, h))

pub returns-in-empty : goal.returns-in-empty
returns-in-empty c =
    let T : List ℕ = c.args.store.now in
    let none : length c.args.self.now ≤ 0 = omega (arith, c.in-empty.len_below, ap length c.self.view_is) in
    c.clear.ensures ∙ differences_unnoted T c.args.self.now (length (undone T c.args.self.now)) (none_of c.args.self.now none)

pub returns-in-len1 : goal.returns-in-len1
returns-in-len1 c =
    let T : List ℕ = c.args.store.now in
    let notes : List Note = take c.self.inside.len c.self.inside.items in
    let some : 0 < length notes = omega (arith, c.in-len1.len_at_least) in
    let one : length notes ≤ 1 = omega (arith, c.in-len1.len_below) in
    c.tell_note.ensures
    ∙ told_first T notes _ c.clear.new.self some one c.self.invariant.2 c.clear.ensures
    ∙ ap (λ (ns : List Note). differences (undone T ns) T) c.self.view_is

pub tell_note-requires-in-len2-2 : goal.tell_note-requires-in-len2-2
tell_note-requires-in-len2-2 c =
    let T : List ℕ = c.args.store.now in
    let notes : List Note = take c.self.inside.len c.self.inside.items in
    omega (arith, ap length c.tell_note-in-len2.ensures, few_told T (get_or notes 0 (record { at = 0; before = 0 })) c.clear.new.self, ap length c.clear.ensures)

pub returns-in-len2 : goal.returns-in-len2
returns-in-len2 c =
    let T : List ℕ = c.args.store.now in
    let notes : List Note = take c.self.inside.len c.self.inside.items in
    let some : 1 < length notes = omega (arith, c.in-len2.len_at_least) in
    let two : length notes ≤ 2 = omega (arith, c.in-len2.len_below) in
    c.tell_note-in-len2-2.ensures
    ∙ told_second T notes _ _ c.clear.new.self c.tell_note-in-len2.new.changed some two c.self.invariant.2 c.clear.ensures c.tell_note-in-len2.ensures
    ∙ ap (λ (ns : List Note). differences (undone T ns) T) c.self.view_is
