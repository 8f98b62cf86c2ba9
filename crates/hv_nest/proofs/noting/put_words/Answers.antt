-- The step of the row.
use Rattle.std.proofs.Common.{ℕ, ◌+◌, ◌<◌, ◌≤◌, List, length, take, set, get_or, ap, ◌∙◌, sym, arith}
use Rattle.std.proofs.Math.Seq.{sets}
use Rattle.hv_block.proofs.Edits.{sets_more}
use Rattle.hv_nest.specs.Notes.{undone}
use Rattle.hv_nest.proofs.Undone.{length-undone}
use Rattle.hv_nest.proofs.Puts.{room_step, count_step}
use Rattle.hv_nest.proofs.noting.put_words.Goals as goal

pub put-requires-clause-room : goal.put-requires-clause-room
put-requires-clause-room c =
    let S : List ℕ = undone c.args.store.now c.args.notes.now in
    let long : c.args.at + length c.args.words.now ≤ length S = omega (arith, c.requires.inside, length-undone c.args.store.now c.args.notes.now) in
    λ ne. room_step S c.args.words.now c.args.at c.loop-word.word-index c.loop-word.place (length c.loop-word.notes) (length c.args.notes.now) c.loop-word.invariant.place (omega arith) long c.loop-word.invariant.count c.requires.room (λ e. ne (ap (λ (X : List ℕ). get_or X c.loop-word.place 0) c.loop-word.invariant.origin ∙ e))

pub loop-word-preserved : goal.loop-word-preserved
loop-word-preserved c =
    let S : List ℕ = undone c.args.store.now c.args.notes.now in
    let long : c.args.at + length c.args.words.now ≤ length S = omega (arith, c.requires.inside, length-undone c.args.store.now c.args.notes.now) in
    let inside : c.loop-word.word-index < length c.args.words.now = omega arith in
    let w : ℕ = get_or c.args.words.now c.loop-word.word-index 0 in
    record {
      place = omega arith;
      written =
          c.put.ensures.put
          ∙ ap (λ (X : List ℕ). set X c.loop-word.place w) c.loop-word.invariant.written
          ∙ ap (λ (k : ℕ). set (sets c.args.store.now c.args.at (take c.loop-word.word-index c.args.words.now)) k w) c.loop-word.invariant.place
          ∙ sym (sets_more c.args.words.now c.args.store.now c.args.at c.loop-word.word-index inside);
      origin = c.put.ensures.origin ∙ c.loop-word.invariant.origin;
      count = count_step S c.args.words.now c.args.at c.loop-word.word-index c.loop-word.place (length c.loop-word.notes) (length c.put.new.self) (length c.args.notes.now) c.loop-word.invariant.place (omega arith) long c.loop-word.invariant.count c.put.ensures.count (λ e. c.put.ensures.kept (ap (λ (X : List ℕ). get_or X c.loop-word.place 0) c.loop-word.invariant.origin ∙ e));
    }
