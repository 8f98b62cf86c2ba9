use Rattle.std.proofs.Common.{◌∙◌, arith, rules}
use Rattle.hv_lex.specs.Lines.{lines_of}
use Rattle.hv_asm.specs.Definitions.{place_among}
use Rattle.hv_asm.specs.Labels.{place_in}
use Rattle.hv_asm.specs.Seen.{reading_in}
use Rattle.hv_asm.proofs.Placing.{among_noted, idle_end, idle_more, none_end, none_more, place_more, place_end}
use Rattle.hv_asm.proofs.places.find_outline.Goals as goal

pub read_line-requires : goal.read_line-requires
read_line-requires c = omega (arith, c.first_line.ensures.shorter, c.loop-rest.invariant.line, c.loop-rest.invariant.some, c.requires)

pub loop-rest-preserved-in_ok-push : goal.loop-rest-preserved-in_ok-push
loop-rest-preserved-in_ok-push c = record {
  some = omega arith;
  line = omega (arith, c.first_line.ensures.behind, c.loop-rest.invariant.line);
  at =
      omega
      (arith, c.loop-rest.invariant.at, c.first_line.ensures.behind, c.first_line.ensures.shorter, c.size-at.ensures.most, c.in_ok-read.ensures.count);
  told = λ q.
      place_more (place_among c.loop-rest.definitions.items) (place_among c.note.new.definitions.items) c.loop-rest.line c.loop-rest.at c.size-at.result c.first_line.result.0.now c.loop-rest.rest.now c.first_line.result.1.now
      (reading_in c.first_line.result.0.now c.in_ok-read.read) q _ c.first_line.ensures.cut c.in_ok-read.ensures.reading c.size-at.ensures.size
      (among_noted c.loop-rest.definitions.items c.note.new.definitions.items _ _ q c.in_ok-note.ensures) (c.loop-rest.invariant.told q);
  none = λ find.
      none_more find c.loop-rest.line c.loop-rest.at c.first_line.result.0.now c.loop-rest.rest.now c.first_line.result.1.now
      (reading_in c.first_line.result.0.now c.in_ok-read.read) c.loop-rest.definitions.items c.note.new.definitions.items _ c.first_line.ensures.cut c.in_ok-read.ensures.reading
      c.in_ok-note.ensures (c.loop-rest.invariant.none find);
  idle =
      idle_more c.first_line.result.0.now c.loop-rest.rest.now c.first_line.result.1.now (reading_in c.first_line.result.0.now c.in_ok-read.read)
      c.loop-rest.idle.items c.push.new.self.items c.is_idle.result (lines_of c.args.text.now) c.first_line.ensures.cut c.in_ok-read.ensures.reading
      c.is_idle.ensures c.in_ok-push.ensures.items c.loop-rest.invariant.idle;
}

pub loop-rest-preserved : goal.loop-rest-preserved
loop-rest-preserved c = record {
  some = omega arith;
  line = omega (arith, c.first_line.ensures.behind, c.loop-rest.invariant.line);
  at =
      omega
      (arith, c.loop-rest.invariant.at, c.first_line.ensures.behind, c.first_line.ensures.shorter, c.size-at.ensures.most, c.in_ok-read.ensures.count);
  told = λ q.
      place_more (place_among c.loop-rest.definitions.items) (place_among c.note.new.definitions.items) c.loop-rest.line c.loop-rest.at c.size-at.result c.first_line.result.0.now c.loop-rest.rest.now c.first_line.result.1.now
      (reading_in c.first_line.result.0.now c.in_ok-read.read) q _ c.first_line.ensures.cut c.in_ok-read.ensures.reading c.size-at.ensures.size
      (among_noted c.loop-rest.definitions.items c.note.new.definitions.items _ _ q c.in_ok-note.ensures) (c.loop-rest.invariant.told q);
  none = λ find.
      none_more find c.loop-rest.line c.loop-rest.at c.first_line.result.0.now c.loop-rest.rest.now c.first_line.result.1.now
      (reading_in c.first_line.result.0.now c.in_ok-read.read) c.loop-rest.definitions.items c.note.new.definitions.items _ c.first_line.ensures.cut c.in_ok-read.ensures.reading
      c.in_ok-note.ensures (c.loop-rest.invariant.none find);
  idle =
      idle_more c.first_line.result.0.now c.loop-rest.rest.now c.first_line.result.1.now (reading_in c.first_line.result.0.now c.in_ok-read.read)
      c.loop-rest.idle.items c.push.new.self.items c.is_idle.result (lines_of c.args.text.now) c.first_line.ensures.cut c.in_ok-read.ensures.reading
      c.is_idle.ensures c.in_ok-push.ensures.items c.loop-rest.invariant.idle;
}

pub returns-clause-places : goal.returns-clause-places
returns-clause-places c = λ q.
    c.in_ok-labels.ensures.places q
    ∙ place_end (place_among c.loop-rest.definitions.items) c.loop-rest.line c.loop-rest.at c.loop-rest.rest.now q _ (search rules) (c.loop-rest.invariant.told q)

pub returns-clause-distinct : goal.returns-clause-distinct
returns-clause-distinct c = λ distinct.
    c.loop-rest.invariant.none (place_in c.in_ok-labels.labels) (c.in_ok-labels.ensures.distinct distinct)
    (none_end (place_in c.in_ok-labels.labels) c.loop-rest.line c.loop-rest.rest.now (search rules))

pub returns-clause-idle : goal.returns-clause-idle
returns-clause-idle c = idle_end c.loop-rest.idle.items c.loop-rest.rest.now (lines_of c.args.text.now) c.loop-rest.invariant.idle
