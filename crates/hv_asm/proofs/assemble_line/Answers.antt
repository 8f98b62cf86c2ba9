use Rattle.std.proofs.Common.{◌∙◌, ap}
use Rattle.hv_asm.specs.Assembly.{repeats}
use Rattle.hv_asm.specs.Labels.{place_in}
use Rattle.hv_asm.specs.Operands.{Reading, read_of, size_of}
use Rattle.hv_asm.proofs.Telling.{idle_size, idle_words, line_ended}
use Rattle.hv_asm.proofs.assemble_line.Goals as goal

pub push_line-requires-clause-distinct : goal.push_line-requires-clause-distinct
push_line-requires-clause-distinct c = λ distinct.
    ap (λ (r : Reading). repeats (place_in c.args.labels.now) c.args.line.number r.label) c.in_ok-read.ensures.reading ∙ c.requires.distinct distinct

pub returns-then-labels-clause-words : goal.returns-then-labels-clause-words
returns-then-labels-clause-words c =
    idle_words (place_in c.args.labels.now) c.args.base c.args.line.number c.args.line.at c.args.line.bytes.now c.args.words.now.items (read_of c.args.line.bytes.now) (c.requires.idle c.if-line.true) (c.requires.distinct c.if-labels.true)

pub returns-then-labels-clause-size : goal.returns-then-labels-clause-size
returns-then-labels-clause-size c = idle_size (read_of c.args.line.bytes.now) (c.requires.idle c.if-line.true)

pub returns-in-Ok-clause-words : goal.returns-in-Ok-clause-words
returns-in-Ok-clause-words c = rw c.in_ok-read.ensures.reading at c.in-Ok.ensures

pub returns-in-Ok-clause-size : goal.returns-in-Ok-clause-size
returns-in-Ok-clause-size c = c.size-size.ensures.size ∙ ap (λ (r : Reading). size_of r.deed) c.in_ok-read.ensures.reading

pub returns-clause-words : goal.returns-clause-words
returns-clause-words c =
    rw c.at_line.ensures (line_ended c.args.line.number _ c.args.words.now.items c.push_line.new.out.items c.in-Err.end (rw c.in_ok-read.ensures.reading at c.in-Err.ensures))
