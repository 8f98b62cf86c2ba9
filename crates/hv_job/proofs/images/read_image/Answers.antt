use Rattle.std.proofs.Common.{refl, rules}
use Rattle.hv_lex.specs.Lines.{lines_of}
use Rattle.hv_job.proofs.Spanning.{image_open, image_refused, image_byte, image_placed, image_many, image_rest, refused_fits}
use Rattle.hv_job.proofs.images.read_image.Goals as goal

pub returns-in_default-clause-draft : goal.returns-in_default-clause-draft
returns-in_default-clause-draft c = image_open c.args.draft.now c.args.number c.args.base c.args.name (lines_of c.args.behind.now) c.in_default.ensures

pub inside-requires : goal.inside-requires
inside-requires c =
    refused_fits c.args.number c.args.base c.args.behind.now c.in-Some.cut.inside.now c.in-Some.cut.last.now c.in-Some.cut.behind.now
    c.in-Some.cut.count c.in-Some.ensures c.requires.length c.in-Err.end c.in-Err.ensures

pub returns-in-Err-clause-draft : goal.returns-in-Err-clause-draft
returns-in-Err-clause-draft c =
    rw c.inside.ensures
    (image_refused c.args.draft.now c.args.number c.args.base c.args.name c.args.behind.now c.in-Some.cut.inside.now c.in-Some.cut.last.now
    c.in-Some.cut.behind.now c.in-Some.cut.count c.in-Some.ensures c.in-Err.end c.in-Err.ensures)

pub returns-then-not-has_allowed_bytes-clause-draft : goal.returns-then-not-has_allowed_bytes-clause-draft
returns-then-not-has_allowed_bytes-clause-draft c =
    image_byte c.args.draft.now c.args.number c.args.base c.args.name c.args.behind.now c.in-Some.cut.inside.now c.in-Some.cut.last.now
    c.in-Some.cut.behind.now c.in-Some.cut.count c.in-Some.ensures c.in-Ok.image c.in-Ok.ensures.0 c.in-Ok.ensures.1 (search rules)

pub returns-in-Ok-place-clause-draft : goal.returns-in-Ok-place-clause-draft
returns-in-Ok-place-clause-draft c =
    image_placed c.args.draft.now c.args.number c.args.base c.args.name c.args.behind.now c.in-Some.cut.inside.now c.in-Some.cut.last.now
    c.in-Some.cut.behind.now c.in-Some.cut.count c.in-Some.ensures c.in-Ok.image c.place.new.self c.in-Ok.ensures.0 c.in-Ok.ensures.1
    (search rules) c.in-Ok-place.ensures

pub returns-in-Ok-place-clause-rest : goal.returns-in-Ok-place-clause-rest
returns-in-Ok-place-clause-rest c =
    image_rest c.args.draft.now c.args.number c.args.base c.args.name c.args.behind.now c.in-Some.cut.inside.now c.in-Some.cut.last.now
    c.in-Some.cut.behind.now c.in-Some.cut.count c.in-Some.ensures c.place.new.self _ refl

pub returns-in-Err-place-clause-draft : goal.returns-in-Err-place-clause-draft
returns-in-Err-place-clause-draft c =
    rw c.at_line.ensures
    (image_many c.args.draft.now c.args.number c.args.base c.args.name c.args.behind.now c.in-Some.cut.inside.now c.in-Some.cut.last.now
    c.in-Some.cut.behind.now c.in-Some.cut.count c.in-Some.ensures c.in-Ok.image c.in-Err-place.end c.in-Ok.ensures.0 c.in-Ok.ensures.1
    (search rules) c.in-Err-place.ensures)
