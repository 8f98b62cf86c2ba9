use Rattle.hv_trace.proofs.Pieces.{behind_number}
use Rattle.hv_trace.proofs.text_pieces.read_pair.Goals as goal

pub returns-in_default-read_word : goal.returns-in_default-read_word
returns-in_default-read_word c = λ a behind words e.
    c.in_default-read_word.ensures a.1 behind words.1
    (behind_number c.args.text.now c.in-Some.rest.now behind c.in-Some.place a c.in-Some.ensures.0 c.in-Some.ensures.1 words e)
