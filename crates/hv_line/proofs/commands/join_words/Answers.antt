use Rattle.std.proofs.Common.{◌≡◌, ◌++◌, ◌∷◌, [], ap, ◌∙◌, rules}
use Rattle.hv_line.specs.Commands.{behind_blanks}
use Rattle.hv_line.specs.Lines.{words_of}
use Rattle.hv_line.proofs.Spacing.{spaced_end, spaced_more}
use Rattle.hv_line.proofs.commands.join_words.Goals as goal

pub loop-word-preserved : goal.loop-word-preserved
loop-word-preserved c =
    let text = c.loop-word.joined.items in
    let word = c.in-Some-first_word.word.now in
    let e : c.extend_from_slice.new.self.items ≡ (text ++ 32 ∷ []) ++ word = search rules in
    ap (λ text. text ++ behind_blanks (words_of c.in-Some-first_word.behind.now)) e
    ∙ spaced_more text word c.loop-word.rest.now c.in-Some-first_word.behind.now _ c.in-Some-first_word.ensures.cut c.loop-word.invariant

pub returns : goal.returns
returns c =
    c.new-2.ensures ∙ spaced_end c.loop-word.joined.items c.loop-word.rest.now _ c.in_default-first_word.ensures.cut c.loop-word.invariant
