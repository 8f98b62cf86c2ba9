use Rattle.std.proofs.Common.{ℕ, ◌++◌, List, get_or, take, sym, ap, ◌∙◌, append_assoc}
use Rattle.hv_capsule.specs.Text.{words_digits, word_digits}
use Rattle.hv_capsule.proofs.Written.{words_at}
use Rattle.hv_capsule.proofs.writing.put_words.Goals as goal

pub loop-word-preserved : goal.loop-word-preserved
loop-word-preserved c =
    let i = c.loop-word.word-index in
    let word : ℕ = get_or c.args.words.now i 0 in
    c.in_ok-put.ensures ∙ ap (λ (digits : List ℕ). c.loop-word.out.items ++ digits) c.word_digits.ensures
    ∙ ap (λ (text : List ℕ). text ++ word_digits word) c.loop-word.invariant
    ∙ append_assoc c.args.out.now.items (words_digits (take i c.args.words.now)) (word_digits word)
    ∙ ap (λ (text : List ℕ). c.args.out.now.items ++ text) (sym (words_at c.args.words.now i 0 c.loop-word-test.true))
