-- Words with one blank between them.
use Rattle.std.proofs.Common.{◌≡◌, List, [], ◌∷◌, ◌++◌, ℕ, sym, ap, ◌∙◌, append_assoc, append-nil}
use Rattle.hv_line.specs.Commands.{behind_blanks}
use Rattle.hv_line.specs.Lines.{words_of}

-- one more word behind a blank
pub spaced_more : (text word rest behind all : List ℕ) → words_of rest ≡ word ∷ words_of behind → text ++ behind_blanks (words_of rest) ≡ all → ((text ++ 32 ∷ []) ++ word) ++ behind_blanks (words_of behind) ≡ all
unfolding behind_blanks
spaced_more text word rest behind all cut told =
    append_assoc (text ++ 32 ∷ []) word (behind_blanks (words_of behind))
    ∙ append_assoc text (32 ∷ []) (word ++ behind_blanks (words_of behind))
    ∙ ap (λ ws. text ++ behind_blanks ws) (sym cut) ∙ told

pub spaced_end : (text rest all : List ℕ) → words_of rest ≡ [] → text ++ behind_blanks (words_of rest) ≡ all → text ≡ all
unfolding behind_blanks
spaced_end text rest all none told = sym (append-nil text) ∙ ap (λ ws. text ++ behind_blanks ws) (sym none) ∙ told
