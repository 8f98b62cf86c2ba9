-- The instructions of lines, one line more at a time.
use Rattle.std.proofs.Common.{◌≡◌, ℕ, ◌+◌, Some, None, List, [], ◌∷◌, ◌++◌, length, refl, sym, ap, ◌∙◌, append_assoc, append-nil, codes}
use Rattle.std.proofs.lemmas.List.{nil_from_length}
use Rattle.hv_text.specs.Text.{line}
use Rattle.hv_lex.specs.Lines.{lines_of, cut_of}
use Rattle.hv_dis.specs.Dis.{dis_of}
use Rattle.hv_top.specs.Dis.{word_in, dis_with, dis_from}
use Rattle.hv_top.specs.Output.{Output, Text, Refusal, refusal, in_front}

-- text in front of text in front
fronts : (old more new : List ℕ) (o : Output) → new ≡ old ++ more → in_front old (in_front more o) ≡ in_front new o
fronts old more new (Text text) is = let e : old ++ (more ++ text) ≡ new ++ text = rw (is, append_assoc) refl in ap Text e
fronts old more new (Refusal text) is = refl

next : (n : ℕ) (s l r : List ℕ) → lines_of s ≡ l ∷ lines_of r → dis_from n (lines_of s) ≡ dis_with n (word_in l) (dis_from (n + 1) (lines_of r))
unfolding dis_from
next n s l r cut = ap (dis_from n) cut

-- the first line is a word
pub lines_more : (n w : ℕ) (old new s l r : List ℕ) (all : Output) → lines_of s ≡ l ∷ lines_of r → Some w ≡ word_in l → new ≡ old ++ line (dis_of w) → in_front old (dis_from n (lines_of s)) ≡ all → in_front new (dis_from (n + 1) (lines_of r)) ≡ all
lines_more n w old new s l r all cut found grown rest =
    sym (fronts old (line (dis_of w)) new (dis_from (n + 1) (lines_of r)) grown)
    ∙ ap (λ o. in_front old (dis_with n o (dis_from (n + 1) (lines_of r)))) found
    ∙ ap (in_front old) (sym (next n s l r cut))
    ∙ rest

-- the first line is none
pub lines_stop : (n : ℕ) (old s l r : List ℕ) (all : Output) → lines_of s ≡ l ∷ lines_of r → None ≡ word_in l → in_front old (dis_from n (lines_of s)) ≡ all → refusal n (codes "number") ≡ all
lines_stop n old s l r all cut none rest =
    ap (λ o. in_front old (dis_with n o (dis_from (n + 1) (lines_of r)))) none
    ∙ ap (in_front old) (sym (next n s l r cut))
    ∙ rest

-- no line is left
pub lines_end : (n : ℕ) (old s : List ℕ) (all : Output) → length s ≡ 0 → in_front old (dis_from n (lines_of s)) ≡ all → Text old ≡ all
unfolding dis_from lines_of cut_of
lines_end n old s all none rest =
    sym (ap (λ s. in_front old (dis_from n (lines_of s))) (nil_from_length s none) ∙ ap Text (append-nil old)) ∙ rest

pub lines_start : (o : Output) → in_front [] o ≡ o
lines_start (Text text) = refl
lines_start (Refusal text) = refl

pub none_left : (s : List ℕ) → length s ≡ 0 → length (lines_of s) ≡ 0
unfolding lines_of cut_of
none_left s none = ap (λ s. length (lines_of s)) (nil_from_length s none)
