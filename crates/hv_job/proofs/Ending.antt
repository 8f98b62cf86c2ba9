-- The front of a text, line by line, up to the end of an image.
use Rattle.std.proofs.Common.{◌≡◌, ℕ, ◌+◌, ◌-◌, ◌<◌, ◌≤◌, true, false, ◌||◌, List, [], ◌∷◌, ◌++◌, length, take, drop, refl, sym, ap, ◌∙◌, arith, append_assoc, append-nil, length-append, subst}
use Rattle.std.specs.List.{list_any}
use Rattle.std.proofs.Math.Seq.{take-append_seam}
use Rattle.std.proofs.lemmas.List.{take-append-drop, nil_from_length}
use Rattle.std.proofs.lemmas.List.Folds.{list_any-append}
use Rattle.hv_lex.specs.Lines.{lines_of, cut_of, IsLineText}
use Rattle.hv_job.specs.Inside.{IsCut}
use Rattle.hv_job.specs.JobOf.{is_end}

-- the text before a line, which has so many lines, none of them an end
pub record IsFront (front : List ℕ) (count : ℕ) : Type 0 where
  pub whole : (rest : List ℕ) → lines_of (front ++ rest) ≡ lines_of front ++ lines_of rest
  pub counted : count ≡ length (lines_of front)
  pub goes_on : list_any is_end (lines_of front) ≡ false

pub no_lines : (s : List ℕ) → length s ≡ 0 → lines_of s ≡ []
unfolding lines_of cut_of
no_lines s none = ap lines_of (nil_from_length s none)

pub front_none : IsFront [] 0
unfolding lines_of cut_of
front_none = record { whole = λ rest. refl; counted = refl; goes_on = refl }

pub front_start : (s : List ℕ) → IsFront (take (length s - length s) s) 0
front_start s = let e : length s - length s ≡ 0 = omega arith in subst (λ n. IsFront (take n s) 0) (sym e) front_none

pub cut_start : (s : List ℕ) → take (length s - length s) s ++ s ≡ s
cut_start s = let e : length s - length s ≡ 0 = omega arith in ap (λ n. take n s ++ s) e

line_alone : (line piece : List ℕ) → IsLineText line piece → lines_of piece ≡ line ∷ []
line_alone line piece is =
    ap lines_of (sym (append-nil piece)) ∙ is [] ∙ ap (λ ls. line ∷ ls) (no_lines [] refl)

lines_more : (front piece line : List ℕ) (count : ℕ) → IsFront front count → IsLineText line piece → lines_of (front ++ piece) ≡ lines_of front ++ line ∷ []
lines_more front piece line count is one = is.whole piece ∙ ap (λ ls. lines_of front ++ ls) (line_alone line piece one)

pub front_more : (front piece line : List ℕ) (count : ℕ) → IsFront front count → IsLineText line piece → is_end line ≡ false → IsFront (front ++ piece) (count + 1)
front_more front piece line count is one goes = record {
  whole = λ rest.
      ap lines_of (append_assoc front piece rest) ∙ is.whole (piece ++ rest)
      ∙ ap (λ ls. lines_of front ++ ls) (one rest)
      ∙ sym (append_assoc (lines_of front) (line ∷ []) (lines_of rest))
      ∙ ap (λ ls. ls ++ lines_of rest) (sym (lines_more front piece line count is one));
  counted =
      omega (arith, is.counted, ap length (lines_more front piece line count is one), length-append (lines_of front) (line ∷ []));
  goes_on =
      ap (list_any is_end) (lines_more front piece line count is one)
      ∙ list_any-append is_end (lines_of front) (line ∷ [])
      ∙ ap (λ b. b || (is_end line || false)) is.goes_on
      ∙ ap (λ b. b || false) goes;
}

piece_of : (rest behind : List ℕ) → behind ≡ drop (length rest - length behind) rest → take (length rest - length behind) rest ++ behind ≡ rest
piece_of rest behind is = ap (λ b. take (length rest - length behind) rest ++ b) is ∙ take-append-drop (length rest - length behind) rest

-- one more line
pub cut_more : (text rest behind : List ℕ) → take (length text - length rest) text ++ rest ≡ text → behind ≡ drop (length rest - length behind) rest → take (length text - length behind) text ≡ take (length text - length rest) text ++ take (length rest - length behind) rest
cut_more text rest behind cut is =
    let front = take (length text - length rest) text in
    let piece = take (length rest - length behind) rest in
    let w : (front ++ piece) ++ behind ≡ text = append_assoc front piece behind ∙ ap (λ r. front ++ r) (piece_of rest behind is) ∙ cut in
    let n : length text - length behind ≡ length (front ++ piece) =
    omega (arith, ap length w, length-append (front ++ piece) behind)
    in
    ap (λ k. take k text) n ∙ ap (take (length (front ++ piece))) (sym w) ∙ take-append_seam (front ++ piece) behind

pub cut_next : (text rest behind : List ℕ) → take (length text - length rest) text ++ rest ≡ text → behind ≡ drop (length rest - length behind) rest → take (length text - length behind) text ++ behind ≡ text
cut_next text rest behind cut is =
    let front = take (length text - length rest) text in
    let piece = take (length rest - length behind) rest in
    ap (λ f. f ++ behind) (cut_more text rest behind cut is) ∙ append_assoc front piece behind
    ∙ ap (λ r. front ++ r) (piece_of rest behind is) ∙ cut

pub front_next : (text rest behind line : List ℕ) (count : ℕ) → take (length text - length rest) text ++ rest ≡ text → behind ≡ drop (length rest - length behind) rest → IsFront (take (length text - length rest) text) count → IsLineText line (take (length rest - length behind) rest) → is_end line ≡ false → IsFront (take (length text - length behind) text) (count + 1)
front_next text rest behind line count cut is front one goes =
    subst (λ f. IsFront f (count + 1)) (sym (cut_more text rest behind cut is))
    (front_more (take (length text - length rest) text) (take (length rest - length behind) rest) line count front one goes)

pub goes_more : (rest line behind : List ℕ) → lines_of rest ≡ line ∷ lines_of behind → is_end line ≡ false → list_any is_end (lines_of rest) ≡ list_any is_end (lines_of behind)
goes_more rest line behind cut goes =
    ap (list_any is_end) cut ∙ ap (λ b. b || list_any is_end (lines_of behind)) goes

pub goes_none : (s : List ℕ) → length s ≡ 0 → list_any is_end (lines_of s) ≡ false
goes_none s none = ap (list_any is_end) (no_lines s none)

-- the line that ends it
pub cut_ends : (text rest behind line inside : List ℕ) (count : ℕ) → take (length text - length rest) text ++ rest ≡ text → inside ≡ take (length text - length rest) text → lines_of rest ≡ line ∷ lines_of behind → length behind < length rest → IsFront (take (length text - length rest) text) count → is_end line ≡ true → count + length rest ≤ length text → IsCut text inside line behind count
cut_ends text rest behind line inside count cut is lines less front ends size =
    let f : IsFront inside count = subst (λ f. IsFront f count) (sym is) front in
    let t : inside ++ rest ≡ text = ap (λ f. f ++ rest) is ∙ cut in
    record {
      lines = ap lines_of (sym t) ∙ f.whole rest ∙ ap (λ ls. lines_of inside ++ ls) lines;
      goes_on = f.goes_on;
      ends = ends;
      counted = f.counted;
      size = omega arith;
      inside_size = omega (arith, ap length t, length-append inside rest);
    }
