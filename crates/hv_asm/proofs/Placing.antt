-- The labels of lines, one more at a time.
use Rattle.std.proofs.Common.{◌≡◌, ℕ, ◌+◌, ◌<◌, Bool, true, false, cond, List, [], ◌∷◌, ◌++◌, length, Option, Some, None, refl, sym, ap, ◌∙◌, subst, arith, length-append, append_assoc, append-nil}
use Rattle.std.specs.Prelude.{All, find, nat_lt}
use Rattle.std.specs.Option.{option_map, option_or}
use Rattle.std.specs.Str.{bytes_eq}
use Rattle.std.proofs.lemmas.Bool.{false_from_ne_true, ltb-true}
use Rattle.std.proofs.lemmas.List.{nil_from_length, get_or_append_left}
use Rattle.std.proofs.lemmas.List.Elements.{All-contains, Contains-push}
use Rattle.std.proofs.lemmas.List.Folds.{find-append}
use Rattle.hv_lex.specs.Lines.{lines_of, cut_of}
use Rattle.hv_asm.specs.Assembly.{place_from, is_before, is_label, repeats}
use Rattle.hv_asm.specs.Definitions.{IsFound, IsNoted, place_among}
use Rattle.hv_asm.specs.Labels.{first_of, kept, noted}
use Rattle.hv_asm.specs.declared.labels.Definition.{Definition}
use Rattle.hv_asm.specs.Operands.{Reading, Nothing, read_of, size_of}
use Rattle.hv_asm.specs.Outlines.{AreIdle, NoneRepeats}
use Rattle.hv_asm.specs.declared.labels.Place.{Place}

abbrev pub Places : Type 0
Places = List ℕ → Option Place

first_alone : (o : Option Place) → o ≡ first_of o None
first_alone (Some p) = refl
first_alone None = refl

first_kept : (find : Places) (name : List ℕ) (place : Place) (q : List ℕ) (rest : Option Place) → first_of (kept find name place q) rest ≡ first_of (find q) (cond (bytes_eq name q) (Some place) rest)
first_kept find name place q rest =
    elim (find q) as (λ o. first_of (first_of o (cond (bytes_eq name q) (Some place) None)) rest ≡ first_of o (cond (bytes_eq name q) (Some place) rest)) [
      | Some p ↦ refl
      | None ↦ elim (bytes_eq name q) as (λ b. first_of (cond b (Some place) None) rest ≡ cond b (Some place) rest) [ true ↦ refl | false ↦ refl ]
    ]

first_noted : (find : Places) (label : Option (List ℕ)) (place : Place) (q : List ℕ) (rest : Option Place) → first_of (noted find label place q) rest ≡ first_of (find q) (cond (is_label q label) (Some place) rest)
first_noted find (Some name) place q rest = first_kept find name place q rest
first_noted find None place q rest = refl

-- one more line
pub place_more : (find new : Places) (n at size : ℕ) (line s behind : List ℕ) (r : Reading) (q : List ℕ) (all : Option Place) → lines_of s ≡ line ∷ lines_of behind → r ≡ read_of line → size ≡ size_of r.deed → new q ≡ noted find r.label (record { line = n; at = at }) q → first_of (find q) (place_from n at (lines_of s) q) ≡ all → first_of (new q) (place_from (n + 1) (at + size) (lines_of behind) q) ≡ all
unfolding place_from
place_more find new n at size line s behind r q all cut reads sized noted told =
    ap (λ o. first_of o (place_from (n + 1) (at + size) (lines_of behind) q)) noted
    ∙ first_noted find r.label (record { line = n; at = at }) q (place_from (n + 1) (at + size) (lines_of behind) q)
    ∙ ap (λ z. first_of (find q) (cond (is_label q r.label) (Some (record { line = n; at = at })) (place_from (n + 1) (at + z) (lines_of behind) q))) sized
    ∙ ap (λ (r : Reading). first_of (find q) (cond (is_label q r.label) (Some (record { line = n; at = at })) (place_from (n + 1) (at + size_of r.deed) (lines_of behind) q))) reads
    ∙ ap (λ ls. first_of (find q) (place_from n at ls q)) (sym cut) ∙ told

pub place_end : (find : Places) (n at : ℕ) (s q : List ℕ) (all : Option Place) → length s ≡ 0 → first_of (find q) (place_from n at (lines_of s) q) ≡ all → find q ≡ all
unfolding place_from lines_of cut_of
place_end find n at s q all none told =
    first_alone (find q) ∙ ap (λ s. first_of (find q) (place_from n at (lines_of s) q)) (sym (nil_from_length s none)) ∙ told

-- one more definition
among_cases : (o : Option Definition) (d : Definition) (b : Bool) → option_map (λ (d : Definition). d.place) (option_or o (cond b (Some d) None)) ≡ first_of (option_map (λ (d : Definition). d.place) o) (cond b (Some d.place) None)
among_cases (Some e) d b = refl
among_cases None d true = refl
among_cases None d false = refl

among_more : (ds : List Definition) (d : Definition) (q : List ℕ) → place_among (ds ++ d ∷ []) q ≡ kept (place_among ds) d.name.bytes.now d.place q
among_more ds d q =
    ap (option_map (λ (d : Definition). d.place)) (find-append (λ (d : Definition). bytes_eq d.name.bytes.now q) ds (d ∷ []))
    ∙ among_cases (find (λ (d : Definition). bytes_eq d.name.bytes.now q) ds) d (bytes_eq d.name.bytes.now q)

pub among_noted : (old new : List Definition) (label : Option (List ℕ)) (place : Place) (q : List ℕ) → IsNoted old new label place → place_among new q ≡ noted (place_among old) label place q
among_noted old new None place q is = ap (λ ds. place_among ds q) is
among_noted old new (Some name) place q is =
    ap (λ ds. place_among ds q) is.1 ∙ among_more old is.0 q ∙ ap (λ n. kept (place_among old) n is.0.place q) is.2
    ∙ ap (λ (p : Place). kept (place_among old) name p q) is.3

-- a line whose name is found at it repeats no other
not_before : (n : ℕ) → nat_lt n n ≡ false
not_before n = false_from_ne_true _ (λ e. let less : n < n = ltb-true n n e in let none : ⊥ = omega arith in none)

found_noted : (find : Places) (n at : ℕ) (old new : List Definition) (label : Option (List ℕ)) → IsNoted old new label (record { line = n; at = at }) → All (IsFound find) new → (repeats find n label ≡ false) × All (IsFound find) old
found_noted find n at old new None is all = (refl, subst (All (IsFound find)) is all)
found_noted find n at old new (Some name) is all =
    let d : Definition = is.0 in
    let pushed : All (IsFound find) (old ++ d ∷ []) = subst (All (IsFound find)) is.1 all in
    let place : Place = record { line = n; at = at } in
    let last : find d.name.bytes.now ≡ Some d.place = All-contains (IsFound find) (old ++ d ∷ []) d pushed (Contains-push old d) in
    let here : find name ≡ Some place = ap find (sym is.2) ∙ last ∙ ap (λ (p : Place). Some p) is.3 in
    (ap (is_before n) here ∙ not_before n, All-front (IsFound find) old (d ∷ []) pushed)
  where
    All-front : {X : Type 0} (P : X → Type 0) (xs ys : List X) → All P (xs ++ ys) → All P xs
    All-front P xs ys all k e lt = subst P (get_or_append_left xs ys e k lt) (all k e (omega (arith, length-append xs ys)))

-- the lines behind, where no label of these repeats one
module _ (find : Places) (n : ℕ) (line s behind : List ℕ) (r : Reading) (cut : lines_of s ≡ line ∷ lines_of behind) (reads : r ≡ read_of line) where
  pub none_behind : NoneRepeats find n (lines_of s) → (repeats find n r.label ≡ false) × NoneRepeats find (n + 1) (lines_of behind)
  unfolding NoneRepeats
  none_behind none =
      let both : NoneRepeats find n (line ∷ lines_of behind) = subst (NoneRepeats find n) cut none in
      (ap (λ (r : Reading). repeats find n r.label) reads ∙ both.0, both.1)

  pub none_before : repeats find n r.label ≡ false → NoneRepeats find (n + 1) (lines_of behind) → NoneRepeats find n (lines_of s)
  unfolding NoneRepeats
  none_before here none =
      let both : NoneRepeats find n (line ∷ lines_of behind) = (ap (λ (r : Reading). repeats find n r.label) (sym reads) ∙ here, none) in
      subst (NoneRepeats find n) (sym cut) both

-- one more line, whose definition is noted
pub none_more : (find : Places) (n at : ℕ) (line s behind : List ℕ) (r : Reading) (old new : List Definition) (all : Type 0) → lines_of s ≡ line ∷ lines_of behind → r ≡ read_of line → IsNoted old new r.label (record { line = n; at = at }) → (All (IsFound find) old → NoneRepeats find n (lines_of s) → all) → All (IsFound find) new → NoneRepeats find (n + 1) (lines_of behind) → all
none_more find n at line s behind r old new all cut reads noted told found none =
    let both = found_noted find n at old new r.label noted found in
    told both.1 (none_before find n line s behind r cut reads both.0 none)

pub none_end : (find : Places) (n : ℕ) (s : List ℕ) → length s ≡ 0 → NoneRepeats find n (lines_of s)
unfolding NoneRepeats lines_of cut_of
none_end find n s empty = subst (λ s. NoneRepeats find n (lines_of s)) (sym (nil_from_length s empty)) tt

-- one more flag
pub idle_more : (line s behind : List ℕ) (r : Reading) (old new : List Bool) (flag : Bool) (all : List (List ℕ)) → lines_of s ≡ line ∷ lines_of behind → r ≡ read_of line → (flag ≡ true → r.deed ≡ Nothing) → new ≡ old ++ flag ∷ [] → ((others : List Bool) → AreIdle others (lines_of s) → AreIdle (old ++ others) all) → (others : List Bool) → AreIdle others (lines_of behind) → AreIdle (new ++ others) all
unfolding AreIdle
idle_more line s behind r old new flag all cut reads idle pushed told others rest =
    let here : AreIdle (flag ∷ others) (line ∷ lines_of behind) = (λ set. ap (λ (r : Reading). r.deed) (sym reads) ∙ idle set, rest) in
    let there : AreIdle (flag ∷ others) (lines_of s) = subst (AreIdle (flag ∷ others)) (sym cut) here in
    subst (λ fs. AreIdle fs all) (sym (append_assoc old (flag ∷ []) others) ∙ ap (λ fs. fs ++ others) (sym pushed)) (told (flag ∷ others) there)

pub idle_end : (flags : List Bool) (s : List ℕ) (all : List (List ℕ)) → ((others : List Bool) → AreIdle others (lines_of s) → AreIdle (flags ++ others) all) → AreIdle flags all
unfolding AreIdle
idle_end flags s all told = subst (λ fs. AreIdle fs all) (append-nil flags) (told [] tt)

-- the flags of the lines behind
pub idle_behind : (flags : List Bool) (line s behind : List ℕ) → lines_of s ≡ line ∷ lines_of behind → AreIdle flags (lines_of s) → AreIdle flags (line ∷ lines_of behind)
idle_behind flags line s behind cut idle = subst (AreIdle flags) cut idle

pub flag_first : (flags others : List Bool) (flag : Bool) → flags ≡ flag ∷ others → (line : List ℕ) (lines : List (List ℕ)) → AreIdle flags (line ∷ lines) → (flag ≡ true → (read_of line).deed ≡ Nothing) × AreIdle others lines
unfolding AreIdle
flag_first flags others flag is line lines idle = subst (λ fs. AreIdle fs (line ∷ lines)) is idle

pub flag_none : (flags : List Bool) → length flags ≡ 0 → (line : List ℕ) (lines : List (List ℕ)) → (false ≡ true → (read_of line).deed ≡ Nothing) × AreIdle flags lines
unfolding AreIdle
flag_none flags is line lines =
    let unset : false ≡ true → (read_of line).deed ≡ Nothing = λ set. cc in
    (unset, subst (λ fs. AreIdle fs lines) (sym (nil_from_length flags is)) tt)
