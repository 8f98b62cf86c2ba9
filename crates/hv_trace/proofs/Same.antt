-- No two rows begin alike, so a text has its rows in one way and is refused at one line.
use Rattle.std.proofs.Common.{◌≡◌, inl, inr, ℕ, ◌+◌, ◌≤◌, List, [], ◌∷◌, ◌++◌, length, get_or, take, drop, Option, Some, None, Result, Ok, Err, refl, sym, ap, subst, ◌∙◌, append_assoc, arith}
use Rattle.std.specs.Prelude.{IfOk, IfErr}
use Rattle.std.specs.Global.{Vec}
use Rattle.std.specs.List.{AllByRecursion}
use Rattle.std.proofs.lemmas.List.{length-take, length-drop, take-append-drop}
use Rattle.hv_text.specs.Text.{hex8}
use Rattle.hv_trace.specs.Rows.{IsOfWordsIn, IsUnused}
use Rattle.hv_trace.specs.Text.{IsWordRow, changes_text, row_line, rows_text, tail_text, stored_text}
use Rattle.hv_trace.specs.TextFronts.{StopsAt, next_place, mask_text}
use Rattle.hv_trace.specs.TextLines.{AreWordRows, GivesRows, HasNoRow, IfFault, Refuses, StopsHere, StopsInRows, end_line}
use Rattle.hv_trace.specs.declared.ends.TraceEnd.{TraceEnd}
use Rattle.hv_trace.specs.declared.ends.TraceEnd.TheVariants as ends
use Rattle.hv_trace.specs.declared.ends.TraceKind.{TraceKind}
use Rattle.hv_trace.specs.declared.ends.TraceKind.TheVariants.{Header, Pages, Regs, Page, Row, End}
use Rattle.hv_trace.specs.declared.row.TraceRow.{TraceRow}
use Rattle.hv_trace.specs.declared.row.TraceRow.TheVariants.{Lines, Step}
use Rattle.hv_trace.proofs.Pieces.{change_words, one_word, stored_there}
use Rattle.hv_trace.proofs.Changes.{no_tail, same_changes, take_words}

first_item : (a b : ℕ) (x y : List ℕ) → a ∷ x ≡ b ∷ y → a ≡ b
first_item a b x y e = cc

-- two ends of rows that begin alike are one
one_tail : (a b : Option (ℕ × ℕ)) (x y : List ℕ) → IsOfWordsIn a → IsOfWordsIn b → tail_text a ++ x ≡ tail_text b ++ y
    → (a ≡ b) × (x ≡ y)
one_tail None None x y p q e = (refl, cc)
one_tail None (Some b) x y p q e = absurd (let c : 10 ≡ 32 = ap (λ (xs : List ℕ). get_or xs 0 0) e in omega (arith, c))
one_tail (Some a) None x y p q e = absurd (let c : 32 ≡ 10 = ap (λ (xs : List ℕ). get_or xs 0 0) e in omega (arith, c))
one_tail (Some a) (Some b) x y p q e =
    let inner : stored_text a ++ x ≡ stored_text b ++ y = ap (drop 3) e in
    let there = stored_there (stored_text a ++ x) (10 ∷ x) y a b p (append_assoc _ (10 ∷ []) x) q inner in
    (ap Some there.0, cc there.1)

-- unused pairs are one list of their length
same_unused : (xs ys : List (ℕ × ℕ)) → length xs ≡ length ys → AllByRecursion IsUnused xs → AllByRecursion IsUnused ys
    → xs ≡ ys
same_unused [] [] e p q = refl
same_unused [] (y ∷ ys) e p q = absurd (omega (arith, e))
same_unused (x ∷ xs) [] e p q = absurd (omega (arith, e))
same_unused (x ∷ xs) (y ∷ ys) e p q =
    let head : x ≡ y = p.0 ∙ sym q.0 in
    let rest = same_unused xs ys (omega (arith, e)) p.1 q.1 in
    ap (λ (z : ℕ × ℕ). z ∷ xs) head ∙ ap (λ (zs : List (ℕ × ℕ)). y ∷ zs) rest

-- the changes of two rows that are the same to their length are the same pairs
same_regs : (len n : ℕ) (xs ys : List (ℕ × ℕ)) → len ≤ 8 → n ≤ 8 → length xs ≡ 8 → length ys ≡ 8
    → take len xs ≡ take n ys → AllByRecursion IsUnused (drop len xs) → AllByRecursion IsUnused (drop n ys)
    → (len ≡ n) × (xs ≡ ys)
same_regs len n xs ys p q s t e u v =
    let same : len ≡ n = omega (arith, ap length e, length-take len xs, length-take n ys, p, q, s, t) in
    let tails = same_unused (drop len xs) (drop n ys) (omega (arith, length-drop len xs, length-drop n ys, same, s, t)) u v in (
      same,
      sym (take-append-drop len xs) ∙ ap (λ (z : List (ℕ × ℕ)). z ++ drop len xs) e
          ∙ ap (λ (z : List (ℕ × ℕ)). take n ys ++ z) tails ∙ take-append-drop n ys,
    )

-- two rows that begin alike are one
pub one_row : (words : ℕ) (a b : TraceRow) (x y : List ℕ) → IsWordRow words a → IsWordRow words b
    → row_line a ++ x ≡ row_line b ++ y → (a ≡ b) × (x ≡ y)
one_row words (Lines m) (Lines n) x y p q e =
    let inner : mask_text m ++ x ≡ mask_text n ++ y = ap (drop 2) e in
    let word = one_word m n (10 ∷ x) (10 ∷ y) p.1 q.1
    (sym (append_assoc (hex8 m) (10 ∷ []) x) ∙ inner ∙ append_assoc (hex8 n) (10 ∷ []) y) in
    (ap (λ (k : ℕ). Lines k) word.0, cc word.1)
one_row words (Lines m) (Step pc len regs mem) x y p q e =
    absurd (let c : 108 ≡ 115 = ap (λ (xs : List ℕ). get_or xs 0 0) e in omega (arith, c))
one_row words (Step pc len regs mem) (Lines n) x y p q e =
    absurd (let c : 115 ≡ 108 = ap (λ (xs : List ℕ). get_or xs 0 0) e in omega (arith, c))
one_row words (Step pc len regs mem) (Step qc n rs nem) x y p q e =
    let inner : (hex8 pc ++ changes_text (take len regs) ++ tail_text mem) ++ x
    ≡ (hex8 qc ++ changes_text (take n rs) ++ tail_text nem) ++ y = ap (drop 2) e in
    let parts : (pc : ℕ) (cs : List (ℕ × ℕ)) (t x : List ℕ)
    → (hex8 pc ++ changes_text cs ++ t) ++ x ≡ hex8 pc ++ (changes_text cs ++ (t ++ x)) =
    λ pc cs t x. append_assoc (hex8 pc ++ changes_text cs) t x ∙ append_assoc (hex8 pc) (changes_text cs) (t ++ x) in
    let word = one_word pc qc (changes_text (take len regs) ++ (tail_text mem ++ x)) (changes_text (take n rs) ++ (tail_text nem ++ y))
    p.1.0 q.1.0 (sym (parts pc (take len regs) (tail_text mem) x) ∙ inner ∙ parts qc (take n rs) (tail_text nem) y) in
    let stops : StopsAt 8 (next_place 0 (take len regs)) (tail_text mem ++ x) =
    λ change behind some le is f. no_tail change behind x mem (change_words change is) (sym f) in
    let changes = same_changes 0 8 (take len regs) (take n rs) (tail_text mem ++ x) y nem
    (take_words len regs p.1.2) (take_words n rs q.1.2) q.0.rising
    (omega (arith, length-take n rs, q.0.few)) stops word.1 in
    let tails = one_tail mem nem x y p.1.3 q.1.3 changes.1 in
    let regs_same = same_regs len n regs rs p.0.few q.0.few p.1.1 q.1.1 changes.0 p.0.unused q.0.unused in (
      ap (λ (k : ℕ). Step k len regs mem) word.0 ∙ ap (λ (k : ℕ). Step qc k regs mem) regs_same.0
          ∙ ap (λ (k : List (ℕ × ℕ)). Step qc n k mem) regs_same.1 ∙ ap (λ (k : Option (ℕ × ℕ)). Step qc n rs k) tails.0,
      tails.1,
    )

-- ---- rows, and the line at which a text is refused

-- no row is the end line, nor the front of it
no_end : (row : TraceRow) (x y : List ℕ) → row_line row ++ x ≡ 101 ∷ y → ⊥
no_end (Lines m) x y e = let c : 108 ≡ 101 = ap (λ (xs : List ℕ). get_or xs 0 0) e in omega (arith, c)
no_end (Step pc len regs mem) x y e = let c : 115 ≡ 101 = ap (λ (xs : List ℕ). get_or xs 0 0) e in omega (arith, c)

no_empty : (row : TraceRow) (x : List ℕ) → row_line row ++ x ≡ [] → ⊥
no_empty (Lines m) x e = cc e
no_empty (Step pc len regs mem) x e = cc e

-- no row stands where a text is refused
no_row_here : (words line at : ℕ) (text : List ℕ) (kind : TraceKind) → StopsHere words line text at kind → HasNoRow words text
no_row_here words line at text Row h = h.1.row
no_row_here words line at text End (inl (here, inl nothing)) = λ row behind is e. no_empty row behind (sym e ∙ nothing)
no_row_here words line at text End (inl (here, inr cut)) = λ row behind is e. no_end row behind (110 ∷ 100 ∷ []) (sym e ∙ cut)
no_row_here words line at text End (inr (there, more)) = λ row behind is e.
    no_end row behind (110 ∷ 100 ∷ 10 ∷ more.0) (sym e ∙ more.1)
no_row_here words line at text Header h = absurd h
no_row_here words line at text Pages h = absurd h
no_row_here words line at text Regs h = absurd h
no_row_here words line at text Page h = absurd h

-- of a text that is refused before any row of it, where no other row is, one line and kind are told
one_stop : (words line at bt : ℕ) (text : List ℕ) (kind sort : TraceKind) → StopsHere words line text at kind
    → StopsHere words line text bt sort → (at ≡ bt) × (kind ≡ sort)
one_stop words line at bt text Row Row h k = (h.0 ∙ sym k.0, refl)
one_stop words line at bt text Row End h (inl (here, inl nothing)) = absurd (h.1.some nothing)
one_stop words line at bt text Row End h (inl (here, inr cut)) = absurd (h.1.cut cut)
one_stop words line at bt text Row End h (inr (there, more)) = absurd (h.1.last more.0 more.1)
one_stop words line at bt text End Row (inl (here, inl nothing)) k = absurd (k.1.some nothing)
one_stop words line at bt text End Row (inl (here, inr cut)) k = absurd (k.1.cut cut)
one_stop words line at bt text End Row (inr (there, more)) k = absurd (k.1.last more.0 more.1)
one_stop words line at bt text End End (inl h) (inl k) = (h.0 ∙ sym k.0, refl)
one_stop words line at bt text End End (inr h) (inr k) = (h.0 ∙ sym k.0, refl)
one_stop words line at bt text End End (inl (here, inl nothing)) (inr (there, more)) = absurd (cc (nothing, more.1))
one_stop words line at bt text End End (inl (here, inr cut)) (inr (there, more)) = absurd (cc (cut, more.1))
one_stop words line at bt text End End (inr (there, more)) (inl (here, inl nothing)) = absurd (cc (nothing, more.1))
one_stop words line at bt text End End (inr (there, more)) (inl (here, inr cut)) = absurd (cc (cut, more.1))
one_stop words line at bt text Header sort h k = absurd h
one_stop words line at bt text Pages sort h k = absurd h
one_stop words line at bt text Regs sort h k = absurd h
one_stop words line at bt text Page sort h k = absurd h
one_stop words line at bt text Row Header h k = absurd k
one_stop words line at bt text Row Pages h k = absurd k
one_stop words line at bt text Row Regs h k = absurd k
one_stop words line at bt text Row Page h k = absurd k
one_stop words line at bt text End Header h k = absurd k
one_stop words line at bt text End Pages h k = absurd k
one_stop words line at bt text End Regs h k = absurd k
one_stop words line at bt text End Page h k = absurd k

-- a text has its rows in one way, where no row stands behind them
pub same_rows : (words : ℕ) (rs ss : List TraceRow) (x y : List ℕ) → AreWordRows words rs → AreWordRows words ss
    → HasNoRow words x → HasNoRow words y → rows_text rs ++ x ≡ rows_text ss ++ y → (rs ≡ ss) × (x ≡ y)
same_rows words [] [] x y p q s t e = (refl, e)
same_rows words [] (b ∷ ss) x y p q s t e = absurd (s b (rows_text ss ++ y) q.0 (e ∙ append_assoc (row_line b) (rows_text ss) y))
same_rows words (a ∷ rs) [] x y p q s t e =
    absurd (t a (rows_text rs ++ x) p.0 (sym e ∙ append_assoc (row_line a) (rows_text rs) x))
same_rows words (a ∷ rs) (b ∷ ss) x y p q s t e =
    let one = one_row words a b (rows_text rs ++ x) (rows_text ss ++ y) p.0 q.0
    (sym (append_assoc (row_line a) (rows_text rs) x) ∙ e ∙ append_assoc (row_line b) (rows_text ss) y) in
    let more = same_rows words rs ss x y p.1 q.1 s t one.1 in
    (ap (λ (z : TraceRow). z ∷ rs) one.0 ∙ ap (λ (zs : List TraceRow). b ∷ zs) more.0, more.1)

-- no row stands in the place of the end line
pub end_has_no_row : (words : ℕ) → HasNoRow words end_line
end_has_no_row words row behind is e = no_end row behind (110 ∷ 100 ∷ 10 ∷ []) (sym e)

-- a text is refused at one line, with one kind
pub one_refusal : (words line at bt : ℕ) (text : List ℕ) (kind sort : TraceKind) → StopsInRows words line text at kind
    → StopsInRows words line text bt sort → (at ≡ bt) × (kind ≡ sort)
one_refusal words line at bt text kind sort (rs, x, p, cut, stop) (ss, y, q, cut', stop') =
    let same = same_rows words rs ss x y p q (no_row_here words (line + length rs) at x kind stop)
    (no_row_here words (line + length ss) bt y sort stop') (sym cut ∙ cut') in
    let there : StopsHere words (line + length rs) x bt sort =
    subst (λ (z : List ℕ). StopsHere words (line + length rs) z bt sort) (sym same.1)
    (subst (λ (n : ℕ). StopsHere words (line + n) y bt sort) (sym (ap length same.0)) stop') in
    one_stop words (line + length rs) at bt x kind sort stop there

-- the end line isn't refused
end_is_good : (words line at : ℕ) (kind : TraceKind) → StopsHere words line end_line at kind → ⊥
end_is_good words line at Row h = h.1.last [] refl
end_is_good words line at End (inl (here, inl nothing)) = cc nothing
end_is_good words line at End (inl (here, inr cut)) = cc cut
end_is_good words line at End (inr (there, more)) = more.2 (sym (ap (drop 4) more.1))
end_is_good words line at Header h = h
end_is_good words line at Pages h = h
end_is_good words line at Regs h = h
end_is_good words line at Page h = h

-- a text of rows and the end line isn't refused
pub not_refused : (words line at : ℕ) (rows : List TraceRow) (text : List ℕ) (kind : TraceKind) → AreWordRows words rows
    → text ≡ rows_text rows ++ end_line → StopsInRows words line text at kind → ⊥
not_refused words line at rows text kind p e (ss, y, q, cut, stop) =
    let same = same_rows words rows ss end_line y p q (end_has_no_row words)
    (no_row_here words (line + length ss) at y kind stop) (sym e ∙ cut) in
    end_is_good words (line + length ss) at kind
    (subst (λ (z : List ℕ). StopsHere words (line + length ss) z at kind) (sym same.1) stop)

-- ---- what a reader answers

pub reads_them : (words first : ℕ) (text : List ℕ) (r : Result (Vec TraceRow) TraceEnd)
    → IfOk r (λ rows. AreWordRows words rows.items × (text ≡ rows_text rows.items ++ end_line))
    → IfErr r (λ e. IfFault (StopsInRows words first text) e)
    → (rows : List TraceRow) → AreWordRows words rows → text ≡ rows_text rows ++ end_line → GivesRows rows r
reads_them words first text (Ok read) ok err rows p e =
    (same_rows words read.items rows end_line end_line ok.0 p (end_has_no_row words) (end_has_no_row words) (sym ok.1 ∙ e)).0
reads_them words first text (Err (ends.TraceFault line kind)) ok err rows p e =
    not_refused words first line rows text kind p e err
reads_them words first text (Err ends.Memory) ok err rows p e = tt

pub refuses_there : (words first : ℕ) (text : List ℕ) (r : Result (Vec TraceRow) TraceEnd)
    → IfOk r (λ rows. AreWordRows words rows.items × (text ≡ rows_text rows.items ++ end_line))
    → IfErr r (λ e. IfFault (StopsInRows words first text) e)
    → (at : ℕ) (kind : TraceKind) → StopsInRows words first text at kind → Refuses at kind r
refuses_there words first text (Ok read) ok err at kind stop =
    not_refused words first at read.items text kind ok.0 ok.1 stop
refuses_there words first text (Err (ends.TraceFault line told)) ok err at kind stop =
    one_refusal words first line at text told kind err stop
refuses_there words first text (Err ends.Memory) ok err at kind stop = tt
