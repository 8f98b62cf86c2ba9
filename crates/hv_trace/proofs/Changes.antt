-- The changes of a step's row: how they are gathered from the front, and that no two rows begin alike.
use Rattle.std.proofs.Common.{◌≡◌, ℕ, zero, suc, ◌+◌, ◌-◌, ◌<◌, ◌≤◌, List, [], ◌∷◌, ◌++◌, length, get_or, set, take, drop, Option, Some, None, refl, sym, ap, subst, ◌∙◌, append_assoc, arith, decimal}
use Rattle.std.specs.List.{AllByRecursion}
use Rattle.std.specs.Str.Parse.{AllDigits}
use Rattle.std.proofs.lemmas.Fmt.{decimal_is_IsNumeral}
use Rattle.std.proofs.lemmas.Str.Parse.{digit_at}
use Rattle.std.proofs.lemmas.List.{take_more, take_more_set, drop-set-lt, drop_more, length-set, length-take, length-append, append-nil}
use Rattle.hv_text.specs.Text.{hex8}
use Rattle.hv_trace.specs.Rows.{AreRows, HasRoom, IsOfWords, IsRisingFrom, IsUnused}
use Rattle.hv_trace.specs.Text.{IsChange, IsWord, IsWordRow, row_line, rows_text, change_text, changes_text, number_text, pair_text, stored_text, tail_text}
use Rattle.hv_trace.specs.TextFronts.{AreFront, IsMask, IsTold, mask_text, StopsAt, next_place, told_text}
use Rattle.hv_trace.specs.declared.row.TraceRow.{TraceRow}
use Rattle.hv_trace.specs.declared.row.TraceRow.TheVariants.{Lines, Step}
use Rattle.hv_trace.specs.declared.text_rows.Told.{Told}
use Rattle.hv_trace.proofs.Pieces.{change_words, one_change, one_word}

-- ---- one more change

rising_more : (k : ℕ) (cs : List (ℕ × ℕ)) (c : ℕ × ℕ) → IsRisingFrom k cs → next_place k cs ≤ c.0 → c.0 < 50
    → IsRisingFrom k (cs ++ c ∷ [])
rising_more k [] c h le lt = (le, lt, tt)
rising_more k (b ∷ bs) c h le lt = (h.0, h.1, rising_more (b.0 + 1) bs c h.2 le lt)

next_more : (k : ℕ) (cs : List (ℕ × ℕ)) (c : ℕ × ℕ) → next_place k (cs ++ c ∷ []) ≡ c.0 + 1
next_more k [] c = refl
next_more k (b ∷ bs) c = next_more (b.0 + 1) bs c

changes_more : (cs : List (ℕ × ℕ)) (c : ℕ × ℕ) (rest : List ℕ)
    → changes_text cs ++ (change_text c ++ rest) ≡ changes_text (cs ++ c ∷ []) ++ rest
changes_more [] c rest = ap (λ (text : List ℕ). text ++ rest) (sym (append-nil (change_text c)))
changes_more (b ∷ bs) c rest =
    append_assoc (change_text b) (changes_text bs) (change_text c ++ rest)
    ∙ ap (λ (text : List ℕ). change_text b ++ text) (changes_more bs c rest)
    ∙ sym (append_assoc (change_text b) (changes_text (bs ++ c ∷ [])) rest)

words_set : (xs : List (ℕ × ℕ)) (i : ℕ) (c : ℕ × ℕ) → AllByRecursion IsOfWords xs → IsOfWords c
    → AllByRecursion IsOfWords (set xs i c)
words_set [] i c all h = tt
words_set (x ∷ xs) zero c all h = (h, all.1)
words_set (x ∷ xs) (suc i) c all h = (all.0, words_set xs i c all.1 h)

unused_more : (xs : List (ℕ × ℕ)) (i : ℕ) (c : ℕ × ℕ) → i < length xs → AllByRecursion IsUnused (drop i xs)
    → AllByRecursion IsUnused (drop (i + 1) (set xs i c))
unused_more xs i c lt all =
    let rest : AllByRecursion IsUnused (drop (i + 1) xs) =
    (subst (λ (ys : List (ℕ × ℕ)). AllByRecursion IsUnused ys) (drop_more xs i (0, 0) lt) all).1 in
    subst (λ (ys : List (ℕ × ℕ)). AllByRecursion IsUnused ys) (sym (drop-set-lt (i + 1) xs i c (omega arith))) rest

pub front_more : (text rest behind : List ℕ) (regs : List (ℕ × ℕ)) (len : ℕ) (c : ℕ × ℕ) → AreFront text regs len rest
    → len < 8 → IsChange c → next_place 0 (take len regs) ≤ c.0 → rest ≡ change_text c ++ behind
    → AreFront text (set regs len c) (len + 1) behind
front_more text rest behind regs len c h lt fits le cut =
    let below : len < length regs = omega (arith, h.size) in
    let more = take_more_set regs len c below in
    record {
      few = omega arith;
      size = length-set regs len c ∙ h.size;
      rising = subst (λ (cs : List (ℕ × ℕ)). IsRisingFrom 0 cs) (sym more) (rising_more 0 (take len regs) c h.rising le fits.0);
      unused = unused_more regs len c below h.unused;
      words = words_set regs len c h.words (change_words c fits);
      parts =
          h.parts ∙ ap (λ (text : List ℕ). changes_text (take len regs) ++ text) cut
          ∙ changes_more (take len regs) c behind ∙ ap (λ (cs : List (ℕ × ℕ)). changes_text cs ++ behind) (sym more);
    }

pub next_is : (regs : List (ℕ × ℕ)) (len : ℕ) (c : ℕ × ℕ) → len < 8 → length regs ≡ 8
    → next_place 0 (take (len + 1) (set regs len c)) ≡ c.0 + 1
next_is regs len c lt size =
    ap (next_place 0) (take_more_set regs len c (omega (arith, size))) ∙ next_more 0 (take len regs) c

-- a change that is at the front, but of an earlier place
pub too_early : (text rest : List ℕ) (room least : ℕ) (c : ℕ × ℕ) → IsChange c → text ≡ change_text c ++ rest
    → c.0 < least → StopsAt room least text
too_early text rest room least c fits cut lt = λ change behind some le is e.
    let same = one_change c change rest behind (change_words c fits) (change_words change is) (sym cut ∙ e) in
    let place : c.0 ≡ change.0 = ap (λ (p : ℕ × ℕ). p.0) same.0 in
    omega arith

-- ---- the changes of two rows that begin alike

-- digits begin with no `m`
no_m : (cs x y : List ℕ) → 0 < length cs → AllDigits 10 cs → cs ++ x ≡ 109 ∷ y → ⊥
no_m [] x y some all e = omega arith
no_m (c ∷ cs) x y some all e =
    let first : c ≡ 109 = cc in
    let digit = digit_at (c ∷ cs) 0 all (omega arith) in
    omega (arith, digit, first)

-- a change is no row's end
pub no_tail : (c : ℕ × ℕ) (x y : List ℕ) (mem : Option (ℕ × ℕ)) → IsOfWords c
    → change_text c ++ x ≡ tail_text mem ++ y → ⊥
no_tail c x y None h e = cc
no_tail c x y (Some m) h e =
    let is = decimal_is_IsNumeral c.0 (omega (arith, h.0)) in
    let inner : pair_text c ++ x ≡ 109 ∷ 32 ∷ (stored_text m ++ y) = cc in
    no_m (decimal c.0) (58 ∷ (hex8 c.1 ++ x)) (32 ∷ (stored_text m ++ y)) is.0.0 is.0.1
    (sym (append_assoc (number_text c.0) (hex8 c.1) x ∙ append_assoc (decimal c.0) (58 ∷ []) (hex8 c.1 ++ x)) ∙ inner)

-- where as many changes were gathered as there are, the rows have the same, and what is behind them is the row's end
pub same_changes : (k room : ℕ) (cs ds : List (ℕ × ℕ)) (rest behind : List ℕ) (mem : Option (ℕ × ℕ))
    → AllByRecursion IsOfWords cs → AllByRecursion IsOfWords ds → IsRisingFrom k ds
    → length ds ≤ length cs + room → StopsAt room (next_place k cs) rest
    → changes_text cs ++ rest ≡ changes_text ds ++ (tail_text mem ++ behind)
    → (cs ≡ ds) × (rest ≡ tail_text mem ++ behind)
same_changes k room [] [] rest behind mem p q rising few stops e = (refl, e)
same_changes k room [] (d ∷ ds) rest behind mem p q rising few stops e =
    absurd (stops d (changes_text ds ++ (tail_text mem ++ behind)) (omega arith) rising.0 (rising.1, q.0.1)
    (e ∙ append_assoc (change_text d) (changes_text ds) (tail_text mem ++ behind)))
same_changes k room (c ∷ cs) [] rest behind mem p q rising few stops e =
    absurd (no_tail c (changes_text cs ++ rest) behind mem p.0
    (sym (append_assoc (change_text c) (changes_text cs) rest) ∙ e))
same_changes k room (c ∷ cs) (d ∷ ds) rest behind mem p q rising few stops e =
    let heads = one_change c d (changes_text cs ++ rest) (changes_text ds ++ (tail_text mem ++ behind)) p.0 q.0
    (sym (append_assoc (change_text c) (changes_text cs) rest) ∙ e
    ∙ append_assoc (change_text d) (changes_text ds) (tail_text mem ++ behind)) in
    let place : c.0 + 1 ≡ d.0 + 1 = ap (λ (x : ℕ × ℕ). x.0 + 1) heads.0 in
    let rises : IsRisingFrom (c.0 + 1) ds = subst (λ (n : ℕ). IsRisingFrom n ds) (sym place) rising.2 in
    let more = same_changes (c.0 + 1) room cs ds rest behind mem p.1 q.1 rises (omega arith) stops heads.1 in
    ((let one = heads.0 in let others = more.0 in cc), more.1)

-- ---- the step that a text begins with

-- the parts of a step's row
pub told_parts : (told : Told) (behind : List ℕ)
    → told_text told ++ behind ≡ hex8 told.pc ++ (changes_text (take told.len told.regs) ++ (tail_text told.mem ++ behind))
told_parts told behind =
    append_assoc (hex8 told.pc ++ changes_text (take told.len told.regs)) (tail_text told.mem) behind
    ∙ append_assoc (hex8 told.pc) (changes_text (take told.len told.regs)) (tail_text told.mem ++ behind)

pub take_words : (n : ℕ) (xs : List (ℕ × ℕ)) → AllByRecursion IsOfWords xs → AllByRecursion IsOfWords (take n xs)
take_words zero xs all = tt
take_words (suc n) [] all = tt
take_words (suc n) (x ∷ xs) all = (all.0, take_words n xs all.1)

pub tail_there : (words pc : ℕ) (text inner rest behind : List ℕ) (len : ℕ) (regs : List (ℕ × ℕ)) (told : Told)
    → IsWord pc → text ≡ hex8 pc ++ inner → AreFront inner regs len rest
    → StopsAt (8 - len) (next_place 0 (take len regs)) rest
    → IsTold words told → text ≡ told_text told ++ behind → rest ≡ tail_text told.mem ++ behind
tail_there words pc text inner rest behind len regs told small cut front stops is e =
    let word = one_word pc told.pc inner (changes_text (take told.len told.regs) ++ (tail_text told.mem ++ behind))
    small is.pc (sym cut ∙ e ∙ told_parts told behind) in
    (same_changes 0 (8 - len) (take len regs) (take told.len told.regs) rest behind told.mem
    (take_words len regs front.words) (take_words told.len told.regs is.words_in_regs) is.changes.rising
    (omega (arith, length-take len regs, length-take told.len told.regs, front.size, front.few, is.size, is.changes.few))
    stops (sym front.parts ∙ word.1)).1

-- ---- the row that a text begins with

pub no_lines : (words : ℕ) (inner text behind : List ℕ) (row : TraceRow)
    → ((mask : ℕ) (behind : List ℕ) → IsMask mask → inner ≡ mask_text mask ++ behind → ⊥)
    → text ≡ 108 ∷ 32 ∷ inner → IsWordRow words row → text ≡ row_line row ++ behind → ⊥
no_lines words inner text behind (Lines mask) none first is e = none mask behind is (ap (drop 2) (sym first ∙ e))
no_lines words inner text behind (Step pc len regs mem) none first is e =
    let letters : 108 ≡ 115 = ap (λ (xs : List ℕ). get_or xs 0 0) (sym first ∙ e) in absurd (omega (arith, letters))

pub no_step : (words : ℕ) (inner text behind : List ℕ) (row : TraceRow)
    → ((told : Told) (behind : List ℕ) → IsTold words told → inner ≡ told_text told ++ behind → ⊥)
    → text ≡ 115 ∷ 32 ∷ inner → IsWordRow words row → text ≡ row_line row ++ behind → ⊥
no_step words inner text behind (Lines mask) none first is e =
    let letters : 115 ≡ 108 = ap (λ (xs : List ℕ). get_or xs 0 0) (sym first ∙ e) in absurd (omega (arith, letters))
no_step words inner text behind (Step pc len regs mem) none first is e =
    none (record { pc = pc; len = len; regs = regs; mem = mem }) behind
    (record { changes = is.0; pc = is.1.0; size = is.1.1; words_in_regs = is.1.2; words_in_mem = is.1.3 }) (ap (drop 2) (sym first ∙ e))

pub no_row : (words : ℕ) (text behind : List ℕ) (row : TraceRow)
    → ((inner : List ℕ) → text ≡ 108 ∷ 32 ∷ inner → ⊥) → ((inner : List ℕ) → text ≡ 115 ∷ 32 ∷ inner → ⊥)
    → text ≡ row_line row ++ behind → ⊥
no_row words text behind (Lines mask) none other e = none (mask_text mask ++ behind) e
no_row words text behind (Step pc len regs mem) none other e =
    other (told_text (record { pc = pc; len = len; regs = regs; mem = mem }) ++ behind) e

-- ---- one more row

rows_more : (rows : List TraceRow) (row : TraceRow) (rest : List ℕ)
    → rows_text rows ++ (row_line row ++ rest) ≡ rows_text (rows ++ row ∷ []) ++ rest
rows_more [] row rest = ap (λ (text : List ℕ). text ++ rest) (sym (append-nil (row_line row)))
rows_more (r ∷ rs) row rest =
    append_assoc (row_line r) (rows_text rs) (row_line row ++ rest)
    ∙ ap (λ (text : List ℕ). row_line r ++ text) (rows_more rs row rest)
    ∙ sym (append_assoc (row_line r) (rows_text (rs ++ row ∷ [])) rest)

pub rows_go_on : (rows : List TraceRow) (row : TraceRow) (text rest behind : List ℕ) → text ≡ rows_text rows ++ rest
    → rest ≡ row_line row ++ behind → text ≡ rows_text (rows ++ row ∷ []) ++ behind
rows_go_on rows row text rest behind e f =
    e ∙ ap (λ (more : List ℕ). rows_text rows ++ more) f ∙ rows_more rows row behind

pub are_rows_more : (words : ℕ) (rows : List TraceRow) (row : TraceRow) → AllByRecursion (IsWordRow words) rows
    → IsWordRow words row → AllByRecursion (IsWordRow words) (rows ++ row ∷ [])
are_rows_more words [] row all is = (is, tt)
are_rows_more words (r ∷ rs) row all is = (all.0, are_rows_more words rs row all.1 is)

row_some : (row : TraceRow) → 1 ≤ length (row_line row)
row_some (Lines mask) = omega arith
row_some (Step pc len regs mem) = omega arith

pub row_shorter : (row : TraceRow) (rest behind : List ℕ) → rest ≡ row_line row ++ behind → length behind < length rest
row_shorter row rest behind e = omega (arith, ap length e, length-append (row_line row) behind, row_some row)

-- ---- one more item of what is written

changes_push : (cs : List (ℕ × ℕ)) (c : ℕ × ℕ) → changes_text (cs ++ c ∷ []) ≡ changes_text cs ++ change_text c
changes_push cs c =
    sym (append-nil (changes_text (cs ++ c ∷ []))) ∙ sym (changes_more cs c [])
    ∙ ap (λ (text : List ℕ). changes_text cs ++ text) (append-nil (change_text c))

pub changes_at : (cs : List (ℕ × ℕ)) (i : ℕ) (d : ℕ × ℕ) → i < length cs
    → changes_text (take (i + 1) cs) ≡ changes_text (take i cs) ++ change_text (get_or cs i d)
changes_at cs i d lt = ap changes_text (take_more cs i d lt) ∙ changes_push (take i cs) (get_or cs i d)

rows_push : (rows : List TraceRow) (row : TraceRow) → rows_text (rows ++ row ∷ []) ≡ rows_text rows ++ row_line row
rows_push rows row =
    sym (append-nil (rows_text (rows ++ row ∷ []))) ∙ sym (rows_more rows row [])
    ∙ ap (λ (text : List ℕ). rows_text rows ++ text) (append-nil (row_line row))

pub rows_at : (rows : List TraceRow) (i : ℕ) (d : TraceRow) → i < length rows
    → rows_text (take (i + 1) rows) ≡ rows_text (take i rows) ++ row_line (get_or rows i d)
rows_at rows i d lt = ap rows_text (take_more rows i d lt) ∙ rows_push (take i rows) (get_or rows i d)

-- the rows of a trace tell of as many changed words as they have room for
pub rooms : (words : ℕ) (rows : List TraceRow) → AreRows words rows → AllByRecursion HasRoom rows
rooms words [] all = tt
rooms words (Lines mask ∷ rows) all = (tt, rooms words rows all.1)
rooms words (Step pc len regs mem ∷ rows) all = (all.0.few, rooms words rows all.1)

-- the pieces of a trace's text, one behind the other
pub traced : (a b rows end x y z w : List ℕ) → x ≡ a → y ≡ x ++ b → z ≡ y ++ rows → w ≡ z ++ end → w ≡ a ++ b ++ rows ++ end
traced a b rows end x y z w p q r s =
    s ∙ ap (λ (t : List ℕ). t ++ end) (r ∙ ap (λ (t : List ℕ). t ++ rows) (q ∙ ap (λ (t : List ℕ). t ++ b) p))
