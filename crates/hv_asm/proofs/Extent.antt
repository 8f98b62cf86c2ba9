-- How far the words of a text go.
use Rattle.std.proofs.Common.{◌≡◌, ℕ, suc, ◌+◌, ◌*◌, ◌/◌, ◌%◌, ◌^◌, ◌<◌, ◌≤◌, ◌&&◌, Bool, true, false, cond, nat_eq, List, [], ◌∷◌, ◌++◌, length, replicate, Option, Some, None, Result, Ok, Err, refl, sym, ap, ◌∙◌, arith, length-append}
use Rattle.std.specs.List.{list_all}
use Rattle.std.proofs.lemmas.Bool.{leb-true, eqb-true}
use Rattle.std.proofs.lemmas.List.{length-replicate}
use Rattle.hv_isa.specs.declared.Op.TheVariants as op
use Rattle.hv_lex.specs.Lines.{lines_of}
use Rattle.hv_asm.specs.Assembly.{asm_of, words_from, line_words, and_then, has_room, in_front, is_refused, place_of, repeats, worked_words}
use Rattle.hv_asm.specs.Forms.{ranged, word_with}
use Rattle.hv_asm.specs.Limits.{image_limit}
use Rattle.hv_asm.specs.Operands.{Reading, Deed, Refused, Nothing, Work, read_of, size_of, size_with, space_of}
use Rattle.hv_asm.specs.Rows.{address, number, register}
use Rattle.hv_asm.specs.Words.{single, high_part, is_defined, is_value, la_words, li_words, low_part, one_word, pair_words, space_count, value, value_at, value_words, values_of, words_with, zeros_of}
use Rattle.hv_asm.specs.declared.AsmKind.{AsmKind}
use Rattle.hv_asm.specs.declared.AsmKind.TheVariants as fault
use Rattle.hv_asm.specs.declared.amounts.Amount.TheVariants.{Plus, Minus}
use Rattle.hv_asm.specs.declared.labels.Place.{Place}
use Rattle.hv_asm.specs.declared.names.Operation.{Operation}
use Rattle.hv_asm.specs.declared.names.Operation.TheVariants as does
use Rattle.hv_asm.specs.declared.operands.Operand.{Operand}
use Rattle.hv_asm.specs.declared.operands.Operand.TheVariants.{Name, Number}
use Rattle.hv_lex.specs.Refusing.{◌>>=◌}

abbrev Words : Type 0
Words = Result (List ℕ) (ℕ × AsmKind)

stop : (n m k : ℕ) (kind : AsmKind) (r : Result (List ℕ) AsmKind) (b : Words) → and_then n r b ≡ Err (k, kind) → (b ≡ Err (k, kind) → k < n + 1 + m) → k < n + suc m
stop n m k kind (Err e) b is next = let p : ◌≡◌ {A = ℕ × AsmKind} (n, e) (k, kind) = cc in let i : n ≡ k = ap (λ (p : ℕ × AsmKind). p.0) p in omega arith
stop n m k kind (Ok ws) (Ok vs) is next = cc
stop n m k kind (Ok ws) (Err e) is next = let h : k < n + 1 + m = next is in omega arith

-- a refusal is at one of the lines
words_within : (find_label : List ℕ → Option Place) (base n at k : ℕ) (kind : AsmKind) (lines : List (List ℕ)) → words_from find_label base n at lines ≡ Err (k, kind) → k < n + length lines
unfolding words_from
words_within find_label base n at k kind [] is = cc
words_within find_label base n at k kind (line ∷ lines) is =
    stop n (length lines) k kind (line_words find_label base n at line (read_of line)) (words_from find_label base (n + 1) (at + size_of (read_of line).deed) lines) is
    (words_within find_label base (n + 1) (at + size_of (read_of line).deed) k kind lines)

pub asm_within : (text : List ℕ) (base k : ℕ) (kind : AsmKind) → asm_of text base ≡ Err (k, kind) → k < 1 + length (lines_of text)
unfolding asm_of
asm_within text base k kind is = words_within _ base 1 base k kind (lines_of text) is

pub then_ok : {A B : Type 0} (r : Result A AsmKind) (f : A → Result B AsmKind) (x : B) → (r >>= f) ≡ Ok x → (v : A) × (r ≡ Ok v) × (f v ≡ Ok x)
then_ok (Ok v) f x is = (v, refl, is)
then_ok (Err k) f x is = cc

pub ok_is : (x y : List ℕ) → (let r : Result (List ℕ) AsmKind = Ok x in r) ≡ Ok y → x ≡ y
ok_is x y is = cc

pub both : (a b : Bool) → (a && b) ≡ true → (a ≡ true) × (b ≡ true)
both true b e = (refl, e)
both false b e = cc

pub kept : (b : Bool) (r : Result (List ℕ) AsmKind) (k : AsmKind) (ws : List ℕ) → cond b r (Err k) ≡ Ok ws → (b ≡ true) × (r ≡ Ok ws)
kept true r k ws is = (refl, is)
kept false r k ws is = cc

pub passed : (b : Bool) (r : Result (List ℕ) AsmKind) (k : AsmKind) (ws : List ℕ) → cond b (Err k) r ≡ Ok ws → r ≡ Ok ws
passed true r k ws is = cc
passed false r k ws is = is

pair_length : (rd v : ℕ) (ws : List ℕ) → pair_words rd v ≡ Ok ws → length ws ≡ 2
unfolding pair_words
pair_length rd v ws is =
    let s = then_ok (word_with op.Lui rd 0 0 (high_part v)) _ ws is in
    let t = then_ok (word_with op.Addi rd rd 0 (low_part v)) _ ws s.2 in
    let e : s.0 ∷ t.0 ∷ [] ≡ ws = ok_is _ ws t.2 in
    ap length (sym e)

li_length : (line : List ℕ) (operands : List Operand) (ws : List ℕ) → li_words line operands ≡ Ok ws → length ws ≡ 2
unfolding li_words
li_length line (a ∷ n ∷ []) ws is =
    let s = then_ok (register line a) _ ws is in
    let t = then_ok (number n) _ ws s.2 in
    let u = then_ok (value t.0) _ ws t.2 in
    pair_length s.0 u.0 ws u.2
li_length line _ ws is = cc

module _ (find : List ℕ → Option Place) where
  la_length : (line : List ℕ) (operands : List Operand) (ws : List ℕ) → la_words find line operands ≡ Ok ws → length ws ≡ 2
  unfolding la_words
  la_length line (a ∷ Name t ∷ []) ws is =
      let s = then_ok (register line a) _ ws is in
      let u = then_ok (address find line t) _ ws s.2 in
      pair_length s.0 (u.0 % 2 ^ 32) ws u.2
  la_length line _ ws is = cc

  values_length : (line : List ℕ) (os : List Operand) (ws : List ℕ) → values_of find line os ≡ Ok ws → length ws ≡ length os
  unfolding values_of
  values_length line [] ws is = let e : [] ≡ ws = ok_is [] ws is in ap length (sym e)
  values_length line (o ∷ os) ws is =
      let s = then_ok (value_at find line o) _ ws is in
      let t = then_ok (values_of find line os) _ ws s.2 in
      let e : s.0 ∷ t.0 ≡ ws = ok_is _ ws t.2 in
      ap length (sym e) ∙ ap suc (values_length line os t.0 t.1)

  value_words_length : (line : List ℕ) (os : List Operand) (ws : List ℕ) → value_words find line os ≡ Ok ws → length ws ≡ length os
  unfolding value_words
  value_words_length line os ws is =
      let all = list_all is_value os in
      let defined = list_all (is_defined find line) os in
      let inner = cond defined (values_of find line os) (Err fault.Label) in
      let some = passed (nat_eq (length os) 0) (cond all inner (Err fault.Operand)) fault.Operand ws is in
      let values = kept all inner fault.Operand ws some in
      let named = kept defined (values_of find line os) fault.Label ws values.1 in
      values_length line os ws named.1

spaced : (b : Bool) (m n : ℕ) → (b ≡ true → m % 4 ≡ 0) → ranged b (m / 4) ≡ Ok n → 4 * n ≡ cond b m 0
spaced true m n even is = let h : m % 4 ≡ 0 = even refl in let e : m / 4 ≡ n = cc in omega arith
spaced false m n even is = cc

space_is : (operands : List Operand) (n : ℕ) → space_count operands ≡ Ok n → 4 * n ≡ space_of operands
unfolding space_count
space_is (Number (Plus m) ∷ []) n is = spaced _ m n (λ e. eqb-true (m % 4) 0 (both _ _ e).1) is
space_is (Number (Minus m) ∷ []) n is = cc
space_is (Number (Minus m) ∷ o ∷ os) n is = cc
space_is _ n is = cc

zeros_length : (operands : List Operand) (ws : List ℕ) → zeros_of operands ≡ Ok ws → 4 * length ws ≡ space_of operands
zeros_length operands ws is =
    let s = then_ok (space_count operands) _ ws is in
    let e : replicate s.0 0 ≡ ws = ok_is _ ws s.2 in
    let l : length ws ≡ s.0 = ap length (sym e) ∙ length-replicate s.0 0 in
    ap (λ n. 4 * n) l ∙ space_is operands s.0 s.1

one_length : (word : Result ℕ AsmKind) (ws : List ℕ) → single word ≡ Ok ws → 4 * length ws ≡ 4
one_length word ws is =
    let s = then_ok word _ ws is in
    let e : s.0 ∷ [] ≡ ws = ok_is _ ws s.2 in
    ap (λ (ws : List ℕ). 4 * length ws) (sym e)

words_sized : (find : List ℕ → Option Place) (at : ℕ) (line : List ℕ) (operation : Operation) (operands : List Operand) (ws : List ℕ) → words_with find at line operation operands ≡ Ok ws → 4 * length ws ≡ size_with operation operands
unfolding words_with
words_sized find at line does.Li operands ws is = ap (λ n. 4 * n) (li_length line operands ws is)
words_sized find at line does.La operands ws is = ap (λ n. 4 * n) (la_length find line operands ws is)
words_sized find at line does.Words operands ws is = ap (λ n. 4 * n) (value_words_length find line operands ws is)
words_sized find at line does.Space operands ws is = zeros_length operands ws is
words_sized find at line operation operands ws is = one_length (one_word find at line operation operands) ws is

-- words that are there end where they may
abbrev pub Ends : (base end : ℕ) → List ℕ → Type 0
Ends base end ws = 0 < length ws → (end ≤ base + image_limit) × (end ≤ 2 ^ 32)

has_ends : (base end : ℕ) → has_room base end ≡ true → (end ≤ base + image_limit) × (end ≤ 2 ^ 32)
has_ends base end e =
    let b = both _ _ e in (leb-true end (base + image_limit) b.0, leb-true end (2 ^ 32) b.1)

worked_sized : (find : List ℕ → Option Place) (base at end : ℕ) (line : List ℕ) (deed : Deed) (ws : List ℕ) → worked_words find base at end line deed ≡ Ok ws → (4 * length ws ≡ size_of deed) × Ends base end ws
unfolding size_of
worked_sized find base at end line (Refused kind) ws is = cc
worked_sized find base at end line Nothing ws is =
    let e : [] ≡ ws = ok_is [] ws is in (ap (λ (ws : List ℕ). 4 * length ws) (sym e), λ some. absurd (omega (arith, ap length e)))
worked_sized find base at end line (Work None operands) ws is = cc
worked_sized find base at end line (Work (Some operation) operands) ws is =
    let s = then_ok (words_with find at line operation operands) _ ws is in
    let k = kept _ _ _ ws s.2 in
    let e : s.0 ≡ ws = ok_is s.0 ws k.1 in
    (ap (λ (ws : List ℕ). 4 * length ws) (sym e) ∙ words_sized find at line operation operands s.0 s.1, λ some. has_ends base end k.0)

pub line_worked : (b c : Bool) (r : Result (List ℕ) AsmKind) (k : AsmKind) (ws : List ℕ) → cond b r (cond c (Err k) r) ≡ Ok ws → r ≡ Ok ws
line_worked true c r k ws is = is
line_worked false c r k ws is = passed c r k ws is

pub line_sized : (find : List ℕ → Option Place) (base n at : ℕ) (line : List ℕ) (r : Reading) (ws : List ℕ) → line_words find base n at line r ≡ Ok ws → (4 * length ws ≡ size_of r.deed) × Ends base (at + size_of r.deed) ws
unfolding line_words
line_sized find base n at line r ws is =
    worked_sized find base at (at + size_of r.deed) line r.deed ws
    (line_worked (is_refused r.deed) (repeats find n r.label) (worked_words find base at (at + size_of r.deed) line r.deed) _ ws is)

pub front_ok : (front : List ℕ) (b : Words) (ws : List ℕ) → in_front front b ≡ Ok ws → (v : List ℕ) × (b ≡ Ok v) × (front ++ v ≡ ws)
front_ok front (Ok v) ws is = let e : front ++ v ≡ ws = cc in (v, refl, e)
front_ok front (Err e) ws is = cc

pub next_ok : (n : ℕ) (r : Result (List ℕ) AsmKind) (b : Words) (ws : List ℕ) → and_then n r b ≡ Ok ws → (w : List ℕ) × (r ≡ Ok w) × (in_front w b ≡ Ok ws)
next_ok n (Ok w) b ws is = (w, refl, is)
next_ok n (Err k) b ws is = cc

further : (base at size : ℕ) (w v : List ℕ) → 4 * length w ≡ size → Ends base (at + size) w → Ends base (at + size + 4 * length v) v → Ends base (at + 4 * (length w + length v)) (w ++ v)
further base at size w [] sized first later = λ some.
    let l = length-append w [] in let h : 0 < length w = omega (arith, l) in let e = first h in (omega (arith, e.0), omega (arith, e.1))
further base at size w (x ∷ xs) sized first later = λ some.
    let h : 0 < length (x ∷ xs) = omega arith in let e = later h in (omega (arith, e.0), omega (arith, e.1))

words_extent : (find : List ℕ → Option Place) (base n at : ℕ) (lines : List (List ℕ)) (ws : List ℕ) → words_from find base n at lines ≡ Ok ws → Ends base (at + 4 * length ws) ws
unfolding words_from
words_extent find base n at [] ws is = let e : [] ≡ ws = cc in λ some. absurd (omega (arith, ap length e))
words_extent find base n at (line ∷ lines) ws is =
    let r = read_of line in
    let s = next_ok n (line_words find base n at line r) _ ws is in
    let t = front_ok s.0 (words_from find base (n + 1) (at + size_of r.deed) lines) ws s.2 in
    let z = line_sized find base n at line r s.0 s.1 in
    let later : Ends base (at + size_of r.deed + 4 * length t.0) t.0 = words_extent find base (n + 1) (at + size_of r.deed) lines t.0 t.1 in
    let both_ends : Ends base (at + 4 * (length s.0 + length t.0)) (s.0 ++ t.0) = further base at (size_of r.deed) s.0 t.0 z.0 z.1 later in
    λ some.
    let l : length ws ≡ length s.0 + length t.0 = ap length (sym t.2) ∙ length-append s.0 t.0 in
    let h : 0 < length (s.0 ++ t.0) = omega (arith, ap length t.2) in
    let e = both_ends h in
    (omega (arith, e.0), omega (arith, e.1))

-- the words of a text are few enough, and the last one has an address
pub lines_extent : (lines : List (List ℕ)) (base : ℕ) (ws : List ℕ) → base < 2 ^ 32 → words_from (place_of base lines) base 1 base lines ≡ Ok ws → (base + 4 * length ws ≤ 2 ^ 32) × (4 * length ws ≤ image_limit)
lines_extent lines base [] fits is = (omega arith, omega arith)
lines_extent lines base (w ∷ ws) fits is =
    let h : 0 < length (w ∷ ws) = omega arith in
    let e = words_extent (place_of base lines) base 1 base lines (w ∷ ws) is h in
    (omega (arith, e.1), omega (arith, e.0))

pub asm_extent : (text : List ℕ) (base : ℕ) (ws : List ℕ) → base < 2 ^ 32 → asm_of text base ≡ Ok ws → (base + 4 * length ws ≤ 2 ^ 32) × (4 * length ws ≤ image_limit)
unfolding asm_of
asm_extent text base ws fits is = lines_extent (lines_of text) base ws fits is
