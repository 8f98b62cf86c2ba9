-- The words of a text are those of its lines, and each line's words are those that it says.
use Rattle.std.proofs.Common.{◌≡◌, ℕ, zero, suc, ◌+◌, ◌*◌, nat_eq, Bool, true, false, cond, List, [], ◌∷◌, ◌++◌, length, map, find, All, Option, Some, None, option_map, Result, Ok, Err, refl, sym, ap, ◌∙◌, subst, arith, length-append, append-nil}
use Rattle.std.specs.List.{AllByRecursion, AllZip}
use Rattle.std.specs.Option.{option_and_then}
use Rattle.std.specs.Str.{bytes_eq}
use Rattle.std.proofs.lemmas.Bool.Decides.{nat_tests}
use Rattle.std.proofs.lemmas.Slice.Eq.{bytes_eq-Decides}
use Rattle.hv_lex.specs.Lines.{lines_of}
use Rattle.hv_lex.specs.Tokens.{tokens_of}
use Rattle.hv_lex.specs.declared.Token.{Token}
use Rattle.hv_lex.specs.declared.Kind.{Kind}
use Rattle.hv_lex.specs.declared.Kind.TheVariants.{Name, Number, Comma, Colon, Open, Close}
use Rattle.hv_lex.specs.declared.LexEnd.{LexEnd}
use Rattle.hv_asm.specs.Assembly.{asm_of, has_room, is_label, is_refused, line_words, place_from, place_of, repeats, words_from, worked_words}
use Rattle.hv_asm.specs.Law.{AssemblerLaw, HasWords, IsAssembled, AssembledLine, address_of, all_words, behind_label, defines, operands_in}
use Rattle.hv_asm.specs.Meaning.{Contributes}
use Rattle.hv_asm.specs.Names.{operation_name, operation_of, operations}
use Rattle.hv_asm.specs.Operands.{Deed, Reading, Work, begins_label, deed_of, groups_of, named, operand_of, operands_from, operands_of, read_of, read_tokens, reading_of, size_of, text_of, worked}
use Rattle.hv_asm.specs.Words.{single, one_word, words_with}
use Rattle.hv_asm.specs.declared.AsmKind.{AsmKind}
use Rattle.hv_asm.specs.declared.AsmKind.TheVariants as fault
use Rattle.hv_asm.specs.declared.labels.Place.{Place}
use Rattle.hv_asm.specs.declared.names.Operation.{Operation}
use Rattle.hv_asm.specs.declared.names.Operation.TheVariants.{Row, Nop, Mv, J, Ret, Beqz, Bnez, Csrr, Csrw, Li, La, Words, Space}
use Rattle.hv_isa.specs.declared.Op.TheVariants as op
use Rattle.hv_asm.specs.declared.operands.Operand.{Operand}
use Rattle.hv_asm.proofs.Extent.{front_ok, kept, line_sized, line_worked, next_ok, ok_is, then_ok}
use Rattle.hv_asm.proofs.Fields.{AreTokens, addresses, operand_is}
use Rattle.hv_asm.proofs.Grouping.{operands_some}
use Rattle.hv_asm.proofs.Instructions.{csr_read_means, csr_write_means, move_means, nop_means, plain_jump_means, ret_means, row_means, zero_means}
use Rattle.hv_asm.proofs.Loads.{la_means, li_means, space_means, words_mean}

-- the operands of tokens
append_one : (front : List Operand) (o : Operand) (more : List Operand) → (front ++ o ∷ []) ++ more ≡ front ++ o ∷ more
append_one [] o more = refl
append_one (x ∷ xs) o more = ap (λ ys. x ∷ ys) (append_one xs o more)

-- operands behind some that were read
abbrev Behind : List Operand → List (List Token) → List Operand → Type 0
Behind front groups os = (more : List Operand) × (os ≡ front ++ more) × AllZip AreTokens more groups

next_operand : (front os : List Operand) (group : List Token) (groups : List (List Token)) (o : Option Operand) → operand_of group ≡ o → option_and_then (λ o. operands_from (front ++ o ∷ []) groups) o ≡ Some os → ((o : Operand) → operands_from (front ++ o ∷ []) groups ≡ Some os → Behind (front ++ o ∷ []) groups os) → Behind front (group ∷ groups) os
next_operand front os group groups None found is rest = cc
next_operand front os group groups (Some o) found is rest =
    let r = rest o is in (o ∷ r.0, r.1 ∙ append_one front o r.0, (operand_is group o found, r.2))

more_operands : (front : List Operand) (groups : List (List Token)) (os : List Operand) → operands_from front groups ≡ Some os → Behind front groups os
unfolding operands_from
more_operands front [] os is = let e : front ≡ os = cc in ([], sym e ∙ sym (append-nil front), tt)
more_operands front (group ∷ groups) os is =
    next_operand front os group groups (operand_of group) refl is (λ o e. more_operands (front ++ o ∷ []) groups os e)

operands_are : (ts : List Token) (os : List Operand) → operands_of ts ≡ Some os → AllZip AreTokens os (operands_in ts)
unfolding operands_of groups_of
operands_are [] os is = let e : [] ≡ os = cc in subst (λ (os : List Operand). AllZip AreTokens os []) e tt
operands_are (t ∷ ts) os is =
    let some : nat_eq (length (t ∷ ts)) 0 ≡ false = grind (arith, nat_tests) in
    let m = more_operands [] (groups_of (t ∷ ts)) os (operands_some (t ∷ ts) some ∙ is) in
    subst (λ (os : List Operand). AllZip AreTokens os (groups_of (t ∷ ts))) (sym m.1) m.2

-- the name of an operation
next_is : (text : List ℕ) (x o : Operation) (xs : List Operation) (b : Bool) → bytes_eq (operation_name x) text ≡ b → cond b (Some x) (find (λ o. bytes_eq (operation_name o) text) xs) ≡ Some o → (find (λ o. bytes_eq (operation_name o) text) xs ≡ Some o → text ≡ operation_name o) → text ≡ operation_name o
next_is text x o xs true same is rest = let e : x ≡ o = cc in sym ((bytes_eq-Decides (operation_name x) text).0 same) ∙ ap operation_name e
next_is text x o xs false same is rest = rest is

first_is : (text : List ℕ) (os : List Operation) (o : Operation) → find (λ o. bytes_eq (operation_name o) text) os ≡ Some o → text ≡ operation_name o
first_is text [] o is = cc
first_is text (x ∷ xs) o is = next_is text x o xs (bytes_eq (operation_name x) text) refl is (first_is text xs o)

named_is : (text : List ℕ) (o : Operation) → operation_of text ≡ Some o → text ≡ operation_name o
unfolding operation_of
named_is text o is = first_is text operations o is

module _ (find_label : List ℕ → Option Place) (at : ℕ) (line : List ℕ) where
  abbrev labels : List ℕ → Option ℕ
  labels = addresses find_label

  one_means : (P : List ℕ → Type 0) (word : Result ℕ AsmKind) (ws : List ℕ) → ((w : ℕ) → word ≡ Ok w → P (w ∷ [])) → single word ≡ Ok ws → P ws
  one_means P word ws means e =
      let s = then_ok word _ ws e in
      subst P (ok_is _ ws s.2) (means s.0 s.1)

  operation_means : (o : Operation) (os : List Operand) (groups : List (List Token)) (ws : List ℕ) → AllZip AreTokens os groups → words_with find_label at line o os ≡ Ok ws → Contributes labels at line o groups ws
  unfolding words_with one_word
  operation_means (Row o) os groups ws z e = one_means (Contributes labels at line (Row o) groups) _ ws (λ w h. row_means find_label at line groups o os w z h) e
  operation_means Nop os groups ws z e = one_means (Contributes labels at line Nop groups) _ ws (λ w h. nop_means find_label at line groups os w z h) e
  operation_means Mv os groups ws z e = one_means (Contributes labels at line Mv groups) _ ws (λ w h. move_means find_label at line groups os w z h) e
  operation_means J os groups ws z e = one_means (Contributes labels at line J groups) _ ws (λ w h. plain_jump_means find_label at line groups os w z h) e
  operation_means Ret os groups ws z e = one_means (Contributes labels at line Ret groups) _ ws (λ w h. ret_means find_label at line groups os w z h) e
  operation_means Beqz os groups ws z e = one_means (Contributes labels at line Beqz groups) _ ws (λ w h. zero_means find_label at line groups op.Beq os w refl z h) e
  operation_means Bnez os groups ws z e = one_means (Contributes labels at line Bnez groups) _ ws (λ w h. zero_means find_label at line groups op.Bne os w refl z h) e
  operation_means Csrr os groups ws z e = one_means (Contributes labels at line Csrr groups) _ ws (λ w h. csr_read_means find_label at line groups os w z h) e
  operation_means Csrw os groups ws z e = one_means (Contributes labels at line Csrw groups) _ ws (λ w h. csr_write_means find_label at line groups os w z h) e
  operation_means Li os groups ws z e = li_means find_label at line os groups ws z e
  operation_means La os groups ws z e = la_means find_label at line os groups ws z e
  operation_means Words os groups ws z e = words_mean find_label at line os groups ws z e
  operation_means Space os groups ws z e = space_means find_label at line os groups ws z e

  module _ (base end : ℕ) (ws : List ℕ) where
    abbrev Works : Deed → Type 0
    Works deed = worked_words find_label base at end line deed ≡ Ok ws

    begins_name : (k : Kind) (deed : Deed) → Works (named k deed) → (k ≡ Name) × Works deed
    begins_name Name deed e = (refl, e)
    begins_name (Number z) deed e = cc
    begins_name Comma deed e = cc
    begins_name Colon deed e = cc
    begins_name Open deed e = cc
    begins_name Close deed e = cc

    work_means : (t : Token) (ts : List Token) (os : List Operand) (o : Option Operation) → t.kind ≡ Name → operands_of ts ≡ Some os → operation_of (text_of line t) ≡ o → Works (Work o os) → HasWords labels at line (t ∷ ts) ws
    work_means t ts os None kind operands name e = cc
    work_means t ts os (Some o) kind operands name e =
        let s = then_ok (words_with find_label at line o os) _ ws e in
        let k = kept (has_room base end) (let r : Result (List ℕ) AsmKind = Ok s.0 in r) fault.Range ws s.2 in
        let same : s.0 ≡ ws = ok_is s.0 ws k.1 in (
          o,
          kind,
          named_is (text_of line t) o name,
          operation_means o os (operands_in ts) ws (operands_are ts os operands) (s.1 ∙ ap (λ (ws : List ℕ). let r : Result (List ℕ) AsmKind = Ok ws in r) same),
        )

    shaped_means : (t : Token) (ts : List Token) (os : Option (List Operand)) → t.kind ≡ Name → operands_of ts ≡ os → Works (worked line t os) → HasWords labels at line (t ∷ ts) ws
    shaped_means t ts None kind operands e = cc
    shaped_means t ts (Some os) kind operands e = work_means t ts os (operation_of (text_of line t)) kind operands refl e

    deed_means : (ts : List Token) → Works (deed_of line ts) → HasWords labels at line ts ws
    unfolding deed_of
    deed_means [] e = sym (ok_is [] ws e)
    deed_means (t ∷ ts) e =
        let n = begins_name t.kind (worked line t (operands_of ts)) e in
        shaped_means t ts (operands_of ts) n.0 refl n.1

-- a line as it is read
deed_read : (line : List ℕ) (ts : List Token) → (reading_of line ts).deed ≡ deed_of line (behind_label ts)
unfolding reading_of
deed_read line [] = refl
deed_read line (a ∷ []) = refl
deed_read line (a ∷ b ∷ ts) =
    elim (begins_label a.kind b.kind) as (λ c. (let r : Reading = cond c (record { label = Some (text_of line a); deed = deed_of line ts }) (record { label = None; deed = deed_of line (a ∷ b ∷ ts) }) in r).deed ≡ deed_of line (cond c ts (a ∷ b ∷ ts)))
    [ true ↦ refl | false ↦ refl ]

label_read : (name line : List ℕ) (ts : List Token) → is_label name (reading_of line ts).label ≡ defines name line ts
unfolding reading_of
label_read name line [] = refl
label_read name line (a ∷ []) = refl
label_read name line (a ∷ b ∷ ts) =
    elim (begins_label a.kind b.kind) as (λ c. is_label name (let r : Reading = cond c (record { label = Some (text_of line a); deed = deed_of line ts }) (record { label = None; deed = deed_of line (a ∷ b ∷ ts) }) in r).label ≡ cond c (bytes_eq (text_of line a) name) false)
    [ true ↦ refl | false ↦ refl ]

pub record LineRead (find_label : List ℕ → Option Place) (at : ℕ) (line ws : List ℕ) : Type 0 where
  pub tokens : List Token
  pub lexed : tokens_of line ≡ Ok tokens
  pub words : HasWords (addresses find_label) at line (behind_label tokens) ws
  pub label : (name : List ℕ) → is_label name (read_of line).label ≡ defines name line tokens

line_reads : (find_label : List ℕ → Option Place) (base n at : ℕ) (line ws : List ℕ) → line_words find_label base n at line (read_of line) ≡ Ok ws → LineRead find_label at line ws
unfolding line_words read_of
line_reads find_label base n at line ws e = next (tokens_of line) refl e where
  next : (r : Result (List Token) LexEnd) → tokens_of line ≡ r → line_words find_label base n at line (read_tokens line r) ≡ Ok ws → LineRead find_label at line ws
  next (Err end) lexed e = cc
  next (Ok ts) lexed e =
      let r = reading_of line ts in
      let w = line_worked (is_refused r.deed) (repeats find_label n r.label) (worked_words find_label base at (at + size_of r.deed) line r.deed) _ ws e in
      let d : worked_words find_label base at (at + size_of r.deed) line (deed_of line (behind_label ts)) ≡ Ok ws = ap (worked_words find_label base at (at + size_of r.deed) line) (sym (deed_read line ts)) ∙ w in
      record {
        tokens = ts;
        lexed = lexed;
        words = deed_means find_label at line base (at + size_of r.deed) ws (behind_label ts) d;
        label = λ name. ap (λ r. is_label name (read_tokens line r).label) lexed ∙ label_read name line ts;
      }

-- each line behind the words of those before it
abbrev pub Follow : ℕ → List AssembledLine → Type 0
Follow at [] = Unit {0}
Follow at (l ∷ ls) = (l.at ≡ at) × Follow (at + 4 * length l.words) ls

placed : (at : ℕ) (front behind : List AssembledLine) (l : AssembledLine) → Follow at (front ++ l ∷ behind) → l.at ≡ at + 4 * length (all_words front)
placed at [] behind l follows = omega (arith, follows.0)
placed at (f ∷ fs) behind l follows =
    let rest = placed (at + 4 * length f.words) fs behind l follows.1 in
    omega (arith, rest, length-append f.words (all_words fs))

pub record Laid (find_label : List ℕ → Option Place) (n at : ℕ) (lines : List (List ℕ)) (ws : List ℕ) : Type 0 where
  pub all : List AssembledLine
  pub texts : map (λ l. l.text) all ≡ lines
  pub in_order : all_words all ≡ ws
  pub follows : Follow at all
  pub meaning : AllByRecursion (IsAssembled (addresses find_label)) all
  pub labels : (name : List ℕ) → option_map (λ place. place.at) (place_from n at lines name) ≡ address_of all name

laid : (find_label : List ℕ → Option Place) (base n at : ℕ) (lines : List (List ℕ)) (ws : List ℕ) → words_from find_label base n at lines ≡ Ok ws → Laid find_label n at lines ws
unfolding words_from place_from
laid find_label base n at [] ws e = let none : [] ≡ ws = cc in record {
  all = [];
  texts = refl;
  in_order = none;
  follows = tt;
  meaning = tt;
  labels = λ name. refl;
}
laid find_label base n at (line ∷ lines) ws e =
    let r = read_of line in
    let s = next_ok n (line_words find_label base n at line r) _ ws e in
    let t = front_ok s.0 (words_from find_label base (n + 1) (at + size_of r.deed) lines) ws s.2 in
    let size = (line_sized find_label base n at line r s.0 s.1).0 in
    let read = line_reads find_label base n at line s.0 s.1 in
    let rest = laid find_label base (n + 1) (at + size_of r.deed) lines t.0 t.1 in
    let l : AssembledLine = record { text = line; tokens = read.tokens; at = at; words = s.0 } in
    record {
      all = l ∷ rest.all;
      texts = ap (λ ls. line ∷ ls) rest.texts;
      in_order = ap (λ ws. s.0 ++ ws) rest.in_order ∙ t.2;
      follows = (refl, subst (λ size. Follow (at + size) rest.all) (sym size) rest.follows);
      meaning = (record { tokens = read.lexed; words = read.words }, rest.meaning);
      labels = λ name.
          ap (λ b. option_map (λ place. place.at) (cond b (Some (record { line = n; at = at })) (place_from (n + 1) (at + size_of r.deed) lines name))) (read.label name)
          ∙ chosen (defines name line read.tokens) n l (place_from (n + 1) (at + size_of r.deed) lines name) (find (λ l. defines name l.text l.tokens) rest.all) (rest.labels name);
    }
  where
    chosen : (b : Bool) (n : ℕ) (l : AssembledLine) (place : Option Place) (found : Option AssembledLine) → option_map (λ place. place.at) place ≡ option_map (λ l. l.at) found → option_map (λ place. place.at) (cond b (Some (record { line = n; at = l.at })) place) ≡ option_map (λ l. l.at) (cond b (Some l) found)
    chosen true n l place found same = refl
    chosen false n l place found same = same

each : {X : Type 0} (P : X → Type 0) (xs : List X) → AllByRecursion P xs → All P xs
each P [] holds k d below = absurd (omega (arith, below))
each P (x ∷ xs) holds zero d below = holds.0
each P (x ∷ xs) holds (suc k) d below = each P xs holds.1 k d (omega (arith, below))

pub assembler_law : AssemblerLaw
unfolding asm_of
assembler_law text words base is =
    let lines = lines_of text in
    let image = laid (place_of base lines) base 1 base lines words is in
    let same : addresses (place_of base lines) ≡ address_of image.all = λ i name. image.labels name i in
    record {
      lines = image.all;
      texts = image.texts;
      in_order = image.in_order;
      places = λ front behind l is. placed base front behind l (subst (Follow base) is image.follows);
      meaning = each (IsAssembled (address_of image.all)) image.all (subst (λ labels. AllByRecursion (IsAssembled labels) image.all) same image.meaning);
    }
