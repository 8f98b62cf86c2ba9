-- Each name is that of one register, or of one operation.
use Rattle.std.proofs.Common.{subst, ℕ, ◌≡◌, ◌≢◌, Bool, true, false, cond, List, [], ◌∷◌, Option, Some, None, refl, sym, ap, ◌∙◌, IfSome, IfNone, nat_eq, nat_lt, zero, suc, ◌<◌, arith, codes}
use Rattle.std.specs.Prelude.{find}
use Rattle.std.specs.List.{AllByRecursion}
use Rattle.std.specs.Option.{option_map, option_or}
use Rattle.std.specs.Str.{bytes_eq, IsUtf8, IsAscii}
use Rattle.std.proofs.lemmas.Bool.{false_from_ne_true, ltb-true}
use Rattle.std.proofs.lemmas.Bool.Decides.{Decides-eqb}
use Rattle.std.proofs.lemmas.Slice.Eq.{bytes_eq-Decides}
use Rattle.std.proofs.lemmas.Str.{IsUtf8-from_ascii}
use Rattle.hv_isa.specs.declared.Op.TheVariants.{Lui, Auipc, Jal, Jalr, Beq, Bne, Blt, Bge, Bltu, Bgeu, Lb, Lh, Lw, Lbu, Lhu, Sb, Sh, Sw, Addi, Slti, Sltiu, Xori, Ori, Andi, Slli, Srli, Srai, Add, Sub, Sll, Slt, Sltu, Xor, Srl, Sra, Or, And, Fence, FenceI, Ecall, Ebreak, Csrrw, Csrrs, Csrrc, Csrrwi, Csrrsi, Csrrci, Sret, Mret, Wfi, SfenceVma, Vmenter}
use Rattle.hv_isa.specs.Csrs.{csrs, csr_number_of}
use Rattle.hv_isa.proofs.Registers.{number_lacks as csr_lacks}
use Rattle.hv_asm.specs.Names.{number_in, name_in, Lacks, numbered, used, register_of, operation_name, operations, operation_of}
use Rattle.hv_asm.specs.declared.names.Operation.{Operation}
use Rattle.hv_asm.specs.declared.names.Operation.TheVariants.{Row, Nop, Mv, J, Ret, Beqz, Bnez, Csrr, Csrw, Li, La, Words, Space}

-- each byte is below 128
abbrev is_low : List ℕ → Bool
is_low [] = true
is_low (c ∷ cs) = cond (nat_lt c 128) (is_low cs) false

low_ascii : (bs : List ℕ) → is_low bs ≡ true → IsAscii bs
low_ascii [] e i = omega arith
low_ascii (c ∷ cs) e zero =
    elim (nat_lt c 128) as (λ b. nat_lt c 128 ≡ b → cond b (is_low cs) false ≡ true → c < 128)
    [ true ↦ λ t e. ltb-true c 128 t | false ↦ λ t e. cc ] refl e
low_ascii (c ∷ cs) e (suc i) =
    low_ascii cs (elim (nat_lt c 128) as (λ b. cond b (is_low cs) false ≡ true → is_low cs ≡ true) [ true ↦ λ e. e | false ↦ λ e. cc ] e) i

bytes_ne : (xs ys : List ℕ) → ys ≢ xs → bytes_eq xs ys ≡ false
bytes_ne xs ys ne = false_from_ne_true _ (λ e. ne (sym ((bytes_eq-Decides xs ys).0 e)))

-- what is found is in the list
found_has : {X : Type 0} (P : X → Type 0) (p : X → Bool) (xs : List X) (x : X) → AllByRecursion P xs → find p xs ≡ Some x → P x
found_has P p [] x all is = cc
found_has {X} P p (y ∷ ys) x all is =
    let again : (b : Bool) → p y ≡ b → cond b (Some y) (find p ys) ≡ Some x → P x =
    λ b e is. elim b as (λ b. cond b (Some y) (find p ys) ≡ Some x → P x)
    [ true ↦ λ is. let same : y ≡ x = cc in subst P same all.0 | false ↦ λ is. found_has P p ys x all.1 is ] is
    in again (p y) refl is

mapped : {X Y : Type 0} (f : X → Y) (o : Option X) (y : Y) → option_map f o ≡ Some y → (x : X) × (o ≡ Some x) × (f x ≡ y)
mapped f (Some x) y is = let e : f x ≡ y = cc in (x, refl, e)
mapped f None y is = cc

found_is : {X : Type 0} (p : X → Bool) (xs : List X) (x : X) → find p xs ≡ Some x → p x ≡ true
found_is p [] x is = cc
found_is {X} p (y ∷ ys) x is =
    let again : (b : Bool) → p y ≡ b → cond b (Some y) (find p ys) ≡ Some x → p x ≡ true =
    λ b e is. elim b as (λ b. p y ≡ b → cond b (Some y) (find p ys) ≡ Some x → p x ≡ true)
    [ true ↦ λ e is. let same : y ≡ x = cc in ap p (sym same) ∙ e | false ↦ λ e is. found_is p ys x is ] e is
    in again (p y) refl is

number_again : (rows : List (ℕ × List ℕ)) → AllByRecursion (λ row. number_in rows row.1 ≡ Some row.0) rows → (n : ℕ) (text : List ℕ) → name_in rows n ≡ Some text → number_in rows text ≡ Some n
unfolding name_in
number_again rows each n text is =
    let row = mapped (λ (row : ℕ × List ℕ). row.1) (find (λ row. nat_eq row.0 n) rows) text is in
    let same : row.0.0 ≡ n = (Decides-eqb _ _).0 (found_is (λ (row : ℕ × List ℕ). nat_eq row.0 n) rows row.0 row.1) in
    ap (number_in rows) (sym row.2) ∙ found_has (λ (row : ℕ × List ℕ). number_in rows row.1 ≡ Some row.0) (λ (row : ℕ × List ℕ). nat_eq row.0 n) rows row.0 each row.1 ∙ ap Some same

lacks_row : (text : List ℕ) (rows : List (ℕ × List ℕ)) → Lacks rows text → find (λ row. bytes_eq row.1 text) rows ≡ None
lacks_row text [] none = refl
lacks_row text (row ∷ rows) none = ap (λ b. cond b (Some row) (find (λ row. bytes_eq row.1 text) rows)) (bytes_ne row.1 text none.0) ∙ lacks_row text rows none.1

number_lacks : (rows : List (ℕ × List ℕ)) (text : List ℕ) → Lacks rows text → number_in rows text ≡ None
unfolding number_in
number_lacks rows text none = ap (option_map (λ (row : ℕ × List ℕ). row.0)) (lacks_row text rows none)

each_numbered : AllByRecursion (λ row. number_in numbered row.1 ≡ Some row.0) numbered
unfolding number_in
each_numbered = (refl, (refl, (refl, (refl, (refl, (refl, (refl, (refl, (refl, (refl, (refl, (refl, (refl, (refl, (refl, (refl, (refl, (refl, (refl, (refl, (refl, (refl, (refl, (refl, (refl, (refl, (refl, (refl, (refl, (refl, (refl, (refl, tt))))))))))))))))))))))))))))))))

each_used : AllByRecursion (λ row. number_in used row.1 ≡ Some row.0) used
unfolding number_in
each_used = (refl, (refl, (refl, (refl, (refl, (refl, (refl, (refl, (refl, (refl, (refl, (refl, (refl, (refl, (refl, (refl, (refl, (refl, (refl, (refl, (refl, (refl, (refl, (refl, (refl, (refl, (refl, (refl, (refl, (refl, (refl, (refl, tt))))))))))))))))))))))))))))))))

is_used : (o : Option ℕ) (text : List ℕ) → IfSome o (λ n. name_in used n ≡ Some text) → IfNone o (Lacks used text) → o ≡ number_in used text
is_used (Some n) text found none = sym (number_again used each_used n text found)
is_used None text found none = sym (number_lacks used text none)

-- a name that isn't the frame pointer's
register_other : (text : List ℕ) → text ≢ codes "fp" → register_of text ≡ option_or (number_in numbered text) (number_in used text)
unfolding register_of
register_other text other = ap (λ b. cond b (Some 8) (option_or (number_in numbered text) (number_in used text))) (bytes_ne text (codes "fp") (λ e. other (sym e)))

pub register_fp : (text : List ℕ) → text ≡ codes "fp" → Some 8 ≡ register_of text
unfolding register_of
register_fp text is = rw is refl

pub register_numbered : (text : List ℕ) (n : ℕ) → text ≢ codes "fp" → name_in numbered n ≡ Some text → Some n ≡ register_of text
register_numbered text n other is =
    ap (λ o. option_or o (number_in used text)) (sym (number_again numbered each_numbered n text is)) ∙ sym (register_other text other)

pub register_used : (text : List ℕ) (o : Option ℕ) → text ≢ codes "fp" → Lacks numbered text → IfSome o (λ n. name_in used n ≡ Some text) → IfNone o (Lacks used text) → o ≡ register_of text
register_used text o other none found lacks =
    is_used o text found lacks
    ∙ ap (λ o. option_or o (number_in used text)) (sym (number_lacks numbered text none))
    ∙ sym (register_other text other)

utf8_numbered : AllByRecursion (λ row. is_low row.1 ≡ true) numbered
utf8_numbered = (refl, (refl, (refl, (refl, (refl, (refl, (refl, (refl, (refl, (refl, (refl, (refl, (refl, (refl, (refl, (refl, (refl, (refl, (refl, (refl, (refl, (refl, (refl, (refl, (refl, (refl, (refl, (refl, (refl, (refl, (refl, (refl, tt))))))))))))))))))))))))))))))))

utf8_used : AllByRecursion (λ row. is_low row.1 ≡ true) used
utf8_used = (refl, (refl, (refl, (refl, (refl, (refl, (refl, (refl, (refl, (refl, (refl, (refl, (refl, (refl, (refl, (refl, (refl, (refl, (refl, (refl, (refl, (refl, (refl, (refl, (refl, (refl, (refl, (refl, (refl, (refl, (refl, (refl, tt))))))))))))))))))))))))))))))))

no_text : (text name : List ℕ) → (IsUtf8 text → ⊥) → is_low name ≡ true → text ≢ name
no_text text name bad good = λ e. bad (subst IsUtf8 (sym e) (IsUtf8-from_ascii name (low_ascii name good)))

lacks_all : (text : List ℕ) (rows : List (ℕ × List ℕ)) → (IsUtf8 text → ⊥) → AllByRecursion (λ row. is_low row.1 ≡ true) rows → Lacks rows text
lacks_all text [] bad good = tt
lacks_all text (row ∷ rows) bad good = (no_text text row.1 bad good.0, lacks_all text rows bad good.1)

pub register_none : (text : List ℕ) → (IsUtf8 text → ⊥) → None ≡ register_of text
register_none text bad =
    register_used text None (no_text text (codes "fp") bad refl) (lacks_all text numbered bad utf8_numbered) tt (lacks_all text used bad utf8_used)

pub operation_again : (o : Operation) → operation_of (operation_name o) ≡ Some o
unfolding operation_of
operation_again (Row Lui) = refl
operation_again (Row Auipc) = refl
operation_again (Row Jal) = refl
operation_again (Row Jalr) = refl
operation_again (Row Beq) = refl
operation_again (Row Bne) = refl
operation_again (Row Blt) = refl
operation_again (Row Bge) = refl
operation_again (Row Bltu) = refl
operation_again (Row Bgeu) = refl
operation_again (Row Lb) = refl
operation_again (Row Lh) = refl
operation_again (Row Lw) = refl
operation_again (Row Lbu) = refl
operation_again (Row Lhu) = refl
operation_again (Row Sb) = refl
operation_again (Row Sh) = refl
operation_again (Row Sw) = refl
operation_again (Row Addi) = refl
operation_again (Row Slti) = refl
operation_again (Row Sltiu) = refl
operation_again (Row Xori) = refl
operation_again (Row Ori) = refl
operation_again (Row Andi) = refl
operation_again (Row Slli) = refl
operation_again (Row Srli) = refl
operation_again (Row Srai) = refl
operation_again (Row Add) = refl
operation_again (Row Sub) = refl
operation_again (Row Sll) = refl
operation_again (Row Slt) = refl
operation_again (Row Sltu) = refl
operation_again (Row Xor) = refl
operation_again (Row Srl) = refl
operation_again (Row Sra) = refl
operation_again (Row Or) = refl
operation_again (Row And) = refl
operation_again (Row Fence) = refl
operation_again (Row FenceI) = refl
operation_again (Row Ecall) = refl
operation_again (Row Ebreak) = refl
operation_again (Row Csrrw) = refl
operation_again (Row Csrrs) = refl
operation_again (Row Csrrc) = refl
operation_again (Row Csrrwi) = refl
operation_again (Row Csrrsi) = refl
operation_again (Row Csrrci) = refl
operation_again (Row Sret) = refl
operation_again (Row Mret) = refl
operation_again (Row Wfi) = refl
operation_again (Row SfenceVma) = refl
operation_again (Row Vmenter) = refl
operation_again Nop = refl
operation_again Mv = refl
operation_again J = refl
operation_again Ret = refl
operation_again Beqz = refl
operation_again Bnez = refl
operation_again Csrr = refl
operation_again Csrw = refl
operation_again Li = refl
operation_again La = refl
operation_again Words = refl
operation_again Space = refl

operation_utf8 : (o : Operation) → is_low (operation_name o) ≡ true
operation_utf8 (Row Lui) = refl
operation_utf8 (Row Auipc) = refl
operation_utf8 (Row Jal) = refl
operation_utf8 (Row Jalr) = refl
operation_utf8 (Row Beq) = refl
operation_utf8 (Row Bne) = refl
operation_utf8 (Row Blt) = refl
operation_utf8 (Row Bge) = refl
operation_utf8 (Row Bltu) = refl
operation_utf8 (Row Bgeu) = refl
operation_utf8 (Row Lb) = refl
operation_utf8 (Row Lh) = refl
operation_utf8 (Row Lw) = refl
operation_utf8 (Row Lbu) = refl
operation_utf8 (Row Lhu) = refl
operation_utf8 (Row Sb) = refl
operation_utf8 (Row Sh) = refl
operation_utf8 (Row Sw) = refl
operation_utf8 (Row Addi) = refl
operation_utf8 (Row Slti) = refl
operation_utf8 (Row Sltiu) = refl
operation_utf8 (Row Xori) = refl
operation_utf8 (Row Ori) = refl
operation_utf8 (Row Andi) = refl
operation_utf8 (Row Slli) = refl
operation_utf8 (Row Srli) = refl
operation_utf8 (Row Srai) = refl
operation_utf8 (Row Add) = refl
operation_utf8 (Row Sub) = refl
operation_utf8 (Row Sll) = refl
operation_utf8 (Row Slt) = refl
operation_utf8 (Row Sltu) = refl
operation_utf8 (Row Xor) = refl
operation_utf8 (Row Srl) = refl
operation_utf8 (Row Sra) = refl
operation_utf8 (Row Or) = refl
operation_utf8 (Row And) = refl
operation_utf8 (Row Fence) = refl
operation_utf8 (Row FenceI) = refl
operation_utf8 (Row Ecall) = refl
operation_utf8 (Row Ebreak) = refl
operation_utf8 (Row Csrrw) = refl
operation_utf8 (Row Csrrs) = refl
operation_utf8 (Row Csrrc) = refl
operation_utf8 (Row Csrrwi) = refl
operation_utf8 (Row Csrrsi) = refl
operation_utf8 (Row Csrrci) = refl
operation_utf8 (Row Sret) = refl
operation_utf8 (Row Mret) = refl
operation_utf8 (Row Wfi) = refl
operation_utf8 (Row SfenceVma) = refl
operation_utf8 (Row Vmenter) = refl
operation_utf8 Nop = refl
operation_utf8 Mv = refl
operation_utf8 J = refl
operation_utf8 Ret = refl
operation_utf8 Beqz = refl
operation_utf8 Bnez = refl
operation_utf8 Csrr = refl
operation_utf8 Csrw = refl
operation_utf8 Li = refl
operation_utf8 La = refl
operation_utf8 Words = refl
operation_utf8 Space = refl

lacks_operation : (text : List ℕ) (os : List Operation) → ((o : Operation) → text ≢ operation_name o) → find (λ o. bytes_eq (operation_name o) text) os ≡ None
lacks_operation text [] none = refl
lacks_operation text (o ∷ os) none =
    ap (λ b. cond b (Some o) (find (λ o. bytes_eq (operation_name o) text) os)) (bytes_ne (operation_name o) text (none o)) ∙ lacks_operation text os none

operation_lacks : (text : List ℕ) → ((o : Operation) → text ≢ operation_name o) → operation_of text ≡ None
unfolding operation_of
operation_lacks text none = lacks_operation text operations none

pub operation_is : (text : List ℕ) (o : Option Operation) → IfSome o (λ o. text ≡ operation_name o) → IfNone o ((o : Operation) → text ≢ operation_name o) → o ≡ operation_of text
operation_is text (Some o) found none = sym (ap operation_of found ∙ operation_again o)
operation_is text None found none = sym (operation_lacks text none)

pub operation_none : (text : List ℕ) → (IsUtf8 text → ⊥) → None ≡ operation_of text
operation_none text bad = sym (operation_lacks text (λ o. no_text text (operation_name o) bad (operation_utf8 o)))

utf8_csrs : AllByRecursion (λ row. is_low row.1 ≡ true) csrs
utf8_csrs = (refl, (refl, (refl, (refl, (refl, (refl, (refl, (refl, (refl, (refl, (refl, (refl, (refl, (refl, (refl, (refl, (refl, (refl, (refl, (refl, (refl, (refl, (refl, (refl, (refl, (refl, (refl, tt)))))))))))))))))))))))))))

pub csr_none : (text : List ℕ) → (IsUtf8 text → ⊥) → None ≡ csr_number_of text
csr_none text bad = sym (csr_lacks text (lacks_all text csrs bad utf8_csrs))
