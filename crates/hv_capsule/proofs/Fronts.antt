-- The lines of a parked machine's text: no two begin alike.
use Rattle.std.proofs.Common.{◌≡◌, ℕ, ◌^◌, ◌<◌, List, [], ◌∷◌, ◌++◌, length, drop, sym, ap, ◌∙◌, append_assoc, arith, decimal}
use Rattle.std.specs.Prelude.{codes}
use Rattle.std.specs.List.{AllByRecursion}
use Rattle.hv_capsule.specs.Text.{words_digits}
use Rattle.hv_capsule.specs.Lines.{AreRegs, IsNext, IsSize, IsWord, filled_line, regs_line, size_line}
use Rattle.hv_capsule.proofs.Spelled.{one_number, one_words}

pub size_word : (n : ℕ) → IsSize n → IsWord n
size_word n h = omega (arith, h.1)

-- what is behind the label of a line of the number of pages
pub size_text : (rest behind : List ℕ) (n : ℕ) → codes "pages " ++ rest ≡ size_line n ++ behind → rest ≡ decimal n ++ 10 ∷ behind
size_text rest behind n e =
    let inner : rest ≡ (decimal n ++ codes "\n") ++ behind = ap (drop 6) e in
    inner ∙ append_assoc (decimal n) (10 ∷ []) behind

pub one_size : (a b : ℕ) (x y : List ℕ) → IsWord a → IsWord b → size_line a ++ x ≡ size_line b ++ y → (a ≡ b) × (x ≡ y)
one_size a b x y p q e =
    let inner : (decimal a ++ codes "\n") ++ x ≡ (decimal b ++ codes "\n") ++ y = ap (drop 6) e in
    one_number 10 a b x y (omega arith) p q
    (sym (append_assoc (decimal a) (10 ∷ []) x) ∙ inner ∙ append_assoc (decimal b) (10 ∷ []) y)

pub size_there : (text rest behind : List ℕ) (a b : ℕ) → text ≡ size_line a ++ rest → IsWord a → IsWord b
    → text ≡ size_line b ++ behind → (a ≡ b) × (rest ≡ behind)
size_there text rest behind a b cut p q e = one_size a b rest behind p q (sym cut ∙ e)

-- what is behind the label of a line of registers
pub regs_text : (text rest behind ws : List ℕ) → text ≡ codes "regs " ++ rest → text ≡ regs_line ws ++ behind
    → rest ≡ words_digits ws ++ 10 ∷ behind
regs_text text rest behind ws cut e =
    let inner : rest ≡ (words_digits ws ++ codes "\n") ++ behind = ap (drop 5) (sym cut ∙ e) in
    inner ∙ append_assoc (words_digits ws) (10 ∷ []) behind

pub one_regs : (n m : ℕ) (vs ws x y : List ℕ) → AreRegs n vs → AreRegs m ws → regs_line vs ++ x ≡ regs_line ws ++ y
    → (vs ≡ ws) × (x ≡ y)
one_regs n m vs ws x y p q e =
    let inner : (words_digits vs ++ codes "\n") ++ x ≡ (words_digits ws ++ codes "\n") ++ y = ap (drop 5) e in
    let parts = one_words vs ws (10 ∷ x) (10 ∷ y) (p.size ∙ sym q.size) p.each q.each
    (sym (append_assoc (words_digits vs) (10 ∷ []) x) ∙ inner ∙ append_assoc (words_digits ws) (10 ∷ []) y) in
    (parts.0, cc parts.1)

-- a page's line behind its label
pub inner_text : (page : ℕ) (ws x : List ℕ)
    → (decimal page ++ codes " " ++ words_digits ws ++ codes "\n") ++ x ≡ decimal page ++ 32 ∷ (words_digits ws ++ 10 ∷ x)
inner_text page ws x =
    append_assoc (decimal page ++ codes " " ++ words_digits ws) (10 ∷ []) x
    ∙ append_assoc (decimal page ++ codes " ") (words_digits ws) (10 ∷ x)
    ∙ append_assoc (decimal page) (32 ∷ []) (words_digits ws ++ 10 ∷ x)

-- what is behind the label of a page's line
pub page_text : (text rest behind ws : List ℕ) (page : ℕ) → text ≡ codes "page " ++ rest → text ≡ filled_line page ws ++ behind
    → rest ≡ decimal page ++ 32 ∷ (words_digits ws ++ 10 ∷ behind)
page_text text rest behind ws page cut e =
    let inner : rest ≡ (decimal page ++ codes " " ++ words_digits ws ++ codes "\n") ++ behind = ap (drop 5) (sym cut ∙ e) in
    inner ∙ inner_text page ws behind

pub one_page : (n m f g a b : ℕ) (vs ws x y : List ℕ) → IsWord a → IsWord b → IsNext n f a vs → IsNext m g b ws
    → filled_line a vs ++ x ≡ filled_line b ws ++ y → (a ≡ b) × (vs ≡ ws) × (x ≡ y)
one_page n m f g a b vs ws x y u v p q e =
    let inner : (decimal a ++ codes " " ++ words_digits vs ++ codes "\n") ++ x
    ≡ (decimal b ++ codes " " ++ words_digits ws ++ codes "\n") ++ y = ap (drop 5) e in
    let number = one_number 32 a b (words_digits vs ++ 10 ∷ x) (words_digits ws ++ 10 ∷ y) (omega arith) u v
    (sym (inner_text a vs x) ∙ inner ∙ inner_text b ws y) in
    let parts = one_words vs ws (10 ∷ x) (10 ∷ y) (p.size ∙ sym q.size) p.each q.each number.1 in
    (number.0, parts.0, cc parts.1)

-- the words of a line of registers that were read are those that it spells
pub regs_there : (n : ℕ) (text inner rest behind out ws : List ℕ) → text ≡ codes "regs " ++ inner
    → inner ≡ words_digits out ++ rest → length out ≡ 50 → AllByRecursion IsWord out → AreRegs n ws
    → text ≡ regs_line ws ++ behind → (out ≡ ws) × (rest ≡ 10 ∷ behind)
regs_there n text inner rest behind out ws cut words size each are e =
    one_words out ws rest (10 ∷ behind) (size ∙ sym are.size) each are.each (sym words ∙ regs_text text inner behind ws cut e)

-- the number of a page's line that was read is the one that it spells, and so are its words
pub number_there : (n f page a : ℕ) (text inner rest behind ws : List ℕ) → text ≡ codes "page " ++ inner
    → inner ≡ decimal page ++ 32 ∷ rest → IsWord page → IsWord a → text ≡ filled_line a ws ++ behind
    → (page ≡ a) × (rest ≡ words_digits ws ++ 10 ∷ behind)
number_there n f page a text inner rest behind ws cut number p q e =
    one_number 32 page a rest (words_digits ws ++ 10 ∷ behind) (omega arith) p q
    (sym number ∙ page_text text inner behind ws a cut e)

pub page_there : (n f page a : ℕ) (text inner rest last behind out ws : List ℕ) → text ≡ codes "page " ++ inner
    → inner ≡ decimal page ++ 32 ∷ rest → rest ≡ words_digits out ++ last → IsWord page → n < 2 ^ 32
    → length out ≡ 1024 → AllByRecursion IsWord out → IsNext n f a ws → text ≡ filled_line a ws ++ behind
    → (page ≡ a) × (out ≡ ws) × (last ≡ 10 ∷ behind)
page_there n f page a text inner rest last behind out ws cut number words p room size each is e =
    let first = number_there n f page a text inner rest behind ws cut number p (omega (arith, is.inside, room)) e in
    let parts = one_words out ws last (10 ∷ behind) (size ∙ sym is.size) each is.each (sym words ∙ first.1) in
    (first.0, parts.0, parts.1)
