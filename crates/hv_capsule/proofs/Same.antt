-- A text has its lines in one way, and is refused at one line.
use Rattle.std.proofs.Common.{◌≡◌, ◌≢◌, inl, inr, ℕ, ◌+◌, ◌^◌, ◌<◌, List, [], ◌∷◌, ◌++◌, length, get_or, drop, refl, sym, ap, subst, ◌∙◌, append_assoc, arith, decimal}
use Rattle.hv_capsule.specs.Lines.{AreNext, AreRegs, EndsAt, EndsInPages, HasNoNext, IsCutOff, IsNext, IsSize, RefusedAt, StopsAt, StopsBehind, StopsHere, StopsInPages, end_line, filled_line, filled_lines, header_line, least_behind, opened, regs_line, size_line}
use Rattle.hv_capsule.specs.Text.{words_digits}
use Rattle.hv_capsule.specs.declared.ends.CapsuleKind.{CapsuleKind}
use Rattle.hv_capsule.specs.declared.ends.CapsuleKind.TheVariants.{Header, Pages, Regs, Page, End}
use Rattle.hv_capsule.proofs.Spelled.{one_number, one_words}

-- ---- the first three lines

same_behind : (x y : List ℕ) → header_line ++ x ≡ header_line ++ y → x ≡ y
same_behind x y e = ap (drop 10) e

-- two lines of sizes that begin alike are one
pub one_size : (a b : ℕ) (x y : List ℕ) → IsSize a → IsSize b → size_line a ++ x ≡ size_line b ++ y → (a ≡ b) × (x ≡ y)
one_size a b x y p q e =
    let inner : (decimal a ++ 10 ∷ []) ++ x ≡ (decimal b ++ 10 ∷ []) ++ y = ap (drop 6) e in
    one_number 10 a b x y (omega arith) (omega (arith, p.1)) (omega (arith, q.1))
    (sym (append_assoc (decimal a) (10 ∷ []) x) ∙ inner ∙ append_assoc (decimal b) (10 ∷ []) y)

one_regs : (pages : ℕ) (a b x y : List ℕ) → AreRegs pages a → AreRegs pages b → regs_line a ++ x ≡ regs_line b ++ y
    → (a ≡ b) × (x ≡ y)
one_regs pages a b x y p q e =
    let inner : (words_digits a ++ 10 ∷ []) ++ x ≡ (words_digits b ++ 10 ∷ []) ++ y = ap (drop 5) e in
    let parts = one_words a b (10 ∷ x) (10 ∷ y) (p.size ∙ sym q.size) p.each q.each
    (sym (append_assoc (words_digits a) (10 ∷ []) x) ∙ inner ∙ append_assoc (words_digits b) (10 ∷ []) y) in
    (parts.0, ap (drop 1) parts.1)

pub one_opening : (p q : ℕ) (v w x y : List ℕ) → IsSize p → IsSize q → AreRegs p v → AreRegs q w
    → opened p v x ≡ opened q w y → (p ≡ q) × (v ≡ w) × (x ≡ y)
one_opening p q v w x y sp sq rv rw e =
    let size = one_size p q (regs_line v ++ x) (regs_line w ++ y) sp sq
    (same_behind (size_line p ++ (regs_line v ++ x)) (size_line q ++ (regs_line w ++ y)) e) in
    let regs = one_regs p v w x y rv (subst (λ (n : ℕ). AreRegs n w) (sym size.0) rw) size.1 in
    (size.0, regs.0, regs.1)

-- ---- the page lines

one_page : (pages least p q : ℕ) (v w x y : List ℕ) → pages < 2 ^ 32 → IsNext pages least p v → IsNext pages least q w
    → filled_line p v ++ x ≡ filled_line q w ++ y → (p ≡ q) × (v ≡ w) × (x ≡ y)
one_page pages least p q v w x y small hp hq e =
    let inner : (decimal p ++ 32 ∷ [] ++ words_digits v ++ 10 ∷ []) ++ x ≡ (decimal q ++ 32 ∷ [] ++ words_digits w ++ 10 ∷ []) ++ y =
    ap (drop 5) e in
    let flat : (n : ℕ) (ws z : List ℕ) → (decimal n ++ 32 ∷ [] ++ words_digits ws ++ 10 ∷ []) ++ z ≡ decimal n ++ 32 ∷ (words_digits ws ++ 10 ∷ z) =
    λ n ws z. append_assoc (decimal n ++ 32 ∷ [] ++ words_digits ws) (10 ∷ []) z
    ∙ append_assoc (decimal n ++ 32 ∷ []) (words_digits ws) (10 ∷ z)
    ∙ append_assoc (decimal n) (32 ∷ []) (words_digits ws ++ 10 ∷ z) in
    let number = one_number 32 p q (words_digits v ++ 10 ∷ x) (words_digits w ++ 10 ∷ y) (omega arith)
    (omega (arith, hp.inside, small)) (omega (arith, hq.inside, small)) (sym (flat p v x) ∙ inner ∙ flat q w y) in
    let words = one_words v w (10 ∷ x) (10 ∷ y) (hp.size ∙ sym hq.size) hp.each hq.each number.1 in
    (number.0, words.0, ap (drop 1) words.1)

-- a text has its page lines in one way, where none stands behind them
pub one_pages : (pages least : ℕ) (xs ys : List (ℕ × List ℕ)) (x y : List ℕ) → pages < 2 ^ 32
    → AreNext pages least xs → AreNext pages least ys
    → HasNoNext pages (least_behind least xs) x → HasNoNext pages (least_behind least ys) y
    → filled_lines xs ++ x ≡ filled_lines ys ++ y → (xs ≡ ys) × (x ≡ y)
one_pages pages least [] [] x y small p q s t e = (refl, e)
one_pages pages least [] (b ∷ ys) x y small p q s t e =
    absurd (s b.0 b.1 (filled_lines ys ++ y) q.0 (e ∙ append_assoc (filled_line b.0 b.1) (filled_lines ys) y))
one_pages pages least (a ∷ xs) [] x y small p q s t e =
    absurd (t a.0 a.1 (filled_lines xs ++ x) p.0 (sym e ∙ append_assoc (filled_line a.0 a.1) (filled_lines xs) x))
one_pages pages least (a ∷ xs) (b ∷ ys) x y small p q s t e =
    let one = one_page pages least a.0 b.0 a.1 b.1 (filled_lines xs ++ x) (filled_lines ys ++ y) small p.0 q.0
    (sym (append_assoc (filled_line a.0 a.1) (filled_lines xs) x) ∙ e ∙ append_assoc (filled_line b.0 b.1) (filled_lines ys) y) in
    let number : a.0 ≡ b.0 = one.0 in
    let more = one_pages pages (a.0 + 1) xs ys x y small p.1 (subst (λ (n : ℕ). AreNext pages (n + 1) ys) (sym number) q.1)
    s (subst (λ (n : ℕ). HasNoNext pages (least_behind (n + 1) ys) y) (sym number) t) one.2 in
    let head : a ≡ b = ap (λ (n : ℕ). (n, a.1)) number ∙ ap (λ (ws : List ℕ). (b.0, ws)) one.1 in
    (ap (λ (z : ℕ × List ℕ). z ∷ xs) head ∙ ap (λ (zs : List (ℕ × List ℕ)). b ∷ zs) more.0, more.1)

-- what begins with another letter than a page line has none at its front
pub other_letter : (pages least c : ℕ) (cs : List ℕ) → c ≢ 112 → HasNoNext pages least (c ∷ cs)
other_letter pages least c cs h page words behind is e = h (ap (λ (xs : List ℕ). get_or xs 0 0) e)

pub end_has_none : (pages least : ℕ) (rest : List ℕ) → HasNoNext pages least (end_line ++ rest)
end_has_none pages least rest = other_letter pages least 101 (110 ∷ 100 ∷ 10 ∷ rest) (λ e. omega (arith, e))

cut_has_none : (pages least : ℕ) (text : List ℕ) → IsCutOff text → HasNoNext pages least text
cut_has_none pages least text (inl e) = λ page words behind is f.
    let nothing : 0 ≡ 112 = ap (λ (xs : List ℕ). get_or xs 0 0) (sym e ∙ f) in omega (arith, nothing)
cut_has_none pages least text (inr e) =
    subst (HasNoNext pages least) (sym e) (other_letter pages least 101 (110 ∷ 100 ∷ []) (λ f. omega (arith, f)))

none_here : (pages least line at : ℕ) (text : List ℕ) (kind : CapsuleKind) → StopsHere pages least line text at kind
    → HasNoNext pages least text
none_here pages least line at text Header h = absurd h
none_here pages least line at text Pages h = absurd h
none_here pages least line at text Regs h = absurd h
none_here pages least line at text Page h = h.1.page
none_here pages least line at text End h = cut_has_none pages least text h.1

one_here : (pages least line at bt : ℕ) (text : List ℕ) (kind sort : CapsuleKind) → StopsHere pages least line text at kind
    → StopsHere pages least line text bt sort → (at ≡ bt) × (kind ≡ sort)
one_here pages least line at bt text Page Page h k = (h.0 ∙ sym k.0, refl)
one_here pages least line at bt text End End h k = (h.0 ∙ sym k.0, refl)
one_here pages least line at bt text Page End h (here, inl nothing) = absurd (h.1.some nothing)
one_here pages least line at bt text Page End h (here, inr cut) = absurd (h.1.cut cut)
one_here pages least line at bt text End Page (here, inl nothing) k = absurd (k.1.some nothing)
one_here pages least line at bt text End Page (here, inr cut) k = absurd (k.1.cut cut)
one_here pages least line at bt text Header sort h k = absurd h
one_here pages least line at bt text Pages sort h k = absurd h
one_here pages least line at bt text Regs sort h k = absurd h
one_here pages least line at bt text Page Header h k = absurd k
one_here pages least line at bt text Page Pages h k = absurd k
one_here pages least line at bt text Page Regs h k = absurd k
one_here pages least line at bt text End Header h k = absurd k
one_here pages least line at bt text End Pages h k = absurd k
one_here pages least line at bt text End Regs h k = absurd k

one_in_pages : (pages at bt : ℕ) (text : List ℕ) (kind sort : CapsuleKind) → pages < 2 ^ 32
    → StopsInPages pages text at kind → StopsInPages pages text bt sort → (at ≡ bt) × (kind ≡ sort)
one_in_pages pages at bt text kind sort small (xs, x, p, cut, stop) (ys, y, q, cut', stop') =
    let same = one_pages pages 0 xs ys x y small p q (none_here pages (least_behind 0 xs) (4 + length xs) at x kind stop)
    (none_here pages (least_behind 0 ys) (4 + length ys) bt y sort stop') (sym cut ∙ cut') in
    let there : StopsHere pages (least_behind 0 xs) (4 + length xs) x bt sort =
    subst (λ (z : List ℕ). StopsHere pages (least_behind 0 xs) (4 + length xs) z bt sort) (sym same.1)
    (subst (λ (zs : List (ℕ × List ℕ)). StopsHere pages (least_behind 0 zs) (4 + length zs) y bt sort) (sym same.0) stop') in
    one_here pages (least_behind 0 xs) (4 + length xs) at bt x kind sort stop there

pub size_small : (pages : ℕ) → IsSize pages → pages < 2 ^ 32
size_small pages h = omega (arith, h.1)

one_behind : (at bt : ℕ) (text : List ℕ) (kind sort : CapsuleKind) → StopsBehind text at kind → StopsBehind text bt sort
    → (at ≡ bt) × (kind ≡ sort)
one_behind at bt text kind sort (p, v, x, sp, rv, cut, stop) (q, w, y, sq, rw, cut', stop') =
    let same = one_opening p q v w x y sp sq rv rw (sym cut ∙ cut') in
    let there : StopsInPages p x bt sort =
    subst (λ (n : ℕ). StopsInPages n x bt sort) (sym same.0)
    (subst (λ (z : List ℕ). StopsInPages q z bt sort) (sym same.2) stop') in
    one_in_pages p at bt x kind sort (size_small p sp) stop there

-- ---- a text is refused at one line

-- the first line that is another, of two texts behind the first
sizes_part : (text rest : List ℕ) (p : ℕ) (v x : List ℕ) → text ≡ header_line ++ rest
    → ((pages : ℕ) (behind : List ℕ) → IsSize pages → rest ≢ size_line pages ++ behind) → IsSize p
    → text ≡ opened p v x → ⊥
sizes_part text rest p v x cut none size e =
    none p (regs_line v ++ x) size (same_behind rest (size_line p ++ (regs_line v ++ x)) (sym cut ∙ e))

regs_part : (text rest : List ℕ) (n p : ℕ) (v x : List ℕ) → IsSize n → text ≡ header_line ++ size_line n ++ rest
    → ((words behind : List ℕ) → AreRegs n words → rest ≢ regs_line words ++ behind) → IsSize p → AreRegs p v
    → text ≡ opened p v x → ⊥
regs_part text rest n p v x size cut none sp rv e =
    let same = one_size n p rest (regs_line v ++ x) size sp
    (same_behind (size_line n ++ rest) (size_line p ++ (regs_line v ++ x)) (sym cut ∙ e)) in
    none v x (subst (λ (m : ℕ). AreRegs m v) (sym same.0) rv) same.1

pub one_fault : (at bt : ℕ) (text : List ℕ) (kind sort : CapsuleKind) → StopsAt text at kind → StopsAt text bt sort
    → (at ≡ bt) × (kind ≡ sort)
one_fault at bt text Header Header h k = (h.0 ∙ sym k.0, refl)
one_fault at bt text Header Pages h (b, rest, cut, none) = absurd (h.1 rest cut)
one_fault at bt text Header Regs h (b, n, rest, size, cut, none) = absurd (h.1 (size_line n ++ rest) cut)
one_fault at bt text Header Page h (q, w, y, sq, rw, cut, stop) = absurd (h.1 (size_line q ++ (regs_line w ++ y)) cut)
one_fault at bt text Header End h (q, w, y, sq, rw, cut, stop) = absurd (h.1 (size_line q ++ (regs_line w ++ y)) cut)
one_fault at bt text Pages Header (a, rest, cut, none) k = absurd (k.1 rest cut)
one_fault at bt text Pages Pages h k = (h.0 ∙ sym k.0, refl)
one_fault at bt text Pages Regs (a, rest, cut, none) (b, n, more, size, cut', none') =
    absurd (none n more size (same_behind rest (size_line n ++ more) (sym cut ∙ cut')))
one_fault at bt text Pages Page (a, rest, cut, none) (q, w, y, sq, rw, cut', stop) =
    absurd (sizes_part text rest q w y cut none sq cut')
one_fault at bt text Pages End (a, rest, cut, none) (q, w, y, sq, rw, cut', stop) =
    absurd (sizes_part text rest q w y cut none sq cut')
one_fault at bt text Regs Header (a, n, rest, size, cut, none) k = absurd (k.1 (size_line n ++ rest) cut)
one_fault at bt text Regs Pages (b, n, more, size, cut', none') (a, rest, cut, none) =
    absurd (none n more size (same_behind rest (size_line n ++ more) (sym cut ∙ cut')))
one_fault at bt text Regs Regs h k = (h.0 ∙ sym k.0, refl)
one_fault at bt text Regs Page (a, n, rest, size, cut, none) (q, w, y, sq, rw, cut', stop) =
    absurd (regs_part text rest n q w y size cut none sq rw cut')
one_fault at bt text Regs End (a, n, rest, size, cut, none) (q, w, y, sq, rw, cut', stop) =
    absurd (regs_part text rest n q w y size cut none sq rw cut')
one_fault at bt text Page Header (q, w, y, sq, rw, cut, stop) k = absurd (k.1 (size_line q ++ (regs_line w ++ y)) cut)
one_fault at bt text End Header (q, w, y, sq, rw, cut, stop) k = absurd (k.1 (size_line q ++ (regs_line w ++ y)) cut)
one_fault at bt text Page Pages (q, w, y, sq, rw, cut', stop) (a, rest, cut, none) =
    absurd (sizes_part text rest q w y cut none sq cut')
one_fault at bt text End Pages (q, w, y, sq, rw, cut', stop) (a, rest, cut, none) =
    absurd (sizes_part text rest q w y cut none sq cut')
one_fault at bt text Page Regs (q, w, y, sq, rw, cut', stop) (a, n, rest, size, cut, none) =
    absurd (regs_part text rest n q w y size cut none sq rw cut')
one_fault at bt text End Regs (q, w, y, sq, rw, cut', stop) (a, n, rest, size, cut, none) =
    absurd (regs_part text rest n q w y size cut none sq rw cut')
one_fault at bt text Page Page h k = one_behind at bt text Page Page h k
one_fault at bt text Page End h k = one_behind at bt text Page End h k
one_fault at bt text End Page h k = one_behind at bt text End Page h k
one_fault at bt text End End h k = one_behind at bt text End End h k

-- ---- a text with the lines of a parked machine at its front isn't refused

end_stops : (pages least line at : ℕ) (rest : List ℕ) (kind : CapsuleKind)
    → StopsHere pages least line (end_line ++ rest) at kind → ⊥
end_stops pages least line at rest Header h = h
end_stops pages least line at rest Pages h = h
end_stops pages least line at rest Regs h = h
end_stops pages least line at rest Page h = h.1.last rest refl
end_stops pages least line at rest End (here, inl nothing) = cc nothing
end_stops pages least line at rest End (here, inr cut) = cc cut

ends_in_pages : (pages at lines : ℕ) (text rest : List ℕ) (kind : CapsuleKind) → pages < 2 ^ 32
    → EndsInPages pages text lines rest → StopsInPages pages text at kind → ⊥
ends_in_pages pages at lines text rest kind small (xs, p, cut, count) (ys, y, q, cut', stop) =
    let same = one_pages pages 0 xs ys (end_line ++ rest) y small p q (end_has_none pages (least_behind 0 xs) rest)
    (none_here pages (least_behind 0 ys) (4 + length ys) at y kind stop) (sym cut ∙ cut') in
    end_stops pages (least_behind 0 ys) (4 + length ys) at rest kind
    (subst (λ (z : List ℕ). StopsHere pages (least_behind 0 ys) (4 + length ys) z at kind) (sym same.1) stop)

ends_behind : (at lines : ℕ) (text rest : List ℕ) (kind : CapsuleKind) → EndsAt text lines rest → StopsBehind text at kind → ⊥
ends_behind at lines text rest kind (p, v, x, sp, rv, cut, ends) (q, w, y, sq, rw, cut', stop) =
    let same = one_opening p q v w x y sp sq rv rw (sym cut ∙ cut') in
    let there : StopsInPages p x at kind =
    subst (λ (n : ℕ). StopsInPages n x at kind) (sym same.0)
    (subst (λ (z : List ℕ). StopsInPages q z at kind) (sym same.2) stop) in
    ends_in_pages p at lines x rest kind (size_small p sp) ends there

pub no_fault : (at lines : ℕ) (text rest : List ℕ) (kind : CapsuleKind) → EndsAt text lines rest → StopsAt text at kind → ⊥
no_fault at lines text rest Header (p, v, x, sp, rv, cut, ends) k = k.1 (size_line p ++ (regs_line v ++ x)) cut
no_fault at lines text rest Pages (p, v, x, sp, rv, cut, ends) (a, more, cut', none) = sizes_part text more p v x cut' none sp cut
no_fault at lines text rest Regs (p, v, x, sp, rv, cut, ends) (a, n, more, size, cut', none) =
    regs_part text more n p v x size cut' none sp rv cut
no_fault at lines text rest Page h k = ends_behind at lines text rest Page h k
no_fault at lines text rest End h k = ends_behind at lines text rest End h k

-- ---- a text has the lines of a parked machine at its front in one way

ends_once : (pages l k : ℕ) (text x y : List ℕ) → pages < 2 ^ 32 → EndsInPages pages text l x → EndsInPages pages text k y
    → (l ≡ k) × (x ≡ y)
ends_once pages l k text x y small (xs, p, cut, count) (ys, q, cut', count') =
    let same = one_pages pages 0 xs ys (end_line ++ x) (end_line ++ y) small p q (end_has_none pages (least_behind 0 xs) x)
    (end_has_none pages (least_behind 0 ys) y) (sym cut ∙ cut') in
    (count ∙ ap (λ (zs : List (ℕ × List ℕ)). 4 + length zs) same.0 ∙ sym count', ap (drop 4) same.1)

pub one_end : (l k : ℕ) (text x y : List ℕ) → EndsAt text l x → EndsAt text k y → (l ≡ k) × (x ≡ y)
one_end l k text x y (p, v, a, sp, rv, cut, ends) (q, w, b, sq, rw, cut', ends') =
    let same = one_opening p q v w a b sp sq rv rw (sym cut ∙ cut') in
    let there : EndsInPages p a k y =
    subst (λ (n : ℕ). EndsInPages n a k y) (sym same.0)
    (subst (λ (z : List ℕ). EndsInPages q z k y) (sym same.2) ends') in
    ends_once p l k a x y (size_small p sp) ends there

-- ---- a text is refused at one line, also where it goes on

pub not_refused : (at lines : ℕ) (text : List ℕ) (kind : CapsuleKind) → EndsAt text lines [] → RefusedAt text at kind → ⊥
not_refused at lines text Header h k = no_fault at lines text [] Header h k
not_refused at lines text Pages h k = no_fault at lines text [] Pages h k
not_refused at lines text Regs h k = no_fault at lines text [] Regs h k
not_refused at lines text Page h k = no_fault at lines text [] Page h k
not_refused at lines text End h (inl k) = no_fault at lines text [] End h k
not_refused at lines text End h (inr (more, rest, ends, some, is)) = some (sym (one_end lines more text [] rest h ends).1)

pub refused_once : (at bt : ℕ) (text : List ℕ) (kind sort : CapsuleKind) → StopsAt text at kind → RefusedAt text bt sort
    → (at ≡ bt) × (kind ≡ sort)
refused_once at bt text kind Header h k = one_fault at bt text kind Header h k
refused_once at bt text kind Pages h k = one_fault at bt text kind Pages h k
refused_once at bt text kind Regs h k = one_fault at bt text kind Regs h k
refused_once at bt text kind Page h k = one_fault at bt text kind Page h k
refused_once at bt text kind End h (inl k) = one_fault at bt text kind End h k
refused_once at bt text kind End h (inr (more, rest, ends, some, is)) = absurd (no_fault at more text rest kind ends h)

abbrev end_kind : CapsuleKind
end_kind = End

pub goes_once : (lines bt : ℕ) (text rest : List ℕ) (sort : CapsuleKind) → EndsAt text lines rest → RefusedAt text bt sort
    → rest ≢ [] → (lines + 1 ≡ bt) × (end_kind ≡ sort)
goes_once lines bt text rest Header h k some = absurd (no_fault bt lines text rest Header h k)
goes_once lines bt text rest Pages h k some = absurd (no_fault bt lines text rest Pages h k)
goes_once lines bt text rest Regs h k some = absurd (no_fault bt lines text rest Regs h k)
goes_once lines bt text rest Page h k some = absurd (no_fault bt lines text rest Page h k)
goes_once lines bt text rest End h (inl k) some = absurd (no_fault bt lines text rest End h k)
goes_once lines bt text rest End h (inr (more, behind, ends, other, is)) some =
    (ap (λ (n : ℕ). n + 1) (one_end lines more text rest behind h ends).0 ∙ sym is, refl)

pub refused_as : (at : ℕ) (text : List ℕ) (kind : CapsuleKind) → StopsAt text at kind → RefusedAt text at kind
refused_as at text Header h = h
refused_as at text Pages h = h
refused_as at text Regs h = h
refused_as at text Page h = h
refused_as at text End h = inl h
