-- What a refusal says of a text.
use Rattle.std.proofs.Common.{◌≡◌, ◌≢◌, ℕ, ◌<◌, List, [], ◌++◌, length, drop, sym, ap, subst, ◌∙◌, arith}
use Rattle.std.proofs.lemmas.List.{append-nil, length-drop}
use Rattle.hv_capsule.specs.Parked.{Parked}
use Rattle.hv_capsule.specs.Text.{capsule_text}
use Rattle.hv_capsule.specs.Lines.{AreRegs, EndsAt, IfFault, IsFault, IsMachine, IsSize, IsWant, RefusedAt, StopsAt, StopsInPages, line_total, opened}
use Rattle.hv_capsule.specs.declared.ends.CapsuleEnd.{CapsuleEnd}
use Rattle.hv_capsule.specs.declared.ends.CapsuleEnd.TheVariants as ends
use Rattle.hv_capsule.specs.declared.ends.CapsuleKind.{CapsuleKind}
use Rattle.hv_capsule.specs.declared.ends.CapsuleKind.TheVariants.{Header, Pages, Regs, Page, End}
use Rattle.hv_capsule.proofs.Same.{no_fault, one_end, one_fault, refused_as, refused_once}
use Rattle.hv_capsule.proofs.Whole.{machine_ends}

-- where a machine stands at the front, memory alone can be wanting
pub want : (text behind : List ℕ) (e : CapsuleEnd) (m : Parked) → IfFault (StopsAt text) e → IsMachine m
    → text ≡ capsule_text m ++ behind → IsWant e
want text behind (ends.CapsuleFault line kind) m h is cut =
    no_fault line (line_total m) text behind kind (machine_ends m text behind is cut) h
want text behind ends.Memory m h is cut = tt

pub least : (text : List ℕ) (e : CapsuleEnd) (at : ℕ) (kind : CapsuleKind) → IfFault (StopsAt text) e → StopsAt text at kind
    → IfFault (IsFault at kind) e
least text (ends.CapsuleFault line told) at kind h k = one_fault line at text told kind h k
least text ends.Memory at kind h k = tt

pub least_refused : (text : List ℕ) (e : CapsuleEnd) (at : ℕ) (kind : CapsuleKind) → IfFault (StopsAt text) e
    → RefusedAt text at kind → IfFault (IsFault at kind) e
least_refused text (ends.CapsuleFault line told) at kind h k = refused_once line at text told kind h k
least_refused text ends.Memory at kind h k = tt

pub err_refused : (text : List ℕ) (e : CapsuleEnd) → IfFault (StopsAt text) e → IfFault (RefusedAt text) e
err_refused text (ends.CapsuleFault line told) h = refused_as line text told h
err_refused text ends.Memory h = tt

-- a refusal among the page lines is one of the text
stops : (text ws more : List ℕ) (n line : ℕ) (kind : CapsuleKind) → IsSize n → AreRegs n ws → text ≡ opened n ws more
    → StopsInPages n more line kind → StopsAt text line kind
stops text ws more n line Header size regs cut (xs, x, p, parts, h) = absurd h
stops text ws more n line Pages size regs cut (xs, x, p, parts, h) = absurd h
stops text ws more n line Regs size regs cut (xs, x, p, parts, h) = absurd h
stops text ws more n line Page size regs cut h = (n, ws, more, size, regs, cut, h)
stops text ws more n line End size regs cut h = (n, ws, more, size, regs, cut, h)

pub err_in_pages : (text ws more : List ℕ) (n k : ℕ) (e : CapsuleEnd) → IsSize n → AreRegs n ws → text ≡ opened n ws more
    → n ≡ k → IfFault (StopsInPages k more) e → IfFault (StopsAt text) e
err_in_pages text ws more n k (ends.CapsuleFault line kind) size regs cut count h =
    stops text ws more n line kind size regs cut (subst (λ (j : ℕ). StopsInPages j more line kind) (sym count) h)
err_in_pages text ws more n k ends.Memory size regs cut count h = tt

-- ---- a text that goes on

pub goes_on : (size : ℕ) (text : List ℕ) → size < length text → drop size text ≢ []
goes_on size text lt e =
    let none : length (drop size text) ≡ 0 = ap length e in omega (arith, none, length-drop size text, lt)

pub no_more : (text rest : List ℕ) (lines : ℕ) (m : Parked) → IsMachine m → text ≡ capsule_text m → EndsAt text lines rest
    → rest ≢ [] → ⊥
no_more text rest lines m is cut ends some =
    some (one_end lines (line_total m) text rest [] ends (machine_ends m text [] is (cut ∙ sym (append-nil (capsule_text m))))).1
