-- Rows lead to one machine, and one of them is the first wrong one.
use Rattle.std.proofs.Common.{◌≡◌, ℕ, zero, suc, ◌-◌, ◌≤◌, List, [], ◌∷◌, take, Some, refl, sym, ap, subst, ◌∙◌, arith}
use Rattle.std.specs.Prelude.{slice_get}
use Rattle.std.proofs.lemmas.Option.{same_Some}
use Rattle.hv_cpu.specs.Regs.{Regs}
use Rattle.hv_capsule.specs.Parked.{Parked}
use Rattle.hv_trace.specs.Check.{Follows, IfNo, IfYes, IsFirstWrong, IsWrong, Leads}
use Rattle.hv_trace.specs.declared.checking.Verdict.{Verdict}
use Rattle.hv_trace.specs.declared.checking.Verdict.TheVariants.{Yes, No}
use Rattle.hv_trace.specs.declared.row.TraceRow.{TraceRow}
use Rattle.hv_trace.specs.declared.row.TraceRow.TheVariants.{Lines, Step}
use Rattle.hv_trace.proofs.Wrong.{same_regs, same_storage}

one_machine : (m n : Parked) → m.storage ≡ n.storage → m.regs ≡ n.regs → m ≡ n
one_machine m n e f =
    ap (λ (S : List ℕ). with_regs m.regs S) e ∙ ap (λ (r : Regs). with_regs r n.storage) f
  where
    with_regs : Regs → List ℕ → Parked
    with_regs r S = record { regs = r; storage = S }

follows_once : (m n k : Parked) (row : TraceRow) → Follows m row n → Follows m row k → n ≡ k
follows_once m n k (Lines mask) f g = one_machine n k (f.storage ∙ sym g.storage) (f.regs ∙ sym g.regs)
follows_once m n k (Step pc len regs mem) f g =
    let e = sym f.step ∙ g.step in
    one_machine n k (same_storage n.storage k.storage n.regs k.regs e) (same_regs n.storage k.storage n.regs k.regs e)

-- the first wrong row, told from the place of the first row on
abbrev WrongAt : Parked → List TraceRow → ℕ → Type 0
WrongAt m rows i =
    (before : Parked) × (row : TraceRow) × Leads m (take i rows) before × (slice_get rows i ≡ Some row) × IsWrong before row

nothing_there : (i : ℕ) (row : TraceRow) → slice_get [] i ≡ Some row → ⊥
nothing_there i row e = cc

-- the machine before a row that is wrong
first_is : (row found : TraceRow) (rows : List TraceRow) → slice_get (row ∷ rows) 0 ≡ Some found → row ≡ found
first_is row found rows e = same_Some row found e

-- where the rows lead on, none is wrong
none_wrong : (m n : Parked) (rows : List TraceRow) (i : ℕ) → Leads m rows n → WrongAt m rows i → ⊥
none_wrong m n [] i l w = nothing_there i w.1 w.3
none_wrong m n (row ∷ rows) zero l w =
    w.4 l.0 (subst (λ (r : TraceRow). Follows w.0 r l.0) (first_is row w.1 rows w.3) (subst (λ (x : Parked). Follows x row l.0) (sym w.2) l.1))
none_wrong m n (row ∷ rows) (suc i) l w =
    let led = w.2 in
    let same : led.0 ≡ l.0 = follows_once m led.0 l.0 row led.1 l.1 in
    none_wrong l.0 n rows i l.2 (w.0, w.1, subst (λ (x : Parked). Leads x (take i rows) w.0) same led.2, w.3, w.4)

-- one row is the first wrong one
wrong_once : (m : Parked) (rows : List TraceRow) (i j : ℕ) → WrongAt m rows i → WrongAt m rows j → i ≡ j
wrong_once m [] i j w v = absurd (nothing_there i w.1 w.3)
wrong_once m (row ∷ rows) zero zero w v = refl
wrong_once m (row ∷ rows) zero (suc j) w v =
    absurd (w.4 v.2.0 (subst (λ (r : TraceRow). Follows w.0 r v.2.0) (first_is row w.1 rows w.3) (subst (λ (x : Parked). Follows x row v.2.0) (sym w.2) v.2.1)))
wrong_once m (row ∷ rows) (suc i) zero w v =
    absurd (v.4 w.2.0 (subst (λ (r : TraceRow). Follows v.0 r w.2.0) (first_is row v.1 rows v.3) (subst (λ (x : Parked). Follows x row w.2.0) (sym v.2) w.2.1)))
wrong_once m (row ∷ rows) (suc i) (suc j) w v =
    let same : v.2.0 ≡ w.2.0 = follows_once m v.2.0 w.2.0 row v.2.1 w.2.1 in
    let more = wrong_once w.2.0 rows i j (w.0, w.1, w.2.2, w.3, w.4) (v.0, v.1, subst (λ (x : Parked). Leads x (take j rows) v.0) same v.2.2, v.3, v.4) in
    ap suc more

at_place : (m : Parked) (rows : List TraceRow) (number : ℕ) → IsFirstWrong m rows number → WrongAt m rows (number - 1)
at_place m rows number (before, row, some, leads, there, wrong) = (before, row, leads, there, wrong)

some_place : (m : Parked) (rows : List TraceRow) (number : ℕ) → IsFirstWrong m rows number → 1 ≤ number
some_place m rows number (before, row, some, leads, there, wrong) = some

-- no other answer than No of that row is given where a row is the first wrong one
pub told_wrong : (m n : Parked) (rows : List TraceRow) (v : Verdict) → IfYes v (λ _. Leads m rows n)
    → IfNo v (IsFirstWrong m rows) → (number : ℕ) → IsFirstWrong m rows number → v ≡ No number
told_wrong m n rows (Yes steps) led wrong number w = absurd (none_wrong m n rows (number - 1) led (at_place m rows number w))
told_wrong m n rows (No row) led wrong number w =
    let same = wrong_once m rows (row - 1) (number - 1) (at_place m rows row wrong) (at_place m rows number w) in
    let is : row ≡ number = omega (arith, same, some_place m rows row wrong, some_place m rows number w) in
    ap (λ (k : ℕ). No k) is
