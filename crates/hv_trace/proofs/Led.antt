-- Rows that lead from a machine to another, one row more or the first wrong one.
use Rattle.std.proofs.Common.{◌≡◌, ℕ, zero, suc, ◌+◌, ◌-◌, ◌<◌, ◌≤◌, List, [], ◌∷◌, ◌++◌, length, take, get_or, Option, Some, refl, sym, ap, subst, ◌∙◌, arith}
use Rattle.std.specs.Prelude.{slice_get}
use Rattle.std.proofs.lemmas.List.{take_more, take_all}
use Rattle.hv_cpu.specs.Regs.{Regs}
use Rattle.hv_capsule.specs.Parked.{Parked}
use Rattle.hv_trace.specs.Check.{Follows, IsFirstWrong, IsWrong, Leads, steps_in}
use Rattle.hv_trace.specs.declared.row.TraceRow.{TraceRow}
use Rattle.hv_trace.specs.declared.row.TraceRow.TheVariants.{Lines, Step}

leads_push : (m n k : Parked) (rows : List TraceRow) (row : TraceRow) → Leads m rows n → Follows n row k → Leads m (rows ++ row ∷ []) k
leads_push m n k [] row e f = (k, subst (λ (x : Parked). Follows x row k) e f, refl)
leads_push m n k (first ∷ rows) row l f = (l.0, l.1, leads_push l.0 n k rows row l.2 f)

-- one row more
pub leads_more : (m n k : Parked) (rows : List TraceRow) (i : ℕ) (d : TraceRow) → i < length rows
    → Leads m (take i rows) n → Follows n (get_or rows i d) k → Leads m (take (i + 1) rows) k
leads_more m n k rows i d inside l f =
    subst (λ (xs : List TraceRow). Leads m xs k) (sym (take_more rows i d inside)) (leads_push m n k (take i rows) (get_or rows i d) l f)

-- all rows
pub leads_all : (m n : Parked) (rows : List TraceRow) (i : ℕ) → length rows ≤ i → Leads m (take i rows) n → Leads m rows n
leads_all m n rows i past l = subst (λ (xs : List TraceRow). Leads m xs n) (take_all i rows past) l

steps_push : (rows : List TraceRow) (row : TraceRow) → steps_in (rows ++ row ∷ []) ≡ steps_in rows + steps_in (row ∷ [])
unfolding steps_in
steps_push [] row = omega arith
steps_push (Lines mask ∷ rows) row = steps_push rows row
steps_push (Step pc len regs mem ∷ rows) row = ap (λ (n : ℕ). 1 + n) (steps_push rows row) ∙ omega arith

pub steps_more : (rows : List TraceRow) (i : ℕ) (d : TraceRow) → i < length rows
    → steps_in (take (i + 1) rows) ≡ steps_in (take i rows) + steps_in (get_or rows i d ∷ [])
steps_more rows i d inside = ap steps_in (take_more rows i d inside) ∙ steps_push (take i rows) (get_or rows i d)

pub steps_all : (rows : List TraceRow) (i : ℕ) → length rows ≤ i → steps_in (take i rows) ≡ steps_in rows
steps_all rows i past = ap steps_in (take_all i rows past)

pub steps_none : steps_in [] ≡ 0
unfolding steps_in
steps_none = refl

got : (rows : List TraceRow) (i : ℕ) (d : TraceRow) → i < length rows → slice_get rows i ≡ Some (get_or rows i d)
got [] i d h = absurd (omega arith)
got (row ∷ rows) zero d h = refl
got (row ∷ rows) (suc i) d h = got rows i d (omega arith)

-- the row behind those that lead here is wrong
pub first_wrong : (m n : Parked) (rows : List TraceRow) (i number : ℕ) (d : TraceRow) → i < length rows → number ≡ i + 1
    → Leads m (take i rows) n → IsWrong n (get_or rows i d) → IsFirstWrong m rows number
first_wrong m n rows i number d inside is l wrong =
    let before : i ≡ number - 1 = omega (arith, is) in (
      n,
      get_or rows i d,
      omega (arith, is),
      subst (λ (j : ℕ). Leads m (take j rows) n) before l,
      subst (λ (j : ℕ). slice_get rows j ≡ Some (get_or rows i d)) before (got rows i d inside),
      wrong,
    )

-- a machine that runs no other still runs none
pub still_none : (m n : Parked) (row : TraceRow) → m.regs.next ≡ 0 → Follows m row n → n.regs.next ≡ 0
still_none m n (Lines mask) none f = ap (λ (r : Regs). r.next) f.regs ∙ none
still_none m n (Step pc len regs mem) none f = f.next

pub steps_line : (mask : ℕ) → steps_in (Lines mask ∷ []) ≡ 0
unfolding steps_in
steps_line mask = refl

pub steps_step : (pc len : ℕ) (regs : List (ℕ × ℕ)) (mem : Option (ℕ × ℕ)) → steps_in (Step pc len regs mem ∷ []) ≡ 1
unfolding steps_in
steps_step pc len regs mem = refl
