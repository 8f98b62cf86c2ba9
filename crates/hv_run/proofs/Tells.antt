-- What a step and a change of lines tell.
use Rattle.std.proofs.Common.{◌≡◌, ◌≢◌, ℕ, ◌+◌, nat_eq, not, ◌&&◌, Option, Some, None, List, [], ◌∷◌, ◌++◌, length, refl, sym, ap, ◌∙◌}
use Rattle.std.specs.Prelude.{slice_get}
use Rattle.std.proofs.lemmas.List.{length_push}
use Rattle.hv_cpu.specs.Regs.{Regs}
use Rattle.hv_nest.specs.declared.changed.ChangedRow.{ChangedRow}
use Rattle.hv_nest.specs.declared.outcome.StepKind.{StepKind}
use Rattle.hv_nest.specs.declared.outcome.StepKind.TheVariants.{Worked, Recall, Fault}
use Rattle.hv_nest.specs.Changes.{differences}
use Rattle.hv_nest.specs.State.{State}
use Rattle.hv_nest.specs.Move.{StepOf, LinesOf, Moved, moved_of, lined_at, lined_state, running_of}
use Rattle.hv_nest.specs.Watched.{are_same, begins, is_outside}
use Rattle.hv_run.specs.declared.counts.Counts.{Counts}
use Rattle.hv_run.specs.Record.{Count, FaultRecord, kind_counted, last_kept}
use Rattle.hv_limits.specs.Limits.{kept_limit}
use Rattle.hv_run.specs.Play.{Stepped, Lined, Watching, any_marked, kind_after}
use Rattle.hv_run.proofs.Lists.{last_pushed}
use Rattle.hv_run.proofs.Moves.{Tells, numbers}
use Rattle.hv_run.proofs.Touch.{exact, all_same_itself}

lined_storage : (st : State) (hart mask : ℕ) (r : Option Regs) → (lined_at st hart mask r).storage ≡ st.storage
lined_storage st hart mask None = refl
lined_storage st hart mask (Some r) = refl

pub tells_lines : (ks : List Watching) (st next : State) (hart mask : ℕ) → next ≡ lined_state st hart mask → Tells ks st (LinesOf hart mask) next Lined
tells_lines ks st next hart mask is = record {
  state = sym is;
  counts = λ some w. refl;
  marks = λ marks ft m.
      ap (λ (x : State). not (are_same ft st.storage x.storage)) is
      ∙ ap (λ (T : List ℕ). not (are_same ft st.storage T)) (lined_storage st hart mask (slice_get st.harts hart))
      ∙ ap not (all_same_itself ft st.storage);
  numbers = λ c. refl;
}

-- the numbers with one more fault
abbrev faulted : Count → ℕ → List FaultRecord → Counts
faulted c faults kept = record { steps = c.steps + 1; faults = faults; recalls = c.recalls; kept = kept }

kind_numbers : (c : Count) (hart : ℕ) (kind : StepKind) → numbers (kind_counted c hart kind) ≡ kind_after (numbers c) hart kind
kind_numbers c hart Worked = refl
kind_numbers c hart (Recall l) = refl
kind_numbers c hart (Fault l cause address a) =
    let row : FaultRecord = record { step = c.steps + 1; hart = hart; receiver = l; cause = cause; address = address; access = a } in
    ap (λ (n : ℕ). faulted c n (last_kept (c.faults ++ row ∷ []))) (length_push c.faults row)
    ∙ ap (faulted c (length c.faults + 1)) (sym (last_pushed kept_limit c.faults row))

pub tells_step : (ks : List Watching) (st next : State) (hart : ℕ) (running : List ℕ) (kind : StepKind) (changed : List ChangedRow) → record { kind = kind; state = next } ≡ moved_of st hart → (ks ≢ [] → running ≡ running_of st hart) → changed ≡ differences st.storage next.storage → length next.storage ≡ length st.storage → Tells ks st (StepOf hart) next (Stepped hart running kind changed)
tells_step ks st next hart running kind changed moves path changes len =
    let same_kind : (moved_of st hart).kind ≡ kind = sym (ap (λ (m : Moved). m.kind) moves) in
    record {
      state = sym (ap (λ (m : Moved). m.state) moves);
      counts = λ some w.
          ap (λ (p : List ℕ). nat_eq hart w.hart && (begins w.path p && not (is_outside (length w.path) (moved_of st hart).kind))) (sym (path some))
          ∙ ap (λ (k : StepKind). nat_eq hart w.hart && (begins w.path running && not (is_outside (length w.path) k))) same_kind;
      marks = λ marks ft m. exact marks ft st.storage next.storage m (sym len) ∙ ap (any_marked marks) (sym changes);
      numbers = λ c. ap (λ (k : StepKind). numbers (kind_counted c hart k)) same_kind ∙ kind_numbers c hart kind;
    }
