-- The harts of the events of a job that can be built are there.
use Rattle.std.proofs.Common.{◌≡◌, ℕ, ◌<◌, Bool, true, false, Result, Ok, Err, List, [], ◌∷◌, length, refl, sym, ◌∙◌, subst, arith, ltb-true}
use Rattle.std.specs.Prelude.{nat_lt, if◌then◌else◌, map, filter_map}
use Rattle.std.specs.List.{All}
use Rattle.std.proofs.lemmas.List.{length-replicate}
use Rattle.std.proofs.lemmas.List.Elements.{All-nil, All-cons}
use Rattle.hv_cpu.specs.Regs.{reset_regs}
use Rattle.hv_irq.specs.declared.Event.{Event}
use Rattle.hv_irq.specs.declared.Event.TheVariants as event
use Rattle.hv_irq.specs.Events.{hart_of}
use Rattle.hv_line.specs.declared.types.Directive.{Directive}
use Rattle.hv_line.specs.declared.types.Directive.TheVariants as directive
use Rattle.hv_job.specs.declared.job.Job.{Job}
use Rattle.hv_job.specs.declared.job.Placed.{Placed}
use Rattle.hv_job.specs.IsJob.{IsJob, Happening, TurnOf, LinesOf, happening_of, event_of as happening_on}
use Rattle.hv_load.specs.Building.{Building, nothing_built}
use Rattle.hv_load.specs.Build.{done_of, built_from, end_of, build_of}
use Rattle.hv_load.specs.declared.ends.BuildKind.{BuildKind}
use Rattle.hv_load.specs.declared.ends.BuildKind.TheVariants as kind
use Rattle.hv_load.specs.declared.start.Start.{Start}
use Rattle.hv_load.proofs.Keeping.{done_keeps}
use Rattle.hv_lex.specs.Refusing.{◌>>=◌, at_line}

-- P holds of each
abbrev Each : {A : Type 0} → (A → Type 0) → List A → Type 0
Each P [] = Unit {0}
Each P (x ∷ xs) = P x × Each P xs

-- the hart of an event is there, of n
abbrev HasHart : ℕ → Directive → Type 0
HasHart n (directive.Turn hart) = hart < n
HasHart n (directive.Lines hart) = hart < n
HasHart n _ = Unit {0}

event_there : (b next : Building) (hart n : ℕ) → length b.harts ≡ n → (c : Bool) → nat_lt hart (length b.harts) ≡ c → (let r : Result Building BuildKind = if c then Ok b else Err kind.Hart in r) ≡ Ok next → hart < n
event_there b next hart n harts true is e = omega (arith, ltb-true hart (length b.harts) is, harts)
event_there b next hart n harts false is e = cc

done_there : (n : ℕ) (b next : Building) (line : ℕ) (d : Directive) → length b.harts ≡ n → done_of b line d ≡ Ok next → HasHart n d
done_there n b next line (directive.Turn hart) harts e = event_there b next hart n harts (nat_lt hart (length b.harts)) refl e
done_there n b next line (directive.Lines hart) harts e = event_there b next hart n harts (nat_lt hart (length b.harts)) refl e
done_there n b next line _ harts e = tt

lines_there : (n : ℕ) (lines : List Placed) (b end : Building) → length b.harts ≡ n → built_from b lines ≡ Ok end → Each (λ (p : Placed). HasHart n p.what) lines
unfolding built_from
lines_there n [] b end harts e = tt
lines_there n (p ∷ ps) b end harts e = by (done_of b p.line p.what) refl e (λ next h. lines_there n ps next end h)
  where
    by : (r : Result Building BuildKind) → done_of b p.line p.what ≡ r → ((at_line p.line r) >>= (λ next. built_from next ps)) ≡ Ok end →
        ((next : Building) → length next.harts ≡ n → built_from next ps ≡ Ok end → Each (λ (p : Placed). HasHart n p.what) ps) →
        Each (λ (p : Placed). HasHart n p.what) (p ∷ ps)
    by (Err why) is e more = cc
    by (Ok next) is e more = (done_there n b next p.line p.what harts is, more next ((done_keeps b next p.line p.what is).harts ∙ harts) e)

abbrev HasHappened : ℕ → Happening → Type 0
HasHappened n (TurnOf hart) = hart < n
HasHappened n (LinesOf hart) = hart < n

happened : (n : ℕ) (lines : List Placed) → Each (λ (p : Placed). HasHart n p.what) lines → Each (HasHappened n) (filter_map happening_on lines)
happened n [] each = tt
happened n (p ∷ ps) each = by p.what each.0 (happened n ps each.1)
  where
    by : (d : Directive) → HasHart n d → Each (HasHappened n) (filter_map happening_on ps) → Each (HasHappened n) (filter_map happening_on (record { line = p.line; what = d } ∷ ps))
    by (directive.Turn hart) h more = (h, more)
    by (directive.Lines hart) h more = (h, more)
    by _ h more = more

events_there : (n : ℕ) (events : List Event) → Each (HasHappened n) (map happening_of events) → All (λ (e : Event). hart_of e < n) events
events_there n [] each = All-nil (λ (e : Event). hart_of e < n)
events_there n (event.Turn hart count ∷ events) each = All-cons (λ (e : Event). hart_of e < n) (event.Turn hart count) events each.0 (events_there n events each.1)
events_there n (event.Lines hart mask ∷ events) each = All-cons (λ (e : Event). hart_of e < n) (event.Lines hart mask) events each.0 (events_there n events each.1)

pub own_events : (job : Job) (start : Start) → IsJob job → build_of job ≡ Ok start → All (λ (e : Event). hart_of e < job.harts) job.recording
unfolding build_of
own_events job start is e = by (built_from (nothing_built job.pages job.harts) job.lines) refl e
  where
    by : (r : Result Building (ℕ × BuildKind)) → built_from (nothing_built job.pages job.harts) job.lines ≡ r → (r >>= (end_of job.commands)) ≡ Ok start → All (λ (e : Event). hart_of e < job.harts) job.recording
    by (Err refusal) same e = cc
    by (Ok end) same e =
        events_there job.harts job.recording
        (subst (Each (HasHappened job.harts)) (sym is.events)
        (happened job.harts job.lines
        (lines_there job.harts job.lines (nothing_built job.pages job.harts) end (length-replicate job.harts reset_regs) same)))
