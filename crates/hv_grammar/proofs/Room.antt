-- The room that the limits leave for what is said behind a draft.
use Rattle.std.proofs.Common.{◌≡◌, ℕ, ◌+◌, ◌≤◌, ◌<◌, nat_le, nat_lt, Bool, true, false, not, cond, List, [], ◌∷◌, ◌++◌, length, sum_by, Option, Some, None, refl, sym, ap, ◌∙◌, subst, arith, append_assoc, length-append, zero-add}
use Rattle.std.proofs.lemmas.Bool.Decides.{nat_tests}
use Rattle.std.proofs.lemmas.List.Sums.{sum_by-append}
use Rattle.hv_irq.specs.Events.{hart_of, is_line_mask, mask_of, refusal_of, steps_of, total_of}
use Rattle.hv_irq.specs.declared.Event.{Event}
use Rattle.hv_irq.specs.declared.PushEnd.{PushEnd}
use Rattle.hv_irq.specs.declared.PushEnd.TheVariants as pushed
use Rattle.hv_limits.specs.Limits.{events_limit, harts_limit, steps_limit}
use Rattle.hv_line.specs.JobLimits.{job_breaks, job_commands, job_harts}
use Rattle.hv_line.specs.declared.types.DebugCommand.{DebugCommand}
use Rattle.hv_line.specs.declared.types.DebugCommand.TheVariants as command
use Rattle.hv_line.specs.declared.types.Directive.{Directive}
use Rattle.hv_job.specs.Commands.{is_over}
use Rattle.hv_job.specs.IsJob.{breaks_in, is_break}
use Rattle.hv_job.specs.JobOf.{is_many}
use Rattle.hv_job.specs.Limited.{amount_of, limit_of, share_of}
use Rattle.hv_job.specs.declared.job.DebugLine.{DebugLine as Command}
use Rattle.hv_job.specs.declared.job.Placed.{Placed}
use Rattle.hv_job.specs.declared.limited.Limited.{Limited}
use Rattle.hv_job.proofs.Counting.{kept_few}
use Rattle.hv_grammar.specs.Said.{Said, events_by, events_said, placed_by, placed_said}
use Rattle.hv_grammar.specs.Within.{harts_by_line, harts_lines}
use Rattle.hv_grammar.proofs.Deeds.{Draft}
use Rattle.hv_grammar.proofs.Telling.{harts_count}

pub record Room (draft : Draft) (n : ℕ) (says : List Said) : Type 0 where
  pub harts : harts_count draft.harts + harts_lines says ≤ 1
  pub limits : (of : Limited) → amount_of of (draft.lines ++ placed_said n says) ≤ limit_of of
  pub steps : total_of (draft.recording ++ events_said says) ≤ steps_limit
  pub events : length (draft.recording ++ events_said says) ≤ events_limit

-- behind one line more
pub room_next : (draft next : Draft) (n : ℕ) (said : Said) (says : List Said) → harts_count next.harts ≡ harts_count draft.harts + harts_by_line said → next.lines ≡ draft.lines ++ placed_by n said says → next.recording ≡ draft.recording ++ events_by said → Room draft n (said ∷ says) → Room next (n + 1) says
room_next draft next n said says harts lines events room =
    let e : next.lines ++ placed_said (n + 1) says ≡ draft.lines ++ placed_said n (said ∷ says) =
    ap (λ ps. ps ++ placed_said (n + 1) says) lines ∙ append_assoc draft.lines (placed_by n said says) (placed_said (n + 1) says)
    in
    let f : next.recording ++ events_said says ≡ draft.recording ++ events_said (said ∷ says) =
    ap (λ es. es ++ events_said says) events ∙ append_assoc draft.recording (events_by said) (events_said says)
    in
    let h : harts_count draft.harts + harts_lines (said ∷ says) ≤ 1 = room.harts in
    record {
      harts = omega (arith, h, harts);
      limits = λ of. subst (λ ps. amount_of of ps ≤ limit_of of) (sym e) (room.limits of);
      steps = subst (λ es. total_of es ≤ steps_limit) (sym f) room.steps;
      events = subst (λ es. length es ≤ events_limit) (sym f) room.events;
    }

-- a directive has room in front of what is said behind it
above : {A : Type 0} (f : A → ℕ) (xs rest : List A) (x : A) (limit : ℕ) → sum_by f (xs ++ x ∷ rest) ≤ limit → sum_by f xs + f x ≤ limit
above f xs rest x limit le =
    let s : sum_by f (xs ++ x ∷ rest) ≡ sum_by f xs + sum_by f (x ∷ rest) = sum_by-append f xs (x ∷ rest) in
    let t : sum_by f (x ∷ rest) ≡ sum_by f (x ∷ []) + sum_by f rest = sum_by-append f (x ∷ []) rest in
    let u : sum_by f (x ∷ []) ≡ f x = zero-add (f x) in
    omega (arith, le, s, t, u)

pub few : (draft : Draft) (n : ℕ) (said : Said) (says : List Said) (what : Directive) → placed_by n said says ≡ record { line = n; what = what } ∷ [] → Room draft n (said ∷ says) → is_many draft.lines what ≡ false
few draft n said says what one room =
    let p : Placed = record { line = n; what = what } in
    let e : draft.lines ++ placed_said n (said ∷ says) ≡ draft.lines ++ p ∷ placed_said (n + 1) says =
    ap (λ ps. draft.lines ++ (ps ++ placed_said (n + 1) says)) one
    in
    kept_few draft.lines what (λ of. above (λ (q : Placed). share_of of q.what) draft.lines (placed_said (n + 1) says) p (limit_of of) (subst (λ ps. amount_of of ps ≤ limit_of of) e (room.limits of)))

-- an event has room too
no_refusal : (hart mask steps many : Bool) → hart ≡ false → mask ≡ true → steps ≡ false → many ≡ false → (let o : Option PushEnd = cond hart (Some pushed.Hart) (cond (not mask) (Some pushed.Mask) (cond steps (Some pushed.Steps) (cond many (Some pushed.Many) None))) in o) ≡ None
no_refusal true mask steps many h m s l = cc
no_refusal false false steps many h m s l = cc
no_refusal false true true many h m s l = cc
no_refusal false true false true h m s l = cc
no_refusal false true false false h m s l = refl

pub schedulable : (draft : Draft) (n : ℕ) (said : Said) (says : List Said) (event : Event) → events_by said ≡ event ∷ [] → hart_of event < job_harts → is_line_mask (mask_of event) ≡ true → Room draft n (said ∷ says) → refusal_of draft.recording event ≡ None
schedulable draft n said says event one below masked room =
    let e : draft.recording ++ events_said (said ∷ says) ≡ draft.recording ++ event ∷ events_said says =
    ap (λ es. draft.recording ++ (es ++ events_said says)) one
    in
    let steps : total_of draft.recording + steps_of event ≤ steps_limit =
    above steps_of draft.recording (events_said says) event steps_limit (subst (λ es. total_of es ≤ steps_limit) e room.steps)
    in
    let many : length (draft.recording ++ event ∷ events_said says) ≤ events_limit = subst (λ es. length es ≤ events_limit) e room.events in
    let long : length (draft.recording ++ event ∷ events_said says) ≡ length draft.recording + length (event ∷ events_said says) = length-append draft.recording (event ∷ events_said says) in
    let less : length draft.recording < events_limit = omega (arith, many, long) in
    no_refusal (nat_le harts_limit (hart_of event)) (is_line_mask (mask_of event)) (nat_lt steps_limit (total_of draft.recording + steps_of event)) (nat_le events_limit (length draft.recording))
    (grind (arith, nat_tests)) masked (grind (arith, nat_tests)) (grind (arith, nat_tests))

few_commands : (commands : List Command) (what : DebugCommand) → length commands < job_commands → breaks_in commands + cond (is_break what) 1 0 ≤ job_breaks → is_over commands what ≡ false
unfolding is_over
few_commands commands (command.Break name at) less b = grind (arith, nat_tests)
few_commands commands _ less b = grind (arith, nat_tests)

-- a command has room in front of what is said behind it
pub room_command : (commands : List Command) (n : ℕ) (words : List ℕ) (what : DebugCommand) (rest : List Command) → length (commands ++ record { line = n; words = words; what = what } ∷ rest) ≤ job_commands → breaks_in (commands ++ record { line = n; words = words; what = what } ∷ rest) ≤ job_breaks → is_over commands what ≡ false
room_command commands n words what rest count breaks =
    let p : Command = record { line = n; words = words; what = what } in
    let long : length (commands ++ p ∷ rest) ≡ length commands + length (p ∷ rest) = length-append commands (p ∷ rest) in
    let less : length commands < job_commands = omega (arith, count, long) in
    few_commands commands what less
    (above (λ (q : Command). cond (is_break q.what) 1 0) commands rest p job_breaks breaks)
