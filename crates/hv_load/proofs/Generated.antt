-- The parts of the job of a number, one more after another, and what holds of the whole.
use Rattle.std.proofs.Common.{◌≡◌, ℕ, zero, suc, ◌+◌, ◌*◌, ◌/◌, ◌%◌, ◌<◌, ◌≤◌, Bool, true, false, cond, eqb, lit<, lit≤, List, [], ◌∷◌, ◌++◌, length, map, replicate, sum_by, All, filter_map, refl, sym, ap, subst, ◌∙◌, add-one, zero-add, arith, inl, length-append}
use Rattle.std.specs.List.{range_with_len}
use Rattle.std.proofs.lemmas.List.{length-replicate, append-nil}
use Rattle.std.proofs.lemmas.List.Elements.{All-append, All-cons, All-map, All-nil, filter_map-append}
use Rattle.std.proofs.lemmas.List.FromFn.{length-map-range_with_len, map-range_with_len_more}
use Rattle.std.proofs.lemmas.List.Sums.{sum_by-append, sum_by-cons}
use Rattle.hv_irq.specs.declared.Event.{Event}
use Rattle.hv_irq.specs.declared.Event.TheVariants.{Turn}
use Rattle.hv_isa.specs.declared.Instr.{Instr}
use Rattle.hv_line.specs.Ranges.{IsCommand, IsRanged}
use Rattle.hv_job.specs.IsJob.{IsJob, TurnOf, event_of, happening_of}
use Rattle.hv_job.specs.Limited.{amount_of, limit_of, share_of}
use Rattle.hv_job.specs.declared.job.DebugLine.{DebugLine}
use Rattle.hv_job.specs.declared.job.Job.{Job}
use Rattle.hv_job.specs.declared.job.Placed.{Placed}
use Rattle.hv_job.specs.declared.limited.Limited.{Limited}
use Rattle.hv_job.specs.declared.limited.Limited.TheVariants as limited
use Rattle.hv_load.specs.Generator.{addition, additions, depths, job_with, jump_back, kernel_line, kernel_of, lines_of, long_turn, next, number_at, schedule_of, tower_line, turn_line, turn_lines, watch_line, word_of}

pub number_none : (seed : ℕ) → number_at seed 0 ≡ seed
unfolding number_at
number_none seed = refl

number_more : (seed k : ℕ) → number_at seed (k + 1) ≡ next (number_at seed k)
unfolding number_at
number_more seed k = rw add-one refl

pub number_grows : (seed k number after : ℕ) → after ≡ next number → number ≡ number_at seed k → after ≡ number_at seed (k + 1)
number_grows seed k number after moved at = moved ∙ ap next at ∙ sym (number_more seed k)

pub additions_none : (seed : ℕ) → additions seed 0 ≡ []
unfolding additions
additions_none seed = refl

additions_more : (seed k : ℕ) → additions seed (k + 1) ≡ additions seed k ++ word_of (addition (number_at seed (k + 1))) ∷ []
unfolding additions
additions_more seed k = map-range_with_len_more (λ i. word_of (addition (number_at seed (i + 1)))) 0 k k (zero-add k)

pub additions_grows : (seed k number word : ℕ) (i : Instr) (words after : List ℕ) → after ≡ words ++ word ∷ [] → words ≡ additions seed k → number ≡ number_at seed (k + 1) → i ≡ addition number → word ≡ word_of i → after ≡ additions seed (k + 1)
additions_grows seed k number word i words after pushed before at instr spelled =
    pushed
    ∙ ap (λ (ws : List ℕ). ws ++ word ∷ []) before
    ∙ ap (λ (w : ℕ). additions seed k ++ w ∷ []) (spelled ∙ ap word_of (instr ∙ ap addition at))
    ∙ sym (additions_more seed k)

pub length-kernel_of : (seed : ℕ) → length (kernel_of seed) ≡ 512
unfolding additions
length-kernel_of seed =
    length-append (additions seed 511) (word_of jump_back ∷ [])
    ∙ ap (λ n. n + 1) (length-map-range_with_len (λ i. word_of (addition (number_at seed (i + 1)))) 0 511)

pub turn_lines_none : turn_lines 0 ≡ []
unfolding turn_lines
turn_lines_none = refl

pub turn_lines_more : (k : ℕ) → turn_lines (k + 1) ≡ turn_lines k ++ turn_line k ∷ []
unfolding turn_lines
turn_lines_more k = map-range_with_len_more turn_line 0 k k (zero-add k)

-- each turn is one of hart 0
turn_events : (turns : ℕ) → map happening_of (replicate turns long_turn) ≡ replicate turns (TurnOf 0)
turn_events zero = refl
turn_events (suc k) = ap (λ hs. TurnOf 0 ∷ hs) (turn_events k)

events_if : (bare : Bool) (first : Event) (turns : ℕ) → happening_of first ≡ TurnOf 0 → (let events = cond bare [] (first ∷ []) ++ replicate turns long_turn in map happening_of events ≡ replicate (length events) (TurnOf 0))
events_if true first turns is = turn_events turns ∙ ap (λ n. replicate n (TurnOf 0)) (sym (length-replicate turns long_turn))
events_if false first turns is =
    ap (λ h. h ∷ map happening_of (replicate turns long_turn)) is
    ∙ ap (λ hs. TurnOf 0 ∷ hs) (turn_events turns ∙ ap (λ n. replicate n (TurnOf 0)) (sym (length-replicate turns long_turn)))

schedule_events : (depth : ℕ) → map happening_of (schedule_of depth) ≡ replicate (length (schedule_of depth)) (TurnOf 0)
unfolding schedule_of
schedule_events depth = events_if (eqb depth 0) (Turn 0 (3 * depth)) 100 refl

line_events_from : (first turns : ℕ) → filter_map event_of (map turn_line (range_with_len first turns)) ≡ replicate turns (TurnOf 0)
line_events_from first zero = refl
line_events_from first (suc k) = ap (λ hs. TurnOf 0 ∷ hs) (line_events_from (first + 1) k)

line_events : (depth : ℕ) (kernel : List ℕ) (turns : ℕ) → filter_map event_of (lines_of depth kernel turns) ≡ replicate turns (TurnOf 0)
unfolding turn_lines
line_events depth kernel turns =
    filter_map-append event_of (turn_lines turns) (watch_line turns ∷ [])
    ∙ append-nil (filter_map event_of (turn_lines turns))
    ∙ line_events_from 0 turns

-- what is counted of no turn
none_from : (f : Placed → ℕ) → ((k : ℕ) → f (turn_line k) ≡ 0) → (first turns : ℕ) → sum_by f (map turn_line (range_with_len first turns)) ≡ 0
none_from f none first zero = refl
none_from f none first (suc k) =
    let rest = map turn_line (range_with_len (first + 1) k) in
    let here : f (turn_line first) + sum_by f rest ≡ 0 = omega (arith, none first, none_from f none (first + 1) k) in
    sum_by-cons f (turn_line first) rest ∙ here

counted : (f : Placed → ℕ) → ((k : ℕ) → f (turn_line k) ≡ 0) → (depth : ℕ) (kernel : List ℕ) (turns : ℕ) → sum_by f (lines_of depth kernel turns) ≡ f (tower_line depth) + (f (kernel_line kernel) + f (watch_line turns))
unfolding turn_lines
counted f none depth kernel turns =
    let last = watch_line turns in
    let turned = turn_lines turns in
    let before : sum_by f (turned ++ last ∷ []) ≡ sum_by f turned + sum_by f (last ∷ []) = sum_by-append f turned (last ∷ []) in
    let of_turns : sum_by f turned ≡ 0 = none_from f none 0 turns in
    let of_last : sum_by f (last ∷ []) ≡ f last = zero-add (f last) in
    let behind : f (kernel_line kernel) + sum_by f (turned ++ last ∷ []) ≡ f (kernel_line kernel) + f last = omega arith in
    sum_by-cons f (tower_line depth) (kernel_line kernel ∷ turned ++ last ∷ [])
    ∙ ap (λ n. f (tower_line depth) + n) (sum_by-cons f (kernel_line kernel) (turned ++ last ∷ []) ∙ behind)

ranged : (depth : ℕ) (kernel : List ℕ) (turns : ℕ) → depth < depths → length kernel ≡ 512 → All (λ placed. IsRanged placed.what) (lines_of depth kernel turns)
unfolding turn_lines
ranged depth kernel turns low size =
    let P : Placed → Type 0 = λ placed. IsRanged placed.what in
    let tower : P (tower_line depth) = (omega (arith, low), (lit≤ tt, lit≤ tt), inl refl) in
    let image : P (kernel_line kernel) = record { aligned = refl; ends = omega arith; count = omega arith } in
    let turned : All P (turn_lines turns) = All-map P turn_line (range_with_len 0 turns) (λ k d h. lit< tt) in
    let watched : All P (watch_line turns ∷ []) = All-cons P (watch_line turns) [] (lit< tt) (All-nil P) in
    let behind : All P (turn_lines turns ++ watch_line turns ∷ []) =
    All-append P (turn_lines turns) (watch_line turns ∷ []) turned watched in
    All-cons P (tower_line depth) (kernel_line kernel ∷ turn_lines turns ++ watch_line turns ∷ []) tower
    (All-cons P (kernel_line kernel) (turn_lines turns ++ watch_line turns ∷ []) image behind)

-- what the lines take of what is limited: the watch, and the bytes of the one image
amounts : (of : Limited) (depth : ℕ) (kernel : List ℕ) (turns : ℕ) → amount_of of (lines_of depth kernel turns) ≡ share_of of (tower_line depth).what + (share_of of (kernel_line kernel).what + share_of of (watch_line turns).what)
amounts of depth kernel turns = counted (λ placed. share_of of placed.what) (λ k. refl) depth kernel turns

kept : (of : Limited) (depth : ℕ) (kernel : List ℕ) (turns : ℕ) → length kernel ≡ 512 → amount_of of (lines_of depth kernel turns) ≤ limit_of of
kept limited.Machines depth kernel turns size = omega (arith, amounts limited.Machines depth kernel turns)
kept limited.Watches depth kernel turns size = omega (arith, amounts limited.Watches depth kernel turns)
kept limited.Dumps depth kernel turns size = omega (arith, amounts limited.Dumps depth kernel turns)
kept limited.ImageBytes depth kernel turns size = omega (arith, amounts limited.ImageBytes depth kernel turns, size)

-- the job is one that can be built
job_meets : (depth : ℕ) (kernel : List ℕ) → depth < depths → length kernel ≡ 512 → IsJob (job_with depth kernel (schedule_of depth))
job_meets depth kernel low size =
    let turns = length (schedule_of depth) in
    record {
      pages = (lit≤ tt, lit≤ tt);
      harts = (lit≤ tt, lit≤ tt);
      lines = ranged depth kernel turns low size;
      events = schedule_events depth ∙ sym (line_events depth kernel turns);
      limits = λ of. kept of depth kernel turns size;
      commands = All-nil (λ (line : DebugLine). IsCommand line.what);
      commanded = lit≤ tt;
      breaks = lit≤ tt;
    }

-- the same of the job that is made of the parts
pub IsJob-made : (number : ℕ) (words : List ℕ) (recording events : List Event) (lines : List Placed) (commands : List DebugLine) → words ≡ kernel_of (number / depths) → recording ≡ schedule_of (number % depths) → events ≡ recording → lines ≡ lines_of (number % depths) words (length events) → commands ≡ [] → IsJob record { pages = 28; harts = 1; lines = lines; recording = recording; commands = commands }
IsJob-made number words recording events lines commands kernel turns seen all none =
    let made : Job = record { pages = 28; harts = 1; lines = lines; recording = recording; commands = commands } in
    let same : job_with (number % depths) (kernel_of (number / depths)) (schedule_of (number % depths)) ≡ made = cc in
    let low : number % depths < depths = omega arith in
    subst IsJob same (job_meets (number % depths) (kernel_of (number / depths)) low (length-kernel_of (number / depths)))
