-- Events of a schedule, and what a recording of them keeps.
use Rattle.std.specs.Prelude.{◌≡◌, ℕ, Bool, not, ◌==◌, ◌+◌, ◌-◌, ◌<◌, ◌≤◌, nat_lt, nat_le, bit_and, if◌then◌else◌}
use Rattle.std.specs.Prelude.{List, [], ◌∷◌, ◌++◌, length, sum_by, All, Option, None, Some}
use Rattle.std.specs.Option.{option_or}
use Rattle.hv_limits.specs.Limits.{harts_limit, lines_mask, steps_limit, events_limit}
use Rattle.hv_irq.specs.declared.Event.{Event}
use Rattle.hv_irq.specs.declared.Event.TheVariants.{Turn, Lines}
use Rattle.hv_irq.specs.declared.PushEnd.{PushEnd}
use Rattle.hv_irq.specs.declared.PushEnd.TheVariants.{Hart, Mask, Steps, Many}

-- the hart that an event names
abbrev pub hart_of : Event → ℕ
hart_of (Turn hart count) = hart
hart_of (Lines hart mask) = hart

-- how many steps an event takes
abbrev pub steps_of : Event → ℕ
steps_of (Turn hart count) = count
steps_of (Lines hart mask) = 0

-- the lines that an event sets
abbrev pub mask_of : Event → ℕ
mask_of (Turn hart count) = 0
mask_of (Lines hart mask) = mask

-- the lines from outside alone: the software, timer and external interrupts of M, bits 3, 7 and 11 of mip
abbrev pub is_line_mask : ℕ → Bool
is_line_mask mask = bit_and mask lines_mask == mask

-- the steps of all events together
abbrev pub total_of : List Event → ℕ
total_of events = sum_by steps_of events

-- why an event can't follow these events: the first of the four rules that it breaks
abbrev pub refusal_of : List Event → Event → Option PushEnd
refusal_of events event =
    if nat_le harts_limit (hart_of event) then Some Hart
    else if not (is_line_mask (mask_of event)) then Some Mask
    else if nat_lt steps_limit (total_of events + steps_of event) then Some Steps
    else if nat_le events_limit (length events) then Some Many
    else None

-- the events keep the four rules
pub record IsSchedule (events : List Event) : Type 0 where
  pub harts : All (λ event. hart_of event < harts_limit) events
  pub masks : All (λ event. bit_and (mask_of event) lines_mask ≡ mask_of event) events
  pub steps : total_of events ≤ steps_limit
  pub many : length events ≤ events_limit

-- why events can't follow these one after another: the refusal of the first that is refused
unfoldable pub first_refusal_of : List Event → List Event → Option PushEnd
first_refusal_of before [] = None
first_refusal_of before (event ∷ events) =
    option_or (refusal_of before event) (first_refusal_of (before ++ event ∷ []) events)

-- a turn of a hart of so many steps; none where there are no steps
abbrev pub turn_of : ℕ → ℕ → List Event
turn_of hart count = if count == 0 then [] else Turn hart count ∷ []

-- a hart's steps, `total` together, with its lines set to a mask after `at` of them
abbrev pub raised_at : ℕ → ℕ → ℕ → ℕ → List Event
raised_at total at hart mask = turn_of hart at ++ Lines hart mask ∷ turn_of hart (total - at)
