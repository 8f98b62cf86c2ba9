-- A job that is played, and its first watched machine as it is then, parked.
use Rattle.std.specs.Prelude.{ℕ, Bool, ◌&&◌, nat_le, if◌then◌else◌, List, [], ◌∷◌, length, Option, Some, None, slice_get, codes}
use Rattle.std.specs.Option.{is_none}
use Rattle.hv_capsule.specs.Parked.{Parked}
use Rattle.hv_capsule.specs.Text.{capsule_text}
use Rattle.hv_job.specs.declared.job.Job.{Job}
use Rattle.hv_limits.specs.Limits.{pages_limit}
use Rattle.hv_load.specs.declared.start.Start.{Start}
use Rattle.hv_map.specs.Chain.{map_along, pin_of}
use Rattle.hv_map.specs.Item.{Item}
use Rattle.hv_map.specs.Links.{last_block}
use Rattle.hv_map.specs.Seen.{seen}
use Rattle.hv_map.specs.declared.path.Watch.{Watch}
use Rattle.hv_move.specs.Saved.{first_absent}
use Rattle.hv_nest.specs.Move.{last_of}
use Rattle.hv_nest.specs.State.{State, hart_regs}
use Rattle.hv_report.specs.Check.{watched_regs}
use Rattle.hv_run.specs.Record.{schedule}
use Rattle.hv_top.specs.First.{for_first, line_behind, watch_line}
use Rattle.hv_top.specs.Jobs.{answered_output}
use Rattle.hv_top.specs.Output.{Output, Text, refusal}
use Rattle.hv_top.specs.Run.{state_of}

-- the bare machine as a hart sees it
abbrev pub bare_parked : State → (hart : ℕ) → Parked
bare_parked st hart = record { regs = hart_regs (slice_get st.harts hart); storage = st.storage }

-- the machine at the end of the items
abbrev pub inner_parked : State → (hart : ℕ) → List Item → Parked
inner_parked st hart items = record {
  regs = watched_regs st hart (last_block items);
  storage = seen st.storage (map_along st.storage items);
}

-- a machine can be parked where it has no more pages than a storage can have, and can read all of them
abbrev pub can_park : State → List Item → Bool
can_park st items =
    nat_le (length (map_along st.storage items)) pages_limit && is_none (first_absent (map_along st.storage items))

-- the machine at the end of the items, where they are there and it can be parked; the bare machine always can
abbrev pub parked_along : State → (hart : ℕ) → Option (List Item) → Option Parked
parked_along st hart None = None
parked_along st hart (Some []) = Some (bare_parked st hart)
parked_along st hart (Some (item ∷ items)) =
    if can_park st (item ∷ items) then Some (inner_parked st hart (item ∷ items)) else None

-- the machine that a watch names
abbrev pub parked_in : State → Watch → Option Parked
parked_in st watch = parked_along st watch.hart (pin_of st.storage watch.path)

-- its text, or the refusal of the line that asks for it
abbrev pub parked_answer : (line : ℕ) → Option Parked → Output
parked_answer line None = refusal line (codes "absent")
parked_answer line (Some machine) = Text (capsule_text machine)

-- what is answered for a watch of a job that has come to a state
abbrev pub saved_answer : Job → State → Watch → Output
saved_answer job st watch = parked_answer (watch_line job) (parked_in st watch)

-- what is answered for the start of a job, which is played to the end of the job's schedule
abbrev pub saved_on : (text : List ℕ) → Job → Start → Output
saved_on text job start =
    for_first (line_behind text) start.plan.watches (saved_answer job (last_of (state_of start) (schedule job.recording)))

-- what `save` writes for a text
unfoldable pub save_output : List ℕ → Output
save_output text = answered_output (saved_on text) text
