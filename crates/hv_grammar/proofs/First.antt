-- A `job 1` and a `job 2` read the same words alike wherever both read them.
use Rattle.std.proofs.Common.{◌≡◌, ℕ, ◌/◌, ◌+◌, ◌*◌, ◌%◌, ◌<◌, ◌≤◌, List, refl, sym, subst, arith}
use Rattle.hv_line.specs.JobLimits.{depth_in, harts_in}
use Rattle.hv_line.specs.declared.types.DebugCommand.{DebugCommand}
use Rattle.hv_line.specs.declared.types.Statement.{Statement}
use Rattle.hv_line.specs.declared.version.JobVersion.TheVariants.{One, Two}
use Rattle.hv_grammar.specs.First.{FirstCommandLaw, FirstLineLaw, IsFirst, IsFirstCommand}
use Rattle.hv_grammar.specs.Forms.{Call, Form, IsCall, IsCallInRange, IsInRange, IsSaying, Harts, Hart, Machine, MapNone, MapRead, MapWrite, MapFetch, MapAll, Start, Image, Sampled, Words, Tower, TowerOf, Turn, Lines, Watch, Dump, Upgrade, StepCall, BreakCall, RegsCall, MemCall, PathCall, MapCall, FaultsCall, calls_for, states_for}
use Rattle.hv_grammar.proofs.Calls.{commands_are_calls}
use Rattle.hv_grammar.proofs.Formed.{lines_are_formed}
use Rattle.hv_grammar.proofs.Means.{not_first}

-- the ranges of a `job 1` are within those of a `job 2`
more_harts : (n : ℕ) → n ≤ harts_in One → n ≤ harts_in Two
more_harts n h = omega (arith, h)

more_hart : (n : ℕ) → n < harts_in One → n < harts_in Two
more_hart n h = omega (arith, h)

more_depth : (n : ℕ) → n ≤ depth_in One → n ≤ depth_in Two
more_depth n h = omega (arith, h)

-- bit 2 of an entry
read_bit : (at : ℕ) → (at * 4096 + 1) / 4 % 2 ≡ 0
read_bit at = omega arith

write_bit : (at : ℕ) → (at * 4096 + 3) / 4 % 2 ≡ 0
write_bit at = omega arith

fetch_bit : (at : ℕ) → (at * 4096 + 5) / 4 % 2 ≡ 0 → ⊥
fetch_bit at is = omega (arith, is)

all_bit : (at : ℕ) → (at * 4096 + 7) / 4 % 2 ≡ 0 → ⊥
all_bit at is = omega (arith, is)

-- each form of a `job 1` is one of a `job 2`
wider : (form : Form) → IsInRange One form → IsInRange Two form
wider (Harts harts) range = (range.0, more_harts harts range.1)
wider (Hart hart at) range = (more_hart hart range.0, range.1)
wider (Machine name parent block pages table at) range = range
wider (MapNone name page) range = range
wider (MapRead name page at) range = range
wider (MapWrite name page at) range = range
wider (MapFetch name page at) range = absurd (not_first range.0)
wider (MapAll name page at) range = absurd (not_first range.0)
wider (Start name at) range = range
wider (Image name at) range = range
wider (Sampled name at which) range = range
wider (Words name at values) range = range
wider (Tower depth pages) range = (more_depth depth range.0, range.1, range.2)
wider (TowerOf depth pages which) range = (more_depth depth range.0, range.1, range.2, range.3)
wider (Turn hart count) range = (more_hart hart range.0, range.1, range.2)
wider (Lines hart mask) range = (more_hart hart range.0, range.1)
wider (Watch hart name) range = more_hart hart range
wider (Dump name page) range = range
wider (Upgrade name dir) range = absurd (not_first range.0)

-- and says what a `job 1` can say
first_says : (form : Form) → IsInRange One form → IsFirst (states_for form)
first_says (Harts harts) range = range.1
first_says (Hart hart at) range = range.0
first_says (Machine name parent block pages table at) range = tt
first_says (MapNone name page) range = refl
first_says (MapRead name page at) range = read_bit at
first_says (MapWrite name page at) range = write_bit at
first_says (MapFetch name page at) range = absurd (not_first range.0)
first_says (MapAll name page at) range = absurd (not_first range.0)
first_says (Start name at) range = tt
first_says (Image name at) range = tt
first_says (Sampled name at which) range = tt
first_says (Words name at values) range = tt
first_says (Tower depth pages) range = range.0
first_says (TowerOf depth pages which) range = range.0
first_says (Turn hart count) range = range.0
first_says (Lines hart mask) range = range.0
first_says (Watch hart name) range = range
first_says (Dump name page) range = tt
first_says (Upgrade name dir) range = absurd (not_first range.0)

-- a form of a `job 2` that says what a `job 1` can say is one of a `job 1`
narrower : (form : Form) → IsInRange Two form → IsFirst (states_for form) → IsInRange One form
narrower (Harts harts) range first = (range.0, first)
narrower (Hart hart at) range first = (first, range.1)
narrower (Machine name parent block pages table at) range first = range
narrower (MapNone name page) range first = range
narrower (MapRead name page at) range first = range
narrower (MapWrite name page at) range first = range
narrower (MapFetch name page at) range first = absurd (fetch_bit at first)
narrower (MapAll name page at) range first = absurd (all_bit at first)
narrower (Start name at) range first = range
narrower (Image name at) range first = range
narrower (Sampled name at which) range first = range
narrower (Words name at values) range first = range
narrower (Tower depth pages) range first = (first, range.1, range.2)
narrower (TowerOf depth pages which) range first = (first, range.1, range.2, range.3)
narrower (Turn hart count) range first = (first, range.1, range.2)
narrower (Lines hart mask) range first = (first, range.1)
narrower (Watch hart name) range first = first
narrower (Dump name page) range first = range
narrower (Upgrade name dir) range first = absurd first

said_wider : (words : List (List ℕ)) (what : Statement) → IsSaying One words what → IsSaying Two words what × IsFirst what
said_wider words what said = (
  record {
    form = said.form;
    line = record { range = wider said.form said.line.range; written = said.line.written };
    states = said.states;
  },
  subst IsFirst said.states (first_says said.form said.line.range),
)

said_narrower : (words : List (List ℕ)) (what : Statement) → IsSaying Two words what → IsFirst what → IsSaying One words what
said_narrower words what said first = record {
  form = said.form;
  line = record {
    range = narrower said.form said.line.range (subst IsFirst (sym said.states) first);
    written = said.line.written;
  };
  states = said.states;
}

pub first_lines : FirstLineLaw
first_lines words what = (
  λ is. let w = said_wider words what ((lines_are_formed One words what).0 is) in ((lines_are_formed Two words what).1 w.0, w.1),
  λ both. (lines_are_formed One words what).1 (said_narrower words what ((lines_are_formed Two words what).0 both.0) both.1),
)

-- the same of commands
call_wider : (call : Call) → IsCallInRange One call → IsCallInRange Two call × IsFirstCommand (calls_for call)
call_wider (StepCall count) range = (range, tt)
call_wider (BreakCall name at) range = (range, tt)
call_wider (RegsCall name) range = (range, tt)
call_wider (MemCall name at) range = (range, tt)
call_wider (PathCall hart) range = (more_hart hart range, range)
call_wider (MapCall name page) range = (range, tt)
call_wider FaultsCall range = (range, tt)

call_narrower : (call : Call) → IsCallInRange Two call → IsFirstCommand (calls_for call) → IsCallInRange One call
call_narrower (StepCall count) range first = range
call_narrower (BreakCall name at) range first = range
call_narrower (RegsCall name) range first = range
call_narrower (MemCall name at) range first = range
call_narrower (PathCall hart) range first = first
call_narrower (MapCall name page) range first = range
call_narrower FaultsCall range first = range

called_wider : (words : List (List ℕ)) (what : DebugCommand) → IsCall One words what → IsCall Two words what × IsFirstCommand what
called_wider words what is =
    let w = call_wider is.call is.range in
    (record { call = is.call; range = w.0; written = is.written; calls = is.calls }, subst IsFirstCommand is.calls w.1)

called_narrower : (words : List (List ℕ)) (what : DebugCommand) → IsCall Two words what → IsFirstCommand what → IsCall One words what
called_narrower words what is first = record {
  call = is.call;
  range = call_narrower is.call is.range (subst IsFirstCommand (sym is.calls) first);
  written = is.written;
  calls = is.calls;
}

pub first_commands : FirstCommandLaw
first_commands words what = (
  λ is. let w = called_wider words what ((commands_are_calls One words what).0 is) in ((commands_are_calls Two words what).1 w.0, w.1),
  λ both. (commands_are_calls One words what).1 (called_narrower words what ((commands_are_calls Two words what).0 both.0) both.1),
)
