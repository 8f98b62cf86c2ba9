-- The text of a report, as bytes. Each line ends in a line feed.
use Rattle.std.specs.Prelude.{ℕ, ◌<◌, Bool, All, IfSome, if◌then◌else◌, List, [], ◌∷◌, ◌++◌, length, Option, Some}
use Rattle.std.specs.Prelude.{None, slice_get, codes}
use Rattle.std.specs.List.{flat_map, range_with_len}
use Rattle.std.specs.Fmt.{decimal}
use Rattle.hv_word.specs.Storage.{page_count}
use Rattle.hv_cpu.specs.Regs.{Regs, spelled}
use Rattle.hv_block.specs.Block.{regs_at}
use Rattle.hv_nest.specs.State.{State}
use Rattle.hv_nest.specs.Move.{running_of}
use Rattle.hv_load.specs.declared.start.Plan.{Plan}
use Rattle.hv_run.specs.Record.{FaultRecord, PlayRecord, WatchRecord}
use Rattle.hv_run.specs.Text.{machine_lines, fault_line}
use Rattle.hv_text.specs.Text.{line}
use Rattle.hv_report.specs.Dumps.{dumps_text}

-- each syllable behind a dot
unfoldable pub syllables_text : List ℕ → List ℕ
syllables_text path = flat_map (λ syllable. 46 ∷ decimal syllable) path

-- the syllables of a path with dots between them, or `-` for the path of the bare machine
abbrev pub path_text : List ℕ → List ℕ
path_text [] = codes "-"
path_text (syllable ∷ path) = decimal syllable ++ syllables_text path

-- how many steps were made, and how many of them were faults and recalls
abbrev pub head_line : PlayRecord → List ℕ
head_line t =
    line
    (codes "ran " ++ decimal t.steps
    ++ codes " faults " ++ decimal t.faults
    ++ codes " recalls " ++ decimal t.recalls)

-- the path of the machine that a hart runs
abbrev pub hart_line : ℕ → List ℕ → List ℕ
hart_line hart path = line (codes "hart " ++ decimal hart ++ codes " " ++ path_text path)

-- a hart and the machine that it runs now
abbrev pub hart_text : State → ℕ → List ℕ
hart_text st hart = hart_line hart (running_of st hart)

-- the lines of the first n harts
unfoldable pub first_harts : State → ℕ → List ℕ
first_harts st n = flat_map (hart_text st) (range_with_len 0 n)

-- the lines of all harts
abbrev pub harts_text : State → List ℕ
harts_text st = first_harts st (length st.harts)

-- an answer
abbrev pub answer_text : Bool → List ℕ
answer_text b = if b then codes "yes" else codes "no"

-- a watch: whether its machine's pages were one-to-one and lay apart at the start, and whether another machine touched
-- it
abbrev pub watch_line : WatchRecord → List ℕ
watch_line w =
    line
    (codes "watch " ++ decimal w.hart
    ++ codes " " ++ path_text w.path
    ++ codes " one=" ++ answer_text w.one
    ++ codes " apart=" ++ answer_text w.apart
    ++ codes " touched=" ++ answer_text w.touched)

-- the 50 words of a hart
abbrev pub words_of : Option Regs → List ℕ
words_of None = []
words_of (Some r) = spelled r

-- the 50 words of a control block: 0 to 48, and 64
abbrev pub block_words : List ℕ → ℕ → List ℕ
block_words S g = spelled (regs_at S g)

-- the 50 words of a watched machine: in the bare page where its block stood at the start, or of the hart
abbrev pub machine_words : State → ℕ → Option ℕ → List ℕ
machine_words st hart None = words_of (slice_get st.harts hart)
machine_words st hart (Some g) = block_words st.storage g

-- the line of a watch, and the lines of its machine
abbrev pub watch_text : State → WatchRecord → List ℕ
watch_text st w = watch_line w ++ machine_lines w.count (machine_words st w.hart w.block) w.lines

-- all watches
unfoldable pub watches_text : State → List WatchRecord → List ℕ
watches_text st watches = flat_map (watch_text st) watches

-- a line for each fault
unfoldable pub faults_text : List FaultRecord → List ℕ
faults_text faults = flat_map fault_line faults

-- The report on a play, by what is told of it, the plan, and the state at its end: the steps, the machines that run,
-- the watches, the faults that are kept, and the pages that are shown.
unfoldable pub report_of : PlayRecord → Plan → State → List ℕ
report_of t plan st =
    head_line t
    ++ (harts_text st ++ (watches_text st t.watches ++ (faults_text t.kept ++ dumps_text st.storage plan.dumps)))

-- the hart of a watch is there, and so is the bare page of its machine's block
abbrev pub IsInState : State → WatchRecord → Type 0
IsInState st w = (w.hart < length st.harts) × IfSome w.block (λ g. g < page_count st.storage)

-- that holds of all watches
abbrev pub AreInState : State → List WatchRecord → Type 0
AreInState st watches = All (IsInState st) watches
