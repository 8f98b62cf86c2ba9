-- The job of a number N: a kernel of additions at the top of a tower of N mod 9 machines, and turns that run it.
use Rattle.std.specs.Prelude.{ℕ, zero, suc, ◌+◌, ◌-◌, ◌*◌, ◌/◌, ◌%◌, ◌^◌, ◌==◌, if◌then◌else◌, List, [], ◌∷◌, ◌++◌}
use Rattle.std.specs.Prelude.{length, map, replicate, codes}
use Rattle.std.specs.List.{range_with_len}
use Rattle.hv_word.specs.Words.{sext_of}
use Rattle.hv_irq.specs.declared.Event.{Event}
use Rattle.hv_irq.specs.declared.Event.TheVariants as event
use Rattle.hv_isa.specs.Table.{row_of, spell}
use Rattle.hv_isa.specs.declared.Instr.{Instr}
use Rattle.hv_isa.specs.declared.Op.TheVariants.{Addi, Jal}
use Rattle.hv_line.specs.declared.types.Directive.TheVariants as directive
use Rattle.hv_job.specs.declared.job.Job.{Job}
use Rattle.hv_job.specs.declared.job.Placed.{Placed}
use Rattle.hv_samples.specs.declared.choice.Sample.TheVariants.{Pass}

-- how many depths generated jobs go through: the bare machine, and towers of one machine and more
abbrev pub depths : ℕ
depths = 9

-- the number behind a number
abbrev pub next : ℕ → ℕ
next s = (s * 1664525 + 1013904223) % 2 ^ 32

-- the number of place k, where the seed is that of place 0
unfoldable pub number_at : (seed k : ℕ) → ℕ
number_at seed zero = seed
number_at seed (suc k) = next (number_at seed k)

-- a register, which isn't x0
abbrev pub register : ℕ → ℕ
register n = 1 + n % 31

-- `addi` with the registers and the immediate of a number
abbrev pub addition : ℕ → Instr
addition r = record {
  op = Addi;
  rd = register (r / 2 ^ 8);
  rs1 = register (r / 2 ^ 16);
  rs2 = 0;
  imm = sext_of 12 (r / 2 ^ 20);
}

-- `jal x0, -2044`: from the word behind 511 words to the first of them
abbrev pub jump_back : Instr
jump_back = record { op = Jal; rd = 0; rs1 = 0; rs2 = 0; imm = 2 ^ 32 - 2044 }

-- the word of an instruction
abbrev pub word_of : Instr → ℕ
word_of i = spell (row_of i.op) i

-- so many words, of the numbers behind the seed
unfoldable pub additions : (seed count : ℕ) → List ℕ
additions seed count = map (λ k. word_of (addition (number_at seed (k + 1)))) (range_with_len 0 count)

-- the kernel: 512 words
abbrev pub kernel_of : (seed : ℕ) → List ℕ
kernel_of seed = additions seed 511 ++ word_of jump_back ∷ []

-- the steps of hart 0 that the kernel takes to be entered, if it isn't on the bare machine
abbrev pub entry_turns : (depth : ℕ) → List Event
entry_turns depth = if depth == 0 then [] else event.Turn 0 (3 * depth) ∷ []

-- a turn of 2000 steps
abbrev pub long_turn : Event
long_turn = event.Turn 0 2000

-- the schedule: these steps, and a hundred turns
unfoldable pub schedule_of : (depth : ℕ) → List Event
schedule_of depth = entry_turns depth ++ replicate 100 long_turn

-- The lines have the numbers that they have in a text: `job 1`, the storage, the tower, the kernel as an image of 512
-- lines up to `end` on line 517, the turns, and the watch.
abbrev pub tower_line : (depth : ℕ) → Placed
tower_line depth = record { line = 3; what = directive.Tower depth 4 Pass }

-- the line of the kernel's image
abbrev pub kernel_line : (kernel : List ℕ) → Placed
kernel_line kernel = record { line = 4; what = directive.Image (codes "top") record { base = 0; words = kernel } }

-- the line of turn k
abbrev pub turn_line : (k : ℕ) → Placed
turn_line k = record { line = 518 + k; what = directive.Turn 0 }

-- the lines of the turns
unfoldable pub turn_lines : (count : ℕ) → List Placed
turn_lines count = map turn_line (range_with_len 0 count)

-- the line of the watch
abbrev pub watch_line : (turns : ℕ) → Placed
watch_line turns = record { line = 518 + turns; what = directive.Watch 0 (codes "top") }

-- all lines with directives
abbrev pub lines_of : (depth : ℕ) → (kernel : List ℕ) → (turns : ℕ) → List Placed
lines_of depth kernel turns = tower_line depth ∷ kernel_line kernel ∷ turn_lines turns ++ watch_line turns ∷ []

-- the job of these parts: a storage of 28 pages and one hart
abbrev pub job_with : (depth : ℕ) → (kernel : List ℕ) → (schedule : List Event) → Job
job_with depth kernel schedule = record {
  pages = 28;
  harts = 1;
  lines = lines_of depth kernel (length schedule);
  recording = schedule;
  commands = [];
}

-- the job of a number: as many numbers after one another have the same kernel, each at another depth
unfoldable pub gen_job_of : ℕ → Job
gen_job_of number =
    job_with (number % depths) (kernel_of (number / depths)) (schedule_of (number % depths))
