-- The text of machines and faults, as bytes. Each line ends in a line feed.
use Rattle.std.specs.Prelude.{ℕ, List, ◌++◌, take, drop, slice_index, codes}
use Rattle.std.specs.List.{flat_map}
use Rattle.std.specs.Fmt.{decimal}
use Rattle.hv_text.specs.Text.{line, hex8, words_text}
use Rattle.hv_block.specs.Block.{access_word}
use Rattle.hv_nest.specs.Watched.{LineChange}
use Rattle.hv_run.specs.Record.{FaultRecord}

-- a label, and the words behind it
abbrev pub row_text : List ℕ → List ℕ → List ℕ
row_text label words = line (label ++ words_text words)

-- the program counter, the mode as a number, and the page of the machine that is run, 0 where there is none
abbrev pub state_line : ℕ → ℕ → ℕ → List ℕ
state_line pc mode next =
    line (codes "pc " ++ hex8 pc ++ codes " mode " ++ decimal mode ++ codes " next " ++ decimal next)

-- `count` of the words from place `at` on
abbrev pub part : List ℕ → ℕ → ℕ → List ℕ
part words at count = take count (drop at words)

-- The lines of a machine's 50 words: pc, x1 to x31, the mode, mstatus, mtvec, mepc, mcause, mtval, mscratch, medeleg,
-- mideleg, mie, mip, stvec, sepc, scause, stval, sscratch, satp, and the page of the machine that it runs.
-- x0 is always 0.
unfoldable pub register_lines : List ℕ → List ℕ
register_lines words =
    state_line (slice_index words 0) (slice_index words 32) (slice_index words 49)
    ++ row_text (codes "x0 00000000") (part words 1 7)
    ++ row_text (codes "x8") (part words 8 8)
    ++ row_text (codes "x16") (part words 16 8)
    ++ row_text (codes "x24") (part words 24 8)
    ++ row_text (codes "m") (part words 33 10)
    ++ row_text (codes "s") (part words 43 6)

-- one change of the lines from outside: the steps that were counted before it, and the new lines
abbrev pub change_line : LineChange → List ℕ
change_line change = line (codes "line " ++ decimal change.count ++ codes " " ++ hex8 change.bits)

-- all changes, in order
unfoldable pub changes_text : List LineChange → List ℕ
changes_text changes = flat_map change_line changes

-- the lines of a watched machine: its steps, its registers, and the changes of its lines from outside
unfoldable pub machine_lines : ℕ → List ℕ → List LineChange → List ℕ
machine_lines count words changes =
    line (codes "count " ++ decimal count) ++ register_lines words ++ changes_text changes

-- The line of a fault: the number of its step, the hart that made it, the level that received it, and what it was told:
-- cause, address, and the access as 1 for reading, 2 for writing, 3 for fetching.
unfoldable pub fault_line : FaultRecord → List ℕ
fault_line f =
    line
    (codes "fault " ++ decimal f.step
    ++ codes " hart " ++ decimal f.hart
    ++ codes " level " ++ decimal f.receiver
    ++ codes " cause " ++ decimal f.cause
    ++ codes " address " ++ hex8 f.address
    ++ codes " access " ++ decimal (access_word f.access))
