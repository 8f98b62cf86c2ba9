-- The summary of a generated job.
use Rattle.std.specs.Prelude.{ℕ, ◌%◌, ◌^◌, List, ◌++◌, sum, codes}
use Rattle.std.specs.List.{flat_map}
use Rattle.std.specs.Fmt.{decimal}
use Rattle.hv_nest.specs.State.{State}
use Rattle.hv_run.specs.Record.{PlayRecord, WatchRecord}
use Rattle.hv_run.specs.Text.{part}
use Rattle.hv_text.specs.Text.{line, hex8}
use Rattle.hv_report.specs.Report.{head_line, harts_text, machine_words, watch_line}

-- the sum of x1 to x31 of a machine's 50 words, modulo 2 ^ 32
abbrev pub checksum_of : List ℕ → ℕ
checksum_of words = sum (part words 1 31) % 2 ^ 32

-- the number of a job that was generated, and the depth of its tower
abbrev pub number_line : ℕ → ℕ → List ℕ
number_line number depth = line (codes "gen " ++ decimal number ++ codes " depth " ++ decimal depth)

-- a count, and the sum of a machine's registers
abbrev pub sum_lines : ℕ → List ℕ → List ℕ
sum_lines count words = line (codes "count " ++ decimal count) ++ line (codes "sum " ++ hex8 (checksum_of words))

-- a watch: its line, its count, and the sum of its machine's registers
abbrev pub summed_watch : State → WatchRecord → List ℕ
summed_watch st w = watch_line w ++ sum_lines w.count (machine_words st w.hart w.block)

-- all watches
unfoldable pub summed_watches : State → List WatchRecord → List ℕ
summed_watches st watches = flat_map (summed_watch st) watches

-- the summary of the job that a number generates, by what is told of its play and the state at its end
unfoldable pub summary_of : ℕ → ℕ → PlayRecord → State → List ℕ
summary_of number depth t st =
    number_line number depth ++ (head_line t ++ (harts_text st ++ summed_watches st t.watches))
