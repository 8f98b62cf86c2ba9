-- What a text that begins with `job 1` or `job 2` can ask for. These are numbers of such texts, whatever machine they
-- are read for: a machine that can have more harts, or deeper machines, reads the same texts.
use Rattle.std.specs.Prelude.{ℕ}
use Rattle.hv_line.specs.declared.version.JobVersion.{JobVersion}
use Rattle.hv_line.specs.declared.version.JobVersion.TheVariants.{One, Two}

-- the most harts that a text can ask for
abbrev pub job_harts : ℕ
job_harts = 8

-- how many harts a line `harts` can ask for; the others name a hart below that
abbrev pub harts_in : JobVersion → ℕ
harts_in One = 4
harts_in Two = job_harts

-- the most machines inside one another that a text can ask for
abbrev pub job_depth : ℕ
job_depth = 12

-- how many machines inside one another a line `tower` can ask for
abbrev pub depth_in : JobVersion → ℕ
depth_in One = 8
depth_in Two = job_depth

-- how many values a line `word` can have
abbrev pub job_values : ℕ
job_values = 8

-- how many lines `machine`, `watch` and `dump` there can be
abbrev pub job_machines : ℕ
job_machines = 256

abbrev pub job_watches : ℕ
job_watches = 16

abbrev pub job_dumps : ℕ
job_dumps = 1024

-- how many bytes all images and samples can have together
abbrev pub job_image_bytes : ℕ
job_image_bytes = 67108864

-- how many commands of the debugger there can be, and how many of them can be breakpoints
abbrev pub job_commands : ℕ
job_commands = 1024

-- how many of the commands can be breakpoints
abbrev pub job_breaks : ℕ
job_breaks = 16
