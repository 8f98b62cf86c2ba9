-- How large machines, schedules and texts can be. Each number stands here once for all definitions and laws.
use Rattle.std.specs.Prelude.{ℕ}

-- at how deep a level a machine can be
abbrev pub depth_limit : ℕ
depth_limit = 12

-- how many harts the bare machine can have
abbrev pub harts_limit : ℕ
harts_limit = 8

-- The lines from outside among the bits of mip: the software, timer and external interrupts of M, bits 3, 7 and 11.
-- (Privileged Architecture, section 3.1.9: these bits can't be written by instructions.)
abbrev pub lines_mask : ℕ
lines_mask = 0x888

-- how many pages the bare storage, and a machine that is watched, can have
abbrev pub pages_limit : ℕ
pages_limit = 16384

-- how many steps the events of a schedule can take together, and how many events there can be
abbrev pub steps_limit : ℕ
steps_limit = 1000000000

abbrev pub events_limit : ℕ
events_limit = 65536

-- how many faults of a play, and how many changes of lines for each watch, are kept
abbrev pub kept_limit : ℕ
kept_limit = 1024

-- how many bytes a text that is read can have
abbrev pub input_limit : ℕ
input_limit = 1048576
