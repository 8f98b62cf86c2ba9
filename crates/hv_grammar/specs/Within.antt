-- What the lines of a text may say no more of.
use Rattle.std.specs.Prelude.{ℕ, ◌+◌, ◌≤◌, List, [], ◌∷◌, length}
use Rattle.hv_irq.specs.Events.{total_of}
use Rattle.hv_limits.specs.Limits.{events_limit, steps_limit}
use Rattle.hv_line.specs.JobLimits.{job_breaks, job_commands}
use Rattle.hv_job.specs.IsJob.{breaks_in}
use Rattle.hv_job.specs.Limited.{amount_of, limit_of}
use Rattle.hv_job.specs.declared.limited.Limited.{Limited}
use Rattle.hv_grammar.specs.Forms.{Harts}
use Rattle.hv_grammar.specs.Said.{Said, Directed, commands_said, events_said, placed_said}

-- how many lines say the number of harts
abbrev pub harts_by_line : Said → ℕ
harts_by_line (Directed (Harts harts)) = 1
harts_by_line _ = 0

-- the same of several lines
abbrev pub harts_lines : List Said → ℕ
harts_lines [] = 0
harts_lines (said ∷ says) = harts_lines says + harts_by_line said

-- At most one line says the number of harts. The directives take no more than there is of what is limited: machines,
-- watches, dumps, and bytes of all images and samples together. There are few enough steps of all turns together,
-- events, commands, and breakpoints among these.
pub record IsWithinLimits (says : List Said) : Type 0 where
  pub harts : harts_lines says ≤ 1
  pub limits : (of : Limited) → amount_of of (placed_said 1 says) ≤ limit_of of
  pub steps : total_of (events_said says) ≤ steps_limit
  pub events : length (events_said says) ≤ events_limit
  pub commands : length (commands_said 1 says) ≤ job_commands
  pub breaks : breaks_in (commands_said 1 says) ≤ job_breaks
