-- Machines inside one another, each with a sample that runs the next.
use Rattle.std.specs.Prelude.{ℕ, zero, suc, ◌+◌, List, [], ◌∷◌, ◌++◌, Result, Ok, Err, codes}
use Rattle.std.specs.Fmt.{decimal}
use Rattle.hv_asm.specs.Assembly.{asm_of}
use Rattle.hv_asm.specs.declared.AsmKind.{AsmKind}
use Rattle.hv_line.specs.declared.types.Directive.TheVariants as directive
use Rattle.hv_job.specs.declared.job.Placed.{Placed}
use Rattle.hv_map.specs.Apart.{table_pages}
use Rattle.hv_samples.specs.declared.choice.Sample.{Sample}
use Rattle.hv_samples.specs.Samples.{sample_text}

-- how many pages a machine has around one of n pages: its first page, the child's block, the child's table, and the
-- child's pages
abbrev pub around : ℕ → ℕ
around n = n + 2 + table_pages n

-- the same so many levels further out
abbrev pub grown : ℕ → ℕ → ℕ
grown zero n = n
grown (suc levels) n = around (grown levels n)

-- the machine at a level: the bare one, t1, t2 and so on, the level in decimal digits
abbrev pub level_name : ℕ → List ℕ
level_name zero = codes "root"
level_name (suc k) = codes "t" ++ decimal (suc k)

-- the words of an assembled text, none where it is refused
abbrev pub words_if : Result (List ℕ) (ℕ × AsmKind) → List ℕ
words_if (Ok words) = words
words_if (Err fault) = []

-- the words of a sample at address 0
abbrev pub sample_words : Sample → List ℕ
sample_words which = words_if (asm_of (sample_text which) 0)

-- the machine at level k + 1 in the one at level k
abbrev pub level_machine : (line k n : ℕ) → Placed
level_machine line k n = record {
  line = line;
  what = directive.Machine (level_name (suc k)) (level_name k) 1 n 2 (2 + table_pages n);
}

-- the sample that runs it
abbrev pub level_sample : (line k : ℕ) → Sample → Placed
level_sample line k which = record {
  line = line;
  what = directive.Sample (level_name k) record { base = 0; words = sample_words which };
}

-- so many levels, from the machine at level k on; the last one has n pages
abbrev pub levels_from : (line n : ℕ) → Sample → (k levels : ℕ) → List Placed
levels_from line n which k zero = []
levels_from line n which k (suc levels) =
    level_machine line k (grown levels n) ∷ level_sample line k which ∷ levels_from line n which (suc k) levels

-- the lines of a tower from the bare machine on
abbrev pub tower_of : (depth pages : ℕ) → Sample → (line : ℕ) → List Placed
tower_of depth pages which line = levels_from line pages which 0 depth
