use Rattle.std.proofs.Common.{◌≡◌, ℕ, ◌+◌, ◌*◌, ◌^◌, ◌≤◌, Bool, List, ◌++◌, Option, length}
use Rattle.std.specs.Prelude.{All}
use Rattle.hv_lex.specs.Lines.{lines_of}
use Rattle.hv_asm.specs.Assembly.{place_from, place_of}
use Rattle.hv_asm.specs.Definitions.{IsFound, place_among}
use Rattle.hv_asm.specs.Labels.{first_of}
use Rattle.hv_asm.specs.Outlines.{AreIdle, NoneRepeats}
use Rattle.hv_asm.specs.declared.labels.Place.{Place}
use Rattle.hv_asm.proofs.places.find_outline.Given as goal

-- the labels so far, and those of what is left, are those of the text, and so are the flags; no label repeats another where
-- each is found at its line
abbrev pub invariant-loop-rest : goal.invariant-loop-rest
invariant-loop-rest l = record {
  some : 1 ≤ l.line;
  line : l.line + length l.rest ≤ length l.fn.text + 1;
  at : l.at + 2097152 * length l.rest ≤ 2 ^ 32 + 2097152 * length l.fn.text;
  told : (q : List ℕ) → first_of (place_among l.definitions.items q) (place_from l.line l.at (lines_of l.rest) q) ≡ place_of l.base (lines_of l.fn.text) q;
  none :
      (find : List ℕ → Option Place) → All (IsFound find) l.definitions.items → NoneRepeats find l.line (lines_of l.rest)
      → NoneRepeats find 1 (lines_of l.fn.text);
  idle : (others : List Bool) → AreIdle others (lines_of l.rest) → AreIdle (l.idle.items ++ others) (lines_of l.fn.text);
}

abbrev pub decreases-loop-rest : goal.decreases-loop-rest
decreases-loop-rest l = length l.rest
