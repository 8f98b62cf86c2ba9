-- The lines of an image.
use Rattle.std.specs.Prelude.{◌≡◌, ℕ, ◌+◌, ◌≤◌, true, false, List, ◌∷◌, ◌++◌, length}
use Rattle.std.specs.List.{list_any}
use Rattle.hv_lex.specs.Lines.{lines_of}
use Rattle.hv_job.specs.JobOf.{is_end}

-- the text is that of an image, up to the line `last` that ends it, and what is behind
pub record IsCut (text inside last behind : List ℕ) (count : ℕ) : Type 0 where
  pub lines : lines_of text ≡ lines_of inside ++ last ∷ lines_of behind
  pub goes_on : list_any is_end (lines_of inside) ≡ false
  pub ends : is_end last ≡ true
  pub counted : count ≡ length (lines_of inside)
  pub size : count + 1 + length behind ≤ length text
  pub inside_size : length inside ≤ length text
