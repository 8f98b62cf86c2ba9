-- How much a text of assembly can make.
use Rattle.std.specs.Prelude.{ℕ}

-- how many bytes the words of a text can have
abbrev pub image_limit : ℕ
image_limit = 1048576

-- how many bytes of zero a line `.space` can ask for
abbrev pub space_limit : ℕ
space_limit = 1048576
