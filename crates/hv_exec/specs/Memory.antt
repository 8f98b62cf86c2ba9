-- Loads and stores (Unprivileged ISA, section 2.6). Storage is little-endian, and a misaligned access isn't carried
-- out.
use Rattle.std.specs.Prelude.{ℕ, ◌/◌, ◌%◌, ◌==◌, Bool, true, false, if◌then◌else◌}
use Rattle.hv_word.specs.declared.Lane.{Lane}
use Rattle.hv_word.specs.declared.Lane.TheVariants.{Byte, Half, Word}
use Rattle.hv_word.specs.Words.{sext_of}
use Rattle.hv_exec.specs.declared.answer.Width.{Width}
use Rattle.hv_exec.specs.declared.answer.Width.TheVariants.{Byte as OneByte, Half as TwoBytes, Word as FourBytes}
use Rattle.hv_exec.specs.Answer.{Answer, Trap, Load, Store}

-- how many bytes an access has
abbrev pub width_bytes : Width → ℕ
width_bytes OneByte = 1
width_bytes TwoBytes = 2
width_bytes FourBytes = 4

-- A load of a misaligned address raises cause 4 with that address, before it is translated
-- (Privileged Architecture, section 3.1.15 and table 3.7).
unfoldable pub loading : ℕ → Width → Bool → ℕ → Answer
loading address width signed rd =
    if address % width_bytes width == 0 then Load address width signed rd else Trap 4 address

-- a store of one raises cause 6
unfoldable pub storing : ℕ → Width → ℕ → Answer
storing address width value =
    if address % width_bytes width == 0 then Store address width value else Trap 6 address

-- the lane of its word that an aligned access moves, from its offset in a page
abbrev pub lane_at : Width → ℕ → Lane
lane_at OneByte offset = Byte (offset % 4)
lane_at TwoBytes offset = Half (offset % 4 / 2)
lane_at FourBytes offset = Word

-- what a load puts into rd: a byte or a half with its sign or with zeros above it, or a word
abbrev pub extended : Width → Bool → ℕ → ℕ
extended OneByte true value = sext_of 8 value
extended OneByte false value = value
extended TwoBytes true value = sext_of 16 value
extended TwoBytes false value = value
extended FourBytes signed value = value
