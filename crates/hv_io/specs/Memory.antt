-- Sources and sinks in memory.
use Rattle.std.specs.Prelude.{ℕ, Bool, ◌==◌, ◌&&◌, ◌||◌, nat_le, nat_lt, ◌-◌, min, if◌then◌else◌}
use Rattle.std.specs.Prelude.{List, ◌++◌, length, take, drop}
use Rattle.std.specs.List.{list_any}
use Rattle.hv_io.specs.Faults.{one_more}

-- a source in memory: the bytes left, the most that one call gives, the numbers of the calls that fail, and how many
-- calls and failures there were
pub record SourceState : Type 0 where
  pub left : List ℕ
  pub chunk : ℕ
  pub fails : List ℕ
  pub calls : ℕ
  pub faults : ℕ

-- a sink in memory: the bytes held, the most that it holds and that one call takes, the numbers of the calls that fail,
-- and how many calls and failures there were
pub record SinkState : Type 0 where
  pub held : List ℕ
  pub room : ℕ
  pub chunk : ℕ
  pub fails : List ℕ
  pub calls : ℕ
  pub faults : ℕ

-- the call with this number is one that fails
abbrev pub is_listed : List ℕ → ℕ → Bool
is_listed fails call = list_any (λ c. c == call) fails

-- how many bytes a call with a buffer of this size gives, where it doesn't fail
abbrev pub count_given : SourceState → ℕ → ℕ
count_given s size = min (min size (length s.left)) s.chunk

-- the source after a call with a buffer of this size
abbrev pub after_take : SourceState → ℕ → SourceState
after_take s size =
    if is_listed s.fails s.calls
    then record s { calls = one_more s.calls; faults = one_more s.faults }
    else record s { calls = one_more s.calls; left = drop (count_given s size) s.left }

-- the call fails: it is listed, or a piece that isn't empty meets a full sink
abbrev pub fails_now : SinkState → ℕ → Bool
fails_now s size = is_listed s.fails s.calls || (nat_lt 0 size && nat_le s.room (length s.held))

-- how many bytes of a piece of this size a call takes, where it doesn't fail
abbrev pub count_taken : SinkState → ℕ → ℕ
count_taken s size = min (min size (s.room - length s.held)) s.chunk

-- the sink after a call with this piece
abbrev pub after_give : SinkState → List ℕ → SinkState
after_give s piece =
    if fails_now s (length piece)
    then record s { calls = one_more s.calls; faults = one_more s.faults }
    else record s { calls = one_more s.calls; held = s.held ++ take (count_taken s (length piece)) piece }
