-- What is true of the fields of every sink in memory.
use Rattle.std.specs.Prelude.{◌≡◌, ◌^◌, ◌<◌, ◌≤◌, [], length, vec_capacity}
use Rattle.hv_io.specs.declared.memory.MemSink.TheInside.{Inside}

pub record IsSound (s : Inside) : Type 0 where
  pub some : 0 < s.chunk
  pub inside : length s.bytes.items ≤ s.room
  -- the room is there, so that giving takes no memory
  pub reserved : s.room ≤ vec_capacity s.bytes
  pub fits : s.faults < 2 ^ 64
  -- no call fails by its number and room is left: nothing has failed
  pub clean : s.fails.items ≡ [] → length s.bytes.items < s.room → s.faults ≡ 0
