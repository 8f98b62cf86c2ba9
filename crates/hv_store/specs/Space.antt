-- What a call leaves as it was, of any space.
use Rattle.hv_store.specs.declared.space.Space.{Ghosts}
use Rattle.hv_store.specs.Stays.{Reads, Stays}

-- nothing changes, and there is still room for as many writes
abbrev pub OnlyReads : {A : Type 0} → Ghosts A → A → A → Type 0
OnlyReads g old new = Reads g.storage g.slots g.depth g.place g.frame g.origin g.room old new

-- the length of the storage, the depth, the place, the frame and the origin stay
abbrev pub Keeps : {A : Type 0} → Ghosts A → A → A → Type 0
Keeps g old new = Stays g.storage g.depth g.place g.frame g.origin old new
