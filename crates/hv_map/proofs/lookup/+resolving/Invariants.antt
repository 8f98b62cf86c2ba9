use Rattle.std.proofs.Common.{◌+◌, ◌*◌}
use Rattle.hv_map.proofs.lookup.+resolving.Given as goal

abbrev pub decreases-resolve_at : goal.decreases-resolve_at
decreases-resolve_at g l = 6 * l.level

abbrev pub decreases-slot_at : goal.decreases-slot_at
decreases-slot_at g l = 6 * l.level + 1

abbrev pub decreases-look_at : goal.decreases-look_at
decreases-look_at g l = 6 * l.level + 2

abbrev pub decreases-table_at : goal.decreases-table_at
decreases-table_at g l = 6 * l.level + 3

abbrev pub decreases-entry_at : goal.decreases-entry_at
decreases-entry_at g l = 6 * l.level + 4

abbrev pub decreases-slot_of_child : goal.decreases-slot_of_child
decreases-slot_of_child g l = 6 * l.level + 5
