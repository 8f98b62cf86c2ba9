use Rattle.std.proofs.Common.{◌+◌, ◌*◌}
use Rattle.hv_map.proofs.tables.TableCache.+reading.Given as goal

abbrev pub decreases-read_at : goal.decreases-read_at
decreases-read_at l = 4 * l.level

abbrev pub decreases-named_table : goal.decreases-named_table
decreases-named_table l = 4 * l.level + 1

abbrev pub decreases-found_table : goal.decreases-found_table
decreases-found_table l = 4 * l.level + 2

abbrev pub decreases-table : goal.decreases-table
decreases-table l = 4 * l.level + 3
