use Rattle.std.proofs.Common.{◌+◌, ◌*◌}
use Rattle.hv_map.proofs.gathering.+gathering.Given as goal

abbrev pub decreases-gather_at : goal.decreases-gather_at
decreases-gather_at g l = 6 * l.level

abbrev pub decreases-gather_page : goal.decreases-gather_page
decreases-gather_page g l = 6 * l.level + 1

abbrev pub decreases-gather_word : goal.decreases-gather_word
decreases-gather_word g l = 6 * l.level + 2

abbrev pub decreases-gather_table : goal.decreases-gather_table
decreases-gather_table g l = 6 * l.level + 3

abbrev pub decreases-gather_entry : goal.decreases-gather_entry
decreases-gather_entry g l = 6 * l.level + 4

abbrev pub decreases-gather_child : goal.decreases-gather_child
decreases-gather_child g l = 6 * l.level + 5
