-- The kinds of refusals, each as its word, and that of an upgrade.
use Rattle.std.specs.Prelude.{ℕ, List, codes}
use Rattle.hv_apart.specs.declared.upgrading.UpgradeEnd.{UpgradeEnd}
use Rattle.hv_apart.specs.declared.upgrading.UpgradeEnd.TheVariants as end
use Rattle.hv_load.specs.declared.ends.BuildKind.{BuildKind}
use Rattle.hv_load.specs.declared.ends.BuildKind.TheVariants as kind

-- the word of a kind, which stands in what is printed of a refusal
unfoldable pub kind_word : BuildKind → List ℕ
kind_word kind.Hart = codes "hart"
kind_word kind.Many = codes "many"
kind_word kind.Unknown = codes "unknown"
kind_word kind.Depth = codes "depth"
kind_word kind.Repeat = codes "repeat"
kind_word kind.Outside = codes "outside"
kind_word kind.Absent = codes "absent"
kind_word kind.Overlap = codes "overlap"
kind_word kind.Watch = codes "watch"
kind_word kind.Version = codes "version"
kind_word kind.Apart = codes "apart"

-- the kind of the refusal of an upgrade: a page of the parent that can't be written is one that can't be reached
abbrev pub upgrade_kind : UpgradeEnd → BuildKind
upgrade_kind end.Version = kind.Version
upgrade_kind end.Apart = kind.Apart
upgrade_kind end.Outside = kind.Outside
upgrade_kind (end.Shut page) = kind.Absent
upgrade_kind end.Overlap = kind.Overlap
