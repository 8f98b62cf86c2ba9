-- What each directive does, or why it is refused, in the order of its tests.
use Rattle.std.specs.Prelude.{ℕ, ◌+◌, ◌*◌, ◌/◌, Bool, false, ◌||◌, nat_lt, nat_le, if◌then◌else◌, List, [], ◌∷◌, ◌++◌}
use Rattle.std.specs.Prelude.{length, map, is_some, Option, Some, None, Result, Ok, Err, slice_set}
use Rattle.hv_apart.specs.Upgrade.{upgrade_refusal, upgraded}
use Rattle.hv_apart.specs.declared.upgrading.UpgradeEnd.{UpgradeEnd}
use Rattle.hv_asm.specs.declared.Image.{Image}
use Rattle.hv_cpu.specs.Regs.{reset_regs}
use Rattle.hv_store.specs.declared.access.Slot.{Slot}
use Rattle.hv_map.specs.Apart.{table_pages}
use Rattle.hv_map.specs.Chain.{map_along, map_of, pin_of}
use Rattle.hv_map.specs.Item.{Item}
use Rattle.hv_limits.specs.Limits.{depth_limit, pages_limit}
use Rattle.hv_line.specs.JobLimits.{job_machines}
use Rattle.hv_load.specs.declared.ends.BuildKind.{BuildKind}
use Rattle.hv_load.specs.declared.ends.BuildKind.TheVariants as kind
use Rattle.hv_load.specs.declared.parts.Mark.TheVariants as mark
use Rattle.hv_load.specs.Building.{Building, Known, known, known_inside, named}
use Rattle.hv_load.specs.Kinds.{upgrade_kind}
use Rattle.hv_load.specs.Pages.{block_page, each_from, free_page_of, if_free, marked, outer, page_at, page_of}
use Rattle.hv_load.specs.Pages.{place_by, reads_in, table_word_of, with_values, writes_in}
use Rattle.hv_load.specs.Making.{can_take, with_machine}
use Rattle.hv_lex.specs.Refusing.{◌>>=◌}

-- `hart`
abbrev pub hart_of : Building → (hart pc : ℕ) → Result Building BuildKind
hart_of b hart pc =
    if nat_lt hart (length b.harts)
    then Ok (record b { harts = slice_set b.harts hart (record reset_regs { pc = pc }) })
    else Err kind.Hart

-- `turn` and `lines`, whose events stand in the schedule
abbrev pub event_of : Building → (hart : ℕ) → Result Building BuildKind
event_of b hart = if nat_lt hart (length b.harts) then Ok b else Err kind.Hart

-- whether the block, a page of the table or a page of the machine is outside the parent's pages
abbrev pub is_outside : (limit block pages table at : ℕ) → Bool
is_outside limit block pages table at =
    nat_le limit block || nat_lt limit (table + table_pages pages) || nat_lt limit (at + pages)

-- the bare pages of the block and of the table, as the parent, whose map is given, writes them
abbrev pub pages_along : Option (List Slot) → (block pages table : ℕ) → Result (List ℕ) BuildKind
pages_along F block pages table =
    writes_in F block >>= λ g. each_from (writes_in F) table (table_pages pages) >>= λ gs. Ok (g ∷ gs)

-- a machine made in these bare pages
abbrev pub with_made : Building → List ℕ → Known → (block pages table at : ℕ) → List ℕ → Building
with_made b name parent block pages table at taken =
    record b {
      storage = with_machine b.storage pages table at taken;
      marks = marked mark.Control taken b.marks;
      names = b.names ++ record { name = name; path = parent.path ++ block ∷ []; pages = pages } ∷ [];
      machines = b.machines + 1;
    }

-- a machine with this name inside another, unless it is too deep, the name is taken or a page is outside
abbrev pub made_in : Building → List ℕ → Known → (block pages table at : ℕ) → Result Building BuildKind
made_in b name parent block pages table at =
    if nat_le depth_limit (length parent.path) then Err kind.Depth
    else if is_some (named name b.names) then Err kind.Repeat
    else if is_outside parent.pages block pages table at then Err kind.Outside
    else
    pages_along (map_of b.storage parent.path) block pages table >>= λ taken.
    if can_take b.marks taken then Ok (with_made b name parent block pages table at taken)
    else Err kind.Overlap

-- `machine`
abbrev pub machine_of : Building → (name parent : List ℕ) → (block pages table at : ℕ) → Result Building BuildKind
machine_of b name parent block pages table at =
    if nat_le job_machines b.machines then Err kind.Many
    else known parent b.names >>= λ k. made_in b name k block pages table at

-- `map`: the table word of page i becomes the entry
abbrev pub mapped_in : Building → Known → (page entry : ℕ) → Result Building BuildKind
mapped_in b k page entry =
    if nat_le k.pages page then Err kind.Outside
    else table_word_of b.storage k.path page >>= λ place. Ok (record b { storage = slice_set b.storage place entry })

-- the same of the machine of this name
abbrev pub mapped_of : Building → List ℕ → (page entry : ℕ) → Result Building BuildKind
mapped_of b name page entry = known_inside name b.names >>= λ k. mapped_in b k page entry

-- the bare page in which the parent of a machine writes its page `dir`, where it is free
abbrev pub directory_page : Building → Known → (dir : ℕ) → Result ℕ BuildKind
directory_page b k dir = writes_in (map_of b.storage (outer k.path)) dir >>= if_free b.marks

-- the machine at the end of the items gets a directory in this bare page
abbrev pub with_directory : Building → List Item → (dir g : ℕ) → Building
with_directory b items dir g =
    record b { storage = upgraded b.storage items dir; marks = marked mark.Control (g ∷ []) b.marks }

-- the same unless the upgrade is refused, or that bare page isn't free
abbrev pub upgraded_unless : Building → Known → List Item → (dir : ℕ) → Option UpgradeEnd → Result Building BuildKind
upgraded_unless b k items dir (Some end) = Err (upgrade_kind end)
upgraded_unless b k items dir None = directory_page b k dir >>= λ g. Ok (with_directory b items dir g)

-- the same of a machine that is there and has at most as many pages as a storage can have
abbrev pub upgraded_along : Building → Known → (dir : ℕ) → Option (List Item) → Result Building BuildKind
upgraded_along b k dir None = Err kind.Absent
upgraded_along b k dir (Some items) =
    if nat_lt pages_limit (length (map_along b.storage items)) then Err kind.Absent
    else upgraded_unless b k items dir (upgrade_refusal b.storage items dir)

-- `upgrade`: the machine of this name gets a directory on page `dir` of its parent, and version 2
abbrev pub upgraded_of : Building → List ℕ → (dir : ℕ) → Result Building BuildKind
upgraded_of b name dir = known_inside name b.names >>= λ k. upgraded_along b k dir (pin_of b.storage k.path)

-- `start`: word 0 of the block becomes the program counter
abbrev pub started_in : Building → Known → (pc : ℕ) → Result Building BuildKind
started_in b k pc =
    reads_in (map_of b.storage (outer k.path)) (block_page k.path) >>= λ g.
    Ok (record b { storage = slice_set b.storage (1024 * g) pc })

-- the same of the machine of this name
abbrev pub started_of : Building → List ℕ → (pc : ℕ) → Result Building BuildKind
started_of b name pc = known_inside name b.names >>= λ k. started_in b k pc

-- `word`: all words are found in the storage and the map as they stand before the line, and then written
abbrev pub words_in : Building → Known → (at : ℕ) → List ℕ → Result Building BuildKind
words_in b k at values =
    each_from (place_by (page_of b.storage k)) (at / 4) (length values) >>= λ places.
    Ok (record b { storage = with_values b.storage places values })

-- the same of the machine of this name
abbrev pub words_of : Building → List ℕ → (at : ℕ) → List ℕ → Result Building BuildKind
words_of b name at values = known name b.names >>= λ k. words_in b k at values

-- `image` and `sample`: the same in bare pages that are free before the line, which become image
abbrev pub image_in : Building → Known → Image → Result Building BuildKind
image_in b k image =
    each_from (place_by (free_page_of b.storage b.marks k)) (image.base / 4) (length image.words) >>= λ places.
    Ok
    (record b {
      storage = with_values b.storage places image.words;
      marks = marked mark.Image (map page_at places) b.marks;
    })

-- the same of the machine of this name
abbrev pub image_of : Building → List ℕ → Image → Result Building BuildKind
image_of b name image = known name b.names >>= λ k. image_in b k image

-- the bare machine can't be watched where it has more than one hart
abbrev pub is_shared : List ℕ → ℕ → Bool
is_shared [] harts = nat_lt 1 harts
is_shared (s ∷ path) harts = false

-- `watch`
abbrev pub watch_in : Building → (line hart : ℕ) → Known → Result Building BuildKind
watch_in b line hart k =
    if is_shared k.path (length b.harts) then Err kind.Watch
    else
    Ok
    (record b {
      watches = b.watches ++ record { line = line; watch = record { hart = hart; path = k.path } } ∷ [];
    })

-- the same of the machine of this name and a hart that is there
abbrev pub watch_of : Building → (line hart : ℕ) → List ℕ → Result Building BuildKind
watch_of b line hart name =
    if nat_lt hart (length b.harts) then known name b.names >>= watch_in b line hart else Err kind.Hart

-- `dump`
abbrev pub dump_in : Building → List ℕ → (page : ℕ) → Known → Result Building BuildKind
dump_in b name page k = Ok (record b { dumps = b.dumps ++ record { name = name; path = k.path; page = page } ∷ [] })

-- the same of the machine of this name
abbrev pub dump_of : Building → List ℕ → (page : ℕ) → Result Building BuildKind
dump_of b name page = known name b.names >>= dump_in b name page
