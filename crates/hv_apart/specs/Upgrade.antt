-- How a machine of version 0 becomes one of version 2. A page of its parent becomes its directory, whose words name the
-- pages of the table that it has; its present table words let their pages be fetched, as each present word does in
-- version 0; and its block names the directory in place of the table. Of the block's words 65 is how many pages the
-- machine has, 66 the parent's page of its table or directory, 67 its version. Bit 0 of a directory or table word says
-- that it is present, bits 31:12 have the parent's page; bit 2 of a table word of version 2 lets the page be fetched.
use Rattle.std.specs.Prelude.{◌≡◌, ℕ, zero, suc, ◌+◌, ◌-◌, ◌*◌, ◌/◌, ◌%◌, ◌<◌, ◌⊎◌, Bool, false, not, ◌||◌, ◌==◌}
use Rattle.std.specs.Prelude.{nat_lt, nat_le, if◌then◌else◌, List, ◌∷◌, map, length, take, Option, Some, None}
use Rattle.std.specs.Prelude.{slice_get}
use Rattle.std.specs.List.{find, range_with_len}
use Rattle.std.specs.Option.{is_none, option_and_then, option_map, option_or, unwrap_or}
use Rattle.std.proofs.Math.Seq.{sets}
use Rattle.hv_word.specs.Words.{field_put, has}
use Rattle.hv_word.specs.Storage.{word_at, with_word}
use Rattle.hv_store.specs.declared.access.Slot.{Slot}
use Rattle.hv_store.specs.declared.access.Way.{Way}
use Rattle.hv_store.specs.declared.access.Way.TheVariants.{Open, Shut}
use Rattle.hv_map.specs.Apart.{is_apart, standing_on, table_pages}
use Rattle.hv_map.specs.Chain.{map_along}
use Rattle.hv_map.specs.Item.{Item}
use Rattle.hv_apart.specs.declared.upgrading.UpgradeEnd.{UpgradeEnd}
use Rattle.hv_apart.specs.declared.upgrading.UpgradeEnd.TheVariants as end

-- the machine at the end of the items, none where that is the bare machine
abbrev pub last_item : List Item → Option Item
last_item items = slice_get items (length items - 1)

-- the machines around it
abbrev pub outer_items : List Item → List Item
outer_items items = take (length items - 1) items

-- the map of its parent
abbrev pub parent_map : List ℕ → List Item → List Slot
parent_map S items = map_along S (outer_items items)

-- the bare page that a way opens, if it does
abbrev pub host_opened : Way → Option ℕ
host_opened (Open g) = Some g
host_opened (Shut l c p w) = None

-- the bare page in which the machine with the map F writes its page u, none where it can't
abbrev pub written_in : List Slot → ℕ → Option ℕ
written_in F u = option_and_then (λ (s : Slot). host_opened s.write) (slice_get F u)

-- whether the directory's page, or a page of the table of x, isn't one of the parent's m pages
abbrev pub leaves_parent : ℕ → Item → ℕ → Bool
leaves_parent m x dir = nat_le m dir || nat_lt m (x.table + table_pages x.pages)

-- the first of the directory's page and the pages of the table of x that the parent with the map F can't write
abbrev pub first_shut : List Slot → Item → ℕ → Option ℕ
first_shut F x dir = find (λ u. is_none (written_in F u)) (dir ∷ range_with_len x.table (table_pages x.pages))

-- whether the machine at the end of the items stands on a bare page, if there is one
abbrev pub stands_on : List ℕ → List Item → Option ℕ → Bool
stands_on S items None = false
stands_on S items (Some d) = has d (standing_on S items)

-- why x at the end of the items can't be upgraded with its directory on page dir of its parent, whose map is F: the
-- first of the five reasons that holds
abbrev pub upgrade_refusal_in : List ℕ → List Item → List Slot → Item → ℕ → Option UpgradeEnd
upgrade_refusal_in S items F x dir =
    if x.version == 2 then Some end.Version
    else if not (is_apart S items) then Some end.Apart
    else if leaves_parent (length F) x dir then Some end.Outside
    else
    option_or
    (option_map (λ u. end.Shut u) (first_shut F x dir))
    (if stands_on S items (written_in F dir) then Some end.Overlap else None)

-- the same of the last machine; the bare machine has no block, and there is nothing to refuse
abbrev pub upgrade_refusal : List ℕ → List Item → ℕ → Option UpgradeEnd
upgrade_refusal S items dir =
    option_and_then (λ (x : Item). upgrade_refusal_in S items (parent_map S items) x dir) (last_item items)

-- word w of the directory of a table that has c pages, from the parent's page t on: each of the first c words names a
-- page of the table and is present, the others are zero
abbrev pub directory_word : ℕ → ℕ → ℕ → ℕ
directory_word t c w = if nat_lt w c then (t + w) * 4096 + 1 else 0

-- the storage with such a directory in bare page d
unfoldable pub with_directory_words : List ℕ → ℕ → ℕ → ℕ → List ℕ
with_directory_words S d t c = sets S (1024 * d) (map (directory_word t c) (range_with_len 0 1024))

-- a table word that lets its page be fetched, where it is present
abbrev pub with_fetch : ℕ → ℕ
with_fetch e = if e % 2 == 0 then e else field_put e 2 1 1

-- the storage in which word k of bare page g is such a word
abbrev pub with_fetch_at : List ℕ → ℕ → ℕ → List ℕ
with_fetch_at S g k = with_word S g k (with_fetch (word_at S g k))

-- the same of the table words of the first n pages of a machine, where `table` gives the bare page of each table page
unfoldable pub with_fetchable_table : List ℕ → (ℕ → ℕ) → ℕ → List ℕ
with_fetchable_table S table zero = S
with_fetchable_table S table (suc i) = with_fetch_at (with_fetchable_table S table i) (table (i / 1024)) (i % 1024)

-- the storage in which the block in bare page b has its directory on page dir of the parent, and version 2
abbrev pub with_version : List ℕ → ℕ → ℕ → List ℕ
with_version S b dir = with_word (with_word S b 66 dir) b 67 2

-- the storage with all three, where the directory of x is in bare page d
unfoldable pub rewritten : List ℕ → Item → ℕ → ℕ → (ℕ → ℕ) → List ℕ
rewritten S x dir d table =
    with_version
    (with_fetchable_table (with_directory_words S d x.table (table_pages x.pages)) table x.pages)
    x.block
    dir

-- a bare page that was found; 0 stands for none, which an upgrade that isn't refused doesn't meet
abbrev pub page_found : Option ℕ → ℕ
page_found page = unwrap_or page 0

-- the same where the parent has the map F, and can write all these pages
abbrev pub upgraded_in : List ℕ → List Slot → Item → ℕ → List ℕ
upgraded_in S F x dir =
    rewritten S x dir (page_found (written_in F dir)) (λ k. page_found (written_in F (x.table + k)))

-- the storage after the last machine was upgraded
abbrev pub upgraded : List ℕ → List Item → ℕ → List ℕ
upgraded S items dir =
    unwrap_or (option_map (λ (x : Item). upgraded_in S (parent_map S items) x dir) (last_item items)) S

-- word w of bare page g is one that an upgrade of x may change: it is a word of the directory, the table word of a page
-- of x, or word 66 or 67 of the block
abbrev pub IsListed : List Slot → Item → ℕ → ℕ → ℕ → Type 0
IsListed F x dir g w =
    (written_in F dir ≡ Some g)
    ⊎ (((i : ℕ) × (i < x.pages) × (written_in F (x.table + i / 1024) ≡ Some g) × (w ≡ i % 1024))
    ⊎ ((g ≡ x.block) × ((w ≡ 66) ⊎ (w ≡ 67))))

-- what stays as it was from the storage S to T: how many words there are, and each word that isn't listed
pub record Stays (S T : List ℕ) (F : List Slot) (x : Item) (dir : ℕ) : Type 0 where
  pub len : length T ≡ length S
  pub words : (g w : ℕ) → w < 1024 → (IsListed F x dir g w → ⊥) → word_at T g w ≡ word_at S g w

-- what is changed, word by word, and that all else stays
pub record IsUpgraded (S T : List ℕ) (F : List Slot) (x : Item) (dir : ℕ) : Type 0 where
  pub directory :
      (d w : ℕ)
      → written_in F dir ≡ Some d
      → w < 1024
      → word_at T d w ≡ directory_word x.table (table_pages x.pages) w
  pub table :
      (i g : ℕ)
      → i < x.pages
      → written_in F (x.table + i / 1024) ≡ Some g
      → word_at T g (i % 1024) ≡ with_fetch (word_at S g (i % 1024))
  pub directory_page : word_at T x.block 66 ≡ dir
  pub version : word_at T x.block 67 ≡ 2
  pub stays : Stays S T F x dir
