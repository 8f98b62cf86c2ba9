-- From the tests of an upgrade to its writes.
use Rattle.std.proofs.Common.{◌≡◌, ℕ, ◌+◌, ◌-◌, ◌<◌, inl, inr, List, length, map, Some, set, get_or, get_or-set_same, get_or-set_other, ap, ◌∙◌, sym, subst, arith, slice_get, take}
use Rattle.std.specs.Prelude.{slice_index}
use Rattle.std.specs.Option.{option_map}
use Rattle.std.proofs.lemmas.Bool.{cases_eq}
use Rattle.hv_word.specs.Storage.{page_count}
use Rattle.hv_store.specs.declared.access.Slot.{Slot}
use Rattle.hv_map.specs.Apart.{table_pages}
use Rattle.hv_map.specs.Chain.{map_along, pin_of}
use Rattle.hv_map.specs.Item.{Item}
use Rattle.hv_map.specs.Links.{chain_item, syllable_of}
use Rattle.hv_map.specs.declared.chain.ChainItem.{ChainItem}
use Rattle.hv_map.proofs.Machines.{Fits, pinned_fits}
use Rattle.hv_apart.specs.Plan.{IsPlanned}
use Rattle.hv_apart.specs.Table.{item_of_chain}
use Rattle.hv_apart.specs.Upgrade.{last_item, page_found, parent_map, rewritten, upgraded, with_directory_words, with_version, written_in}
use Rattle.hv_apart.specs.declared.upgrading.Plan.{Plan}
use Rattle.hv_apart.proofs.Growing.{item_there}
use Rattle.hv_apart.proofs.Rewriting.{table_alike}
use Rattle.hv_apart.proofs.Upgraded.{upgraded_last}

-- one bare page more of the table
pub found_more : (F : List Slot) (t k host : ℕ) (tables : List ℕ) → k < length tables
    → ((m : ℕ) → m < k → written_in F (t + m) ≡ Some (get_or tables m 0))
    → written_in F (t + k) ≡ Some host
    → (m : ℕ) → m < k + 1 → written_in F (t + m) ≡ Some (get_or (set tables k host) m 0)
found_more F t k host tables room before here m lt = elim (cases_eq m k) [
  | inl e ↦
      ap (λ (n : ℕ). written_in F (t + n)) e
      ∙ here
      ∙ ap (λ (g : ℕ). Some g) (sym (ap (λ (n : ℕ). get_or (set tables k host) n 0) e ∙ get_or-set_same tables k host 0 room))
  | inr ne ↦
      before m (omega (arith, ne)) ∙ ap (λ (g : ℕ). Some g) (sym (get_or-set_other tables k m host 0 ne))
]

-- the last machine of a chain of the store
pub record Last (S : List ℕ) (items : List Item) (child : ChainItem) : Type 0 where
  pub item : Item
  pub last : last_item items ≡ Some item
  pub said : chain_item item ≡ child
  pub fits : Fits (page_count S) item

pub last_found : (S : List ℕ) (items : List Item) (n : ℕ) (child : ChainItem)
    → pin_of S (map syllable_of items) ≡ Some items
    → n ≡ length items
    → option_map chain_item (slice_get items (n - 1)) ≡ Some child
    → Last S items child
last_found S items n child pinned len e =
    let x = item_there items (n - 1) child e in
    record {
      item = x.0;
      last = ap (λ (k : ℕ). slice_get items (k - 1)) (sym len) ∙ x.1;
      said = x.2;
      fits = pinned_fits S items (n - 1) x.0 pinned x.1;
    }

-- and its parent's map
pub parent_found : (S : List ℕ) (items parent : List Item) (n : ℕ) → n ≡ length items → parent ≡ take (n - 1) items → map_along S parent ≡ parent_map S items
parent_found S items parent n len is = ap (map_along S) is ∙ ap (λ (k : ℕ). map_along S (take (k - 1) items)) len

-- what is written is what the machine is upgraded to
pub written_out : (S : List ℕ) (items : List Item) (dir : ℕ) (p : Plan) → IsPlanned S items dir p → rewritten S (item_of_chain p.child) dir p.directory (slice_index p.tables) ≡ upgraded S items dir
unfolding rewritten
written_out S items dir p ready =
    let x : Item = ready.item in
    let F : List Slot = parent_map S items in
    let found : (k : ℕ) → k < table_pages x.pages → written_in F (x.table + k) ≡ Some (slice_index p.tables k) =
    subst (λ (c : ChainItem). (k : ℕ) → k < table_pages c.pages → written_in F (c.table + k) ≡ Some (slice_index p.tables k)) (sym ready.said) ready.plan.tables
    in
    let d : ℕ = page_found (written_in F dir) in
    let same : p.directory ≡ d = sym (ap page_found ready.plan.directory) in
    ap (λ (c : ChainItem). rewritten S (item_of_chain c) dir p.directory (slice_index p.tables)) (sym ready.said)
    ∙ ap (λ (g : ℕ). rewritten S x dir g (slice_index p.tables)) same
    ∙ ap (λ (U : List ℕ). with_version U x.block dir)
    (table_alike (with_directory_words S d x.table (table_pages x.pages)) (slice_index p.tables) (λ k. page_found (written_in F (x.table + k))) x.pages (λ k lt. sym (ap page_found (found k lt))))
    ∙ sym (upgraded_last S items x dir ready.last)
