-- How many pages what is seen has.
use Rattle.std.proofs.Common.{◌≡◌, ℕ, ◌*◌, List, [], length, ◌∙◌, ap, sym, subst}
use Rattle.hv_word.specs.Storage.{page_count}
use Rattle.hv_cpu.specs.Regs.{Regs}
use Rattle.hv_store.specs.declared.access.Slot.{Slot}
use Rattle.hv_map.specs.Chain.{along, map_along}
use Rattle.hv_map.specs.Item.{Item}
use Rattle.hv_map.specs.Seen.{seen}
use Rattle.hv_map.proofs.Views.{page_count-seen}
use Rattle.hv_nest.specs.Kinds.{NextBelow}
use Rattle.hv_store.specs.Access.{identity}
use Rattle.hv_store.proofs.Identity.{length-identity}
use Rattle.hv_whole.proofs.Roots.{root_sees}

pub next_seen : (S copy : List ℕ) (F : List Slot) (r : Regs) → copy ≡ seen S F → NextBelow (length F) r → NextBelow (page_count copy) r
next_seen S copy F r e next = subst (λ n. NextBelow n r) (sym (ap page_count e ∙ page_count-seen S F)) next

-- the bare machine sees its storage
pub root_pages : (S : List ℕ) (items : List Item) → items ≡ [] → length (map_along S items) ≡ page_count S
unfolding map_along along
root_pages S items e = ap (λ (xs : List Item). length (along S (identity (page_count S)) 0 xs)) e ∙ length-identity (page_count S)

pub root_copy : (S copy : List ℕ) (items : List Item) → items ≡ [] → length S ≡ 1024 * page_count S → copy ≡ seen S (map_along S items) → copy ≡ S
root_copy S copy items e whole is = is ∙ ap (λ (xs : List Item). seen S (map_along S xs)) e ∙ root_sees S whole
