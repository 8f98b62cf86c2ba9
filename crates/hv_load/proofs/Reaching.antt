-- A machine's table word, by its parent's chain.
use Rattle.std.proofs.Common.{◌≡◌, ℕ, ◌-◌, List, length, Option, Some, None, Result, sym, ap, ◌∙◌, arith}
use Rattle.std.proofs.lemmas.List.{length-map, length-take-le}
use Rattle.hv_block.specs.declared.Block.{Block}
use Rattle.hv_map.specs.Item.{Item}
use Rattle.hv_map.specs.Chain.{map_along, pin_of}
use Rattle.hv_map.specs.Compose.{reading, table_of}
use Rattle.hv_map.specs.Found.{found_on}
use Rattle.hv_map.specs.declared.found.Found.TheVariants.{Child}
use Rattle.hv_map.proofs.Pins.{child_there}
use Rattle.hv_map.proofs.Words.{machines_chained}
use Rattle.hv_word.specs.Storage.{page_count}
use Rattle.hv_store.specs.Access.{identity}
use Rattle.hv_store.specs.declared.access.Slot.{Slot}
use Rattle.hv_load.specs.declared.ends.BuildKind.{BuildKind}
use Rattle.hv_load.specs.Pages.{block_page, outer, table_word_of, word_in_parent, word_named, word_of_child}

-- a chain has as many machines as its path has syllables
pub chain_length : (S path : List ℕ) (chain : List Item) → pin_of S path ≡ Some chain → length chain ≡ length path
unfolding pin_of
chain_length S path chain is =
    sym (length-map chain (λ (x : Item). x.syllable))
    ∙ ap length ((machines_chained S (identity (page_count S)) 0 path chain is).0)

-- the parent is at the level before
level_before : (S path : List ℕ) (chain : List Item) → pin_of S (outer path) ≡ Some chain → length chain ≡ length path - 1
level_before S path chain is =
    chain_length S (outer path) chain is ∙ length-take-le (length path - 1) path (omega arith)

pub table_word_found : (S path : List ℕ) (i : ℕ) (chain : List Item) (s g : ℕ) (b : Block) (r : Result ℕ BuildKind) → pin_of S (outer path) ≡ Some chain → s ≡ block_page path → Some (Child g b) ≡ found_on S (map_along S chain) s → r ≡ word_named (map_along S chain) i (table_of S (reading (map_along S chain)) (length chain) b.table b.version i) → r ≡ table_word_of S path i
table_word_found S path i chain s g b r is page found given =
    given
    ∙ ap (λ (o : Option Item). word_of_child S (map_along S chain) (length chain) i o) (sym (child_there S (map_along S chain) s g b found))
    ∙ ap (λ (j : ℕ). word_in_parent S (Some (map_along S chain)) j s i) (level_before S path chain is)
    ∙ ap (λ (s : ℕ). word_in_parent S (Some (map_along S chain)) (length path - 1) s i) page
    ∙ ap (λ (o : Option (List Item)). word_in_parent S (mapped S o) (length path - 1) (block_page path) i) (sym is)
  where
    mapped : List ℕ → Option (List Item) → Option (List Slot)
    mapped S None = None
    mapped S (Some items) = Some (map_along S items)
