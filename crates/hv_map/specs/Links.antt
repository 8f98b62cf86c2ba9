-- What is told of one machine on a path.
use Rattle.std.specs.Prelude.{ℕ, List, [], ◌∷◌, Option, Some, None}
use Rattle.hv_store.specs.Frame.{Framed}
use Rattle.hv_map.specs.Item.{Item}
use Rattle.hv_map.specs.declared.chain.ChainItem.{ChainItem}

-- the page on which its parent has its block
abbrev pub syllable_of : Item → ℕ
syllable_of x = x.syllable

-- its block's bare page, and what its map is read from
abbrev pub chain_item : Item → ChainItem
chain_item x = record { block = x.block; pages = x.pages; table = x.table; version = x.version }

-- what its map is read from
abbrev pub framed : Item → Framed
framed x = record { pages = x.pages; table = x.table; version = x.version }

-- the bare page of the last machine's block, none where the bare machine is the last
abbrev pub last_block : List Item → Option ℕ
last_block [] = None
last_block (x ∷ []) = Some x.block
last_block (x ∷ (y ∷ ys)) = last_block (y ∷ ys)
