-- A hart rides: the machine at the end of its pinned path makes one instruction, and the machines outside it are passed
-- by.
use Rattle.std.specs.Prelude.{◌≡◌, ℕ, ◌/◌, ◌<◌, Bool, false, ◌||◌, List, [], ◌∷◌, length, None}
use Rattle.std.specs.List.{AllByRecursion, list_any}
use Rattle.hv_word.specs.Storage.{page_count}
use Rattle.hv_cpu.specs.Regs.{Regs, FitsHart}
use Rattle.hv_csr.specs.Interrupts.{pending_of}
use Rattle.hv_block.specs.Block.{pages_at, put_regs, regs_at}
use Rattle.hv_word.specs.Words.{has}
use Rattle.hv_map.specs.Item.{Item}
use Rattle.hv_exec.specs.Act.{Done, act_of}
use Rattle.hv_map.specs.Chain.{map_along}
use Rattle.hv_nest.specs.declared.notes.Note.{Note}
use Rattle.hv_cache.specs.Holding.{Entry, any_rests_on}
use Rattle.hv_cache.specs.Kept.{Kept}
use Rattle.hv_fast.specs.Marked.{Marked, SameMarked, has_mark}

-- No interrupt can be taken in the machines outside the last of the items: neither with the registers r, by which the
-- first is found, nor with those in the blocks of the items but the last.
abbrev pub Quiet : List ℕ → Regs → List Item → Type 0
Quiet S r [] = Unit {0}
Quiet S r (x ∷ xs) = (pending_of r ≡ None) × Quiet S (regs_at S x.block) xs

-- the same of the blocks alone
abbrev pub QuietBlocks : List ℕ → List Item → Type 0
QuietBlocks S [] = Unit {0}
QuietBlocks S (x ∷ xs) = Quiet S (regs_at S x.block) xs

-- What one instruction of the machine whose block is in bare page g came to. From the storage S it left T, and nothing
-- rests on the words that it wrote; then its registers q went to its block, which gave U.
pub record IsRidden (S T U : List ℕ) (m : Marked) (g : ℕ) (q : Regs) : Type 0 where
  pub len : length S ≡ length T
  pub same : SameMarked S T m
  pub there : g < page_count S
  pub apart : has g m.tables ≡ false
  pub fits : FitsHart q
  pub next : q.next < pages_at S g
  pub put : U ≡ put_regs T g q

-- what a kept translation rests on
abbrev pub marked_by : Kept → Marked
marked_by k = record { tables = k.tables; blocks = k.blocks }

-- whether something rests on a page with a noted word: what is marked, or one of the entries
abbrev pub has_noted_mark : Marked → List Entry → List Note → Bool
has_noted_mark m es notes =
    list_any (λ (n : Note). has_mark m (n.at / 1024) || any_rests_on (n.at / 1024) es) notes

-- One instruction of the last of the items, from the storage S and the registers r of its block in bare page g to U
-- and q, of whose words nothing rests on those that it wrote itself, neither what is marked nor an entry.
pub record HasRidden
    (S U : List ℕ) (m : Marked) (es : List Entry) (items : List Item) (g : ℕ) (r q : Regs) : Type 0 where
  pub after : List ℕ
  pub acts : act_of S (map_along S items) 0 r ≡ Done after q
  pub marked : IsRidden S after U m g q
  pub held : AllByRecursion (λ (e : Entry). IsRidden S after U (marked_by e.1) g q) es
