-- What stays while a hart rides.
use Rattle.std.proofs.Common.{◌≡◌, ◌≢◌, ℕ, ◌+◌, ◌/◌, ◌<◌, inl, inr, Bool, true, false, ◌&&◌, ◌||◌, ◌==◌, List, [], ◌∷◌, length, refl, ap, ◌∙◌, sym, subst, arith, lit<}
use Rattle.std.specs.Prelude.{nat_lt, nat_le}
use Rattle.std.proofs.lemmas.Bool.{and_parts, eqb-false, lt-ltb, or_parts}
use Rattle.std.proofs.lemmas.Bool.Decides.{eqb_tells}
use Rattle.hv_word.specs.Storage.{word_at}
use Rattle.hv_cpu.specs.Regs.{Regs}
use Rattle.hv_csr.specs.Interrupts.{pending_of}
use Rattle.hv_block.specs.Block.{IsOther, fits_hart, fits_pages, fits_size, is_block, pages_at, regs_at, table_at, version_at}
use Rattle.hv_block.proofs.Blocks.{block_alike, regs_alike}
use Rattle.hv_block.proofs.Fits.{hart_fits}
use Rattle.hv_block.proofs.Words.{length-put_regs, put_other, regs_back}
use Rattle.hv_word.specs.Words.{has}
use Rattle.hv_map.specs.Chain.{child_with}
use Rattle.hv_map.specs.Held.{Nexts, Placed, SameNexts, SamePage, SamePages, SaysItem, SaysItems}
use Rattle.hv_map.specs.Item.{Item}
use Rattle.hv_map.specs.Gathered.{Listed, Gathered, gathered_map}
use Rattle.hv_map.proofs.Holding.{held_stays, pin_stays}
use Rattle.hv_fast.specs.Laws.{HeldRidesLaw, PinRidesLaw, QuietRidesLaw}
use Rattle.hv_fast.specs.Marked.{BlocksIn, Marked, listed}
use Rattle.hv_fast.specs.Rides.{IsRidden, Quiet}
use Rattle.hv_fast.proofs.Descending.{runs_elsewhere}
use Rattle.hv_fast.proofs.Saying.{page_same, says_block, still_says}

-- the blocks of machines that are placed say what these are
pub placed_says : (S : List ℕ) (N : List Gathered) (p : Listed) (j : ℕ) (items : List Item) → Placed S N p j items → SaysItems S items
placed_says S N p j [] placed = tt
placed_says S N p j (x ∷ xs) placed =
    (placed.0.says, placed_says S (gathered_map S N j x.pages x.table x.version) p (j + 1) xs placed.1)

module _ (S T U : List ℕ) (m : Marked) (g : ℕ) (q : Regs) (ridden : IsRidden S T U m g q) where
  long : length S ≡ length U
  long = ridden.len ∙ sym (length-put_regs T g q) ∙ ap length (sym ridden.put)

  -- a page other than that of the block
  other_page : (k : ℕ) → k ≢ g → SamePage S T k → SamePage S U k
  other_page k ne same =
      λ w h. same w h ∙ sym (put_other T g q k w h (inl ne)) ∙ ap (λ (V : List ℕ). word_at V k w) (sym ridden.put)

  other_block : (k : ℕ) → has k m.blocks ≡ true → k ≢ g → SamePage S U k
  other_block k marked ne = other_page k ne (page_same S T k m.blocks marked ridden.same.blocks)

  other_pages : (hs : List ℕ) → has g hs ≡ false → SamePages S T hs → SamePages S U hs
  other_pages [] apart same = tt
  other_pages (h ∷ hs) apart same =
      let p = or_parts (g == h) (has g hs) apart in
      (other_page h (λ e. eqb-false g h p.0 (sym e)) same.0, other_pages hs p.1 same.1)

  -- a word of a block that holds no register
  other_word : (k w : ℕ) → has k m.blocks ≡ true → w < 1024 → IsOther w → word_at U k w ≡ word_at S k w
  other_word k w marked h other =
      ap (λ (V : List ℕ). word_at V k w) ridden.put
      ∙ put_other T g q k w h (inr other)
      ∙ sym (page_same S T k m.blocks marked ridden.same.blocks w h)

  -- the registers of the block
  own_regs : regs_at U g ≡ q
  own_regs =
      ap (λ (V : List ℕ). regs_at V g) ridden.put
      ∙ regs_back T g q (subst (λ (n : ℕ). g < n / 1024) ridden.len ridden.there)

  own_sizes : is_block S g ≡ true → fits_size (pages_at S g) (table_at S g) (version_at S g) q.next ≡ true
  own_sizes fits =
      let n : ℕ = pages_at S g in
      let v : Bool = (version_at S g == 0) || (version_at S g == 2) in
      let sizes : Bool = nat_lt 0 n && nat_le n 1048576 && nat_lt (table_at S g) 1048576 in
      let a = and_parts (sizes && nat_lt (word_at S g 64) n) v (and_parts (fits_hart (regs_at S g)) (fits_pages S g) fits).1 in
      let b = and_parts sizes (nat_lt (word_at S g 64) n) a.0 in
      λ i. b.0 i && (lt-ltb q.next n ridden.next) i && a.1 i

  own_fits : has g m.blocks ≡ true → is_block S g ≡ true → is_block U g ≡ true
  own_fits marked fits =
      let n : word_at U g 65 ≡ pages_at S g = other_word g 65 marked (lit< tt) (omega arith, omega arith) in
      let t : word_at U g 66 ≡ table_at S g = other_word g 66 marked (lit< tt) (omega arith, omega arith) in
      let v : word_at U g 67 ≡ version_at S g = other_word g 67 marked (lit< tt) (omega arith, omega arith) in
      (λ i. fits_hart (own_regs i) && fits_size (n i) (t i) (v i) (own_regs i).next)
      ∙ (λ i. (hart_fits q ridden.fits) i && (own_sizes fits) i)

  -- each block says what it did
  says_still : (x : Item) → has x.block m.blocks ≡ true → SaysItem S x → SaysItem U x
  says_still x marked says = elim (eqb_tells x.block g) [
    | inl agree ↦
        still_says S U x says
        (other_word x.block 65 marked (lit< tt) (omega arith, omega arith))
        (other_word x.block 66 marked (lit< tt) (omega arith, omega arith))
        (other_word x.block 67 marked (lit< tt) (omega arith, omega arith))
        (subst (λ (k : ℕ). has k m.blocks ≡ true → is_block S k ≡ true → is_block U k ≡ true) (sym agree.1) own_fits marked (says_block S x says).0)
    | inr differ ↦
        ap (child_with x.syllable x.block) (sym (block_alike S U x.block x.block (other_block x.block marked differ.1))) ∙ says
  ]

  all_say : (items : List Item) → BlocksIn m.blocks items → SaysItems S items → SaysItems U items
  all_say [] blocks says = tt
  all_say (x ∷ xs) blocks says = (says_still x blocks.0 says.0, all_say xs blocks.1 says.1)

  tables_stay : SamePages S U m.tables
  tables_stay = other_pages m.tables ridden.apart ridden.same.tables

  -- and each next, where the block's is zero and stays so
  module _ (idle : word_at S g 64 ≡ 0) where
    next_stays : q.next ≡ 0 → (k : ℕ) → has k m.blocks ≡ true → word_at S k 64 ≡ word_at U k 64
    next_stays zeroed k marked = elim (eqb_tells k g) [
      | inl agree ↦
          subst (λ (h : ℕ). word_at S h 64 ≡ word_at U h 64) (sym agree.1) (idle ∙ sym zeroed ∙ sym (ap (λ (c : Regs). c.next) own_regs))
      | inr differ ↦ other_block k marked differ.1 64 (lit< tt)
    ]

    nexts_stay : q.next ≡ 0 → (items : List Item) → BlocksIn m.blocks items → SameNexts S U items
    nexts_stay zeroed [] blocks = tt
    nexts_stay zeroed (x ∷ xs) blocks = (next_stays zeroed x.block blocks.0, nexts_stay zeroed xs blocks.1)

    -- the machines that run others stay quiet
    quiet_stays : (k : ℕ) (items : List Item)
        → has k m.blocks ≡ true
        → BlocksIn m.blocks items
        → Nexts S (regs_at S k) items
        → Quiet S (regs_at S k) items
        → Quiet U (regs_at U k) items
    quiet_stays k [] marked blocks nexts quiet = tt
    quiet_stays k (x ∷ xs) marked blocks nexts quiet =
        let ne : k ≢ g = runs_elsewhere S k g x.syllable nexts.0.0 nexts.0.1 idle in (
          ap pending_of (sym (regs_alike S U k k (other_block k marked ne))) ∙ quiet.0,
          quiet_stays x.block xs blocks.0 blocks.1 nexts.1 quiet.1,
        )

pub pin_rides : PinRidesLaw
pin_rides S T U r q items m g ridden idle zeroed blocks pin =
    pin_stays S U r r items (listed m.tables) (long S T U m g q ridden) (tables_stay S T U m g q ridden)
    (all_say S T U m g q ridden items blocks (placed_says S _ (listed m.tables) 0 items pin.placed))
    (nexts_stay S T U m g q ridden idle zeroed items blocks)
    refl
    pin

pub quiet_rides : QuietRidesLaw
quiet_rides S T U r q [] m g ridden idle blocks pin quiet = tt
quiet_rides S T U r q (x ∷ xs) m g ridden idle blocks pin quiet =
    quiet_stays S T U m g q ridden idle x.block xs blocks.0 blocks.1 pin.nexts.1 quiet

pub held_rides : HeldRidesLaw
held_rides S T U q items m g page slot ridden blocks held =
    held_stays S U items (listed m.tables) page slot (long S T U m g q ridden) (tables_stay S T U m g q ridden)
    (all_say S T U m g q ridden items blocks (placed_says S _ (listed m.tables) 0 items held.placed))
    held
