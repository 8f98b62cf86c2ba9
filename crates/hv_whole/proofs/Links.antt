-- How the link of a machine with the bare machine that stands for it goes on after a change of the storage.
use Rattle.std.proofs.Common.{◌≡◌, ◌≢◌, ℕ, ◌<◌, ◌⊎◌, inl, List, length, set, Option, Some, ap, ◌∙◌, sym, subst, arith, slice_get, get_or-set_same, length-set}
use Rattle.std.proofs.lemmas.Option.{slice_get-get_or}
use Rattle.hv_word.specs.Storage.{word_at, page_count}
use Rattle.hv_cpu.specs.Regs.{Regs, reset_regs}
use Rattle.hv_store.specs.declared.access.Slot.{Slot}
use Rattle.hv_store.specs.declared.access.Way.TheVariants.{Open}
use Rattle.hv_store.specs.Access.{identity}
use Rattle.hv_block.specs.Block.{IsOther}
use Rattle.hv_map.specs.Item.{Item}
use Rattle.hv_map.specs.Chain.{along}
use Rattle.hv_map.specs.Words.{Chained, EachChain}
use Rattle.hv_map.proofs.Words.{along_agrees, chained_agrees}
use Rattle.hv_nest.specs.State.{State, hart_regs}
use Rattle.hv_nest.specs.Move.{with_hart}
use Rattle.hv_nest.specs.Simulation.{Sees, StillSees}
use Rattle.hv_nest.specs.Routing.{regs_along}
use Rattle.hv_whole.specs.Linked.{EachBlock, Unread, Aside, Alone, Linked}
use Rattle.hv_whole.proofs.Each.{each_block}
use Rattle.hv_whole.proofs.Foots.{each_both}
use Rattle.hv_whole.proofs.Lifts.{kept, puts, length-puts, puts_other, puts_own}

-- a hart's registers that were replaced
pub hart_set : (harts : List Regs) (h : ℕ) (q : Regs) → h < length harts → slice_get (set harts h q) h ≡ Some q
hart_set harts h q inside =
    let within : h < length (set harts h q) = omega (arith, length-set harts h q) in
    slice_get-get_or (set harts h q) h reset_regs within ∙ ap Some (get_or-set_same harts h q reset_regs inside)

-- what a machine sees stays so where the storage has the same pages that it reads
pub sees_same : (k : ℕ) (F : List Slot) (S U T : List ℕ) → length U ≡ length S
    → ((y x w : ℕ) (s : Slot) → slice_get F y ≡ Some s → s.read ≡ Open x → w < 1024 → word_at S x w ≡ word_at U x w)
    → Sees k F S T → Sees k F U T
sees_same k F S U T size same sees = record {
  apart = sees.apart;
  inside = λ y x e. let lt : x < page_count S = sees.inside y x e in omega (arith, size);
  same = sees.same;
  below = sees.below;
  size = sees.size;
  agree = λ y x w s is e h. sym (same y x w s is e h) ∙ sees.agree y x w s is e h;
}

module _ (A : List ℕ) (items : List Item) (F : List Slot) (alone : Alone A items F) where
  -- the bare machine has as many pages as at the start
  same_map : (S : List ℕ) → length S ≡ length A → identity (page_count A) ≡ identity (page_count S)
  same_map S len = let e : page_count A ≡ page_count S = omega (arith, len) in ap identity e

  module _ (S : List ℕ) (len : length S ≡ length A) (chain : EachChain (λ g w. word_at A g w ≡ word_at S g w) A (identity (page_count A)) 0 items) where
    -- F is the machine's map still
    pub along_still : along S (identity (page_count S)) 0 items ≡ F
    along_still =
        ap (λ (I : List Slot). along S I 0 items) (sym (same_map S len))
        ∙ sym (along_agrees A S (identity (page_count A)) 0 items chain)
        ∙ alone.map

    -- and the machines are still on their pages
    pub chained_still : Chained S (identity (page_count S)) 0 items
    chained_still =
        subst (λ (I : List Slot). Chained S I 0 items) (same_map S len)
        (chained_agrees A S (identity (page_count A)) 0 items chain alone.chained)

  -- a page that the machine reads is no block's
  read_apart : (y x : ℕ) (s : Slot) → slice_get F y ≡ Some s → s.read ≡ Open x → (w : ℕ) → EachBlock (λ b. (x ≢ b) ⊎ IsOther w) items
  read_apart y x s is e w =
      each_block (Unread F) (λ b. (x ≢ b) ⊎ IsOther w) (λ b unread. inl (λ f. unread (y, s, is, e ∙ ap Open f))) items alone.unread

  -- the state after a step of the machine, once the registers are put back
  module _ (h k : ℕ) (st : State) (T : List ℕ) (c : Regs) (link : Linked h items A F st T c) (there : h < length st.harts) (r : Regs) (S U : List ℕ) (d : Regs) (still : StillSees k F st.storage T S U) where
    words_still : (g w : ℕ) → word_at A g w ≡ word_at st.storage g w → Aside F items g w → word_at A g w ≡ word_at (puts st.storage items S d) g w
    words_still g w same aside =
        same
        ∙ sym (still.host g w aside.1 aside.0)
        ∙ sym (puts_other st.storage items S d g w aside.0 aside.2)

    pub relink : k ≡ length items → Linked h items A F (with_hart st (puts st.storage items S d) h (kept items d r)) U d
    relink level = record {
      chain = each_both (λ g w. word_at A g w ≡ word_at st.storage g w) (Aside F items) (λ g w. word_at A g w ≡ word_at (puts st.storage items S d) g w) words_still A (identity (page_count A)) 0 items link.chain alone.chain;
      len = length-puts st.storage items S d ∙ still.size ∙ link.len;
      sees = subst (λ (l : ℕ). Sees l F (puts st.storage items S d) U) level
          (sees_same k F S (puts st.storage items S d) U (length-puts st.storage items S d) (λ y x w s is e lt. sym (puts_other st.storage items S d x w lt (read_apart y x s is e w))) still.sees);
      regs = ap (λ (o : Option Regs). regs_along (puts st.storage items S d) items (hart_regs o)) (hart_set st.harts h (kept items d r) there)
          ∙ puts_own st.storage items S d r alone.blocks inside;
    }
      where
        same_size : length S ≡ length A
        same_size = still.size ∙ link.len

        pages : page_count A ≡ page_count S
        pages = let e : length S ≡ length A = same_size in omega (arith, e)

        inside : EachBlock (λ b. b < page_count S) items
        inside = subst (λ (n : ℕ). EachBlock (λ b. b < n) items) pages alone.inside
