-- The instruction of a ride changes no word of a page on which something rests.
use Rattle.std.proofs.Common.{◌≡◌, ◌≢◌, ℕ, zero, suc, ◌+◌, ◌*◌, ◌/◌, ◌<◌, Bool, true, false, ◌||◌, List, [], ◌∷◌, length, get_or, refl, ap, ◌∙◌, sym, subst, arith}
use Rattle.std.specs.Prelude.{◌==◌}
use Rattle.std.specs.List.{AllByRecursion, list_any}
use Rattle.std.proofs.lemmas.Bool.{eq-eqb, ne_eqb, or_parts}
use Rattle.hv_word.specs.Storage.{page_count}
use Rattle.hv_word.specs.Words.{has}
use Rattle.hv_cpu.specs.Regs.{FitsHart, Regs}
use Rattle.hv_block.specs.Block.{pages_at, put_regs, regs_at}
use Rattle.hv_block.proofs.Blocks.{regs_alike}
use Rattle.hv_exec.specs.Act.{Done, act_of}
use Rattle.hv_exec.specs.Touched.{Touches}
use Rattle.hv_exec.specs.declared.touched.Touched.{Touched}
use Rattle.hv_map.specs.Chain.{map_along}
use Rattle.hv_map.specs.Held.{SamePage, SamePages}
use Rattle.hv_map.specs.Item.{Item}
use Rattle.hv_nest.specs.declared.notes.Note.{Note}
use Rattle.hv_nest.specs.Notes.{is_noted, undone}
use Rattle.hv_nest.proofs.Undone.{undone_at}
use Rattle.hv_cache.specs.Holding.{Entry, any_has_table, any_rests_on}
use Rattle.hv_cache.specs.Kept.{rests_on}
use Rattle.hv_fast.specs.Marked.{Marked, SameMarked, has_mark}
use Rattle.hv_fast.specs.Rides.{HasRidden, IsRidden, has_noted_mark, marked_by}

or_left : (a b : Bool) → a ≡ true → (a || b) ≡ true
or_left a b e = ap (λ (t : Bool). t || b) e

or_right : (a b : Bool) → b ≡ true → (a || b) ≡ true
or_right true b e = refl
or_right false b e = e

or_swap : (a b : Bool) → (a || b) ≡ true → (b || a) ≡ true
or_swap true b e = or_right b true refl
or_swap false b e = or_left b false e

-- a word of a page that passes a test isn't noted where no noted word's page passes it
not_noted : (P : ℕ → Bool) (g k : ℕ) (notes : List Note) → k < 1024 → P g ≡ true → list_any (λ (n : Note). P (n.at / 1024)) notes ≡ false → is_noted (1024 * g + k) notes ≡ false
not_noted P g k [] lt is none = refl
not_noted P g k (n ∷ notes) lt is none =
    let parts = or_parts (P (n.at / 1024)) (list_any (λ (x : Note). P (x.at / 1024)) notes) none in
    let ne : n.at ≢ 1024 * g + k =
    λ e.
    let page : n.at / 1024 ≡ g = omega (arith, e, lt) in
    let both : true ≡ false = sym is ∙ ap P (sym page) ∙ parts.0 in
    cc
    in
    ap (λ (t : Bool). t || is_noted (1024 * g + k) notes) (ne_eqb n.at (1024 * g + k) ne) ∙ not_noted P g k notes lt is parts.1

module _ (S T : List ℕ) (notes : List Note) (origin : undone T notes ≡ S) (P : ℕ → Bool) (none : list_any (λ (n : Note). P (n.at / 1024)) notes ≡ false) where
  same_page : (g : ℕ) → P g ≡ true → SamePage S T g
  same_page g is k lt =
      ap (λ (X : List ℕ). get_or X (1024 * g + k) 0) (sym origin) ∙ undone_at T notes (1024 * g + k) (not_noted P g k notes lt is none)

  same_pages : (gs : List ℕ) → ((g : ℕ) → has g gs ≡ true → P g ≡ true) → SamePages S T gs
  same_pages [] all = tt
  same_pages (g ∷ gs) all = (
    same_page g (all g (or_left (g == g) (has g gs) (eq-eqb g g refl))),
    same_pages gs (λ h in_rest. all h (or_right (h == g) (has h gs) in_rest)),
  )

  same_marked : (m : Marked) → ((g : ℕ) → has_mark m g ≡ true → P g ≡ true) → SameMarked S T m
  same_marked m all = record {
    tables = same_pages m.tables (λ g there. all g (or_left (has g m.tables) (has g m.blocks) there));
    blocks = same_pages m.blocks (λ g there. all g (or_right (has g m.tables) (has g m.blocks) there));
  }

  module _ (U : List ℕ) (g : ℕ) (q : Regs) (len : length S ≡ length T) (inside : g < page_count S) (fits : FitsHart q) (next : q.next < pages_at S g) (put : U ≡ put_regs T g q) where
    ridden_by : (m : Marked) → ((h : ℕ) → has_mark m h ≡ true → P h ≡ true) → has g m.tables ≡ false → IsRidden S T U m g q
    ridden_by m all apart = record {
      len = len;
      same = same_marked m all;
      there = inside;
      apart = apart;
      fits = fits;
      next = next;
      put = put;
    }

    entries_ridden : (es : List Entry) → ((h : ℕ) → any_rests_on h es ≡ true → P h ≡ true) → any_has_table g es ≡ false → AllByRecursion (λ (e : Entry). IsRidden S T U (marked_by e.1) g q) es
    entries_ridden [] all apart = tt
    entries_ridden (e ∷ es) all apart =
        let parts = or_parts (has g e.1.tables) (any_has_table g es) apart in (
          ridden_by (marked_by e.1)
              (λ h rests. all h (or_left (rests_on h e.1) (any_rests_on h es) (or_swap (has h e.1.tables) (has h e.1.blocks) rests)))
              parts.0,
          entries_ridden es (λ h rests. all h (or_right (rests_on h e.1) (any_rests_on h es) rests)) parts.1,
        )

-- the registers in a block that is marked stay where no noted word lies in a page on which something rests
regs_stay : (S T : List ℕ) (m : Marked) (es : List Entry) (notes : List Note) (g : ℕ)
    → undone T notes ≡ S
    → has_noted_mark m es notes ≡ false
    → has g m.blocks ≡ true
    → regs_at T g ≡ regs_at S g
regs_stay S T m es notes g origin none marked =
    sym (
    regs_alike S T g g
    (same_page S T notes origin (λ h. has_mark m h || any_rests_on h es) none g
    (or_left (has_mark m g) (any_rests_on g es) (or_right (has g m.tables) (has g m.blocks) marked)))
    )

-- so what an instruction touched of the registers at hand it touched of those in the block
pub touches_block : (S T : List ℕ) (m : Marked) (es : List Entry) (notes : List Note) (g : ℕ) (r q : Regs) (touched : Touched)
    → undone T notes ≡ S
    → has_noted_mark m es notes ≡ false
    → has g m.blocks ≡ true
    → regs_at S g ≡ r
    → Touches touched r q
    → Touches touched (regs_at T g) q
touches_block S T m es notes g r q touched origin none marked regs touches =
    subst (λ (x : Regs). Touches touched x q) (sym (regs_stay S T m es notes g origin none marked ∙ regs)) touches

-- the next is a page of the machine
pub next_below : (n l p : ℕ) → (n ≢ 0 → n < l) → l ≡ p → 0 < p → n < p
next_below zero l p below same some = omega (arith, some)
next_below (suc n) l p below same some = let lt : suc n < l = below (λ e. omega (arith, e)) in omega (arith, lt, same)

pub has_ridden : (S T U : List ℕ) (m : Marked) (es : List Entry) (items : List Item) (notes : List Note) (g : ℕ) (r q : Regs)
    → undone T notes ≡ S
    → length T ≡ length S
    → has_noted_mark m es notes ≡ false
    → has g m.tables ≡ false
    → any_has_table g es ≡ false
    → g < page_count S
    → FitsHart q
    → q.next < pages_at S g
    → U ≡ put_regs T g q
    → act_of S (map_along S items) 0 r ≡ Done T q
    → HasRidden S U m es items g r q
has_ridden S T U m es items notes g r q origin len none apart spared inside fits next put acts =
    let P : ℕ → Bool = λ h. has_mark m h || any_rests_on h es in
    record {
      after = T;
      acts = acts;
      marked =
          ridden_by S T notes origin P none U g q (sym len) inside fits next put m
          (λ h is. or_left (has_mark m h) (any_rests_on h es) is) apart;
      held =
          entries_ridden S T notes origin P none U g q (sym len) inside fits next put es
          (λ h is. or_right (has_mark m h) (any_rests_on h es) is) spared;
    }
