-- The machines on the path that a hart runs are found one by one.
use Rattle.std.proofs.Common.{◌≡◌, ◌≢◌, ℕ, ◌+◌, ◌<◌, ◌≤◌, true, false, List, [], ◌∷◌, ◌++◌, length, Option, Some, None, is_some, refl, ap, ◌∙◌, sym, subst, arith, length-append}
use Rattle.hv_limits.specs.Limits.{depth_limit}
use Rattle.hv_word.specs.Storage.{page_count}
use Rattle.hv_cpu.specs.Regs.{Regs}
use Rattle.hv_csr.specs.Interrupts.{pending_of}
use Rattle.hv_block.specs.declared.Block.{Block}
use Rattle.hv_block.specs.Block.{regs_at}
use Rattle.hv_map.specs.Chain.{map_along}
use Rattle.hv_map.specs.declared.found.Found.TheVariants.{Child}
use Rattle.hv_map.specs.Found.{found_on, item_of}
use Rattle.hv_map.specs.Held.{IsPlaced, Placed, Nexts, IsPin}
use Rattle.hv_map.specs.Item.{Item}
use Rattle.hv_map.specs.Gathered.{Listed, Gathered, bare_gathered_map, gathered_map, gathered_along, gathered_from, pages_read, with_pages}
use Rattle.hv_map.proofs.Adding.{lists_keep, lists_all, room_before}
use Rattle.hv_map.proofs.Holding.{child_is_placed}
use Rattle.hv_map.proofs.Pins.{child_there}
use Rattle.hv_map.proofs.GatheredMaps.{slots-along}
use Rattle.hv_nest.proofs.Follows.{child_regs, length-map_new}
use Rattle.hv_nest.proofs.Rows.{chain_next}
use Rattle.hv_fast.specs.Following.{Leads}
use Rattle.hv_fast.specs.Rides.{Quiet}

placed_keeps : (S : List ℕ) (N : List Gathered) (p : Listed) (gs : List ℕ) (j : ℕ) (xs : List Item) → Placed S N p j xs → Placed S N (with_pages p gs) j xs
placed_keeps S N p gs j [] h = tt
placed_keeps S N p gs j (x ∷ xs) h = (
  record {
    gathered = h.0.gathered;
    found = h.0.found;
    opens = h.0.opens;
    listed = lists_keep p gs h.0.gathered.pages h.0.listed;
    says = h.0.says;
  },
  placed_keeps S (gathered_map S N j x.pages x.table x.version) p gs (j + 1) xs h.1,
)

placed_snoc : (S : List ℕ) (N : List Gathered) (p : Listed) (j : ℕ) (xs : List Item) (x : Item) → Placed S N p j xs → IsPlaced S (gathered_from S N j xs) p x → Placed S N p j (xs ++ x ∷ [])
unfolding gathered_from
placed_snoc S N p j [] x h new = (new, tt)
placed_snoc S N p j (y ∷ ys) x h new =
    (h.0, placed_snoc S (gathered_map S N j y.pages y.table y.version) p (j + 1) ys x h.1 new)

leads_snoc : (S : List ℕ) (r q : Regs) (xs : List Item) (x : Item) → Leads S r xs q → q.next ≡ x.syllable → 0 < x.syllable → Leads S r (xs ++ x ∷ []) (regs_at S x.block)
leads_snoc S r q [] x h next some = (ap (λ (p : Regs). p.next) h ∙ next, some, refl)
leads_snoc S r q (y ∷ ys) x h next some = (h.0, h.1, leads_snoc S (regs_at S y.block) q ys x h.2 next some)

leads_end : (S : List ℕ) (r q : Regs) (xs : List Item) → Leads S r xs q → q.next ≡ 0 → Nexts S r xs
leads_end S r q [] h e = ap (λ (p : Regs). p.next) h ∙ e
leads_end S r q (y ∷ ys) h e = ((h.0, h.1), leads_end S (regs_at S y.block) q ys h.2 e)

quiet_snoc : (S : List ℕ) (r q : Regs) (xs : List Item) (x : Item) → Leads S r xs q → Quiet S r xs → pending_of q ≡ None → Quiet S r (xs ++ x ∷ [])
quiet_snoc S r q [] x h quiet none = (ap pending_of h ∙ none, tt)
quiet_snoc S r q (y ∷ ys) x h quiet none =
    (quiet.0, quiet_snoc S (regs_at S y.block) q ys x h.2 quiet.1 none)

-- What holds of the machines that were found so far, from the registers r on to the registers q of the last.
pub record SoFar (S : List ℕ) (r q : Regs) (xs : List Item) (p : Listed) : Type 0 where
  pub short : length xs ≤ depth_limit
  pub placed : p.full ≡ false → Placed S (bare_gathered_map (page_count S)) p 0 xs
  pub leads : Leads S r xs q
  pub quiet : Quiet S r xs
  pub next : q.next ≢ 0 → q.next < length (map_along S xs)

pub so_far_none : (S : List ℕ) (r : Regs) (p : Listed) (xs : List Item) → xs ≡ [] → (r.next ≢ 0 → r.next < page_count S) → SoFar S r r xs p
so_far_none S r p [] e next = record {
  short = omega arith;
  placed = λ _. tt;
  leads = refl;
  quiet = tt;
  next = λ some. subst (λ (n : ℕ). r.next < n) (sym (length-map_new S)) (next some);
}
so_far_none S r p (x ∷ xs) e next = absurd (let f : x ∷ xs ≡ [] = e in cc)

pub so_far_more : (S : List ℕ) (r q : Regs) (xs ys : List Item) (p o : Listed) (s g : ℕ) (b : Block)
    → SoFar S r q xs p
    → length xs < depth_limit
    → s ≡ q.next
    → s ≢ 0
    → pending_of q ≡ None
    → Some (Child g b) ≡ found_on S (map_along S xs) s
    → o ≡ with_pages p (pages_read (gathered_along S xs) s)
    → ys ≡ xs ++ item_of s g b ∷ []
    → b.cpu.next < b.pages
    → SoFar S r b.cpu ys o
unfolding gathered_along
so_far_more S r q xs ys p o s g b far room is some none found listed longer next = record {
  short =
      let more : length ys ≡ length xs + 1 = ap length longer ∙ length-append xs (item_of s g b ∷ []) in
      omega arith;
  placed = λ space.
      subst (λ (zs : List Item). Placed S (bare_gathered_map (page_count S)) o 0 zs) (sym longer)
      (subst (λ (l : Listed). Placed S (bare_gathered_map (page_count S)) l 0 (xs ++ x ∷ [])) (sym listed)
      (placed_more (ap (λ (l : Listed). l.full) (sym listed) ∙ space)));
  leads =
      subst (λ (zs : List Item). Leads S r zs b.cpu) (sym longer)
      (subst (λ (k : Regs). Leads S r (xs ++ x ∷ []) k) regs (leads_snoc S r q xs x far.leads (sym is) (positive s some)));
  quiet = subst (Quiet S r) (sym longer) (quiet_snoc S r q xs x far.leads far.quiet none);
  next = chain_next S xs ys s g b next longer;
}
  where
    x : Item
    x = item_of s g b

    regs : regs_at S g ≡ b.cpu
    regs = child_regs S (map_along S xs) s g b found

    full : Listed
    full = with_pages p (pages_read (gathered_along S xs) s)

    positive : (k : ℕ) → k ≢ 0 → 0 < k
    positive k h = omega arith

    new : full.full ≡ false → IsPlaced S (gathered_from S (bare_gathered_map (page_count S)) 0 xs) full x
    new space =
        child_is_placed S (gathered_along S xs) (map_along S xs) full s x (slots-along S xs)
        (child_there S (map_along S xs) s g b found)
        (lists_all p (pages_read (gathered_along S xs) s) space)

    placed_more : full.full ≡ false → Placed S (bare_gathered_map (page_count S)) full 0 (xs ++ x ∷ [])
    placed_more space =
        placed_snoc S (bare_gathered_map (page_count S)) full 0 xs x
        (placed_keeps S (bare_gathered_map (page_count S)) p (pages_read (gathered_along S xs) s) 0 xs (far.placed (room_before p (pages_read (gathered_along S xs) s) space)))
        (new space)

pub so_far_end : (S : List ℕ) (r q : Regs) (xs : List Item) (p : Listed) → SoFar S r q xs p → q.next ≡ 0 → p.full ≡ false → IsPin S r xs p
so_far_end S r q xs p far e room = record {
  short = far.short;
  placed = far.placed room;
  nexts = leads_end S r q xs far.leads e;
}

-- a hart for which no interrupt is found has none to take
pub none_found : (o p : Option ℕ) → o ≡ p → is_some o ≡ false → p ≡ None
none_found None p e none = sym e
none_found (Some k) p e none = absurd (let f : true ≡ false = none in cc)
