-- What a step at the end of the items leaves, once the registers are put back into the blocks on the way.
use Rattle.std.proofs.Common.{◌≡◌, ◌≢◌, ℕ, ◌+◌, ◌<◌, ◌≤◌, ◌⊎◌, inl, inr, Bool, true, false, cond, ◌==◌, List, [], ◌∷◌, length, refl, ap, ◌∙◌, sym, subst, arith}
use Rattle.std.proofs.lemmas.Bool.{cases_lt, eqb-false}
use Rattle.hv_word.specs.Storage.{word_at, page_count}
use Rattle.hv_cpu.specs.Regs.{Regs}
use Rattle.hv_store.specs.declared.access.Access.{Access}
use Rattle.hv_store.specs.declared.access.Refusal.{Refusal}
use Rattle.hv_block.specs.Block.{regs_at, put_regs, with_fault, access_word, IsOther}
use Rattle.hv_block.proofs.Blocks.{regs_alike}
use Rattle.hv_block.proofs.Words.{length-put_regs, put_other, regs_back}
use Rattle.hv_map.specs.Item.{Item}
use Rattle.hv_nest.specs.Step.{Stepped, Worked, Recalled, Faulted, Barred, idle, tell_of, put_back}
use Rattle.hv_nest.specs.Routing.{regs_along}
use Rattle.hv_whole.specs.Linked.{EachBlock, BlocksDiffer}
use Rattle.hv_whole.proofs.Each.{deep, deep_is}
use Rattle.hv_whole.proofs.Descend.{lifted}

-- the registers of the machine before the items, whose registers are r, where the last one's become c
unfoldable pub kept : List Item → Regs → Regs → Regs
kept [] c r = c
kept (x ∷ xs) c r = r

-- the storage T with the registers c in the last block, and in each block before it those that it had in S
unfoldable pub puts : List ℕ → List Item → List ℕ → Regs → List ℕ
puts S [] T c = T
puts S (x ∷ xs) T c = put_regs (puts S xs T c) x.block (kept xs c (regs_at S x.block))

pub lifted_worked : (S : List ℕ) (j : ℕ) (items : List Item) (r : Regs) (T : List ℕ) (c : Regs) → lifted S j items r (Worked T c) ≡ Worked (puts S items T c) (kept items c r)
unfolding lifted kept puts
lifted_worked S j [] r T c = refl
lifted_worked S j (x ∷ xs) r T c = ap (put_back S j r x.block) (lifted_worked S (j + 1) xs (regs_at S x.block) T c)

pub lifted_recalled : (S : List ℕ) (j : ℕ) (items : List Item) (r : Regs) (l : ℕ) (T : List ℕ) (c : Regs) → lifted S j items r (Recalled l T c) ≡ Recalled l (puts S items T c) (kept items c r)
unfolding lifted kept puts
lifted_recalled S j [] r l T c = refl
lifted_recalled S j (x ∷ xs) r l T c = ap (put_back S j r x.block) (lifted_recalled S (j + 1) xs (regs_at S x.block) l T c)

pub lifted_faulted : (S : List ℕ) (j : ℕ) (items : List Item) (r : Regs) (l cause address : ℕ) (a : Access) (T : List ℕ) (c : Regs) → lifted S j items r (Faulted l cause address a T c) ≡ Faulted l cause address a (puts S items T c) (kept items c r)
unfolding lifted kept puts
lifted_faulted S j [] r l cause address a T c = refl
lifted_faulted S j (x ∷ xs) r l cause address a T c = ap (put_back S j r x.block) (lifted_faulted S (j + 1) xs (regs_at S x.block) l cause address a T c)

-- a machine at a level below k was told of a fault
abbrev pub LowFault : ℕ → Stepped → Type 0
LowFault k (Worked S r) = ⊥
LowFault k (Recalled l S r) = ⊥
LowFault k (Faulted l c address a S r) = l < k
LowFault k (Barred e) = ⊥

put_low : (S : List ℕ) (j k : ℕ) (r : Regs) (g : ℕ) (X : Stepped) → LowFault k X → LowFault k (put_back S j r g X)
put_low S j k r g (Worked T q) h = absurd h
put_low S j k r g (Recalled l T q) h = absurd h
put_low S j k r g (Faulted l c a b T q) h = h
put_low S j k r g (Barred e) h = absurd h

told_low : (S : List ℕ) (j k : ℕ) (r : Regs) (g : ℕ) (e : Refusal) → j < k → (e.level < j + 1) ⊎ (k ≤ e.level)
    → LowFault k (tell_of S j r g e) ⊎ ((tell_of S j r g e ≡ Barred e) × ((e.level < j) ⊎ (k ≤ e.level)))
told_low S j k r g e lt side = go (e.level == j) refl
  where
    still : e.level ≢ j → (e.level < j + 1) ⊎ (k ≤ e.level) → (e.level < j) ⊎ (k ≤ e.level)
    still ne (inl h) = inl (omega arith)
    still ne (inr h) = inr h

    go : (b : Bool) → (e.level == j) ≡ b
        → LowFault k (cond b (Faulted j e.cause e.address e.access (with_fault S g e.cause e.address (access_word e.access)) (idle r)) (Barred e))
        ⊎ ((cond b (Faulted j e.cause e.address e.access (with_fault S g e.cause e.address (access_word e.access)) (idle r)) (Barred e) ≡ Barred e) × ((e.level < j) ⊎ (k ≤ e.level)))
    go true is = inl lt
    go false is = inr (refl, still (eqb-false e.level j is) side)

-- a refusal is told to a machine on the way, or is for one before the items or at their end
pub lifted_barred : (S : List ℕ) (j : ℕ) (items : List Item) (r : Regs) (e : Refusal)
    → LowFault (deep j items) (lifted S j items r (Barred e))
    ⊎ ((lifted S j items r (Barred e) ≡ Barred e) × ((e.level < j) ⊎ (deep j items ≤ e.level)))
unfolding deep lifted
lifted_barred S j [] r e = inr (refl, cases_lt e.level j)
lifted_barred S j (x ∷ xs) r e = by (lifted_barred S (j + 1) xs (regs_at S x.block) e)
  where
    lt : j < deep (j + 1) xs
    lt = omega (arith, deep_is (j + 1) xs)

    by : LowFault (deep (j + 1) xs) (lifted S (j + 1) xs (regs_at S x.block) (Barred e))
        ⊎ ((lifted S (j + 1) xs (regs_at S x.block) (Barred e) ≡ Barred e) × ((e.level < j + 1) ⊎ (deep (j + 1) xs ≤ e.level)))
        → LowFault (deep (j + 1) xs) (put_back S j r x.block (lifted S (j + 1) xs (regs_at S x.block) (Barred e)))
        ⊎ ((put_back S j r x.block (lifted S (j + 1) xs (regs_at S x.block) (Barred e)) ≡ Barred e) × ((e.level < j) ⊎ (deep (j + 1) xs ≤ e.level)))
    by (inl low) = inl (put_low S j (deep (j + 1) xs) r x.block (lifted S (j + 1) xs (regs_at S x.block) (Barred e)) low)
    by (inr (is, side)) =
        subst (λ (X : Stepped). LowFault (deep (j + 1) xs) (put_back S j r x.block X) ⊎ ((put_back S j r x.block X ≡ Barred e) × ((e.level < j) ⊎ (deep (j + 1) xs ≤ e.level))))
        (sym is) (told_low S j (deep (j + 1) xs) r x.block e lt side)

-- putting registers back changes no length
pub length-puts : (S : List ℕ) (items : List Item) (T : List ℕ) (c : Regs) → length (puts S items T c) ≡ length T
unfolding puts
length-puts S [] T c = refl
length-puts S (x ∷ xs) T c = length-put_regs (puts S xs T c) x.block (kept xs c (regs_at S x.block)) ∙ length-puts S xs T c

-- and no word but those of registers in the blocks
pub puts_other : (S : List ℕ) (items : List Item) (T : List ℕ) (c : Regs) (g w : ℕ) → w < 1024 → EachBlock (λ b. (g ≢ b) ⊎ IsOther w) items → word_at (puts S items T c) g w ≡ word_at T g w
unfolding puts
puts_other S [] T c g w h each = refl
puts_other S (x ∷ xs) T c g w h each =
    put_other (puts S xs T c) x.block (kept xs c (regs_at S x.block)) g w h each.0 ∙ puts_other S xs T c g w h each.1

-- the registers of other blocks
apart_regs : (X : List ℕ) (g : ℕ) (q : Regs) (xs : List Item) (r : Regs) → EachBlock (λ b. g ≢ b) xs → regs_along (put_regs X g q) xs r ≡ regs_along X xs r
apart_regs X g q [] r each = refl
apart_regs X g q (y ∷ ys) r each =
    apart_regs X g q ys (regs_at (put_regs X g q) y.block) each.1
    ∙ ap (regs_along X ys) (regs_alike (put_regs X g q) X y.block y.block (λ w h. put_other X g q y.block w h (inl (λ e. each.0 (sym e)))))

-- the machine at the end of the items has the registers c then
pub puts_own : (S : List ℕ) (items : List Item) (T : List ℕ) (c r : Regs) → BlocksDiffer items → EachBlock (λ b. b < page_count T) items → regs_along (puts S items T c) items (kept items c r) ≡ c
unfolding puts kept
puts_own S [] T c r differ inside = refl
puts_own S (x ∷ xs) T c r differ inside =
    let within : x.block < page_count (puts S xs T c) = omega (arith, inside.0, length-puts S xs T c) in
    ap (regs_along (put_regs (puts S xs T c) x.block (kept xs c (regs_at S x.block))) xs) (regs_back (puts S xs T c) x.block (kept xs c (regs_at S x.block)) within)
    ∙ apart_regs (puts S xs T c) x.block (kept xs c (regs_at S x.block)) xs (kept xs c (regs_at S x.block)) differ.0
    ∙ puts_own S xs T c (regs_at S x.block) differ.1 inside.1
