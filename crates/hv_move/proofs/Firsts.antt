-- The first page that can't be read.
use Rattle.std.proofs.Common.{◌≡◌, ℕ, zero, suc, ◌+◌, ◌<◌, Bool, true, false, not, cond, List, ◌∷◌, length, Some, None, refl, ap, ◌∙◌, sym, arith}
use Rattle.std.specs.List.{find, range_with_len}
use Rattle.hv_store.specs.declared.access.Slot.{Slot}
use Rattle.hv_move.specs.Saved.{can_read, first_absent}

-- the first number of a range that passes a test
pub find_first : (p : ℕ → Bool) (a n k : ℕ) → k < n → ((m : ℕ) → m < k → p (a + m) ≡ false) → p (a + k) ≡ true → find p (range_with_len a n) ≡ Some (a + k)
find_first p a zero k lt before here = absurd (omega arith)
find_first p a (suc n) zero lt before here =
    let same : a + 0 ≡ a = omega arith in
    ap (λ (b : Bool). cond b (Some a) (find p (range_with_len (a + 1) n))) (ap p (sym same) ∙ here) ∙ ap Some (sym same)
find_first p a (suc n) (suc k) lt before here =
    let start : a + 0 ≡ a = omega arith in
    let next : a + 1 + k ≡ a + suc k = omega arith in
    ap (λ (b : Bool). cond b (Some a) (find p (range_with_len (a + 1) n))) (ap p (sym start) ∙ before 0 (omega arith))
    ∙ find_first p (a + 1) n k (omega arith) (λ m low. ap p (let e : a + 1 + m ≡ a + suc m = omega arith in e) ∙ before (suc m) (omega arith)) (ap p next ∙ here)
    ∙ ap Some next

pub find_none : (p : ℕ → Bool) (a n : ℕ) → ((m : ℕ) → m < n → p (a + m) ≡ false) → find p (range_with_len a n) ≡ None
find_none p a zero none = refl
find_none p a (suc n) none =
    let start : a + 0 ≡ a = omega arith in
    ap (λ (b : Bool). cond b (Some a) (find p (range_with_len (a + 1) n))) (ap p (sym start) ∙ none 0 (omega arith))
    ∙ find_none p (a + 1) n (λ m low. ap p (let e : a + 1 + m ≡ a + suc m = omega arith in e) ∙ none (suc m) (omega arith))

pub absent_here : (F : List Slot) (k : ℕ) → k < length F → ((m : ℕ) → m < k → can_read F m ≡ true) → can_read F k ≡ false → Some k ≡ first_absent F
absent_here F k lt before here =
    let e : 0 + k ≡ k = omega arith in
    sym (find_first (λ i. not (can_read F i)) 0 (length F) k lt (λ m low. ap not (ap (can_read F) (let z : 0 + m ≡ m = omega arith in z) ∙ before m low)) (ap not (ap (can_read F) e ∙ here)) ∙ ap Some e)

pub absent_nowhere : (F : List Slot) → ((m : ℕ) → m < length F → can_read F m ≡ true) → None ≡ first_absent F
absent_nowhere F all =
    sym (find_none (λ i. not (can_read F i)) 0 (length F) (λ m low. ap not (ap (can_read F) (let z : 0 + m ≡ m = omega arith in z) ∙ all m low)))

-- nothing is found in front of a list
head_passes : (p : ℕ → Bool) (x : ℕ) (xs : List ℕ) → find p (x ∷ xs) ≡ None → (p x ≡ false) × (find p xs ≡ None)
head_passes p x xs e = go (p x) refl e
  where
    go : (b : Bool) → p x ≡ b → cond b (Some x) (find p xs) ≡ None → (p x ≡ false) × (find p xs ≡ None)
    go true is f = absurd (let g : Some x ≡ None = f in cc)
    go false is f = (is, f)

none_found : (p : ℕ → Bool) (a n m : ℕ) → find p (range_with_len a n) ≡ None → m < n → p (a + m) ≡ false
none_found p a zero m e lt = absurd (omega arith)
none_found p a (suc n) zero e lt =
    let same : a + 0 ≡ a = omega arith in
    ap p same ∙ (head_passes p a (range_with_len (a + 1) n) e).0
none_found p a (suc n) (suc m) e lt =
    let next : a + suc m ≡ a + 1 + m = omega arith in
    ap p next ∙ none_found p (a + 1) n m (head_passes p a (range_with_len (a + 1) n) e).1 (omega arith)

-- where none is absent, each can be read
pub all_read : (F : List Slot) → first_absent F ≡ None → (m : ℕ) → m < length F → can_read F m ≡ true
all_read F e m low =
    let at : 0 + m ≡ m = omega arith in
    ap (can_read F) (sym at) ∙ back (can_read F (0 + m)) (none_found (λ i. not (can_read F i)) 0 (length F) m e low)
  where
    back : (b : Bool) → not b ≡ false → b ≡ true
    back true h = refl
    back false h = absurd (let f : true ≡ false = h in cc)
