-- What a machine asks of its storage, as it is answered in the bare storage and in the storage that the machine sees.
use Rattle.std.proofs.Common.{◌≡◌, ℕ, ◌+◌, ◌<◌, inl, inr, List, Option, Some, None, Result, Ok, Err, refl, ap, ◌∙◌, sym, subst, slice_get, lit<}
use Rattle.std.specs.Option.{option_map}
use Rattle.hv_word.specs.declared.Lane.{Lane}
use Rattle.hv_word.specs.Words.{lane_with}
use Rattle.hv_word.specs.Storage.{word_at, with_word}
use Rattle.hv_store.specs.declared.access.Access.{Access}
use Rattle.hv_store.specs.declared.access.Access.TheVariants.{Write}
use Rattle.hv_store.specs.declared.access.Refusal.{Refusal}
use Rattle.hv_store.specs.declared.access.Slot.{Slot}
use Rattle.hv_store.specs.declared.access.Way.{Way}
use Rattle.hv_store.specs.declared.access.Way.TheVariants.{Open, Shut}
use Rattle.hv_store.specs.Access.{way_for, refused, read_through, get_at, get, write_through, put_at, set, without_fault, clear_through, cleared_at, cleared}
use Rattle.hv_map.specs.Carried.{WayLike, SlotLike, MapLike, ShutBelow}
use Rattle.hv_map.specs.Compose.{reading}
use Rattle.hv_nest.specs.Simulation.{Sees, Simulation, deepened}

-- the first is refused by an ancestor, or both are refused, with levels raised by k, or Q holds of what both give
pub data AnswerLike {A B : Type 0} (k : ℕ) (Q : A → B → Type 0) : Result A Refusal → Result B Refusal → Type 0 where
  answer_further_out : (e : Refusal) (y : Result B Refusal) → e.level < k → AnswerLike k Q (Err e) y
  both_answer : (a : A) (b : B) → Q a b → AnswerLike k Q (Ok a) (Ok b)
  both_refuse : (e : Refusal) → AnswerLike k Q (Err (deepened k e)) (Err e)

-- none is the answer of a page that isn't there
pub data AskLike {A B : Type 0} (k : ℕ) (Q : A → B → Type 0) : Option (Result A Refusal) → Option (Result B Refusal) → Type 0 where
  both_outside : AskLike k Q None None
  both_inside : (x : Result A Refusal) (y : Result B Refusal) → AnswerLike k Q x y → AskLike k Q (Some x) (Some y)

pub refused_level : (l c p : ℕ) (w : Option ℕ) (n : ℕ) (a : Access) → (refused l c p w n a).level ≡ l
refused_level l c p None n a = refl
refused_level l c p (Some w) n a = refl

pub refused_raised : (k l c p : ℕ) (w : Option ℕ) (n : ℕ) (a : Access) → refused (l + k) c p w n a ≡ deepened k (refused l c p w n a)
refused_raised k l c p None n a = refl
refused_raised k l c p (Some w) n a = refl

pub refused_below : (k l c p : ℕ) (w : Option ℕ) (n : ℕ) (a : Access) → l < k → (refused l c p w n a).level < k
refused_below k l c p w n a h = subst (λ (m : ℕ). m < k) (sym (refused_level l c p w n a)) h

-- a page that F opens for reading
pub opened : (F : List Slot) (y x : ℕ) (s : Slot) → slice_get F y ≡ Some s → s.read ≡ Open x → reading F y ≡ Some (Open x)
opened F y x s is e = ap (option_map (λ (q : Slot). q.read)) is ∙ ap Some e

-- One ask, f of a way in S and g of one in T, for word n and the access b, through the ways for the access a.
module _ {A B : Type 0} (k : ℕ) (F : List Slot) (below : ShutBelow k F) (Q : A → B → Type 0) (f : Way → Result A Refusal) (g : Way → Result B Refusal) (n : ℕ) (a b : Access)
    (f_shut : (l c p : ℕ) (w : Option ℕ) → f (Shut l c p w) ≡ Err (refused l c p w n b))
    (g_shut : (l c p : ℕ) (w : Option ℕ) → g (Shut l c p w) ≡ Err (refused l c p w n b))
    (both_open : (y x : ℕ) (s : Slot) → slice_get F y ≡ Some s → way_for s a ≡ Open x → AnswerLike k Q (f (Open x)) (g (Open y)))
  where
    stopped_like : (l c p : ℕ) (w : Option ℕ) (y : Result B Refusal) → l < k → AnswerLike k Q (f (Shut l c p w)) y
    stopped_like l c p w y h =
        subst (λ (x : Result A Refusal). AnswerLike k Q x y) (sym (f_shut l c p w))
        (answer_further_out (refused l c p w n b) y (refused_below k l c p w n b h))

    raised_like : (l c p : ℕ) (w : Option ℕ) → AnswerLike k Q (f (Shut (l + k) c p w)) (g (Shut l c p w))
    raised_like l c p w =
        subst (λ (x : Result A Refusal). AnswerLike k Q x (g (Shut l c p w))) (sym (f_shut (l + k) c p w ∙ ap Err (refused_raised k l c p w n b)))
        (subst (λ (y : Result B Refusal). AnswerLike k Q (Err (deepened k (refused l c p w n b))) y) (sym (g_shut l c p w)) (both_refuse (refused l c p w n b)))

    opened_like : (y : ℕ) (s : Slot) → slice_get F y ≡ Some s → (way : Way) → way_for s a ≡ way → AnswerLike k Q (f way) (g (Open y))
    opened_like y s is (Open x) e = both_open y x s is e
    opened_like y s is (Shut l c p w) e = stopped_like l c p w (g (Open y)) (below y s a l c p w is e)

    pub through_like : (h w : Way) → WayLike k F a h w → AnswerLike k Q (f h) (g w)
    through_like (Open x) w (inl e) = absurd e
    through_like (Shut l c p v) w (inl e) = stopped_like l c p v (g w) e
    through_like h (Open y) (inr e) =
        subst (λ (way : Way). AnswerLike k Q (f way) (g (Open y))) (sym e.2) (opened_like y e.0 e.1 (way_for e.0 a) refl)
    through_like h (Shut l c p w) (inr e) =
        subst (λ (way : Way). AnswerLike k Q (f way) (g (Shut l c p w))) (sym e) (raised_like l c p w)

module _ (k : ℕ) (F : List Slot) (R : List ℕ → List ℕ → Type 0) (sim : Simulation k F R) (S T : List ℕ) (related : R S T) where
  sees : Sees k F S T
  sees = sim.sees S T related

  same_read : (y x : ℕ) (s : Slot) (a : Access) → slice_get F y ≡ Some s → way_for s a ≡ Open x → s.read ≡ Open x
  same_read y x s a is e = sees.same y s a x is e

  read_like : (n : ℕ) (a : Access) → n < 1024 → (y x : ℕ) (s : Slot) → slice_get F y ≡ Some s → way_for s a ≡ Open x → AnswerLike k (λ (u v : ℕ). u ≡ v) (read_through S (Open x) n a) (read_through T (Open y) n a)
  read_like n a lt y x s is e =
      both_answer (word_at S x n) (word_at T y n) (sees.agree y x n s is (same_read y x s a is e) lt)

  write_like : (n : ℕ) (lane : Lane) (v : ℕ) → n < 1024 → (y x : ℕ) (s : Slot) → slice_get F y ≡ Some s → way_for s Write ≡ Open x → AnswerLike k R (write_through S (Open x) n lane v) (write_through T (Open y) n lane v)
  write_like n lane v lt y x s is e =
      let read : s.read ≡ Open x = same_read y x s Write is e in
      let word : word_at T y n ≡ word_at S x n = sym (sees.agree y x n s is read lt) in
      both_answer (with_word S x n (lane_with (word_at S x n) lane v)) (with_word T y n (lane_with (word_at T y n) lane v))
      (subst (λ (u : ℕ). R (with_word S x n (lane_with (word_at S x n) lane v)) (with_word T y n (lane_with u lane v))) (sym word)
      (sim.write S T y x n (lane_with (word_at S x n) lane v) related (opened F y x s is read) lt))

  without_fault_like : (y x : ℕ) → reading F y ≡ Some (Open x) → R (without_fault S x) (without_fault T y)
  without_fault_like y x open_read =
      sim.write (with_word (with_word S x 72 0) x 73 0) (with_word (with_word T y 72 0) y 73 0) y x 74 0
      (sim.write (with_word S x 72 0) (with_word T y 72 0) y x 73 0
      (sim.write S T y x 72 0 related open_read (lit< tt)) open_read (lit< tt)) open_read (lit< tt)

  clear_like : (y x : ℕ) (s : Slot) → slice_get F y ≡ Some s → way_for s Write ≡ Open x → AnswerLike k R (clear_through S (Open x)) (clear_through T (Open y))
  clear_like y x s is e =
      both_answer (without_fault S x) (without_fault T y) (without_fault_like y x (opened F y x s is (same_read y x s Write is e)))

  module _ (H G : List Slot) (like : MapLike k F H G) where
    pub got_like : (page n : ℕ) (a : Access) → n < 1024 → AskLike k (λ (u v : ℕ). u ≡ v) (get S H page n a) (get T G page n a)
    got_like page n a lt = by (slice_get H page) (slice_get G page) (like page)
      where
        by : (o p : Option Slot) → SlotLike k F o p → AskLike k (λ (u v : ℕ). u ≡ v) (get_at S o n a) (get_at T p n a)
        by None None e = both_outside
        by None (Some g) e = absurd e
        by (Some h) None e = absurd e
        by (Some h) (Some g) e =
            both_inside (read_through S (way_for h a) n a) (read_through T (way_for g a) n a)
            (through_like k F sees.below (λ (u v : ℕ). u ≡ v) (λ (way : Way). read_through S way n a) (λ (way : Way). read_through T way n a) n a a
            (λ l c p w. refl) (λ l c p w. refl) (read_like n a lt) (way_for h a) (way_for g a) (e a))

    pub put_like : (page n : ℕ) (lane : Lane) (v : ℕ) → n < 1024 → AskLike k R (set S H page n lane v) (set T G page n lane v)
    put_like page n lane v lt = by (slice_get H page) (slice_get G page) (like page)
      where
        by : (o p : Option Slot) → SlotLike k F o p → AskLike k R (put_at S o n lane v) (put_at T p n lane v)
        by None None e = both_outside
        by None (Some g) e = absurd e
        by (Some h) None e = absurd e
        by (Some h) (Some g) e =
            both_inside (write_through S h.write n lane v) (write_through T g.write n lane v)
            (through_like k F sees.below R (λ (way : Way). write_through S way n lane v) (λ (way : Way). write_through T way n lane v) n Write Write
            (λ l c p w. refl) (λ l c p w. refl) (write_like n lane v lt) h.write g.write (e Write))

    pub cleared_like : (page : ℕ) → AskLike k R (cleared S H page) (cleared T G page)
    cleared_like page = by (slice_get H page) (slice_get G page) (like page)
      where
        by : (o p : Option Slot) → SlotLike k F o p → AskLike k R (cleared_at S o) (cleared_at T p)
        by None None e = both_outside
        by None (Some g) e = absurd e
        by (Some h) None e = absurd e
        by (Some h) (Some g) e =
            both_inside (clear_through S h.write) (clear_through T g.write)
            (through_like k F sees.below R (λ (way : Way). clear_through S way) (λ (way : Way). clear_through T way) 72 Write Write
            (λ l c p w. refl) (λ l c p w. refl) clear_like h.write g.write (e Write))
