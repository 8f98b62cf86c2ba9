-- The bare machine itself, watched.
use Rattle.std.proofs.Common.{◌≡◌, ◌≢◌, ℕ, zero, suc, ◌+◌, ◌*◌, ◌/◌, ◌%◌, ◌<◌, Bool, true, false, not, ◌&&◌, List, [], ◌∷◌, length, map, refl, ap, ◌∙◌, sym, subst, arith, get_or}
use Rattle.std.specs.Prelude.{◌||◌}
use Rattle.std.specs.List.{range_with_len}
use Rattle.std.proofs.lemmas.Bool.{ne_eqb}
use Rattle.std.proofs.lemmas.List.{ext_get_or}
use Rattle.hv_word.specs.Storage.{page_count}
use Rattle.hv_store.specs.declared.access.Slot.{Slot}
use Rattle.hv_store.specs.Access.{identity, open_at}
use Rattle.hv_store.proofs.Identity.{length-identity, slice_get-identity}
use Rattle.hv_word.specs.Words.{has}
use Rattle.hv_map.specs.Apart.{are_distinct, open_pages, tables_along, is_apart}
use Rattle.hv_map.specs.Chain.{along, machines, map_along, pin_of}
use Rattle.hv_map.specs.Seen.{seen}
use Rattle.hv_map.proofs.Views.{length-seen, word_at-seen}
use Rattle.hv_nest.specs.State.{State}
use Rattle.hv_nest.specs.Move.{Move, state_after, last_of}
use Rattle.hv_nest.specs.Watched.{Tally, no_tally, tally_of, foot}
use Rattle.hv_nest.specs.Bare.{alone, bare_of}
use Rattle.hv_whole.specs.Whole.{regs_of, Alike, AreMasked, WholeRunLaw}
use Rattle.hv_whole.proofs.Lengths.{move_long}
use Rattle.hv_whole.proofs.Readings.{same_storage}

-- its pages are all different
has_not : (b a n : ℕ) → b < a → has b (range_with_len a n) ≡ false
has_not b a zero h = refl
has_not b a (suc n) h =
    let ne : b ≢ a = omega arith in
    ap (λ (t : Bool). t || has b (range_with_len (a + 1) n)) (ne_eqb b a ne) ∙ has_not b (a + 1) n (omega arith)

range_distinct : (a n : ℕ) → are_distinct (range_with_len a n) ≡ true
unfolding are_distinct
range_distinct a zero = refl
range_distinct a (suc n) =
    ap (λ (t : Bool). not t && are_distinct (range_with_len (a + 1) n)) (has_not a (a + 1) n (omega arith)) ∙ range_distinct (a + 1) n

opens_range : (a n : ℕ) → open_pages (map open_at (range_with_len a n)) ≡ range_with_len a n
opens_range a zero = refl
opens_range a (suc n) = ap (λ (xs : List ℕ). a ∷ xs) (opens_range (a + 1) n)

root_apart : (S : List ℕ) → is_apart S [] ≡ true
unfolding tables_along map_along along identity
root_apart S = ap are_distinct (opens_range 0 (page_count S)) ∙ range_distinct 0 (page_count S)

-- it sees all
pub root_sees : (S : List ℕ) → length S ≡ 1024 * page_count S → seen S (map_along S []) ≡ S
unfolding map_along along
root_sees S whole = ext_get_or 0 (seen S I) S (sym same) at
  where
    I : List Slot
    I = identity (page_count S)

    same : length S ≡ length (seen S (identity (page_count S)))
    same = whole ∙ ap (λ (n : ℕ). 1024 * n) (sym (length-identity (page_count S))) ∙ sym (length-seen S (identity (page_count S)))

    at : (a : ℕ) → a < length (seen S (identity (page_count S))) → get_or (seen S (identity (page_count S))) a 0 ≡ get_or S a 0
    at a h =
        let size : length S ≡ length (seen S (identity (page_count S))) = same in
        let page : a / 1024 < page_count S = omega (arith, whole, size, h) in
        let word : a % 1024 < 1024 = omega arith in
        let place : 1024 * (a / 1024) + a % 1024 ≡ a = omega arith in
        ap (λ (n : ℕ). get_or (seen S (identity (page_count S))) n 0) (sym place)
        ∙ word_at-seen S (identity (page_count S)) (a / 1024) (a / 1024) (a % 1024) (open_at (a / 1024)) (slice_get-identity (page_count S) (a / 1024) page) refl word
        ∙ ap (λ (n : ℕ). get_or S n 0) place

-- a run changes no length
pub run_long : (st : State) (moves : List Move) → length (last_of st moves).storage ≡ length st.storage
unfolding last_of
run_long st [] = refl
run_long st (move ∷ moves) = run_long (state_after st move) moves ∙ (move_long st move).storage

pub root_run : WholeRunLaw → (start : State) (moves : List Move) (t : Tally) → 0 < length start.harts → AreMasked moves → length start.storage ≡ 1024 * page_count start.storage → t ≡ tally_of 0 [] [] (foot start.storage []) start moves no_tally → t.touched ≡ false
    → bare_of start.storage (regs_of 0 start) t.changes t.count ≡ alone (last_of start moves).storage (regs_of 0 (last_of start moves))
unfolding pin_of machines map_along along
root_run law start moves t there masked whole is untouched =
    λ i. record { storage = storage i; harts = alike.regs i }
  where
    bare : State
    bare = bare_of start.storage (regs_of 0 start) t.changes t.count

    alike : Alike 0 [] (identity (page_count start.storage)) (last_of start moves) (bare_of start.storage (regs_of 0 start) t.changes t.count)
    alike =
        subst (λ (T : List ℕ). Alike 0 [] (identity (page_count start.storage)) (last_of start moves) (bare_of T (regs_of 0 start) t.changes t.count)) (root_sees start.storage whole)
        (law 0 [] [] start moves t there (λ e. refl) masked (omega arith) refl (root_apart start.storage) is untouched)

    storage : (bare_of start.storage (regs_of 0 start) t.changes t.count).storage ≡ (last_of start moves).storage
    storage = sym (same_storage 0 (page_count start.storage) (last_of start moves) (bare_of start.storage (regs_of 0 start) t.changes t.count) (run_long start moves ∙ whole) alike)
