-- What was saved of a machine is the machine, parked; the first watch is of a hart that is there.
use Rattle.std.proofs.Common.{◌≡◌, ◌≢◌, ℕ, zero, suc, ◌+◌, ◌-◌, ◌<◌, ◌≤◌, Bool, true, Option, Some, None, Result, Ok, Err, List, [], ◌∷◌, length, refl, sym, ap, ◌∙◌, subst, arith}
use Rattle.std.specs.Prelude.{IfSome, nat_le, ◌&&◌, if◌then◌else◌, get_or}
use Rattle.std.specs.Option.{is_none}
use Rattle.std.proofs.lemmas.Bool.Decides.{nat_tests}
use Rattle.hv_block.specs.Block.{regs_at}
use Rattle.hv_capsule.specs.Parked.{Parked}
use Rattle.hv_cpu.specs.Regs.{Regs}
use Rattle.hv_limits.specs.Limits.{pages_limit}
use Rattle.hv_load.specs.Ready.{EachWatched}
use Rattle.hv_map.specs.Chain.{map_along}
use Rattle.hv_map.specs.Item.{Item}
use Rattle.hv_map.specs.Links.{last_block}
use Rattle.hv_map.specs.Seen.{seen}
use Rattle.hv_map.specs.declared.path.Watch.{Watch}
use Rattle.hv_move.specs.Saved.{first_absent}
use Rattle.hv_nest.specs.State.{State}
use Rattle.hv_nest.specs.Move.{Move, last_of}
use Rattle.hv_run.proofs.Runs.{run_harts}
use Rattle.hv_top.specs.Save.{parked_along, inner_parked, can_park}

-- the parked machine has these registers, by the block that is there
regs_by : (item : Item) (items : List Item) (st : State) (hart : ℕ) (m : Parked)
    → IfSome (last_block (item ∷ items)) (λ g. m.regs ≡ regs_at st.storage g)
    → m.regs ≡ (inner_parked st hart (item ∷ items)).regs
regs_by item [] st hart m h = h
regs_by item (next ∷ items) st hart m h = regs_by next items st hart m h

abbrev parked : Regs → List ℕ → Parked
parked r S = record { regs = r; storage = S }

same_parked : (m n : Parked) → m.regs ≡ n.regs → m.storage ≡ n.storage → m ≡ n
same_parked m n regs storage =
    ap (λ (r : Regs). parked r m.storage) regs ∙ ap (λ (S : List ℕ). parked n.regs S) storage

can : (st : State) (items : List Item) → length (map_along st.storage items) ≤ pages_limit → first_absent (map_along st.storage items) ≡ None → can_park st items ≡ true
can st items few whole = rw (whole) (grind (arith, nat_tests))

-- what was saved
pub saved_right : (st : State) (hart : ℕ) (S : List ℕ) (items : List Item) (m : Parked)
    → st.storage ≡ S
    → 0 < length items
    → length (map_along S items) ≤ pages_limit
    → first_absent (map_along S items) ≡ None
    → IfSome (last_block items) (λ g. m.regs ≡ regs_at S g)
    → m.storage ≡ seen S (map_along S items)
    → Some m ≡ parked_along st hart (Some items)
saved_right st hart S [] m is some few whole regs storage = absurd (omega (arith, some))
saved_right st hart S (item ∷ items) m is some few whole regs storage =
    ap (λ (n : Parked). Some n)
    (same_parked m (inner_parked st hart (item ∷ items))
    (regs_by item items st hart m (subst (λ (T : List ℕ). IfSome (last_block (item ∷ items)) (λ g. m.regs ≡ regs_at T g)) (sym is) regs))
    (storage ∙ ap (λ (T : List ℕ). seen T (map_along T (item ∷ items))) (sym is)))
    ∙ sym (ap (λ (b : Bool). if b then Some (inner_parked st hart (item ∷ items)) else None)
    (can st (item ∷ items)
    (subst (λ (T : List ℕ). length (map_along T (item ∷ items)) ≤ pages_limit) (sym is) few)
    (ap (λ (T : List ℕ). first_absent (map_along T (item ∷ items))) is ∙ whole)))

-- the machine was saved, so no page of it can't be read
pub whole_by : {E : Type 0} {M : Type 0} (o : Option ℕ) (m : M) (end : ℕ → E) (r : Result M E)
    → r ≡ Ok m → IfSome o (λ page. r ≡ Err (end page)) → o ≡ None
whole_by None m end r ok h = refl
whole_by (Some page) m end r ok h = absurd (cc)

-- the first of the watches of a start is of a hart that is there, also when the start was played
head_hart : (S : List ℕ) (n : ℕ) (ws : List Watch) (w : Watch) → EachWatched S n ws → 0 < length ws → (let v : Watch = get_or ws 0 w in v.hart) < n
head_hart S n [] w each some = absurd (omega (arith, some))
head_hart S n (v ∷ ws) w each some = each.0.hart

pub first_hart : (old now : State) (moves : List Move) (all ws : List Watch) (w : Watch)
    → ws ≡ all
    → EachWatched old.storage (length old.harts) all
    → now ≡ last_of old moves
    → w ≡ get_or ws 0 w
    → 0 < length ws
    → w.hart < length now.harts
first_hart old now moves all ws w same each reached is some =
    subst (λ (st : State). w.hart < length st.harts) (sym reached)
    (subst (λ (n : ℕ). w.hart < n) (sym (run_harts old moves))
    (subst (λ (v : Watch). v.hart < length old.harts) (sym is)
    (head_hart old.storage (length old.harts) ws w
    (subst (λ (xs : List Watch). EachWatched old.storage (length old.harts) xs) (sym same) each) some)))
