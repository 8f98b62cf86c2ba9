-- Which move touched a watch that tells a touch.
use Rattle.std.proofs.Common.{◌≡◌, ℕ, suc, ◌+◌, ◌⊎◌, inl, inr, Bool, true, false, not, cond, List, [], ◌∷◌, Some, refl, ap, ◌∙◌, slice_get}
use Rattle.std.proofs.lemmas.Bool.{false≢true}
use Rattle.hv_map.specs.Item.{Item}
use Rattle.hv_nest.specs.State.{State}
use Rattle.hv_nest.specs.Move.{Move, last_of, state_after}
use Rattle.hv_nest.specs.Watched.{Tally, beside, foot, is_counted, keeps_foot, no_tally, tally_after, tally_of}
use Rattle.hv_run.specs.Run.{state_at}
use Rattle.hv_isolate.specs.Settled.{TouchedLaw}
use Rattle.hv_isolate.proofs.Settling.{next_state, touchers}

module _ (h : ℕ) (p : List ℕ) (items : List Item) (ft : List ℕ) where
  -- a move that doesn't count and changes a word of the foot
  record Found (st : State) (moves : List Move) : Type 0 where
    place : ℕ
    move : Move
    there : slice_get moves place ≡ Some move
    other : is_counted h p (state_at st moves place) move ≡ false
    changed : keeps_foot ft items (state_at st moves place).storage (state_after (state_at st moves place) move).storage ≡ false

  abbrev Here : State → Move → Type 0
  Here st move = (is_counted h p st move ≡ false) × (keeps_foot ft items st.storage (state_after st move).storage ≡ false)

  -- a tally tells a touch that it told before, or that of this move
  one_more : (st : State) (move : Move) (t : Tally) → (tally_after h p items ft st move t).touched ≡ true → (t.touched ≡ true) ⊎ Here st move
  one_more st move t e = by (is_counted h p st move) refl e
    where
      kept : (b : Bool) → not b ≡ true → b ≡ false
      kept true f = absurd (false≢true f)
      kept false f = refl

      beside_by : is_counted h p st move ≡ false → (b : Bool) → t.touched ≡ b → cond b true (not (keeps_foot ft items st.storage (state_after st move).storage)) ≡ true → (t.touched ≡ true) ⊎ Here st move
      beside_by n true is f = inl is
      beside_by n false is f = inr (n, kept (keeps_foot ft items st.storage (state_after st move).storage) f)

      by : (b : Bool) → is_counted h p st move ≡ b → (cond b (record t { count = t.count + 1 }) (beside h items ft st (state_after st move) t)).touched ≡ true → (t.touched ≡ true) ⊎ Here st move
      by true is f = inl f
      by false is f = beside_by is t.touched refl f

  later : (st : State) (move : Move) (moves : List Move) → Found (state_after st move) moves → Found st (move ∷ moves)
  unfolding last_of
  later st move moves f = record { place = suc f.place; move = f.move; there = f.there; other = f.other; changed = f.changed }

  found : (st : State) (moves : List Move) (t : Tally) → (tally_of h p items ft st moves t).touched ≡ true → (t.touched ≡ true) ⊎ Found st moves
  unfolding tally_of last_of
  found st [] t e = inl e
  found st (move ∷ moves) t e = elim (found (state_after st move) moves (tally_after h p items ft st move t) e) [
    | inl f ↦ elim (one_more st move t f) [
      | inl g ↦ inl g
      | inr g ↦ inr record { place = 0; move = move; there = refl; other = g.0; changed = g.1 }
    ]
    | inr f ↦ inr (later st move moves f)
  ]

pub touched : TouchedLaw
touched start moves paths w items settled there e = elim (found w.hart w.path items (foot start.storage items) start moves no_tally e) [
  | inl f ↦ absurd (false≢true f)
  | inr f ↦
      let next : keeps_foot (foot start.storage items) items (state_at start moves f.place).storage (state_at start moves (f.place + 1)).storage ≡ false =
      ap (λ (st : State). keeps_foot (foot start.storage items) items (state_at start moves f.place).storage st.storage) (next_state start moves f.place f.move f.there) ∙ f.changed in
      record {
        place = f.place;
        move = f.move;
        there = f.there;
        other = f.other;
        by_may = touchers start moves paths w.path items f.place f.move settled there f.there next;
      }
]
