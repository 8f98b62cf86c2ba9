-- What a watch tells of a run is what happened to the bare machine.
use Rattle.std.proofs.Common.{◌≡◌, ℕ, ◌+◌, ◌-◌, ◌≤◌, Bool, true, false, cond, not, List, [], ◌∷◌, ◌++◌, replicate, ap, ◌∙◌, sym, arith, append_assoc}
use Rattle.std.specs.Prelude.{◌==◌}
use Rattle.std.proofs.lemmas.Bool.{true≢false, le-leb, not-false, false_from_ne_true}
use Rattle.std.proofs.lemmas.List.{append-nil, replicate_more}
use Rattle.hv_map.specs.Item.{Item}
use Rattle.hv_map.specs.Chain.{map_along}
use Rattle.hv_nest.specs.State.{State}
use Rattle.hv_nest.specs.Move.{Move, StepOf, LinesOf, state_after}
use Rattle.hv_nest.specs.Watched.{LineChange, Tally, no_tally, is_counted, foot, keeps_foot, lines_of, beside, tally_after, tally_of}
use Rattle.hv_nest.specs.Bare.{bare_moves}
use Rattle.hv_whole.specs.Whole.{AreMasked}
use Rattle.hv_whole.specs.Linked.{Alone, RunKeeps, bare_move, bare_run}
use Rattle.hv_whole.proofs.Untouched.{keeps}

-- the counts of changes don't fall, and go from i to m
pub UpTo : ℕ → List LineChange → ℕ → Type 0
UpTo i [] m = i ≤ m
UpTo i (l ∷ ls) m = (i ≤ l.count) × UpTo l.count ls m

up_to : (i : ℕ) (ls : List LineChange) (m : ℕ) → UpTo i ls m → i ≤ m
unfolding UpTo
up_to i [] m up = up
up_to i (l ∷ ls) m up = omega (arith, up.0, up_to l.count ls m up.1)

up_more : (i : ℕ) (ls : List LineChange) (m : ℕ) → UpTo i ls m → UpTo i ls (m + 1)
unfolding UpTo
up_more i [] m up = omega (arith, up)
up_more i (l ∷ ls) m up = (up.0, up_more l.count ls m up.1)

up_change : (i : ℕ) (ls : List LineChange) (m bits : ℕ) → UpTo i ls m → UpTo i (ls ++ record { count = m; bits = bits } ∷ []) m
unfolding UpTo
up_change i [] m bits up = (up, omega arith)
up_change i (l ∷ ls) m bits up = (up.0, up_change l.count ls m bits up.1)

-- one step more
moves_step : (i : ℕ) (ls : List LineChange) (m : ℕ) → UpTo i ls m → bare_moves i ls (m + 1) ≡ bare_moves i ls m ++ StepOf 0 ∷ []
unfolding bare_moves UpTo
moves_step i [] m up =
    let e : m + 1 - i ≡ m - i + 1 = omega (arith, up) in
    ap (λ (n : ℕ). replicate n (StepOf 0)) e ∙ sym (replicate_more (m - i) (StepOf 0))
moves_step i (l ∷ ls) m up =
    let low : l.count ≤ m = up_to l.count ls m up.1 in
    let steps : List Move = replicate (l.count - i) (StepOf 0) in
    ap (λ (b : Bool). cond b (steps ++ LinesOf 0 l.bits ∷ bare_moves l.count ls (m + 1)) (replicate (m + 1 - i) (StepOf 0))) (le-leb l.count (m + 1) (omega arith))
    ∙ ap (λ (ms : List Move). steps ++ LinesOf 0 l.bits ∷ ms) (moves_step l.count ls m up.1)
    ∙ sym (append_assoc steps (LinesOf 0 l.bits ∷ bare_moves l.count ls m) (StepOf 0 ∷ []))
    ∙ ap (λ (b : Bool). cond b (steps ++ LinesOf 0 l.bits ∷ bare_moves l.count ls m) (replicate (m - i) (StepOf 0)) ++ StepOf 0 ∷ []) (sym (le-leb l.count m low))

-- one change more
moves_change : (i : ℕ) (ls : List LineChange) (m bits : ℕ) → UpTo i ls m → bare_moves i (ls ++ record { count = m; bits = bits } ∷ []) m ≡ bare_moves i ls m ++ LinesOf 0 bits ∷ []
unfolding bare_moves UpTo
moves_change i [] m bits up =
    let none : m - m ≡ 0 = omega arith in
    let steps : List Move = replicate (m - i) (StepOf 0) in
    ap (λ (b : Bool). cond b (steps ++ LinesOf 0 bits ∷ replicate (m - m) (StepOf 0)) steps) (le-leb m m (omega arith))
    ∙ ap (λ (n : ℕ). steps ++ LinesOf 0 bits ∷ replicate n (StepOf 0)) none
moves_change i (l ∷ ls) m bits up =
    let low : l.count ≤ m = up_to l.count ls m up.1 in
    let steps : List Move = replicate (l.count - i) (StepOf 0) in
    ap (λ (b : Bool). cond b (steps ++ LinesOf 0 l.bits ∷ bare_moves l.count (ls ++ record { count = m; bits = bits } ∷ []) m) (replicate (m - i) (StepOf 0))) (le-leb l.count m low)
    ∙ ap (λ (ms : List Move). steps ++ LinesOf 0 l.bits ∷ ms) (moves_change l.count ls m bits up.1)
    ∙ sym (append_assoc steps (LinesOf 0 l.bits ∷ bare_moves l.count ls m) (LinesOf 0 bits ∷ []))
    ∙ ap (λ (b : Bool). cond b (steps ++ LinesOf 0 l.bits ∷ bare_moves l.count ls m) (replicate (m - i) (StepOf 0)) ++ LinesOf 0 bits ∷ []) (sym (le-leb l.count m low))

module _ (h : ℕ) (p : List ℕ) (items : List Item) (ft : List ℕ) where
  -- what is told after one move
  record ToldAfter (t u : Tally) (moves : List Move) : Type 0 where
    up : UpTo 0 u.changes u.count
    told : bare_moves 0 u.changes u.count ≡ bare_moves 0 t.changes t.count ++ moves

  told_after : (st : State) (move : Move) (t : Tally) → UpTo 0 t.changes t.count → ToldAfter t (tally_after h p items ft st move t) (bare_move h p items st move)
  told_after st move t up = counted (is_counted h p st move)
    where
      changed : (b : Bool) → ToldAfter t (record t { changes = cond b t.changes (t.changes ++ record { count = t.count; bits = lines_of h items (state_after st move) } ∷ []); touched = cond t.touched true (not (keeps_foot ft items st.storage (state_after st move).storage)) }) (cond b [] (LinesOf 0 (lines_of h items (state_after st move)) ∷ []))
      changed true = record { up = up; told = sym (append-nil (bare_moves 0 t.changes t.count)) }
      changed false = record {
        up = up_change 0 t.changes t.count (lines_of h items (state_after st move)) up;
        told = moves_change 0 t.changes t.count (lines_of h items (state_after st move)) up;
      }

      counted : (b : Bool) → ToldAfter t (cond b (record t { count = t.count + 1 }) (beside h items ft st (state_after st move) t)) (cond b (StepOf 0 ∷ []) (cond (lines_of h items st == lines_of h items (state_after st move)) [] (LinesOf 0 (lines_of h items (state_after st move)) ∷ [])))
      counted true = record { up = up_more 0 t.changes t.count up; told = moves_step 0 t.changes t.count up }
      counted false = changed (lines_of h items st == lines_of h items (state_after st move))

  -- and after all of them
  pub all_told : (moves : List Move) (st : State) (t : Tally) → UpTo 0 t.changes t.count
      → bare_moves 0 (tally_of h p items ft st moves t).changes (tally_of h p items ft st moves t).count ≡ bare_moves 0 t.changes t.count ++ bare_run h p items st moves
  unfolding tally_of bare_run
  all_told [] st t up = sym (append-nil (bare_moves 0 t.changes t.count))
  all_told (move ∷ moves) st t up =
      let one = told_after st move t up in
      let next : State = state_after st move in
      all_told moves next (tally_after h p items ft st move t) one.up
      ∙ ap (λ (ms : List Move). ms ++ bare_run h p items next moves) one.told
      ∙ append_assoc (bare_moves 0 t.changes t.count) (bare_move h p items st move) (bare_run h p items next moves)

  -- what was touched stays touched
  after_touched : (st : State) (move : Move) (t : Tally) → t.touched ≡ true → (tally_after h p items ft st move t).touched ≡ true
  after_touched st move t e = by (is_counted h p st move)
    where
      by : (b : Bool) → (cond b (record t { count = t.count + 1 }) (beside h items ft st (state_after st move) t)).touched ≡ true
      by true = e
      by false = ap (λ (b : Bool). cond b true (not (keeps_foot ft items st.storage (state_after st move).storage))) e

  all_touched : (moves : List Move) (st : State) (t : Tally) → t.touched ≡ true → (tally_of h p items ft st moves t).touched ≡ true
  unfolding tally_of
  all_touched [] st t e = e
  all_touched (move ∷ moves) st t e = all_touched moves (state_after st move) (tally_after h p items ft st move t) (after_touched st move t e)

  -- a move that doesn't count and doesn't touch keeps the foot
  after_kept : (st : State) (move : Move) (t : Tally) → is_counted h p st move ≡ false → (tally_after h p items ft st move t).touched ≡ false → keeps_foot ft items st.storage (state_after st move).storage ≡ true
  after_kept st move t none quiet =
      let free : cond t.touched true (not kept) ≡ false = sym (ap (λ (b : Bool). (cond b (record t { count = t.count + 1 }) (beside h items ft st (state_after st move) t)).touched) none) ∙ quiet in
      by t.touched free
    where
      kept : Bool
      kept = keeps_foot ft items st.storage (state_after st move).storage

      by : (b : Bool) → cond b true (not (keeps_foot ft items st.storage (state_after st move).storage)) ≡ false → keeps_foot ft items st.storage (state_after st move).storage ≡ true
      by true e = absurd (true≢false e)
      by false e = not-false (keeps_foot ft items st.storage (state_after st move).storage) e

-- a run that doesn't touch the foot leaves what the machine has
pub run_keeps : (h : ℕ) (p : List ℕ) (items : List Item) (A : List ℕ) → Alone A items (map_along A items) → (items ≡ [] → p ≡ [])
    → (moves : List Move) (st : State) (t : Tally) → AreMasked moves
    → (tally_of h p items (foot A items) st moves t).touched ≡ false
    → RunKeeps h p items A (map_along A items) st moves
unfolding tally_of
run_keeps h p items A stand root [] st t masked quiet = tt
run_keeps h p items A stand root (move ∷ moves) st t masked quiet =
    let next : State = state_after st move in
    let u : Tally = tally_after h p items (foot A items) st move t in
    let free : u.touched ≡ false = false_from_ne_true u.touched (λ e. true≢false (sym (all_touched h p items (foot A items) moves next u e) ∙ quiet)) in (
      λ none. keeps h p items A stand root st move masked.0 none (after_kept h p items (foot A items) st move t none free),
      run_keeps h p items A stand root moves next u masked.1 quiet,
    )

-- what is told from the start on
pub told_moves : (h : ℕ) (p : List ℕ) (items : List Item) (ft : List ℕ) (moves : List Move) (st : State)
    → bare_moves 0 (tally_of h p items ft st moves no_tally).changes (tally_of h p items ft st moves no_tally).count ≡ bare_run h p items st moves
unfolding bare_moves UpTo
told_moves h p items ft moves st = all_told h p items ft moves st no_tally (omega arith)
