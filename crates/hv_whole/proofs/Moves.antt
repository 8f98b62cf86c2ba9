-- A run, move by move: each that counts is a step of the bare machine, and the others leave it as it is, or change its lines.
use Rattle.std.proofs.Common.{◌≡◌, ℕ, ◌<◌, Bool, true, false, cond, ◌==◌, List, [], ◌∷◌, ◌++◌, length, refl, ap, ◌∙◌, arith}
use Rattle.std.proofs.lemmas.Bool.{eqb-true}
use Rattle.hv_word.specs.Storage.{word_at, page_count}
use Rattle.hv_cpu.specs.Regs.{Regs}
use Rattle.hv_cpu.specs.Lines.{lined_of}
use Rattle.hv_store.specs.declared.access.Slot.{Slot}
use Rattle.hv_store.specs.Access.{identity}
use Rattle.hv_map.specs.Item.{Item}
use Rattle.hv_map.specs.Words.{syllables}
use Rattle.hv_nest.specs.State.{State}
use Rattle.hv_nest.specs.Move.{Move, StepOf, LinesOf, state_after, last_of}
use Rattle.hv_nest.specs.Watched.{is_counted, lines_of}
use Rattle.hv_nest.specs.Bare.{alone}
use Rattle.hv_nest.specs.Simulation.{SimulationLaw}
use Rattle.hv_nest.proofs.SimulationLaws.{simulation}
use Rattle.hv_nest.specs.Routing.{hart_along}
use Rattle.hv_whole.specs.Whole.{own}
use Rattle.hv_whole.specs.Linked.{Alone, Linked, LeavesLinked, RunKeeps, bare_move, bare_run}
use Rattle.hv_whole.proofs.Foots.{each_both}
use Rattle.hv_whole.proofs.Lengths.{move_long}
use Rattle.hv_whole.proofs.Links.{sees_same}
use Rattle.hv_whole.proofs.Counted.{LinkedAfter, counted_step}

-- two lists of moves, one after the other
pub last_append : (st : State) (xs ys : List Move) → last_of st (xs ++ ys) ≡ last_of (last_of st xs) ys
unfolding last_of
last_append st [] ys = refl
last_append st (x ∷ xs) ys = last_append (state_after st x) xs ys

module _ (law : SimulationLaw) (A : List ℕ) (items : List Item) (F : List Slot) (apart : Alone A items F) (h : ℕ) (zeroth : hart_along items h ≡ 0) where
  -- a move that leaves what the machine has, but maybe for its registers
  kept_link : (st next : State) (T : List ℕ) (c d : Regs) → Linked h items A F st T c → LeavesLinked h items A F st next → own h items next ≡ d → Linked h items A F next T d
  kept_link st next T c d link keeps regs = record {
    chain = each_both (λ g w. word_at A g w ≡ word_at st.storage g w) (λ g w. word_at st.storage g w ≡ word_at next.storage g w) (λ g w. word_at A g w ≡ word_at next.storage g w) (λ g w p q. p ∙ q) A (identity (page_count A)) 0 items link.chain keeps.chain;
    len = keeps.len ∙ link.len;
    sees = sees_same (length items) F st.storage next.storage T keeps.len keeps.pages link.sees;
    regs = regs;
  }

  -- a move that doesn't count
  beside_move : (st next : State) (T : List ℕ) (c : Regs) → Linked h items A F st T c → LeavesLinked h items A F st next
      → LinkedAfter h items A F next (last_of (alone T c) (cond (lines_of h items st == lines_of h items next) [] (LinesOf 0 (lines_of h items next) ∷ [])))
  unfolding last_of LinkedAfter
  beside_move st next T c link keeps = by (lines_of h items st == lines_of h items next) refl
    where
      by : (b : Bool) → (lines_of h items st == lines_of h items next) ≡ b → LinkedAfter h items A F next (last_of (alone T c) (cond b [] (LinesOf 0 (lines_of h items next) ∷ [])))
      by true e = (T, c, refl, kept_link st next T c c link keeps (keeps.same (eqb-true (lines_of h items st) (lines_of h items next) e) ∙ link.regs))
      by false e =
          let bits : ℕ = lines_of h items next in
          (T, lined_of c bits, refl, kept_link st next T c (lined_of c bits) link keeps (keeps.regs ∙ ap (λ (r : Regs). lined_of r bits) link.regs))

  counted_move : (st : State) (move : Move) (T : List ℕ) (c : Regs) → Linked h items A F st T c → h < length st.harts → is_counted h (syllables items) st move ≡ true
      → LinkedAfter h items A F (state_after st move) (last_of (alone T c) (StepOf 0 ∷ []))
  unfolding last_of
  counted_move st (StepOf hart) T c link there e = counted_step law A items F apart h st T c link there zeroth hart e
  counted_move st (LinesOf hart m) T c link there e = absurd (let f : false ≡ true = e in cc)

  one_move : (st : State) (move : Move) (T : List ℕ) (c : Regs) → Linked h items A F st T c → h < length st.harts
      → (is_counted h (syllables items) st move ≡ false → LeavesLinked h items A F st (state_after st move))
      → LinkedAfter h items A F (state_after st move) (last_of (alone T c) (bare_move h (syllables items) items st move))
  one_move st move T c link there keeps = by (is_counted h (syllables items) st move) refl
    where
      by : (b : Bool) → is_counted h (syllables items) st move ≡ b
          → LinkedAfter h items A F (state_after st move) (last_of (alone T c) (cond b (StepOf 0 ∷ []) (cond (lines_of h items st == lines_of h items (state_after st move)) [] (LinesOf 0 (lines_of h items (state_after st move)) ∷ []))))
      by true e = counted_move st move T c link there e
      by false e = beside_move st (state_after st move) T c link (keeps e)

  -- all of them
  pub all_moves : (moves : List Move) (st : State) (T : List ℕ) (c : Regs) → Linked h items A F st T c → h < length st.harts
      → RunKeeps h (syllables items) items A F st moves
      → LinkedAfter h items A F (last_of st moves) (last_of (alone T c) (bare_run h (syllables items) items st moves))
  unfolding last_of LinkedAfter bare_run
  all_moves [] st T c link there keeps = (T, c, refl, link)
  all_moves (move ∷ moves) st T c link there keeps =
      let next : State = state_after st move in
      let m = one_move st move T c link there keeps.0 in
      let still : h < length next.harts = omega (arith, (move_long st move).harts) in
      let rest = all_moves moves next m.0 m.1 m.3 still keeps.1 in (
        rest.0,
        rest.1,
        last_append (alone T c) (bare_move h (syllables items) items st move) (bare_run h (syllables items) items next moves)
            ∙ ap (λ (b : State). last_of b (bare_run h (syllables items) items next moves)) m.2
            ∙ rest.2,
        rest.3,
      )

-- by the law of one step
pub runs_alike : (A : List ℕ) (items : List Item) (F : List Slot) → Alone A items F → (h : ℕ) → hart_along items h ≡ 0
    → (moves : List Move) (st : State) (T : List ℕ) (c : Regs) → Linked h items A F st T c → h < length st.harts
    → RunKeeps h (syllables items) items A F st moves
    → LinkedAfter h items A F (last_of st moves) (last_of (alone T c) (bare_run h (syllables items) items st moves))
runs_alike = all_moves simulation
