-- What a watch tells of a machine's lines may be given to a bare machine: the counts never fall, and the bits are lines.
use Rattle.std.proofs.Common.{◌≡◌, ℕ, zero, suc, ◌+◌, ◌≤◌, nat_eq, Bool, true, false, not, cond, List, [], ◌∷◌, ◌++◌, take, Option, Some, None, refl, sym, subst, arith}
use Rattle.std.specs.Prelude.{All, slice_get, bit_and}
use Rattle.std.proofs.lemmas.List.Elements.{All-nil, All-push, All-take}
use Rattle.hv_word.specs.Storage.{word_at}
use Rattle.hv_cpu.specs.Regs.{Regs}
use Rattle.hv_cpu.specs.Lines.{lines}
use Rattle.hv_limits.specs.Limits.{lines_mask}
use Rattle.hv_cpu.proofs.Masks.{and_within}
use Rattle.hv_map.specs.Item.{Item}
use Rattle.hv_nest.specs.State.{State}
use Rattle.hv_nest.specs.Move.{Move, state_after}
use Rattle.hv_nest.specs.Watched.{LineChange, Tally, no_tally, is_counted, lines_at, lines_of, keeps_foot, beside, tally_after, tally_of}
use Rattle.hv_twin.specs.Twin.{NeverFallsFrom, NeverFalls}

-- the lines of a machine are lines
inside : (w : ℕ) → bit_and (lines w) lines_mask ≡ lines w
inside w = and_within w lines_mask lines_mask refl

lines_inside : (h : ℕ) (items : List Item) (st : State) → bit_and (lines_of h items st) lines_mask ≡ lines_of h items st
lines_inside h [] st = at (slice_get st.harts h)
  where
    at : (o : Option Regs) → bit_and (lines_at o) lines_mask ≡ lines_at o
    at None = refl
    at (Some r) = inside r.mip
lines_inside h (x ∷ []) st = inside (word_at st.storage x.block 42)
lines_inside h (x ∷ (y ∷ ys)) st = lines_inside h (y ∷ ys) st

-- the counts rise from n to m
abbrev Rises : ℕ → List LineChange → ℕ → Type 0
Rises n [] m = n ≤ m
Rises n (l ∷ ls) m = (n ≤ l.count) × Rises l.count ls m

rises_on : (n : ℕ) (ls : List LineChange) (m : ℕ) → Rises n ls m → Rises n ls (m + 1)
rises_on n [] m r = omega arith
rises_on n (l ∷ ls) m r = (r.0, rises_on l.count ls m r.1)

rises_more : (n : ℕ) (ls : List LineChange) (l : LineChange) → Rises n ls l.count → Rises n (ls ++ l ∷ []) l.count
rises_more n [] l r = (r, omega arith)
rises_more n (k ∷ ls) l r = (r.0, rises_more k.count ls l r.1)

never_falls : (n m k : ℕ) (ls : List LineChange) → Rises n ls m → NeverFallsFrom n (take k ls)
never_falls n m zero ls r = tt
never_falls n m (suc k) [] r = tt
never_falls n m (suc k) (l ∷ ls) r = (r.0, never_falls l.count m k ls r.1)

-- the bits of a change are lines
abbrev pub HasLines : LineChange → Type 0
HasLines l = bit_and l.bits lines_mask ≡ l.bits

record Told (t : Tally) : Type 0 where
  rises : Rises 0 t.changes t.count
  inside : All HasLines t.changes

none_told : Told no_tally
none_told = record { rises = omega arith; inside = All-nil HasLines }

one_more : (same : Bool) (t : Tally) (l : LineChange) (touched : Bool) → l.count ≡ t.count → HasLines l → Told t → Told record { count = t.count; changes = cond same t.changes (t.changes ++ l ∷ []); touched = touched }
one_more true t l touched at has told = record { rises = told.rises; inside = told.inside }
one_more false t l touched at has told =
    let rises : Rises 0 t.changes l.count = subst (Rises 0 t.changes) (sym at) told.rises in
    record {
      rises = subst (Rises 0 (t.changes ++ l ∷ [])) at (rises_more 0 t.changes l rises);
      inside = All-push HasLines t.changes l told.inside has;
    }

told_after : (h : ℕ) (p : List ℕ) (items : List Item) (ft : List ℕ) (st : State) (move : Move) (t : Tally) → Told t → Told (tally_after h p items ft st move t)
told_after h p items ft st move t told = by (is_counted h p st move)
  where
    by : (b : Bool) → Told (cond b (record t { count = t.count + 1 }) (beside h items ft st (state_after st move) t))
    by true = record { rises = rises_on 0 t.changes t.count told.rises; inside = told.inside }
    by false =
        let next = state_after st move in
        one_more (nat_eq (lines_of h items st) (lines_of h items next)) t record { count = t.count; bits = lines_of h items next } (cond t.touched true (not (keeps_foot ft items st.storage next.storage))) refl (lines_inside h items next) told

told_all : (h : ℕ) (p : List ℕ) (items : List Item) (ft : List ℕ) (st : State) (moves : List Move) (t : Tally) → Told t → Told (tally_of h p items ft st moves t)
unfolding tally_of
told_all h p items ft st [] t told = told
told_all h p items ft st (move ∷ moves) t told =
    told_all h p items ft (state_after st move) moves (tally_after h p items ft st move t) (told_after h p items ft st move t told)

-- the first k changes that a watch tells
pub told_never_fall : (k h : ℕ) (p : List ℕ) (items : List Item) (ft : List ℕ) (st : State) (moves : List Move) → NeverFalls (take k (tally_of h p items ft st moves no_tally).changes)
told_never_fall k h p items ft st moves =
    let t = tally_of h p items ft st moves no_tally in
    let told : Told t = told_all h p items ft st moves no_tally none_told in
    never_falls 0 t.count k t.changes told.rises

pub told_have_lines : (k h : ℕ) (p : List ℕ) (items : List Item) (ft : List ℕ) (st : State) (moves : List Move) → All HasLines (take k (tally_of h p items ft st moves no_tally).changes)
told_have_lines k h p items ft st moves =
    let t = tally_of h p items ft st moves no_tally in
    let told : Told t = told_all h p items ft st moves no_tally none_told in
    All-take HasLines k t.changes told.inside
