-- Steps that all count for the watches of the bare machine, told together.
use Rattle.std.proofs.Common.{◌≡◌, ◌≢◌, ℕ, zero, suc, ◌+◌, nat_eq, Bool, true, false, not, ◌&&◌, cond, List, [], ◌∷◌, ◌++◌, length, replicate, refl, sym, ap, ap₂, ◌∙◌, subst, arith, append_assoc}
use Rattle.std.proofs.lemmas.List.{replicate-append-replicate}
use Rattle.hv_nest.specs.declared.changed.ChangedRow.{ChangedRow}
use Rattle.hv_nest.specs.declared.outcome.StepKind.{StepKind}
use Rattle.hv_nest.specs.declared.outcome.StepKind.TheVariants.{Worked, Recall, Fault}
use Rattle.hv_nest.specs.Changes.{differences}
use Rattle.hv_nest.specs.State.{State, IsNextInside}
use Rattle.hv_nest.specs.Move.{Move, StepOf, moved_of, last_of, running_of}
use Rattle.hv_nest.specs.Watched.{begins, is_outside}
use Rattle.hv_run.specs.declared.counts.Counts.{Counts}
use Rattle.hv_run.specs.declared.making.Together.{Together}
use Rattle.hv_run.specs.Play.{AreBareBy, AreInsideBy, CountTogether, Happened, IsBareBy, IsInsideBy, Played, Stepped, Watching, all_after, all_counted, all_made, counted_after, counted_played, counts_step, kind_after, made_count, made_played, played_after, record_after, status_at, touches, watched_after}
use Rattle.hv_run.specs.Stands.{Follows, StandsFor}
use Rattle.hv_run.proofs.Moves.{stands_more}
use Rattle.hv_run.proofs.Refusing.{SameStatus, refused_status}
use Rattle.hv_run.proofs.Tells.{tells_step}

-- no step of the bare machine is refused further out
none_outside : (kind : StepKind) → is_outside 0 kind ≡ false
none_outside Worked = refl
none_outside (Recall l) = grind arith
none_outside (Fault l c address a) = grind arith

counts_at : (hart : ℕ) (running : List ℕ) (kind : StepKind) (p : List ℕ) → length p ≡ 0 → (nat_eq hart hart && (begins p running && not (is_outside (length p) kind))) ≡ true
counts_at hart running kind [] none =
    ap (λ (b : Bool). nat_eq hart hart && (begins [] running && not b)) (none_outside kind) ∙ grind arith
counts_at hart running kind (x ∷ xs) none = cc

bare_counts : (hart : ℕ) (running : List ℕ) (kind : StepKind) (w : Watching) → IsBareBy hart w → counts_step w.so_far hart running kind ≡ true
bare_counts hart running kind w bare =
    ap (λ (h : ℕ). nat_eq hart h && (begins w.so_far.path running && not (is_outside (length w.so_far.path) kind))) bare.same
    ∙ counts_at hart running kind w.so_far.path bare.path

-- a step of a machine on the path that works counts for those further out
inside_counts : (hart : ℕ) (running : List ℕ) (kind : StepKind) (w : Watching) → kind ≡ Worked → IsInsideBy hart running w → counts_step w.so_far hart running kind ≡ true
inside_counts hart running kind w works inside =
    ap (λ (h : ℕ). nat_eq hart h && (begins w.so_far.path running && not (is_outside (length w.so_far.path) kind))) inside.same
    ∙ ap (λ (k : StepKind). nat_eq hart hart && (begins w.so_far.path running && not (is_outside (length w.so_far.path) k))) works
    ∙ ap (λ (b : Bool). nat_eq hart hart && (b && true)) inside.path
    ∙ grind arith

-- a step counts for each of some watches
abbrev pub AllCount : ℕ → List ℕ → StepKind → List Watching → Type 0
AllCount hart running kind [] = Unit {0}
AllCount hart running kind (w ∷ ws) = (counts_step w.so_far hart running kind ≡ true) × AllCount hart running kind ws

pub bare_all : (hart : ℕ) (running : List ℕ) (kind : StepKind) (ws : List Watching) → AreBareBy hart ws → AllCount hart running kind ws
bare_all hart running kind [] bare = tt
bare_all hart running kind (w ∷ ws) bare =
    (bare_counts hart running kind w bare.0, bare_all hart running kind ws bare.1)

pub inside_all : (hart : ℕ) (running : List ℕ) (kind : StepKind) (ws : List Watching) → kind ≡ Worked → AreInsideBy hart running ws → AllCount hart running kind ws
inside_all hart running kind [] works inside = tt
inside_all hart running kind (w ∷ ws) works inside =
    (inside_counts hart running kind w works inside.0, inside_all hart running kind ws works inside.1)

pub together_all : (together : Together) (hart : ℕ) (path running : List ℕ) (kind : StepKind) (ws : List Watching) → CountTogether together hart path ws → (together.all ≡ false → path ≡ running) → (together.all ≡ false → together.working ≡ true) → (together.all ≡ false → kind ≡ Worked) → AllCount hart running kind ws
together_all together hart path running kind ws counts same working works =
    elim together.all as (λ a. together.all ≡ a → AllCount hart running kind ws) [
      | true ↦ λ all. bare_all hart running kind ws (counts.all all)
      | false ↦ λ some. subst (λ (r : List ℕ). AllCount hart r kind ws) (same some) (inside_all hart path kind ws (works some) (counts.working some (working some)))
    ] refl

-- one step more is told to a watch
abbrev told_with : Bool → Bool → ℕ → ℕ → Watching → Watching
told_with counts touching old new w = record { so_far = record_after counts touching old new w.so_far; foot = w.foot; status = new }

abbrev with_parts : Watching → ℕ → ℕ → Watching
with_parts w count status = record { so_far = record (w.so_far) { count = count }; foot = w.foot; status = status }

one_counted : (hart : ℕ) (running : List ℕ) (kind : StepKind) (changed : List ChangedRow) (n : ℕ) (st next : State) (w : Watching) → counts_step w.so_far hart running kind ≡ true → watched_after (Stepped hart running kind changed) next (counted_after n st w) ≡ counted_after (n + 1) next w
one_counted hart running kind changed n st next w counts =
    let v = counted_after n st w in
    let new = status_at w.so_far.hart w.so_far.block next in
    let some : nat_eq (n + 1) 0 ≡ false = grind arith in
    ap (λ (c : Bool). told_with c (touches v (Stepped hart running kind changed) new) v.status new v) counts
    ∙ ap (λ (k : ℕ). with_parts w k new) (omega arith)
    ∙ ap (λ (b : Bool). with_parts w (w.so_far.count + (n + 1)) (cond b w.status new)) (sym some)

each_counted : (hart : ℕ) (running : List ℕ) (kind : StepKind) (changed : List ChangedRow) (n : ℕ) (st next : State) (ws : List Watching) → AllCount hart running kind ws → all_after (Stepped hart running kind changed) next (all_counted n st ws) ≡ all_counted (n + 1) next ws
each_counted hart running kind changed n st next [] all = refl
each_counted hart running kind changed n st next (w ∷ ws) all =
    ap₂ (λ (v : Watching) (vs : List Watching). v ∷ vs) (one_counted hart running kind changed n st next w all.0)
    (each_counted hart running kind changed n st next ws all.1)

-- no step is told
one_none : (st : State) (w : Watching) → counted_after 0 st w ≡ w
one_none st w = ap (λ (k : ℕ). with_parts w k w.status) (omega arith)

each_none : (st : State) (ws : List Watching) → all_counted 0 st ws ≡ ws
each_none st [] = refl
each_none st (w ∷ ws) = ap₂ (λ (v : Watching) (vs : List Watching). v ∷ vs) (one_none st w) (each_none st ws)

abbrev played_with : Counts → ℕ → List Watching → Played
played_with counts calls ws = record { calls = calls; counts = counts; watching = ws }

none_played : (p : Played) (counts : Counts) (st : State) → p.counts ≡ counts → p ≡ counted_played 0 counts st p
none_played p counts st is =
    ap (λ (c : Counts). played_with c p.calls p.watching) is
    ∙ ap₂ (played_with counts) (omega arith) (sym (each_none st p.watching))

append_none : (ms : List Move) → ms ≡ ms ++ []
append_none [] = refl
append_none (m ∷ ms) = ap (λ (ns : List Move). m ∷ ns) (append_none ms)

pub counted_none : (p : Played) (hart : ℕ) (counts : Counts) (st : State) → p.counts ≡ counts → Follows p st (counted_played 0 counts st p) st (replicate 0 (StepOf hart))
counted_none p hart counts st is start moves watches stands at = (
  subst (λ (q : Played). StandsFor q start (moves ++ []) watches) (none_played p counts st is) (subst (λ (ms : List Move). StandsFor p start ms watches) (append_none moves) stands),
  subst (λ (ms : List Move). st ≡ last_of start ms) (append_none moves) at,
)

one_longer : (n : ℕ) (m : Move) → replicate n m ++ m ∷ [] ≡ m ∷ replicate n m
one_longer zero m = refl
one_longer (suc n) m = ap (λ (ms : List Move). m ∷ ms) (one_longer n m)

longer : (n : ℕ) (m : Move) → replicate (n + 1) m ≡ m ∷ replicate n m
longer n m = let e : n + 1 ≡ suc n = omega arith in ap (λ (k : ℕ). replicate k m) e

pub counted_more : (p : Played) (hart n : ℕ) (c d : Counts) (st0 st next : State) (running : List ℕ) (kind : StepKind) (changed : List ChangedRow) → running ≡ running_of st hart → AllCount hart running kind p.watching → record { kind = kind; state = next } ≡ moved_of st hart → changed ≡ differences st.storage next.storage → length next.storage ≡ length st.storage → IsNextInside st hart → d ≡ kind_after c hart kind → Follows p st0 (counted_played n c st p) st (replicate n (StepOf hart)) → Follows p st0 (counted_played (n + 1) d next p) next (replicate (n + 1) (StepOf hart))
counted_more p hart n c d st0 st next running kind changed path all moves_is changes len inside is follows start moves watches stands at =
    let before = follows start moves watches stands at in
    let q = counted_played n c st p in
    let ms = moves ++ replicate n (StepOf hart) in
    let both = stands_more q start st ms watches (StepOf hart) next (Stepped hart running kind changed) tt inside (tells_step q.watching st next hart running kind changed moves_is (λ some. path) changes len) before.0 before.1 in
    let long : ms ++ StepOf hart ∷ [] ≡ moves ++ replicate (n + 1) (StepOf hart) = append_assoc moves (replicate n (StepOf hart)) (StepOf hart ∷ []) ∙ ap (λ (xs : List Move). moves ++ xs) (one_longer n (StepOf hart) ∙ sym (longer n (StepOf hart))) in
    let told : played_after (Stepped hart running kind changed) next q ≡ counted_played (n + 1) d next p =
    ap (λ (k : ℕ). played_with (kind_after c hart kind) k (all_after (Stepped hart running kind changed) next q.watching)) (omega arith)
    ∙ ap₂ (λ (e : Counts) (ws : List Watching). played_with e (p.calls + (n + 1)) ws) (sym is) (each_counted hart running kind changed n st next p.watching all) in (
      subst (λ (r : Played). StandsFor r start (moves ++ replicate (n + 1) (StepOf hart)) watches) told (subst (λ (xs : List Move). StandsFor (played_after (Stepped hart running kind changed) next q) start xs watches) long both.0),
      subst (λ (xs : List Move). next ≡ last_of start xs) long both.1,
    )

-- the words with the lines are those of another state that has the same
counted_same : (n : ℕ) (st next : State) (w : Watching) → SameStatus st next → counted_after n st w ≡ counted_after n next w
counted_same n st next w same =
    ap (λ (s : ℕ). with_parts w (w.so_far.count + n) (cond (nat_eq n 0) w.status s)) (sym (same w.so_far.hart w.so_far.block))

all_same : (n : ℕ) (st next : State) (ws : List Watching) → SameStatus st next → all_counted n st ws ≡ all_counted n next ws
all_same n st next [] same = refl
all_same n st next (w ∷ ws) same =
    ap₂ (λ (v : Watching) (vs : List Watching). v ∷ vs) (counted_same n st next w same) (all_same n st next ws same)

made_same : (h : Happened) (n : ℕ) (st next : State) (ws : List Watching) → all_after h next (all_counted n next ws) ≡ all_made h n true next ws
made_same h n st next [] = refl
made_same h n st next (w ∷ ws) =
    ap (λ (vs : List Watching). watched_after h next (counted_after n next w) ∷ vs) (made_same h n st next ws)

-- no step was told before, or the step after those leaves the words with the lines
pub kept_status : (working : Bool) (n hart : ℕ) (st next : State) (kind : StepKind) (ws : List Watching) → record { kind = kind; state = next } ≡ moved_of st hart → IsNextInside st hart → (working ≡ true → kind ≢ Worked) → (working ≡ false → n ≡ 0) → all_counted n st ws ≡ all_counted n next ws
kept_status true n hart st next kind ws moves_is inside refused once =
    all_same n st next ws (refused_status st next hart kind moves_is inside (refused refl))
kept_status false n hart st next kind ws moves_is inside refused once =
    ap (λ (k : ℕ). all_counted k st ws) (once refl)
    ∙ each_none st ws
    ∙ sym (each_none next ws)
    ∙ ap (λ (k : ℕ). all_counted k next ws) (sym (once refl))

pub refused_more : (p : Played) (hart n : ℕ) (c d : Counts) (st0 st next : State) (running : List ℕ) (kind : StepKind) (changed : List ChangedRow) → running ≡ running_of st hart → all_counted n st p.watching ≡ all_counted n next p.watching → record { kind = kind; state = next } ≡ moved_of st hart → changed ≡ differences st.storage next.storage → length next.storage ≡ length st.storage → IsNextInside st hart → d ≡ kind_after c hart kind → Follows p st0 (counted_played n c st p) st (replicate n (StepOf hart)) → Follows p st0 (made_played (Stepped hart running kind changed) n true d next p) next (replicate (n + 1) (StepOf hart))
refused_more p hart n c d st0 st next running kind changed path keeps moves_is changes len inside is follows start moves watches stands at =
    let before = follows start moves watches stands at in
    let h = Stepped hart running kind changed in
    let q = counted_played n c st p in
    let ms = moves ++ replicate n (StepOf hart) in
    let both = stands_more q start st ms watches (StepOf hart) next h tt inside (tells_step q.watching st next hart running kind changed moves_is (λ some. path) changes len) before.0 before.1 in
    let long : ms ++ StepOf hart ∷ [] ≡ moves ++ replicate (n + 1) (StepOf hart) = append_assoc moves (replicate n (StepOf hart)) (StepOf hart ∷ []) ∙ ap (λ (xs : List Move). moves ++ xs) (one_longer n (StepOf hart) ∙ sym (longer n (StepOf hart))) in
    let told : played_after h next q ≡ made_played h n true d next p =
    ap (λ (k : ℕ). played_with (kind_after c hart kind) k (all_after h next q.watching)) (omega arith)
    ∙ ap₂ (λ (e : Counts) (ws : List Watching). played_with e (p.calls + (n + 1)) ws) (sym is) (ap (all_after h next) keeps ∙ made_same h n st next p.watching) in (
      subst (λ (r : Played). StandsFor r start (moves ++ replicate (n + 1) (StepOf hart)) watches) told (subst (λ (xs : List Move). StandsFor (played_after h next q) start xs watches) long both.0),
      subst (λ (xs : List Move). next ≡ last_of start xs) long both.1,
    )

-- some steps, and then some more
pub turned_more : (p q r : Played) (a b c : State) (m n k : ℕ) (s : Move) → m + n ≡ k → Follows p a q b (replicate m s) → Follows q b r c (replicate n s) → Follows p a r c (replicate k s)
turned_more p q r a b c m n k s total first then start moves watches stands at =
    let one = first start moves watches stands at in
    let two = then start (moves ++ replicate m s) watches one.0 one.1 in
    let all : (moves ++ replicate m s) ++ replicate n s ≡ moves ++ replicate k s = append_assoc moves (replicate m s) (replicate n s) ∙ ap (λ (xs : List Move). moves ++ xs) (replicate-append-replicate m n s ∙ ap (λ (j : ℕ). replicate j s) total) in (
      subst (λ (xs : List Move). StandsFor r start xs watches) all two.0,
      subst (λ (xs : List Move). c ≡ last_of start xs) all two.1,
    )

-- one step that was told by itself
pub one_told : (p : Played) (st next : State) (h : Happened) (worked : ℕ) (refused : Bool) (counts : Counts) (s : Move) → (worked ≡ 0) × (refused ≡ true) → Follows p st (made_played h worked refused counts next p) next (replicate (made_count worked refused) s) → Follows p st (played_with counts (p.calls + 1) (all_after h next p.watching)) next (s ∷ [])
one_told p st next h worked refused counts s is follows start moves watches stands at =
    let one : Follows p st (made_played h 0 true counts next p) next (replicate 1 s) =
    subst (λ (r : Bool). Follows p st (made_played h 0 r counts next p) next (replicate (made_count 0 r) s)) is.1
    (subst (λ (n : ℕ). Follows p st (made_played h n refused counts next p) next (replicate (made_count n refused) s)) is.0 follows) in
    let both = one start moves watches stands at in
    let told : made_played h 0 true counts next p ≡ played_with counts (p.calls + 1) (all_after h next p.watching) =
    ap (played_with counts (p.calls + 1)) (sym (made_same h 0 next next p.watching) ∙ ap (all_after h next) (each_none next p.watching)) in
    (subst (λ (q : Played). StandsFor q start (moves ++ s ∷ []) watches) told both.0, both.1)
