-- Of each watch, whether its path begins the running one.
use Rattle.std.proofs.Common.{◌≡◌, ℕ, ◌<◌, Bool, true, false, List, [], ◌∷◌, length, get_or, refl, sym, ap, ◌∙◌}
use Rattle.std.proofs.lemmas.List.{get_or-map}
use Rattle.hv_nest.specs.State.{State}
use Rattle.hv_nest.specs.Watched.{begins}
use Rattle.hv_run.specs.Record.{WatchRecord}
use Rattle.hv_run.specs.Play.{Happened, Watching, record_after, all_after, inside_of}

-- what is told of a watch after a move is told of the same path
path_kept : (counts touching : Bool) (old new : ℕ) (w : WatchRecord) → (record_after counts touching old new w).path ≡ w.path
path_kept true touching old new w = refl
path_kept false touching old new w = refl

-- so the watches whose paths begin the running one are the same
inside_kept : (running : List ℕ) (h : Happened) (st : State) (ws : List Watching) → inside_of running (all_after h st ws) ≡ inside_of running ws
inside_kept running h st [] = refl
inside_kept running h st (w ∷ ws) =
    ap (λ (p : List ℕ). begins p running ∷ inside_of running (all_after h st ws)) (path_kept _ _ _ _ w.so_far)
    ∙ ap (λ (bs : List Bool). begins w.so_far.path running ∷ bs) (inside_kept running h st ws)

-- and what was found of them before the move still holds
pub inside_after : (running : List ℕ) (h : Happened) (st : State) (ws xs : List Watching) (bs : List Bool) → xs ≡ all_after h st ws → bs ≡ inside_of running ws → bs ≡ inside_of running xs
inside_after running h st ws xs bs told is =
    is ∙ sym (inside_kept running h st ws) ∙ ap (inside_of running) (sym told)

-- what was found of one watch
pub inside_at : (running : List ℕ) (ws : List Watching) (bs : List Bool) (i : ℕ) (d : Bool) (w : Watching) → i < length ws → bs ≡ inside_of running ws → get_or bs i d ≡ begins (get_or ws i w).so_far.path running
inside_at running ws bs i d w lt is =
    ap (λ (cs : List Bool). get_or cs i d) is
    ∙ get_or-map (λ (v : Watching). begins v.so_far.path running) ws i w d lt
