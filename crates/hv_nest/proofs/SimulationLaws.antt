-- What a machine sees stays what it sees while it writes through its map, and nothing else changes.
use Rattle.std.proofs.Common.{◌≡◌, ℕ, ◌+◌, ◌-◌, ◌*◌, ◌/◌, ◌<◌, ◌≤◌, inl, inr, List, Option, Some, None, refl, ap, ◌∙◌, sym, subst, arith, slice_get, length, length-set, get_or-set_other}
use Rattle.std.specs.Option.{option_map}
use Rattle.std.proofs.lemmas.Bool.{cases_eq}
use Rattle.std.proofs.lemmas.Grind.{get_or-set_at}
use Rattle.std.proofs.lemmas.Option.{slice_get_within, same_Some}
use Rattle.hv_word.specs.Storage.{page_count, word_at, with_word}
use Rattle.hv_cpu.specs.Regs.{Regs}
use Rattle.hv_store.specs.declared.access.Slot.{Slot}
use Rattle.hv_store.specs.declared.access.Way.{Way}
use Rattle.hv_store.specs.declared.access.Way.TheVariants.{Open}
use Rattle.hv_store.specs.Access.{identity}
use Rattle.hv_map.specs.Carried.{MapLike}
use Rattle.hv_limits.specs.Limits.{depth_limit}
use Rattle.hv_map.specs.Compose.{reading}
use Rattle.hv_map.proofs.Views.{identity_like}
use Rattle.hv_nest.specs.Step.{step_of, host_step_of}
use Rattle.hv_nest.specs.Simulation.{Sees, Simulation, StepLike, StillSees}
use Rattle.hv_nest.proofs.SimulatedAsks.{opened}
use Rattle.hv_nest.proofs.SimulatedSteps.{step_like}

-- the slot of a page, by its way for reading
read_slot : (F : List Slot) (y : ℕ) (way : Way) → reading F y ≡ Some way → (s : Slot) × (slice_get F y ≡ Some s) × (s.read ≡ way)
read_slot F y way = go (slice_get F y) refl
  where
    go : (o : Option Slot) → slice_get F y ≡ o → option_map (λ (s : Slot). s.read) o ≡ Some way → (s : Slot) × (slice_get F y ≡ Some s) × (s.read ≡ way)
    go None is e = absurd (let f : None ≡ Some way = e in cc)
    go (Some s) is e = (s, is, same_Some s.read way e)

same_open : (F : List Slot) (y x z : ℕ) → reading F y ≡ Some (Open x) → reading F y ≡ Some (Open z) → x ≡ z
same_open F y x z e f = let g : Some (Open x) ≡ Some (Open z) = sym e ∙ f in cc

module _ (k : ℕ) (F : List Slot) (S T : List ℕ) (sees : Sees k F S T) (y x w v : ℕ) (is_open : reading F y ≡ Some (Open x)) (lt : w < 1024) where
  in_host : 1024 * x + w < length S
  in_host = omega (arith, sees.inside y x is_open)

  in_guest : 1024 * y + w < length T
  in_guest =
      let r = read_slot F y (Open x) is_open in
      let h : y < length F = slice_get_within F y r.0 r.1 in
      omega (arith, sees.size)

  agree_after : (y' x' w' : ℕ) → reading F y' ≡ Some (Open x') → w' < 1024 → word_at S x' w' ≡ word_at T y' w' → word_at (with_word S x w v) x' w' ≡ word_at (with_word T y w v) y' w'
  agree_after y' x' w' e lt' same = elim (cases_eq (1024 * x' + w') (1024 * x + w)) [
    | inl h ↦
        let page : x' ≡ x = omega (arith, lt, lt') in
        let word : w' ≡ w = omega (arith, lt, lt') in
        let there : y' ≡ y = sees.apart y' y x (e ∙ ap (λ (g : ℕ). Some (Open g)) page) is_open in
        let h' : 1024 * y' + w' ≡ 1024 * y + w = omega arith in
        get_or-set_at S (1024 * x + w) (1024 * x' + w') v 0 h in_host
        ∙ sym (get_or-set_at T (1024 * y + w) (1024 * y' + w') v 0 h' in_guest)
    | inr ne ↦
        let ne' : 1024 * y' + w' ≡ 1024 * y + w → ⊥ =
        λ h.
        let there : y' ≡ y = omega (arith, lt, lt', h) in
        let word : w' ≡ w = omega (arith, lt, lt', h) in
        let page : x' ≡ x = same_open F y x' x (sym (ap (reading F) there) ∙ e) is_open in
        ne (omega (arith, page, word)) in
        get_or-set_other S (1024 * x + w) (1024 * x' + w') v 0 ne
        ∙ same
        ∙ sym (get_or-set_other T (1024 * y + w) (1024 * y' + w') v 0 ne')
  ]

  sees_write : Sees k F (with_word S x w v) (with_word T y w v)
  sees_write = record {
    apart = sees.apart;
    inside = λ y' x' e. subst (λ (n : ℕ). x' < n / 1024) (sym (length-set S (1024 * x + w) v)) (sees.inside y' x' e);
    same = sees.same;
    below = sees.below;
    size = length-set T (1024 * y + w) v ∙ sees.size;
    agree = λ y' x' w' s is read lt'. agree_after y' x' w' (opened F y' x' s is read) lt' (sees.agree y' x' w' s is read lt');
  }

module _ (k : ℕ) (F : List Slot) (A B : List ℕ) where
  write_kept : (S T : List ℕ) (y x w v : ℕ) → StillSees k F A B S T → reading F y ≡ Some (Open x) → w < 1024 → StillSees k F A B (with_word S x w v) (with_word T y w v)
  write_kept S T y x w v still is_open lt = record {
    sees = sees_write k F S T still.sees y x w v is_open lt;
    size = length-set S (1024 * x + w) v ∙ still.size;
    host = λ x' w' closed lt'.
        let ne : 1024 * x' + w' ≡ 1024 * x + w → ⊥ =
        λ h.
        let r = read_slot F y (Open x) is_open in
        let page : x ≡ x' = omega (arith, lt, lt', h) in
        closed (y, r.0, r.1, r.2 ∙ ap Open page) in
        get_or-set_other S (1024 * x + w) (1024 * x' + w') v 0 ne ∙ still.host x' w' closed lt';
    guest = λ y' w' closed lt'.
        let ne : 1024 * y' + w' ≡ 1024 * y + w → ⊥ =
        λ h.
        let page : y' ≡ y = omega (arith, lt, lt', h) in
        closed x (ap (reading F) page ∙ is_open) in
        get_or-set_other T (1024 * y + w) (1024 * y' + w') v 0 ne ∙ still.guest y' w' closed lt';
  }

  pub still_simulates : Simulation k F (StillSees k F A B)
  still_simulates = record {
    sees = λ S T still. still.sees;
    write = λ S T y x w v still is_open lt. write_kept S T y x w v still is_open lt;
  }

pub starts : (k : ℕ) (F : List Slot) (S T : List ℕ) → Sees k F S T → StillSees k F S T S T
starts k F S T sees = record {
  sees = sees;
  size = refl;
  host = λ x w closed lt. refl;
  guest = λ y w closed lt. refl;
}

pub inner_simulation : (k : ℕ) (F : List Slot) (S T : List ℕ) (H G : List Slot) (j hart : ℕ) (r : Regs) → j + k ≤ depth_limit → Sees k F S T → MapLike k F H G → StepLike k (StillSees k F S T) (step_of (depth_limit - (j + k)) S H (j + k) hart r) (step_of (depth_limit - j) T G j hart r)
inner_simulation k F S T H G j hart r bound sees like =
    let fuel : depth_limit - j ≡ depth_limit - (j + k) + k = omega (arith, bound) in
    step_like k F (StillSees k F S T) (still_simulates k F S T) (depth_limit - (j + k)) (depth_limit - j) fuel S T H G j hart r (starts k F S T sees) like

pub simulation : (k : ℕ) (F : List Slot) (S T : List ℕ) (hart : ℕ) (r : Regs) → k ≤ depth_limit → Sees k F S T → StepLike k (StillSees k F S T) (step_of (depth_limit - k) S F k hart r) (host_step_of T hart r)
unfolding host_step_of
simulation k F S T hart r bound sees =
    let level : 0 + k ≡ k = omega arith in
    let fuel : depth_limit ≡ depth_limit - k + k = omega (arith, bound) in
    let pages : length F ≡ page_count T = omega (arith, sees.size) in
    let like : MapLike k F F (identity (page_count T)) = subst (λ (n : ℕ). MapLike k F F (identity n)) pages (identity_like k F) in
    subst (λ (l : ℕ). StepLike k (StillSees k F S T) (step_of (depth_limit - k) S F l hart r) (step_of depth_limit T (identity (page_count T)) 0 hart r)) level
    (step_like k F (StillSees k F S T) (still_simulates k F S T) (depth_limit - k) depth_limit fuel S T F (identity (page_count T)) 0 hart r (starts k F S T sees) like)
