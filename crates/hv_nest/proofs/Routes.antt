-- Where the refusal goes that the machine at the end of the running path comes to.
use Rattle.std.proofs.Common.{◌≡◌, ◌≢◌, ℕ, zero, suc, ◌+◌, ◌<◌, inl, inr, Bool, true, false, cond, ◌==◌, is_some, IfSome, IsSome, List, [], ◌∷◌, length, take, Option, Some, None, refl, ap, ◌∙◌, sym, subst, arith, slice_get, get_or, option_map, option_and_then}
use Rattle.std.proofs.lemmas.Option.{same_Some, slice_get-get_or}
use Rattle.std.proofs.lemmas.Bool.{eq-eqb, ne_eqb}
use Rattle.hv_word.specs.Storage.{page_count}
use Rattle.hv_cpu.specs.Regs.{Regs}
use Rattle.hv_store.specs.declared.access.Access.{Access}
use Rattle.hv_store.specs.declared.access.Access.TheVariants.{Write}
use Rattle.hv_store.specs.declared.access.Refusal.{Refusal}
use Rattle.hv_store.specs.declared.access.Slot.{Slot}
use Rattle.hv_store.specs.declared.access.Way.{Way}
use Rattle.hv_store.specs.declared.access.Way.TheVariants.{Open, Shut}
use Rattle.hv_store.specs.Access.{way_for, refused, identity, open_at}
use Rattle.hv_store.proofs.Identity.{length-identity}
use Rattle.hv_block.specs.Block.{Contents, block_of}
use Rattle.hv_map.specs.Item.{Item}
use Rattle.hv_map.specs.Chain.{along, map_along, pin_of, map_of, running_path}
use Rattle.hv_limits.specs.Limits.{depth_limit}
use Rattle.hv_map.specs.Trail.{trail_of}
use Rattle.hv_map.proofs.Trails.{trail_law}
use Rattle.hv_map.proofs.Views.{identity_below}
use Rattle.hv_nest.specs.Step.{Stepped, Worked, Recalled, Faulted, Barred, malformed, too_deep, step_of, host_step_of}
use Rattle.hv_nest.specs.Asks.{Ask, asks, refusal_through, refusal_at, refusal_of, first_refused}
use Rattle.hv_nest.specs.Received.{IsFaultWord, GetsBack, HasBlock, IsReceived}
use Rattle.hv_nest.specs.Routing.{regs_along, hart_along, is_calm, refused_ask, HasMalformed, fault_of, is_map_cause, refusal_on_trail, IsRouted}
use Rattle.hv_nest.proofs.Causes.{TellsAll, tells_all, identity_tells, along_tells}
use Rattle.hv_nest.proofs.Received.{Received, identity_inside}
use Rattle.hv_nest.proofs.Refused.{first_refusal}
use Rattle.hv_nest.proofs.Reasons.{reason_of, PassedBelow, blocked_by, blocked_through, blocked_at, stopped, ended, left, level_along, Trace, trace}

-- the ask that is found is refused
first_some : (F : List Slot) (qs : List Ask) (q : Ask) → first_refused F qs ≡ Some q → (e : Refusal) × (refusal_of F q ≡ Some e)
unfolding first_refused
first_some F [] q is = absurd (let f : None ≡ Some q = is in cc)
first_some F (p ∷ ps) q is = go (λ f. first_some F ps q f) (refusal_of F p) refl is
  where
    go : (first_refused F ps ≡ Some q → (e : Refusal) × (refusal_of F q ≡ Some e)) → (o : Option Refusal) → refusal_of F p ≡ o → cond (is_some o) (Some p) (first_refused F ps) ≡ Some q → (e : Refusal) × (refusal_of F q ≡ Some e)
    go later None at f = later f
    go later (Some e) at f = (e, ap (refusal_of F) (sym (same_Some p q f)) ∙ at)

module _ (S path : List ℕ) (F : List Slot) (tells : TellsAll F) (trails : (i : ℕ) (s : Slot) (a : Access) → slice_get F i ≡ Some s → trail_of S path i a ≡ Some (way_for s a)) where
  -- what the map refuses is what the trail says, with a map's cause
  pub record OnTrail (q : Ask) (e : Refusal) : Type 0 where
    pub trail : Some e ≡ refusal_on_trail S path q
    pub cause : is_map_cause e.cause ≡ true

  through_cause : (q : Ask) (s : Slot) (way : Way) (e : Refusal) → slice_get F q.page ≡ Some s → way_for s q.access ≡ way → refusal_through way q.word q.access ≡ Some e → is_map_cause e.cause ≡ true
  through_cause q s (Open g) e there at is = absurd (let f : None ≡ Some e = is in cc)
  through_cause q s (Shut l c p None) e there at is =
      let same : c ≡ e.cause = ap (λ (x : Refusal). x.cause) (same_Some (refused l c p None q.word q.access) e is) in
      subst (λ (x : ℕ). is_map_cause x ≡ true) same (tells_all F tells q.page s q.access l c p None there at)
  through_cause q s (Shut l c p (Some w)) e there at is =
      let same : c ≡ e.cause = ap (λ (x : Refusal). x.cause) (same_Some (refused l c p (Some w) q.word q.access) e is) in
      subst (λ (x : ℕ). is_map_cause x ≡ true) same (tells_all F tells q.page s q.access l c p (Some w) there at)

  pub on_trail : (q : Ask) (e : Refusal) → refusal_of F q ≡ Some e → OnTrail q e
  on_trail q e = go (slice_get F q.page) refl
    where
      go : (o : Option Slot) → slice_get F q.page ≡ o → refusal_at o q.word q.access ≡ Some e → OnTrail q e
      go None there is = absurd (let f : None ≡ Some e = is in cc)
      go (Some s) there is = record {
        trail = sym (ap (option_and_then (λ (way : Way). refusal_through way q.word q.access)) (trails q.page s q.access there) ∙ is);
        cause = through_cause q s (way_for s q.access) e there refl is;
      }

  module _ (hart : ℕ) (c : Regs) where
    IsDeep : Type 0
    IsDeep = (length path ≡ depth_limit) × (c.next ≢ 0)

    IsBad : Type 0
    IsBad = (c.next ≢ 0) × (length path < depth_limit) × HasMalformed S F c.next

    none_asked : refused_ask S F (length path) hart c ≡ None → IsSome (refused_ask S F (length path) hart c) → ⊥
    none_asked e some = let f : false ≡ true = sym (ap (λ (o : Option Ask). is_some o) e) ∙ some in cc

    -- nothing was refused
    ends_none : refused_ask S F (length path) hart c ≡ None → (IsDeep → ⊥) → (IsBad → ⊥) → IsRouted S path F hart c None
    unfolding IsDeep IsBad
    ends_none e deep bad = record {
      deep = (λ f. absurd f, λ d. absurd (deep d));
      deep_told = λ f. absurd f;
      block = (λ f. absurd f, λ m. absurd (bad m));
      block_told = λ f. absurd f;
      map = (λ f. absurd f, λ some. absurd (none_asked e some));
      map_told = subst (λ (o : Option Ask). IfSome o (λ q. None ≡ refusal_on_trail S path q)) (sym e) tt;
      whole = tt;
    }

    -- it is too deep
    ends_deep : refused_ask S F (length path) hart c ≡ None → IsDeep → IsRouted S path F hart c (Some (too_deep c.next))
    unfolding IsDeep
    ends_deep e deep = record {
      deep = (λ f. deep, λ d. (refl, refl));
      deep_told = λ f. refl;
      block = (λ f. absurd (let g : 5 ≡ 6 = f.0 in omega arith), λ m. absurd (let h : length path < depth_limit = m.1 in let g : length path ≡ depth_limit = deep.0 in omega arith));
      block_told = λ f. absurd (let g : 5 ≡ 6 = f.0 in omega arith);
      map = (λ f. absurd (let g : false ≡ true = f in cc), λ some. absurd (none_asked e some));
      map_told = subst (λ (o : Option Ask). IfSome o (λ q. Some (too_deep c.next) ≡ refusal_on_trail S path q)) (sym e) tt;
      whole = inl (refl, refl);
    }

    -- a block is malformed
    ends_bad : refused_ask S F (length path) hart c ≡ None → IsBad → IsRouted S path F hart c (Some (malformed (length path) c.next))
    unfolding IsBad
    ends_bad e bad = record {
      deep = (λ f. absurd (let g : 6 ≡ 5 = f.0 in omega arith), λ d. absurd (let h : length path < depth_limit = bad.1 in let g : length path ≡ depth_limit = d.0 in omega arith));
      deep_told = λ f. absurd (let g : 6 ≡ 5 = f.0 in omega arith);
      block = (λ f. bad, λ m. (refl, refl));
      block_told = λ f. refl;
      map = (λ f. absurd (let g : false ≡ true = f in cc), λ some. absurd (none_asked e some));
      map_told = subst (λ (o : Option Ask). IfSome o (λ q. Some (malformed (length path) c.next) ≡ refusal_on_trail S path q)) (sym e) tt;
      whole = inr (inl (refl, refl));
    }

    -- a map refuses
    not_cause : (x : ℕ) (e : Refusal) → is_map_cause e.cause ≡ true → is_map_cause x ≡ false → e.cause ≡ x → ⊥
    not_cause x e has hasnt same = let f : true ≡ false = sym has ∙ ap is_map_cause same ∙ hasnt in cc

    ends_map : (q : Ask) (e : Refusal) → refused_ask S F (length path) hart c ≡ Some q → OnTrail q e → (IsDeep → ⊥) → (IsBad → ⊥) → IsRouted S path F hart c (Some e)
    unfolding IsDeep IsBad
    ends_map q e is on deep bad = record {
      deep = (λ f. absurd (not_cause 5 e on.cause refl f.0), λ d. absurd (deep d));
      deep_told = λ f. absurd (not_cause 5 e on.cause refl f.0);
      block = (λ f. absurd (not_cause 6 e on.cause refl f.0), λ m. absurd (bad m));
      block_told = λ f. absurd (not_cause 6 e on.cause refl f.0);
      map = (λ f. ap (λ (o : Option Ask). is_some o) is, λ some. on.cause);
      map_told = subst (λ (o : Option Ask). IfSome o (λ p. Some e ≡ refusal_on_trail S path p)) (sym is) on.trail;
      whole = inr (inr on.cause);
    }

    -- the machine executes an instruction
    acts : (n : ℕ) → c.next ≡ 0 → IsRouted S path F hart c (ended n S F (length path) hart c)
    unfolding IsDeep IsBad
    acts n none = go (first_refused F (asks S F hart c)) refl
      where
        test : (c.next == 0) ≡ true
        test = eq-eqb c.next 0 none

        fault_is : ended n S F (length path) hart c ≡ first_refusal F (asks S F hart c)
        fault_is = ap (λ (b : Bool). cond b (first_refusal F (asks S F hart c)) (stopped n S F (length path) c.next)) test

        asked_is : refused_ask S F (length path) hart c ≡ first_refused F (asks S F hart c)
        asked_is = ap (λ (b : Bool). first_refused F (cond b (asks S F hart c) (cond (length path == depth_limit) [] (record { page = c.next; word = 0; access = Write } ∷ [])))) test

        found : (q : Ask) → first_refused F (asks S F hart c) ≡ Some q → (e : Refusal) × (refusal_of F q ≡ Some e) → IsRouted S path F hart c (ended n S F (length path) hart c)
        found q is r =
            subst (IsRouted S path F hart c) (sym (fault_is ∙ ap (option_and_then (refusal_of F)) is ∙ r.1))
            (ends_map q r.0 (asked_is ∙ is) (on_trail q r.0 r.1) (λ d. d.1 none) (λ m. m.0 none))

        go : (o : Option Ask) → first_refused F (asks S F hart c) ≡ o → IsRouted S path F hart c (ended n S F (length path) hart c)
        go None is =
            subst (IsRouted S path F hart c) (sym (fault_is ∙ ap (option_and_then (refusal_of F)) is))
            (ends_none (asked_is ∙ is) (λ d. d.1 none) (λ m. m.0 none))
        go (Some q) is = found q is (first_some F (asks S F hart c) q is)

    module _ (some : c.next ≢ 0) where
      fault_next : (n : ℕ) → ended n S F (length path) hart c ≡ stopped n S F (length path) c.next
      fault_next n = ap (λ (b : Bool). cond b (first_refusal F (asks S F hart c)) (stopped n S F (length path) c.next)) (ne_eqb c.next 0 some)

      asked_next : refused_ask S F (length path) hart c ≡ first_refused F (cond (length path == depth_limit) [] (record { page = c.next; word = 0; access = Write } ∷ []))
      asked_next = ap (λ (b : Bool). first_refused F (cond b (asks S F hart c) (cond (length path == depth_limit) [] (record { page = c.next; word = 0; access = Write } ∷ [])))) (ne_eqb c.next 0 some)

      -- at the deepest level
      at_limit : length path ≡ depth_limit → IsRouted S path F hart c (ended zero S F (length path) hart c)
      unfolding IsDeep first_refused
      at_limit deep =
          subst (IsRouted S path F hart c) (sym (fault_next zero))
          (ends_deep (asked_next ∙ ap (λ (b : Bool). first_refused F (cond b [] (record { page = c.next; word = 0; access = Write } ∷ []))) (eq-eqb (length path) depth_limit deep)) (deep, some))

      module _ (short : length path < depth_limit) where
        block_ask : Ask
        block_ask = record { page = c.next; word = 0; access = Write }

        asked_block : refused_ask S F (length path) hart c ≡ cond (is_some (refusal_at (slice_get F c.next) 0 Write)) (Some record { page = c.next; word = 0; access = Write }) None
        unfolding first_refused
        asked_block =
            asked_next
            ∙ ap (λ (b : Bool). first_refused F (cond b [] (record { page = c.next; word = 0; access = Write } ∷ [])))
            (ne_eqb (length path) depth_limit (λ e. absurd (omega arith)))

        not_deep : IsDeep → ⊥
        unfolding IsDeep
        not_deep d = let g : length path ≡ depth_limit = d.0 in omega arith

        -- the page of the block is open for writing
        module _ (slot : Slot) (g : ℕ) (there : slice_get F c.next ≡ Some slot) (writes : slot.write ≡ Open g) where
          none_refused : refused_ask S F (length path) hart c ≡ None
          none_refused =
              asked_block
              ∙ ap (λ (o : Option Slot). cond (is_some (refusal_at o 0 Write)) (Some record { page = c.next; word = 0; access = Write }) None) there
              ∙ ap (λ (way : Way). cond (is_some (refusal_through way 0 Write)) (Some record { page = c.next; word = 0; access = Write }) None) writes

          same_host : (slot' : Slot) (h : ℕ) → slice_get F c.next ≡ Some slot' → slot'.write ≡ Open h → g ≡ h
          same_host slot' h at opens =
              let same : slot ≡ slot' = same_Some slot slot' (sym there ∙ at) in
              let ways : Open g ≡ Open h = sym writes ∙ ap (λ (s : Slot). s.write) same ∙ opens in
              cc

          by_block : (o : Option Contents) → block_of S g ≡ o → IsRouted S path F hart c (blocked_by (length path) c.next o)
          unfolding IsBad
          by_block None is = ends_bad none_refused (some, short, record { slot = slot; host = g; there = there; writes = writes; bad = is })
          by_block (Some contents) is = ends_none none_refused not_deep (λ m. absurd (let f : None ≡ Some contents = sym m.2.bad ∙ ap (block_of S) (sym (same_host m.2.slot m.2.host m.2.there m.2.writes)) ∙ is in cc))

        -- it isn't
        shut_refused : (slot : Slot) (l k p : ℕ) (w : Option ℕ) (e : Refusal) → slice_get F c.next ≡ Some slot → slot.write ≡ Shut l k p w → Some (refused l k p w 0 Write) ≡ Some e → IsRouted S path F hart c (Some e)
        unfolding IsBad
        shut_refused slot l k p w e there writes is =
            let refusal : refusal_of F (record { page = c.next; word = 0; access = Write }) ≡ Some e =
            ap (λ (o : Option Slot). refusal_at o 0 Write) there ∙ ap (λ (way : Way). refusal_through way 0 Write) writes ∙ is in
            ends_map (record { page = c.next; word = 0; access = Write }) e
            (asked_block ∙ ap (λ (o : Option Refusal). cond (is_some o) (Some record { page = c.next; word = 0; access = Write }) None) refusal)
            (on_trail (record { page = c.next; word = 0; access = Write }) e refusal)
            not_deep
            (λ m. absurd (not_open m.2.slot m.2.host m.2.there m.2.writes))
          where
            not_open : (slot' : Slot) (h : ℕ) → slice_get F c.next ≡ Some slot' → slot'.write ≡ Open h → ⊥
            not_open slot' h at opens =
                let same : slot ≡ slot' = same_Some slot slot' (sym there ∙ at) in
                let ways : Shut l k p w ≡ Open h = sym writes ∙ ap (λ (s : Slot). s.write) same ∙ opens in
                cc

        by_way : (slot : Slot) (way : Way) → slice_get F c.next ≡ Some slot → slot.write ≡ way → IsRouted S path F hart c (blocked_through S (length path) c.next way)
        by_way slot (Open g) there writes = by_block slot g there writes (block_of S g) refl
        by_way slot (Shut l k p w) there writes = shut_refused slot l k p w (refused l k p w 0 Write) there writes refl

        by_slot : c.next < length F → (o : Option Slot) → slice_get F c.next ≡ o → IsRouted S path F hart c (blocked_at S (length path) c.next o)
        by_slot inside None there =
            absurd (let f : None ≡ Some (get_or F c.next (open_at 0)) = sym there ∙ slice_get-get_or F c.next (open_at 0) inside in cc)
        by_slot inside (Some slot) there = by_way slot slot.write there refl

        below_limit : (n : ℕ) → c.next < length F → IsRouted S path F hart c (ended (suc n) S F (length path) hart c)
        below_limit n inside = subst (IsRouted S path F hart c) (sym (fault_next (suc n))) (by_slot inside (slice_get F c.next) refl)

    by_left : (n : ℕ) → n + length path ≡ depth_limit → c.next < length F → c.next ≢ 0 → IsRouted S path F hart c (ended n S F (length path) hart c)
    by_left zero level inside some = at_limit some (omega arith)
    by_left (suc n) level inside some = below_limit some (omega arith) n inside

    pub routed : (n : ℕ) → n + length path ≡ depth_limit → c.next < length F → IsRouted S path F hart c (ended n S F (length path) hart c)
    routed n level inside = go (Rattle.std.proofs.lemmas.Bool.cases_eq c.next 0)
      where
        go : Rattle.std.proofs.Common.◌⊎◌ (c.next ≡ 0) (c.next ≡ 0 → ⊥) → IsRouted S path F hart c (ended n S F (length path) hart c)
        go (inl none) = acts n none
        go (inr some) = by_left n level inside some

-- the level of the last machine, and how many more there may be below it
level_is : (j : ℕ) (xs : List Item) → level_along j xs ≡ j + length xs
level_is j [] = omega arith
level_is j (x ∷ xs) = level_is (j + 1) xs ∙ (let e : j + 1 + length xs ≡ j + suc (length xs) = omega arith in e)

left_is : (n : ℕ) (xs : List Item) → Rattle.std.proofs.Common.◌≤◌ (length xs) n → left n xs + length xs ≡ n
left_is n [] h = omega arith
left_is zero (x ∷ xs) h = absurd (omega arith)
left_is (suc n) (x ∷ xs) h = let e : left n xs + length xs ≡ n = left_is n xs (omega arith) in omega (arith, e)

-- the bare machine passes nothing on
fault_is_reason : (X : Stepped) → PassedBelow 0 X → fault_of X ≡ reason_of X
fault_is_reason (Worked S r) h = refl
fault_is_reason (Recalled l S r) h = refl
fault_is_reason (Faulted l c address a S r) h = refl
fault_is_reason (Barred e) h = absurd (omega arith)

module _ (S : List ℕ) (hart : ℕ) (r : Regs) (t : Trace depth_limit S (identity (page_count S)) 0 hart r) where
  fault_is : fault_of (host_step_of S hart r) ≡ cond (is_calm S t.items r) (ended (left depth_limit t.items) S (along S (identity (page_count S)) 0 t.items) (level_along 0 t.items) (hart_along t.items hart) (regs_along S t.items r)) None
  unfolding host_step_of
  fault_is = fault_is_reason (step_of depth_limit S (identity (page_count S)) 0 hart r) t.below ∙ t.reason

  pins : pin_of S (running_path S r) ≡ Some t.items
  unfolding pin_of
  pins = t.there

  maps : map_of S (running_path S r) ≡ Some (along S (identity (page_count S)) 0 t.items)
  unfolding map_along
  maps = ap (option_map (map_along S)) pins

  calm_routed : is_calm S t.items r ≡ true → IsRouted S (running_path S r) (map_along S t.items) (hart_along t.items hart) (regs_along S t.items r) (fault_of (host_step_of S hart r))
  unfolding map_along
  calm_routed calm =
      let F : List Slot = along S (identity (page_count S)) 0 t.items in
      let path : List ℕ = running_path S r in
      let size : length t.items ≡ length path = t.size in
      let level : level_along 0 t.items ≡ length path = omega (arith, level_is 0 t.items, size) in
      let rest : left depth_limit t.items + length path ≡ depth_limit = omega (arith, left_is depth_limit t.items t.short, size) in
      subst (IsRouted S path F (hart_along t.items hart) (regs_along S t.items r))
      (sym (fault_is
      ∙ ap (λ (b : Bool). cond b (ended (left depth_limit t.items) S F (level_along 0 t.items) (hart_along t.items hart) (regs_along S t.items r)) None) calm
      ∙ ap (λ (k : ℕ). ended (left depth_limit t.items) S F k (hart_along t.items hart) (regs_along S t.items r)) level))
      (routed S path F (along_tells S (identity (page_count S)) 0 t.items (identity_tells (page_count S))) (λ i s a is. trail_law S path F i s a maps is)
      (hart_along t.items hart) (regs_along S t.items r) (left depth_limit t.items) rest t.inside)

  pending_none : is_calm S t.items r ≡ false → fault_of (host_step_of S hart r) ≡ None
  pending_none calm =
      fault_is
      ∙ ap (λ (b : Bool). cond b (ended (left depth_limit t.items) S (along S (identity (page_count S)) 0 t.items) (level_along 0 t.items) (hart_along t.items hart) (regs_along S t.items r)) None) calm

  -- the levels of the receivers are counted from the bare machine
  received_is : (X : Stepped) → PassedBelow 0 X → Received S (identity (page_count S)) 0 t.items r X → IsReceived S t.items r X
  unfolding map_along
  received_is (Worked T q) below h = tt
  received_is (Recalled l T q) below h =
      let level : h.deep ≡ l = omega (arith, h.level) in
      subst (λ (k : ℕ). GetsBack S t.items r k (λ g w. ⊥) T q) level h.back
  received_is (Faulted l cause address a T q) below h =
      let level : h.deep ≡ l = omega (arith, h.level) in (
        h.block,
        subst (λ (k : ℕ). GetsBack S t.items r k (IsFaultWord h.block) T q) level h.back,
        subst (λ (k : ℕ). HasBlock (along S (identity (page_count S)) 0 (take k t.items)) (regs_along S (take k t.items) r).next h.block) level h.has,
        h.tells,
      )
  received_is (Barred e) below h = absurd (omega arith)

  step_received : IsReceived S t.items r (host_step_of S hart r)
  unfolding host_step_of
  step_received = received_is (step_of depth_limit S (identity (page_count S)) 0 hart r) t.below t.received

  from_trace : (items : List Item)
      × (pin_of S (running_path S r) ≡ Some items)
      × (is_calm S items r ≡ true → IsRouted S (running_path S r) (map_along S items) (hart_along items hart) (regs_along S items r) (fault_of (host_step_of S hart r)))
      × (is_calm S items r ≡ false → fault_of (host_step_of S hart r) ≡ None)
  from_trace = (t.items, pins, calm_routed, pending_none)

-- the step of a hart, followed
host_trace : (S : List ℕ) (hart : ℕ) (r : Regs) → r.next < page_count S → Trace depth_limit S (identity (page_count S)) 0 hart r
host_trace S hart r inside =
    let within : r.next < length (identity (page_count S)) = omega (arith, length-identity (page_count S)) in
    trace depth_limit S (identity (page_count S)) 0 hart r (identity_below (page_count S)) (identity_inside (page_count S)) within (omega arith)

pub routing : (S : List ℕ) (hart : ℕ) (r : Regs) → r.next < page_count S
    → (items : List Item)
    × (pin_of S (running_path S r) ≡ Some items)
    × (is_calm S items r ≡ true → IsRouted S (running_path S r) (map_along S items) (hart_along items hart) (regs_along S items r) (fault_of (host_step_of S hart r)))
    × (is_calm S items r ≡ false → fault_of (host_step_of S hart r) ≡ None)
routing S hart r inside = from_trace S hart r (host_trace S hart r inside)

pub receiving : (S : List ℕ) (hart : ℕ) (r : Regs) → r.next < page_count S → (items : List Item) × (pin_of S (running_path S r) ≡ Some items) × IsReceived S items r (host_step_of S hart r)
receiving S hart r inside =
    let t = host_trace S hart r inside in
    (t.items, pins S hart r t, step_received S hart r t)
