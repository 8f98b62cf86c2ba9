-- An instruction is refused exactly as the first of its asks that is.
use Rattle.std.proofs.Common.{◌≡◌, ℕ, ◌/◌, ◌%◌, Bool, true, false, cond, not, ◌&&◌, ◌==◌, is_some, List, [], ◌∷◌, ◌++◌, Option, Some, None, Ok, refl, ap, ◌∙◌, sym, slice_get, option_and_then}
use Rattle.std.specs.Option.{option_or}
use Rattle.std.specs.Prelude.{nat_lt}
use Rattle.hv_word.specs.Words.{field_of}
use Rattle.hv_word.specs.Storage.{word_at}
use Rattle.hv_word.specs.declared.Lane.{Lane}
use Rattle.hv_cpu.specs.Regs.{Regs}
use Rattle.hv_isa.specs.declared.Instr.{Instr}
use Rattle.hv_isa.specs.Table.{decode_of}
use Rattle.hv_store.specs.declared.access.Access.{Access}
use Rattle.hv_store.specs.declared.access.Access.TheVariants.{Read, Write, Fetch}
use Rattle.hv_store.specs.declared.access.Refusal.{Refusal}
use Rattle.hv_store.specs.declared.access.Slot.{Slot}
use Rattle.hv_store.specs.declared.access.Way.{Way}
use Rattle.hv_store.specs.declared.access.Way.TheVariants.{Open, Shut}
use Rattle.hv_store.specs.Access.{read_through, get_at, get, write_through, put_at, clear_through, cleared_at, cleared}
use Rattle.hv_sv32.specs.Entry.{is_faulty, is_leaf, is_plain, page_of, grants}
use Rattle.hv_sv32.specs.Stop.{Walked, Found, TrapWith, RefusedBy}
use Rattle.hv_sv32.specs.Walk.{barred, outside, located, at_second, from_second, through_second, large_page, at_first, from_first, is_bare, through_first, walk_of}
use Rattle.hv_exec.specs.Answer.{Answer, Next, Trap, Load, Store, Enter}
use Rattle.hv_exec.specs.Do.{do_of}
use Rattle.hv_exec.specs.Memory.{lane_at}
use Rattle.hv_exec.specs.Act.{Acted, Done, Refused, trapped, loaded, load_at, stored, store_at, entered, enter_at, carried_out, decoded, fetched, fetch_at, act_of}
use Rattle.hv_nest.specs.Asks.{Ask, second_ask, walk_asks, place_ask, address_asks, enter_ask, answer_asks, decoded_asks, fetched_asks, found_asks, asks, refusal_through, refusal_at, refusal_of, first_refused}

or-none : (o : Option Refusal) → option_or o None ≡ o
or-none None = refl
or-none (Some e) = refl

or-or : (a b c : Option Refusal) → option_or a (option_or b c) ≡ option_or (option_or a b) c
or-or None b c = refl
or-or (Some e) b c = refl

-- the refusal of the first ask that is refused
abbrev pub first_refusal : List Slot → List Ask → Option Refusal
first_refusal F qs = option_and_then (refusal_of F) (first_refused F qs)

first-empty : (F : List Slot) → first_refusal F [] ≡ None
unfolding first_refused
first-empty F = refl

first-cons : (F : List Slot) (q : Ask) (qs : List Ask) → first_refusal F (q ∷ qs) ≡ option_or (refusal_of F q) (first_refusal F qs)
unfolding first_refused
first-cons F q qs = go (refusal_of F q) refl
  where
    go : (o : Option Refusal) → refusal_of F q ≡ o → option_and_then (refusal_of F) (cond (is_some o) (Some q) (first_refused F qs)) ≡ option_or o (first_refusal F qs)
    go None e = refl
    go (Some x) e = e

pub first-one : (F : List Slot) (q : Ask) → first_refusal F (q ∷ []) ≡ refusal_of F q
first-one F q = first-cons F q [] ∙ ap (option_or (refusal_of F q)) (first-empty F) ∙ or-none (refusal_of F q)

first-append : (F : List Slot) (ps qs : List Ask) → first_refusal F (ps ++ qs) ≡ option_or (first_refusal F ps) (first_refusal F qs)
first-append F [] qs = ap (λ (o : Option Refusal). option_or o (first_refusal F qs)) (sym (first-empty F))
first-append F (p ∷ ps) qs =
    first-cons F p (ps ++ qs)
    ∙ ap (option_or (refusal_of F p)) (first-append F ps qs)
    ∙ or-or (refusal_of F p) (first_refusal F ps) (first_refusal F qs)
    ∙ ap (λ (o : Option Refusal). option_or o (first_refusal F qs)) (sym (first-cons F p ps))

-- what a walk was refused
abbrev walk_refusal : Walked → Option Refusal
walk_refusal (Found page offset) = None
walk_refusal (TrapWith cause tval) = None
walk_refusal (RefusedBy e) = Some e

either : (b : Bool) (x y : Walked) → walk_refusal x ≡ None → walk_refusal y ≡ None → walk_refusal (cond b x y) ≡ None
either true x y p q = p
either false x y p q = q

module _ (S : List ℕ) (F : List Slot) (r : Regs) (address : ℕ) (a : Access) where
  placed_passes : (page : ℕ) → walk_refusal (located F page address a) ≡ None
  placed_passes page = either (nat_lt page (Rattle.std.specs.Prelude.length F)) (Found page (address % 4096)) (outside address a) refl refl

  second_passes : (e : ℕ) → walk_refusal (at_second F r address a e) ≡ None
  second_passes e =
      either (is_faulty e) (barred address a) (cond (is_leaf e && grants r a e) (located F (page_of e) address a) (barred address a)) refl
      (either (is_leaf e && grants r a e) (located F (page_of e) address a) (barred address a) (placed_passes (page_of e)) refl)

  second_way : (k : ℕ) (way : Way) → walk_refusal (from_second F r address a (Some (read_through S way k Read))) ≡ refusal_through way k Read
  second_way k (Open g) = second_passes (word_at S g k)
  second_way k (Shut l c p w) = refl

  second_slot : (k : ℕ) (o : Option Slot) → walk_refusal (from_second F r address a (get_at S o k Read)) ≡ refusal_at o k Read
  second_slot k None = refl
  second_slot k (Some s) = second_way k s.read

  -- by what the first entry is
  at_entry : (faulty leaf granted plain : Bool) (x y : Walked) (qs : List Ask)
      → walk_refusal x ≡ None
      → walk_refusal y ≡ first_refusal F qs
      → walk_refusal (cond faulty (barred address a) (cond leaf (cond granted x (barred address a)) (cond plain y (barred address a))))
      ≡ first_refusal F (cond (not faulty && (not leaf && plain)) qs [])
  at_entry true leaf granted plain x y qs p q = sym (first-empty F)
  at_entry false true true plain x y qs p q = p ∙ sym (first-empty F)
  at_entry false true false plain x y qs p q = sym (first-empty F)
  at_entry false false granted true x y qs p q = q
  at_entry false false granted false x y qs p q = sym (first-empty F)

  first_entry : (e : ℕ) → walk_refusal (at_first S F r address a e) ≡ first_refusal F (second_ask address (Some (Ok e)))
  first_entry e =
      let ask : Ask = record { page = page_of e; word = field_of address 12 10; access = Read } in
      at_entry (is_faulty e) (is_leaf e) ((field_of e 10 10 == 0) && grants r a e) (is_plain e)
      (located F (large_page e address) address a) (through_second S F r (page_of e) address a) (ask ∷ [])
      (placed_passes (large_page e address))
      (second_slot (field_of address 12 10) (slice_get F (page_of e)) ∙ sym (first-one F ask))

  first_way : (k : ℕ) (way : Way) → walk_refusal (from_first S F r address a (Some (read_through S way k Read))) ≡ option_or (refusal_through way k Read) (first_refusal F (second_ask address (Some (read_through S way k Read))))
  first_way k (Open g) = first_entry (word_at S g k)
  first_way k (Shut l c p w) = refl

  first_slot : (k : ℕ) (o : Option Slot) → walk_refusal (from_first S F r address a (get_at S o k Read)) ≡ option_or (refusal_at o k Read) (first_refusal F (second_ask address (get_at S o k Read)))
  first_slot k None = sym (first-empty F)
  first_slot k (Some s) = first_way k s.read

  walk_by : (bare : Bool) → walk_refusal (cond bare (located F (address / 4096) address a) (through_first S F r address a))
      ≡ first_refusal F (cond bare [] (record { page = field_of r.satp 0 22; word = field_of address 22 10; access = Read } ∷ second_ask address (get S F (field_of r.satp 0 22) (field_of address 22 10) Read)))
  walk_by true = placed_passes (address / 4096) ∙ sym (first-empty F)
  walk_by false =
      first_slot (field_of address 22 10) (slice_get F (field_of r.satp 0 22))
      ∙ sym (first-cons F (record { page = field_of r.satp 0 22; word = field_of address 22 10; access = Read }) (second_ask address (get S F (field_of r.satp 0 22) (field_of address 22 10) Read)))

  -- a walk is refused as the first of its asks that is
  walk_refused : walk_refusal (walk_of S F r address a) ≡ first_refusal F (walk_asks S F r address a)
  walk_refused = walk_by (is_bare r a)

  address_refused : option_or (walk_refusal (walk_of S F r address a)) (first_refusal F (place_ask a (walk_of S F r address a))) ≡ first_refusal F (address_asks S F r address a)
  address_refused =
      ap (λ (o : Option Refusal). option_or o (first_refusal F (place_ask a (walk_of S F r address a)))) walk_refused
      ∙ sym (first-append F (walk_asks S F r address a) (place_ask a (walk_of S F r address a)))

-- what an instruction was refused
abbrev pub act_refusal : Acted → Option Refusal
act_refusal (Done S r) = None
act_refusal (Refused e) = Some e

module _ (S : List ℕ) (F : List Slot) (r : Regs) where
  load_slot : (address : ℕ) (width : _) (signed : Bool) (rd offset k : ℕ) (o : Option Slot) → act_refusal (loaded S r address width signed rd offset (get_at S o k Read)) ≡ refusal_at o k Read
  load_slot address width signed rd offset k None = refl
  load_slot address width signed rd offset k (Some s) = go s.read
    where
      go : (way : Way) → act_refusal (loaded S r address width signed rd offset (Some (read_through S way k Read))) ≡ refusal_through way k Read
      go (Open g) = refl
      go (Shut l c p w) = refl

  load_walked : (address : ℕ) (width : _) (signed : Bool) (rd : ℕ) (at : Walked) → act_refusal (load_at S F r address width signed rd at) ≡ option_or (walk_refusal at) (first_refusal F (place_ask Read at))
  load_walked address width signed rd (Found page offset) =
      load_slot address width signed rd offset (offset / 4) (slice_get F page)
      ∙ sym (first-one F (record { page = page; word = offset / 4; access = Read }))
  load_walked address width signed rd (TrapWith cause tval) = sym (first-empty F)
  load_walked address width signed rd (RefusedBy e) = refl

  store_slot : (address k : ℕ) (lane : Lane) (v : ℕ) (o : Option Slot) → act_refusal (stored S r address (put_at S o k lane v)) ≡ refusal_at o k Write
  store_slot address k lane v None = refl
  store_slot address k lane v (Some s) = go s.write
    where
      go : (way : Way) → act_refusal (stored S r address (Some (write_through S way k lane v))) ≡ refusal_through way k Write
      go (Open g) = refl
      go (Shut l c p w) = refl

  store_walked : (address : ℕ) (width : _) (v : ℕ) (at : Walked) → act_refusal (store_at S F r address width v at) ≡ option_or (walk_refusal at) (first_refusal F (place_ask Write at))
  store_walked address width v (Found page offset) =
      store_slot address (offset / 4) (lane_at width offset) v (slice_get F page)
      ∙ sym (first-one F (record { page = page; word = offset / 4; access = Write }))
  store_walked address width v (TrapWith cause tval) = sym (first-empty F)
  store_walked address width v (RefusedBy e) = refl

  enter_slot : (value page : ℕ) (o : Option Slot) → act_refusal (entered S r value page (cleared_at S o)) ≡ refusal_at o 72 Write
  enter_slot value page None = refl
  enter_slot value page (Some s) = go s.write
    where
      go : (way : Way) → act_refusal (entered S r value page (Some (clear_through S way))) ≡ refusal_through way 72 Write
      go (Open g) = refl
      go (Shut l c p w) = refl

  enter_refused : (value : ℕ) → act_refusal (enter_at S F r value) ≡ first_refusal F (enter_ask value)
  enter_refused value = at_page (value % 4096 == 0) (value / 4096 == 0)
    where
      at_page : (whole none : Bool) → act_refusal (cond whole (cond none (trapped S r 7 value) (entered S r value (value / 4096) (cleared S F (value / 4096)))) (trapped S r 6 value))
          ≡ first_refusal F (cond whole (cond none [] (record { page = value / 4096; word = 72; access = Write } ∷ [])) [])
      at_page true true = sym (first-empty F)
      at_page true false =
          enter_slot value (value / 4096) (slice_get F (value / 4096))
          ∙ sym (first-one F (record { page = value / 4096; word = 72; access = Write }))
      at_page false none = sym (first-empty F)

  answer_refused : (answer : Answer) → act_refusal (carried_out S F r answer) ≡ first_refusal F (answer_asks S F r answer)
  unfolding carried_out
  answer_refused (Next q) = sym (first-empty F)
  answer_refused (Trap cause tval) = sym (first-empty F)
  answer_refused (Load address width signed rd) = load_walked address width signed rd (walk_of S F r address Read) ∙ address_refused S F r address Read
  answer_refused (Store address width v) = store_walked address width v (walk_of S F r address Write) ∙ address_refused S F r address Write
  answer_refused (Enter value) = enter_refused value

  decoded_refused : (hart w : ℕ) (o : Option Instr) → act_refusal (decoded S F hart r w o) ≡ first_refusal F (decoded_asks S F hart r w o)
  unfolding decoded
  decoded_refused hart w None = sym (first-empty F)
  decoded_refused hart w (Some i) = answer_refused (do_of i w r hart)

  fetch_slot : (hart k : ℕ) (o : Option Slot) → act_refusal (fetched S F hart r (get_at S o k Fetch)) ≡ option_or (refusal_at o k Fetch) (first_refusal F (fetched_asks S F hart r (get_at S o k Fetch)))
  fetch_slot hart k None = sym (first-empty F)
  fetch_slot hart k (Some s) = go s.fetch
    where
      go : (way : Way) → act_refusal (fetched S F hart r (Some (read_through S way k Fetch))) ≡ option_or (refusal_through way k Fetch) (first_refusal F (fetched_asks S F hart r (Some (read_through S way k Fetch))))
      go (Open g) = decoded_refused hart (word_at S g k) (decode_of (word_at S g k))
      go (Shut l c p w) = refl

  fetch_walked : (hart : ℕ) (at : Walked) → act_refusal (fetch_at S F hart r at) ≡ option_or (option_or (walk_refusal at) (first_refusal F (place_ask Fetch at))) (first_refusal F (found_asks S F hart r at))
  unfolding fetch_at
  fetch_walked hart (Found page offset) =
      fetch_slot hart (offset / 4) (slice_get F page)
      ∙ ap (λ (o : Option Refusal). option_or o (first_refusal F (fetched_asks S F hart r (get S F page (offset / 4) Fetch)))) (sym (first-one F (record { page = page; word = offset / 4; access = Fetch })))
  fetch_walked hart (TrapWith cause tval) = sym (ap (λ (o : Option Refusal). option_or o (first_refusal F [])) (first-empty F) ∙ first-empty F)
  fetch_walked hart (RefusedBy e) = refl

  -- an instruction is refused as the first of its asks that is
  pub act_refused : (hart : ℕ) → act_refusal (act_of S F hart r) ≡ first_refusal F (asks S F hart r)
  unfolding act_of asks
  act_refused hart =
      fetch_walked hart (walk_of S F r r.pc Fetch)
      ∙ ap (λ (o : Option Refusal). option_or o (first_refusal F (found_asks S F hart r (walk_of S F r r.pc Fetch)))) (address_refused S F r r.pc Fetch)
      ∙ sym (first-append F (address_asks S F r r.pc Fetch) (found_asks S F hart r (walk_of S F r r.pc Fetch)))
