-- Why events can't follow one another, a part of them at a time.
use Rattle.std.proofs.Common.{◌≡◌, ◌≢◌, ℕ, zero, suc, ◌+◌, ◌-◌, ◌≤◌, List, [], ◌∷◌, ◌++◌, length, Option, None, Some, MatchOption, Result, Ok, Err, refl, sym, subst, ap, ◌∙◌, append_assoc, length-append, arith}
use Rattle.std.specs.Option.{option_or}
use Rattle.std.proofs.Math.Dec.{eqb-suc-zero}
use Rattle.std.proofs.lemmas.List.{append-nil}
use Rattle.std.specs.Prelude.{IfErr, IsErrAnd}
use Rattle.hv_irq.specs.declared.Event.{Event}
use Rattle.hv_irq.specs.declared.Event.TheVariants.{Turn, Lines}
use Rattle.hv_irq.specs.declared.PushEnd.{PushEnd}
use Rattle.hv_irq.specs.declared.PushEnd.TheVariants.{Many, Memory}
use Rattle.hv_limits.specs.Limits.{events_limit}
use Rattle.hv_irq.specs.Events.{refusal_of, first_refusal_of, turn_of, raised_at}

or_none : (o : Option PushEnd) → option_or o None ≡ o
or_none None = refl
or_none (Some end) = refl

or_or : (o p q : Option PushEnd) → option_or o (option_or p q) ≡ option_or (option_or o p) q
or_or None p q = refl
or_or (Some end) p q = refl

-- one event is refused as it is alone
pub alone : (before : List Event) (event : Event) → first_refusal_of before (event ∷ []) ≡ refusal_of before event
unfolding first_refusal_of
alone before event = or_none (refusal_of before event)

-- events are refused as the first of them are, and else as the others are behind these
joined : (before xs ys : List Event) → first_refusal_of before (xs ++ ys) ≡ option_or (first_refusal_of before xs) (first_refusal_of (before ++ xs) ys)
unfolding first_refusal_of
joined before [] ys = ap (λ (b : List Event). first_refusal_of b ys) (sym (append-nil before))
joined before (x ∷ xs) ys =
    ap (option_or (refusal_of before x)) (joined (before ++ x ∷ []) xs ys)
    ∙ or_or (refusal_of before x) (first_refusal_of (before ++ x ∷ []) xs) (first_refusal_of ((before ++ x ∷ []) ++ xs) ys)
    ∙ ap (λ (b : List Event). option_or (first_refusal_of before (x ∷ xs)) (first_refusal_of b ys)) (append_assoc before (x ∷ []) xs)

-- nothing is refused where there is nothing
pub nothing : (before : List Event) → first_refusal_of before [] ≡ None
unfolding first_refusal_of
nothing before = refl

-- a turn that has steps
pub turned : (hart count : ℕ) → count ≢ 0 → turn_of hart count ≡ Turn hart count ∷ []
turned hart zero some = absurd (some refl)
turned hart (suc count) some = rw (eqb-suc-zero count) refl

-- what an end of recording says of a refusal; want of memory is free
abbrev Tells : Option PushEnd → PushEnd → Type 0
Tells o end = MatchOption o (end ≡ Memory) (λ (e : PushEnd). let r : Result Unit PushEnd = Err end in r ≡ Err e)

-- what no end of it says
abbrev Clears : Option PushEnd → Type 0
Clears o = MatchOption o Unit (λ (e : PushEnd). let r : Result Unit PushEnd = Ok tt in r ≡ Err e)

told : (o : Option PushEnd) (end : PushEnd) → Tells o end → end ≢ Memory → o ≡ Some end
told None end is other = absurd (other is)
told (Some e) end is other = cc

clear : (o : Option PushEnd) → Clears o → o ≡ None
clear None is = refl
clear (Some e) is = cc

-- the three parts of a schedule whose lines are raised
parts : (total at hart mask : ℕ) (r s t : List Event)
    → r ≡ []
    → s ≡ r ++ turn_of hart at
    → t ≡ s ++ Lines hart mask ∷ []
    → first_refusal_of [] (raised_at total at hart mask)
    ≡ option_or (first_refusal_of r (turn_of hart at)) (option_or (refusal_of s (Lines hart mask)) (first_refusal_of t (turn_of hart (total - at))))
unfolding first_refusal_of
parts total at hart mask r s t nil first second =
    rw second (rw first (rw nil (joined [] (turn_of hart at) (Lines hart mask ∷ turn_of hart (total - at)))))

either_first : (o p : Option PushEnd) (end : PushEnd) → o ≡ Some end → option_or o p ≡ Some end
either_first o p end is = rw is refl

either_second : (o p : Option PushEnd) → o ≡ None → option_or o p ≡ p
either_second o p is = rw is refl

pub first_told : (total at hart mask : ℕ) (r : List Event) (end : PushEnd)
    → r ≡ []
    → Tells (first_refusal_of r (turn_of hart at)) end
    → end ≢ Memory
    → first_refusal_of [] (raised_at total at hart mask) ≡ Some end
first_told total at hart mask r end nil is other =
    parts total at hart mask r _ _ nil refl refl
    ∙ either_first (first_refusal_of r (turn_of hart at)) _ end (told (first_refusal_of r (turn_of hart at)) end is other)

pub second_told : (total at hart mask : ℕ) (r s : List Event) (end : PushEnd)
    → r ≡ []
    → Clears (first_refusal_of r (turn_of hart at))
    → s ≡ r ++ turn_of hart at
    → Tells (refusal_of s (Lines hart mask)) end
    → end ≢ Memory
    → first_refusal_of [] (raised_at total at hart mask) ≡ Some end
second_told total at hart mask r s end nil none first is other =
    parts total at hart mask r s _ nil first refl
    ∙ either_second (first_refusal_of r (turn_of hart at)) _ (clear (first_refusal_of r (turn_of hart at)) none)
    ∙ either_first (refusal_of s (Lines hart mask)) _ end (told (refusal_of s (Lines hart mask)) end is other)

last_part : (total at hart mask : ℕ) (r s t : List Event)
    → r ≡ []
    → Clears (first_refusal_of r (turn_of hart at))
    → s ≡ r ++ turn_of hart at
    → Clears (refusal_of s (Lines hart mask))
    → t ≡ s ++ Lines hart mask ∷ []
    → first_refusal_of [] (raised_at total at hart mask) ≡ first_refusal_of t (turn_of hart (total - at))
last_part total at hart mask r s t nil none first neither second =
    parts total at hart mask r s t nil first second
    ∙ either_second (first_refusal_of r (turn_of hart at)) _ (clear (first_refusal_of r (turn_of hart at)) none)
    ∙ either_second (refusal_of s (Lines hart mask)) _ (clear (refusal_of s (Lines hart mask)) neither)

pub third_told : (total at hart mask : ℕ) (r s t : List Event) (end : PushEnd)
    → r ≡ []
    → Clears (first_refusal_of r (turn_of hart at))
    → s ≡ r ++ turn_of hart at
    → Clears (refusal_of s (Lines hart mask))
    → t ≡ s ++ Lines hart mask ∷ []
    → Tells (first_refusal_of t (turn_of hart (total - at))) end
    → end ≢ Memory
    → first_refusal_of [] (raised_at total at hart mask) ≡ Some end
third_told total at hart mask r s t end nil none first neither second is other =
    last_part total at hart mask r s t nil none first neither second
    ∙ told (first_refusal_of t (turn_of hart (total - at))) end is other

pub none_told : (total at hart mask : ℕ) (r s t : List Event)
    → r ≡ []
    → Clears (first_refusal_of r (turn_of hart at))
    → s ≡ r ++ turn_of hart at
    → Clears (refusal_of s (Lines hart mask))
    → t ≡ s ++ Lines hart mask ∷ []
    → Clears (first_refusal_of t (turn_of hart (total - at)))
    → first_refusal_of [] (raised_at total at hart mask) ≡ None
none_told total at hart mask r s t nil none first neither second none_again =
    last_part total at hart mask r s t nil none first neither second
    ∙ clear (first_refusal_of t (turn_of hart (total - at))) none_again

-- an end that goes on as it is
pub passes_on : (r : Result (List Event) PushEnd) (end : PushEnd) (P : PushEnd → Type 0) → IsErrAnd r (λ given. given ≡ end) → P end → IfErr r P
passes_on (Ok events) end P is holds = tt
passes_on (Err given) end P is holds = subst P (sym is) holds

-- an event isn't refused for the number of those before it where there is room for one more
room_for_one : (before : List Event) (event : Event) → length before + 1 ≤ events_limit → refusal_of before event ≢ Some Many
room_for_one before event room is = grind arith

or_other : (o p : Option PushEnd) → o ≢ Some Many → p ≢ Some Many → option_or o p ≢ Some Many
or_other None p one other is = other is
or_other (Some end) p one other is = one is

-- nor is one of several where there is room for all
room_for_all : (before events : List Event) → length before + length events ≤ events_limit → first_refusal_of before events ≢ Some Many
unfolding first_refusal_of
room_for_all before [] room = λ (is : None ≡ Some Many). cc
room_for_all before (event ∷ events) room =
    or_other (refusal_of before event) (first_refusal_of (before ++ event ∷ []) events)
    (room_for_one before event (omega (arith, room)))
    (room_for_all (before ++ event ∷ []) events (simp length-append (omega (arith, room))))

short_turn : (hart count : ℕ) → length (turn_of hart count) ≤ 1
short_turn hart zero = omega arith
short_turn hart (suc count) = rw (eqb-suc-zero count) (omega arith)

-- lines that are raised between two turns are three events at most
raised_not_many : (total at hart mask : ℕ) → first_refusal_of [] (raised_at total at hart mask) ≢ Some Many
raised_not_many total at hart mask =
    room_for_all [] (raised_at total at hart mask)
    (simp length-append (omega (arith, short_turn hart at, short_turn hart (total - at))))

-- so no end says that there are too many
pub never_many : (total at hart mask : ℕ) (r : Result (List Event) PushEnd)
    → IfErr r (λ end. end ≢ Memory → first_refusal_of [] (raised_at total at hart mask) ≡ Some end)
    → IfErr r (λ end. end ≢ Many)
never_many total at hart mask (Ok events) says = tt
never_many total at hart mask (Err end) says =
    λ is. raised_not_many total at hart mask (says (λ (memory : end ≡ Memory). cc) ∙ ap Some is)
