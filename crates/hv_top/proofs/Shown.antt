-- What the program prints of a watched machine that stood apart and wasn't touched.
use Rattle.std.proofs.Common.{◌≡◌, ℕ, ◌<◌, ◌≤◌, Bool, true, false, not, ◌&&◌, cond, Option, Some, None, List, [], ◌∷◌, length, refl, sym, ap, ap₂, ◌∙◌, slice_get}
use Rattle.std.specs.Prelude.{nat_le}
use Rattle.std.specs.Option.{option_map}
use Rattle.std.proofs.lemmas.Bool.{le-leb, lt-leb}
use Rattle.std.proofs.lemmas.List.{take_all}
use Rattle.hv_cpu.specs.Regs.{Regs, spelled}
use Rattle.hv_map.specs.Item.{Item}
use Rattle.hv_map.specs.Chain.{map_along, map_of, pin_of}
use Rattle.hv_map.specs.Apart.{is_one, is_apart}
use Rattle.hv_map.specs.Seen.{seen}
use Rattle.hv_nest.specs.State.{State}
use Rattle.hv_nest.specs.Move.{Move, last_of}
use Rattle.hv_nest.specs.Watched.{LineChange, Tally, last_block}
use Rattle.hv_nest.specs.Bare.{bare_of}
use Rattle.hv_whole.specs.Whole.{own, regs_of}
use Rattle.hv_whole.proofs.Readings.{regs_last}
use Rattle.hv_report.specs.Report.{machine_words, words_of}
use Rattle.hv_report.specs.Check.{watched_regs, bare_words, checked_text}
use Rattle.hv_run.specs.Promises.{AreBareRuns, HasRegisters, IsAsBare, IsBareRun, twin_after}
use Rattle.hv_run.specs.Record.{WatchOf, watch_record, tally_over}
use Rattle.hv_limits.specs.Limits.{kept_limit}
use Rattle.hv_run.proofs.Guests.{at_last}
use Rattle.hv_top.specs.Shown.{IsShownBy, IsShown, AreShown}

-- the words of registers
words_by : (last : State) (h : ℕ) (o : Option ℕ) (r : Regs)
    → HasRegisters h o last r
    → machine_words last h o ≡ spelled r
words_by last h None r is = ap words_of is
words_by last h (Some g) r is = ap spelled is

-- the registers at the start, in the last block or of the hart
begun : (S : List ℕ) (hs : List Regs) (h : ℕ) (items : List Item) (o : Option ℕ)
    → last_block items ≡ o
    → watched_regs (record { storage = S; harts = hs }) h o ≡ own h items (record { storage = S; harts = hs })
begun S hs h [] None e = refl
begun S hs h [] (Some g) e = cc
begun S hs h (x ∷ xs) None e = absurd (some x xs e)
  where
    some : (x : Item) (xs : List Item) → last_block (x ∷ xs) ≡ None → ⊥
    some x [] e = cc
    some x (y ∷ ys) e = some y ys e
begun S hs h (x ∷ xs) (Some g) e = sym (regs_last S (x ∷ xs) (regs_of h (record { storage = S; harts = hs })) g e)

-- a machine that stood apart and wasn't touched has a twin where few changes of its lines were told
has : (one apart touched : Bool) (n : ℕ)
    → one ≡ true
    → apart ≡ true
    → touched ≡ false
    → n ≤ kept_limit
    → (one && apart) && (not touched && nat_le n kept_limit) ≡ true
has true true false n a b c few = le-leb n kept_limit few
has false apart touched n a b c few = cc
has true false touched n a b c few = cc
has true true true n a b c few = cc

-- and none where they are more
lacks : (stands untouched : Bool) (n : ℕ) → kept_limit < n → stands && (untouched && nat_le n kept_limit) ≡ false
lacks true true n many = lt-leb n kept_limit many
lacks true false n many = refl
lacks false untouched n many = refl

module _ (start last : State) (w : WatchOf) (items : List Item) (t : Tally) where
  -- the words of its registers
  run_words : IsAsBare start w items last (twin_after start w items t)
      → machine_words last w.hart (last_block items) ≡ machine_words (twin_after start w items t) 0 None
  run_words alike =
      words_by last w.hart (last_block items) alike.regs alike.registers
      ∙ sym (ap (λ (rs : List Regs). words_of (slice_get rs 0)) alike.hart)

  -- those of the bare machine that `check` runs
  twin_words_of : length t.changes ≤ kept_limit
      → bare_words start (watch_record w start items t) (map_along start.storage items)
      ≡ machine_words (twin_after start w items t) 0 None
  twin_words_of few =
      let saw = seen start.storage (map_along start.storage items) in
      ap₂ (λ (r : Regs) (ls : List LineChange). machine_words (bare_of saw r ls t.count) 0 None)
      (begun start.storage start.harts w.hart items (last_block items) refl)
      (take_all kept_limit t.changes few)

  -- those that it tells, by whether there is a twin
  abbrev told_twin : Bool → Option (List ℕ)
  told_twin b = cond b (option_map (bare_words start (watch_record w start items t)) (map_of start.storage w.path)) None

  pub shown_by : pin_of start.storage w.path ≡ Some items
      → is_one start.storage items ≡ true
      → is_apart start.storage items ≡ true
      → t.touched ≡ false
      → IsAsBare start w items last (twin_after start w items t)
      → IsShownBy start last w items t
  shown_by is one apart quiet alike =
      let told = watch_record w start items t in
      let by_map = λ (o : Option (List Item)). option_map (bare_words start told) (option_map (map_along start.storage) o) in
      record {
        run = run_words alike;
        check = λ few.
            ap (checked_text told)
            (ap told_twin (has told.one told.apart t.touched told.line_total one apart quiet few)
            ∙ ap by_map is
            ∙ ap (λ (ws : List ℕ). Some ws) (twin_words_of few ∙ sym (run_words alike)));
        none = λ many.
            ap (checked_text told) (ap told_twin (lacks (told.one && told.apart) (not t.touched) told.line_total many));
      }

one : (start : State) (moves : List Move) (w : WatchOf) → IsBareRun start moves w → IsShown start moves w
one start moves w bare items is single apart quiet =
    let t = tally_over start moves w items in
    shown_by start (last_of start moves) w items t is single apart quiet
    (at_last start moves w items t bare is refl apart quiet)

pub shown : (start : State) (moves : List Move) (ws : List WatchOf)
    → AreBareRuns start moves ws
    → AreShown start moves ws
shown start moves [] bare = tt
shown start moves (w ∷ ws) bare = (one start moves w bare.0, shown start moves ws bare.1)
