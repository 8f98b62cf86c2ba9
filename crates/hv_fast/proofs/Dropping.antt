-- What is dropped after words changed, and that what is left rests on none of them.
use Rattle.std.proofs.Common.{◌≡◌, ◌⊎◌, ℕ, ◌/◌, ◌%◌, inl, inr, Bool, true, false, not, cond, List, [], ◌∷◌, ◌++◌, length, Option, Some, None, is_some, refl, ap, ◌∙◌, sym, subst}
use Rattle.std.specs.Prelude.{All}
use Rattle.std.specs.List.{AllByRecursion, filter}
use Rattle.std.proofs.lemmas.Bool.{or_parts}
use Rattle.hv_word.specs.Words.{has}
use Rattle.std.specs.Option.{option_map}
use Rattle.hv_block.specs.declared.Block.{Block}
use Rattle.hv_block.specs.Block.{block_of, is_block}
use Rattle.hv_block.specs.Contents.{contents_of}
use Rattle.hv_block.proofs.Blocks.{block_holds}
use Rattle.hv_cache.specs.Holding.{Entry, any_has_table, any_rests_on, without_page}
use Rattle.hv_cache.specs.Kept.{rests_on}
use Rattle.hv_nest.specs.declared.changed.ChangedRow.{ChangedRow}
use Rattle.hv_fast.specs.Beside.{EntriesAreRight, EntryIsRight, IsBlockStill, IsSpared, SamePins, WordIsSpared}
use Rattle.hv_fast.specs.Marked.{Marked, has_mark}
use Rattle.hv_fast.specs.declared.beside.Beside.{Beside}
use Rattle.hv_fast.specs.declared.pin.Pin.{Pin}

-- a property of each element stays for those that pass a test
pub all_filtered : {X : Type 0} (P : X → Type 0) (p : X → Bool) (xs : List X) → AllByRecursion P xs → AllByRecursion P (filter p xs)
all_filtered P p [] all = tt
all_filtered P p (x ∷ xs) all =
    elim (p x) as (λ b. AllByRecursion P (cond b (x ∷ filter p xs) (filter p xs))) [
      | true ↦ (all.0, all_filtered P p xs all.1)
      | false ↦ all_filtered P p xs all.1
    ]

-- and of one more element
all_pushed : {X : Type 0} (P : X → Type 0) (xs : List X) (x : X) → AllByRecursion P xs → P x → AllByRecursion P (xs ++ x ∷ [])
all_pushed P [] x all p = (p, tt)
all_pushed P (y ∷ ys) x all p = (all.0, all_pushed P ys x all.1 p)

-- where no entry rests on the page of a word, each is spared
pub spared_unwatched : (T : List ℕ) (a : ℕ) (es : List Entry) → any_rests_on (a / 1024) es ≡ false → AllByRecursion (IsSpared T a) es
spared_unwatched T a [] none = tt
spared_unwatched T a (e ∷ es) none =
    let parts = or_parts (rests_on (a / 1024) e.1) (any_rests_on (a / 1024) es) none in
    let own = or_parts (has (a / 1024) e.1.blocks) (has (a / 1024) e.1.tables) parts.0 in (
      record { tables = own.1; blocks = λ is. absurd (let f : false ≡ true = sym own.0 ∙ is in cc) },
      spared_unwatched T a es parts.1,
    )

-- and where none has it among its tables, and there is a block still
pub spared_still : (T : List ℕ) (a : ℕ) (es : List Entry) → any_has_table (a / 1024) es ≡ false → IsBlockStill T (a / 1024) (a % 1024) → AllByRecursion (IsSpared T a) es
spared_still T a [] none still = tt
spared_still T a (e ∷ es) none still =
    let parts = or_parts (has (a / 1024) e.1.tables) (any_has_table (a / 1024) es) none in
    (record { tables = parts.0; blocks = λ _. still }, spared_still T a es parts.1 still)

-- and where those that rest on it are gone
pub spared_forgotten : (T : List ℕ) (a : ℕ) (es : List Entry) → AllByRecursion (IsSpared T a) (without_page (a / 1024) es)
spared_forgotten T a [] = tt
spared_forgotten T a (e ∷ es) = go (rests_on (a / 1024) e.1) refl (spared_forgotten T a es)
  where
    go : (b : Bool) → rests_on (a / 1024) e.1 ≡ b → AllByRecursion (IsSpared T a) (without_page (a / 1024) es) → AllByRecursion (IsSpared T a) (cond (not b) (e ∷ without_page (a / 1024) es) (without_page (a / 1024) es))
    go true is rest = rest
    go false is rest =
        let own = or_parts (has (a / 1024) e.1.blocks) (has (a / 1024) e.1.tables) is in
        (record { tables = own.1; blocks = λ there. absurd (let f : false ≡ true = sym own.0 ∙ there in cc) }, rest)

-- what is read from a page is none where there is no block
pub block_read : (S : List ℕ) (g : ℕ) (o : Option Block) → option_map contents_of o ≡ block_of S g → is_some o ≡ true → is_block S g ≡ true
block_read S g None e some = absurd (let f : false ≡ true = some in cc)
block_read S g (Some b) e some = (block_holds S g (contents_of b) (sym e)).0

-- What is left after some rows were spared, of what was kept before: the pins and their marks, if no row is in a marked page, or
-- none in use; and entries that are spared by each row, of which is true what was true of all.
pub record Dropped (T : List ℕ) (rows : List ChangedRow) (b c : Beside) : Type 0 where
  pub ids : c.ids ≡ b.ids
  pub count : length c.pins.items ≡ length b.pins.items
  pub pins :
      (SamePins b c × AllByRecursion (λ (row : ChangedRow). has_mark b.marks (row.at / 1024) ≡ false) rows)
      ⊎ (All (λ (p : Pin). p.live ≡ false) c.pins.items × (c.rider ≡ None))
  pub spared : AllByRecursion (λ (row : ChangedRow). AllByRecursion (IsSpared T row.at) c.cache.entries) rows
  pub kept : (S : List ℕ) (paths : List (List ℕ)) → EntriesAreRight S paths b.cache.entries → EntriesAreRight S paths c.cache.entries

pub dropped_none : (T : List ℕ) (rows : List ChangedRow) (b c : Beside) → rows ≡ [] → c ≡ b → Dropped T rows b c
dropped_none T [] b c none is = record {
  ids = ap (λ (d : Beside). d.ids) is;
  count = ap (λ (d : Beside). length d.pins.items) is;
  pins = inl (record { pins = ap (λ (d : Beside). d.pins) is; marks = ap (λ (d : Beside). d.marks) is; rider = ap (λ (d : Beside). d.rider) is; inner = ap (λ (d : Beside). d.inner) is }, tt);
  spared = tt;
  kept = λ S paths right. subst (λ (d : Beside). EntriesAreRight S paths d.cache.entries) (sym is) right;
}
dropped_none T (row ∷ rows) b c none is = absurd (let f : row ∷ rows ≡ [] = none in cc)

-- fewer entries are as before
fewer_keep : (P : Entry → Type 0) (g : ℕ) (es fs : List Entry) → (fs ≡ es) ⊎ (fs ≡ without_page g es) → AllByRecursion P es → AllByRecursion P fs
fewer_keep P g es fs (inl same) all = subst (AllByRecursion P) (sym same) all
fewer_keep P g es fs (inr less) all =
    subst (AllByRecursion P) (sym less) (all_filtered P (λ e. not (rests_on g e.1)) es all)

fewer_rows : (T : List ℕ) (g : ℕ) (es fs : List Entry) (rows : List ChangedRow)
    → (fs ≡ es) ⊎ (fs ≡ without_page g es)
    → AllByRecursion (λ (row : ChangedRow). AllByRecursion (IsSpared T row.at) es) rows
    → AllByRecursion (λ (row : ChangedRow). AllByRecursion (IsSpared T row.at) fs) rows
fewer_rows T g es fs [] fewer all = tt
fewer_rows T g es fs (row ∷ rows) fewer all =
    (fewer_keep (IsSpared T row.at) g es fs fewer all.0, fewer_rows T g es fs rows fewer all.1)

same_then : (b c d : Beside) → SamePins b c → SamePins c d → SamePins b d
same_then b c d one two = record {
  pins = two.pins ∙ one.pins;
  marks = two.marks ∙ one.marks;
  rider = two.rider ∙ one.rider;
  inner = two.inner ∙ one.inner;
}

pins_then : (T : List ℕ) (rows : List ChangedRow) (row : ChangedRow) (b c d : Beside)
    → has_mark d.marks (row.at / 1024) ≡ false
    → (SamePins b c × AllByRecursion (λ (r : ChangedRow). has_mark b.marks (r.at / 1024) ≡ false) rows) ⊎ (All (λ (p : Pin). p.live ≡ false) c.pins.items × (c.rider ≡ None))
    → SamePins c d ⊎ (All (λ (p : Pin). p.live ≡ false) d.pins.items × (d.rider ≡ None))
    → (SamePins b d × AllByRecursion (λ (r : ChangedRow). has_mark b.marks (r.at / 1024) ≡ false) (rows ++ row ∷ []))
    ⊎ (All (λ (p : Pin). p.live ≡ false) d.pins.items × (d.rider ≡ None))
pins_then T rows row b c d unmarked before (inr gone) = inr gone
pins_then T rows row b c d unmarked (inr gone) (inl same) =
    inr (subst (All (λ (p : Pin). p.live ≡ false)) (sym (λ i. (same.pins i).items)) gone.0, same.rider ∙ gone.1)
pins_then T rows row b c d unmarked (inl before) (inl same) =
    let both = same_then b c d before.0 same in
    inl (
      both,
      all_pushed (λ (r : ChangedRow). has_mark b.marks (r.at / 1024) ≡ false) rows row before.1
          (ap (λ (m : Marked). has_mark m (row.at / 1024)) (sym both.marks) ∙ unmarked),
    )

-- one row more
pub dropped_more : (T : List ℕ) (rows more : List ChangedRow) (row : ChangedRow) (b c d : Beside)
    → more ≡ rows ++ row ∷ []
    → Dropped T rows b c
    → WordIsSpared T row.at c d
    → Dropped T more b d
dropped_more T rows more row b c d longer before one =
    subst (λ (rs : List ChangedRow). Dropped T rs b d) (sym longer) record {
      ids = one.ids ∙ before.ids;
      count = one.count ∙ before.count;
      pins = pins_then T rows row b c d one.unmarked before.pins one.pins;
      spared =
          all_pushed (λ (r : ChangedRow). AllByRecursion (IsSpared T r.at) d.cache.entries) rows row
          (fewer_rows T (row.at / 1024) c.cache.entries d.cache.entries rows one.fewer before.spared) one.spared;
      kept = λ S paths right.
          fewer_keep (EntryIsRight S paths) (row.at / 1024) c.cache.entries d.cache.entries one.fewer (before.kept S paths right);
    }

pub still_unless : (b : Bool) → not b ≡ false → b ≡ true
still_unless true e = refl
still_unless false e = absurd (let f : true ≡ false = e in cc)
