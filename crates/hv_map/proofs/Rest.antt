-- A map with gathered pages depends on their words alone.
use Rattle.std.proofs.Common.{◌≡◌, ℕ, ◌+◌, ◌/◌, ◌%◌, ◌<◌, ◌≤◌, ◌^◌, inl, inr, Bool, true, false, cond, ◌==◌, List, [], ◌∷◌, ◌++◌, length, Option, Some, None, refl, ap, ap₂, ◌∙◌, sym, subst, arith, slice_get}
use Rattle.std.specs.List.{AllByRecursion}
use Rattle.std.specs.Option.{option_map}
use Rattle.std.proofs.lemmas.Bool.{cases_lt}
use Rattle.std.proofs.lemmas.Option.{slice_get-map, slice_get_past}
use Rattle.hv_word.specs.Words.{field_of}
use Rattle.hv_word.specs.Storage.{page_count}
use Rattle.hv_store.specs.declared.access.Slot.{Slot}
use Rattle.hv_store.specs.declared.access.Way.{Way}
use Rattle.hv_store.specs.declared.access.Way.TheVariants.{Open, Shut}
use Rattle.hv_map.specs.Item.{Item}
use Rattle.hv_map.specs.Compose.{Looked, Named, Stopped, present, look, page_named, table_of, word_in, entry_of, reading, slot_through, slot_of, compose_slot}
use Rattle.hv_map.specs.Held.{SamePage, SamePages}
use Rattle.hv_map.specs.Gathered.{Gathered, slots_of, pages_gathered, pages_read, pages_through, word_pages, directory_pages, table_word_pages, entry_pages, target_pages, gathered_slot, gathered_map, bare_gathered_map, gathered_from, gathered_along}
use Rattle.hv_map.proofs.GatheredMaps.{length-gathered_map, slice_get-gathered_map}

-- the parts of a list of which all are alike
pub first_all : (P : ℕ → Type 0) (xs ys : List ℕ) → AllByRecursion P (xs ++ ys) → AllByRecursion P xs
first_all P [] ys all = tt
first_all P (x ∷ xs) ys all = (all.0, first_all P xs ys all.1)

pub second_all : (P : ℕ → Type 0) (xs ys : List ℕ) → AllByRecursion P (xs ++ ys) → AllByRecursion P ys
second_all P [] ys all = all
second_all P (x ∷ xs) ys all = second_all P xs ys all.1

-- the way for reading that a slot with gathered pages has
way_gathered : Option Gathered → Option Way
way_gathered None = None
way_gathered (Some n) = Some n.slot.read

reads_gathered : (N : List Gathered) (u : ℕ) → reading (slots_of N) u ≡ way_gathered (slice_get N u)
unfolding way_gathered
reads_gathered N u = ap (option_map (λ (s : Slot). s.read)) (slice_get-map (λ (n : Gathered). n.slot) N u) ∙ same (slice_get N u)
  where
    same : (o : Option Gathered) → option_map (λ (s : Slot). s.read) (option_map (λ (n : Gathered). n.slot) o) ≡ way_gathered o
    same None = refl
    same (Some n) = refl

-- m is what stands in T where o stands in S, if T has the words of the gathered pages
pub KeepsGathered : List ℕ → List ℕ → Option Gathered → Option Gathered → Type 0
KeepsGathered S T None m = m ≡ None
KeepsGathered S T (Some n) m = SamePages S T n.pages → m ≡ Some n

abbrev pub KeepsMap : List ℕ → List ℕ → List Gathered → List Gathered → Type 0
KeepsMap S T M N = (u : ℕ) → KeepsGathered S T (slice_get M u) (slice_get N u)

module _ (S T : List ℕ) where
  -- a slot
  kept_gathered : (o m : Option Gathered) → KeepsGathered S T o m → SamePages S T (pages_gathered o) → m ≡ o
  unfolding KeepsGathered
  kept_gathered None m keeps same = keeps
  kept_gathered (Some n) m keeps same = keeps same

  -- a word of its page
  same_look : (gs : List ℕ) (j i k : ℕ) (o : Option Way) → k < 1024 → SamePages S T (pages_through gs o) → look S j i k o ≡ look T j i k o
  same_look gs j i k None h same = refl
  same_look gs j i k (Some (Open g)) h same = ap (present j i) ((second_all (SamePage S T) gs (g ∷ []) same).0 k h)
  same_look gs j i k (Some (Shut l c p w)) h same = refl

  same_before : (gs : List ℕ) (o : Option Way) → SamePages S T (pages_through gs o) → SamePages S T gs
  same_before gs None same = same
  same_before gs (Some (Open g)) same = first_all (SamePage S T) gs (g ∷ []) same
  same_before gs (Some (Shut l c p w)) same = same

  module _ (M N : List Gathered) (keeps : KeepsMap S T M N) where
    kept_at : (u : ℕ) → SamePages S T (pages_read M u) → slice_get N u ≡ slice_get M u
    kept_at u same = kept_gathered (slice_get M u) (slice_get N u) (keeps u) same

    kept_page : (u : ℕ) → SamePages S T (word_pages M u) → slice_get N u ≡ slice_get M u
    kept_page u same = kept_at u (same_before (pages_read M u) (reading (slots_of M) u) same)

    kept_reading : (u : ℕ) → SamePages S T (word_pages M u) → reading (slots_of N) u ≡ reading (slots_of M) u
    kept_reading u same = reads_gathered N u ∙ ap way_gathered (kept_page u same) ∙ sym (reads_gathered M u)

    kept_pages : (u : ℕ) → SamePages S T (word_pages M u) → word_pages N u ≡ word_pages M u
    kept_pages u same = ap₂ pages_through (ap pages_gathered (kept_page u same)) (kept_reading u same)

    kept_look : (j i k u : ℕ) → k < 1024 → SamePages S T (word_pages M u) → look T j i k (reading (slots_of N) u) ≡ look S j i k (reading (slots_of M) u)
    kept_look j i k u h same =
        ap (look T j i k) (kept_reading u same)
        ∙ sym (same_look (pages_read M u) j i k (reading (slots_of M) u) h same)

    -- the directory word
    kept_table : (j t v i : ℕ) → i / 1024 < 1024 → SamePages S T (directory_pages M t v) → table_of T (reading (slots_of N)) j t v i ≡ table_of S (reading (slots_of M)) j t v i
    kept_table j t v i h = go (v == 2)
      where
        go : (b : Bool) → SamePages S T (cond b (word_pages M t) []) → cond b (page_named (look T j i (i / 1024) (reading (slots_of N) t))) (Named (t + i / 1024)) ≡ cond b (page_named (look S j i (i / 1024) (reading (slots_of M) t))) (Named (t + i / 1024))
        go true same = ap page_named (kept_look j i (i / 1024) t h same)
        go false same = refl

    kept_directory : (t v : ℕ) → SamePages S T (directory_pages M t v) → directory_pages N t v ≡ directory_pages M t v
    kept_directory t v = go (v == 2)
      where
        go : (b : Bool) → SamePages S T (cond b (word_pages M t) []) → cond b (word_pages N t) [] ≡ cond b (word_pages M t) []
        go true same = kept_pages t same
        go false same = refl

    -- the table word
    kept_word : (j i : ℕ) (l : Looked) → SamePages S T (table_word_pages M l) → word_in T (reading (slots_of N)) j i l ≡ word_in S (reading (slots_of M)) j i l
    kept_word j i (Named u) same = kept_look j i (i % 1024) u (omega arith) same
    kept_word j i (Stopped way) same = refl

    kept_word_pages : (l : Looked) → SamePages S T (table_word_pages M l) → table_word_pages N l ≡ table_word_pages M l
    kept_word_pages (Named u) same = kept_pages u same
    kept_word_pages (Stopped way) same = refl

    -- and the page that it names
    kept_target_pages : (l : Looked) → SamePages S T (target_pages M l) → target_pages N l ≡ target_pages M l
    kept_target_pages (Named e) same = ap pages_gathered (kept_at (field_of e 12 20) same)
    kept_target_pages (Stopped way) same = refl

    kept_slot : (j v i : ℕ) (l : Looked) → SamePages S T (target_pages M l) → slot_of (slots_of N) j v i l ≡ slot_of (slots_of M) j v i l
    kept_slot j v i (Named e) same =
        let u : ℕ = field_of e 12 20 in
        ap (slot_through j v i e)
        (slice_get-map (λ (n : Gathered). n.slot) N u
        ∙ ap (option_map (λ (n : Gathered). n.slot)) (kept_at u same)
        ∙ sym (slice_get-map (λ (n : Gathered). n.slot) M u))
    kept_slot j v i (Stopped way) same = refl

    pub kept_gathered_slot : (j t v i : ℕ) → i / 1024 < 1024 → SamePages S T (gathered_slot S M j t v i).pages → gathered_slot T N j t v i ≡ gathered_slot S M j t v i
    unfolding compose_slot
    kept_gathered_slot j t v i h same =
        ap₂ (λ (s : Slot) (gs : List ℕ). record { slot = s; pages = gs })
        (ap (slot_of (slots_of N) j v i) entry_same ∙ kept_slot j v i entry third)
        (ap₂ (λ (a b : List ℕ). a ++ b)
        (ap₂ (λ (a b : List ℕ). a ++ b) (kept_directory t v first) (ap (table_word_pages N) table_same ∙ kept_word_pages table second))
        (ap (target_pages N) entry_same ∙ kept_target_pages entry third))
      where
        table : Looked
        table = table_of S (reading (slots_of M)) j t v i

        entry : Looked
        entry = entry_of S (reading (slots_of M)) j t v i

        both : SamePages S T (entry_pages S M j t v i)
        both = first_all (SamePage S T) (entry_pages S M j t v i) (target_pages M (entry_of S (reading (slots_of M)) j t v i)) same

        third : SamePages S T (target_pages M (entry_of S (reading (slots_of M)) j t v i))
        third = second_all (SamePage S T) (entry_pages S M j t v i) (target_pages M (entry_of S (reading (slots_of M)) j t v i)) same

        first : SamePages S T (directory_pages M t v)
        first = first_all (SamePage S T) (directory_pages M t v) (table_word_pages M (table_of S (reading (slots_of M)) j t v i)) both

        second : SamePages S T (table_word_pages M (table_of S (reading (slots_of M)) j t v i))
        second = second_all (SamePage S T) (directory_pages M t v) (table_word_pages M (table_of S (reading (slots_of M)) j t v i)) both

        table_same : table_of T (reading (slots_of N)) j t v i ≡ table_of S (reading (slots_of M)) j t v i
        table_same = kept_table j t v i h first

        entry_same : entry_of T (reading (slots_of N)) j t v i ≡ entry_of S (reading (slots_of M)) j t v i
        entry_same = ap (word_in T (reading (slots_of N)) j i) table_same ∙ kept_word j i (table_of S (reading (slots_of M)) j t v i) second

    -- a child's map
    pub kept_gathered_map : (j n t v : ℕ) → n ≤ 2 ^ 20 → KeepsMap S T (gathered_map S M j n t v) (gathered_map T N j n t v)
    unfolding KeepsGathered
    kept_gathered_map j n t v bound u = elim (cases_lt u n) [ inl h ↦ inside h | inr h ↦ outside h ]
      where
        inside : u < n → KeepsGathered S T (slice_get (gathered_map S M j n t v) u) (slice_get (gathered_map T N j n t v) u)
        inside h =
            let low : u / 1024 < 1024 = omega arith in
            subst (λ (o : Option Gathered). KeepsGathered S T o (slice_get (gathered_map T N j n t v) u)) (sym (slice_get-gathered_map S M j n t v u h))
            (λ same. slice_get-gathered_map T N j n t v u h ∙ ap Some (kept_gathered_slot j t v u low same))

        outside : n ≤ u → KeepsGathered S T (slice_get (gathered_map S M j n t v) u) (slice_get (gathered_map T N j n t v) u)
        outside h =
            subst (λ (o : Option Gathered). KeepsGathered S T o (slice_get (gathered_map T N j n t v) u))
            (sym (slice_get_past (gathered_map S M j n t v) u (omega (arith, length-gathered_map S M j n t v))))
            (slice_get_past (gathered_map T N j n t v) u (omega (arith, length-gathered_map T N j n t v)))

  -- the map of the bare machine
  kept_self : (M : List Gathered) → KeepsMap S T M M
  unfolding KeepsGathered
  kept_self M u = go (slice_get M u)
    where
      go : (o : Option Gathered) → KeepsGathered S T o o
      go None = refl
      go (Some n) = λ same. refl

  pub kept_bare : length S ≡ length T → KeepsMap S T (bare_gathered_map (page_count S)) (bare_gathered_map (page_count T))
  kept_bare e =
      subst (λ (n : ℕ). KeepsMap S T (bare_gathered_map (page_count S)) (bare_gathered_map (n / 1024))) e (kept_self (bare_gathered_map (page_count S)))

  -- and the map along a row of machines
  pub kept_from : (M N : List Gathered) (j : ℕ) (items : List Item) → KeepsMap S T M N → AllByRecursion (λ (x : Item). x.pages ≤ 2 ^ 20) items → KeepsMap S T (gathered_from S M j items) (gathered_from T N j items)
  unfolding gathered_from
  kept_from M N j [] keeps sizes = keeps
  kept_from M N j (x ∷ xs) keeps sizes =
      kept_from (gathered_map S M j x.pages x.table x.version) (gathered_map T N j x.pages x.table x.version) (j + 1) xs
      (kept_gathered_map M N keeps j x.pages x.table x.version sizes.0) sizes.1

pub keeps_found : (S T : List ℕ) (M N : List Gathered) (u : ℕ) (n : Gathered) → KeepsMap S T M N → slice_get M u ≡ Some n → SamePages S T n.pages → slice_get N u ≡ Some n
unfolding KeepsGathered
keeps_found S T M N u n keeps is = subst (λ (o : Option Gathered). KeepsGathered S T o (slice_get N u)) is (keeps u)

pub slot_gathered : (S T : List ℕ) (items : List Item) (page : ℕ) (n : Gathered)
    → length S ≡ length T
    → AllByRecursion (λ (x : Item). x.pages ≤ 2 ^ 20) items
    → slice_get (gathered_along S items) page ≡ Some n
    → SamePages S T n.pages
    → slice_get (gathered_along T items) page ≡ Some n
unfolding gathered_along
slot_gathered S T items page n long sizes is same =
    keeps_found S T (gathered_along S items) (gathered_along T items) page n
    (kept_from S T (bare_gathered_map (page_count S)) (bare_gathered_map (page_count T)) 0 items (kept_bare S T long) sizes) is same
