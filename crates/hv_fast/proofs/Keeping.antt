-- Which translations are held, and that they are right, as entries are looked up, kept and forgotten, and paths get numbers.
use Rattle.std.proofs.Common.{◌≡◌, ◌≢◌, ℕ, suc, ◌-◌, ◌<◌, ◌≤◌, inl, inr, Bool, true, false, ◌&&◌, ◌||◌, cond, ◌==◌, List, [], ◌∷◌, ◌++◌, ◌⊎◌, MatchOption, length, take, zero, Option, Some, None, is_some, refl, ap, ◌∙◌, sym, subst, slice_get}
use Rattle.std.specs.List.{AllByRecursion, list_any}
use Rattle.std.specs.Map.{lookup, lookup_entry, remove_entry}
use Rattle.std.specs.Option.{option_map, option_map_or}
use Rattle.std.proofs.lemmas.Bool.{eq-eqb, eqb-true, ne_eqb}
use Rattle.std.proofs.lemmas.Bool.Decides.{eqb_tells}
use Rattle.std.proofs.lemmas.List.{take_all}
use Rattle.std.proofs.lemmas.Option.{same_Some, slice_get-get_or}
use Rattle.hv_word.specs.Storage.{page_count}
use Rattle.hv_store.specs.declared.access.Slot.{Slot}
use Rattle.hv_store.specs.Access.{identity}
use Rattle.hv_map.specs.Apart.{blocks_of}
use Rattle.hv_map.specs.Chain.{map_along, pin_of}
use Rattle.hv_map.specs.Gathered.{Gathered, Listed, gathered_along, no_pages, pages_gathered, pages_read, pin_pages, with_pages}
use Rattle.hv_map.specs.Held.{IsHeld, Lists}
use Rattle.hv_map.specs.Item.{Item}
use Rattle.hv_map.specs.Levels.{reads_bound}
use Rattle.hv_map.specs.Words.{syllables}
use Rattle.hv_map.proofs.Adding.{lists_all, lists_keep, room_before}
use Rattle.hv_map.proofs.GatheredMaps.{slots-along}
use Rattle.hv_map.proofs.Holding.{held_right, noticed, pin_placed}
use Rattle.hv_map.proofs.Levels.{reads_at-length, reads_at-some}
use Rattle.hv_map.proofs.Machines.{pinned_own}
use Rattle.hv_map.proofs.Words.{machines_chained}
use Rattle.hv_map.proofs.Reaching.{AllBelow, below_more, blocks_below, listed_below, pages_read_below, pin_pages_below}
use Rattle.hv_cache.specs.Holding.{Entry, Holding, Key, same, with_entry}
use Rattle.hv_cache.specs.Kept.{Kept, kept_of}
use Rattle.hv_vmid.specs.Paths.{IsNew, IsNumber, IsNumbered, parent_path}
use Rattle.hv_fast.specs.Beside.{EntriesAreRight, EntryIsRight}
use Rattle.hv_fast.specs.declared.translations.Kept.TheVariants.{Held, Memory}
use Rattle.hv_fast.specs.Holds.{NumbersStay, is_held, is_number_of, pages_for, same_path}

-- the test of paths
same_paths : (p q : List ℕ) → same_path p q ≡ true → p ≡ q
unfolding same_path
same_paths [] [] e = refl
same_paths [] (t ∷ q) e = absurd (let f : false ≡ true = e in cc)
same_paths (s ∷ p) [] e = absurd (let f : false ≡ true = e in cc)
same_paths (s ∷ p) (t ∷ q) e = go (s == t) refl e (same_paths p q)
  where
    go : (b : Bool) → (s == t) ≡ b → (b && same_path p q) ≡ true → (same_path p q ≡ true → p ≡ q) → s ∷ p ≡ t ∷ q
    go false is f rest = absurd (let g : false ≡ true = f in cc)
    go true is f rest = ap (λ (k : ℕ). k ∷ p) (eqb-true s t is) ∙ ap (λ (r : List ℕ). t ∷ r) (rest f)

own_path : (p : List ℕ) → same_path p p ≡ true
unfolding same_path
own_path [] = refl
own_path (s ∷ p) = ap (λ (b : Bool). b && same_path p p) (eq-eqb s s refl) ∙ own_path p

other_paths : (p q : List ℕ) → p ≢ q → same_path p q ≡ false
other_paths p q differ = go (same_path p q) refl
  where
    go : (b : Bool) → same_path p q ≡ b → b ≡ false
    go true is = absurd (differ (same_paths p q is))
    go false is = refl

-- a number is that of its path, and of no other
own_number : (paths : List (List ℕ)) (k : ℕ) (path : List ℕ) → slice_get paths k ≡ Some path → is_number_of (slice_get paths k) path ≡ true
own_number paths k path is = ap (λ (o : Option (List ℕ)). is_number_of o path) is ∙ own_path path

other_number : (o : Option (List ℕ)) (path : List ℕ) → o ≢ Some path → is_number_of o path ≡ false
other_number None path differ = refl
other_number (Some p) path differ = other_paths p path (λ e. differ (ap Some e))

turned : (a b : ℕ) → (a == b) ≡ (b == a)
turned a b = elim (eqb_tells a b) [
  | inl agree ↦ agree.0 ∙ sym (eq-eqb b a (sym agree.1))
  | inr differ ↦ differ.0 ∙ sym (ne_eqb b a (λ e. differ.1 (sym e)))
]

-- a key that is looked for is that of the path and the page
key_is : (paths : List (List ℕ)) (k : ℕ) (path : List ℕ) (page : ℕ) → IsNumbered paths → slice_get paths k ≡ Some path → (key : Key) → same (k, page) key ≡ (is_number_of (slice_get paths key.0) path && (key.1 == page))
key_is paths k path page N is key =
    λ i. number i && (turned page key.1) i
  where
    number : (k == key.0) ≡ is_number_of (slice_get paths key.0) path
    number = elim (eqb_tells k key.0) [
      | inl agree ↦ agree.0 ∙ sym (own_number paths key.0 path (subst (λ (n : ℕ). slice_get paths n ≡ Some path) agree.1 is))
      | inr differ ↦ differ.0 ∙ sym (other_number (slice_get paths key.0) path (λ e. differ.1 (N.once k key.0 path is e)))
    ]

any_alike : (f g : Entry → Bool) (es : List Entry) → AllByRecursion (λ (e : Entry). f e ≡ g e) es → list_any f es ≡ list_any g es
any_alike f g [] alike = refl
any_alike f g (e ∷ es) alike = λ i. alike.0 i || (any_alike f g es alike.1) i

each : (P : Entry → Type 0) → ((e : Entry) → P e) → (es : List Entry) → AllByRecursion P es
each P all [] = tt
each P all (e ∷ es) = (all e, each P all es)

none_passes : (f : Entry → Bool) (es : List Entry) → AllByRecursion (λ (e : Entry). f e ≡ false) es → list_any f es ≡ false
none_passes f [] none = refl
none_passes f (e ∷ es) none = ap (λ (b : Bool). b || list_any f es) none.0 ∙ none_passes f es none.1

looked_any : (test : Key → Bool) (es : List Entry) → is_some (lookup test es) ≡ list_any (λ (e : Entry). test e.0) es
looked_any test [] = refl
looked_any test (e ∷ es) = go (test e.0) (looked_any test es)
  where
    go : (b : Bool) → is_some (lookup test es) ≡ list_any (λ (d : Entry). test d.0) es → is_some (cond b (Some e.1) (lookup test es)) ≡ (b || list_any (λ (d : Entry). test d.0) es)
    go true rest = refl
    go false rest = rest

-- what is looked up is there where it is held
pub found_held : (paths : List (List ℕ)) (es : List Entry) (k : ℕ) (path : List ℕ) (page : ℕ) → IsNumbered paths → slice_get paths k ≡ Some path → is_some (lookup (same (k, page)) es) ≡ is_held paths es path page
found_held paths es k path page N is =
    looked_any (same (k, page)) es
    ∙ any_alike (λ (e : Entry). same (k, page) e.0) (λ (e : Entry). is_number_of (slice_get paths (e.0).0) path && ((e.0).1 == page)) es
    (each (λ (e : Entry). same (k, page) e.0 ≡ (is_number_of (slice_get paths (e.0).0) path && ((e.0).1 == page))) (λ e. key_is paths k path page N is e.0) es)

pub looks : (paths : List (List ℕ)) (es : List Entry) (k : ℕ) (path : List ℕ) (page : ℕ) → IsNumbered paths → slice_get paths k ≡ Some path → is_some (option_map (λ (h : Kept). h.slot) (lookup (same (k, page)) es)) ≡ is_held paths es path page
looks paths es k path page N is = there (lookup (same (k, page)) es) ∙ found_held paths es k path page N is
  where
    there : (o : Option Kept) → is_some (option_map (λ (h : Kept). h.slot) o) ≡ is_some o
    there None = refl
    there (Some h) = refl

-- nothing is held of a path without a number
pub new_none : (paths : List (List ℕ)) (es : List Entry) (path : List ℕ) (page : ℕ) → IsNew paths path → is_held paths es path page ≡ false
new_none paths es path page new =
    none_passes (λ (e : Entry). is_number_of (slice_get paths (e.0).0) path && ((e.0).1 == page)) es
    (each (λ (e : Entry). (is_number_of (slice_get paths (e.0).0) path && ((e.0).1 == page)) ≡ false)
    (λ e. ap (λ (b : Bool). b && ((e.0).1 == page)) (other_number (slice_get paths (e.0).0) path (new (e.0).0))) es)

-- the entry that is found
pub record Finds (P : Entry → Type 0) (test : Key → Bool) (kept : Kept) : Type 0 where
  pub entry : Entry
  pub holds : P entry
  pub passes : test entry.0 ≡ true
  pub is : entry.1 ≡ kept

finds : (P : Entry → Type 0) (test : Key → Bool) (es : List Entry) (kept : Kept) → AllByRecursion P es → lookup test es ≡ Some kept → Finds P test kept
finds P test [] kept all e = absurd (let f : None ≡ Some kept = e in cc)
finds P test (d ∷ es) kept all e = go (test d.0) refl e (finds P test es kept all.1)
  where
    go : (b : Bool) → test d.0 ≡ b → cond b (Some d.1) (lookup test es) ≡ Some kept → (lookup test es ≡ Some kept → Finds P test kept) → Finds P test kept
    go true is f rest = record { entry = d; holds = all.0; passes = is; is = same_Some d.1 kept f }
    go false is f rest = rest f

both : (a b : Bool) → (a && b) ≡ true → (a ≡ true) × (b ≡ true)
both true b e = (refl, e)
both false b e = absurd (let f : false ≡ true = e in cc)

-- what is found under a key says what is kept of the machines on its path, and of the page
pub record FindsHeld (S : List ℕ) (path : List ℕ) (page : ℕ) (kept : Kept) : Type 0 where
  pub entry : Entry
  pub items : List Item
  pub pinned : pin_of S path ≡ Some items
  pub blocks : kept.blocks ≡ blocks_of items
  pub held : IsHeld S items (record { pages = kept.tables; full = false }) page kept.slot

pub finds_held : (S : List ℕ) (paths : List (List ℕ)) (es : List Entry) (k : ℕ) (path : List ℕ) (page : ℕ) (kept : Kept) → slice_get paths k ≡ Some path → EntriesAreRight S paths es → lookup (same (k, page)) es ≡ Some kept → FindsHeld S path page kept
finds_held S paths es k path page kept is right found =
    let f = finds (EntryIsRight S paths) (same (k, page)) es kept right found in
    let e : Entry = f.entry in
    let parts = both (k == (e.0).0) (page == (e.0).1) f.passes in
    let number : k ≡ (e.0).0 = eqb-true k (e.0).0 parts.0 in
    let here : page ≡ (e.0).1 = eqb-true page (e.0).1 parts.1 in
    let path_is : path ≡ syllables f.holds.items = same_Some path (syllables f.holds.items) (sym is ∙ ap (slice_get paths) number ∙ f.holds.named) in
    record {
      entry = e;
      items = f.holds.items;
      pinned = ap (pin_of S) path_is ∙ (held_right S f.holds.items (record { pages = (e.1).tables; full = false }) (e.0).1 (e.1).slot f.holds.held).0;
      blocks = ap (λ (h : Kept). h.blocks) (sym f.is) ∙ f.holds.blocks;
      held =
          subst (λ (h : Kept). IsHeld S f.holds.items (record { pages = h.tables; full = false }) page h.slot) f.is
          (subst (λ (n : ℕ). IsHeld S f.holds.items (record { pages = (e.1).tables; full = false }) n (e.1).slot) (sym here) f.holds.held);
    }

-- the slot that is found is the page's
pub slot_found : (S : List ℕ) (paths : List (List ℕ)) (es : List Entry) (k : ℕ) (path : List ℕ) (page : ℕ) (items : List Item) (slot : Slot)
    → slice_get paths k ≡ Some path
    → EntriesAreRight S paths es
    → pin_of S path ≡ Some items
    → option_map (λ (h : Kept). h.slot) (lookup (same (k, page)) es) ≡ Some slot
    → slice_get (map_along S items) page ≡ Some slot
slot_found S paths es k path page items slot is right pinned found = go (lookup (same (k, page)) es) refl found
  where
    go : (o : Option Kept) → lookup (same (k, page)) es ≡ o → option_map (λ (h : Kept). h.slot) o ≡ Some slot → slice_get (map_along S items) page ≡ Some slot
    go None there e = absurd (let f : None ≡ Some slot = e in cc)
    go (Some kept) there e =
        let f = finds_held S paths es k path page kept is right there in
        let same_items : f.items ≡ items = same_Some f.items items (sym f.pinned ∙ pinned) in
        let r = (held_right S f.items (record { pages = kept.tables; full = false }) page kept.slot f.held) in
        let there_map : map_along S f.items ≡ r.1.0 = same_Some (map_along S f.items) r.1.0 (sym (ap (option_map (map_along S)) r.0) ∙ r.1.1) in
        ap (λ (xs : List Item). slice_get (map_along S xs) page) (sym same_items)
        ∙ ap (λ (F : List Slot). slice_get F page) there_map
        ∙ r.1.2
        ∙ ap Some (same_Some kept.slot slot e)

-- the entries with the one whose key passes put first
abbrev pub promoted : (Key → Bool) → List Entry → List Entry
promoted test es = option_map_or (λ e. e ∷ remove_entry test es) (lookup_entry test es) es

-- an entry that is taken out, and put first
all_removed : (P : Entry → Type 0) (test : Key → Bool) (es : List Entry) → AllByRecursion P es → AllByRecursion P (remove_entry test es)
all_removed P test [] all = all
all_removed P test (e ∷ es) all = go (test e.0) (all_removed P test es all.1)
  where
    go : (b : Bool) → AllByRecursion P (remove_entry test es) → AllByRecursion P (cond b es (e ∷ remove_entry test es))
    go true rest = all.1
    go false rest = (all.0, rest)

all_taken : (P : Entry → Type 0) (n : ℕ) (es : List Entry) → AllByRecursion P es → AllByRecursion P (take n es)
all_taken P zero es all = tt
all_taken P (suc n) [] all = all
all_taken P (suc n) (e ∷ es) all = (all.0, all_taken P n es all.1)

found_entry : (P : Entry → Type 0) (test : Key → Bool) (es : List Entry) (e : Entry) → AllByRecursion P es → lookup_entry test es ≡ Some e → P e
found_entry P test [] e all is = absurd (let f : None ≡ Some e = is in cc)
found_entry P test (d ∷ es) e all is = go (test d.0) is (found_entry P test es e all.1)
  where
    go : (b : Bool) → cond b (Some d) (lookup_entry test es) ≡ Some e → (lookup_entry test es ≡ Some e → P e) → P e
    go true f rest = subst P (same_Some d e f) all.0
    go false f rest = rest f

pub all_promoted : (P : Entry → Type 0) (test : Key → Bool) (es : List Entry) → AllByRecursion P es → AllByRecursion P (promoted test es)
all_promoted P test es all = go (lookup_entry test es) refl
  where
    go : (o : Option Entry) → lookup_entry test es ≡ o → AllByRecursion P (option_map_or (λ e. e ∷ remove_entry test es) o es)
    go None is = all
    go (Some e) is = (found_entry P test es e all is, all_removed P test es all)

or_turned : (a b c : Bool) → (a || (b || c)) ≡ (b || (a || c))
or_turned true true c = refl
or_turned true false c = refl
or_turned false b c = refl

any_found : (f : Entry → Bool) (test : Key → Bool) (es : List Entry) (e : Entry) → lookup_entry test es ≡ Some e → (f e || list_any f (remove_entry test es)) ≡ list_any f es
any_found f test [] e is = absurd (let g : None ≡ Some e = is in cc)
any_found f test (d ∷ es) e is = go (test d.0) is (any_found f test es e)
  where
    go : (b : Bool)
        → cond b (Some d) (lookup_entry test es) ≡ Some e
        → (lookup_entry test es ≡ Some e → (f e || list_any f (remove_entry test es)) ≡ list_any f es)
        → (f e || list_any f (cond b es (d ∷ remove_entry test es))) ≡ (f d || list_any f es)
    go true g rest = ap (λ (x : Entry). f x || list_any f es) (sym (same_Some d e g))
    go false g rest = or_turned (f e) (f d) (list_any f (remove_entry test es)) ∙ ap (λ (b : Bool). f d || b) (rest g)

any_promoted : (f : Entry → Bool) (test : Key → Bool) (es : List Entry) → list_any f (promoted test es) ≡ list_any f es
any_promoted f test es = go (lookup_entry test es) refl
  where
    go : (o : Option Entry) → lookup_entry test es ≡ o → list_any f (option_map_or (λ e. e ∷ remove_entry test es) o es) ≡ list_any f es
    go None is = refl
    go (Some e) is = any_found f test es e is

pub held_promoted : (paths : List (List ℕ)) (test : Key → Bool) (es : List Entry) (path : List ℕ) (page : ℕ) → is_held paths (promoted test es) path page ≡ is_held paths es path page
held_promoted paths test es path page = any_promoted (λ (e : Entry). is_number_of (slice_get paths (e.0).0) path && ((e.0).1 == page)) test es

-- where all paths keep their numbers, what is held stays
pub entries_stay : (S : List ℕ) (paths more : List (List ℕ)) (es : List Entry) → NumbersStay paths more → EntriesAreRight S paths es → EntriesAreRight S more es
entries_stay S paths more [] stay right = tt
entries_stay S paths more (e ∷ es) stay right =
    let r = right.0 in (
      record { items = r.items; named = stay (e.0).0 (syllables r.items) r.named; blocks = r.blocks; held = r.held },
      entries_stay S paths more es stay right.1,
    )

pub held_stays : (S : List ℕ) (paths more : List (List ℕ)) (es : List Entry) (path : List ℕ) (page : ℕ) → NumbersStay paths more → EntriesAreRight S paths es → is_held more es path page ≡ is_held paths es path page
held_stays S paths more [] path page stay right = refl
held_stays S paths more (e ∷ es) path page stay right =
    let r = right.0 in
    let is : slice_get more (e.0).0 ≡ slice_get paths (e.0).0 = stay (e.0).0 (syllables r.items) r.named ∙ sym r.named in
    λ i. (is_number_of (is i) path && ((e.0).1 == page)) || (held_stays S paths more es path page stay right.1) i

-- the machines on a path have it as their own
path_is : (S : List ℕ) (path : List ℕ) (items : List Item) → pin_of S path ≡ Some items → path ≡ syllables items
unfolding pin_of
path_is S path items pinned = sym (machines_chained S (identity (page_count S)) 0 path items pinned).0

-- what rests on the listed pages is held
pub entry_right : (S : List ℕ) (paths : List (List ℕ)) (k : ℕ) (path : List ℕ) (items : List Item) (page : ℕ) (slot : Slot) (tables : Listed)
    → slice_get paths k ≡ Some path
    → pin_of S path ≡ Some items
    → slice_get (map_along S items) page ≡ Some slot
    → tables ≡ pages_for S items page
    → tables.full ≡ false
    → EntryIsRight S paths ((k, page), kept_of slot items tables.pages)
entry_right S paths k path items page slot tables is pinned found listed room =
    let first : Listed = with_pages no_pages (pin_pages S items) in
    let read : List ℕ = pages_read (gathered_along S items) page in
    let all_room : (with_pages first read).full ≡ false = ap (λ (p : Listed). p.full) (sym listed) ∙ room in
    let first_room : first.full ≡ false = room_before first read all_room in
    let own : pin_of S (syllables items) ≡ Some items = pinned_own S path items pinned in
    let n = noticed (gathered_along S items) (map_along S items) page slot (slots-along S items) found in
    let pages : Listed = record { pages = tables.pages; full = false } in
    let pin_listed : Lists pages (pin_pages S items) =
    subst (λ (p : Listed). Lists (record { pages = p.pages; full = false }) (pin_pages S items)) (sym listed)
    (lists_keep first read (pin_pages S items) (lists_all no_pages (pin_pages S items) first_room))
    in
    let page_listed : Lists pages read =
    subst (λ (p : Listed). Lists (record { pages = p.pages; full = false }) read) (sym listed) (lists_all first read all_room)
    in
    record {
      items = items;
      named = is ∙ ap Some (path_is S path items pinned);
      blocks = refl;
      held = record {
        placed = pin_placed S path items pages pinned pin_listed;
        gathered = n.gathered;
        found = n.found;
        same = n.slot;
        listed = subst (λ (o : Option Gathered). Lists pages (pages_gathered o)) n.found page_listed;
      };
    }

-- it comes first
pub all_kept : (P : Entry → Type 0) (c : Holding) (key : Key) (kept : Kept) → P (key, kept) → AllByRecursion P c.entries → AllByRecursion P (with_entry c key kept)
all_kept P c key kept this all = (this, all_taken P _ (remove_entry (same key) c.entries) (all_removed P (same key) c.entries all))

pub held_first : (paths : List (List ℕ)) (k : ℕ) (path : List ℕ) (page : ℕ) (kept : Kept) (c : Holding) → slice_get paths k ≡ Some path → is_held paths (with_entry c (k, page) kept) path page ≡ true
held_first paths k path page kept c is =
    ap
    (λ (b : Bool).
    (b && (page == page))
    || list_any (λ (e : Entry). is_number_of (slice_get paths (e.0).0) path && ((e.0).1 == page)) (take (c.cap - 1) (remove_entry (same (k, page)) c.entries)))
    (own_number paths k path is)
    ∙ ap
    (λ (b : Bool).
    b || list_any (λ (e : Entry). is_number_of (slice_get paths (e.0).0) path && ((e.0).1 == page)) (take (c.cap - 1) (remove_entry (same (k, page)) c.entries)))
    (eq-eqb page page refl)

-- what isn't held for want of memory isn't held
pub not_held : (held : Bool) → held ≡ false → (Memory ≡ Held → held ≡ true) × (held ≡ true → Memory ≡ Held)
not_held held none = (λ e. absurd (let f : Memory ≡ Held = e in cc), λ e. absurd (let f : true ≡ false = sym e ∙ none in cc))

-- the pages on which it rests are pages that a storage can have
pub tables_inside : (S : List ℕ) (items : List Item) (page limit : ℕ) (tables : Listed) → page_count S ≤ limit → tables ≡ pages_for S items page → AllBelow limit tables.pages
tables_inside S items page limit tables few listed =
    subst (λ (p : Listed). AllBelow limit p.pages) (sym listed)
    (below_more (page_count S) limit (pages_for S items page).pages few
    (listed_below (page_count S) (with_pages no_pages (pin_pages S items)) (pages_read (gathered_along S items) page)
    (listed_below (page_count S) no_pages (pin_pages S items) tt (pin_pages_below S items))
    (pages_read_below S items page)))

pub blocks_inside : (S : List ℕ) (path : List ℕ) (items : List Item) (limit : ℕ) → page_count S ≤ limit → pin_of S path ≡ Some items → AllBelow limit (blocks_of items)
blocks_inside S path items limit few pinned =
    below_more (page_count S) limit (blocks_of items) few (blocks_below S items (pinned_own S path items pinned))

pub some_reads : (items : List Item) → 0 < reads_bound items
some_reads items = subst (λ (n : ℕ). 0 < n) (reads_at-length items) (reads_at-some items _)

-- a path has a number or has none
has_number : (paths : List (List ℕ)) (path : List ℕ) → ((k : ℕ) × (slice_get paths k ≡ Some path)) ⊎ IsNew paths path
has_number [] path = inr (λ k e. absurd (let f : None ≡ Some path = e in cc))
has_number (p ∷ paths) path = go (same_path p path) refl (has_number paths path)
  where
    go : (b : Bool) → same_path p path ≡ b → ((k : ℕ) × (slice_get paths k ≡ Some path)) ⊎ IsNew paths path → ((k : ℕ) × (slice_get (p ∷ paths) k ≡ Some path)) ⊎ IsNew (p ∷ paths) path
    go true is rest = inl (zero, ap Some (same_paths p path is))
    go false is (inl found) = inl (suc found.0, found.1)
    go false is (inr new) = inr other
      where
        other : (k : ℕ) → slice_get (p ∷ paths) k ≢ Some path
        other zero e = let f : true ≡ false = sym (own_path path) ∙ ap (λ (q : List ℕ). same_path q path) (sym (same_Some p path e)) ∙ is in cc
        other (suc k) e = new k e

before_last : (paths : List (List ℕ)) (last path : List ℕ) (k : ℕ) → slice_get paths k ≡ Some path → slice_get (paths ++ last ∷ []) k ≡ Some path
before_last [] last path k e = absurd (let f : None ≡ Some path = e in cc)
before_last (p ∷ paths) last path zero e = e
before_last (p ∷ paths) last path (suc k) e = before_last paths last path k e

-- a path that gets a number leaves the others theirs
pub numbers_stay : (paths more : List (List ℕ)) (path : List ℕ)
    → ((k : ℕ) → slice_get paths k ≡ Some path → more ≡ paths)
    → (IsNew paths path → more ≡ paths ++ path ∷ [])
    → NumbersStay paths more
numbers_stay paths more path known added = go (has_number paths path)
  where
    go : ((k : ℕ) × (slice_get paths k ≡ Some path)) ⊎ IsNew paths path → NumbersStay paths more
    go (inl found) k p is = ap (λ (ps : List (List ℕ)). slice_get ps k) (known found.0 found.1) ∙ is
    go (inr new) k p is = ap (λ (ps : List (List ℕ)). slice_get ps k) (added new) ∙ before_last paths path p k is

-- at the end the path so far is the whole path
pub number_ends : (paths : List (List ℕ)) (xs path : List ℕ) (i : ℕ) (number : Option ℕ)
    → xs ≡ path
    → length xs ≤ i
    → IsNumber (length paths) number
    → parent_path paths number ≡ take i xs
    → MatchOption number (path ≡ []) (λ k. slice_get paths k ≡ Some path)
number_ends paths xs path i None same past given so_far = sym (so_far ∙ take_all i xs past ∙ same)
number_ends paths xs path i (Some k) same past given so_far =
    slice_get-get_or paths k [] given ∙ ap Some (so_far ∙ take_all i xs past ∙ same)

-- the pages that were listed one after the other are those that were read
pub listed_for : (S : List ℕ) (items : List Item) (page : ℕ) (first second third : Listed)
    → first ≡ no_pages
    → second ≡ with_pages first (pin_pages S items)
    → third ≡ with_pages second (pages_read (gathered_along S items) page)
    → third ≡ pages_for S items page
listed_for S items page first second third a b c =
    c
    ∙ ap (λ (p : Listed). with_pages p (pages_read (gathered_along S items) page))
    (b ∙ ap (λ (p : Listed). with_pages p (pin_pages S items)) a)
