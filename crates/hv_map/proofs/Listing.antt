-- The pages that a look-up adds to a list, case by case.
use Rattle.std.proofs.Common.{◌≡◌, ℕ, ◌+◌, ◌<◌, ◌≤◌, Bool, false, cond, ◌==◌, List, [], ◌∷◌, ◌++◌, length, Option, Some, None, refl, ap, ◌∙◌, sym, slice_get}
use Rattle.std.proofs.lemmas.List.{append-nil}
use Rattle.hv_word.specs.Words.{field_of}
use Rattle.hv_store.specs.declared.access.Slot.{Slot}
use Rattle.hv_store.specs.declared.access.Way.{Way}
use Rattle.hv_store.specs.declared.access.Way.TheVariants.{Open, Shut}
use Rattle.hv_map.specs.Item.{Item}
use Rattle.hv_map.specs.Compose.{Looked, Named, Stopped, entry_of, reading, table_of}
use Rattle.hv_map.specs.Levels.{map_at, table_at, entry_at}
use Rattle.hv_word.specs.Storage.{page_count}
use Rattle.hv_map.specs.Gathered.{bare_gathered_map, block_pages, gathered_along, gathered_from, pin_pages}
use Rattle.hv_map.specs.Gathered.{Listed, slots_of, pages_read, pages_through, word_pages, directory_pages, table_word_pages, entry_pages, target_pages, gathered_slot, gathered_at, with_page, with_pages}
use Rattle.hv_map.proofs.GatheredMaps.{block_pages-snoc, slots-at, read_at-zero, read_at-suc, read_at-past}

-- some pages, and then some more
pub with-append : (p : Listed) (gs hs : List ℕ) → with_pages p (gs ++ hs) ≡ with_pages (with_pages p gs) hs
unfolding with_pages
with-append p [] hs = refl
with-append p (g ∷ gs) hs = with-append (with_page p g) gs hs

pub with-none : (p : Listed) → with_pages p [] ≡ p
unfolding with_pages
with-none p = refl

with-one : (p : Listed) (g : ℕ) → with_pages p (g ∷ []) ≡ with_page p g
unfolding with_pages
with-one p g = refl

module _ (S : List ℕ) (items : List Item) (k : ℕ) where
  -- a page of the bare machine, of a child, and one that isn't there
  pub lists_bare : (p : Listed) (u : ℕ) → k ≡ 0 → p ≡ with_pages p (pages_read (gathered_at S items k) u)
  lists_bare p u e = sym (ap (with_pages p) (read_at-zero S items k u e) ∙ with-none p)

  pub lists_child : (p q : Listed) (j i : ℕ) (x : Item)
      → slice_get items k ≡ Some x
      → j ≡ k + 1
      → i < length (map_at S items j)
      → q ≡ with_pages p (gathered_slot S (gathered_at S items k) k x.table x.version i).pages
      → q ≡ with_pages p (pages_read (gathered_at S items j) i)
  lists_child p q j i x is e h l = l ∙ ap (with_pages p) (sym (read_at-suc S items k j i x is e h))

  pub lists_past : (p : Listed) (u : ℕ) → length (map_at S items k) ≤ u → p ≡ with_pages p (pages_read (gathered_at S items k) u)
  lists_past p u h = sym (ap (with_pages p) (read_at-past S items k u h) ∙ with-none p)

  -- a word of a page
  reads : (u : ℕ) → reading (slots_of (gathered_at S items k)) u ≡ reading (map_at S items k) u
  reads u = ap (λ (G : List Slot). reading G u) (slots-at S items k)

  through : (u : ℕ) (o : Option Slot) → slice_get (map_at S items k) u ≡ o → word_pages (gathered_at S items k) u ≡ pages_through (pages_read (gathered_at S items k) u) (Rattle.std.specs.Option.option_map (λ (s : Slot). s.read) o)
  through u o is =
      ap (pages_through (pages_read (gathered_at S items k) u)) (reads u ∙ ap (Rattle.std.specs.Option.option_map (λ (s : Slot). s.read)) is)

  pub lists_outside : (p q : Listed) (u : ℕ)
      → None ≡ slice_get (map_at S items k) u
      → q ≡ with_pages p (pages_read (gathered_at S items k) u)
      → q ≡ with_pages p (word_pages (gathered_at S items k) u)
  lists_outside p q u is l = l ∙ ap (with_pages p) (sym (through u None (sym is)))

  pub lists_shut : (p q : Listed) (u l c a : ℕ) (w : Option ℕ) (s : Slot)
      → Some s ≡ slice_get (map_at S items k) u
      → s.read ≡ Shut l c a w
      → q ≡ with_pages p (pages_read (gathered_at S items k) u)
      → q ≡ with_pages p (word_pages (gathered_at S items k) u)
  lists_shut p q u l c a w s is way e =
      e
      ∙ ap (with_pages p)
      (sym (through u (Some s) (sym is) ∙ ap (λ (o : Way). pages_through (pages_read (gathered_at S items k) u) (Some o)) way))

  pub lists_word : (p q r : Listed) (u g : ℕ) (s : Slot)
      → Some s ≡ slice_get (map_at S items k) u
      → s.read ≡ Open g
      → q ≡ with_pages p (pages_read (gathered_at S items k) u)
      → r ≡ with_page q g
      → r ≡ with_pages p (word_pages (gathered_at S items k) u)
  lists_word p q r u g s is way e f =
      f
      ∙ ap (λ (l : Listed). with_page l g) e
      ∙ sym (with-one (with_pages p (pages_read (gathered_at S items k) u)) g)
      ∙ sym (with-append p (pages_read (gathered_at S items k) u) (g ∷ []))
      ∙ ap (with_pages p)
      (sym (through u (Some s) (sym is) ∙ ap (λ (o : Way). pages_through (pages_read (gathered_at S items k) u) (Some o)) way))

  -- a directory word
  pub lists_directory : (p q : Listed) (t v : ℕ)
      → v ≡ 2
      → q ≡ with_pages p (word_pages (gathered_at S items k) t)
      → q ≡ with_pages p (directory_pages (gathered_at S items k) t v)
  lists_directory p q t v e l =
      l ∙ ap (λ (n : ℕ). with_pages p (directory_pages (gathered_at S items k) t n)) (sym e)

  pub lists_no_directory : (p : Listed) (t v : ℕ) → (v == 2) ≡ false → p ≡ with_pages p (directory_pages (gathered_at S items k) t v)
  lists_no_directory p t v e =
      sym (ap (λ (b : Bool). with_pages p (cond b (word_pages (gathered_at S items k) t) [])) e ∙ with-none p)

  -- a table word
  table_is : (t v i : ℕ) → table_of S (reading (slots_of (gathered_at S items k))) k t v i ≡ table_of S (reading (map_at S items k)) k t v i
  table_is t v i = ap (λ (G : List Slot). table_of S (reading G) k t v i) (slots-at S items k)

  entry_is : (t v i : ℕ) → entry_of S (reading (slots_of (gathered_at S items k))) k t v i ≡ entry_of S (reading (map_at S items k)) k t v i
  entry_is t v i = ap (λ (G : List Slot). entry_of S (reading G) k t v i) (slots-at S items k)

  pub lists_no_table : (p q : Listed) (x : Item) (i : ℕ) (way : Way)
      → Stopped way ≡ table_at S items k x i
      → q ≡ with_pages p (directory_pages (gathered_at S items k) x.table x.version)
      → q ≡ with_pages p (entry_pages S (gathered_at S items k) k x.table x.version i)
  lists_no_table p q x i way is l =
      l
      ∙ ap (with_pages p)
      (sym (append-nil (directory_pages (gathered_at S items k) x.table x.version))
      ∙ ap (λ (o : Looked). directory_pages (gathered_at S items k) x.table x.version ++ table_word_pages (gathered_at S items k) o) (is ∙ sym (table_is x.table x.version i)))

  pub lists_table : (p q r : Listed) (x : Item) (i u : ℕ)
      → Named u ≡ table_at S items k x i
      → q ≡ with_pages p (directory_pages (gathered_at S items k) x.table x.version)
      → r ≡ with_pages q (word_pages (gathered_at S items k) u)
      → r ≡ with_pages p (entry_pages S (gathered_at S items k) k x.table x.version i)
  lists_table p q r x i u is l m =
      m
      ∙ ap (λ (o : Listed). with_pages o (word_pages (gathered_at S items k) u)) l
      ∙ sym (with-append p (directory_pages (gathered_at S items k) x.table x.version) (word_pages (gathered_at S items k) u))
      ∙ ap (λ (o : Looked). with_pages p (directory_pages (gathered_at S items k) x.table x.version ++ table_word_pages (gathered_at S items k) o)) (is ∙ sym (table_is x.table x.version i))

  -- the page that it names
  pub lists_no_target : (p q : Listed) (x : Item) (i : ℕ) (way : Way)
      → Stopped way ≡ entry_at S items k x i
      → q ≡ with_pages p (entry_pages S (gathered_at S items k) k x.table x.version i)
      → q ≡ with_pages p (gathered_slot S (gathered_at S items k) k x.table x.version i).pages
  lists_no_target p q x i way is l =
      l
      ∙ ap (with_pages p)
      (sym (append-nil (entry_pages S (gathered_at S items k) k x.table x.version i))
      ∙ ap (λ (o : Looked). entry_pages S (gathered_at S items k) k x.table x.version i ++ target_pages (gathered_at S items k) o) (is ∙ sym (entry_is x.table x.version i)))

  pub lists_target : (p q r : Listed) (x : Item) (i e : ℕ)
      → Named e ≡ entry_at S items k x i
      → q ≡ with_pages p (entry_pages S (gathered_at S items k) k x.table x.version i)
      → r ≡ with_pages q (pages_read (gathered_at S items k) (field_of e 12 20))
      → r ≡ with_pages p (gathered_slot S (gathered_at S items k) k x.table x.version i).pages
  lists_target p q r x i e is l m =
      m
      ∙ ap (λ (o : Listed). with_pages o (pages_read (gathered_at S items k) (field_of e 12 20))) l
      ∙ sym (with-append p (entry_pages S (gathered_at S items k) k x.table x.version i) (pages_read (gathered_at S items k) (field_of e 12 20)))
      ∙ ap (λ (o : Looked). with_pages p (entry_pages S (gathered_at S items k) k x.table x.version i ++ target_pages (gathered_at S items k) o)) (is ∙ sym (entry_is x.table x.version i))

-- the blocks of the machines on a path, one more each time
pub pins_none : (p : Listed) (S : List ℕ) → p ≡ with_pages p (pin_pages S [])
unfolding pin_pages block_pages
pins_none p S = sym (with-none p)

pub pins_more : (p q r : Listed) (S : List ℕ) (items : List Item) (x : Item)
    → q ≡ with_pages p (pin_pages S items)
    → r ≡ with_pages q (pages_read (gathered_along S items) x.syllable)
    → r ≡ with_pages p (pin_pages S (items ++ x ∷ []))
unfolding pin_pages gathered_along
pins_more p q r S items x e f =
    f
    ∙ ap (λ (o : Listed). with_pages o (pages_read (gathered_from S (bare_gathered_map (page_count S)) 0 items) x.syllable)) e
    ∙ sym (with-append p (block_pages S (bare_gathered_map (page_count S)) 0 items) (pages_read (gathered_from S (bare_gathered_map (page_count S)) 0 items) x.syllable))
    ∙ ap (with_pages p) (sym (block_pages-snoc S (bare_gathered_map (page_count S)) 0 items x))
