-- Which translations are held.
use Rattle.std.specs.Prelude.{◌≡◌, ℕ, Bool, true, false, ◌&&◌, ◌==◌, List, [], ◌∷◌, Option, Some, None, slice_get}
use Rattle.std.specs.List.{list_any}
use Rattle.hv_map.specs.Item.{Item}
use Rattle.hv_map.specs.Gathered.{Listed, no_pages, gathered_along, pages_read, pin_pages, with_pages}
use Rattle.hv_cache.specs.Holding.{Entry}

-- whether two paths are the same
unfoldable pub same_path : List ℕ → List ℕ → Bool
same_path [] [] = true
same_path [] (t ∷ q) = false
same_path (s ∷ p) [] = false
same_path (s ∷ p) (t ∷ q) = (s == t) && same_path p q

-- whether a number is that of a path
abbrev pub is_number_of : Option (List ℕ) → List ℕ → Bool
is_number_of None path = false
is_number_of (Some p) path = same_path p path

-- whether the translation of a page of the machine on a path is held
abbrev pub is_held : List (List ℕ) → List Entry → List ℕ → ℕ → Bool
is_held paths es path page =
    list_any (λ (e : Entry). is_number_of (slice_get paths (e.0).0) path && ((e.0).1 == page)) es

-- Whether the slot of a page is known without a table: on the bare machine's path each is, on others those that are
-- held.
abbrev pub is_known : List (List ℕ) → List Entry → List ℕ → ℕ → Bool
is_known paths es [] page = true
is_known paths es (s ∷ path) page = is_held paths es (s ∷ path) page

-- the pages that are read to find the machines on a path, and then a page of the last of them
abbrev pub pages_for : List ℕ → List Item → ℕ → Listed
pages_for S items page = with_pages (with_pages no_pages (pin_pages S items)) (pages_read (gathered_along S items) page)

-- each path that has a number keeps it
abbrev pub NumbersStay : List (List ℕ) → List (List ℕ) → Type 0
NumbersStay paths more = (k : ℕ) (path : List ℕ) → slice_get paths k ≡ Some path → slice_get more k ≡ Some path
