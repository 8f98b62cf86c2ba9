-- What a look-up finds after each change of a cache.
use Rattle.std.specs.Prelude.{◌≡◌, ℕ, ◌<◌, false, if◌then◌else◌, List, ◌∷◌, length, Option, Some, None, IfSome}
use Rattle.std.specs.List.{IsDistinct}
use Rattle.std.specs.Map.{keys_of, lookup, remove_entry}
use Rattle.lru.specs.LruCache.{promoted}
use Rattle.hv_cache.specs.Kept.{Kept, rests_on}
use Rattle.hv_cache.specs.Holding.{Entry, Holding, Key, same, with_entry, without_page}

-- what was kept last for a key is found
abbrev pub KeptIsFoundLaw : Type 0
KeptIsFoundLaw = (c : Holding) (key : Key) (k : Kept) → lookup (same key) (with_entry c key k) ≡ Some k

-- after k is kept for a key, a look-up of the key finds k; one of another key finds what it found before, or nothing
abbrev pub OnlyKeptIsNewLaw : Type 0
OnlyKeptIsNewLaw =
    (c : Holding) (key : Key) (k : Kept)
    → (lookup (same key) (with_entry c key k) ≡ Some k)
    × ((q : Key)
    → same key q ≡ false
    → IfSome (lookup (same q) (with_entry c key k)) (λ found. lookup (same q) c.entries ≡ Some found))

-- where fewer are held than the capacity, all others stay; and what is found for them is the same
abbrev pub OthersStayLaw : Type 0
OthersStayLaw =
    (c : Holding) (key q : Key) (k : Kept)
    → length c.entries < c.cap
    → same key q ≡ false
    → (with_entry c key k ≡ (key, k) ∷ remove_entry (same key) c.entries)
    × (lookup (same q) (with_entry c key k) ≡ lookup (same q) c.entries)

-- a look-up changes nothing that others find
abbrev pub LookKeepsLaw : Type 0
LookKeepsLaw = (es : List Entry) (key q : Key) → lookup (same q) (promoted (same key) es) ≡ lookup (same q) es

-- what is found, where it doesn't rest on the bare page g
abbrev pub unless_on : ℕ → Option Kept → Option Kept
unless_on g None = None
unless_on g (Some k) = if rests_on g k then None else Some k

-- after a page is forgotten, what doesn't rest on it is found, and nothing else
abbrev pub ForgottenLaw : Type 0
ForgottenLaw =
    (g : ℕ) (es : List Entry) (q : Key)
    → IsDistinct same (keys_of es)
    → lookup (same q) (without_page g es) ≡ unless_on g (lookup (same q) es)
