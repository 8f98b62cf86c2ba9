-- The way of one page of a machine, found from the inside out: the page of its parent that its entry names, the page of
-- the grandparent that the entry of that page names, and so on to the bare page, or to the map that refuses.
use Rattle.std.specs.Prelude.{ℕ, Bool, nat_lt, if◌then◌else◌, List, [], ◌∷◌, length, reverse, Option, Some, None}
use Rattle.std.specs.Option.{option_map}
use Rattle.hv_word.specs.Words.{field_of}
use Rattle.hv_word.specs.Storage.{page_count}
use Rattle.hv_store.specs.declared.access.Access.{Access}
use Rattle.hv_store.specs.declared.access.Access.TheVariants.{Read, Write, Fetch}
use Rattle.hv_store.specs.declared.access.Way.{Way}
use Rattle.hv_store.specs.declared.access.Way.TheVariants.{Open, Shut}
use Rattle.hv_map.specs.Item.{Item}
use Rattle.hv_map.specs.Compose.{Looked, Named, Stopped, entry_of, no_write, no_fetch}
use Rattle.hv_map.specs.Chain.{pin_of}

-- how many pages the innermost of the machines has, or the bare machine, which has P
abbrev pub pages_of : ℕ → List Item → ℕ
pages_of P [] = P
pages_of P (x ∷ xs) = x.pages

-- whether the entry e, in a table of version v, refuses the access, and with which cause
abbrev pub refuses : ℕ → ℕ → Access → Bool
refuses v e Read = Bool.false
refuses v e Write = no_write e
refuses v e Fetch = no_fetch v e

-- the cause of such a refusal
abbrev pub refusal_cause : Access → ℕ
refusal_cause Write = 2
refusal_cause a = 7

-- the way of the child's page i from its entry on: the parent has m pages, with the ways `outer`, and is at level j
abbrev pub go_out : (ℕ → Access → Way) → ℕ → ℕ → ℕ → ℕ → Access → Looked → Way
go_out outer m j v i a (Stopped way) = way
go_out outer m j v i a (Named e) =
    if nat_lt (field_of e 12 20) m
    then (if refuses v e a then Shut j (refusal_cause a) i None else outer (field_of e 12 20) a)
    else Shut j 3 i None

-- the parent's way for reading a page, none where it has no such page
abbrev pub outer_reading : (ℕ → Access → Way) → ℕ → ℕ → Option Way
outer_reading outer m page = if nat_lt page m then Some (outer page Read) else None

-- the way of page i of the child x for an access, by its entry and the ways of its parent
abbrev pub step_out : List ℕ → (ℕ → Access → Way) → ℕ → ℕ → Item → ℕ → Access → Way
step_out S outer m j x i a =
    go_out outer m j x.version i a (entry_of S (outer_reading outer m) j x.table x.version i)

-- the way of page i for an access, where the machines on the path are given, the innermost first
unfoldable pub trail : List ℕ → ℕ → List Item → ℕ → Access → Way
trail S P [] i a = Open i
trail S P (x ∷ xs) i a = step_out S (trail S P xs) (pages_of P xs) (length xs) x i a

-- the same of the machine at the end of a path, if there is one
abbrev pub trail_of : List ℕ → List ℕ → ℕ → Access → Option Way
trail_of S path i a = option_map (λ (items : List Item). trail S (page_count S) (reverse items) i a) (pin_of S path)

-- The pages of the trail for reading: i, then the parent's page that its entry names, and so on outwards. They end with
-- the bare page, or with the last page whose map refused or whose directory or table word couldn't be read.
abbrev pub pages_out : (ℕ → List ℕ) → ℕ → Looked → List ℕ
pages_out outer m (Stopped way) = []
pages_out outer m (Named e) = if nat_lt (field_of e 12 20) m then outer (field_of e 12 20) else []

-- the same for page i of the machine at the end of the items, the innermost first
unfoldable pub trail_pages : List ℕ → ℕ → List Item → ℕ → List ℕ
trail_pages S P [] i = i ∷ []
trail_pages S P (x ∷ xs) i =
    i ∷ pages_out
    (trail_pages S P xs)
    (pages_of P xs)
    (entry_of S (outer_reading (trail S P xs) (pages_of P xs)) (length xs) x.table x.version i)
