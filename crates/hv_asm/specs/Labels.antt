-- Labels, by their names.
use Rattle.std.specs.Prelude.{ℕ, List, Option, Some, None, if◌then◌else◌}
use Rattle.std.specs.Str.{bytes_eq}
use Rattle.hv_asm.specs.Definitions.{place_among}
use Rattle.hv_asm.specs.declared.labels.Labels.{Labels}
use Rattle.hv_asm.specs.declared.labels.Place.{Place}

-- where a label stands
unfoldable pub place_in : Labels → List ℕ → Option Place
place_in labels name = place_among labels.definitions.items name

-- a place in front of another
abbrev pub first_of : Option Place → Option Place → Option Place
first_of (Some place) other = Some place
first_of None other = other

-- the places with that of a name behind them
abbrev pub kept : (List ℕ → Option Place) → List ℕ → Place → List ℕ → Option Place
kept find name place q = first_of (find q) (if bytes_eq name q then Some place else None)

-- the same of a name that a line may define
abbrev pub noted : (List ℕ → Option Place) → Option (List ℕ) → Place → List ℕ → Option Place
noted find (Some name) place q = kept find name place q
noted find None place q = find q
