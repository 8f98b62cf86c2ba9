-- The names that lines define, with their places.
use Rattle.std.specs.Prelude.{ℕ, ◌≡◌, List, [], ◌∷◌, ◌++◌, find, Option, Some, None}
use Rattle.std.specs.Cmp.Lexicographic.{slice_cmp}
use Rattle.std.specs.Option.{option_map}
use Rattle.std.specs.Ordering.{nat_cmp, ordering_then}
use Rattle.std.specs.Str.{bytes_eq}
use Rattle.std.specs.declared.cmp.Ordering.{Ordering}
use Rattle.hv_asm.specs.declared.label_names.LabelName.{LabelName}
use Rattle.hv_asm.specs.declared.labels.Definition.{Definition}
use Rattle.hv_asm.specs.declared.labels.Place.{Place}

-- an order of names: by their heads, and then by their bytes
abbrev pub by_name : LabelName → LabelName → Ordering
by_name one other = ordering_then (nat_cmp one.head other.head) (slice_cmp nat_cmp one.bytes.now other.bytes.now)

-- the place of the first definition of a name
abbrev pub place_among : List Definition → List ℕ → Option Place
place_among definitions name = option_map (λ d. d.place) (find (λ d. bytes_eq d.name.bytes.now name) definitions)

-- a name is found where a definition has it
abbrev pub IsFound : (List ℕ → Option Place) → Definition → Type 0
IsFound find d = find d.name.bytes.now ≡ Some d.place

-- the definition of the name that a line defines, if it defines one, was put behind the others
abbrev pub IsNoted : (old new : List Definition) → Option (List ℕ) → Place → Type 0
IsNoted old new None place = new ≡ old
IsNoted old new (Some name) place =
    (d : Definition) × (new ≡ old ++ d ∷ []) × (d.name.bytes.now ≡ name) × (d.place ≡ place)
