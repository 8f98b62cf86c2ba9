-- What a job has come to while it is built, line by line.
use Rattle.std.specs.Prelude.{ℕ, ◌*◌, Bool, false, List, [], ◌∷◌, replicate, Option, Some, None, Result, Ok, Err, codes}
use Rattle.std.specs.List.{find}
use Rattle.std.specs.Str.{bytes_eq}
use Rattle.hv_cpu.specs.Regs.{Regs, reset_regs}
use Rattle.hv_store.specs.Zeros.{zeros}
use Rattle.hv_load.specs.declared.ends.BuildKind.{BuildKind}
use Rattle.hv_load.specs.declared.ends.BuildKind.TheVariants as kind
use Rattle.hv_load.specs.declared.parts.Mark.{Mark}
use Rattle.hv_load.specs.declared.parts.Mark.TheVariants.{Free}
use Rattle.hv_load.specs.declared.parts.PlacedWatch.{PlacedWatch}
use Rattle.hv_load.specs.declared.start.Dump.{Dump}
use Rattle.hv_lex.specs.Refusing.{◌>>=◌}

-- a machine: its name, the path to it, and how many pages its line gave it
pub record Known : Type 0 where
  pub name : List ℕ
  pub path : List ℕ
  pub pages : ℕ

-- The storage as it is; what each bare page was given to; the names in the order in which they were made, of which a
-- tower's `top` is a second one of its machine; how many machines were made, without the bare one; whether a tower was
-- made; the harts; what is to be watched, with the line that asks for it; and what is to be shown.
pub record Building : Type 0 where
  pub storage : List ℕ
  pub marks : List Mark
  pub names : List Known
  pub machines : ℕ
  pub towered : Bool
  pub harts : List Regs
  pub watches : List PlacedWatch
  pub dumps : List Dump

-- the first machine of this name
abbrev pub named : List ℕ → List Known → Option Known
named name ks = find (λ (k : Known). bytes_eq k.name name) ks

-- the machine, or the kind for a name that no machine has
abbrev pub known_as : Option Known → Result Known BuildKind
known_as None = Err kind.Unknown
known_as (Some k) = Ok k

-- the machine of this name, or that kind
abbrev pub known : List ℕ → List Known → Result Known BuildKind
known name ks = known_as (named name ks)

-- the same of a machine that lies in another: the bare machine isn't one, whatever its name
abbrev pub inside_another : Known → List ℕ → Result Known BuildKind
inside_another k [] = Err kind.Unknown
inside_another k (s ∷ path) = Ok k

-- the machine of this name, where it lies in another
abbrev pub known_inside : List ℕ → List Known → Result Known BuildKind
known_inside name ks = known name ks >>= λ k. inside_another k k.path

-- the bare machine, with all pages of the storage
abbrev pub root_with : ℕ → Known
root_with pages = record { name = codes "root"; path = []; pages = pages }

-- the start, with a storage of so many pages, all words zero, and so many harts as after a reset
abbrev pub nothing_built : (pages harts : ℕ) → Building
nothing_built pages harts = record {
  storage = zeros (1024 * pages);
  marks = replicate pages Free;
  names = root_with pages ∷ [];
  machines = 0;
  towered = false;
  harts = replicate harts reset_regs;
  watches = [];
  dumps = [];
}
