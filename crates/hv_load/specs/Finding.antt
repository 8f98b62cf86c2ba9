-- How the words of one line are found, where the machine's chain is found once.
use Rattle.std.specs.Prelude.{ℕ, Bool, nat_lt, if◌then◌else◌, List, ◌++◌, Option, Result, Ok, Err}
use Rattle.std.specs.Option.{option_map}
use Rattle.hv_map.specs.Item.{Item}
use Rattle.hv_map.specs.Chain.{map_along}
use Rattle.hv_load.specs.declared.ends.BuildKind.{BuildKind}
use Rattle.hv_load.specs.declared.ends.BuildKind.TheVariants as kind
use Rattle.hv_load.specs.declared.parts.Mark.{Mark}
use Rattle.hv_load.specs.Pages.{if_free, reads_in}
use Rattle.hv_lex.specs.Refusing.{◌>>=◌}

-- the bare page of a page of a machine with so many pages, at the end of the chain, if there is one
abbrev pub page_along : List ℕ → Option (List Item) → (limit page : ℕ) → Result ℕ BuildKind
page_along S chain limit page =
    if nat_lt page limit then reads_in (option_map (map_along S) chain) page else Err kind.Outside

-- the same, if need be where it is free
abbrev pub found_by :
    List ℕ → List Mark → Option (List Item) → (limit : ℕ) → (free : Bool) → (page : ℕ) → Result ℕ BuildKind
found_by S marks chain limit free page =
    if free then page_along S chain limit page >>= if_free marks else page_along S chain limit page

-- what was found so far, before what is found yet
abbrev pub in_front : List ℕ → Result (List ℕ) BuildKind → Result (List ℕ) BuildKind
in_front front (Ok found) = Ok (front ++ found)
in_front front (Err why) = Err why
