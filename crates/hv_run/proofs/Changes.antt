-- The first of a list, as many as are kept, with one more at its end.
use Rattle.std.proofs.Common.{◌≡◌, ◌<◌, ◌≤◌, List, [], ◌∷◌, ◌++◌, length, take, sym, ◌∙◌, arith}
use Rattle.std.proofs.lemmas.List.{take_all, take-append-le, length_push}
use Rattle.hv_nest.specs.Watched.{LineChange}
use Rattle.hv_limits.specs.Limits.{kept_limit}

pub kept_short : (xs : List LineChange) (x : LineChange) → length xs < kept_limit → xs ++ x ∷ [] ≡ take kept_limit (xs ++ x ∷ [])
kept_short xs x lt = sym (take_all kept_limit (xs ++ x ∷ []) (omega (arith, length_push xs x)))

pub kept_full : (xs : List LineChange) (x : LineChange) → kept_limit ≤ length xs → length xs ≤ kept_limit → xs ≡ take kept_limit (xs ++ x ∷ [])
kept_full xs x ge le = sym (take_all kept_limit xs le) ∙ sym (take-append-le kept_limit xs (x ∷ []) ge)
