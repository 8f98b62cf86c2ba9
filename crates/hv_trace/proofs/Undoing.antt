-- A word that is put back.
use Rattle.std.proofs.Common.{◌≡◌, ℕ, List, get_or, set, ◌∙◌}
use Rattle.std.proofs.lemmas.List.{set-set, set-get_or}

pub put_back : (T : List ℕ) (at v : ℕ) → set (set T at v) at (get_or T at 0) ≡ T
put_back T at v = set-set T at v (get_or T at 0) ∙ set-get_or T at 0

pub ruleset undoing = (put_back)
