-- The kinds of pages whose marks are taken away.
use Rattle.std.proofs.Common.{◌≡◌, ℕ, ◌<◌, Bool, true, false, cond, List, [], length, get_or, refl, ap, ◌∙◌, sym, subst}
use Rattle.std.specs.Prelude.{All}
use Rattle.std.specs.List.{IsDistinct}
use Rattle.hv_limits.specs.Limits.{pages_limit}
use Rattle.hv_word.specs.Words.{has}
use Rattle.hv_fast.specs.Marking.{IsKinds, kind_of}

-- where no page is marked, all kinds are 0
pub no_kinds : (ks : List ℕ) → length ks ≡ pages_limit → ((g : ℕ) → get_or ks g 0 ≡ 0) → IsKinds ks [] []
unfolding IsDistinct
no_kinds ks long zeros = record { long = long; each = zeros; tables_apart = tt; blocks_apart = tt }

twice : (a b : Bool) → cond b 0 (cond a 0 (kind_of a b)) ≡ 0
twice true true = refl
twice true false = refl
twice false true = refl
twice false false = refl

-- kinds that are erased in both lists
pub erased_both : (ks ls ns ts bs : List ℕ)
    → IsKinds ks ts bs
    → length ns ≡ pages_limit
    → ((g : ℕ) → get_or ls g 0 ≡ cond (has g ts) 0 (get_or ks g 0))
    → ((g : ℕ) → get_or ns g 0 ≡ cond (has g bs) 0 (get_or ls g 0))
    → IsKinds ns [] []
erased_both ks ls ns ts bs is long first second =
    no_kinds ns long (λ g.
    second g
    ∙ ap (λ (k : ℕ). cond (has g bs) 0 k) (first g ∙ ap (λ (k : ℕ). cond (has g ts) 0 k) (is.each g))
    ∙ twice (has g ts) (has g bs))

-- the same where lists are read through slices
pub erased : (ks ts bs k1 t1 n1 k2 b2 n2 : List ℕ)
    → IsKinds ks ts bs
    → k1 ≡ ks
    → t1 ≡ ts
    → ((g : ℕ) → get_or n1 g 0 ≡ cond (has g t1) 0 (get_or k1 g 0))
    → k2 ≡ n1
    → b2 ≡ bs
    → ((g : ℕ) → get_or n2 g 0 ≡ cond (has g b2) 0 (get_or k2 g 0))
    → length n2 ≡ pages_limit
    → IsKinds n2 [] []
erased ks ts bs k1 t1 n1 k2 b2 n2 is ek et first ek2 eb second long =
    erased_both ks n1 n2 ts bs is long
    (λ g. first g ∙ ap (λ (xs : List ℕ). cond (has g xs) 0 (get_or k1 g 0)) et ∙ ap (λ (xs : List ℕ). cond (has g ts) 0 (get_or xs g 0)) ek)
    (λ g. second g ∙ ap (λ (xs : List ℕ). cond (has g xs) 0 (get_or k2 g 0)) eb ∙ ap (λ (xs : List ℕ). cond (has g bs) 0 (get_or xs g 0)) ek2)

-- what is below the length of a list is below that of another as long
pub still_inside : (n : ℕ) (gs hs : List ℕ) (m : ℕ) → All (λ g. g < n) gs → m ≡ n → hs ≡ gs → All (λ g. g < m) hs
still_inside n gs hs m all e same =
    subst (λ (k : ℕ). All (λ g. g < k) hs) (sym e) (subst (All (λ g. g < n)) (sym same) all)
