-- How much directives take of what is limited.
use Rattle.std.proofs.Common.{◌≡◌, ℕ, ◌+◌, ◌<◌, ◌≤◌, ◌^◌, nat_lt, true, false, cond, lit<, List, [], ◌∷◌, Option, Some, None, refl, ap, subst, ◌∙◌, arith, zero-add}
use Rattle.std.proofs.lemmas.Bool.{ltb-false}
use Rattle.std.proofs.lemmas.Bool.Decides.{nat_tests}
use Rattle.std.proofs.lemmas.List.Sums.{sum_by-append}
use Rattle.hv_job.specs.Limited.{amount_of, is_same, limit_of, part_of, share_of, taken_by}
use Rattle.hv_job.specs.JobOf.{is_many, is_past, lines_with}
use Rattle.hv_line.specs.declared.types.Directive.{Directive}
use Rattle.hv_job.specs.declared.job.Placed.{Placed}
use Rattle.hv_job.specs.declared.limited.Limited.{Limited}
use Rattle.hv_job.specs.declared.limited.Limited.TheVariants as limited
use Rattle.hv_job.specs.declared.limited.Share.{Share}

-- one directive more
pub amount_more : (of : Limited) (lines : List Placed) (number : ℕ) (what : Directive) → amount_of of (lines_with lines number what) ≡ amount_of of lines + share_of of what
amount_more of lines number what =
    sum_by-append (λ placed. share_of of placed.what) lines (record { line = number; what = what } ∷ [])
    ∙ ap (λ n. amount_of of lines + n) (zero-add (share_of of what))

-- no limit is passed with a directive that does not take more than is left
room_of : (of taken : Limited) (amount : ℕ) (lines : List Placed) → nat_lt (limit_of taken) (amount_of taken lines + amount) ≡ false → amount_of of lines ≤ limit_of of → amount_of of lines + cond (is_same of taken) amount 0 ≤ limit_of of
room_of limited.Machines limited.Machines amount lines few le = ltb-false _ _ few
room_of limited.Watches limited.Watches amount lines few le = ltb-false _ _ few
room_of limited.Dumps limited.Dumps amount lines few le = ltb-false _ _ few
room_of limited.ImageBytes limited.ImageBytes amount lines few le = ltb-false _ _ few
room_of _ _ amount lines few le = omega arith

room_taken : (of : Limited) (lines : List Placed) (taken : Option Share) → is_past lines taken ≡ false → amount_of of lines ≤ limit_of of → amount_of of lines + part_of of taken ≤ limit_of of
room_taken of lines None few le = omega arith
room_taken of lines (Some share) few le = room_of of share.of share.amount lines few le

pub room : (of : Limited) (lines : List Placed) (what : Directive) → is_many lines what ≡ false → amount_of of lines ≤ limit_of of → amount_of of lines + share_of of what ≤ limit_of of
unfolding is_many
room of lines what few le = room_taken of lines (taken_by what) few le

-- and it can be counted
limit_small : (of : Limited) → limit_of of < 2 ^ 32
limit_small limited.Machines = lit< tt
limit_small limited.Watches = lit< tt
limit_small limited.Dumps = lit< tt
limit_small limited.ImageBytes = lit< tt

pub fits : (lines : List Placed) (what : Directive) (share : Share) → is_many lines what ≡ false → taken_by what ≡ Some share → amount_of share.of lines + share.amount < 2 ^ 32
unfolding is_many
fits lines what share few taken =
    let one : is_past lines (Some share) ≡ false = subst (λ t. is_past lines t ≡ false) taken few in
    let le : amount_of share.of lines + share.amount ≤ limit_of share.of = ltb-false _ _ one in
    omega (arith, le, limit_small share.of)

-- the other way: a directive with which all limits are kept does not take more than is left
same : (of : Limited) → is_same of of ≡ true
same limited.Machines = refl
same limited.Watches = refl
same limited.Dumps = refl
same limited.ImageBytes = refl

few_of : (taken : Limited) (amount : ℕ) (lines : List Placed) → amount_of taken lines + cond (is_same taken taken) amount 0 ≤ limit_of taken → nat_lt (limit_of taken) (amount_of taken lines + amount) ≡ false
few_of taken amount lines le = let e = same taken in grind (arith, nat_tests)

few_taken : (lines : List Placed) (taken : Option Share) → ((of : Limited) → amount_of of lines + part_of of taken ≤ limit_of of) → is_past lines taken ≡ false
few_taken lines None keeps = refl
few_taken lines (Some share) keeps = few_of share.of share.amount lines (keeps share.of)

pub kept_few : (lines : List Placed) (what : Directive) → ((of : Limited) → amount_of of lines + share_of of what ≤ limit_of of) → is_many lines what ≡ false
unfolding is_many
kept_few lines what keeps = few_taken lines (taken_by what) keeps
