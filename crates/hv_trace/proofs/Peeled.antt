-- One written word after the other is compared with what it was.
use Rattle.std.proofs.Common.{◌≡◌, ◌≢◌, ℕ, ◌<◌, Bool, true, false, List, length, get_or, set, refl, sym, ap, ◌∙◌, subst, Option, Some, None, arith, length-set, get_or-set_same, get_or-set_other, eqb-true}
use Rattle.std.specs.Prelude.{◌==◌}
use Rattle.std.proofs.lemmas.Bool.{eqb-false}
use Rattle.std.proofs.lemmas.List.{set-set, set-get_or}
use Rattle.hv_trace.specs.Check.{IsBoth, IsWritten}

same_set : (U T : List ℕ) (at before : ℕ) → get_or U at 0 ≡ get_or T at 0 → get_or T at 0 ≡ before → set U at before ≡ U
same_set U T at before is e = ap (set U at) (sym (is ∙ e)) ∙ set-get_or U at 0

pub peel_same : (T U : List ℕ) (at before : ℕ) (mem : Option (ℕ × ℕ)) → get_or U at 0 ≡ get_or T at 0 → get_or T at 0 ≡ before → IsBoth (IsWritten U T mem) (IsWritten (set U at before) T mem)
peel_same T U at before mem is e =
    (subst (λ (S : List ℕ). IsWritten S T mem) (sym (same_set U T at before is e)), subst (λ (S : List ℕ). IsWritten S T mem) (same_set U T at before is e))

put_again : (T U : List ℕ) (at before : ℕ) → get_or U at 0 ≡ get_or T at 0 → set (set U at before) at (get_or T at 0) ≡ U
put_again T U at before is = set-set U at before (get_or T at 0) ∙ ap (set U at) (sym is) ∙ set-get_or U at 0

pub peel_told : (T U : List ℕ) (at before : ℕ) → at < length T → length U ≡ length T → get_or U at 0 ≡ get_or T at 0 → get_or T at 0 ≢ before → IsBoth (IsWritten U T None) (IsWritten (set U at before) T (Some (at, get_or T at 0)))
peel_told T U at before h len is ne =
    let inside : at < length U = omega (arith, h, len) in (
      λ e. (
        omega (arith, length-set U at before, inside),
        (λ z. ne (sym z ∙ get_or-set_same U at before 0 inside)),
        e ∙ sym (put_again T U at before is),
      ),
      λ w. w.2 ∙ put_again T U at before is,
    )

pub peel_wrong : (T U : List ℕ) (at before : ℕ) (mem : Option (ℕ × ℕ)) → at < length T → length U ≡ length T → get_or T at 0 ≢ before → mem ≢ Some (at, get_or T at 0) → IsWritten (set U at before) T mem → ⊥
peel_wrong T U at before None h len ne other w =
    let inside : at < length U = omega (arith, h, len) in
    ne (ap (λ (l : List ℕ). get_or l at 0) w ∙ get_or-set_same U at before 0 inside)
peel_wrong T U at before (Some (place, value)) h len ne other w = by (at == place) refl
  where
    inside : at < length U
    inside = omega (arith, h, len)

    long : at < length (set U at before)
    long = omega (arith, length-set U at before, inside)

    by : (t : Bool) → (at == place) ≡ t → ⊥
    by true e =
        let same : at ≡ place = eqb-true at place e in
        let word : get_or T at 0 ≡ value =
        ap (λ (l : List ℕ). get_or l at 0) (w.2 ∙ ap (λ (p : ℕ). set (set U at before) p value) (sym same)) ∙ get_or-set_same (set U at before) at value 0 long in
        other (ap (λ (p : ℕ). Some (p, value)) (sym same) ∙ ap (λ (v : ℕ). Some (at, v)) (sym word))
    by false e =
        ne (ap (λ (l : List ℕ). get_or l at 0) w.2 ∙ get_or-set_other (set U at before) place at value 0 (eqb-false at place e) ∙ get_or-set_same U at before 0 inside)

pub ruleset peeled = (peel_same, peel_told, peel_wrong)

-- a storage is itself without a change
pub unwritten : (T : List ℕ) (change : ℕ × ℕ) → IsWritten T T (Some change) → ⊥
unwritten T change w =
    w.1 (ap (λ (l : List ℕ). get_or l change.0 0) w.2 ∙ get_or-set_same T change.0 change.1 0 w.0)

pub ruleset written = (unwritten, length-set, get_or-set_other)
