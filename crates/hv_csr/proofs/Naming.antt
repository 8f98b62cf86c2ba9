-- The machine's table of control registers and the assembler's are one.
use Rattle.std.proofs.Common.{◌≡◌, ◌≢◌, ℕ, ◌==◌, ◌⊎◌, inl, inr, Bool, true, false, cond, List, [], ◌∷◌, map, Some, refl, sym, ap, ◌∙◌}
use Rattle.std.specs.Prelude.{find}
use Rattle.std.specs.Option.{option_map}
use Rattle.std.proofs.lemmas.Bool.{ne_eqb}
use Rattle.std.proofs.lemmas.Bool.Decides.{eqb_tells}
use Rattle.hv_isa.specs.Csrs.{csrs, csr_name_of, csr_number_of}
use Rattle.hv_isa.proofs.Registers.{number_again}
use Rattle.hv_csr.specs.declared.csr.Csr.{Csr}
use Rattle.hv_csr.specs.Table.{row_of, all, csr_of}

-- a register as a row of the assembler's table
entry : Csr → ℕ × List ℕ
entry csr = ((row_of csr).number, (row_of csr).name)

same_rows : csrs ≡ map entry all
unfolding entry
same_rows = refl

turned : (a b : ℕ) → (a == b) ≡ (b == a)
turned a b = by (eqb_tells a b)
  where
    by : ((a == b ≡ true) × (a ≡ b)) ⊎ ((a == b ≡ false) × (a ≢ b)) → (a == b) ≡ (b == a)
    by (inl e) = ap (λ (x : ℕ). x == b) e.1 ∙ ap (λ (x : ℕ). b == x) (sym e.1)
    by (inr e) = e.0 ∙ sym (ne_eqb b a (λ f. e.1 (sym f)))

-- the first register of a number, and the first row of it
found_alike : (cs : List Csr) (n : ℕ)
    → option_map (λ (csr : Csr). (row_of csr).name) (find (λ (csr : Csr). n == (row_of csr).number) cs)
    ≡ option_map (λ (row : ℕ × List ℕ). row.1) (find (λ (row : ℕ × List ℕ). row.0 == n) (map entry cs))
unfolding entry
found_alike [] n = refl
found_alike (c ∷ cs) n =
    ap (λ (b : Bool). option_map (λ (csr : Csr). (row_of csr).name) (cond b (Some c) (find (λ (csr : Csr). n == (row_of csr).number) cs))) (turned n (row_of c).number)
    ∙ by (found_alike cs n) ((row_of c).number == n)
  where
    by : option_map (λ (csr : Csr). (row_of csr).name) (find (λ (csr : Csr). n == (row_of csr).number) cs)
        ≡ option_map (λ (row : ℕ × List ℕ). row.1) (find (λ (row : ℕ × List ℕ). row.0 == n) (map entry cs))
        → (b : Bool)
        → option_map (λ (csr : Csr). (row_of csr).name) (cond b (Some c) (find (λ (csr : Csr). n == (row_of csr).number) cs))
        ≡ option_map (λ (row : ℕ × List ℕ). row.1) (cond b (Some (entry c)) (find (λ (row : ℕ × List ℕ). row.0 == n) (map entry cs)))
    by rest true = refl
    by rest false = rest

pub same_names : (n : ℕ) → option_map (λ (csr : Csr). (row_of csr).name) (csr_of n) ≡ csr_name_of n
unfolding csr_name_of
same_names n =
    found_alike all n
    ∙ ap (λ (rows : List (ℕ × List ℕ)). option_map (λ (row : ℕ × List ℕ). row.1) (find (λ (row : ℕ × List ℕ). row.0 == n) rows)) (sym same_rows)

pub same_numbers : (n : ℕ) (c : Csr) → csr_of n ≡ Some c → csr_number_of (row_of c).name ≡ Some n
same_numbers n c is =
    number_again n (row_of c).name (sym (same_names n) ∙ ap (option_map (λ (csr : Csr). (row_of csr).name)) is)
