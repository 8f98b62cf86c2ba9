-- The texts of a slice that has a known number of them.
use Rattle.std.proofs.Common.{◌≡◌, ℕ, ◌<◌, ◌≤◌, List, [], ◌∷◌, length, refl, arith, slice_index_or, Bor}
use Rattle.hv_line.specs.Texts.{texts}

-- the text at a place
abbrev pub text_at : List (Bor (List ℕ)) → ℕ → List ℕ
text_at ws k = (slice_index_or ws k record { ref_ptr = (0, 0); now = [] }).now

pub texts_one : (ws : List (Bor (List ℕ))) → 1 ≤ length ws → length ws < 2 → texts ws ≡ text_at ws 0 ∷ []
texts_one [] many few = absurd (omega arith)
texts_one (w0 ∷ []) many few = refl
texts_one (w0 ∷ w ∷ ws) many few = absurd (omega arith)

pub texts_two : (ws : List (Bor (List ℕ))) → 2 ≤ length ws → length ws < 3 → texts ws ≡ text_at ws 0 ∷ text_at ws 1 ∷ []
texts_two [] many few = absurd (omega arith)
texts_two (w0 ∷ []) many few = absurd (omega arith)
texts_two (w0 ∷ w1 ∷ []) many few = refl
texts_two (w0 ∷ w1 ∷ w ∷ ws) many few = absurd (omega arith)

pub texts_three : (ws : List (Bor (List ℕ))) → 3 ≤ length ws → length ws < 4 → texts ws ≡ text_at ws 0 ∷ text_at ws 1 ∷ text_at ws 2 ∷ []
texts_three [] many few = absurd (omega arith)
texts_three (w0 ∷ []) many few = absurd (omega arith)
texts_three (w0 ∷ w1 ∷ []) many few = absurd (omega arith)
texts_three (w0 ∷ w1 ∷ w2 ∷ []) many few = refl
texts_three (w0 ∷ w1 ∷ w2 ∷ w ∷ ws) many few = absurd (omega arith)

pub texts_four : (ws : List (Bor (List ℕ))) → 4 ≤ length ws → length ws < 5 → texts ws ≡ text_at ws 0 ∷ text_at ws 1 ∷ text_at ws 2 ∷ text_at ws 3 ∷ []
texts_four [] many few = absurd (omega arith)
texts_four (w0 ∷ []) many few = absurd (omega arith)
texts_four (w0 ∷ w1 ∷ []) many few = absurd (omega arith)
texts_four (w0 ∷ w1 ∷ w2 ∷ []) many few = absurd (omega arith)
texts_four (w0 ∷ w1 ∷ w2 ∷ w3 ∷ []) many few = refl
texts_four (w0 ∷ w1 ∷ w2 ∷ w3 ∷ w ∷ ws) many few = absurd (omega arith)

pub texts_eleven : (ws : List (Bor (List ℕ))) → 11 ≤ length ws → length ws < 12 → texts ws ≡ text_at ws 0 ∷ text_at ws 1 ∷ text_at ws 2 ∷ text_at ws 3 ∷ text_at ws 4 ∷ text_at ws 5 ∷ text_at ws 6 ∷ text_at ws 7 ∷ text_at ws 8 ∷ text_at ws 9 ∷ text_at ws 10 ∷ []
texts_eleven [] many few = absurd (omega arith)
texts_eleven (w0 ∷ []) many few = absurd (omega arith)
texts_eleven (w0 ∷ w1 ∷ []) many few = absurd (omega arith)
texts_eleven (w0 ∷ w1 ∷ w2 ∷ []) many few = absurd (omega arith)
texts_eleven (w0 ∷ w1 ∷ w2 ∷ w3 ∷ []) many few = absurd (omega arith)
texts_eleven (w0 ∷ w1 ∷ w2 ∷ w3 ∷ w4 ∷ []) many few = absurd (omega arith)
texts_eleven (w0 ∷ w1 ∷ w2 ∷ w3 ∷ w4 ∷ w5 ∷ []) many few = absurd (omega arith)
texts_eleven (w0 ∷ w1 ∷ w2 ∷ w3 ∷ w4 ∷ w5 ∷ w6 ∷ []) many few = absurd (omega arith)
texts_eleven (w0 ∷ w1 ∷ w2 ∷ w3 ∷ w4 ∷ w5 ∷ w6 ∷ w7 ∷ []) many few = absurd (omega arith)
texts_eleven (w0 ∷ w1 ∷ w2 ∷ w3 ∷ w4 ∷ w5 ∷ w6 ∷ w7 ∷ w8 ∷ []) many few = absurd (omega arith)
texts_eleven (w0 ∷ w1 ∷ w2 ∷ w3 ∷ w4 ∷ w5 ∷ w6 ∷ w7 ∷ w8 ∷ w9 ∷ []) many few = absurd (omega arith)
texts_eleven (w0 ∷ w1 ∷ w2 ∷ w3 ∷ w4 ∷ w5 ∷ w6 ∷ w7 ∷ w8 ∷ w9 ∷ w10 ∷ []) many few = refl
texts_eleven (w0 ∷ w1 ∷ w2 ∷ w3 ∷ w4 ∷ w5 ∷ w6 ∷ w7 ∷ w8 ∷ w9 ∷ w10 ∷ w ∷ ws) many few = absurd (omega arith)
