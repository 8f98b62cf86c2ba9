-- The eight digits of a word, nibble by nibble and byte by byte.
use Rattle.std.proofs.Common.{◌≡◌, ℕ, zero, suc, ◌+◌, ◌*◌, ◌/◌, ◌%◌, ◌^◌, ◌<◌, ◌≤◌, false, List, [], ◌∷◌, ◌++◌, refl, ap, sym, ◌∙◌, arith, slice_index, codes, append_assoc}
use Rattle.std.proofs.lemmas.Fmt.{hex_one_digit}
use Rattle.std.specs.Fmt.{digits, digit_glyph}
use Rattle.std.specs.Int.{byte_at}
use Rattle.hex.specs.Hex.{encode_with, lower_digits as sixteen}
use Rattle.hv_word.specs.Words.{field_of}
use Rattle.hv_text.specs.Text.{hex8}
use Rattle.hv_dis.specs.Dis.{upper_digits, lower_digits, word_line}

glyph_is : (d : ℕ) → d < 16 → digit_glyph false d ≡ slice_index sixteen d
glyph_is zero below = refl
glyph_is (suc zero) below = refl
glyph_is (suc (suc zero)) below = refl
glyph_is (suc (suc (suc zero))) below = refl
glyph_is (suc (suc (suc (suc zero)))) below = refl
glyph_is (suc (suc (suc (suc (suc zero))))) below = refl
glyph_is (suc (suc (suc (suc (suc (suc zero)))))) below = refl
glyph_is (suc (suc (suc (suc (suc (suc (suc zero))))))) below = refl
glyph_is (suc (suc (suc (suc (suc (suc (suc (suc zero)))))))) below = refl
glyph_is (suc (suc (suc (suc (suc (suc (suc (suc (suc zero))))))))) below = refl
glyph_is (suc (suc (suc (suc (suc (suc (suc (suc (suc (suc zero)))))))))) below = refl
glyph_is (suc (suc (suc (suc (suc (suc (suc (suc (suc (suc (suc zero))))))))))) below = refl
glyph_is (suc (suc (suc (suc (suc (suc (suc (suc (suc (suc (suc (suc zero)))))))))))) below = refl
glyph_is (suc (suc (suc (suc (suc (suc (suc (suc (suc (suc (suc (suc (suc zero))))))))))))) below = refl
glyph_is (suc (suc (suc (suc (suc (suc (suc (suc (suc (suc (suc (suc (suc (suc zero)))))))))))))) below = refl
glyph_is (suc (suc (suc (suc (suc (suc (suc (suc (suc (suc (suc (suc (suc (suc (suc zero))))))))))))))) below = refl
glyph_is (suc (suc (suc (suc (suc (suc (suc (suc (suc (suc (suc (suc (suc (suc (suc (suc d)))))))))))))))) below = absurd (omega arith)

cell : (a d : ℕ) → a < 16 → a ≡ d → digits 16 false a ≡ slice_index sixteen d ∷ []
cell a d below is = hex_one_digit false a below ∙ ap (λ (g : ℕ). g ∷ []) (glyph_is a below ∙ ap (slice_index sixteen) is)

pub eight : (w : ℕ) → w < 2 ^ 32 → upper_digits w ++ lower_digits w ≡ hex8 w
unfolding upper_digits lower_digits hex8 encode_with
eight w small =
    rw (
      cell (field_of w 28 4) (byte_at 3 w / 16) (omega arith) (omega arith),
      cell (field_of w 24 4) (byte_at 3 w % 16) (omega arith) (omega arith),
      cell (field_of w 20 4) (byte_at 2 w / 16) (omega arith) (omega arith),
      cell (field_of w 16 4) (byte_at 2 w % 16) (omega arith) (omega arith),
      cell (field_of w 12 4) (byte_at 1 w / 16) (omega arith) (omega arith),
      cell (field_of w 8 4) (byte_at 1 w % 16) (omega arith) (omega arith),
      cell (field_of w 4 4) (byte_at 0 w / 16) (omega arith) (omega arith),
      cell (field_of w 0 4) (byte_at 0 w % 16) (omega arith) (omega arith),
    )
    refl

-- a line that was written piece by piece
pub word_written : (old s t u : List ℕ) (w : ℕ) → w < 2 ^ 32 → s ≡ old ++ codes ".word 0x" → t ≡ s ++ upper_digits w → u ≡ t ++ lower_digits w → u ≡ old ++ word_line w
unfolding word_line
word_written old s t u w small first second third =
    third
    ∙ ap (λ (xs : List ℕ). xs ++ lower_digits w) (second ∙ ap (λ (xs : List ℕ). xs ++ upper_digits w) first)
    ∙ append_assoc (old ++ codes ".word 0x") (upper_digits w) (lower_digits w)
    ∙ append_assoc old (codes ".word 0x") (upper_digits w ++ lower_digits w)
    ∙ ap (λ (xs : List ℕ). old ++ (codes ".word 0x" ++ xs)) (eight w small)
