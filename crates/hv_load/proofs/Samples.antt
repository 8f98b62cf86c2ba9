-- The texts of two samples are texts of assembly, and these are their words.
use Rattle.std.proofs.Common.{◌≡◌, ◌⊎◌, ℕ, ◌+◌, ◌^◌, ◌<◌, List, [], ◌∷◌, length, Ok, Err, refl, sym, ap, subst, inl, inr, lit<}
use Rattle.hv_asm.specs.declared.AsmKind.{AsmKind}
use Rattle.hv_samples.specs.declared.choice.Sample.{Sample}
use Rattle.hv_samples.specs.declared.choice.Sample.TheVariants.{Pass, Slicer, Forward, Pager}
use Rattle.hv_samples.specs.Samples.{sample_text}
use Rattle.hv_asm.specs.Assembly.{place_from, line_words, words_from, asm_of}
use Rattle.hv_asm.specs.Forms.{immediate_of, word_with}
use Rattle.hv_asm.specs.Names.{number_in, name_in, register_of, operation_of}
use Rattle.hv_asm.specs.Operands.{groups_of, operand_of, operands_from, operands_of, deed_of, reading_of, read_of, size_of}
use Rattle.hv_asm.specs.Rows.{register_at, register, number, csr, address, target, registers_word, immediate_word, load_word, store_word, branch_word, zero_word, jump_word, plain_jump_word, upper_word, csr_register_word, small, csr_number_word, sources_word, source_word, bare_word, form_word}
use Rattle.hv_asm.specs.Words.{value, low_part, high_part, pair_words, li_words, la_words, bare_short, move_word, csr_read_word, csr_write_word, one_word, value_at, values_of, value_words, space_count, words_with}
use Rattle.hv_lex.specs.Lines.{cut_of, returned, lines_of}
use Rattle.hv_lex.specs.Numbers.{number_in as numbers_number_in, number_of}
use Rattle.hv_lex.specs.Tokens.{is_digit, is_letter, is_plain, lengthened, begins_number, signed, pieces_of, size_of as tokens_size_of, number_token, comment_from, sign_token, token_of, with_front, followed, tokens_at, lexed_at}
use Rattle.hv_isa.specs.Csrs.{csr_name_of, csr_number_of}
use Rattle.hv_isa.specs.Table.{decode_of}

pub pass_words : asm_of (sample_text Pass) 0 ≡ Ok (4791 ∷ 164499 ∷ 163851 ∷ 4292866159 ∷ [])
unfolding sample_text place_from line_words words_from asm_of immediate_of word_with number_in name_in register_of operation_of groups_of operand_of operands_from operands_of deed_of reading_of read_of size_of register_at register number csr address target registers_word immediate_word load_word store_word branch_word zero_word jump_word plain_jump_word upper_word csr_register_word small csr_number_word sources_word source_word bare_word form_word value low_part high_part pair_words li_words la_words bare_short move_word csr_read_word csr_write_word one_word value_at values_of value_words space_count words_with cut_of returned lines_of numbers_number_in number_of is_digit is_letter is_plain lengthened begins_number signed pieces_of tokens_size_of number_token comment_from sign_token token_of with_front followed tokens_at lexed_at csr_name_of csr_number_of decode_of
pass_words = refl

pub forward_words :
    asm_of (sample_text Forward) 0
    ≡ Ok (823 ∷ 46334739 ∷ 810750067 ∷ 4919 ∷ 2290287379 ∷ 809701491 ∷ 4791 ∷ 164499 ∷ 805593203 ∷ 163851 ∷ 4292866159 ∷ 876618611 ∷ 809510003 ∷ 8614707 ∷ 176333699 ∷ 6546355 ∷ 175285283 ∷ 809504883 ∷ 807403635 ∷ [])
unfolding sample_text place_from line_words words_from asm_of immediate_of word_with number_in name_in register_of operation_of groups_of operand_of operands_from operands_of deed_of reading_of read_of size_of register_at register number csr address target registers_word immediate_word load_word store_word branch_word zero_word jump_word plain_jump_word upper_word csr_register_word small csr_number_word sources_word source_word bare_word form_word value low_part high_part pair_words li_words la_words bare_short move_word csr_read_word csr_write_word one_word value_at values_of value_words space_count words_with cut_of returned lines_of numbers_number_in number_of is_digit is_letter is_plain lengthened begins_number signed pieces_of tokens_size_of number_token comment_from sign_token token_of with_front followed tokens_at lexed_at csr_name_of csr_number_of decode_of
forward_words = refl

-- so neither text is refused
pub never_refused : (which : Sample) (text : List ℕ) (end : ℕ × AsmKind) → (which ≡ Pass) ⊎ (which ≡ Forward) → text ≡ sample_text which → asm_of text 0 ≡ Err end → ⊥
never_refused which text end (inl is) same refused = cc (ap (λ (t : List ℕ). asm_of t 0) same, ap (λ (w : Sample). asm_of (sample_text w) 0) is, pass_words, refused)
never_refused which text end (inr is) same refused = cc (ap (λ (t : List ℕ). asm_of t 0) same, ap (λ (w : Sample). asm_of (sample_text w) 0) is, forward_words, refused)

-- a text is short
pub short_text : (which : Sample) (text : List ℕ) → text ≡ sample_text which → length text + 1 < 2 ^ 32
unfolding sample_text
short_text Pass text same = subst (λ (t : List ℕ). length t + 1 < 2 ^ 32) (sym same) (lit< tt)
short_text Slicer text same = subst (λ (t : List ℕ). length t + 1 < 2 ^ 32) (sym same) (lit< tt)
short_text Forward text same = subst (λ (t : List ℕ). length t + 1 < 2 ^ 32) (sym same) (lit< tt)
short_text Pager text same = subst (λ (t : List ℕ). length t + 1 < 2 ^ 32) (sym same) (lit< tt)
