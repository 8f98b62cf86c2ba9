-- The names that stand in lines of instructions are names, and registers are read again.
use Rattle.std.proofs.Common.{◌≡◌, ℕ, ◌<◌, false, true, Some, ◌∷◌, refl, arith, below_more}
use Rattle.std.specs.Fmt.{digits}
use Rattle.hv_isa.specs.Names.{name_of}
use Rattle.hv_isa.specs.declared.Op.{Op}
use Rattle.hv_isa.specs.declared.Op.TheVariants.{Lui, Auipc, Jal, Jalr, Beq, Bne, Blt, Bge, Bltu, Bgeu, Lb, Lh, Lw, Lbu, Lhu, Sb, Sh, Sw, Addi, Slti, Sltiu, Xori, Ori, Andi, Slli, Srli, Srai, Add, Sub, Sll, Slt, Sltu, Xor, Srl, Sra, Or, And, Fence, FenceI, Ecall, Ebreak, Csrrw, Csrrs, Csrrc, Csrrwi, Csrrsi, Csrrci, Sret, Mret, Wfi, SfenceVma, Vmenter}
use Rattle.hv_lex.specs.Tokens.{is_letter, is_digit}
use Rattle.hv_lex.specs.declared.Kind.TheVariants.{Name}
use Rattle.hv_lex.proofs.Parts.{Reads, is_name, name_said, name_reads}
use Rattle.hv_lex.proofs.Spelled.{decimal_letters}
use Rattle.hv_asm.specs.Names.{register_of, number_in}
use Rattle.hv_asm.proofs.Written.{IsRegister}

op_named : (op : Op) → is_name (name_of op) ≡ true
unfolding is_letter is_digit
op_named Lui = refl
op_named Auipc = refl
op_named Jal = refl
op_named Jalr = refl
op_named Beq = refl
op_named Bne = refl
op_named Blt = refl
op_named Bge = refl
op_named Bltu = refl
op_named Bgeu = refl
op_named Lb = refl
op_named Lh = refl
op_named Lw = refl
op_named Lbu = refl
op_named Lhu = refl
op_named Sb = refl
op_named Sh = refl
op_named Sw = refl
op_named Addi = refl
op_named Slti = refl
op_named Sltiu = refl
op_named Xori = refl
op_named Ori = refl
op_named Andi = refl
op_named Slli = refl
op_named Srli = refl
op_named Srai = refl
op_named Add = refl
op_named Sub = refl
op_named Sll = refl
op_named Slt = refl
op_named Sltu = refl
op_named Xor = refl
op_named Srl = refl
op_named Sra = refl
op_named Or = refl
op_named And = refl
op_named Fence = refl
op_named FenceI = refl
op_named Ecall = refl
op_named Ebreak = refl
op_named Csrrw = refl
op_named Csrrs = refl
op_named Csrrc = refl
op_named Csrrwi = refl
op_named Csrrsi = refl
op_named Csrrci = refl
op_named Sret = refl
op_named Mret = refl
op_named Wfi = refl
op_named SfenceVma = refl
op_named Vmenter = refl

pub op_reads : (op : Op) → Reads (name_of op) Name
op_reads op = name_said (name_of op) (op_named op)

register_again : (n : ℕ) → n < 32 → register_of (120 ∷ digits 10 false n) ≡ Some n
unfolding register_of number_in digits
register_again =
    let P : ℕ → Type 0 = λ n. register_of (120 ∷ digits 10 false n) ≡ Some n in
    below_more P 31 (below_more P 30 (below_more P 29 (below_more P 28 (below_more P 27 (below_more P 26 (below_more P 25 (below_more P 24 (below_more P 23 (below_more P 22 (below_more P 21 (below_more P 20 (below_more P 19 (below_more P 18 (below_more P 17 (below_more P 16 (below_more P 15 (below_more P 14 (below_more P 13 (below_more P 12 (below_more P 11 (below_more P 10 (below_more P 9 (below_more P 8 (below_more P 7 (below_more P 6 (below_more P 5 (below_more P 4 (below_more P 3 (below_more P 2 (below_more P 1 (below_more P 0 ((λ n below. let none : ⊥ = omega arith in absurd none)) refl) refl) refl) refl) refl) refl) refl) refl) refl) refl) refl) refl) refl) refl) refl) refl) refl) refl) refl) refl) refl) refl) refl) refl) refl) refl) refl) refl) refl) refl) refl) refl

letter_x : (is_digit 120 ≡ false) × (is_letter 120 ≡ true)
unfolding is_letter is_digit
letter_x = (refl, refl)

pub register_written : (n : ℕ) → n < 32 → IsRegister (120 ∷ digits 10 false n) n
register_written n below = record {
  reads = name_reads 120 (digits 10 false n) letter_x.0 (letter_x.1, decimal_letters n (omega arith));
  is = register_again n below;
}
