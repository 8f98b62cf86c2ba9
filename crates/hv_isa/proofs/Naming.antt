-- No two instructions have one name.
use Rattle.std.proofs.Common.{ℕ, ◌≡◌, List, Option, Some, refl, sym, ◌∙◌, ap}
use Rattle.std.specs.Prelude.{find}
use Rattle.std.specs.Str.{bytes_eq}
use Rattle.hv_isa.specs.declared.Op.{Op}
use Rattle.hv_isa.specs.declared.Op.TheVariants.{Lui, Auipc, Jal, Jalr, Beq, Bne, Blt, Bge, Bltu, Bgeu, Lb, Lh, Lw, Lbu, Lhu, Sb, Sh, Sw, Addi, Slti, Sltiu, Xori, Ori, Andi, Slli, Srli, Srai, Add, Sub, Sll, Slt, Sltu, Xor, Srl, Sra, Or, And, Fence, FenceI, Ecall, Ebreak, Csrrw, Csrrs, Csrrc, Csrrwi, Csrrsi, Csrrci, Sret, Mret, Wfi, SfenceVma, Vmenter}
use Rattle.hv_isa.specs.Names.{name_of}
use Rattle.hv_isa.specs.Table.{ops}

-- the first row of that name
op_named : List ℕ → Option Op
op_named text = find (λ op. bytes_eq (name_of op) text) ops

op_named-name : (op : Op) → op_named (name_of op) ≡ Some op
unfolding op_named
op_named-name Lui = refl
op_named-name Auipc = refl
op_named-name Jal = refl
op_named-name Jalr = refl
op_named-name Beq = refl
op_named-name Bne = refl
op_named-name Blt = refl
op_named-name Bge = refl
op_named-name Bltu = refl
op_named-name Bgeu = refl
op_named-name Lb = refl
op_named-name Lh = refl
op_named-name Lw = refl
op_named-name Lbu = refl
op_named-name Lhu = refl
op_named-name Sb = refl
op_named-name Sh = refl
op_named-name Sw = refl
op_named-name Addi = refl
op_named-name Slti = refl
op_named-name Sltiu = refl
op_named-name Xori = refl
op_named-name Ori = refl
op_named-name Andi = refl
op_named-name Slli = refl
op_named-name Srli = refl
op_named-name Srai = refl
op_named-name Add = refl
op_named-name Sub = refl
op_named-name Sll = refl
op_named-name Slt = refl
op_named-name Sltu = refl
op_named-name Xor = refl
op_named-name Srl = refl
op_named-name Sra = refl
op_named-name Or = refl
op_named-name And = refl
op_named-name Fence = refl
op_named-name FenceI = refl
op_named-name Ecall = refl
op_named-name Ebreak = refl
op_named-name Csrrw = refl
op_named-name Csrrs = refl
op_named-name Csrrc = refl
op_named-name Csrrwi = refl
op_named-name Csrrsi = refl
op_named-name Csrrci = refl
op_named-name Sret = refl
op_named-name Mret = refl
op_named-name Wfi = refl
op_named-name SfenceVma = refl
op_named-name Vmenter = refl

Some-same : (a b : Op) → Some a ≡ Some b → a ≡ b
Some-same a b e = cc

pub same_name : (a b : Op) → name_of a ≡ name_of b → a ≡ b
same_name a b e = Some-same a b (sym (op_named-name a) ∙ ap op_named e ∙ op_named-name b)
