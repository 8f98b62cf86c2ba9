-- The registers of a hart, as 50 plain words, and what is always so of them.
use Rattle.std.specs.Prelude.{◌≡◌, ◌≢◌, ℕ, ◌%◌, ◌<◌, ◌==◌, if◌then◌else◌, List, [], ◌∷◌, slice_index}
use Rattle.std.specs.Int.RustNames.{bit_and}
use Rattle.hv_word.specs.Words.{field_of}
use Rattle.hv_cpu.specs.Masks.{mstatus_mask, medeleg_mask, mideleg_mask, interrupt_mask, satp_mask}

-- mode is 0 for U, 1 for S and 3 for M; next is the page of the machine to be run on, 0 for none
pub record Regs : Type 0 where
  pub pc : ℕ
  pub x1 : ℕ
  pub x2 : ℕ
  pub x3 : ℕ
  pub x4 : ℕ
  pub x5 : ℕ
  pub x6 : ℕ
  pub x7 : ℕ
  pub x8 : ℕ
  pub x9 : ℕ
  pub x10 : ℕ
  pub x11 : ℕ
  pub x12 : ℕ
  pub x13 : ℕ
  pub x14 : ℕ
  pub x15 : ℕ
  pub x16 : ℕ
  pub x17 : ℕ
  pub x18 : ℕ
  pub x19 : ℕ
  pub x20 : ℕ
  pub x21 : ℕ
  pub x22 : ℕ
  pub x23 : ℕ
  pub x24 : ℕ
  pub x25 : ℕ
  pub x26 : ℕ
  pub x27 : ℕ
  pub x28 : ℕ
  pub x29 : ℕ
  pub x30 : ℕ
  pub x31 : ℕ
  pub mode : ℕ
  pub mstatus : ℕ
  pub mtvec : ℕ
  pub mepc : ℕ
  pub mcause : ℕ
  pub mtval : ℕ
  pub mscratch : ℕ
  pub medeleg : ℕ
  pub mideleg : ℕ
  pub mie : ℕ
  pub mip : ℕ
  pub stvec : ℕ
  pub sepc : ℕ
  pub scause : ℕ
  pub stval : ℕ
  pub sscratch : ℕ
  pub satp : ℕ
  pub next : ℕ

-- the registers are those that a hart can have: the program counter and the places to return to lie on words, each
-- control register is inside its mask, a trap vector has one of the two modes, and no reserved mode stands anywhere
-- (Privileged Architecture, sections 1.2, 3.1.6 to 3.1.9, 3.1.14, 4.1.1 to 4.1.11)
pub record FitsHart (r : Regs) : Type 0 where
  pub aligned : r.pc % 4 ≡ 0
  pub mode_fits : r.mode < 4
  pub mode_real : r.mode ≢ 2
  pub mstatus : bit_and r.mstatus mstatus_mask ≡ r.mstatus
  pub mpp : field_of r.mstatus 11 2 ≢ 2
  pub mtvec : r.mtvec % 4 < 2
  pub mepc : r.mepc % 4 ≡ 0
  pub medeleg : bit_and r.medeleg medeleg_mask ≡ r.medeleg
  pub mideleg : bit_and r.mideleg mideleg_mask ≡ r.mideleg
  pub mie : bit_and r.mie interrupt_mask ≡ r.mie
  pub mip : bit_and r.mip interrupt_mask ≡ r.mip
  pub stvec : r.stvec % 4 < 2
  pub sepc : r.sepc % 4 ≡ 0
  pub satp : bit_and r.satp satp_mask ≡ r.satp

-- after a reset: all zero, in machine mode, no machine to run (Privileged Architecture, section 3.4)
abbrev pub reset_regs : Regs
reset_regs = record {
  pc = 0;
  x1 = 0;
  x2 = 0;
  x3 = 0;
  x4 = 0;
  x5 = 0;
  x6 = 0;
  x7 = 0;
  x8 = 0;
  x9 = 0;
  x10 = 0;
  x11 = 0;
  x12 = 0;
  x13 = 0;
  x14 = 0;
  x15 = 0;
  x16 = 0;
  x17 = 0;
  x18 = 0;
  x19 = 0;
  x20 = 0;
  x21 = 0;
  x22 = 0;
  x23 = 0;
  x24 = 0;
  x25 = 0;
  x26 = 0;
  x27 = 0;
  x28 = 0;
  x29 = 0;
  x30 = 0;
  x31 = 0;
  mode = 3;
  mstatus = 0;
  mtvec = 0;
  mepc = 0;
  mcause = 0;
  mtval = 0;
  mscratch = 0;
  medeleg = 0;
  mideleg = 0;
  mie = 0;
  mip = 0;
  stvec = 0;
  sepc = 0;
  scause = 0;
  stval = 0;
  sscratch = 0;
  satp = 0;
  next = 0;
}

-- x0 to x31, where x0 is always 0 (Unprivileged ISA, section 2.1)
abbrev pub file_of : Regs → List ℕ
file_of r =
    0 ∷ r.x1 ∷ r.x2 ∷ r.x3 ∷ r.x4 ∷ r.x5 ∷ r.x6 ∷ r.x7 ∷ r.x8 ∷ r.x9 ∷ r.x10 ∷ r.x11 ∷ r.x12 ∷
    r.x13 ∷ r.x14 ∷ r.x15 ∷ r.x16 ∷ r.x17 ∷ r.x18 ∷ r.x19 ∷ r.x20 ∷ r.x21 ∷ r.x22 ∷ r.x23 ∷ r.x24 ∷
    r.x25 ∷ r.x26 ∷ r.x27 ∷ r.x28 ∷ r.x29 ∷ r.x30 ∷ r.x31 ∷ []

-- the value of register i
abbrev pub reg : Regs → ℕ → ℕ
reg r i = slice_index (file_of r) i

-- the registers with the value v in register i; one of x0 is lost
abbrev pub with_reg : Regs → ℕ → ℕ → Regs
with_reg r i v = record r {
  x1 = (if i == 1 then v else r.x1);
  x2 = (if i == 2 then v else r.x2);
  x3 = (if i == 3 then v else r.x3);
  x4 = (if i == 4 then v else r.x4);
  x5 = (if i == 5 then v else r.x5);
  x6 = (if i == 6 then v else r.x6);
  x7 = (if i == 7 then v else r.x7);
  x8 = (if i == 8 then v else r.x8);
  x9 = (if i == 9 then v else r.x9);
  x10 = (if i == 10 then v else r.x10);
  x11 = (if i == 11 then v else r.x11);
  x12 = (if i == 12 then v else r.x12);
  x13 = (if i == 13 then v else r.x13);
  x14 = (if i == 14 then v else r.x14);
  x15 = (if i == 15 then v else r.x15);
  x16 = (if i == 16 then v else r.x16);
  x17 = (if i == 17 then v else r.x17);
  x18 = (if i == 18 then v else r.x18);
  x19 = (if i == 19 then v else r.x19);
  x20 = (if i == 20 then v else r.x20);
  x21 = (if i == 21 then v else r.x21);
  x22 = (if i == 22 then v else r.x22);
  x23 = (if i == 23 then v else r.x23);
  x24 = (if i == 24 then v else r.x24);
  x25 = (if i == 25 then v else r.x25);
  x26 = (if i == 26 then v else r.x26);
  x27 = (if i == 27 then v else r.x27);
  x28 = (if i == 28 then v else r.x28);
  x29 = (if i == 29 then v else r.x29);
  x30 = (if i == 30 then v else r.x30);
  x31 = (if i == 31 then v else r.x31);
}

-- the 50 words in a fixed order, which are all that there is of a hart
abbrev pub spelled : Regs → List ℕ
spelled r =
    r.pc ∷ r.x1 ∷ r.x2 ∷ r.x3 ∷ r.x4 ∷ r.x5 ∷ r.x6 ∷ r.x7 ∷ r.x8 ∷ r.x9 ∷ r.x10 ∷ r.x11 ∷ r.x12 ∷
    r.x13 ∷ r.x14 ∷ r.x15 ∷ r.x16 ∷ r.x17 ∷ r.x18 ∷ r.x19 ∷ r.x20 ∷ r.x21 ∷ r.x22 ∷ r.x23 ∷ r.x24 ∷
    r.x25 ∷ r.x26 ∷ r.x27 ∷ r.x28 ∷ r.x29 ∷ r.x30 ∷ r.x31 ∷ r.mode ∷ r.mstatus ∷ r.mtvec ∷ r.mepc ∷
    r.mcause ∷ r.mtval ∷ r.mscratch ∷ r.medeleg ∷ r.mideleg ∷ r.mie ∷ r.mip ∷ r.stvec ∷ r.sepc ∷
    r.scause ∷ r.stval ∷ r.sscratch ∷ r.satp ∷ r.next ∷ []
