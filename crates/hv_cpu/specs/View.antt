-- How a Cpu is read as 50 words, and made of them again.
use Rattle.std.specs.Prelude.{◌≡◌, ◌≢◌, ℕ, zero, suc, Option, Some, None, length, slice_index}
use Rattle.hv_cpu.specs.Regs.{Regs, FitsHart, file_of}
use Rattle.hv_cpu.specs.Modes.{mode_word, mode_of}
use Rattle.hv_cpu.specs.declared.Cpu.TheInside.{Inside}

-- the word of a next: its page, or 0
abbrev pub next_word : Option ℕ → ℕ
next_word None = 0
next_word (Some page) = page

-- the next that a word says
abbrev pub next_of : ℕ → Option ℕ
next_of zero = None
next_of (suc n) = Some (suc n)

-- the 50 words of the fields
abbrev pub regs_of : Inside → Regs
regs_of a = record {
  pc = a.pc;
  x1 = slice_index a.x 1;
  x2 = slice_index a.x 2;
  x3 = slice_index a.x 3;
  x4 = slice_index a.x 4;
  x5 = slice_index a.x 5;
  x6 = slice_index a.x 6;
  x7 = slice_index a.x 7;
  x8 = slice_index a.x 8;
  x9 = slice_index a.x 9;
  x10 = slice_index a.x 10;
  x11 = slice_index a.x 11;
  x12 = slice_index a.x 12;
  x13 = slice_index a.x 13;
  x14 = slice_index a.x 14;
  x15 = slice_index a.x 15;
  x16 = slice_index a.x 16;
  x17 = slice_index a.x 17;
  x18 = slice_index a.x 18;
  x19 = slice_index a.x 19;
  x20 = slice_index a.x 20;
  x21 = slice_index a.x 21;
  x22 = slice_index a.x 22;
  x23 = slice_index a.x 23;
  x24 = slice_index a.x 24;
  x25 = slice_index a.x 25;
  x26 = slice_index a.x 26;
  x27 = slice_index a.x 27;
  x28 = slice_index a.x 28;
  x29 = slice_index a.x 29;
  x30 = slice_index a.x 30;
  x31 = slice_index a.x 31;
  mode = mode_word a.mode;
  mstatus = a.mstatus;
  mtvec = a.mtvec;
  mepc = a.mepc;
  mcause = a.mcause;
  mtval = a.mtval;
  mscratch = a.mscratch;
  medeleg = a.medeleg;
  mideleg = a.mideleg;
  mie = a.mie;
  mip = a.mip;
  stvec = a.stvec;
  sepc = a.sepc;
  scause = a.scause;
  stval = a.stval;
  sscratch = a.sscratch;
  satp = a.satp;
  next = next_word a.next;
}

-- the fields of 50 words
abbrev pub inside : Regs → Inside
inside r = record {
  pc = r.pc;
  x = file_of r;
  mode = mode_of r.mode;
  mstatus = r.mstatus;
  mtvec = r.mtvec;
  mepc = r.mepc;
  mcause = r.mcause;
  mtval = r.mtval;
  mscratch = r.mscratch;
  medeleg = r.medeleg;
  mideleg = r.mideleg;
  mie = r.mie;
  mip = r.mip;
  stvec = r.stvec;
  sepc = r.sepc;
  scause = r.scause;
  stval = r.stval;
  sscratch = r.sscratch;
  satp = r.satp;
  next = next_of r.next;
}

-- x0 is 0, and page 0 is never a machine to run: its number stands for none
pub record Inv (a : Inside) : Type 0 where
  pub kept : FitsHart (regs_of a)
  pub no_zero : a.next ≢ Some 0
  pub count : length a.x ≡ 32
  pub zero : slice_index a.x 0 ≡ 0
