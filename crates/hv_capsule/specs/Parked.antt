-- A machine that is parked: its registers and its pages, apart from every storage.
use Rattle.std.specs.Prelude.{ℕ, ◌≢◌, ◌<◌, List, slice_index}
use Rattle.hv_word.specs.Storage.{page_count}
use Rattle.hv_cpu.specs.Regs.{Regs, FitsHart}

-- the registers that 50 words spell, in the order of `spelled`
abbrev pub regs_of_words : List ℕ → Regs
regs_of_words ws = record {
  pc = slice_index ws 0;
  x1 = slice_index ws 1;
  x2 = slice_index ws 2;
  x3 = slice_index ws 3;
  x4 = slice_index ws 4;
  x5 = slice_index ws 5;
  x6 = slice_index ws 6;
  x7 = slice_index ws 7;
  x8 = slice_index ws 8;
  x9 = slice_index ws 9;
  x10 = slice_index ws 10;
  x11 = slice_index ws 11;
  x12 = slice_index ws 12;
  x13 = slice_index ws 13;
  x14 = slice_index ws 14;
  x15 = slice_index ws 15;
  x16 = slice_index ws 16;
  x17 = slice_index ws 17;
  x18 = slice_index ws 18;
  x19 = slice_index ws 19;
  x20 = slice_index ws 20;
  x21 = slice_index ws 21;
  x22 = slice_index ws 22;
  x23 = slice_index ws 23;
  x24 = slice_index ws 24;
  x25 = slice_index ws 25;
  x26 = slice_index ws 26;
  x27 = slice_index ws 27;
  x28 = slice_index ws 28;
  x29 = slice_index ws 29;
  x30 = slice_index ws 30;
  x31 = slice_index ws 31;
  mode = slice_index ws 32;
  mstatus = slice_index ws 33;
  mtvec = slice_index ws 34;
  mepc = slice_index ws 35;
  mcause = slice_index ws 36;
  mtval = slice_index ws 37;
  mscratch = slice_index ws 38;
  medeleg = slice_index ws 39;
  mideleg = slice_index ws 40;
  mie = slice_index ws 41;
  mip = slice_index ws 42;
  stvec = slice_index ws 43;
  sepc = slice_index ws 44;
  scause = slice_index ws 45;
  stval = slice_index ws 46;
  sscratch = slice_index ws 47;
  satp = slice_index ws 48;
  next = slice_index ws 49;
}

-- its registers, and the words of its pages
pub record Parked : Type 0 where
  pub regs : Regs
  pub storage : List ℕ

-- a hart can have the registers, and what it runs next, if any, is one of the pages
pub record IsParked (m : Parked) : Type 0 where
  pub fits : FitsHart m.regs
  pub next : m.regs.next ≢ 0 → m.regs.next < page_count m.storage
