-- A control block is one page of a machine's storage by which that machine runs another, its child. Its words:
-- 0 to 48 are the child's registers, in the order of `spelled`, and 64 its next; 65 is how many pages the child has, 66
-- where its table or directory is, 67 the version of the block; 72, 73 and 74 are cause, address and access of the last
-- fault. Every other word is the running machine's own. (The privileged architecture has no such block: it is this
-- machine's own, after the virtual machine control blocks of hypervisors.)
use Rattle.std.specs.Prelude.{◌≢◌, ◌≤◌, ℕ, ◌*◌, ◌/◌, ◌%◌, ◌^◌, Bool, not, ◌&&◌, ◌||◌, ◌==◌, nat_lt, nat_le}
use Rattle.std.specs.Prelude.{if◌then◌else◌, List, take, Option, Some, None}
use Rattle.std.specs.Int.RustNames.{bit_and}
use Rattle.std.proofs.Math.Seq.{sets}
use Rattle.hv_word.specs.Storage.{word_at, with_word}
use Rattle.hv_cpu.specs.Masks.{mstatus_mask, medeleg_mask, mideleg_mask, interrupt_mask, satp_mask}
use Rattle.hv_cpu.specs.Regs.{Regs, spelled}
use Rattle.hv_store.specs.declared.access.Access.{Access}
use Rattle.hv_store.specs.declared.access.Access.TheVariants.{Read, Write, Fetch}

-- the registers that the words of page g say
abbrev pub regs_at : List ℕ → ℕ → Regs
regs_at S g = record {
  pc = word_at S g 0;
  x1 = word_at S g 1;
  x2 = word_at S g 2;
  x3 = word_at S g 3;
  x4 = word_at S g 4;
  x5 = word_at S g 5;
  x6 = word_at S g 6;
  x7 = word_at S g 7;
  x8 = word_at S g 8;
  x9 = word_at S g 9;
  x10 = word_at S g 10;
  x11 = word_at S g 11;
  x12 = word_at S g 12;
  x13 = word_at S g 13;
  x14 = word_at S g 14;
  x15 = word_at S g 15;
  x16 = word_at S g 16;
  x17 = word_at S g 17;
  x18 = word_at S g 18;
  x19 = word_at S g 19;
  x20 = word_at S g 20;
  x21 = word_at S g 21;
  x22 = word_at S g 22;
  x23 = word_at S g 23;
  x24 = word_at S g 24;
  x25 = word_at S g 25;
  x26 = word_at S g 26;
  x27 = word_at S g 27;
  x28 = word_at S g 28;
  x29 = word_at S g 29;
  x30 = word_at S g 30;
  x31 = word_at S g 31;
  mode = word_at S g 32;
  mstatus = word_at S g 33;
  mtvec = word_at S g 34;
  mepc = word_at S g 35;
  mcause = word_at S g 36;
  mtval = word_at S g 37;
  mscratch = word_at S g 38;
  medeleg = word_at S g 39;
  mideleg = word_at S g 40;
  mie = word_at S g 41;
  mip = word_at S g 42;
  stvec = word_at S g 43;
  sepc = word_at S g 44;
  scause = word_at S g 45;
  stval = word_at S g 46;
  sscratch = word_at S g 47;
  satp = word_at S g 48;
  next = word_at S g 64;
}

-- how many pages the child has, where its table or directory is, and the version of the block
abbrev pub pages_at : List ℕ → ℕ → ℕ
pages_at S g = word_at S g 65

abbrev pub table_at : List ℕ → ℕ → ℕ
table_at S g = word_at S g 66

abbrev pub version_at : List ℕ → ℕ → ℕ
version_at S g = word_at S g 67

-- whether a hart can have these registers: pc, mepc and sepc are multiples of 4, mode is U, S or M, MPP isn't 2, a trap
-- vector has mode 0 or 1, and every other control register is inside its mask
-- (Privileged Architecture, sections 1.2, 3.1.6 to 3.1.9, 3.1.14, 4.1.1 to 4.1.11)
abbrev pub fits_hart : Regs → Bool
fits_hart r =
    (r.pc % 4 == 0)
    && ((r.mode == 0) || (r.mode == 1) || (r.mode == 3))
    && (bit_and r.mstatus mstatus_mask == r.mstatus)
    && not (r.mstatus / 2 ^ 11 % 2 ^ 2 == 2)
    && nat_lt (r.mtvec % 4) 2
    && (r.mepc % 4 == 0)
    && (bit_and r.medeleg medeleg_mask == r.medeleg)
    && (bit_and r.mideleg mideleg_mask == r.mideleg)
    && (bit_and r.mie interrupt_mask == r.mie)
    && (bit_and r.mip interrupt_mask == r.mip)
    && nat_lt (r.stvec % 4) 2
    && (r.sepc % 4 == 0)
    && (bit_and r.satp satp_mask == r.satp)

-- whether a child can have these pages, table, version and next: a size and a table that can be, a next inside its
-- pages, and a version that there is
abbrev pub fits_size : ℕ → ℕ → ℕ → ℕ → Bool
fits_size pages table version next =
    nat_lt 0 pages
    && nat_le pages (2 ^ 20)
    && nat_lt table (2 ^ 20)
    && nat_lt next pages
    && ((version == 0) || (version == 2))

-- the same of those that the words of page g say
abbrev pub fits_pages : List ℕ → ℕ → Bool
fits_pages S g = fits_size (pages_at S g) (table_at S g) (version_at S g) (word_at S g 64)

-- whether the words of page g are well formed
abbrev pub is_block : List ℕ → ℕ → Bool
is_block S g = fits_hart (regs_at S g) && fits_pages S g

-- what a well-formed block says
pub record Contents : Type 0 where
  pub regs : Regs
  pub pages : ℕ
  pub table : ℕ
  pub version : ℕ

-- what the words of page g say
abbrev pub contents_at : List ℕ → ℕ → Contents
contents_at S g = record { regs = regs_at S g; pages = pages_at S g; table = table_at S g; version = version_at S g }

-- the block in page g, which is one only where its words are well formed
abbrev pub block_of : List ℕ → ℕ → Option Contents
block_of S g = if is_block S g then Some (contents_at S g) else None

-- the storage with the words 0 to 48 and 64 of page g replaced by the registers r, and no other word
abbrev pub put_regs : List ℕ → ℕ → Regs → List ℕ
put_regs S g r = with_word (sets S (1024 * g) (take 49 (spelled r))) g 64 r.next

-- how an access is spelled
abbrev pub access_word : Access → ℕ
access_word Read = 1
access_word Write = 2
access_word Fetch = 3

-- the storage with a fault told in the words 72 to 74 of page g, and no other word changed
abbrev pub with_fault : List ℕ → ℕ → ℕ → ℕ → ℕ → List ℕ
with_fault S g cause address access = with_word (with_word (with_word S g 72 cause) g 73 address) g 74 access

-- a word of a block's page that holds no register
abbrev pub IsOther : ℕ → Type 0
IsOther w = (49 ≤ w) × (w ≢ 64)
