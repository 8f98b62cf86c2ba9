-- The control registers: number, name, what is read, and what a write of v leaves. Every other number
-- names none. (Privileged Architecture, section 2.2 and chapters 3 and 4.)
use Rattle.std.specs.Prelude.{ℕ, ◌+◌, ◌-◌, ◌%◌, ◌==◌, nat_lt, if◌then◌else◌, Option, List, [], ◌∷◌, codes, find}
use Rattle.std.specs.Int.RustNames.{bit_and}
use Rattle.hv_word.specs.Words.{field_of, field_put}
use Rattle.hv_cpu.specs.Masks.{mstatus_mask, medeleg_mask, mideleg_mask, interrupt_mask, satp_mask}
use Rattle.hv_cpu.specs.Regs.{Regs}
use Rattle.hv_csr.specs.declared.csr.Csr.{Csr}
use Rattle.hv_csr.specs.declared.csr.Csr.TheVariants.{Sstatus, Sie, Stvec, Scounteren, Sscratch, Sepc, Scause, Stval}
use Rattle.hv_csr.specs.declared.csr.Csr.TheVariants.{Sip, Satp, Mstatus, Misa, Medeleg, Mideleg, Mie, Mtvec}
use Rattle.hv_csr.specs.declared.csr.Csr.TheVariants.{Mcounteren, Mstatush, Mscratch, Mepc, Mcause, Mtval, Mip}
use Rattle.hv_csr.specs.declared.csr.Csr.TheVariants.{Mvendorid, Marchid, Mimpid, Mhartid}

-- the bits of mstatus that S sees: SIE 1, SPIE 5, SPP 8, SUM 18, MXR 19 (section 4.1.1)
abbrev pub sstatus_mask : ℕ
sstatus_mask = 0x000C0122

-- the bits of MPP, 12:11 (section 3.1.6.1)
abbrev pub mpp_bits : ℕ
mpp_bits = 0x1800

-- the software interrupt of S, the one bit of sip that S may write (section 4.1.3)
abbrev pub ssi : ℕ
ssi = 0x2

-- the software, timer and external interrupts of S, the bits of mip that an instruction may write (section 3.1.9)
abbrev pub mip_writable : ℕ
mip_writable = 0x222

-- 32 bits, with the extensions I, S and U (section 3.1.1)
abbrev pub misa_word : ℕ
misa_word = 0x40140100

-- w with its bits in the mask m taken from v
abbrev pub merge : ℕ → ℕ → ℕ → ℕ
merge w m v = w - bit_and w m + bit_and v m

-- a trap vector has mode 0 or 1; a write with a reserved mode gives mode 0 (sections 3.1.7 and 4.1.2)
abbrev pub vector : ℕ → ℕ
vector v = if nat_lt (v % 4) 2 then v else v - v % 4

-- the place to return to lies on a word (sections 3.1.14 and 4.1.7)
abbrev pub on_word : ℕ → ℕ
on_word v = v - v % 4

-- mstatus w after a write of v: its mask, where the reserved mode in MPP keeps the old one (section 3.1.6.1)
abbrev pub status_of : ℕ → ℕ → ℕ
status_of w v =
    if field_of v 11 2 == 2 then field_put (bit_and v mstatus_mask) 11 2 (field_of w 11 2) else bit_and v mstatus_mask

-- a control register: its number, its name, what is read from it, and the registers after v is written to it
pub record Row : Type 0 where
  pub number : ℕ
  pub name : List ℕ
  pub read : Regs → ℕ → ℕ
  pub write : Regs → ℕ → Regs

-- a read is given the registers and the hart's number
abbrev pub row_of : Csr → Row
row_of Sstatus = record {
  number = 0x100;
  name = codes "sstatus";
  read = λ r hart. bit_and r.mstatus sstatus_mask;
  write = λ r v. record r { mstatus = merge r.mstatus sstatus_mask v };
}
row_of Sie = record {
  number = 0x104;
  name = codes "sie";
  read = λ r hart. bit_and r.mie r.mideleg;
  write = λ r v. record r { mie = merge r.mie r.mideleg v };
}
row_of Stvec = record {
  number = 0x105;
  name = codes "stvec";
  read = λ r hart. r.stvec;
  write = λ r v. record r { stvec = vector v };
}
row_of Scounteren = record {
  number = 0x106;
  name = codes "scounteren";
  read = λ r hart. 0;
  write = λ r v. r;
}
row_of Sscratch = record {
  number = 0x140;
  name = codes "sscratch";
  read = λ r hart. r.sscratch;
  write = λ r v. record r { sscratch = v };
}
row_of Sepc = record {
  number = 0x141;
  name = codes "sepc";
  read = λ r hart. r.sepc;
  write = λ r v. record r { sepc = on_word v };
}
row_of Scause = record {
  number = 0x142;
  name = codes "scause";
  read = λ r hart. r.scause;
  write = λ r v. record r { scause = v };
}
row_of Stval = record {
  number = 0x143;
  name = codes "stval";
  read = λ r hart. r.stval;
  write = λ r v. record r { stval = v };
}
row_of Sip = record {
  number = 0x144;
  name = codes "sip";
  read = λ r hart. bit_and r.mip r.mideleg;
  write = λ r v. record r { mip = merge r.mip (bit_and r.mideleg ssi) v };
}
row_of Satp = record {
  number = 0x180;
  name = codes "satp";
  read = λ r hart. r.satp;
  write = λ r v. record r { satp = bit_and v satp_mask };
}
row_of Mstatus = record {
  number = 0x300;
  name = codes "mstatus";
  read = λ r hart. r.mstatus;
  write = λ r v. record r { mstatus = status_of r.mstatus v };
}
row_of Misa = record {
  number = 0x301;
  name = codes "misa";
  read = λ r hart. misa_word;
  write = λ r v. r;
}
row_of Medeleg = record {
  number = 0x302;
  name = codes "medeleg";
  read = λ r hart. r.medeleg;
  write = λ r v. record r { medeleg = bit_and v medeleg_mask };
}
row_of Mideleg = record {
  number = 0x303;
  name = codes "mideleg";
  read = λ r hart. r.mideleg;
  write = λ r v. record r { mideleg = bit_and v mideleg_mask };
}
row_of Mie = record {
  number = 0x304;
  name = codes "mie";
  read = λ r hart. r.mie;
  write = λ r v. record r { mie = bit_and v interrupt_mask };
}
row_of Mtvec = record {
  number = 0x305;
  name = codes "mtvec";
  read = λ r hart. r.mtvec;
  write = λ r v. record r { mtvec = vector v };
}
row_of Mcounteren = record {
  number = 0x306;
  name = codes "mcounteren";
  read = λ r hart. 0;
  write = λ r v. r;
}
row_of Mstatush = record {
  number = 0x310;
  name = codes "mstatush";
  read = λ r hart. 0;
  write = λ r v. r;
}
row_of Mscratch = record {
  number = 0x340;
  name = codes "mscratch";
  read = λ r hart. r.mscratch;
  write = λ r v. record r { mscratch = v };
}
row_of Mepc = record {
  number = 0x341;
  name = codes "mepc";
  read = λ r hart. r.mepc;
  write = λ r v. record r { mepc = on_word v };
}
row_of Mcause = record {
  number = 0x342;
  name = codes "mcause";
  read = λ r hart. r.mcause;
  write = λ r v. record r { mcause = v };
}
row_of Mtval = record {
  number = 0x343;
  name = codes "mtval";
  read = λ r hart. r.mtval;
  write = λ r v. record r { mtval = v };
}
row_of Mip = record {
  number = 0x344;
  name = codes "mip";
  read = λ r hart. r.mip;
  write = λ r v. record r { mip = merge r.mip mip_writable v };
}
row_of Mvendorid = record {
  number = 0xF11;
  name = codes "mvendorid";
  read = λ r hart. 0;
  write = λ r v. r;
}
row_of Marchid = record {
  number = 0xF12;
  name = codes "marchid";
  read = λ r hart. 0;
  write = λ r v. r;
}
row_of Mimpid = record {
  number = 0xF13;
  name = codes "mimpid";
  read = λ r hart. 0;
  write = λ r v. r;
}
row_of Mhartid = record {
  number = 0xF14;
  name = codes "mhartid";
  read = λ r hart. hart;
  write = λ r v. r;
}

-- all of them, in the order of their numbers
abbrev pub all : List Csr
all =
    Sstatus ∷ Sie ∷ Stvec ∷ Scounteren ∷ Sscratch ∷ Sepc ∷ Scause ∷ Stval ∷ Sip ∷ Satp ∷ Mstatus ∷
    Misa ∷ Medeleg ∷ Mideleg ∷ Mie ∷ Mtvec ∷ Mcounteren ∷ Mstatush ∷ Mscratch ∷ Mepc ∷ Mcause ∷
    Mtval ∷ Mip ∷ Mvendorid ∷ Marchid ∷ Mimpid ∷ Mhartid ∷ []

-- the register with that number
abbrev pub csr_of : ℕ → Option Csr
csr_of number = find (λ csr. number == (row_of csr).number) all
