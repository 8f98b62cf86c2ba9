-- Which bits of the control registers can be set at all. The other bits are read-only zero.
-- (Privileged Architecture, sections 3.1.6, 3.1.8, 3.1.9 and 4.1.11.)
use Rattle.std.specs.Prelude.{ℕ}

-- SIE 1, MIE 3, SPIE 5, MPIE 7, SPP 8, MPP 12:11, MPRV 17, SUM 18, MXR 19, TVM 20, TW 21, TSR 22
abbrev pub mstatus_mask : ℕ
mstatus_mask = 0x007E19AA

-- the exceptions that M can delegate: all but the environment call from M
abbrev pub medeleg_mask : ℕ
medeleg_mask = 0xB3FF

-- the interrupts that M can delegate: those of S
abbrev pub mideleg_mask : ℕ
mideleg_mask = 0x222

-- SSI 1, MSI 3, STI 5, MTI 7, SEI 9, MEI 11, in mie and in mip
abbrev pub interrupt_mask : ℕ
interrupt_mask = 0xAAA

-- the mode bit 31, and the page number of the root table in bits 21:0; there are no address spaces by number
abbrev pub satp_mask : ℕ
satp_mask = 0x803FFFFF
