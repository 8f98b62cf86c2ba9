-- Trap entry and return.
use Rattle.std.specs.Prelude.{ℕ, ◌+◌, ◌-◌, ◌*◌, ◌%◌, ◌^◌, ◌==◌, ◌&&◌, Bool, nat_lt, if◌then◌else◌, Option, Some, None}
use Rattle.hv_word.specs.Words.{field_of, field_put}
use Rattle.hv_cpu.specs.Regs.{Regs}

-- a trap goes to S where it comes from below M and its bit is delegated (Privileged Architecture, section 3.1.8)
abbrev pub goes_down : Regs → ℕ → Bool → Bool
goes_down r cause interrupt =
    nat_lt r.mode 3 && field_of (if interrupt then r.mideleg else r.medeleg) cause 1 == 1

-- bit 31 of the cause is set for an interrupt (sections 3.1.15 and 4.1.8)
abbrev pub cause_word : ℕ → Bool → ℕ
cause_word cause interrupt = if interrupt then 2 ^ 31 + cause else cause

-- the base of the vector, or in mode 1 for an interrupt the word of that cause behind it (sections 3.1.7 and 4.1.2)
abbrev pub handler_of : ℕ → ℕ → Bool → ℕ
handler_of vector cause interrupt =
    if interrupt && vector % 4 == 1 then (vector - vector % 4 + 4 * cause) % 2 ^ 32 else vector - vector % 4

-- mstatus on entry to M: MPIE becomes MIE, MIE 0 and MPP the old mode (section 3.1.6.1)
abbrev pub entered_m : ℕ → ℕ → ℕ
entered_m w mode = field_put (field_put (field_put w 7 1 (field_of w 3 1)) 3 1 0) 11 2 mode

-- mstatus on entry to S: SPIE becomes SIE, SIE 0 and SPP the old mode (section 4.1.1)
abbrev pub entered_s : ℕ → ℕ → ℕ
entered_s w mode = field_put (field_put (field_put w 5 1 (field_of w 1 1)) 1 1 0) 8 1 mode

-- the registers after a trap, which goes to S where it is delegated, and else to M
abbrev pub take_trap_of : Regs → ℕ → Bool → ℕ → Regs
take_trap_of r cause interrupt tval =
    if goes_down r cause interrupt then record r {
      pc = handler_of r.stvec cause interrupt;
      mode = 1;
      mstatus = entered_s r.mstatus r.mode;
      sepc = r.pc;
      scause = cause_word cause interrupt;
      stval = tval;
    } else record r {
      pc = handler_of r.mtvec cause interrupt;
      mode = 3;
      mstatus = entered_m r.mstatus r.mode;
      mepc = r.pc;
      mcause = cause_word cause interrupt;
      mtval = tval;
    }

-- mstatus after MRET: MIE becomes MPIE, MPIE 1 and MPP 0 (section 3.1.6.1)
abbrev pub left_m : ℕ → ℕ
left_m w = field_put (field_put (field_put w 3 1 (field_of w 7 1)) 7 1 1) 11 2 0

-- mstatus after SRET: SIE becomes SPIE, SPIE 1 and SPP 0 (section 4.1.1)
abbrev pub left_s : ℕ → ℕ
left_s w = field_put (field_put (field_put w 1 1 (field_of w 5 1)) 5 1 1) 8 1 0

-- a return to a mode below M clears MPRV (section 3.1.6.3)
abbrev pub unprivileged : ℕ → ℕ → ℕ
unprivileged w mode = if nat_lt mode 3 then field_put w 17 1 0 else w

-- MRET, which only M may use (section 3.3.2)
abbrev pub mret_of : Regs → Option Regs
mret_of r =
    if r.mode == 3 then Some (record r {
      pc = r.mepc;
      mode = field_of r.mstatus 11 2;
      mstatus = unprivileged (left_m r.mstatus) (field_of r.mstatus 11 2);
    }) else None

-- SRET, which U may not use, nor S with TSR (sections 3.1.6.5 and 3.3.2)
abbrev pub may_sret : Regs → Bool
may_sret r = if r.mode == 1 then field_of r.mstatus 22 1 == 0 else r.mode == 3

-- the registers after SRET; none where it may not be used
abbrev pub sret_of : Regs → Option Regs
sret_of r =
    if may_sret r then Some (record r {
      pc = r.sepc;
      mode = field_of r.mstatus 8 1;
      mstatus = unprivileged (left_s r.mstatus) (field_of r.mstatus 8 1);
    }) else None
