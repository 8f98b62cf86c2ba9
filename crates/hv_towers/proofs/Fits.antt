-- The registers that a step leaves fit a hart again, and name no page that the machine doesn't have.
use Rattle.std.proofs.Common.{◌≡◌, ◌≢◌, ℕ, zero, suc, ◌+◌, ◌-◌, ◌*◌, ◌%◌, ◌^◌, ◌<◌, ◌≤◌, Bool, true, false, cond, List, length, Option, Some, None, Result, Ok, Err, refl, ap, ◌∙◌, sym, subst, arith, lit<, slice_get, bit_and, bit_or}
use Rattle.std.specs.Prelude.{◌/◌, ◌==◌, ◌&&◌, ◌||◌, nat_lt}
use Rattle.std.proofs.lemmas.Bool.{eqb-true, eqb-false, ltb-true}
use Rattle.std.proofs.lemmas.Nat.{and_le_r}
use Rattle.std.proofs.lemmas.Option.{slice_get_within}
use Rattle.hv_word.specs.Words.{field_of, field_put}
use Rattle.hv_word.specs.Storage.{page_count}
use Rattle.hv_cpu.specs.Masks.{mstatus_mask, medeleg_mask, mideleg_mask, interrupt_mask, satp_mask}
use Rattle.hv_cpu.specs.Regs.{Regs, FitsHart, with_reg, reg}
use Rattle.hv_csr.specs.Access.{is_barred, is_read_only, csr_read_of, write_at}
use Rattle.hv_csr.specs.Interrupts.{pending_of}
use Rattle.hv_csr.specs.Table.{sstatus_mask, ssi, merge, vector, status_of, row_of, csr_of}
use Rattle.hv_csr.specs.Traps.{goes_down, cause_word, handler_of, entered_m, entered_s, take_trap_of, left_m, left_s, unprivileged, mret_of, sret_of, may_sret}
use Rattle.hv_csr.proofs.Merge.{merged_is, merged_inside, merged_mpp, cut_inside, cut_mpp, delegated_inside, ssi_inside, put_inside, put_mpp}
use Rattle.hv_isa.specs.declared.Instr.{Instr}
use Rattle.hv_isa.specs.declared.Op.{Op}
use Rattle.hv_isa.specs.declared.Op.TheVariants.{Lui, Auipc, Jal, Jalr, Beq, Bne, Blt, Bge, Bltu, Bgeu, Lb, Lh, Lw, Lbu, Lhu, Sb, Sh, Sw, Addi, Slti, Sltiu, Xori, Ori, Andi, Slli, Srli, Srai, Add, Sub, Sll, Slt, Sltu, Xor, Srl, Sra, Or, And, Fence, FenceI, Ecall, Ebreak, Csrrw, Csrrs, Csrrc, Csrrwi, Csrrsi, Csrrci, Sret, Mret, Wfi, SfenceVma, Vmenter}
use Rattle.hv_csr.specs.declared.csr.Csr.{Csr}
use Rattle.hv_csr.specs.declared.csr.Csr.TheVariants.{Sstatus, Sie, Stvec, Scounteren, Sscratch, Sepc, Scause, Stval, Sip, Satp, Mstatus, Misa, Medeleg, Mideleg, Mie, Mtvec, Mcounteren, Mstatush, Mscratch, Mepc, Mcause, Mtval, Mip, Mvendorid, Marchid, Mimpid, Mhartid}
use Rattle.hv_isa.specs.Table.{decode_of}
use Rattle.hv_store.specs.declared.access.Access.TheVariants.{Read, Write, Fetch}
use Rattle.hv_store.specs.declared.access.Refusal.{Refusal}
use Rattle.hv_store.specs.declared.access.Slot.{Slot}
use Rattle.hv_store.specs.declared.access.Way.{Way}
use Rattle.hv_store.specs.declared.access.Way.TheVariants.{Open, Shut}
use Rattle.hv_store.specs.Access.{identity, get, set, clear_through, cleared_at, cleared}
use Rattle.hv_store.proofs.Identity.{length-identity}
use Rattle.hv_sv32.specs.Stop.{Walked, Found, TrapWith, RefusedBy}
use Rattle.hv_sv32.specs.Walk.{walk_of}
use Rattle.hv_exec.specs.Arithmetic.{sum_of}
use Rattle.hv_exec.specs.Answer.{Answer, Next, Trap, Load, Store, Enter, advanced, given, passed, at_target, jumped, branched}
use Rattle.hv_exec.specs.Memory.{width_bytes, lane_at, loading, storing}
use Rattle.hv_exec.specs.System.{new_value, stored_csr, answered_csr, read_csr, csr_row, returned, entering}
use Rattle.hv_exec.specs.Do.{row_answer, do_of}
use Rattle.hv_exec.specs.Act.{Acted, Done, Refused, trapped, loaded, load_at, stored, store_at, entered, enter_page, enter_at, carried_out, decoded, fetched, fetch_at, act_of}
use Rattle.hv_block.specs.Block.{Contents, block_of, with_fault, access_word}
use Rattle.hv_limits.specs.Limits.{depth_limit}
use Rattle.hv_map.specs.Compose.{compose}
use Rattle.hv_nest.specs.Step.{Stepped, Worked, Recalled, Faulted, Barred, Machine, idle, interrupt_of, act_step, tell_of, put_back, malformed, child_step, child_step_through, child_step_at, next_step, step_on, step_of, host_step_of}

-- registers with another program counter, another general register, another next or another mstatus
kept_pc : (r : Regs) (pc : ℕ) → pc % 4 ≡ 0 → FitsHart r → FitsHart (record r { pc = pc })
kept_pc r pc e k = record { aligned = e; mode_fits = k.mode_fits; mode_real = k.mode_real; mstatus = k.mstatus; mpp = k.mpp; mtvec = k.mtvec; mepc = k.mepc; medeleg = k.medeleg; mideleg = k.mideleg; mie = k.mie; mip = k.mip; stvec = k.stvec; sepc = k.sepc; satp = k.satp }

kept_reg : (r : Regs) (i v : ℕ) → FitsHart r → FitsHart (with_reg r i v)
kept_reg r i v k = record { aligned = k.aligned; mode_fits = k.mode_fits; mode_real = k.mode_real; mstatus = k.mstatus; mpp = k.mpp; mtvec = k.mtvec; mepc = k.mepc; medeleg = k.medeleg; mideleg = k.mideleg; mie = k.mie; mip = k.mip; stvec = k.stvec; sepc = k.sepc; satp = k.satp }

kept_next : (r : Regs) (n : ℕ) → FitsHart r → FitsHart (record r { next = n })
kept_next r n k = record { aligned = k.aligned; mode_fits = k.mode_fits; mode_real = k.mode_real; mstatus = k.mstatus; mpp = k.mpp; mtvec = k.mtvec; mepc = k.mepc; medeleg = k.medeleg; mideleg = k.mideleg; mie = k.mie; mip = k.mip; stvec = k.stvec; sepc = k.sepc; satp = k.satp }

kept_advanced : (r : Regs) → FitsHart r → FitsHart (advanced r)
unfolding advanced
kept_advanced r k = let e : r.pc % 4 ≡ 0 = k.aligned in kept_pc r (sum_of r.pc 4) (omega (arith, e)) k

kept_given : (r : Regs) (rd v : ℕ) → FitsHart r → FitsHart (given r rd v)
unfolding given
kept_given r rd v k = kept_advanced (with_reg r rd v) (kept_reg r rd v k)

-- words of mstatus
pub record Status (w : ℕ) : Type 0 where
  pub inside : bit_and w mstatus_mask ≡ w
  pub mpp : field_of w 11 2 ≢ 2

small : (w m : ℕ) → m < 4294967296 → bit_and w m ≡ w → w < 4294967296
small w m h e = omega (arith, and_le_r w m, e, h)

inside_put : (w lo len v : ℕ) → lo + len ≤ 32 → bit_and ((2 ^ len - 1) * 2 ^ lo) mstatus_mask ≡ (2 ^ len - 1) * 2 ^ lo → bit_and w mstatus_mask ≡ w → bit_and (field_put w lo len v) mstatus_mask ≡ field_put w lo len v
inside_put w lo len v h mask e = put_inside w lo len v mstatus_mask h (small w mstatus_mask (lit< tt) e) e mask

-- another field than MPP
status_put : (w lo len v : ℕ) → lo + len ≤ 32 → bit_and ((2 ^ len - 1) * 2 ^ lo) mstatus_mask ≡ (2 ^ len - 1) * 2 ^ lo → bit_and ((2 ^ len - 1) * 2 ^ lo) 0x1800 ≡ 0 → Status w → Status (field_put w lo len v)
status_put w lo len v h mask apart s = record {
  inside = inside_put w lo len v h mask s.inside;
  mpp = λ e. s.mpp (sym (put_mpp w lo len v h (small w mstatus_mask (lit< tt) s.inside) apart) ∙ e);
}

put_there : (w v : ℕ) → field_of (field_put w 11 2 v) 11 2 ≡ v % 4
put_there w v = omega arith

status_mpp : (w v : ℕ) → v % 4 ≢ 2 → Status w → Status (field_put w 11 2 v)
status_mpp w v ne s = record {
  inside = inside_put w 11 2 v (omega arith) refl s.inside;
  mpp = λ e. ne (sym (put_there w v) ∙ e);
}

kept_status : (r : Regs) (w : ℕ) → Status w → FitsHart r → FitsHart (record r { mstatus = w })
kept_status r w s k = record { aligned = k.aligned; mode_fits = k.mode_fits; mode_real = k.mode_real; mstatus = s.inside; mpp = s.mpp; mtvec = k.mtvec; mepc = k.mepc; medeleg = k.medeleg; mideleg = k.mideleg; mie = k.mie; mip = k.mip; stvec = k.stvec; sepc = k.sepc; satp = k.satp }

status_of_kept : (r : Regs) → FitsHart r → Status r.mstatus
status_of_kept r k = record { inside = k.mstatus; mpp = k.mpp }

on_four : (v : ℕ) → (v - v % 4) % 4 ≡ 0
on_four v = omega arith

entry_aligned : (v cause : ℕ) (interrupt : Bool) → handler_of v cause interrupt % 4 ≡ 0
entry_aligned v cause interrupt = by (interrupt && (v % 4 == 1))
  where
    by : (t : Bool) → cond t ((v - v % 4 + 4 * cause) % 4294967296) (v - v % 4) % 4 ≡ 0
    by true = omega arith
    by false = on_four v

pub kept_trap : (r : Regs) (cause : ℕ) (interrupt : Bool) (tval : ℕ) → FitsHart r → FitsHart (take_trap_of r cause interrupt tval)
kept_trap r cause interrupt tval k = by (goes_down r cause interrupt)
  where
    s : Status r.mstatus
    s = status_of_kept r k

    low : Status (entered_s r.mstatus r.mode)
    low = status_put (field_put (field_put r.mstatus 5 1 (field_of r.mstatus 1 1)) 1 1 0) 8 1 r.mode (omega arith) refl refl
        (status_put (field_put r.mstatus 5 1 (field_of r.mstatus 1 1)) 1 1 0 (omega arith) refl refl
        (status_put r.mstatus 5 1 (field_of r.mstatus 1 1) (omega arith) refl refl s))

    real : r.mode % 4 ≢ 2
    real e = k.mode_real (let h : r.mode < 4 = k.mode_fits in omega (arith, h, e))

    high : Status (entered_m r.mstatus r.mode)
    high = status_mpp (field_put (field_put r.mstatus 7 1 (field_of r.mstatus 3 1)) 3 1 0) r.mode real
        (status_put (field_put r.mstatus 7 1 (field_of r.mstatus 3 1)) 3 1 0 (omega arith) refl refl
        (status_put r.mstatus 7 1 (field_of r.mstatus 3 1) (omega arith) refl refl s))

    by : (t : Bool) → FitsHart (cond t
        (record r { pc = handler_of r.stvec cause interrupt; mode = 1; mstatus = entered_s r.mstatus r.mode; sepc = r.pc; scause = cause_word cause interrupt; stval = tval })
        (record r { pc = handler_of r.mtvec cause interrupt; mode = 3; mstatus = entered_m r.mstatus r.mode; mepc = r.pc; mcause = cause_word cause interrupt; mtval = tval }))
    by true = record { aligned = entry_aligned r.stvec cause interrupt; mode_fits = omega arith; mode_real = λ e. omega (arith, e); mstatus = low.inside; mpp = low.mpp; mtvec = k.mtvec; mepc = k.mepc; medeleg = k.medeleg; mideleg = k.mideleg; mie = k.mie; mip = k.mip; stvec = k.stvec; sepc = k.aligned; satp = k.satp }
    by false = record { aligned = entry_aligned r.mtvec cause interrupt; mode_fits = omega arith; mode_real = λ e. omega (arith, e); mstatus = high.inside; mpp = high.mpp; mtvec = k.mtvec; mepc = k.aligned; medeleg = k.medeleg; mideleg = k.mideleg; mie = k.mie; mip = k.mip; stvec = k.stvec; sepc = k.sepc; satp = k.satp }

-- registers that fit a hart, whose next is one of n pages
pub record Fit (n : ℕ) (r : Regs) : Type 0 where
  pub kept : FitsHart r
  pub next : r.next < n

abbrev FitIf : ℕ → Option Regs → Type 0
FitIf n None = Unit {0}
FitIf n (Some q) = Fit n q

trap_next : (r : Regs) (cause : ℕ) (interrupt : Bool) (tval : ℕ) → (take_trap_of r cause interrupt tval).next ≡ r.next
trap_next r cause interrupt tval = by (goes_down r cause interrupt)
  where
    by : (t : Bool) → (cond t
        (record r { pc = handler_of r.stvec cause interrupt; mode = 1; mstatus = entered_s r.mstatus r.mode; sepc = r.pc; scause = cause_word cause interrupt; stval = tval })
        (record r { pc = handler_of r.mtvec cause interrupt; mode = 3; mstatus = entered_m r.mstatus r.mode; mepc = r.pc; mcause = cause_word cause interrupt; mtval = tval })).next ≡ r.next
    by true = refl
    by false = refl

fit_trap : (n : ℕ) (r : Regs) (cause : ℕ) (interrupt : Bool) (tval : ℕ) → Fit n r → Fit n (take_trap_of r cause interrupt tval)
fit_trap n r cause interrupt tval f = record {
  kept = kept_trap r cause interrupt tval f.kept;
  next = subst (λ (k : ℕ). k < n) (sym (trap_next r cause interrupt tval)) f.next;
}

fit_advanced : (n : ℕ) (r : Regs) → Fit n r → Fit n (advanced r)
unfolding advanced
fit_advanced n r f = record { kept = kept_advanced r f.kept; next = f.next }

fit_given : (n : ℕ) (r : Regs) (rd v : ℕ) → Fit n r → Fit n (given r rd v)
unfolding given advanced
fit_given n r rd v f = record { kept = kept_given r rd v f.kept; next = f.next }

-- returns from traps
unprivileged_status : (w mode : ℕ) → Status w → Status (unprivileged w mode)
unprivileged_status w mode s = by (nat_lt mode 3)
  where
    by : (t : Bool) → Status (cond t (field_put w 17 1 0) w)
    by true = status_put w 17 1 0 (omega arith) refl refl s
    by false = s

field_small : (w : ℕ) → field_of w 11 2 < 4
field_small w = omega arith

fit_mret : (n : ℕ) (r : Regs) → Fit n r → FitIf n (mret_of r)
fit_mret n r f = by (r.mode == 3)
  where
    k : FitsHart r
    k = f.kept

    s : Status (unprivileged (left_m r.mstatus) (field_of r.mstatus 11 2))
    s = unprivileged_status (left_m r.mstatus) (field_of r.mstatus 11 2)
        (status_mpp (field_put (field_put r.mstatus 3 1 (field_of r.mstatus 7 1)) 7 1 1) 0 (λ e. omega (arith, e))
        (status_put (field_put r.mstatus 3 1 (field_of r.mstatus 7 1)) 7 1 1 (omega arith) refl refl
        (status_put r.mstatus 3 1 (field_of r.mstatus 7 1) (omega arith) refl refl (status_of_kept r k))))

    by : (t : Bool) → FitIf n (cond t (Some (record r { pc = r.mepc; mode = field_of r.mstatus 11 2; mstatus = unprivileged (left_m r.mstatus) (field_of r.mstatus 11 2) })) None)
    by true = record { kept = record { aligned = k.mepc; mode_fits = field_small r.mstatus; mode_real = k.mpp; mstatus = s.inside; mpp = s.mpp; mtvec = k.mtvec; mepc = k.mepc; medeleg = k.medeleg; mideleg = k.mideleg; mie = k.mie; mip = k.mip; stvec = k.stvec; sepc = k.sepc; satp = k.satp }; next = f.next }
    by false = tt

fit_sret : (n : ℕ) (r : Regs) → Fit n r → FitIf n (sret_of r)
fit_sret n r f = by (may_sret r)
  where
    k : FitsHart r
    k = f.kept

    s : Status (unprivileged (left_s r.mstatus) (field_of r.mstatus 8 1))
    s = unprivileged_status (left_s r.mstatus) (field_of r.mstatus 8 1)
        (status_put (field_put (field_put r.mstatus 1 1 (field_of r.mstatus 5 1)) 5 1 1) 8 1 0 (omega arith) refl refl
        (status_put (field_put r.mstatus 1 1 (field_of r.mstatus 5 1)) 5 1 1 (omega arith) refl refl
        (status_put r.mstatus 1 1 (field_of r.mstatus 5 1) (omega arith) refl refl (status_of_kept r k))))

    by : (t : Bool) → FitIf n (cond t (Some (record r { pc = r.sepc; mode = field_of r.mstatus 8 1; mstatus = unprivileged (left_s r.mstatus) (field_of r.mstatus 8 1) })) None)
    by true = record { kept = record { aligned = k.sepc; mode_fits = (let h : field_of r.mstatus 8 1 < 2 = omega arith in omega (arith, h)); mode_real = λ e. (let h : field_of r.mstatus 8 1 < 2 = omega arith in omega (arith, h, e)); mstatus = s.inside; mpp = s.mpp; mtvec = k.mtvec; mepc = k.mepc; medeleg = k.medeleg; mideleg = k.mideleg; mie = k.mie; mip = k.mip; stvec = k.stvec; sepc = k.sepc; satp = k.satp }; next = f.next }
    by false = tt

-- writes of control registers
merged_in : (w m v wide : ℕ) → wide < 4294967296 → m < 4294967296 → bit_and w wide ≡ w → bit_and m wide ≡ m → bit_and (merge w m v) wide ≡ merge w m v
merged_in w m v wide big mask h k =
    let e : bit_or (bit_and w (4294967295 - m)) (bit_and v m) ≡ merge w m v = merged_is w m v (small w wide big h) mask in
    ap (λ (x : ℕ). bit_and x wide) (sym e) ∙ merged_inside w (4294967295 - m) v m wide h k ∙ e

merged_status : (w v : ℕ) → Status w → Status (merge w sstatus_mask v)
merged_status w v s = record {
  inside = merged_in w sstatus_mask v mstatus_mask (lit< tt) (lit< tt) s.inside refl;
  mpp = λ e. s.mpp (sym (merged_mpp w sstatus_mask v (lit< tt) refl) ∙ ap (λ (x : ℕ). field_of x 11 2) (merged_is w sstatus_mask v (small w mstatus_mask (lit< tt) s.inside) (lit< tt)) ∙ e);
}

written_status : (w v : ℕ) → Status w → Status (status_of w v)
written_status w v s = by (field_of v 11 2 == 2) refl
  where
    cut : bit_and (bit_and v mstatus_mask) mstatus_mask ≡ bit_and v mstatus_mask
    cut = cut_inside v mstatus_mask

    old : field_of w 11 2 % 4 ≢ 2
    old e = s.mpp (let h : field_of w 11 2 < 4 = field_small w in omega (arith, h, e))

    by : (t : Bool) → (field_of v 11 2 == 2) ≡ t → Status (cond t (field_put (bit_and v mstatus_mask) 11 2 (field_of w 11 2)) (bit_and v mstatus_mask))
    by true is = record {
      inside = inside_put (bit_and v mstatus_mask) 11 2 (field_of w 11 2) (omega arith) refl cut;
      mpp = λ e. old (sym (put_there (bit_and v mstatus_mask) (field_of w 11 2)) ∙ e);
    }
    by false is = record { inside = cut; mpp = λ e. eqb-false (field_of v 11 2) 2 is (sym (cut_mpp v) ∙ e) }

vector_fits : (v : ℕ) → vector v % 4 < 2
vector_fits v = by (nat_lt (v % 4) 2) refl
  where
    by : (t : Bool) → nat_lt (v % 4) 2 ≡ t → cond t v (v - v % 4) % 4 < 2
    by true is = ltb-true (v % 4) 2 is
    by false is = omega (arith, on_four v)

kept_write : (c : Csr) (r : Regs) (v : ℕ) → FitsHart r → FitsHart ((row_of c).write r v)
kept_write Sstatus r v k = record { aligned = k.aligned; mode_fits = k.mode_fits; mode_real = k.mode_real; mstatus = (merged_status r.mstatus v (status_of_kept r k)).inside; mpp = (merged_status r.mstatus v (status_of_kept r k)).mpp; mtvec = k.mtvec; mepc = k.mepc; medeleg = k.medeleg; mideleg = k.mideleg; mie = k.mie; mip = k.mip; stvec = k.stvec; sepc = k.sepc; satp = k.satp }
kept_write Sie r v k = record { aligned = k.aligned; mode_fits = k.mode_fits; mode_real = k.mode_real; mstatus = k.mstatus; mpp = k.mpp; mtvec = k.mtvec; mepc = k.mepc; medeleg = k.medeleg; mideleg = k.mideleg; mie = merged_in r.mie r.mideleg v interrupt_mask (lit< tt) (small r.mideleg mideleg_mask (lit< tt) k.mideleg) k.mie (delegated_inside r.mideleg k.mideleg); mip = k.mip; stvec = k.stvec; sepc = k.sepc; satp = k.satp }
kept_write Stvec r v k = record { aligned = k.aligned; mode_fits = k.mode_fits; mode_real = k.mode_real; mstatus = k.mstatus; mpp = k.mpp; mtvec = k.mtvec; mepc = k.mepc; medeleg = k.medeleg; mideleg = k.mideleg; mie = k.mie; mip = k.mip; stvec = vector_fits v; sepc = k.sepc; satp = k.satp }
kept_write Scounteren r v k = record { aligned = k.aligned; mode_fits = k.mode_fits; mode_real = k.mode_real; mstatus = k.mstatus; mpp = k.mpp; mtvec = k.mtvec; mepc = k.mepc; medeleg = k.medeleg; mideleg = k.mideleg; mie = k.mie; mip = k.mip; stvec = k.stvec; sepc = k.sepc; satp = k.satp }
kept_write Sscratch r v k = record { aligned = k.aligned; mode_fits = k.mode_fits; mode_real = k.mode_real; mstatus = k.mstatus; mpp = k.mpp; mtvec = k.mtvec; mepc = k.mepc; medeleg = k.medeleg; mideleg = k.mideleg; mie = k.mie; mip = k.mip; stvec = k.stvec; sepc = k.sepc; satp = k.satp }
kept_write Sepc r v k = record { aligned = k.aligned; mode_fits = k.mode_fits; mode_real = k.mode_real; mstatus = k.mstatus; mpp = k.mpp; mtvec = k.mtvec; mepc = k.mepc; medeleg = k.medeleg; mideleg = k.mideleg; mie = k.mie; mip = k.mip; stvec = k.stvec; sepc = on_four v; satp = k.satp }
kept_write Scause r v k = record { aligned = k.aligned; mode_fits = k.mode_fits; mode_real = k.mode_real; mstatus = k.mstatus; mpp = k.mpp; mtvec = k.mtvec; mepc = k.mepc; medeleg = k.medeleg; mideleg = k.mideleg; mie = k.mie; mip = k.mip; stvec = k.stvec; sepc = k.sepc; satp = k.satp }
kept_write Stval r v k = record { aligned = k.aligned; mode_fits = k.mode_fits; mode_real = k.mode_real; mstatus = k.mstatus; mpp = k.mpp; mtvec = k.mtvec; mepc = k.mepc; medeleg = k.medeleg; mideleg = k.mideleg; mie = k.mie; mip = k.mip; stvec = k.stvec; sepc = k.sepc; satp = k.satp }
kept_write Sip r v k = record { aligned = k.aligned; mode_fits = k.mode_fits; mode_real = k.mode_real; mstatus = k.mstatus; mpp = k.mpp; mtvec = k.mtvec; mepc = k.mepc; medeleg = k.medeleg; mideleg = k.mideleg; mie = k.mie; mip = merged_in r.mip (bit_and r.mideleg ssi) v interrupt_mask (lit< tt) (omega (arith, and_le_r r.mideleg ssi)) k.mip (ssi_inside r.mideleg); stvec = k.stvec; sepc = k.sepc; satp = k.satp }
kept_write Satp r v k = record { aligned = k.aligned; mode_fits = k.mode_fits; mode_real = k.mode_real; mstatus = k.mstatus; mpp = k.mpp; mtvec = k.mtvec; mepc = k.mepc; medeleg = k.medeleg; mideleg = k.mideleg; mie = k.mie; mip = k.mip; stvec = k.stvec; sepc = k.sepc; satp = cut_inside v satp_mask }
kept_write Mstatus r v k = record { aligned = k.aligned; mode_fits = k.mode_fits; mode_real = k.mode_real; mstatus = (written_status r.mstatus v (status_of_kept r k)).inside; mpp = (written_status r.mstatus v (status_of_kept r k)).mpp; mtvec = k.mtvec; mepc = k.mepc; medeleg = k.medeleg; mideleg = k.mideleg; mie = k.mie; mip = k.mip; stvec = k.stvec; sepc = k.sepc; satp = k.satp }
kept_write Misa r v k = record { aligned = k.aligned; mode_fits = k.mode_fits; mode_real = k.mode_real; mstatus = k.mstatus; mpp = k.mpp; mtvec = k.mtvec; mepc = k.mepc; medeleg = k.medeleg; mideleg = k.mideleg; mie = k.mie; mip = k.mip; stvec = k.stvec; sepc = k.sepc; satp = k.satp }
kept_write Medeleg r v k = record { aligned = k.aligned; mode_fits = k.mode_fits; mode_real = k.mode_real; mstatus = k.mstatus; mpp = k.mpp; mtvec = k.mtvec; mepc = k.mepc; medeleg = cut_inside v medeleg_mask; mideleg = k.mideleg; mie = k.mie; mip = k.mip; stvec = k.stvec; sepc = k.sepc; satp = k.satp }
kept_write Mideleg r v k = record { aligned = k.aligned; mode_fits = k.mode_fits; mode_real = k.mode_real; mstatus = k.mstatus; mpp = k.mpp; mtvec = k.mtvec; mepc = k.mepc; medeleg = k.medeleg; mideleg = cut_inside v mideleg_mask; mie = k.mie; mip = k.mip; stvec = k.stvec; sepc = k.sepc; satp = k.satp }
kept_write Mie r v k = record { aligned = k.aligned; mode_fits = k.mode_fits; mode_real = k.mode_real; mstatus = k.mstatus; mpp = k.mpp; mtvec = k.mtvec; mepc = k.mepc; medeleg = k.medeleg; mideleg = k.mideleg; mie = cut_inside v interrupt_mask; mip = k.mip; stvec = k.stvec; sepc = k.sepc; satp = k.satp }
kept_write Mtvec r v k = record { aligned = k.aligned; mode_fits = k.mode_fits; mode_real = k.mode_real; mstatus = k.mstatus; mpp = k.mpp; mtvec = vector_fits v; mepc = k.mepc; medeleg = k.medeleg; mideleg = k.mideleg; mie = k.mie; mip = k.mip; stvec = k.stvec; sepc = k.sepc; satp = k.satp }
kept_write Mcounteren r v k = record { aligned = k.aligned; mode_fits = k.mode_fits; mode_real = k.mode_real; mstatus = k.mstatus; mpp = k.mpp; mtvec = k.mtvec; mepc = k.mepc; medeleg = k.medeleg; mideleg = k.mideleg; mie = k.mie; mip = k.mip; stvec = k.stvec; sepc = k.sepc; satp = k.satp }
kept_write Mstatush r v k = record { aligned = k.aligned; mode_fits = k.mode_fits; mode_real = k.mode_real; mstatus = k.mstatus; mpp = k.mpp; mtvec = k.mtvec; mepc = k.mepc; medeleg = k.medeleg; mideleg = k.mideleg; mie = k.mie; mip = k.mip; stvec = k.stvec; sepc = k.sepc; satp = k.satp }
kept_write Mscratch r v k = record { aligned = k.aligned; mode_fits = k.mode_fits; mode_real = k.mode_real; mstatus = k.mstatus; mpp = k.mpp; mtvec = k.mtvec; mepc = k.mepc; medeleg = k.medeleg; mideleg = k.mideleg; mie = k.mie; mip = k.mip; stvec = k.stvec; sepc = k.sepc; satp = k.satp }
kept_write Mepc r v k = record { aligned = k.aligned; mode_fits = k.mode_fits; mode_real = k.mode_real; mstatus = k.mstatus; mpp = k.mpp; mtvec = k.mtvec; mepc = on_four v; medeleg = k.medeleg; mideleg = k.mideleg; mie = k.mie; mip = k.mip; stvec = k.stvec; sepc = k.sepc; satp = k.satp }
kept_write Mcause r v k = record { aligned = k.aligned; mode_fits = k.mode_fits; mode_real = k.mode_real; mstatus = k.mstatus; mpp = k.mpp; mtvec = k.mtvec; mepc = k.mepc; medeleg = k.medeleg; mideleg = k.mideleg; mie = k.mie; mip = k.mip; stvec = k.stvec; sepc = k.sepc; satp = k.satp }
kept_write Mtval r v k = record { aligned = k.aligned; mode_fits = k.mode_fits; mode_real = k.mode_real; mstatus = k.mstatus; mpp = k.mpp; mtvec = k.mtvec; mepc = k.mepc; medeleg = k.medeleg; mideleg = k.mideleg; mie = k.mie; mip = k.mip; stvec = k.stvec; sepc = k.sepc; satp = k.satp }
kept_write Mip r v k = record { aligned = k.aligned; mode_fits = k.mode_fits; mode_real = k.mode_real; mstatus = k.mstatus; mpp = k.mpp; mtvec = k.mtvec; mepc = k.mepc; medeleg = k.medeleg; mideleg = k.mideleg; mie = k.mie; mip = merged_in r.mip mideleg_mask v interrupt_mask (lit< tt) (lit< tt) k.mip refl; stvec = k.stvec; sepc = k.sepc; satp = k.satp }
kept_write Mvendorid r v k = record { aligned = k.aligned; mode_fits = k.mode_fits; mode_real = k.mode_real; mstatus = k.mstatus; mpp = k.mpp; mtvec = k.mtvec; mepc = k.mepc; medeleg = k.medeleg; mideleg = k.mideleg; mie = k.mie; mip = k.mip; stvec = k.stvec; sepc = k.sepc; satp = k.satp }
kept_write Marchid r v k = record { aligned = k.aligned; mode_fits = k.mode_fits; mode_real = k.mode_real; mstatus = k.mstatus; mpp = k.mpp; mtvec = k.mtvec; mepc = k.mepc; medeleg = k.medeleg; mideleg = k.mideleg; mie = k.mie; mip = k.mip; stvec = k.stvec; sepc = k.sepc; satp = k.satp }
kept_write Mimpid r v k = record { aligned = k.aligned; mode_fits = k.mode_fits; mode_real = k.mode_real; mstatus = k.mstatus; mpp = k.mpp; mtvec = k.mtvec; mepc = k.mepc; medeleg = k.medeleg; mideleg = k.mideleg; mie = k.mie; mip = k.mip; stvec = k.stvec; sepc = k.sepc; satp = k.satp }
kept_write Mhartid r v k = record { aligned = k.aligned; mode_fits = k.mode_fits; mode_real = k.mode_real; mstatus = k.mstatus; mpp = k.mpp; mtvec = k.mtvec; mepc = k.mepc; medeleg = k.medeleg; mideleg = k.mideleg; mie = k.mie; mip = k.mip; stvec = k.stvec; sepc = k.sepc; satp = k.satp }

write_next : (c : Csr) (r : Regs) (v : ℕ) → ((row_of c).write r v).next ≡ r.next
write_next Sstatus r v = refl
write_next Sie r v = refl
write_next Stvec r v = refl
write_next Scounteren r v = refl
write_next Sscratch r v = refl
write_next Sepc r v = refl
write_next Scause r v = refl
write_next Stval r v = refl
write_next Sip r v = refl
write_next Satp r v = refl
write_next Mstatus r v = refl
write_next Misa r v = refl
write_next Medeleg r v = refl
write_next Mideleg r v = refl
write_next Mie r v = refl
write_next Mtvec r v = refl
write_next Mcounteren r v = refl
write_next Mstatush r v = refl
write_next Mscratch r v = refl
write_next Mepc r v = refl
write_next Mcause r v = refl
write_next Mtval r v = refl
write_next Mip r v = refl
write_next Mvendorid r v = refl
write_next Marchid r v = refl
write_next Mimpid r v = refl
write_next Mhartid r v = refl

fit_write : (n : ℕ) (r : Regs) (v : ℕ) (o : Option Csr) → Fit n r → FitIf n (write_at r v o)
fit_write n r v None f = tt
fit_write n r v (Some c) f = record { kept = kept_write c r v f.kept; next = subst (λ (k : ℕ). k < n) (sym (write_next c r v)) f.next }

fit_stored : (n : ℕ) (r : Regs) (number : ℕ) (o : Option ℕ) → Fit n r → FitIf n (stored_csr r number o)
fit_stored n r number None f = f
fit_stored n r number (Some v) f = by (is_barred r number || is_read_only number)
  where
    by : (t : Bool) → FitIf n (cond t None (write_at r v (csr_of number)))
    by true = tt
    by false = fit_write n r v (csr_of number) f

-- what an instruction asks for leaves registers that fit
abbrev AnswerFits : ℕ → Answer → Type 0
AnswerFits n (Next q) = Fit n q
AnswerFits n (Trap cause tval) = Unit {0}
AnswerFits n (Load address width signed rd) = Unit {0}
AnswerFits n (Store address width v) = Unit {0}
AnswerFits n (Enter value) = Unit {0}

module _ (n : ℕ) (r : Regs) (f : Fit n r) where
  fits_target : (q : Regs) (target : ℕ) → Fit n q → AnswerFits n (at_target q target)
  fits_target q target g = by (target % 4 == 0) refl
    where
      by : (t : Bool) → (target % 4 == 0) ≡ t → AnswerFits n (cond t (Next (record q { pc = target })) (Trap 0 target))
      by true is = record { kept = kept_pc q target (eqb-true (target % 4) 0 is) g.kept; next = g.next }
      by false is = tt

  fits_jump : (rd target : ℕ) → AnswerFits n (jumped r rd target)
  unfolding jumped
  fits_jump rd target = fits_target (with_reg r rd (sum_of r.pc 4)) target record { kept = kept_reg r rd (sum_of r.pc 4) f.kept; next = f.next }

  fits_branch : (taken : Bool) (target : ℕ) → AnswerFits n (branched r taken target)
  unfolding branched
  fits_branch true target = fits_target r target f
  fits_branch false target = fit_advanced n r f

  fits_load : (address : ℕ) (width : _) (signed : Bool) (rd : ℕ) → AnswerFits n (loading address width signed rd)
  unfolding loading
  fits_load address width signed rd = by (address % width_bytes width == 0)
    where
      by : (t : Bool) → AnswerFits n (cond t (Load address width signed rd) (Trap 4 address))
      by true = tt
      by false = tt

  fits_store : (address : ℕ) (width : _) (v : ℕ) → AnswerFits n (storing address width v)
  unfolding storing
  fits_store address width v = by (address % width_bytes width == 0)
    where
      by : (t : Bool) → AnswerFits n (cond t (Store address width v) (Trap 6 address))
      by true = tt
      by false = tt

  fits_passed : (allowed : Bool) (w : ℕ) → AnswerFits n (passed allowed w r)
  fits_passed true w = fit_advanced n r f
  fits_passed false w = tt

  fits_returned : (o : Option Regs) (w : ℕ) → FitIf n o → AnswerFits n (returned o w)
  unfolding returned
  fits_returned None w g = tt
  fits_returned (Some q) w g = g

  fits_entering : (value w : ℕ) → AnswerFits n (entering r value w)
  unfolding entering
  fits_entering value w = by (r.mode == 3)
    where
      by : (t : Bool) → AnswerFits n (cond t (Enter value) (Trap 2 w))
      by true = tt
      by false = tt

  fits_answered : (o : Option Regs) (rd old w : ℕ) → FitIf n o → AnswerFits n (answered_csr o rd old w)
  fits_answered None rd old w g = tt
  fits_answered (Some q) rd old w g = fit_given n q rd old g

  fits_csr : (update : _) (source : ℕ) (i : Instr) (w h : ℕ) → AnswerFits n (csr_row update source i w r h)
  unfolding csr_row
  fits_csr update source i w h = by (csr_read_of r h i.imm)
    where
      by : (o : Option ℕ) → AnswerFits n (read_csr o update source i w r)
      by None = tt
      by (Some old) = fits_answered (stored_csr r i.imm (new_value update i.rs1 old source)) i.rd old w (fit_stored n r i.imm (new_value update i.rs1 old source) f)

  fits_row : (op : Op) (i : Instr) (w h : ℕ) → AnswerFits n (row_answer op i w r h)
  fits_row Lui i w h = fit_given n r i.rd _ f
  fits_row Auipc i w h = fit_given n r i.rd _ f
  fits_row Jal i w h = fits_jump i.rd _
  fits_row Jalr i w h = fits_jump i.rd _
  fits_row Beq i w h = fits_branch _ _
  fits_row Bne i w h = fits_branch _ _
  fits_row Blt i w h = fits_branch _ _
  fits_row Bge i w h = fits_branch _ _
  fits_row Bltu i w h = fits_branch _ _
  fits_row Bgeu i w h = fits_branch _ _
  fits_row Lb i w h = fits_load _ _ _ i.rd
  fits_row Lh i w h = fits_load _ _ _ i.rd
  fits_row Lw i w h = fits_load _ _ _ i.rd
  fits_row Lbu i w h = fits_load _ _ _ i.rd
  fits_row Lhu i w h = fits_load _ _ _ i.rd
  fits_row Sb i w h = fits_store _ _ _
  fits_row Sh i w h = fits_store _ _ _
  fits_row Sw i w h = fits_store _ _ _
  fits_row Addi i w h = fit_given n r i.rd _ f
  fits_row Slti i w h = fit_given n r i.rd _ f
  fits_row Sltiu i w h = fit_given n r i.rd _ f
  fits_row Xori i w h = fit_given n r i.rd _ f
  fits_row Ori i w h = fit_given n r i.rd _ f
  fits_row Andi i w h = fit_given n r i.rd _ f
  fits_row Slli i w h = fit_given n r i.rd _ f
  fits_row Srli i w h = fit_given n r i.rd _ f
  fits_row Srai i w h = fit_given n r i.rd _ f
  fits_row Add i w h = fit_given n r i.rd _ f
  fits_row Sub i w h = fit_given n r i.rd _ f
  fits_row Sll i w h = fit_given n r i.rd _ f
  fits_row Slt i w h = fit_given n r i.rd _ f
  fits_row Sltu i w h = fit_given n r i.rd _ f
  fits_row Xor i w h = fit_given n r i.rd _ f
  fits_row Srl i w h = fit_given n r i.rd _ f
  fits_row Sra i w h = fit_given n r i.rd _ f
  fits_row Or i w h = fit_given n r i.rd _ f
  fits_row And i w h = fit_given n r i.rd _ f
  fits_row Fence i w h = fit_advanced n r f
  fits_row FenceI i w h = fit_advanced n r f
  fits_row Ecall i w h = tt
  fits_row Ebreak i w h = tt
  fits_row Csrrw i w h = fits_csr _ _ i w h
  fits_row Csrrs i w h = fits_csr _ _ i w h
  fits_row Csrrc i w h = fits_csr _ _ i w h
  fits_row Csrrwi i w h = fits_csr _ _ i w h
  fits_row Csrrsi i w h = fits_csr _ _ i w h
  fits_row Csrrci i w h = fits_csr _ _ i w h
  fits_row Sret i w h = fits_returned (sret_of r) w (fit_sret n r f)
  fits_row Mret i w h = fits_returned (mret_of r) w (fit_mret n r f)
  fits_row Wfi i w h = fits_passed _ w
  fits_row SfenceVma i w h = fits_passed _ w
  fits_row Vmenter i w h = fits_entering (reg r i.rs1) w

abbrev ActFits : ℕ → Acted → Type 0
ActFits n (Done T q) = Fit n q
ActFits n (Refused e) = Unit {0}

module _ (S : List ℕ) (F : List Slot) (hart : ℕ) (r : Regs) (f : Fit (length F) r) where
  trap_fits : (cause tval : ℕ) → ActFits (length F) (trapped S r cause tval)
  trap_fits cause tval = fit_trap (length F) r cause false tval f

  load_fits : (address : ℕ) (width : _) (signed : Bool) (rd offset : ℕ) (o : Option (Result ℕ Refusal)) → ActFits (length F) (loaded S r address width signed rd offset o)
  load_fits address width signed rd offset None = trap_fits 5 address
  load_fits address width signed rd offset (Some (Err e)) = tt
  load_fits address width signed rd offset (Some (Ok v)) = fit_given (length F) r rd _ f

  load_found : (address : ℕ) (width : _) (signed : Bool) (rd : ℕ) (w : Walked) → ActFits (length F) (load_at S F r address width signed rd w)
  load_found address width signed rd (Found page offset) = load_fits address width signed rd offset (get S F page (offset / 4) Read)
  load_found address width signed rd (TrapWith cause tval) = trap_fits cause tval
  load_found address width signed rd (RefusedBy e) = tt

  store_fits : (address : ℕ) (o : Option (Result (List ℕ) Refusal)) → ActFits (length F) (stored S r address o)
  store_fits address None = trap_fits 7 address
  store_fits address (Some (Err e)) = tt
  store_fits address (Some (Ok T)) = fit_advanced (length F) r f

  store_found : (address : ℕ) (width : _) (v : ℕ) (w : Walked) → ActFits (length F) (store_at S F r address width v w)
  store_found address width v (Found page offset) = store_fits address (set S F page (offset / 4) (lane_at width offset) v)
  store_found address width v (TrapWith cause tval) = trap_fits cause tval
  store_found address width v (RefusedBy e) = tt

  entered_fits : (value page : ℕ) (o : Option Slot) → slice_get F page ≡ o → ActFits (length F) (entered S r value page (cleared_at S o))
  entered_fits value page None is = trap_fits 7 value
  entered_fits value page (Some s) is = through s.write
    where
      page_inside : page < length F
      page_inside = slice_get_within F page s is

      through : (way : Way) → ActFits (length F) (entered S r value page (Some (clear_through S way)))
      through (Open g) = fit_advanced (length F) (record r { next = page }) record { kept = kept_next r page f.kept; next = page_inside }
      through (Shut l c p w) = tt

  enter_fits : (value : ℕ) → ActFits (length F) (enter_at S F r value)
  enter_fits value = whole (value % 4096 == 0)
    where
      some : (t : Bool) → ActFits (length F) (cond t (trapped S r 7 value) (entered S r value (value / 4096) (cleared S F (value / 4096))))
      some true = trap_fits 7 value
      some false = entered_fits value (value / 4096) (slice_get F (value / 4096)) refl

      whole : (t : Bool) → ActFits (length F) (cond t (enter_page S F r value (value / 4096)) (trapped S r 6 value))
      whole true = some (value / 4096 == 0)
      whole false = trap_fits 6 value

  carried_fits : (a : Answer) → AnswerFits (length F) a → ActFits (length F) (carried_out S F r a)
  unfolding carried_out
  carried_fits (Next q) g = g
  carried_fits (Trap cause tval) g = trap_fits cause tval
  carried_fits (Load address width signed rd) g = load_found address width signed rd (walk_of S F r address Read)
  carried_fits (Store address width v) g = store_found address width v (walk_of S F r address Write)
  carried_fits (Enter value) g = enter_fits value

  do_fits : (i : Instr) (w : ℕ) → AnswerFits (length F) (do_of i w r hart)
  unfolding do_of
  do_fits i w = fits_row (length F) r f i.op i w hart

  decoded_fits : (w : ℕ) (o : Option Instr) → ActFits (length F) (decoded S F hart r w o)
  unfolding decoded
  decoded_fits w None = trap_fits 2 w
  decoded_fits w (Some i) = carried_fits (do_of i w r hart) (do_fits i w)

  fetched_fits : (o : Option (Result ℕ Refusal)) → ActFits (length F) (fetched S F hart r o)
  fetched_fits None = trap_fits 1 r.pc
  fetched_fits (Some (Err e)) = tt
  fetched_fits (Some (Ok w)) = decoded_fits w (decode_of w)

  fetch_fits : (w : Walked) → ActFits (length F) (fetch_at S F hart r w)
  unfolding fetch_at
  fetch_fits (Found page offset) = fetched_fits (get S F page (offset / 4) Fetch)
  fetch_fits (TrapWith cause tval) = trap_fits cause tval
  fetch_fits (RefusedBy e) = tt

  act_fits : ActFits (length F) (act_of S F hart r)
  unfolding act_of
  act_fits = fetch_fits (walk_of S F r r.pc Fetch)

-- one step
abbrev pub StepFits : ℕ → Stepped → Type 0
StepFits n (Worked S q) = Fit n q
StepFits n (Recalled l S q) = Fit n q
StepFits n (Faulted l c address a S q) = Fit n q
StepFits n (Barred e) = Unit {0}

module _ (n : ℕ) (r : Regs) (f : Fit n r) where
  idle_fits : Fit n (idle r)
  idle_fits = record { kept = kept_next r 0 f.kept; next = (let h : r.next < n = f.next in omega (arith, h)) }

  worked_fits : (A : Acted) → ActFits n A → StepFits n (act_step A)
  worked_fits (Done S q) g = g
  worked_fits (Refused e) g = tt

  interrupted_fits : (S : List ℕ) (j p : ℕ) → StepFits n (interrupt_of S j r p)
  interrupted_fits S j p = by (r.next == 0)
    where
      by : (t : Bool) → StepFits n (cond t (Worked S (take_trap_of r p true 0)) (Recalled j S (idle r)))
      by true = fit_trap n r p true 0 f
      by false = idle_fits

  told_fits : (S : List ℕ) (j g : ℕ) (e : Refusal) → StepFits n (tell_of S j r g e)
  told_fits S j g e = by (e.level == j)
    where
      by : (t : Bool) → StepFits n (cond t (Faulted j e.cause e.address e.access (with_fault S g e.cause e.address (access_word e.access)) (idle r)) (Barred e))
      by true = idle_fits
      by false = tt

  back_fits : (S : List ℕ) (j g : ℕ) (X : Stepped) → StepFits n (put_back S j r g X)
  back_fits S j g (Worked T q) = f
  back_fits S j g (Recalled l T q) = f
  back_fits S j g (Faulted l c p a T q) = f
  back_fits S j g (Barred e) = told_fits S j g e

  module _ (deeper : Machine) (S : List ℕ) (F : List Slot) (j : ℕ) where
    child_fits : (g : ℕ) (o : Option Contents) → StepFits n (child_step deeper S F j r g o)
    child_fits g None = told_fits S j g (malformed j r.next)
    child_fits g (Some contents) = back_fits S j g (deeper S (compose S F j contents.pages contents.table contents.version) (j + 1) 0 contents.regs)

    through_fits : (way : Way) → StepFits n (child_step_through deeper S F j r way)
    through_fits (Open g) = child_fits g (block_of S g)
    through_fits (Shut l c p w) = tt

    at_fits : (o : Option Slot) → StepFits n (child_step_at deeper S F j r o)
    at_fits None = tt
    at_fits (Some slot) = through_fits slot.write

on_fits : (m : Option Machine) (S : List ℕ) (F : List Slot) (j hart : ℕ) (r : Regs) → Fit (length F) r → (p : Option ℕ) → StepFits (length F) (step_on m S F j hart r p)
on_fits m S F j hart r f (Some p) = interrupted_fits (length F) r f S j p
on_fits m S F j hart r f None = by (r.next == 0)
  where
    deeper : (o : Option Machine) → StepFits (length F) (next_step o S F j r)
    deeper None = tt
    deeper (Some d) = at_fits (length F) r f d S F j (slice_get F r.next)

    by : (t : Bool) → StepFits (length F) (cond t (act_step (act_of S F hart r)) (next_step m S F j r))
    by true = worked_fits (length F) r f (act_of S F hart r) (act_fits S F hart r f)
    by false = deeper m

step_fits : (k : ℕ) (S : List ℕ) (F : List Slot) (j hart : ℕ) (r : Regs) → Fit (length F) r → StepFits (length F) (step_of k S F j hart r)
unfolding step_of
step_fits zero S F j hart r f = on_fits None S F j hart r f (pending_of r)
step_fits (suc k) S F j hart r f = on_fits (Some (step_of k)) S F j hart r f (pending_of r)

-- the registers of the bare machine's hart after its step
pub host_fits : (S : List ℕ) (hart : ℕ) (r : Regs) → Fit (page_count S) r → StepFits (page_count S) (host_step_of S hart r)
unfolding host_step_of
host_fits S hart r f =
    subst (λ (n : ℕ). StepFits n (step_of depth_limit S (identity (page_count S)) 0 hart r)) (length-identity (page_count S))
    (step_fits depth_limit S (identity (page_count S)) 0 hart r (subst (λ (n : ℕ). Fit n r) (sym (length-identity (page_count S))) f))
