-- How few words one instruction changes: of the registers, and of the storage.
use Rattle.std.proofs.Common.{◌≡◌, ◌≢◌, ℕ, zero, suc, ◌+◌, ◌*◌, ◌<◌, ◌≤◌, Bool, true, false, cond, List, [], ◌∷◌, length, drop, set, get_or, Option, Some, None, Result, Ok, Err, refl, ap, ◌∙◌, sym, arith, slice_get, get_or-set_other}
use Rattle.std.specs.Prelude.{◌==◌, ◌||◌, ◌&&◌, nat_lt, not}
use Rattle.std.proofs.lemmas.Bool.{eq-eqb, eqb-true, eqb-false, ne_eqb}
use Rattle.hv_word.specs.Storage.{word_at}
use Rattle.hv_cpu.specs.Regs.{Regs, reg, with_reg, spelled}
use Rattle.std.specs.Prelude.{◌/◌, ◌%◌, bit_and, bit_or, bit_xor}
use Rattle.std.proofs.Common.{lit≤}
use Rattle.hv_word.specs.Words.{field_of, lane_of, lane_with, has}
use Rattle.hv_isa.specs.declared.Instr.{Instr}
use Rattle.hv_isa.specs.declared.Op.{Op}
use Rattle.hv_isa.specs.declared.Op.TheVariants.{Lui, Auipc, Jal, Jalr, Beq, Bne, Blt, Bge, Bltu, Bgeu, Lb, Lh, Lw, Lbu, Lhu, Sb, Sh, Sw, Addi, Slti, Sltiu, Xori, Ori, Andi, Slli, Srli, Srai, Add, Sub, Sll, Slt, Sltu, Xor, Srl, Sra, Or, And, Fence, FenceI, Ecall, Ebreak, Csrrw, Csrrs, Csrrc, Csrrwi, Csrrsi, Csrrci, Sret, Mret, Wfi, SfenceVma, Vmenter}
use Rattle.hv_isa.specs.Table.{decode_of}
use Rattle.hv_cpu.specs.Masks.{medeleg_mask, mideleg_mask, interrupt_mask, satp_mask}
use Rattle.hv_csr.specs.declared.csr.Csr.{Csr}
use Rattle.hv_csr.specs.declared.csr.Csr.TheVariants.{Sstatus, Sie, Stvec, Scounteren, Sscratch, Sepc, Scause, Stval, Sip, Satp, Mstatus, Misa, Medeleg, Mideleg, Mie, Mtvec, Mcounteren, Mstatush, Mscratch, Mepc, Mcause, Mtval, Mip, Mvendorid, Marchid, Mimpid, Mhartid}
use Rattle.hv_csr.specs.Table.{row_of, csr_of, sstatus_mask, ssi, merge, vector, on_word, status_of}
use Rattle.hv_csr.specs.Access.{is_barred, is_read_only, write_at, csr_read_of, csr_write_of}
use Rattle.hv_csr.specs.Traps.{goes_down, cause_word, handler_of, entered_m, entered_s, take_trap_of, left_m, left_s, unprivileged, mret_of, may_sret, sret_of}
use Rattle.std.proofs.lemmas.Option.{same_Some}
use Rattle.hv_store.specs.declared.access.Access.{Access}
use Rattle.hv_store.specs.declared.access.Access.TheVariants.{Read, Write, Fetch}
use Rattle.hv_store.specs.declared.access.Refusal.{Refusal}
use Rattle.hv_store.specs.declared.access.Slot.{Slot}
use Rattle.hv_store.specs.declared.access.Way.{Way}
use Rattle.hv_store.specs.declared.access.Way.TheVariants.{Open, Shut}
use Rattle.hv_store.specs.Access.{get, write_through, put_at, clear_through, cleared_at, cleared}
use Rattle.hv_sv32.specs.Stop.{Walked, Found, TrapWith, RefusedBy}
use Rattle.hv_sv32.specs.Entry.{is_faulty, is_leaf, is_plain, page_of, grants}
use Rattle.hv_sv32.specs.Walk.{barred, outside, located, at_second, from_second, through_second, large_page, at_first, from_first, through_first, is_bare, walk_of}
use Rattle.hv_exec.specs.declared.answer.Width.{Width}
use Rattle.hv_exec.specs.declared.answer.Width.TheVariants.{Byte, Half, Word}
use Rattle.hv_exec.specs.declared.system.Update.{Update}
use Rattle.hv_exec.specs.declared.system.Update.TheVariants.{Replace, Set, Clear}
use Rattle.hv_exec.specs.Arithmetic.{sum_of, difference_of, is_less_signed, flag_of, shift_left, shift_right, shift_right_signed, even_of}
use Rattle.hv_exec.specs.Answer.{Answer, Next, Trap, Load, Store, Enter, advanced, given, passed, at_target, jumped, branched}
use Rattle.hv_exec.specs.Memory.{width_bytes, loading, storing, lane_at, extended}
use Rattle.hv_exec.specs.System.{new_value, stored_csr, answered_csr, read_csr, csr_row, returned, may_wait, may_fence, entering}
use Rattle.hv_exec.specs.Do.{gives, row_answer, do_of}
use Rattle.hv_exec.specs.Act.{Done, trapped, loaded, load_at, stored, store_at, entered, enter_page, enter_at, carried_out, decoded, fetched, fetch_at, act_of}
use Rattle.hv_exec.specs.Changes.{differing, changed_regs, leads_to, opens_for_writing, ChangesFew}

flag : ℕ → ℕ → ℕ
flag x y = cond (x == y) 0 1

flag_most : (x y : ℕ) → flag x y ≤ 1
unfolding flag
flag_most x y = by (x == y)
  where
    by : (t : Bool) → cond t 0 1 ≤ 1
    by true = omega arith
    by false = omega arith

pub differing_same : (xs : List ℕ) → differing xs xs ≡ 0
unfolding differing
differing_same [] = refl
differing_same (x ∷ xs) = ap (λ (t : Bool). cond t 0 1 + differing xs xs) (eq-eqb x x refl) ∙ (let e : 0 + differing xs xs ≡ 0 = omega (arith, differing_same xs) in e)

-- one word that is set makes at most one more
pub differing_set : (xs ys : List ℕ) (i v : ℕ) → differing xs (set ys i v) ≤ suc (differing xs ys)
unfolding differing flag
differing_set [] ys i v = omega arith
differing_set (x ∷ xs) [] i v = omega arith
differing_set (x ∷ xs) (y ∷ ys) zero v = omega (arith, flag_most x v)
differing_set (x ∷ xs) (y ∷ ys) (suc i) v = omega (arith, differing_set xs ys i v)

-- some words set, each by its index
unfoldable pub set_all : List ℕ → List (ℕ × ℕ) → List ℕ
set_all ys [] = ys
set_all ys (p ∷ ps) = set_all (set ys p.0 p.1) ps

differing_all : (xs ys : List ℕ) (ps : List (ℕ × ℕ)) → differing xs (set_all ys ps) ≤ length ps + differing xs ys
unfolding set_all
differing_all xs ys [] = omega arith
differing_all xs ys (p ∷ ps) = omega (arith, differing_all xs (set ys p.0 p.1) ps, differing_set xs ys p.0 p.1)

-- the first n words of a row, where the one with the number i is v and the first has the number k
unfoldable pub with_some : ℕ → List ℕ → ℕ → ℕ → ℕ → List ℕ
with_some zero ys k i v = ys
with_some (suc n) [] k i v = []
with_some (suc n) (y ∷ ys) k i v = cond (i == k) v y ∷ with_some n ys (suc k) i v

some_none : (n : ℕ) (ys : List ℕ) (k i v : ℕ) → i < k → with_some n ys k i v ≡ ys
unfolding with_some
some_none zero ys k i v h = refl
some_none (suc n) [] k i v h = refl
some_none (suc n) (y ∷ ys) k i v h =
    let ne : i ≢ k = omega arith in
    let later : i < suc k = omega arith in
    ap (λ (t : Bool). cond t v y ∷ with_some n ys (suc k) i v) (ne_eqb i k ne) ∙ ap (λ (zs : List ℕ). y ∷ zs) (some_none n ys (suc k) i v later)

differing_some : (n : ℕ) (xs ys : List ℕ) (k i v : ℕ) → differing xs (with_some n ys k i v) ≤ suc (differing xs ys)
unfolding with_some differing flag
differing_some zero xs ys k i v = omega arith
differing_some (suc n) [] [] k i v = omega arith
differing_some (suc n) [] (y ∷ ys) k i v = omega arith
differing_some (suc n) (x ∷ xs) [] k i v = omega arith
differing_some (suc n) (x ∷ xs) (y ∷ ys) k i v = by (differing_some n xs ys (suc k) i v) (i == k) refl
  where
    by : differing xs (with_some n ys (suc k) i v) ≤ suc (differing xs ys) → (t : Bool) → (i == k) ≡ t → flag x (cond t v y) + differing xs (with_some n ys (suc k) i v) ≤ suc (flag x y + differing xs ys)
    by rest true e =
        let past : i < suc k = omega (arith, eqb-true i k e) in
        let same : differing xs (with_some n ys (suc k) i v) ≡ differing xs ys = ap (differing xs) (some_none n ys (suc k) i v past) in
        omega (arith, flag_most x v)
    by rest false e = omega arith

-- the registers of r and q differ in at most n words
Few : ℕ → Regs → Regs → Type 0
Few n r q = changed_regs r q ≤ n

few_same : (r : Regs) → Few 0 r r
unfolding Few changed_regs
few_same r = omega (arith, differing_same (spelled r))

few_more : (n m : ℕ) (r q : Regs) → n ≤ m → Few n r q → Few m r q
unfolding Few
few_more n m r q h f = omega arith

few_all : (n : ℕ) (r q p : Regs) (ps : List (ℕ × ℕ)) → spelled p ≡ set_all (spelled q) ps → Few n r q → Few (length ps + n) r p
unfolding Few changed_regs
few_all n r q p ps e f =
    let d : differing (spelled r) (spelled p) ≡ differing (spelled r) (set_all (spelled q) ps) = ap (differing (spelled r)) e in
    omega (arith, differing_all (spelled r) (spelled q) ps)

more_behind : (h d e n : ℕ) → e ≤ suc d → h + d ≤ n → h + e ≤ suc n
more_behind h d e n p q = omega arith

few_reg : (n : ℕ) (r q : Regs) (i v : ℕ) → Few n r q → Few (suc n) r (with_reg q i v)
unfolding Few changed_regs differing flag with_some
few_reg n r q i v f =
    more_behind
    (flag r.pc q.pc)
    (differing (drop 1 (spelled r)) (drop 1 (spelled q)))
    (differing (drop 1 (spelled r)) (drop 1 (spelled (with_reg q i v))))
    n
    (differing_some 31 (drop 1 (spelled r)) (drop 1 (spelled q)) 1 i v)
    f

few_advanced : (n : ℕ) (r q : Regs) → Few n r q → Few (1 + n) r (advanced q)
unfolding advanced set_all
few_advanced n r q f = few_all n r q (advanced q) ((0, sum_of q.pc 4) ∷ []) refl f

few_given : (n : ℕ) (r q : Regs) (rd v : ℕ) → Few n r q → Few (1 + suc n) r (given q rd v)
unfolding given
few_given n r q rd v f = few_advanced (suc n) r (with_reg q rd v) (few_reg n r q rd v f)

few_pc : (n : ℕ) (r q : Regs) (v : ℕ) → Few n r q → Few (1 + n) r (record q { pc = v })
unfolding set_all
few_pc n r q v f = few_all n r q (record q { pc = v }) ((0, v) ∷ []) refl f

-- the registers after a trap to S
abbrev pub trap_down : Regs → ℕ → Bool → ℕ → Regs
trap_down r cause interrupt tval = record r {
  pc = handler_of r.stvec cause interrupt;
  mode = 1;
  mstatus = entered_s r.mstatus r.mode;
  sepc = r.pc;
  scause = cause_word cause interrupt;
  stval = tval;
}

-- the registers after a trap to M
abbrev pub trap_up : Regs → ℕ → Bool → ℕ → Regs
trap_up r cause interrupt tval = record r {
  pc = handler_of r.mtvec cause interrupt;
  mode = 3;
  mstatus = entered_m r.mstatus r.mode;
  mepc = r.pc;
  mcause = cause_word cause interrupt;
  mtval = tval;
}

few_trap : (r : Regs) (cause : ℕ) (interrupt : Bool) (tval : ℕ) → Few 6 r (take_trap_of r cause interrupt tval)
unfolding set_all
few_trap r cause interrupt tval = by (goes_down r cause interrupt)
  where
    by : (t : Bool) → Few 6 r (cond t (trap_down r cause interrupt tval) (trap_up r cause interrupt tval))
    by true = few_all 0 r r (trap_down r cause interrupt tval) ((0, handler_of r.stvec cause interrupt) ∷ (32, 1) ∷ (33, entered_s r.mstatus r.mode) ∷ (44, r.pc) ∷ (45, cause_word cause interrupt) ∷ (46, tval) ∷ []) refl (few_same r)
    by false = few_all 0 r r (trap_up r cause interrupt tval) ((0, handler_of r.mtvec cause interrupt) ∷ (32, 3) ∷ (33, entered_m r.mstatus r.mode) ∷ (35, r.pc) ∷ (36, cause_word cause interrupt) ∷ (37, tval) ∷ []) refl (few_same r)

-- a trap
pub trap_few : (r : Regs) (cause : ℕ) (interrupt : Bool) (tval : ℕ) → changed_regs r (take_trap_of r cause interrupt tval) ≤ 6
unfolding Few
trap_few r cause interrupt tval = few_trap r cause interrupt tval

-- no machine is to run any more
pub few_idle : (r : Regs) → changed_regs r (record r { next = 0 }) ≤ 1
unfolding set_all Few
few_idle r = few_all 0 r r (record r { next = 0 }) ((49, 0) ∷ []) refl (few_same r)

-- a write of a control register changes one word at most
few_row : (r : Regs) (v : ℕ) (c : Csr) → Few 1 r ((row_of c).write r v)
unfolding set_all
few_row r v Sstatus = few_all 0 r r ((row_of Sstatus).write r v) ((33, merge r.mstatus sstatus_mask v) ∷ []) refl (few_same r)
few_row r v Sie = few_all 0 r r ((row_of Sie).write r v) ((41, merge r.mie r.mideleg v) ∷ []) refl (few_same r)
few_row r v Stvec = few_all 0 r r ((row_of Stvec).write r v) ((43, vector v) ∷ []) refl (few_same r)
few_row r v Scounteren = few_more 0 1 r r (lit≤ tt) (few_same r)
few_row r v Sscratch = few_all 0 r r ((row_of Sscratch).write r v) ((47, v) ∷ []) refl (few_same r)
few_row r v Sepc = few_all 0 r r ((row_of Sepc).write r v) ((44, on_word v) ∷ []) refl (few_same r)
few_row r v Scause = few_all 0 r r ((row_of Scause).write r v) ((45, v) ∷ []) refl (few_same r)
few_row r v Stval = few_all 0 r r ((row_of Stval).write r v) ((46, v) ∷ []) refl (few_same r)
few_row r v Sip = few_all 0 r r ((row_of Sip).write r v) ((42, merge r.mip (bit_and r.mideleg ssi) v) ∷ []) refl (few_same r)
few_row r v Satp = few_all 0 r r ((row_of Satp).write r v) ((48, bit_and v satp_mask) ∷ []) refl (few_same r)
few_row r v Mstatus = few_all 0 r r ((row_of Mstatus).write r v) ((33, status_of r.mstatus v) ∷ []) refl (few_same r)
few_row r v Misa = few_more 0 1 r r (lit≤ tt) (few_same r)
few_row r v Medeleg = few_all 0 r r ((row_of Medeleg).write r v) ((39, bit_and v medeleg_mask) ∷ []) refl (few_same r)
few_row r v Mideleg = few_all 0 r r ((row_of Mideleg).write r v) ((40, bit_and v mideleg_mask) ∷ []) refl (few_same r)
few_row r v Mie = few_all 0 r r ((row_of Mie).write r v) ((41, bit_and v interrupt_mask) ∷ []) refl (few_same r)
few_row r v Mtvec = few_all 0 r r ((row_of Mtvec).write r v) ((34, vector v) ∷ []) refl (few_same r)
few_row r v Mcounteren = few_more 0 1 r r (lit≤ tt) (few_same r)
few_row r v Mstatush = few_more 0 1 r r (lit≤ tt) (few_same r)
few_row r v Mscratch = few_all 0 r r ((row_of Mscratch).write r v) ((38, v) ∷ []) refl (few_same r)
few_row r v Mepc = few_all 0 r r ((row_of Mepc).write r v) ((35, on_word v) ∷ []) refl (few_same r)
few_row r v Mcause = few_all 0 r r ((row_of Mcause).write r v) ((36, v) ∷ []) refl (few_same r)
few_row r v Mtval = few_all 0 r r ((row_of Mtval).write r v) ((37, v) ∷ []) refl (few_same r)
few_row r v Mip = few_all 0 r r ((row_of Mip).write r v) ((42, merge r.mip mideleg_mask v) ∷ []) refl (few_same r)
few_row r v Mvendorid = few_more 0 1 r r (lit≤ tt) (few_same r)
few_row r v Marchid = few_more 0 1 r r (lit≤ tt) (few_same r)
few_row r v Mimpid = few_more 0 1 r r (lit≤ tt) (few_same r)
few_row r v Mhartid = few_more 0 1 r r (lit≤ tt) (few_same r)

FewIf : ℕ → Regs → Option Regs → Type 0
FewIf n r None = Unit {0}
FewIf n r (Some q) = Few n r q

few_csr : (r : Regs) (number v : ℕ) → FewIf 1 r (csr_write_of r number v)
unfolding FewIf
few_csr r number v = by (is_barred r number || is_read_only number)
  where
    at : (o : Option Csr) → FewIf 1 r (write_at r v o)
    at None = tt
    at (Some c) = few_row r v c

    by : (t : Bool) → FewIf 1 r (cond t None (write_at r v (csr_of number)))
    by true = tt
    by false = at (csr_of number)

-- the registers after MRET
abbrev pub by_mret : Regs → Regs
by_mret r = record r {
  pc = r.mepc;
  mode = field_of r.mstatus 11 2;
  mstatus = unprivileged (left_m r.mstatus) (field_of r.mstatus 11 2);
}

few_mret : (r : Regs) → FewIf 3 r (mret_of r)
unfolding FewIf set_all
few_mret r = by (r.mode == 3)
  where
    by : (t : Bool) → FewIf 3 r (cond t (Some (by_mret r)) None)
    by true = few_all 0 r r (by_mret r) ((0, r.mepc) ∷ (32, field_of r.mstatus 11 2) ∷ (33, unprivileged (left_m r.mstatus) (field_of r.mstatus 11 2)) ∷ []) refl (few_same r)
    by false = tt

-- the registers after SRET
abbrev pub by_sret : Regs → Regs
by_sret r = record r {
  pc = r.sepc;
  mode = field_of r.mstatus 8 1;
  mstatus = unprivileged (left_s r.mstatus) (field_of r.mstatus 8 1);
}

few_sret : (r : Regs) → FewIf 3 r (sret_of r)
unfolding FewIf set_all
few_sret r = by (may_sret r)
  where
    by : (t : Bool) → FewIf 3 r (cond t (Some (by_sret r)) None)
    by true = few_all 0 r r (by_sret r) ((0, r.sepc) ∷ (32, field_of r.mstatus 8 1) ∷ (33, unprivileged (left_s r.mstatus) (field_of r.mstatus 8 1)) ∷ []) refl (few_same r)
    by false = tt

-- an instruction's own work changes three words at most
FewNext : Regs → Answer → Type 0
FewNext r (Next q) = Few 3 r q
FewNext r (Trap cause tval) = Unit {0}
FewNext r (Load address width signed rd) = Unit {0}
FewNext r (Store address width v) = Unit {0}
FewNext r (Enter v) = Unit {0}

few_gives : (i : Instr) (r : Regs) (v : ℕ) → FewNext r (gives i r v)
unfolding FewNext
few_gives i r v = few_more 2 3 r (given r i.rd v) (lit≤ tt) (few_given 0 r r i.rd v (few_same r))

few_target : (n : ℕ) (r q : Regs) (target : ℕ) → n ≤ 2 → Few n r q → FewNext r (at_target q target)
unfolding FewNext
few_target n r q target h f = by (target % 4 == 0)
  where
    by : (t : Bool) → FewNext r (cond t (Next (record q { pc = target })) (Trap 0 target))
    by true = few_more (1 + n) 3 r (record q { pc = target }) (omega arith) (few_pc n r q target f)
    by false = tt

few_jumped : (r : Regs) (rd target : ℕ) → FewNext r (jumped r rd target)
unfolding jumped
few_jumped r rd target = few_target 1 r (with_reg r rd (sum_of r.pc 4)) target (lit≤ tt) (few_reg 0 r r rd (sum_of r.pc 4) (few_same r))

few_next : (r : Regs) → FewNext r (Next (advanced r))
unfolding FewNext
few_next r = few_more 1 3 r (advanced r) (lit≤ tt) (few_advanced 0 r r (few_same r))

few_branched : (r : Regs) (taken : Bool) (target : ℕ) → FewNext r (branched r taken target)
unfolding branched
few_branched r true target = few_target 0 r r target (lit≤ tt) (few_same r)
few_branched r false target = few_next r

few_passed : (allowed : Bool) (w : ℕ) (r : Regs) → FewNext r (passed allowed w r)
unfolding FewNext
few_passed true w r = few_next r
few_passed false w r = tt

few_loading : (r : Regs) (address : ℕ) (width : Width) (signed : Bool) (rd : ℕ) → FewNext r (loading address width signed rd)
unfolding FewNext loading
few_loading r address width signed rd = by (address % width_bytes width == 0)
  where
    by : (t : Bool) → FewNext r (cond t (Load address width signed rd) (Trap 4 address))
    by true = tt
    by false = tt

few_storing : (r : Regs) (address : ℕ) (width : Width) (v : ℕ) → FewNext r (storing address width v)
unfolding FewNext storing
few_storing r address width v = by (address % width_bytes width == 0)
  where
    by : (t : Bool) → FewNext r (cond t (Store address width v) (Trap 6 address))
    by true = tt
    by false = tt

few_entering : (r : Regs) (v w : ℕ) → FewNext r (entering r v w)
unfolding FewNext entering
few_entering r v w = by (r.mode == 3)
  where
    by : (t : Bool) → FewNext r (cond t (Enter v) (Trap 2 w))
    by true = tt
    by false = tt

few_returned : (r : Regs) (o : Option Regs) (w : ℕ) → FewIf 3 r o → FewNext r (returned o w)
unfolding FewNext FewIf returned
few_returned r None w f = tt
few_returned r (Some q) w f = f

few_csr_row : (update : Update) (source : ℕ) (i : Instr) (w : ℕ) (r : Regs) (h : ℕ) → FewNext r (csr_row update source i w r h)
unfolding FewNext FewIf csr_row
few_csr_row update source i w r h = read (csr_read_of r h i.imm)
  where
    answered : (old : ℕ) (o : Option Regs) → FewIf 1 r o → FewNext r (answered_csr o i.rd old w)
    answered old None f = tt
    answered old (Some q) f = few_given 1 r q i.rd old f

    written : (o : Option ℕ) → FewIf 1 r (stored_csr r i.imm o)
    written None = few_more 0 1 r r (lit≤ tt) (few_same r)
    written (Some v) = few_csr r i.imm v

    read : (o : Option ℕ) → FewNext r (read_csr o update source i w r)
    read None = tt
    read (Some old) = answered old (stored_csr r i.imm (new_value update i.rs1 old source)) (written (new_value update i.rs1 old source))

few_answer : (op : Op) (i : Instr) (w : ℕ) (r : Regs) (h : ℕ) → FewNext r (row_answer op i w r h)
unfolding FewNext
few_answer Lui i w r h = few_gives i r i.imm
few_answer Auipc i w r h = few_gives i r (sum_of r.pc i.imm)
few_answer Jal i w r h = few_jumped r i.rd (sum_of r.pc i.imm)
few_answer Jalr i w r h = few_jumped r i.rd (even_of (sum_of (reg r i.rs1) i.imm))
few_answer Beq i w r h = few_branched r (reg r i.rs1 == reg r i.rs2) (sum_of r.pc i.imm)
few_answer Bne i w r h = few_branched r (not (reg r i.rs1 == reg r i.rs2)) (sum_of r.pc i.imm)
few_answer Blt i w r h = few_branched r (is_less_signed (reg r i.rs1) (reg r i.rs2)) (sum_of r.pc i.imm)
few_answer Bge i w r h = few_branched r (not (is_less_signed (reg r i.rs1) (reg r i.rs2))) (sum_of r.pc i.imm)
few_answer Bltu i w r h = few_branched r (nat_lt (reg r i.rs1) (reg r i.rs2)) (sum_of r.pc i.imm)
few_answer Bgeu i w r h = few_branched r (not (nat_lt (reg r i.rs1) (reg r i.rs2))) (sum_of r.pc i.imm)
few_answer Lb i w r h = few_loading r (sum_of (reg r i.rs1) i.imm) Byte true i.rd
few_answer Lh i w r h = few_loading r (sum_of (reg r i.rs1) i.imm) Half true i.rd
few_answer Lw i w r h = few_loading r (sum_of (reg r i.rs1) i.imm) Word true i.rd
few_answer Lbu i w r h = few_loading r (sum_of (reg r i.rs1) i.imm) Byte false i.rd
few_answer Lhu i w r h = few_loading r (sum_of (reg r i.rs1) i.imm) Half false i.rd
few_answer Sb i w r h = few_storing r (sum_of (reg r i.rs1) i.imm) Byte (reg r i.rs2)
few_answer Sh i w r h = few_storing r (sum_of (reg r i.rs1) i.imm) Half (reg r i.rs2)
few_answer Sw i w r h = few_storing r (sum_of (reg r i.rs1) i.imm) Word (reg r i.rs2)
few_answer Addi i w r h = few_gives i r (sum_of (reg r i.rs1) i.imm)
few_answer Slti i w r h = few_gives i r (flag_of (is_less_signed (reg r i.rs1) i.imm))
few_answer Sltiu i w r h = few_gives i r (flag_of (nat_lt (reg r i.rs1) i.imm))
few_answer Xori i w r h = few_gives i r (bit_xor (reg r i.rs1) i.imm)
few_answer Ori i w r h = few_gives i r (bit_or (reg r i.rs1) i.imm)
few_answer Andi i w r h = few_gives i r (bit_and (reg r i.rs1) i.imm)
few_answer Slli i w r h = few_gives i r (shift_left (reg r i.rs1) i.imm)
few_answer Srli i w r h = few_gives i r (shift_right (reg r i.rs1) i.imm)
few_answer Srai i w r h = few_gives i r (shift_right_signed (reg r i.rs1) i.imm)
few_answer Add i w r h = few_gives i r (sum_of (reg r i.rs1) (reg r i.rs2))
few_answer Sub i w r h = few_gives i r (difference_of (reg r i.rs1) (reg r i.rs2))
few_answer Sll i w r h = few_gives i r (shift_left (reg r i.rs1) (reg r i.rs2))
few_answer Slt i w r h = few_gives i r (flag_of (is_less_signed (reg r i.rs1) (reg r i.rs2)))
few_answer Sltu i w r h = few_gives i r (flag_of (nat_lt (reg r i.rs1) (reg r i.rs2)))
few_answer Xor i w r h = few_gives i r (bit_xor (reg r i.rs1) (reg r i.rs2))
few_answer Srl i w r h = few_gives i r (shift_right (reg r i.rs1) (reg r i.rs2))
few_answer Sra i w r h = few_gives i r (shift_right_signed (reg r i.rs1) (reg r i.rs2))
few_answer Or i w r h = few_gives i r (bit_or (reg r i.rs1) (reg r i.rs2))
few_answer And i w r h = few_gives i r (bit_and (reg r i.rs1) (reg r i.rs2))
few_answer Fence i w r h = few_next r
few_answer FenceI i w r h = few_next r
few_answer Ecall i w r h = tt
few_answer Ebreak i w r h = tt
few_answer Csrrw i w r h = few_csr_row Replace (reg r i.rs1) i w r h
few_answer Csrrs i w r h = few_csr_row Set (reg r i.rs1) i w r h
few_answer Csrrc i w r h = few_csr_row Clear (reg r i.rs1) i w r h
few_answer Csrrwi i w r h = few_csr_row Replace i.rs1 i w r h
few_answer Csrrsi i w r h = few_csr_row Set i.rs1 i w r h
few_answer Csrrci i w r h = few_csr_row Clear i.rs1 i w r h
few_answer Sret i w r h = few_returned r (sret_of r) w (few_sret r)
few_answer Mret i w r h = few_returned r (mret_of r) w (few_mret r)
few_answer Wfi i w r h = few_passed (may_wait r) w r
few_answer SfenceVma i w r h = few_passed (may_fence r) w r
few_answer Vmenter i w r h = few_entering r (reg r i.rs1) w

few_do : (i : Instr) (w : ℕ) (r : Regs) (h : ℕ) → FewNext r (do_of i w r h)
unfolding do_of
few_do i w r h = few_answer i.op i w r h

false-true : false ≡ true → ⊥
false-true e = cc

few_done : (S : List ℕ) (F : List Slot) (r q : Regs) (n : ℕ) → n ≤ 6 → Few n r q → ChangesFew S F r (Done S q)
unfolding Few
few_done S F r q n h f = ([], n, record { elsewhere = λ a _. refl; regs = f }, omega arith, λ a e. absurd (false-true e))

few_trapped : (S : List ℕ) (F : List Slot) (r : Regs) (cause tval : ℕ) → ChangesFew S F r (trapped S r cause tval)
few_trapped S F r cause tval = few_done S F r (take_trap_of r cause false tval) 6 (lit≤ tt) (few_trap r cause false tval)

few_load : (S : List ℕ) (F : List Slot) (r : Regs) (address : ℕ) (width : Width) (signed : Bool) (rd : ℕ) (walked : Walked) → ChangesFew S F r (load_at S F r address width signed rd walked)
few_load S F r address width signed rd (TrapWith cause tval) = few_trapped S F r cause tval
few_load S F r address width signed rd (RefusedBy e) = tt
few_load S F r address width signed rd (Found page offset) = by (get S F page (offset / 4) Read)
  where
    by : (o : Option (Result ℕ Refusal)) → ChangesFew S F r (loaded S r address width signed rd offset o)
    by None = few_trapped S F r 5 address
    by (Some (Err e)) = tt
    by (Some (Ok v)) = few_done S F r (given r rd (extended width signed (lane_of v (lane_at width offset)))) 2 (lit≤ tt) (few_given 0 r r rd (extended width signed (lane_of v (lane_at width offset))) (few_same r))

-- what a walk finds is inside a page
IsNear : Walked → Type 0
IsNear (Found page offset) = offset < 4096
IsNear (TrapWith cause tval) = Unit {0}
IsNear (RefusedBy e) = Unit {0}

placed_near : (F : List Slot) (page address : ℕ) (a : Access) → IsNear (located F page address a)
unfolding IsNear
placed_near F page address a = by (nat_lt page (length F))
  where
    by : (t : Bool) → IsNear (cond t (Found page (address % 4096)) (outside address a))
    by true = omega arith
    by false = tt

pick_near : (t : Bool) (v w : Walked) → IsNear v → IsNear w → IsNear (cond t v w)
pick_near true v w f g = f
pick_near false v w f g = g

walk_near : (S : List ℕ) (F : List Slot) (r : Regs) (address : ℕ) (a : Access) → IsNear (walk_of S F r address a)
unfolding IsNear
walk_near S F r address a = pick_near (is_bare r a) (located F (address / 4096) address a) (through_first S F r address a) (placed_near F (address / 4096) address a) (first (get S F (field_of r.satp 0 22) (field_of address 22 10) Read))
  where
    at : (e : ℕ) → IsNear (at_second F r address a e)
    at e =
        pick_near (is_faulty e) (barred address a) (cond (is_leaf e && grants r a e) (located F (page_of e) address a) (barred address a)) tt
        (pick_near (is_leaf e && grants r a e) (located F (page_of e) address a) (barred address a) (placed_near F (page_of e) address a) tt)

    second : (o : Option (Result ℕ Refusal)) → IsNear (from_second F r address a o)
    second None = tt
    second (Some (Err e)) = tt
    second (Some (Ok e)) = at e

    from : (e : ℕ) → IsNear (at_first S F r address a e)
    from e =
        pick_near (is_faulty e) (barred address a) (cond (is_leaf e) (cond ((field_of e 10 10 == 0) && grants r a e) (located F (large_page e address) address a) (barred address a)) (cond (is_plain e) (through_second S F r (page_of e) address a) (barred address a))) tt
        (pick_near (is_leaf e) (cond ((field_of e 10 10 == 0) && grants r a e) (located F (large_page e address) address a) (barred address a)) (cond (is_plain e) (through_second S F r (page_of e) address a) (barred address a))
        (pick_near ((field_of e 10 10 == 0) && grants r a e) (located F (large_page e address) address a) (barred address a) (placed_near F (large_page e address) address a) tt)
        (pick_near (is_plain e) (through_second S F r (page_of e) address a) (barred address a) (second (get S F (page_of e) (field_of address 12 10) Read)) tt))

    first : (o : Option (Result ℕ Refusal)) → IsNear (from_first S F r address a o)
    first None = tt
    first (Some (Err e)) = tt
    first (Some (Ok e)) = from e

-- a slot that leads to a page lets it be written
slot_leads : (F : List Slot) (i : ℕ) (slot : Slot) (g : ℕ) → slice_get F i ≡ Some slot → leads_to g slot.write ≡ true → opens_for_writing F g ≡ true
slot_leads [] i slot g e f = absurd (none-some e)
  where
    none-some : None ≡ Some slot → ⊥
    none-some p = cc
slot_leads (s ∷ F) zero slot g e f = ap (λ (t : Bool). t || opens_for_writing F g) (ap (λ (c : Slot). leads_to g c.write) (same_Some s slot e) ∙ f)
slot_leads (s ∷ F) (suc i) slot g e f = ap (λ (t : Bool). leads_to g s.write || t) (slot_leads F i slot g e f) ∙ or_true (leads_to g s.write)
  where
    or_true : (t : Bool) → (t || true) ≡ true
    or_true true = refl
    or_true false = refl

pub may_write : (F : List Slot) (i : ℕ) (slot : Slot) (g : ℕ) → slice_get F i ≡ Some slot → slot.write ≡ Open g → opens_for_writing F g ≡ true
may_write F i slot g e f = slot_leads F i slot g e (ap (leads_to g) f ∙ eq-eqb g g refl)

one_place : (p a : ℕ) → has a (p ∷ []) ≡ true → p ≡ a
one_place p a e = sym (eqb-true a p (left (a == p) e))
  where
    left : (t : Bool) → (t || false) ≡ true → t ≡ true
    left true z = z
    left false z = z

-- one word of the storage
one_else : (S : List ℕ) (p v a : ℕ) → has a (p ∷ []) ≡ false → get_or (set S p v) a 0 ≡ get_or S a 0
one_else S p v a e = get_or-set_other S p a v 0 (eqb-false a p (left (a == p) e))
  where
    left : (t : Bool) → (t || false) ≡ false → t ≡ false
    left true z = z
    left false z = refl

few_store : (S : List ℕ) (F : List Slot) (r : Regs) (address : ℕ) (width : Width) (v : ℕ) (walked : Walked) → IsNear walked → ChangesFew S F r (store_at S F r address width v walked)
unfolding Few IsNear
few_store S F r address width v (TrapWith cause tval) near = few_trapped S F r cause tval
few_store S F r address width v (RefusedBy e) near = tt
few_store S F r address width v (Found page offset) near = at (slice_get F page) refl
  where
    through : (slot : Slot) → slice_get F page ≡ Some slot → (way : Way) → slot.write ≡ way → ChangesFew S F r (stored S r address (Some (write_through S way (offset / 4) (lane_at width offset) v)))
    through slot e (Shut l c p w) f = tt
    through slot e (Open g) f =
        let k : ℕ = offset / 4 in
        let here : (1024 * g + k) / 1024 ≡ g = omega (arith, near) in
        ((1024 * g + k) ∷ [], 1, record { elsewhere = one_else S (1024 * g + k) (lane_with (word_at S g k) (lane_at width offset) v); regs = few_advanced 0 r r (few_same r) }, lit≤ tt, λ a h. ap (λ (b : ℕ). opens_for_writing F (b / 1024)) (sym (one_place (1024 * g + k) a h)) ∙ ap (opens_for_writing F) here ∙ may_write F page slot g e f)

    at : (o : Option Slot) → slice_get F page ≡ o → ChangesFew S F r (stored S r address (put_at S o (offset / 4) (lane_at width offset) v))
    at None e = few_trapped S F r 7 address
    at (Some slot) e = through slot e slot.write refl

-- three words of the storage
three_else : (S : List ℕ) (p q k a : ℕ) (x y z : ℕ) → has a (p ∷ q ∷ k ∷ []) ≡ false → get_or (set (set (set S p x) q y) k z) a 0 ≡ get_or S a 0
three_else S p q k a x y z e =
    let f = parts (a == p) (a == q) (a == k) e in
    get_or-set_other (set (set S p x) q y) k a z 0 (eqb-false a k f.2)
    ∙ get_or-set_other (set S p x) q a y 0 (eqb-false a q f.1)
    ∙ get_or-set_other S p a x 0 (eqb-false a p f.0)
  where
    no : true ≡ false → ⊥
    no w = cc

    parts : (s t u : Bool) → (s || (t || (u || false))) ≡ false → (s ≡ false) × (t ≡ false) × (u ≡ false)
    parts true t u w = absurd (no w)
    parts false true u w = absurd (no w)
    parts false false true w = absurd (no w)
    parts false false false w = (refl, refl, refl)

three_places : (g a : ℕ) → has a ((1024 * g + 72) ∷ (1024 * g + 73) ∷ (1024 * g + 74) ∷ []) ≡ true → a / 1024 ≡ g
three_places g a e = by (a == 1024 * g + 72) refl (a == 1024 * g + 73) refl (a == 1024 * g + 74) refl e
  where
    by : (s : Bool) → (a == 1024 * g + 72) ≡ s → (t : Bool) → (a == 1024 * g + 73) ≡ t → (u : Bool) → (a == 1024 * g + 74) ≡ u → (s || (t || (u || false))) ≡ true → a / 1024 ≡ g
    by true p t q u f h = let is : a ≡ 1024 * g + 72 = eqb-true a (1024 * g + 72) p in omega arith
    by false p true q u f h = let is : a ≡ 1024 * g + 73 = eqb-true a (1024 * g + 73) q in omega arith
    by false p false q true f h = let is : a ≡ 1024 * g + 74 = eqb-true a (1024 * g + 74) f in omega arith
    by false p false q false f h = absurd (false-true h)

few_next_page : (r : Regs) (p : ℕ) → Few 1 r (record r { next = p })
unfolding set_all
few_next_page r p = few_all 0 r r (record r { next = p }) ((49, p) ∷ []) refl (few_same r)

few_enter : (S : List ℕ) (F : List Slot) (r : Regs) (v : ℕ) → ChangesFew S F r (enter_at S F r v)
unfolding Few
few_enter S F r v = whole (v % 4096 == 0)
  where
    through : (slot : Slot) → slice_get F (v / 4096) ≡ Some slot → (way : Way) → slot.write ≡ way → ChangesFew S F r (entered S r v (v / 4096) (Some (clear_through S way)))
    through slot e (Shut l c p w) f = tt
    through slot e (Open g) f = (
      (1024 * g + 72) ∷ (1024 * g + 73) ∷ (1024 * g + 74) ∷ [],
      2,
      record {
        elsewhere = λ a. three_else S (1024 * g + 72) (1024 * g + 73) (1024 * g + 74) a 0 0 0;
        regs = few_advanced 1 r (record r { next = v / 4096 }) (few_next_page r (v / 4096));
      },
      lit≤ tt,
      λ a h. ap (opens_for_writing F) (three_places g a h) ∙ may_write F (v / 4096) slot g e f,
    )

    at : (o : Option Slot) → slice_get F (v / 4096) ≡ o → ChangesFew S F r (entered S r v (v / 4096) (cleared_at S o))
    at None e = few_trapped S F r 7 v
    at (Some slot) e = through slot e slot.write refl

    first : (t : Bool) → ChangesFew S F r (cond t (trapped S r 7 v) (entered S r v (v / 4096) (cleared S F (v / 4096))))
    first true = few_trapped S F r 7 v
    first false = at (slice_get F (v / 4096)) refl

    whole : (t : Bool) → ChangesFew S F r (cond t (enter_page S F r v (v / 4096)) (trapped S r 6 v))
    whole true = first (v / 4096 == 0)
    whole false = few_trapped S F r 6 v

few_carried : (S : List ℕ) (F : List Slot) (r : Regs) (answer : Answer) → FewNext r answer → ChangesFew S F r (carried_out S F r answer)
unfolding carried_out FewNext
few_carried S F r (Next q) f = few_done S F r q 3 (lit≤ tt) f
few_carried S F r (Trap cause tval) f = few_trapped S F r cause tval
few_carried S F r (Load address width signed rd) f = few_load S F r address width signed rd (walk_of S F r address Read)
few_carried S F r (Store address width v) f = few_store S F r address width v (walk_of S F r address Write) (walk_near S F r address Write)
few_carried S F r (Enter v) f = few_enter S F r v

-- one instruction
pub few_act : (S : List ℕ) (F : List Slot) (h : ℕ) (r : Regs) → ChangesFew S F r (act_of S F h r)
unfolding act_of fetch_at decoded
few_act S F h r = by (walk_of S F r r.pc Fetch)
  where
    instr : (w : ℕ) (o : Option Instr) → ChangesFew S F r (decoded S F h r w o)
    instr w None = few_trapped S F r 2 w
    instr w (Some i) = few_carried S F r (do_of i w r h) (few_do i w r h)

    word : (o : Option (Result ℕ Refusal)) → ChangesFew S F r (fetched S F h r o)
    word None = few_trapped S F r 1 r.pc
    word (Some (Err e)) = tt
    word (Some (Ok w)) = instr w (decode_of w)

    by : (walked : Walked) → ChangesFew S F r (fetch_at S F h r walked)
    by (Found page offset) = word (get S F page (offset / 4) Fetch)
    by (TrapWith cause tval) = few_trapped S F r cause tval
    by (RefusedBy e) = tt
