-- The four instructions of a monitor.
use Rattle.std.proofs.Common.{◌≡◌, ℕ, ◌*◌, ◌<◌, Bool, true, cond, List, length, Option, Some, refl, ap, ◌∙◌, arith, slice_get}
use Rattle.std.specs.Prelude.{nat_lt}
use Rattle.std.proofs.lemmas.Bool.{lt-ltb}
use Rattle.std.proofs.lemmas.Option.{slice_get_within}
use Rattle.hv_word.specs.Storage.{word_at}
use Rattle.hv_cpu.specs.Regs.{Regs}
use Rattle.hv_isa.specs.declared.Instr.{Instr}
use Rattle.hv_isa.specs.declared.Op.TheVariants.{Lui, Jal, Addi, Vmenter}
use Rattle.hv_isa.specs.Table.{decode_of}
use Rattle.hv_store.specs.declared.access.Slot.{Slot}
use Rattle.hv_store.specs.declared.access.Access.TheVariants.{Fetch}
use Rattle.hv_store.specs.Access.{open_at, get_at, without_fault, cleared_at}
use Rattle.hv_sv32.specs.Stop.{Found}
use Rattle.hv_sv32.specs.Walk.{outside}
use Rattle.hv_exec.specs.Act.{Done, entered, carried_out, decoded, fetched, fetch_at, act_of}
use Rattle.hv_exec.specs.Answer.{advanced, given, jumped}
use Rattle.hv_exec.specs.Do.{do_of}
use Rattle.hv_exec.specs.System.{entering}
use Rattle.hv_towers.specs.Laid.{HasPass}
use Rattle.hv_towers.proofs.Phases.{Phase, Fresh, Loaded, Ready, Away, Back, phase_regs, next_phase}

abbrev lui : Instr
lui = record { op = Lui; rd = 5; rs1 = 0; rs2 = 0; imm = 4096 }

abbrev addi : Instr
addi = record { op = Addi; rd = 5; rs1 = 5; rs2 = 0; imm = 0 }

abbrev vmenter : Instr
vmenter = record { op = Vmenter; rd = 0; rs1 = 5; rs2 = 0; imm = 0 }

abbrev jal : Instr
jal = record { op = Jal; rd = 0; rs1 = 0; rs2 = 0; imm = 4294967292 }

lui_read : decode_of 0x000012b7 ≡ Some lui
unfolding decode_of
lui_read = refl

addi_read : decode_of 0x00028293 ≡ Some addi
unfolding decode_of
addi_read = refl

vmenter_read : decode_of 0x0002800b ≡ Some vmenter
unfolding decode_of
vmenter_read = refl

jal_read : decode_of 0xffdff06f ≡ Some jal
unfolding decode_of
jal_read = refl

-- what the step of a monitor leaves of the storage, where its child's block is in bare page b
abbrev pub left_by : List ℕ → ℕ → Phase → List ℕ
left_by S b Fresh = S
left_by S b Loaded = S
left_by S b Ready = without_fault S b
left_by S b Away = S
left_by S b Back = S

-- a machine whose pages 0 and 1 are the bare pages g and b, with the program of a monitor
module _ (S : List ℕ) (F : List Slot) (g b hart : ℕ) (program : slice_get F 0 ≡ Some (open_at g)) (child : slice_get F 1 ≡ Some (open_at b)) (pass : HasPass S g) where
  has_page : nat_lt 0 (length F) ≡ true
  has_page = lt-ltb 0 (length F) (let h : 0 < length F = slice_get_within F 0 (open_at g) program in h)

  -- the instruction that is fetched
  fetches : (r : Regs) (k w : ℕ) (i : Instr) → fetch_at S F hart r (Found 0 (4 * k)) ≡ fetched S F hart r (get_at S (slice_get F 0) k Fetch)
      → word_at S g k ≡ w → decode_of w ≡ Some i → fetch_at S F hart r (Found 0 (4 * k)) ≡ carried_out S F r (do_of i w r hart)
  unfolding decoded
  fetches r k w i e is d =
      e
      ∙ ap (λ (o : Option Slot). fetched S F hart r (get_at S o k Fetch)) program
      ∙ ap (λ (v : ℕ). decoded S F hart r v (decode_of v)) is
      ∙ ap (decoded S F hart r w) d

  acts_fresh : act_of S F hart (phase_regs Fresh) ≡ Done S (phase_regs Loaded)
  unfolding act_of fetch_at do_of carried_out given advanced
  acts_fresh =
      ap (λ (t : Bool). fetch_at S F hart (phase_regs Fresh) (cond t (Found 0 0) (outside 0 Fetch))) has_page
      ∙ fetches (phase_regs Fresh) 0 0x000012b7 lui refl pass.lui lui_read

  acts_loaded : act_of S F hart (phase_regs Loaded) ≡ Done S (phase_regs Ready)
  unfolding act_of fetch_at do_of carried_out given advanced
  acts_loaded =
      ap (λ (t : Bool). fetch_at S F hart (phase_regs Loaded) (cond t (Found 0 4) (outside 4 Fetch))) has_page
      ∙ fetches (phase_regs Loaded) 1 0x00028293 addi refl pass.addi addi_read

  acts_back : act_of S F hart (phase_regs Back) ≡ Done S (phase_regs Ready)
  unfolding act_of fetch_at do_of carried_out jumped
  acts_back =
      ap (λ (t : Bool). fetch_at S F hart (phase_regs Back) (cond t (Found 0 12) (outside 12 Fetch))) has_page
      ∙ fetches (phase_regs Back) 3 0xffdff06f jal refl pass.jal jal_read

  acts_ready : act_of S F hart (phase_regs Ready) ≡ Done (without_fault S b) (phase_regs Away)
  unfolding act_of fetch_at do_of carried_out entering advanced
  acts_ready =
      ap (λ (t : Bool). fetch_at S F hart (phase_regs Ready) (cond t (Found 0 8) (outside 8 Fetch))) has_page
      ∙ fetches (phase_regs Ready) 2 0x0002800b vmenter refl pass.vmenter vmenter_read
      ∙ ap (λ (o : Option Slot). entered S (phase_regs Ready) 4096 1 (cleared_at S o)) child

  -- the step of a monitor that isn't away
  pub monitor_acts : (p : Phase) → (phase_regs p).next ≡ 0 → act_of S F hart (phase_regs p) ≡ Done (left_by S b p) (phase_regs (next_phase p))
  monitor_acts Fresh e = acts_fresh
  monitor_acts Loaded e = acts_loaded
  monitor_acts Ready e = acts_ready
  monitor_acts Away e = absurd (let f : 1 ≡ 0 = e in omega (arith, f))
  monitor_acts Back e = acts_back
