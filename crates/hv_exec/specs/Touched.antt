-- Which words of a hart's registers an instruction may change.
use Rattle.std.specs.Prelude.{◌≡◌, ℕ, ◌<◌, List, [], ◌∷◌, false, slice_index}
use Rattle.hv_word.specs.Words.{has}
use Rattle.hv_cpu.specs.Regs.{Regs, spelled}
use Rattle.hv_exec.specs.declared.touched.Touched.{Touched}
use Rattle.hv_exec.specs.declared.touched.Touched.TheVariants.{File, Csr, TrapToM, TrapToS, Return, Any}

-- The registers q are r but for some words, each named by its place in `spelled`.
pub record AreAsBut (words : List ℕ) (r q : Regs) : Type 0 where
  pub others : (k : ℕ) → has k words ≡ false → slice_index (spelled q) k ≡ slice_index (spelled r) k

-- what a trap to M changes: pc, mode, mstatus, mepc, mcause and mtval
-- (Privileged Architecture, sections 3.1.6 and 3.1.14 to 3.1.16)
abbrev pub trap_to_m_words : List ℕ
trap_to_m_words = 0 ∷ 32 ∷ 33 ∷ 35 ∷ 36 ∷ 37 ∷ []

-- what a trap to S changes: pc, mode, mstatus, sepc, scause and stval
-- (Privileged Architecture, sections 3.1.6 and 4.1.7 to 4.1.9)
abbrev pub trap_to_s_words : List ℕ
trap_to_s_words = 0 ∷ 32 ∷ 33 ∷ 44 ∷ 45 ∷ 46 ∷ []

-- what MRET and SRET change: pc, mode and mstatus (Privileged Architecture, section 3.1.6.1)
abbrev pub return_words : List ℕ
return_words = 0 ∷ 32 ∷ 33 ∷ []

-- what is told of an instruction holds: from the registers r to q no other word changed
abbrev pub Touches : Touched → Regs → Regs → Type 0
Touches (File i) r q = (i < 32) × AreAsBut (0 ∷ i ∷ []) r q
Touches (Csr i w) r q = (i < 32) × (w < 49) × AreAsBut (0 ∷ i ∷ w ∷ []) r q
Touches TrapToM r q = AreAsBut trap_to_m_words r q
Touches TrapToS r q = AreAsBut trap_to_s_words r q
Touches Return r q = AreAsBut return_words r q
Touches Any r q = Unit {0}
