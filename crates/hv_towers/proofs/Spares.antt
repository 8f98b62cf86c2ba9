-- Which words a step leaves that isn't one of the machine at the end.
use Rattle.std.proofs.Common.{◌≡◌, ◌≢◌, ℕ, ◌+◌, ◌*◌, ◌<◌, ◌≤◌, ◌⊎◌, inl, inr, List, [], ◌∷◌, length, refl, ◌∙◌, sym, arith, lit<, get_or-set_other, length-set}
use Rattle.hv_word.specs.Storage.{word_at, with_word}
use Rattle.hv_cpu.specs.Regs.{Regs}
use Rattle.hv_block.specs.Block.{regs_at, with_fault}
use Rattle.hv_map.specs.Item.{Item}
use Rattle.hv_whole.specs.Linked.{EachBlock}
use Rattle.hv_towers.proofs.Phases.{Phase, Fresh, Loaded, Ready, Away, Back, InPhases}
use Rattle.hv_towers.proofs.Acts.{left_by}

-- the registers that a block says depend on its first words alone
module _ (S U : List ℕ) (g : ℕ) (same : (w : ℕ) → w < 72 → word_at U g w ≡ word_at S g w) where
  pub regs_same : regs_at U g ≡ regs_at S g
  regs_same = λ i. record {
    pc = (same 0 (lit< tt)) i;
    x1 = (same 1 (lit< tt)) i;
    x2 = (same 2 (lit< tt)) i;
    x3 = (same 3 (lit< tt)) i;
    x4 = (same 4 (lit< tt)) i;
    x5 = (same 5 (lit< tt)) i;
    x6 = (same 6 (lit< tt)) i;
    x7 = (same 7 (lit< tt)) i;
    x8 = (same 8 (lit< tt)) i;
    x9 = (same 9 (lit< tt)) i;
    x10 = (same 10 (lit< tt)) i;
    x11 = (same 11 (lit< tt)) i;
    x12 = (same 12 (lit< tt)) i;
    x13 = (same 13 (lit< tt)) i;
    x14 = (same 14 (lit< tt)) i;
    x15 = (same 15 (lit< tt)) i;
    x16 = (same 16 (lit< tt)) i;
    x17 = (same 17 (lit< tt)) i;
    x18 = (same 18 (lit< tt)) i;
    x19 = (same 19 (lit< tt)) i;
    x20 = (same 20 (lit< tt)) i;
    x21 = (same 21 (lit< tt)) i;
    x22 = (same 22 (lit< tt)) i;
    x23 = (same 23 (lit< tt)) i;
    x24 = (same 24 (lit< tt)) i;
    x25 = (same 25 (lit< tt)) i;
    x26 = (same 26 (lit< tt)) i;
    x27 = (same 27 (lit< tt)) i;
    x28 = (same 28 (lit< tt)) i;
    x29 = (same 29 (lit< tt)) i;
    x30 = (same 30 (lit< tt)) i;
    x31 = (same 31 (lit< tt)) i;
    mode = (same 32 (lit< tt)) i;
    mstatus = (same 33 (lit< tt)) i;
    mtvec = (same 34 (lit< tt)) i;
    mepc = (same 35 (lit< tt)) i;
    mcause = (same 36 (lit< tt)) i;
    mtval = (same 37 (lit< tt)) i;
    mscratch = (same 38 (lit< tt)) i;
    medeleg = (same 39 (lit< tt)) i;
    mideleg = (same 40 (lit< tt)) i;
    mie = (same 41 (lit< tt)) i;
    mip = (same 42 (lit< tt)) i;
    stvec = (same 43 (lit< tt)) i;
    sepc = (same 44 (lit< tt)) i;
    scause = (same 45 (lit< tt)) i;
    stval = (same 46 (lit< tt)) i;
    sscratch = (same 47 (lit< tt)) i;
    satp = (same 48 (lit< tt)) i;
    next = (same 64 (lit< tt)) i;
  }

-- w is a word of a block that says pages, table or version
abbrev pub IsSize : ℕ → Type 0
IsSize w = (65 ≤ w) × (w ≤ 67)

-- a word that no monitor's step changes: those of the blocks but the last one are for registers and faults
abbrev pub Spared : List Item → ℕ → ℕ → Type 0
Spared [] g w = Unit {0}
Spared (x ∷ []) g w = (g ≢ x.block) ⊎ (w < 72)
Spared (x ∷ (y ∷ ys)) g w = ((g ≢ x.block) ⊎ IsSize w) × Spared (y ∷ ys) g w

pub record Spares (items : List Item) (S U : List ℕ) : Type 0 where
  pub size : length U ≡ length S
  pub same : (g w : ℕ) → w < 1024 → Spared items g w → word_at U g w ≡ word_at S g w

pub spares_all : (items : List Item) (S : List ℕ) → Spares items S S
spares_all items S = record { size = refl; same = λ g w h s. refl }

pub first_spared : (x : Item) (xs : List Item) (g w : ℕ) → Spared (x ∷ xs) g w → (g ≢ x.block) ⊎ (w < 72)
first_spared x [] g w s = s
first_spared x (y ∷ ys) g w s = elim s.0 [ inl ne ↦ inl ne | inr h ↦ inr (omega (arith, h.1)) ]

-- where a fault is told, or taken away
module _ (S : List ℕ) (b c d e : ℕ) where
  pub fault_apart : (g w : ℕ) → w < 1024 → (g ≢ b) ⊎ (w < 72) → word_at (with_fault S b c d e) g w ≡ word_at S g w
  fault_apart g w h apart =
      get_or-set_other (with_word (with_word S b 72 c) b 73 d) (1024 * b + 74) (1024 * g + w) e 0 (far 74 (lit< tt) (omega arith))
      ∙ get_or-set_other (with_word S b 72 c) (1024 * b + 73) (1024 * g + w) d 0 (far 73 (lit< tt) (omega arith))
      ∙ get_or-set_other S (1024 * b + 72) (1024 * g + w) c 0 (far 72 (lit< tt) (omega arith))
    where
      far : (k : ℕ) → k < 1024 → 72 ≤ k → 1024 * g + w ≢ 1024 * b + k
      far k small low f = elim apart [
        | inl ne ↦ ne (omega (arith, f, small, h))
        | inr lt ↦ absurd (omega (arith, f, small, h, low, lt))
      ]

  pub length-fault : length (with_fault S b c d e) ≡ length S
  length-fault =
      length-set (with_word (with_word S b 72 c) b 73 d) (1024 * b + 74) e
      ∙ length-set (with_word S b 72 c) (1024 * b + 73) d
      ∙ length-set S (1024 * b + 72) c

  pub fault_regs : (g : ℕ) → regs_at (with_fault S b c d e) g ≡ regs_at S g
  fault_regs g = regs_same S (with_fault S b c d e) g (λ w h. fault_apart g w (omega arith) (inr h))

pub fault_spares : (S : List ℕ) (x : Item) (xs : List Item) (c d e : ℕ) → Spares (x ∷ xs) S (with_fault S x.block c d e)
fault_spares S x xs c d e = record {
  size = length-fault S x.block c d e;
  same = λ g w h s. fault_apart S x.block c d e g w h (first_spared x xs g w s);
}

pub left_spares : (S : List ℕ) (x : Item) (xs : List Item) (p : Phase) → Spares (x ∷ xs) S (left_by S x.block p)
left_spares S x xs Fresh = spares_all (x ∷ xs) S
left_spares S x xs Loaded = spares_all (x ∷ xs) S
left_spares S x xs Ready = fault_spares S x xs 0 0 0
left_spares S x xs Away = spares_all (x ∷ xs) S
left_spares S x xs Back = spares_all (x ∷ xs) S

pub left_regs : (S : List ℕ) (b g : ℕ) (p : Phase) → regs_at (left_by S b p) g ≡ regs_at S g
left_regs S b g Fresh = refl
left_regs S b g Loaded = refl
left_regs S b g Ready = fault_regs S b 0 0 0 g
left_regs S b g Away = refl
left_regs S b g Back = refl

-- the phases depend on the registers alone
pub phases_same : (S U : List ℕ) (r q : Regs) (xs : List Item) (ps : List Phase) → r ≡ q → EachBlock (λ b. regs_at U b ≡ regs_at S b) xs → InPhases S r xs ps → InPhases U q xs ps
phases_same S U r q [] [] e each h = tt
phases_same S U r q [] (p ∷ ps) e each h = h
phases_same S U r q (x ∷ xs) [] e each h = h
phases_same S U r q (x ∷ xs) (p ∷ ps) e each h = (
  sym e ∙ h.0,
  phases_same S U (regs_at S x.block) (regs_at U x.block) xs ps (sym each.0) each.1 h.1,
)

pub every_block : (P : ℕ → Type 0) → ((b : ℕ) → P b) → (xs : List Item) → EachBlock P xs
every_block P f [] = tt
every_block P f (x ∷ xs) = (f x.block, every_block P f xs)
