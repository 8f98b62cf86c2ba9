-- Registers put back into a block, and a fault told in it, in the bare storage and in the storage that the machine sees.
use Rattle.std.proofs.Common.{◌≡◌, ℕ, suc, ◌+◌, ◌*◌, ◌<◌, ◌≤◌, List, [], ◌∷◌, length, take, set, Some, sym, subst, arith, lit<}
use Rattle.std.proofs.Math.Dec.{lit≤}
use Rattle.std.proofs.Math.Seq.{sets}
use Rattle.hv_word.specs.Storage.{with_word}
use Rattle.hv_cpu.specs.Regs.{Regs, spelled}
use Rattle.hv_store.specs.declared.access.Slot.{Slot}
use Rattle.hv_store.specs.declared.access.Way.TheVariants.{Open}
use Rattle.hv_block.specs.Block.{put_regs, with_fault}
use Rattle.hv_map.specs.Compose.{reading}
use Rattle.hv_nest.specs.Simulation.{Simulation}

module _ (k : ℕ) (F : List Slot) (R : List ℕ → List ℕ → Type 0) (sim : Simulation k F R) (y x : ℕ) (is_open : reading F y ≡ Some (Open x)) where
  -- words in a row
  sets_like : (vs S T : List ℕ) (i a b : ℕ) → R S T → a ≡ 1024 * x + i → b ≡ 1024 * y + i → i + length vs ≤ 1024 → R (sets S a vs) (sets T b vs)
  sets_like [] S T i a b related p q h = related
  sets_like (v ∷ vs) S T i a b related p q h =
      let here : i < 1024 = omega (arith, h) in
      let next : suc a ≡ 1024 * x + suc i = omega arith in
      let next' : suc b ≡ 1024 * y + suc i = omega arith in
      let rest : suc i + length vs ≤ 1024 = omega (arith, h) in
      sets_like vs (set S a v) (set T b v) (suc i) (suc a) (suc b)
      (subst (λ (m : ℕ). R (set S m v) (set T b v)) (sym p)
      (subst (λ (m : ℕ). R (set S (1024 * x + i) v) (set T m v)) (sym q) (sim.write S T y x i v related is_open here)))
      next next' rest

  pub put_regs_like : (S T : List ℕ) (q : Regs) → R S T → R (put_regs S x q) (put_regs T y q)
  put_regs_like S T q related =
      let at : 1024 * x ≡ 1024 * x + 0 = omega arith in
      let at' : 1024 * y ≡ 1024 * y + 0 = omega arith in
      sim.write (sets S (1024 * x) (take 49 (spelled q))) (sets T (1024 * y) (take 49 (spelled q))) y x 64 q.next
      (sets_like (take 49 (spelled q)) S T 0 (1024 * x) (1024 * y) related at at' (lit≤ tt))
      is_open (lit< tt)

  pub with_fault_like : (S T : List ℕ) (c p a : ℕ) → R S T → R (with_fault S x c p a) (with_fault T y c p a)
  with_fault_like S T c p a related =
      sim.write (with_word (with_word S x 72 c) x 73 p) (with_word (with_word T y 72 c) y 73 p) y x 74 a
      (sim.write (with_word S x 72 c) (with_word T y 72 c) y x 73 p
      (sim.write S T y x 72 c related is_open (lit< tt)) is_open (lit< tt)) is_open (lit< tt)
