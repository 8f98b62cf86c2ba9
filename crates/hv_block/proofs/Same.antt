-- Registers that are put where they stand already change nothing.
use Rattle.std.proofs.Common.{◌≡◌, ℕ, zero, suc, ◌+◌, ◌*◌, List, [], ◌∷◌, set, get_or, refl, ap, ◌∙◌, sym, arith}
use Rattle.std.proofs.Math.Seq.{sets}
use Rattle.std.proofs.lemmas.List.{set-get_or}
use Rattle.hv_cpu.specs.Regs.{Regs}
use Rattle.hv_block.specs.Block.{put_regs, regs_at}

-- n words of S, from place i + k on
unfoldable pub words_from : List ℕ → ℕ → ℕ → ℕ → List ℕ
words_from S i k zero = []
words_from S i k (suc n) = get_or S (i + k) 0 ∷ words_from S i (suc k) n

-- writing what is there
sets_same : (S : List ℕ) (i k n : ℕ) → sets S (i + k) (words_from S i k n) ≡ S
unfolding words_from
sets_same S i k zero = refl
sets_same S i k (suc n) =
    ap (λ (X : List ℕ). sets X (suc (i + k)) (words_from S i (suc k) n)) (set-get_or S (i + k) 0)
    ∙ ap (λ (p : ℕ). sets S p (words_from S i (suc k) n)) (omega arith)
    ∙ sets_same S i (suc k) n

put_back : (S : List ℕ) (g : ℕ) → put_regs S g (regs_at S g) ≡ S
unfolding words_from
put_back S g =
    ap (λ (X : List ℕ). set X (1024 * g + 64) (get_or S (1024 * g + 64) 0))
    (ap (λ (p : ℕ). sets S p (words_from S (1024 * g) 0 49)) (omega arith) ∙ sets_same S (1024 * g) 0 49)
    ∙ set-get_or S (1024 * g + 64) 0

pub put_same : (S : List ℕ) (g : ℕ) (r : Regs) → regs_at S g ≡ r → put_regs S g r ≡ S
put_same S g r is = ap (λ (q : Regs). put_regs S g q) (sym is) ∙ put_back S g
