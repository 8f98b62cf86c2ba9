-- Words written one after another, and the words of registers.
use Rattle.std.proofs.Common.{◌≡◌, ℕ, suc, ◌+◌, ◌*◌, ◌<◌, List, [], ◌∷◌, ◌++◌, length, map, take, set, get_or, refl, ap, ◌∙◌, sym, arith}
use Rattle.std.proofs.Math.Seq.{sets, length-sets}
use Rattle.std.proofs.lemmas.List.{ext_get_or, take_more, length-take-le}
use Rattle.std.proofs.lemmas.List.FromFn.{get_or-map-range_with_len}
use Rattle.std.specs.List.{range_with_len}
use Rattle.hv_cpu.specs.Regs.{spelled}
use Rattle.hv_block.specs.Block.{put_regs}
use Rattle.hv_capsule.specs.Parked.{regs_of_words}

-- one more word goes behind those that were written
pub sets-snoc : (vs l : List ℕ) (i a : ℕ) → sets l i (vs ++ a ∷ []) ≡ set (sets l i vs) (i + length vs) a
sets-snoc [] l i a = ap (λ (k : ℕ). set l k a) (omega arith)
sets-snoc (v ∷ vs) l i a =
    sets-snoc vs (set l i v) (suc i) a ∙ ap (λ (k : ℕ). set (sets (set l i v) (suc i) vs) k a) (omega arith)

pub sets_more : (ws l : List ℕ) (at i : ℕ) → i < length ws → sets l at (take (i + 1) ws) ≡ set (sets l at (take i ws)) (at + i) (get_or ws i 0)
sets_more ws l at i h =
    ap (λ (vs : List ℕ). sets l at vs) (take_more ws i 0 h)
    ∙ sets-snoc (take i ws) l at (get_or ws i 0)
    ∙ ap (λ (k : ℕ). set (sets l at (take i ws)) (at + k) (get_or ws i 0)) (length-take-le i ws (omega arith))

-- writing changes no length
pub length-sets_lem : (l : List ℕ) (i : ℕ) (vs : List ℕ) → length (sets l i vs) ≡ length l
length-sets_lem l i vs = length-sets l i vs

pub ruleset edits = (sets_more, length-sets_lem)

-- 50 words are those of the registers that they spell
pub spelled_words : (ws : List ℕ) → length ws ≡ 50 → spelled (regs_of_words ws) ≡ ws
spelled_words ws long = ext_get_or 0 (spelled (regs_of_words ws)) ws (sym long) at
  where
    listed : spelled (regs_of_words ws) ≡ map (λ i. get_or ws i 0) (range_with_len 0 50)
    listed = refl

    at : (a : ℕ) → a < 50 → get_or (spelled (regs_of_words ws)) a 0 ≡ get_or ws a 0
    at a h = ap (λ (xs : List ℕ). get_or xs a 0) listed ∙ get_or-map-range_with_len (λ i. get_or ws i 0) 0 50 a a 0 h (omega arith)

pub put_spelled : (S T U ws : List ℕ) (g : ℕ) → length ws ≡ 50 → T ≡ sets S (1024 * g) (take 49 ws) → U ≡ set T (1024 * g + 64) (get_or ws 49 0) → U ≡ put_regs S g (regs_of_words ws)
put_spelled S T U ws g long first last =
    last
    ∙ ap (λ xs. set xs (1024 * g + 64) (get_or ws 49 0)) (first ∙ ap (λ vs. sets S (1024 * g) (take 49 vs)) (sym (spelled_words ws long)))
