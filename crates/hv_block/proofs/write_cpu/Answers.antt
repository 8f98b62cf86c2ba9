use Rattle.std.proofs.Common.{◌≡◌, ℕ, ◌+◌, ◌*◌, ◌-◌, List, take, set, get_or, ap, ◌∙◌}
use Rattle.std.proofs.Math.Seq.{sets}
use Rattle.hv_cpu.specs.Regs.{Regs, spelled}
use Rattle.hv_block.specs.Block.{put_regs}
use Rattle.hv_block.proofs.Same.{put_same}
use Rattle.hv_block.proofs.write_cpu.Goals as goal

-- 49 words one after another and the last one apart are the registers
spelled_out : (S T U ws : List ℕ) (g : ℕ) (r : Regs)
    → ws ≡ spelled r
    → T ≡ sets S (1024 * g) (take (49 - 0) ws)
    → U ≡ set T (1024 * g + 64) (get_or ws 49 0)
    → U ≡ put_regs S g r
spelled_out S T U ws g r is first last =
    last
    ∙ ap (λ (X : List ℕ). set X (1024 * g + 64) (get_or ws 49 0)) first
    ∙ ap (λ (xs : List ℕ). set (sets S (1024 * g) (take (49 - 0) xs)) (1024 * g + 64) (get_or xs 49 0)) is

pub returns-clause-put : goal.returns-clause-put
returns-clause-put c =
    spelled_out _ _ _ _ c.args.page c.args.cpu.now c.words-words.ensures c.put_words.ensures c.put.ensures

pub returns-clause-same : goal.returns-clause-same
returns-clause-same c = λ is.
    spelled_out _ _ _ _ c.args.page c.args.cpu.now c.words-words.ensures c.put_words.ensures c.put.ensures
    ∙ put_same _ _ _ is
