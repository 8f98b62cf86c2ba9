-- The directory, the table and the block, one after another.
use Rattle.std.proofs.Common.{◌+◌, ◌*◌, ℕ, List, set, ap, ◌∙◌}
use Rattle.std.specs.Prelude.{slice_index}
use Rattle.hv_apart.specs.Upgrade.{rewritten, with_fetchable_table, with_version}
use Rattle.hv_apart.proofs.upgrading.Plan.write.Goals as goal

pub returns : goal.returns
unfolding rewritten
returns c =
    let p = c.args.self.now in
    c.put-2.ensures
    ∙ ap (λ (S : List ℕ). set S (1024 * p.child.block + 67) 2) c.put.ensures
    ∙ ap (λ (S : List ℕ). with_version S p.child.block c.args.dir)
    (c.write_table.ensures.written ∙ ap (λ (S : List ℕ). with_fetchable_table S (slice_index p.tables) p.child.pages) c.write_directory.ensures.written)
