-- A page is named among tables where an entry has it among its tables.
use Rattle.std.proofs.Common.{◌==◌, not, ℕ, ap, ◌∙◌}
use Rattle.hv_cache.proofs.Totals.{named_tables}
use Rattle.hv_cache.proofs.entries.Entries.watches_table.Goals as goal

pub returns : goal.returns
returns c =
    rw (← c.self.view_is)
    (c.names_table.ensures ∙ ap (λ (n : ℕ). not (n == 0)) (c.self.invariant.tables c.args.page) ∙ named_tables c.args.page c.self.inside.kept.entries)
