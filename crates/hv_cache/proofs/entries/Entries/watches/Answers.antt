-- A page is named where an entry rests on it.
use Rattle.std.proofs.Common.{◌==◌, not, ℕ, ap, ◌∙◌}
use Rattle.hv_cache.proofs.Totals.{named_rests}
use Rattle.hv_cache.proofs.entries.Entries.watches.Goals as goal

pub returns : goal.returns
returns c =
    rw (← c.self.view_is)
    (c.names.ensures ∙ ap (λ (n : ℕ). not (n == 0)) (c.self.invariant.pages c.args.page) ∙ named_rests c.args.page c.self.inside.kept.entries)
