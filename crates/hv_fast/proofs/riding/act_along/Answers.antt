-- Before the instruction nothing is noted, and what is at hand is what the map says.
use Rattle.std.proofs.Common.{ℕ, List, ap, sym, subst}
use Rattle.hv_nest.specs.Notes.{is_exact}
use Rattle.hv_nest.proofs.Counts.{undone_none}
use Rattle.hv_fast.specs.Memo.{AreOpen}
use Rattle.hv_fast.proofs.Opening.{to_open}
use Rattle.hv_fast.proofs.riding.act_along.Goals as goal

pub invariant_of-riding : goal.invariant_of-riding
unfolding is_exact
invariant_of-riding c = record {
  exact = ap (is_exact c.args.store.now) c.requires.fresh;
  right =
      subst (λ (S : List ℕ). AreOpen S c.args.chain.now c.args.memo.now)
      (sym (undone_none c.args.store.now c.args.notes.now c.requires.fresh))
      (to_open c.args.store.now c.args.chain.now c.args.memo.now c.requires.memo);
}
