-- A placed machine is the parked one, and its runs go on from where that was saved.
use Rattle.std.proofs.Common.{◌≡◌, ◌∙◌, IfSome, sym, subst}
use Rattle.hv_block.specs.Block.{regs_at}
use Rattle.hv_whole.specs.Whole.{regs_of}
use Rattle.hv_whole.proofs.Readings.{regs_last}
use Rattle.hv_move.specs.Laws.{PlacedLaw, PlacedRunLaw, SavedAgainLaw}
use Rattle.hv_move.proofs.Moving.{moved_runs}

pub placed_is : PlacedLaw
placed_is S items m st h g last is = record {
  regs = sym (regs_last st.storage items (regs_of h st) g last ∙ subst (λ o. IfSome o (λ b. regs_at st.storage b ≡ m.regs)) last is.regs);
  storage = sym is.storage;
  readable = is.readable;
}

pub placed_runs : PlacedRunLaw
placed_runs h k g path place items there again start anew moves more t u m S run now is last at next =
    moved_runs h k path place items there again start anew moves more t u m run now is next (placed_is S there m anew k g last at)

pub saved_again : SavedAgainLaw
saved_again S T items m n g last is =
    (is.readable, λ at sees. let regs = at ∙ subst (λ o. IfSome o (λ b. regs_at T b ≡ m.regs)) last is.regs in let storage = sees ∙ is.storage in (λ i. record { regs = regs i; storage = storage i }))
