use Rattle.std.proofs.Common.{ℕ, List, ◌<◌, IfSome, subst}
use Rattle.hv_word.specs.Storage.{page_count}
use Rattle.hv_debug.specs.Answers.{path_named}
use Rattle.hv_debug.proofs.Lines.{own_chain}
use Rattle.hv_debug.proofs.answers.put_regs.Goals as goal

pub machine_words-words-requires-clause-block : goal.machine_words-words-requires-clause-block
machine_words-words-requires-clause-block g c =
    let S = c.parked-store.result.now in
    subst (λ (T : List ℕ). IfSome c.last_block.result (λ block. block < page_count T)) c.parked-store.ensures
    (c.last_block.ensures.within S (own_chain S (path_named c.args.name.now c.args.names.now) c.in-Some.chain c.in-Some.ensures))
