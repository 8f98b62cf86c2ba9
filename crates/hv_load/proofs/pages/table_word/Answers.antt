use Rattle.std.proofs.Common.{◌∙◌, ap, sym}
use Rattle.std.proofs.Common.{ℕ, List}
use Rattle.hv_map.specs.Chain.{pin_of}
use Rattle.hv_load.proofs.Reaching.{table_word_found}
use Rattle.hv_load.proofs.pages.table_word.Goals as goal

pub returns-in-Child-clause-place : goal.returns-in-Child-clause-place
returns-in-Child-clause-place c =
    table_word_found c.args.store.now c.args.path.now c.args.page c.in-Some.chain c.block_page-syllable.result c.in-Child.host c.in-Child.block c.word_of_child.result
    (sym (c.in-Some.ensures ∙ ap (λ (path : List ℕ). pin_of c.args.store.now path) c.outer.ensures))
    c.block_page-syllable.ensures
    c.in-Child.ensures.found
    c.word_of_child.ensures.place
