use Rattle.std.proofs.Common.{◌≡◌, ℕ, true, false, ◌&&◌, ap, ◌∙◌, sym, not, is_le, is_lt, nat_cmp}
use Rattle.hv_fast.specs.Beside.{IsBlockStill}
use Rattle.hv_fast.proofs.Dropping.{block_read}
use Rattle.hv_fast.proofs.beside.is_block_still.Goals as goal
use Rattle.hv_fast.proofs.beside.is_block_still.Goals.{then-not-contains, else-not-contains}

pub returns-then-page-pages : goal.returns-then-page-pages
returns-then-page-pages c some =
    elim c.if-not-contains.branch as (λ _. IsBlockStill c.args.store.now c.args.page c.args.word) [
      | then-not-contains w ↦
          let out : false ≡ (is_le (nat_cmp 65 c.args.word) && is_lt (nat_cmp c.args.word 68)) = sym w.if-not-contains.true ∙ c.contains.ensures.value in
          record {
            pages = λ e. let f : false ≡ true = out ∙ ap (λ (n : ℕ). is_le (nat_cmp 65 n) && is_lt (nat_cmp n 68)) e in cc;
            table = λ e. let f : false ≡ true = out ∙ ap (λ (n : ℕ). is_le (nat_cmp 65 n) && is_lt (nat_cmp n 68)) e in cc;
            version = λ e. let f : false ≡ true = out ∙ ap (λ (n : ℕ). is_le (nat_cmp 65 n) && is_lt (nat_cmp n 68)) e in cc;
            block = block_read c.args.store.now c.args.page c.read_block.result c.read_block.ensures.block (sym c.is_some.ensures ∙ some);
          }
      | else-not-contains w ↦
          absurd (let f : false ≡ true = ap not (sym w.if-not-contains.false) ∙ sym w.value-is ∙ c.if-page-pages.true in cc)
    ]
