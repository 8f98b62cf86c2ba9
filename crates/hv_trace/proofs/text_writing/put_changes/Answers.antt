use Rattle.std.proofs.Common.{ℕ, [], ◌∷◌, ◌++◌, List, get_or, take, sym, ap, ◌∙◌, append_assoc}
use Rattle.hv_trace.specs.Text.{changes_text, change_text, pair_text}
use Rattle.hv_trace.proofs.Changes.{changes_at}
use Rattle.hv_trace.proofs.text_writing.put_changes.Goals as goal

pub loop-change-preserved : goal.loop-change-preserved
loop-change-preserved c =
    let i = c.loop-change.change-index in
    let change : ℕ × ℕ = get_or c.args.changes.now i (0, 0) in
    let at = changes_at c.args.changes.now i (0, 0) c.loop-change-test.true in
    let before : List ℕ = changes_text (take i c.args.changes.now) in
    c.in_ok-put_pair.ensures
    ∙ ap (λ (text : List ℕ). text ++ pair_text change) (c.in_ok-put.ensures ∙ ap (λ (text : List ℕ). text ++ 32 ∷ []) c.loop-change.invariant)
    ∙ append_assoc (c.args.out.now.items ++ before) (32 ∷ []) (pair_text change)
    ∙ append_assoc c.args.out.now.items before (change_text change)
    ∙ ap (λ (text : List ℕ). c.args.out.now.items ++ text) (sym at)
