-- What was put into an empty set.
use Rattle.std.proofs.Common.{◌≡◌, ◌*◌, ◌++◌, List, [], ℕ, length, replicate, take, drop, vec_len, ap, subst, sym, ◌∙◌}
use Rattle.std.proofs.Math.Seq.{take-append_seam}
use Rattle.hv_nest.specs.Watched.{foot}
use Rattle.hv_apart.specs.Marked.{SetOf}
use Rattle.hv_apart.proofs.BitSets.{marks_none}
use Rattle.hv_apart.proofs.foot.Footing.new.Goals as goal

pub returns : goal.returns
returns c =
    let ys = foot c.args.store.now c.args.chain.now in
    let made = c.in_ok-words.words in
    let now = c.put_foot.new.words in
    let rest = drop (length now) made.items in
    let zeros : c.deref_mut.result.now ≡ replicate (32 * c.pages.result) 0 =
    c.deref_mut.ensures.value ∙ c.in_ok-words.ensures.items_if_clones_equal (λ y e. e)
    in
    let same : length now ≡ vec_len made = c.put_foot.auto.words ∙ c.deref_mut.ensures.len in
    let whole : now ≡ take (vec_len made) (now ++ rest) =
    sym (take-append_seam now rest) ∙ ap (λ (n : ℕ). take n (now ++ rest)) same
    in
    let none : SetOf c.deref_mut.result.now [] =
    subst (λ (ws : List ℕ). SetOf ws []) (sym zeros) (marks_none (32 * c.pages.result))
    in
    subst (λ (ws : List ℕ). SetOf ws ys) whole (c.put_foot.ensures none)
