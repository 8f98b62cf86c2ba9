-- The next 32 words of the page, and all of them.
use Rattle.std.proofs.Common.{◌≡◌, ℕ, ◌+◌, ◌*◌, ◌++◌, [], Option, ap, subst, sym, arith}
use Rattle.std.specs.List.{range_with_len}
use Rattle.std.specs.Option.{option_to_list}
use Rattle.hv_nest.specs.Watched.{places}
use Rattle.hv_apart.specs.Marked.{Joined}
use Rattle.hv_apart.specs.Table.{places_in}
use Rattle.hv_apart.proofs.Joining.{joined_none, joined_more}
use Rattle.hv_apart.proofs.Filling.{places-fill}
use Rattle.hv_apart.proofs.foot.put_page.Goals as goal

pub loop-k-preserved : goal.loop-k-preserved
loop-k-preserved c =
    joined_more _ _ _ (places c.in-Some.page (range_with_len 0 (32 * c.loop-k.k))) (range_with_len (32 * (32 * c.in-Some.page + c.loop-k.k)) 32) _ c.loop-k.invariant c.fill.ensures.filled
    (places-fill c.in-Some.page c.loop-k.k)

pub returns : goal.returns
returns c =
    let all : 1024 ≡ 32 * c.loop-k.k = omega (arith, c.loop-k-test.false, c.loop-k.auto.k-end) in
    subst (λ (o : Option ℕ). Joined c.args.words.now c.loop-k.words (places_in 0 1024 (option_to_list o))) (sym c.in-Some.is)
    (joined_more _ _ _ (places c.in-Some.page (range_with_len 0 (32 * c.loop-k.k))) [] _ c.loop-k.invariant (joined_none c.loop-k.words)
    (ap (λ (n : ℕ). places c.in-Some.page (range_with_len 0 n) ++ []) all))
