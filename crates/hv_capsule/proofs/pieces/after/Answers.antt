use Rattle.std.proofs.Common.{◌≡◌, ℕ, List, ◌++◌, true, false, sym, ap, ◌∙◌}
use Rattle.std.proofs.lemmas.Bool.Decides.{Decides-eqb}
use Rattle.std.proofs.lemmas.Slice.Eq.{starts_is}
use Rattle.hv_capsule.proofs.Spelled.{behind_front}
use Rattle.hv_capsule.proofs.pieces.after.Goals as goal

pub returns-then-starts_with-clause-some : goal.returns-then-starts_with-clause-some
returns-then-starts_with-clause-some c =
    (starts_is Decides-eqb c.args.text.now c.args.front.now c.starts_with.result c.starts_with.ensures.value).0 c.if-starts_with.true
    ∙ ap (λ (z : List ℕ). c.args.front.now ++ z) (sym (behind_front c.args.text.now c.args.front.now))

pub returns-else-starts_with-clause-none : goal.returns-else-starts_with-clause-none
returns-else-starts_with-clause-none c = λ behind e.
    let is : c.starts_with.result ≡ true =
    (starts_is Decides-eqb c.args.text.now c.args.front.now c.starts_with.result c.starts_with.ensures.value).1 behind e in
    let no : c.starts_with.result ≡ false = c.if-starts_with.false in
    cc
