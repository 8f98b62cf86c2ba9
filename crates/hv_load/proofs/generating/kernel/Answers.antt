use Rattle.std.proofs.Common.{◌≡◌, ◌+◌, sym, ◌∙◌}
use Rattle.hv_load.specs.Generator.{number_at}
use Rattle.hv_load.proofs.Generated.{additions_grows, additions_none, number_grows, number_none}
use Rattle.hv_load.proofs.generating.kernel.Goals as goal

pub loop-place-init : goal.loop-place-init
loop-place-init c = record {
  words = c.new-words.ensures.items ∙ sym (additions_none c.args.seed);
  number = sym (number_none c.args.seed);
}

pub loop-place-preserved : goal.loop-place-preserved
loop-place-preserved c =
    let seed = c.args.seed in
    let place = c.loop-place.place in
    let number : c.next-number.result ≡ number_at seed (place + 1) =
    number_grows seed place c.loop-place.number c.next-number.result c.next-number.ensures c.loop-place.invariant.number in
    record {
      words =
          additions_grows seed place c.next-number.result c.encode.result c.addition.result c.loop-place.words.items
          c.push.new.self.items c.in_ok-push.ensures.items c.loop-place.invariant.words number c.addition.ensures.value
          c.encode.ensures.word;
      number = number;
    }
