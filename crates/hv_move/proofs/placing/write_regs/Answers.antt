use Rattle.std.proofs.Common.{◌≡◌, ◌*◌, length, take, ap, arith}
use Rattle.hv_move.proofs.Edits.{length-sets_lem}
use Rattle.hv_move.proofs.placing.write_regs.Goals as goal

pub put-requires : goal.put-requires
put-requires c =
    let long : length c.put_words.new.store ≡ length c.args.store.now = omega (arith, ap length c.put_words.ensures, length-sets_lem c.args.store.now (1024 * c.args.block) (take 49 c.args.words.now)) in
    omega (arith, long, c.requires, c.pages-pages.ensures.words, c.pages-pages.ensures.count)
