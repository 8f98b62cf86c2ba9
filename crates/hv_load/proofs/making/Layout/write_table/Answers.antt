use Rattle.std.proofs.Common.{◌*◌, arith}
use Rattle.hv_load.specs.Making.{table_word}
use Rattle.hv_load.proofs.Writing.{word_put, length_put, page_written}
use Rattle.hv_load.proofs.making.Layout.write_table.Goals as goal

pub loop-word-preserved : goal.loop-word-preserved
loop-word-preserved c = record {
  written = word_put (table_word c.args.self.now.pages c.args.self.now.at c.args.k) c.args.store.now c.loop-word.store c.put.new.self (1024 * c.args.host) c.loop-word.word c.table_word.result c.loop-word.invariant.written c.table_word.ensures c.put.ensures;
  len = length_put c.loop-word.store c.put.new.self c.args.store.now _ c.table_word.result c.put.ensures c.loop-word.invariant.len;
}

pub returns-clause-page : goal.returns-clause-page
returns-clause-page c =
    page_written c.loop-word.word c.args.store.now c.loop-word.store c.args.host (table_word c.args.self.now.pages c.args.self.now.at c.args.k) (omega arith) c.loop-word.invariant.written
