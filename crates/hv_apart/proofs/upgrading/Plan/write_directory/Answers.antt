-- One word more, and all of them.
use Rattle.std.proofs.Common.{◌*◌, ◌∙◌, ap, arith}
use Rattle.hv_map.specs.Apart.{table_pages}
use Rattle.hv_apart.specs.Upgrade.{directory_word}
use Rattle.hv_apart.proofs.Rewriting.{directory_written, length_put, word_put}
use Rattle.hv_apart.proofs.upgrading.Plan.write_directory.Goals as goal

pub loop-word-preserved : goal.loop-word-preserved
loop-word-preserved c =
    let table = c.args.self.now.child.table in
    let tables = table_pages c.args.self.now.child.pages in
    record {
      written = word_put (directory_word table tables) c.args.store.now c.loop-word.store c.put.new.self (1024 * c.args.self.now.directory) c.loop-word.word c.directory_word.result c.loop-word.invariant.written (c.directory_word.ensures ∙ ap (λ n. directory_word table n c.loop-word.word) c.table_pages-tables.ensures.pages) c.put.ensures;
      len = length_put c.loop-word.store c.put.new.self c.args.store.now _ c.directory_word.result c.put.ensures c.loop-word.invariant.len;
    }

pub returns-clause-written : goal.returns-clause-written
returns-clause-written c =
    directory_written c.loop-word.word c.args.store.now c.loop-word.store c.args.self.now.directory c.args.self.now.child.table (table_pages c.args.self.now.child.pages) (omega arith) c.loop-word.invariant.written
