-- What a block says, as the code gives it.
use Rattle.hv_block.specs.declared.Block.{Block}
use Rattle.hv_block.specs.Block.{Contents}

-- the fields of a block
abbrev pub contents_of : Block → Contents
contents_of b = record { regs = b.cpu; pages = b.pages; table = b.table; version = b.version }
