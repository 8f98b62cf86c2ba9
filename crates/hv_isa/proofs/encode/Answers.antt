use Rattle.hv_isa.proofs.Decoding.{decode_of-row}
use Rattle.hv_isa.proofs.encode.Goals as goal

pub returns-clause-back : goal.returns-clause-back
returns-clause-back c =
    decode_of-row c.args.instr.now c.spell_row.result (record { fits = c.requires; word = c.spell_row.ensures })
