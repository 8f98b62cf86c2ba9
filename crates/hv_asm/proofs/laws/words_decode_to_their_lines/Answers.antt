use Rattle.hv_asm.proofs.Imaged.{assembler_law}
use Rattle.hv_asm.proofs.laws.words_decode_to_their_lines.Goals as goal

pub returns : goal.returns
returns c = assembler_law
