use Rattle.std.proofs.Common.{refl}
use Rattle.hv_asm.specs.declared.AsmKind.TheVariants.{Byte, Syntax, Repeat, Mnemonic, Operand, Label, Range}
use Rattle.hv_line.specs.Kinds.{kind_word}
use Rattle.hv_grammar.specs.Kinds.{KindWordLaw}

pub words_alike : KindWordLaw
unfolding kind_word
words_alike Byte = refl
words_alike Syntax = refl
words_alike Repeat = refl
words_alike Mnemonic = refl
words_alike Operand = refl
words_alike Label = refl
words_alike Range = refl
