-- What `tokens` answers, beside the tokens of the line.
use Rattle.std.specs.Prelude.{◌≡◌, List, Result, Ok, Err, Vec}
use Rattle.std.specs.declared.alloc.Global.{Global}
use Rattle.hv_lex.specs.declared.Token.{Token}
use Rattle.hv_lex.specs.declared.LexEnd.{LexEnd}
use Rattle.hv_lex.specs.declared.LexEnd.TheVariants.{BadByte, BadNumber, Memory}

-- a refusal is the one that the line has; memory may be wanting whatever it has
abbrev pub Refuses : LexEnd → Result (List Token) LexEnd → Type 0
Refuses (BadByte at) line = line ≡ Err (BadByte at)
Refuses (BadNumber at) line = line ≡ Err (BadNumber at)
Refuses Memory line = Unit {0}

-- the tokens are those that the line has
abbrev pub Gives : Result (Vec Token Global) LexEnd → Result (List Token) LexEnd → Type 0
Gives (Ok tokens) line = line ≡ Ok tokens.items
Gives (Err end) line = Refuses end line
