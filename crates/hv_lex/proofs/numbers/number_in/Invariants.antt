use Rattle.std.proofs.Common.{◌≡◌, ◌<◌, ◌^◌, drop}
use Rattle.hv_lex.specs.Numbers.{spelled_from}
use Rattle.hv_lex.proofs.numbers.number_in.Given as goal

-- what is left, behind the number so far, spells what all digits spell
abbrev pub invariant-loop-byte : goal.invariant-loop-byte
invariant-loop-byte l = record {
  fits : l.value < 2 ^ 32;
  rest : spelled_from l.base l.value (drop l.byte-index l.digits) ≡ spelled_from l.base 0 l.digits;
}
