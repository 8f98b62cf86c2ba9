use Rattle.std.proofs.Common.{◌≡◌, ◌+◌, ◌*◌, ◌%◌, ◌^◌, take}
use Rattle.std.specs.Prelude.{fold}
use Rattle.hv_asm.proofs.label_names.head.Given as goal

-- the number of the bytes so far
abbrev pub invariant-loop-byte : goal.invariant-loop-byte
invariant-loop-byte l = l.head ≡ fold (λ head byte. (head * 256 % 2 ^ 64 + byte) % 2 ^ 64) 0 (take l.byte-index l.front)
