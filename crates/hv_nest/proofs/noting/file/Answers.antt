-- The array of the registers is their list.
use Rattle.std.proofs.Common.{ℕ, List, take, drop, ap, ◌∙◌, sym}
use Rattle.hv_cpu.specs.Arrays.{file_is}
use Rattle.hv_cpu.specs.Regs.{Regs, file_of}
use Rattle.hv_nest.proofs.noting.file.Goals as goal

pub returns : goal.returns
returns c =
    ap (λ (xs : List ℕ). take 31 (drop 1 xs)) (sym (file_is c.cpu.inside c.cpu.invariant))
    ∙ ap (λ (r : Regs). drop 1 (file_of r)) c.cpu.view_is
