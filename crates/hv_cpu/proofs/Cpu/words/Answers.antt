-- Written out, the three parts are the fifty words.
use Rattle.std.proofs.Common.{◌≡◌, ℕ, List, take, drop, refl, sym, ap, ◌∙◌}
use Rattle.hv_cpu.specs.Arrays.{file_is}
use Rattle.hv_cpu.specs.Regs.{Regs, file_of, spelled}
use Rattle.hv_cpu.specs.View.{regs_of}
use Rattle.hv_cpu.proofs.Cpu.words.Goals as goal

pub returns : goal.returns
returns c =
    let first : c.copy_from_slice.new.self ≡ take 31 (drop 1 (file_of (regs_of c.self.inside))) =
    c.copy_from_slice.ensures.after ∙ ap (λ (xs : List ℕ). take 31 (drop 1 xs)) (sym (file_is c.self.inside c.self.invariant))
    in
    let rest : c.copy_from_slice-2.new.self ≡ drop 32 (spelled (regs_of c.self.inside)) =
    c.copy_from_slice-2.ensures.after ∙ c.control_words.ensures ∙ ap (λ (r : Regs). drop 32 (spelled r)) (sym c.self.view_is)
    in
    rw (first, rest, ← c.self.view_is) (refl {a = spelled (regs_of c.self.inside)})
