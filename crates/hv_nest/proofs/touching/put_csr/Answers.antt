-- The word of a control register goes behind those of a register.
use Rattle.std.proofs.Common.{ℕ, List, length, arith}
use Rattle.hv_cpu.specs.Regs.{Regs}
use Rattle.hv_nest.specs.Notes.{undone}
use Rattle.hv_nest.proofs.TouchedWords.{csr_step}
use Rattle.hv_nest.proofs.touching.put_csr.Goals as goal

pub put_word-requires-clause-room : goal.put_word-requires-clause-room
put_word-requires-clause-room c =
    let O : List ℕ = undone c.args.store.now c.args.notes.now in
    let g : ℕ = c.args.page in
    let q : Regs = c.args.cpu.now in
    omega (arith, csr_step O (undone c.put_file.new.store c.put_file.new.notes) g c.args.register c.args.word (length c.args.notes.now) (length c.put_file.new.notes) c.control_word.result q c.put_file.ensures.origin c.control_word.ensures c.requires.word c.put_file.ensures.count)

pub returns-clause-count : goal.returns-clause-count
returns-clause-count c =
    let O : List ℕ = undone c.args.store.now c.args.notes.now in
    let g : ℕ = c.args.page in
    let q : Regs = c.args.cpu.now in
    omega (arith, csr_step O (undone c.put_file.new.store c.put_file.new.notes) g c.args.register c.args.word (length c.args.notes.now) (length c.put_file.new.notes) c.control_word.result q c.put_file.ensures.origin c.control_word.ensures c.requires.word c.put_file.ensures.count)
