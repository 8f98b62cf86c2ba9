-- The words of a register that is written.
use Rattle.std.proofs.Common.{◌≡◌, ℕ, ◌+◌, ◌*◌, List, length, get_or, set, ap, ◌∙◌, arith}
use Rattle.hv_cpu.specs.Regs.{Regs, file_of}
use Rattle.hv_nest.specs.Notes.{undone}
use Rattle.hv_nest.proofs.TouchedWords.{file_put, file_step}
use Rattle.hv_nest.proofs.touching.put_file.Goals as goal

pub put_word-requires-then-register-ne0-clause-room : goal.put_word-requires-then-register-ne0-clause-room
put_word-requires-then-register-ne0-clause-room c =
    let O : List ℕ = undone c.args.store.now c.args.notes.now in
    let g : ℕ = c.args.page in
    let q : Regs = c.args.cpu.now in
    let pc : c.cpu.inside.pc ≡ q.pc = ap (λ (r : Regs). r.pc) c.cpu.view_is in
    omega (arith, file_step O (undone c.put_word.new.store c.put_word.new.notes) g c.args.register (length c.args.notes.now) (length c.put_word.new.notes) c.cpu.inside.pc c.x.result q c.put_word.ensures.origin pc c.x.ensures c.if-register-ne0.true c.requires.register c.put_word.ensures.count)

pub returns-then-register-ne0-clause-count : goal.returns-then-register-ne0-clause-count
returns-then-register-ne0-clause-count c =
    let O : List ℕ = undone c.args.store.now c.args.notes.now in
    let g : ℕ = c.args.page in
    let q : Regs = c.args.cpu.now in
    let pc : c.cpu.inside.pc ≡ q.pc = ap (λ (r : Regs). r.pc) c.cpu.view_is in
    omega (arith, file_step O (undone c.put_word.new.store c.put_word.new.notes) g c.args.register (length c.args.notes.now) (length c.put_word.new.notes) c.cpu.inside.pc c.x.result q c.put_word.ensures.origin pc c.x.ensures c.if-register-ne0.true c.requires.register c.put_word.ensures.count)

pub returns-then-register-ne0-clause-put : goal.returns-then-register-ne0-clause-put
returns-then-register-ne0-clause-put c =
    let S : List ℕ = c.args.store.now in
    let g : ℕ = c.args.page in
    let i : ℕ = c.args.register in
    let q : Regs = c.args.cpu.now in
    let pc : c.cpu.inside.pc ≡ q.pc = ap (λ (r : Regs). r.pc) c.cpu.view_is in
    c.put_word-then-register-ne0.ensures.put
    ∙ (λ t. set (c.put_word.ensures.put t) (1024 * g + i) (c.x.ensures t))
    ∙ ap (λ (v : ℕ). set (set S (1024 * g + 0) v) (1024 * g + i) (get_or (file_of q) i 0)) pc
    ∙ file_put S g i q c.if-register-ne0.true c.requires.register
