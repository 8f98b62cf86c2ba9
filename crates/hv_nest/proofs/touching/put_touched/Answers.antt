-- The touched words are those that changed.
use Rattle.std.proofs.Common.{ℕ, List, [], ◌∷◌, ◌∙◌, arith}
use Rattle.hv_cpu.specs.Regs.{Regs}
use Rattle.hv_block.specs.Block.{regs_at}
use Rattle.hv_exec.specs.declared.touched.Touched.TheVariants.{File, Csr, TrapToM, TrapToS, Return}
use Rattle.hv_nest.specs.Notes.{undone}
use Rattle.hv_nest.specs.Touching.{csr_words, file_words}
use Rattle.hv_exec.specs.Touched.{return_words, trap_to_m_words, trap_to_s_words}
use Rattle.hv_nest.proofs.TouchedWords.{all_said, bare_named, csr_named, csr_rises, few_words, file_named, file_rises, return_rises, trap_to_m_rises, trap_to_s_rises, told_of}
use Rattle.hv_nest.proofs.touching.put_touched.Goals as goal

pub put_file-requires-clause-room : goal.put_file-requires-clause-room
put_file-requires-clause-room c =
    let O : List ℕ = undone c.args.store.now c.args.notes.now in
    let g : ℕ = c.args.page in
    let q : Regs = c.args.cpu.now in
    let S : List ℕ = c.args.store.now in
    let told = told_of c.args.touched (File c.in-File.register) (regs_at S g) q c.in-File.is c.requires.touches in
    omega (arith, few_words (regs_at O g) q (file_words c.in-File.register) (file_rises c.in-File.register told.0))

pub returns-in-File-clause-count : goal.returns-in-File-clause-count
returns-in-File-clause-count c =
    let O : List ℕ = undone c.args.store.now c.args.notes.now in
    let g : ℕ = c.args.page in
    let q : Regs = c.args.cpu.now in
    let S : List ℕ = c.args.store.now in
    let told = told_of c.args.touched (File c.in-File.register) (regs_at S g) q c.in-File.is c.requires.touches in
    omega (arith, few_words (regs_at O g) q (file_words c.in-File.register) (file_rises c.in-File.register told.0), c.put_file.ensures.count)

pub returns-in-File-clause-put : goal.returns-in-File-clause-put
returns-in-File-clause-put c =
    let S : List ℕ = c.args.store.now in
    let g : ℕ = c.args.page in
    let q : Regs = c.args.cpu.now in
    let told = told_of c.args.touched (File c.in-File.register) (regs_at S g) q c.in-File.is c.requires.touches in
    c.put_file.ensures.put
    ∙ all_said S g q (file_words c.in-File.register) (0 ∷ c.in-File.register ∷ []) c.requires.page (file_rises c.in-File.register told.0) (file_named c.in-File.register) told.1

pub put_file-requires-in-0-clause-room : goal.put_file-requires-in-0-clause-room
put_file-requires-in-0-clause-room c =
    let O : List ℕ = undone c.args.store.now c.args.notes.now in
    let g : ℕ = c.args.page in
    let q : Regs = c.args.cpu.now in
    let S : List ℕ = c.args.store.now in
    let told = told_of c.args.touched (Csr c.in-Csr.register c.in-Csr.word) (regs_at S g) q c.in-Csr.is c.requires.touches in
    omega (arith, few_words (regs_at O g) q (file_words c.in-Csr.register) (file_rises c.in-Csr.register told.0))

pub returns-in-0-clause-count : goal.returns-in-0-clause-count
returns-in-0-clause-count c =
    let O : List ℕ = undone c.args.store.now c.args.notes.now in
    let g : ℕ = c.args.page in
    let q : Regs = c.args.cpu.now in
    let S : List ℕ = c.args.store.now in
    let told = told_of c.args.touched (Csr c.in-Csr.register c.in-Csr.word) (regs_at S g) q c.in-Csr.is c.requires.touches in
    omega (arith, few_words (regs_at O g) q (file_words c.in-Csr.register) (file_rises c.in-Csr.register told.0), c.put_file-in-0.ensures.count)

pub returns-in-0-clause-put : goal.returns-in-0-clause-put
returns-in-0-clause-put c =
    let S : List ℕ = c.args.store.now in
    let g : ℕ = c.args.page in
    let q : Regs = c.args.cpu.now in
    let told = told_of c.args.touched (Csr c.in-Csr.register c.in-Csr.word) (regs_at S g) q c.in-Csr.is c.requires.touches in
    c.put_file-in-0.ensures.put
    ∙ all_said S g q (file_words c.in-Csr.register) (0 ∷ c.in-Csr.register ∷ c.in-Csr.word ∷ []) c.requires.page (file_rises c.in-Csr.register told.0) (λ k. bare_named c.in-Csr.register c.in-Csr.word k c.in-0.is) told.2

pub put_csr-requires-clause-room : goal.put_csr-requires-clause-room
put_csr-requires-clause-room c =
    let O : List ℕ = undone c.args.store.now c.args.notes.now in
    let g : ℕ = c.args.page in
    let q : Regs = c.args.cpu.now in
    let S : List ℕ = c.args.store.now in
    let told = told_of c.args.touched (Csr c.in-Csr.register c.in-Csr.word) (regs_at S g) q c.in-Csr.is c.requires.touches in
    omega (arith, few_words (regs_at O g) q (csr_words c.in-Csr.register c.in-Csr.word) (csr_rises c.in-Csr.register c.in-Csr.word told.0 (omega arith) told.1))

pub returns-in-32-to-48-clause-count : goal.returns-in-32-to-48-clause-count
returns-in-32-to-48-clause-count c =
    let O : List ℕ = undone c.args.store.now c.args.notes.now in
    let g : ℕ = c.args.page in
    let q : Regs = c.args.cpu.now in
    let S : List ℕ = c.args.store.now in
    let told = told_of c.args.touched (Csr c.in-Csr.register c.in-Csr.word) (regs_at S g) q c.in-Csr.is c.requires.touches in
    omega (arith, few_words (regs_at O g) q (csr_words c.in-Csr.register c.in-Csr.word) (csr_rises c.in-Csr.register c.in-Csr.word told.0 (omega arith) told.1), c.put_csr.ensures.count)

pub returns-in-32-to-48-clause-put : goal.returns-in-32-to-48-clause-put
returns-in-32-to-48-clause-put c =
    let S : List ℕ = c.args.store.now in
    let g : ℕ = c.args.page in
    let q : Regs = c.args.cpu.now in
    let told = told_of c.args.touched (Csr c.in-Csr.register c.in-Csr.word) (regs_at S g) q c.in-Csr.is c.requires.touches in
    c.put_csr.ensures.put
    ∙ all_said S g q (csr_words c.in-Csr.register c.in-Csr.word) (0 ∷ c.in-Csr.register ∷ c.in-Csr.word ∷ []) c.requires.page (csr_rises c.in-Csr.register c.in-Csr.word told.0 (omega arith) told.1) (csr_named c.in-Csr.register c.in-Csr.word) told.2

pub put_trap_to_m-requires-clause-room : goal.put_trap_to_m-requires-clause-room
put_trap_to_m-requires-clause-room c =
    let O : List ℕ = undone c.args.store.now c.args.notes.now in
    let g : ℕ = c.args.page in
    let q : Regs = c.args.cpu.now in
    omega (arith, few_words (regs_at O g) q trap_to_m_words trap_to_m_rises)

pub returns-in-TrapToM-clause-count : goal.returns-in-TrapToM-clause-count
returns-in-TrapToM-clause-count c =
    let O : List ℕ = undone c.args.store.now c.args.notes.now in
    let g : ℕ = c.args.page in
    let q : Regs = c.args.cpu.now in
    omega (arith, few_words (regs_at O g) q trap_to_m_words trap_to_m_rises, c.put_trap_to_m.ensures.count)

pub returns-in-TrapToM-clause-put : goal.returns-in-TrapToM-clause-put
returns-in-TrapToM-clause-put c =
    let S : List ℕ = c.args.store.now in
    let g : ℕ = c.args.page in
    let q : Regs = c.args.cpu.now in
    let told = told_of c.args.touched (TrapToM) (regs_at S g) q c.in-TrapToM.is c.requires.touches in
    c.put_trap_to_m.ensures.put
    ∙ all_said S g q trap_to_m_words trap_to_m_words c.requires.page trap_to_m_rises (λ k none. none) told

pub put_trap_to_s-requires-clause-room : goal.put_trap_to_s-requires-clause-room
put_trap_to_s-requires-clause-room c =
    let O : List ℕ = undone c.args.store.now c.args.notes.now in
    let g : ℕ = c.args.page in
    let q : Regs = c.args.cpu.now in
    omega (arith, few_words (regs_at O g) q trap_to_s_words trap_to_s_rises)

pub returns-in-TrapToS-clause-count : goal.returns-in-TrapToS-clause-count
returns-in-TrapToS-clause-count c =
    let O : List ℕ = undone c.args.store.now c.args.notes.now in
    let g : ℕ = c.args.page in
    let q : Regs = c.args.cpu.now in
    omega (arith, few_words (regs_at O g) q trap_to_s_words trap_to_s_rises, c.put_trap_to_s.ensures.count)

pub returns-in-TrapToS-clause-put : goal.returns-in-TrapToS-clause-put
returns-in-TrapToS-clause-put c =
    let S : List ℕ = c.args.store.now in
    let g : ℕ = c.args.page in
    let q : Regs = c.args.cpu.now in
    let told = told_of c.args.touched (TrapToS) (regs_at S g) q c.in-TrapToS.is c.requires.touches in
    c.put_trap_to_s.ensures.put
    ∙ all_said S g q trap_to_s_words trap_to_s_words c.requires.page trap_to_s_rises (λ k none. none) told

pub put_return-requires-clause-room : goal.put_return-requires-clause-room
put_return-requires-clause-room c =
    let O : List ℕ = undone c.args.store.now c.args.notes.now in
    let g : ℕ = c.args.page in
    let q : Regs = c.args.cpu.now in
    omega (arith, few_words (regs_at O g) q return_words return_rises)

pub returns-in-Return-clause-count : goal.returns-in-Return-clause-count
returns-in-Return-clause-count c =
    let O : List ℕ = undone c.args.store.now c.args.notes.now in
    let g : ℕ = c.args.page in
    let q : Regs = c.args.cpu.now in
    omega (arith, few_words (regs_at O g) q return_words return_rises, c.put_return.ensures.count)

pub returns-in-Return-clause-put : goal.returns-in-Return-clause-put
returns-in-Return-clause-put c =
    let S : List ℕ = c.args.store.now in
    let g : ℕ = c.args.page in
    let q : Regs = c.args.cpu.now in
    let told = told_of c.args.touched (Return) (regs_at S g) q c.in-Return.is c.requires.touches in
    c.put_return.ensures.put
    ∙ all_said S g q return_words return_words c.requires.page return_rises (λ k none. none) told
