-- The registers are the pc, the file, the control registers and the next.
use Rattle.std.proofs.Common.{◌≡◌, ℕ, ◌+◌, ◌*◌, ◌≤◌, List, length, set, ap, ◌∙◌, arith}
use Rattle.hv_cpu.specs.Regs.{Regs}
use Rattle.hv_nest.specs.Notes.{undone}
use Rattle.hv_nest.proofs.Undone.{length-undone}
use Rattle.hv_nest.proofs.Changing.{all_put, control_room, file_room, last_count, last_room, pc_room}
use Rattle.hv_nest.proofs.noting.put_cpu.Goals as goal

pub put-requires-clause-room : goal.put-requires-clause-room
put-requires-clause-room c =
    let O : List ℕ = undone c.args.store.now c.args.notes.now in
    let g : ℕ = c.args.page in
    let q : Regs = c.args.cpu.now in
    let n : ℕ = length c.args.notes.now in
    let long : 1024 * g + 65 ≤ length O = omega (arith, c.pages-pages.ensures, c.requires.page, length-undone c.args.store.now c.args.notes.now) in
    let pc : c.cpu.inside.pc ≡ q.pc = ap (λ (r : Regs). r.pc) c.cpu.view_is in
    pc_room O g n c.cpu.inside.pc q long pc c.requires.room

pub put_row-requires-clause-room : goal.put_row-requires-clause-room
put_row-requires-clause-room c =
    let O : List ℕ = undone c.args.store.now c.args.notes.now in
    let g : ℕ = c.args.page in
    let q : Regs = c.args.cpu.now in
    let n : ℕ = length c.args.notes.now in
    let long : 1024 * g + 65 ≤ length O = omega (arith, c.pages-pages.ensures, c.requires.page, length-undone c.args.store.now c.args.notes.now) in
    let pc : c.cpu.inside.pc ≡ q.pc = ap (λ (r : Regs). r.pc) c.cpu.view_is in
    file_room O g n c.cpu.inside.pc q long pc c.requires.room (undone c.put.new.store c.put.new.self) (length c.put.new.self) c.put.ensures.origin c.put.ensures.count c.put.ensures.kept c.file.result.now c.file.ensures

pub put_row-requires-2-clause-room : goal.put_row-requires-2-clause-room
put_row-requires-2-clause-room c =
    let O : List ℕ = undone c.args.store.now c.args.notes.now in
    let g : ℕ = c.args.page in
    let q : Regs = c.args.cpu.now in
    let n : ℕ = length c.args.notes.now in
    let long : 1024 * g + 65 ≤ length O = omega (arith, c.pages-pages.ensures, c.requires.page, length-undone c.args.store.now c.args.notes.now) in
    let pc : c.cpu.inside.pc ≡ q.pc = ap (λ (r : Regs). r.pc) c.cpu.view_is in
    control_room O g n c.cpu.inside.pc q long pc c.requires.room (undone c.put.new.store c.put.new.self) (length c.put.new.self) c.put.ensures.origin c.put.ensures.count c.put.ensures.kept c.file.result.now c.file.ensures (undone c.put_row.new.store c.put_row.new.notes) (length c.put_row.new.notes) c.put_row.ensures.origin c.put_row.ensures.count c.control_words.result c.control_words.ensures

pub put-requires-2-clause-room : goal.put-requires-2-clause-room
put-requires-2-clause-room c =
    let O : List ℕ = undone c.args.store.now c.args.notes.now in
    let g : ℕ = c.args.page in
    let q : Regs = c.args.cpu.now in
    let n : ℕ = length c.args.notes.now in
    let long : 1024 * g + 65 ≤ length O = omega (arith, c.pages-pages.ensures, c.requires.page, length-undone c.args.store.now c.args.notes.now) in
    let pc : c.cpu.inside.pc ≡ q.pc = ap (λ (r : Regs). r.pc) c.cpu.view_is in
    last_room O g n c.cpu.inside.pc q long pc c.requires.room (undone c.put.new.store c.put.new.self) (length c.put.new.self) c.put.ensures.origin c.put.ensures.count c.put.ensures.kept c.file.result.now c.file.ensures (undone c.put_row.new.store c.put_row.new.notes) (length c.put_row.new.notes) c.put_row.ensures.origin c.put_row.ensures.count c.control_words.result c.control_words.ensures (undone c.put_row-2.new.store c.put_row-2.new.notes) (length c.put_row-2.new.notes) c.next_word.result c.put_row-2.ensures.origin c.put_row-2.ensures.count c.next_word.ensures

pub returns-clause-count : goal.returns-clause-count
returns-clause-count c =
    let O : List ℕ = undone c.args.store.now c.args.notes.now in
    let g : ℕ = c.args.page in
    let q : Regs = c.args.cpu.now in
    let n : ℕ = length c.args.notes.now in
    let long : 1024 * g + 65 ≤ length O = omega (arith, c.pages-pages.ensures, c.requires.page, length-undone c.args.store.now c.args.notes.now) in
    let pc : c.cpu.inside.pc ≡ q.pc = ap (λ (r : Regs). r.pc) c.cpu.view_is in
    last_count O g n c.cpu.inside.pc q long pc c.requires.room (undone c.put.new.store c.put.new.self) (length c.put.new.self) c.put.ensures.origin c.put.ensures.count c.put.ensures.kept c.file.result.now c.file.ensures (undone c.put_row.new.store c.put_row.new.notes) (length c.put_row.new.notes) c.put_row.ensures.origin c.put_row.ensures.count c.control_words.result c.control_words.ensures (undone c.put_row-2.new.store c.put_row-2.new.notes) (length c.put_row-2.new.notes) c.next_word.result c.put_row-2.ensures.origin c.put_row-2.ensures.count c.next_word.ensures (length c.put-2.new.self) c.put-2.ensures.count c.put-2.ensures.kept

pub returns-clause-put : goal.returns-clause-put
returns-clause-put c =
    let g : ℕ = c.args.page in
    let q : Regs = c.args.cpu.now in
    let pc : c.cpu.inside.pc ≡ q.pc = ap (λ (r : Regs). r.pc) c.cpu.view_is in
    all_put c.args.store.now c.put.new.store c.put_row.new.store c.put_row-2.new.store c.put-2.new.store c.file.result.now c.control_words.result g c.next_word.result q (c.put.ensures.put ∙ ap (λ (w : ℕ). set c.args.store.now (1024 * g) w) pc) c.put_row.ensures.put c.put_row-2.ensures.put c.put-2.ensures.put c.file.ensures c.control_words.ensures c.next_word.ensures
