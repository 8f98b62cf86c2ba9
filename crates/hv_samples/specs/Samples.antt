-- The texts of four small monitors, in assembly.
use Rattle.std.specs.Prelude.{ℕ, List, [], ◌∷◌, ◌++◌, codes}
use Rattle.hv_samples.specs.declared.choice.Sample.{Sample}
use Rattle.hv_samples.specs.declared.choice.Sample.TheVariants.{Pass, Slicer, Forward, Pager}

-- these lines, each ended by a line feed
abbrev pub text_of : List (List ℕ) → List ℕ
text_of [] = []
text_of (line ∷ lines) = line ++ 10 ∷ text_of lines

-- enters the child at page 1 for ever
abbrev pub pass_lines : List (List ℕ)
pass_lines =
    codes "start:  li x5, 0x1000" ∷
    codes "again:  vmenter x5" ∷
    codes "        j again" ∷
    []

-- two children in turn, by timer interrupts; hart h has their blocks at pages 1 + 2 * h and 2 + 2 * h
abbrev pub slicer_lines : List (List ℕ)
slicer_lines =
    codes "        csrr x6, mhartid" ∷
    codes "        slli x6, x6, 13" ∷
    codes "        li x5, 0x1000" ∷
    codes "        add x5, x5, x6" ∷
    codes "        li x7, 0x3000" ∷
    codes "        add x7, x7, x6" ∷
    codes "        add x7, x7, x6" ∷
    codes "        la x6, tick" ∷
    codes "        csrw mtvec, x6" ∷
    codes "        li x6, 0x80" ∷
    codes "        csrw mie, x6" ∷
    codes "        csrrsi x0, mstatus, 8" ∷
    codes "again:  vmenter x5" ∷
    codes "        j again" ∷
    codes "tick:   sub x5, x7, x5" ∷
    codes "        mret" ∷
    []

-- hands the first raised lines on to the child at page 1, once
abbrev pub forward_lines : List (List ℕ)
forward_lines =
    codes "        la x6, tick" ∷
    codes "        csrw mtvec, x6" ∷
    codes "        li x6, 0x888" ∷
    codes "        csrw mie, x6" ∷
    codes "        li x5, 0x1000" ∷
    codes "        csrrsi x0, mstatus, 8" ∷
    codes "again:  vmenter x5" ∷
    codes "        j again" ∷
    codes "tick:   csrr x6, mip" ∷
    codes "        csrr x8, mie" ∷
    codes "        and x6, x6, x8" ∷
    codes "        lw x7, 168(x5)" ∷
    codes "        or x7, x7, x6" ∷
    codes "        sw x7, 168(x5)" ∷
    codes "        csrw mie, x0" ∷
    codes "        mret" ∷
    []

-- the child at page 1 with one table page at page 2; the child's page i is the page 3 + i, made present when it is
-- first missed
abbrev pub pager_lines : List (List ℕ)
pager_lines =
    codes "        li x5, 0x1000" ∷
    codes "again:  vmenter x5" ∷
    codes "        lw x6, 288(x5)" ∷
    codes "        li x7, 1" ∷
    codes "        bne x6, x7, again" ∷
    codes "        lw x6, 292(x5)" ∷
    codes "        srli x6, x6, 12" ∷
    codes "        addi x7, x6, 3" ∷
    codes "        slli x7, x7, 12" ∷
    codes "        ori x7, x7, 3" ∷
    codes "        slli x6, x6, 2" ∷
    codes "        li x8, 0x2000" ∷
    codes "        add x8, x8, x6" ∷
    codes "        sw x7, 0(x8)" ∷
    codes "        j again" ∷
    []

-- the text of a sample
unfoldable pub sample_text : Sample → List ℕ
sample_text Pass = text_of pass_lines
sample_text Slicer = text_of slicer_lines
sample_text Forward = text_of forward_lines
sample_text Pager = text_of pager_lines
