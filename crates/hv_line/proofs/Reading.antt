-- The words of a line, one more at a time; and no directive has more than twelve words.
use Rattle.std.proofs.Common.{◌≡◌, ℕ, ◌+◌, ◌-◌, ◌<◌, ◌≤◌, nat_le, false, List, [], ◌∷◌, ◌++◌, length, take, drop, set, Bor, Err, refl, sym, ap, ◌∙◌, arith, append_assoc}
use Rattle.std.proofs.Math.Bool.{and-false}
use Rattle.std.proofs.Math.Seq.{take-length}
use Rattle.std.proofs.lemmas.List.{map-append, length-map, length-take-le, take-append-le, take_more_set, append-nil, take_all}
use Rattle.std.proofs.lemmas.Bool.Decides.{nat_tests}
use Rattle.hv_line.specs.Statements.{storage_line_of, storage_pages, storage_with, harts_directive_of, hart_directive_of, machine_directive_of, map_directive_of, start_directive_of, image_directive_of, sample_directive_of, word_directive_of, tower_directive_of, turn_directive_of, lines_directive_of, watch_directive_of, dump_directive_of, statement_with, statement_of, upgrade_directive_of, upgrade_in}
use Rattle.hv_line.specs.Commands.{step_command_of, break_command_of, regs_command_of, mem_command_of, path_command_of, map_command_of, faults_command_of, command_with, command_of}
use Rattle.hv_line.specs.Lines.{words_of}
use Rattle.hv_line.specs.Texts.{texts}
use Rattle.hv_line.proofs.Shapes.{text_at}
use Rattle.hv_line.specs.declared.kinds.JobKind.TheVariants as fault
use Rattle.hv_line.specs.declared.version.JobVersion.{JobVersion}
use Rattle.hv_line.specs.declared.version.JobVersion.TheVariants.{One, Two}

pub words_more : (ws : List (Bor (List ℕ))) (n : ℕ) (w : Bor (List ℕ)) (rest behind : List ℕ) (all : List (List ℕ)) → n < length ws → words_of rest ≡ w.now ∷ words_of behind → texts (take n ws) ++ words_of rest ≡ all → texts (take (n + 1) (set ws n w)) ++ words_of behind ≡ all
words_more ws n w rest behind all lt cut told =
    ap (λ x. texts x ++ words_of behind) (take_more_set ws n w lt)
    ∙ ap (λ x. x ++ words_of behind) (map-append (λ x. x.now) (take n ws) (w ∷ []))
    ∙ append_assoc (texts (take n ws)) (w.now ∷ []) (words_of behind)
    ∙ ap (λ x. texts (take n ws) ++ x) (sym cut)
    ∙ told

count_of : (ws : List (Bor (List ℕ))) (n : ℕ) → n ≤ length ws → length (texts (take n ws)) ≡ n
count_of ws n le = simp length-map (length-take-le n ws le)

-- a line with at most thirteen words
pub words_end : (ws : List (Bor (List ℕ))) (n : ℕ) (rest : List ℕ) (all : List (List ℕ)) → n ≤ length ws → n ≤ 13 → words_of rest ≡ [] → texts (take n ws) ++ words_of rest ≡ all → texts (take n ws) ≡ take 13 all
words_end ws n rest all le few none told =
    let e : texts (take n ws) ≡ all = sym (append-nil (texts (take n ws))) ∙ ap (λ x. texts (take n ws) ++ x) (sym none) ∙ told in
    let l : length all ≤ 13 = omega (arith, ap length e, count_of ws n le) in
    e ∙ sym (take_all 13 all l)

-- the thirteenth word
pub words_full : (ws : List (Bor (List ℕ))) (n : ℕ) (behind all : List (List ℕ)) → n ≤ length ws → n ≡ 13 → texts (take n ws) ++ behind ≡ all → texts (take n ws) ≡ take 13 all
words_full ws n behind all le full told =
    let h = texts (take n ws) in
    let l : 13 ≡ length h = sym full ∙ sym (count_of ws n le) in
    let k : 13 ≤ length h = omega arith in
    sym (ap (take 13) (sym told) ∙ take-append-le 13 h behind k ∙ rw l (take-length h))

word_long : (name a : List ℕ) (values : List (List ℕ)) → 9 ≤ length values → word_directive_of (name ∷ a ∷ values) ≡ Err fault.Words
unfolding word_directive_of
word_long name a values long =
    let many : nat_le (length values) 8 ≡ false = grind (arith, nat_tests) in
    simp (many, and-false)

upgrade_long : (version : JobVersion) (name d more : List ℕ) (ws others : List (List ℕ)) → upgrade_in version (name ∷ d ∷ more ∷ ws) ≡ upgrade_in version (name ∷ d ∷ more ∷ others)
unfolding upgrade_in upgrade_directive_of
upgrade_long One name d more ws others = refl
upgrade_long Two name d more ws others = refl

words_over : (version : JobVersion) (w0 w1 w2 w3 w4 w5 w6 w7 w8 w9 w10 w11 w12 : List ℕ) (ws : List (List ℕ)) → statement_with version w0 (w1 ∷ w2 ∷ w3 ∷ w4 ∷ w5 ∷ w6 ∷ w7 ∷ w8 ∷ w9 ∷ w10 ∷ w11 ∷ w12 ∷ []) ≡ statement_with version w0 (w1 ∷ w2 ∷ w3 ∷ w4 ∷ w5 ∷ w6 ∷ w7 ∷ w8 ∷ w9 ∷ w10 ∷ w11 ∷ w12 ∷ ws)
unfolding statement_with harts_directive_of hart_directive_of machine_directive_of map_directive_of start_directive_of image_directive_of sample_directive_of tower_directive_of turn_directive_of lines_directive_of watch_directive_of dump_directive_of
words_over version w0 w1 w2 w3 w4 w5 w6 w7 w8 w9 w10 w11 w12 ws =
    simp (word_long w1 w2 (w3 ∷ w4 ∷ w5 ∷ w6 ∷ w7 ∷ w8 ∷ w9 ∷ w10 ∷ w11 ∷ w12 ∷ []) (omega arith), word_long w1 w2 (w3 ∷ w4 ∷ w5 ∷ w6 ∷ w7 ∷ w8 ∷ w9 ∷ w10 ∷ w11 ∷ w12 ∷ ws) (omega arith), upgrade_long version w1 w2 w3 (w4 ∷ w5 ∷ w6 ∷ w7 ∷ w8 ∷ w9 ∷ w10 ∷ w11 ∷ w12 ∷ ws) (w4 ∷ w5 ∷ w6 ∷ w7 ∷ w8 ∷ w9 ∷ w10 ∷ w11 ∷ w12 ∷ []))

-- the words behind the thirteenth don't matter
pub statement_short : (version : JobVersion) (ws : List (List ℕ)) → statement_of version (take 13 ws) ≡ statement_of version ws
unfolding statement_of
statement_short version [] = refl
statement_short version (w0 ∷ []) = refl
statement_short version (w0 ∷ w1 ∷ []) = refl
statement_short version (w0 ∷ w1 ∷ w2 ∷ []) = refl
statement_short version (w0 ∷ w1 ∷ w2 ∷ w3 ∷ []) = refl
statement_short version (w0 ∷ w1 ∷ w2 ∷ w3 ∷ w4 ∷ []) = refl
statement_short version (w0 ∷ w1 ∷ w2 ∷ w3 ∷ w4 ∷ w5 ∷ []) = refl
statement_short version (w0 ∷ w1 ∷ w2 ∷ w3 ∷ w4 ∷ w5 ∷ w6 ∷ []) = refl
statement_short version (w0 ∷ w1 ∷ w2 ∷ w3 ∷ w4 ∷ w5 ∷ w6 ∷ w7 ∷ []) = refl
statement_short version (w0 ∷ w1 ∷ w2 ∷ w3 ∷ w4 ∷ w5 ∷ w6 ∷ w7 ∷ w8 ∷ []) = refl
statement_short version (w0 ∷ w1 ∷ w2 ∷ w3 ∷ w4 ∷ w5 ∷ w6 ∷ w7 ∷ w8 ∷ w9 ∷ []) = refl
statement_short version (w0 ∷ w1 ∷ w2 ∷ w3 ∷ w4 ∷ w5 ∷ w6 ∷ w7 ∷ w8 ∷ w9 ∷ w10 ∷ []) = refl
statement_short version (w0 ∷ w1 ∷ w2 ∷ w3 ∷ w4 ∷ w5 ∷ w6 ∷ w7 ∷ w8 ∷ w9 ∷ w10 ∷ w11 ∷ []) = refl
statement_short version (w0 ∷ w1 ∷ w2 ∷ w3 ∷ w4 ∷ w5 ∷ w6 ∷ w7 ∷ w8 ∷ w9 ∷ w10 ∷ w11 ∷ w12 ∷ ws) = words_over version w0 w1 w2 w3 w4 w5 w6 w7 w8 w9 w10 w11 w12 ws

statement_first : (version : JobVersion) (ws : List (Bor (List ℕ))) → 1 ≤ length ws → statement_with version (text_at ws 0) (texts (take (length ws - 1) (drop 1 ws))) ≡ statement_of version (texts ws)
unfolding statement_of
statement_first version [] some = absurd (omega arith)
statement_first version (w ∷ ws) some = ap (λ x. statement_with version w.now (texts x)) (take_all (length (w ∷ ws) - 1) ws (omega arith))

pub statement_read : (version : JobVersion) (ws kept : List (Bor (List ℕ))) (all : List (List ℕ)) → ws ≡ kept → 1 ≤ length ws → texts kept ≡ take 13 all → statement_with version (text_at ws 0) (texts (take (length ws - 1) (drop 1 ws))) ≡ statement_of version all
statement_read version ws kept all same some told = statement_first version ws some ∙ ap (λ x. statement_of version (texts x)) same ∙ ap (statement_of version) told ∙ statement_short version all

-- the same of commands
command_short : (version : JobVersion) (ws : List (List ℕ)) → command_of version (take 13 ws) ≡ command_of version ws
unfolding command_of command_with step_command_of break_command_of regs_command_of mem_command_of path_command_of map_command_of faults_command_of
command_short version [] = refl
command_short version (w0 ∷ []) = refl
command_short version (w0 ∷ w1 ∷ []) = refl
command_short version (w0 ∷ w1 ∷ w2 ∷ []) = refl
command_short version (w0 ∷ w1 ∷ w2 ∷ w3 ∷ ws) = refl

command_first : (version : JobVersion) (ws : List (Bor (List ℕ))) → 1 ≤ length ws → command_with version (text_at ws 0) (texts (take (length ws - 1) (drop 1 ws))) ≡ command_of version (texts ws)
unfolding command_of
command_first version [] some = absurd (omega arith)
command_first version (w ∷ ws) some = ap (λ x. command_with version w.now (texts x)) (take_all (length (w ∷ ws) - 1) ws (omega arith))

pub command_read : (version : JobVersion) (ws kept : List (Bor (List ℕ))) (all : List (List ℕ)) → ws ≡ kept → 1 ≤ length ws → texts kept ≡ take 13 all → command_with version (text_at ws 0) (texts (take (length ws - 1) (drop 1 ws))) ≡ command_of version all
command_read version ws kept all same some told = command_first version ws some ∙ ap (λ x. command_of version (texts x)) same ∙ ap (command_of version) told ∙ command_short version all

-- the same of the storage
storage_short : (ws : List (List ℕ)) → storage_line_of (take 13 ws) ≡ storage_line_of ws
unfolding storage_line_of storage_with storage_pages
storage_short [] = refl
storage_short (w0 ∷ []) = refl
storage_short (w0 ∷ w1 ∷ []) = refl
storage_short (w0 ∷ w1 ∷ w2 ∷ ws) = refl

storage_first : (ws : List (Bor (List ℕ))) → 1 ≤ length ws → storage_with (text_at ws 0) (texts (take (length ws - 1) (drop 1 ws))) ≡ storage_line_of (texts ws)
unfolding storage_line_of
storage_first [] some = absurd (omega arith)
storage_first (w ∷ ws) some = ap (λ x. storage_with w.now (texts x)) (take_all (length (w ∷ ws) - 1) ws (omega arith))

pub storage_read : (ws kept : List (Bor (List ℕ))) (all : List (List ℕ)) → ws ≡ kept → 1 ≤ length ws → texts kept ≡ take 13 all → storage_with (text_at ws 0) (texts (take (length ws - 1) (drop 1 ws))) ≡ storage_line_of all
storage_read ws kept all same some told = storage_first ws some ∙ ap (λ x. storage_line_of (texts x)) same ∙ ap storage_line_of told ∙ storage_short all
