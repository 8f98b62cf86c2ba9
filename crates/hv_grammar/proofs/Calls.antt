-- The commands of the debugger and their forms.
use Rattle.std.proofs.Common.{◌≡◌, ℕ, List, [], ◌∷◌, codes, Result, Ok, Err, refl, ap, ◌∙◌, arith}
use Rattle.hv_limits.specs.Limits.{steps_limit}
use Rattle.hv_line.specs.Statements.{address, between, hart, named, number, page}
use Rattle.hv_line.specs.Commands.{break_command_of, command_with, command_of, faults_command_of, map_command_of, mem_command_of, path_command_of, regs_command_of, step_command_of}
use Rattle.hv_line.specs.declared.kinds.JobKind.{JobKind}
use Rattle.hv_line.specs.declared.kinds.JobKind.TheVariants as fault
use Rattle.hv_line.specs.declared.types.DebugCommand.{DebugCommand}
use Rattle.hv_line.specs.declared.types.DebugCommand.TheVariants as command
use Rattle.hv_line.specs.declared.version.JobVersion.{JobVersion}
use Rattle.hv_line.proofs.Ranging.{then_ok}
use Rattle.hv_grammar.specs.Forms.{AreWords, Call, CommandFormLaw, IsCall, IsCallInRange, StepCall, BreakCall, RegsCall, MemCall, PathCall, MapCall, FaultsCall, call_words, calls_for}
use Rattle.hv_grammar.proofs.Tests.{address_is, address_says, are_length, between_is, between_says, first_or, hart_is, hart_says, named_is, named_says, number_is, number_says, page_is, page_says, then_is}

refused : {G : Type 0} (kind : JobKind) (what : DebugCommand) → (let r : Result DebugCommand JobKind = Err kind in r) ≡ Ok what → G
refused kind what is = cc

told : (x y : DebugCommand) → (let r : Result DebugCommand JobKind = Ok x in r) ≡ Ok y → x ≡ y
told x y is = cc

step_is : (version : JobVersion) (n : ℕ) (words : List (List ℕ)) → IsCallInRange version (StepCall n) → AreWords (call_words (StepCall n)) words → command_of version words ≡ Ok (command.Step n)
unfolding command_of command_with step_command_of
step_is version n (w0 ∷ w1 ∷ []) range are =
    ap (λ w. command_with version w (w1 ∷ [])) are.0 ∙
    then_is _ _ n _ (between_is 1 steps_limit w1 n are.1.0 range.0 range.1)
    refl
step_is version n words range are = absurd (omega (arith, are_length (call_words (StepCall n)) words are))

step_called : (version : JobVersion) (w0 : List ℕ) (words : List (List ℕ)) (what : DebugCommand) → w0 ≡ codes "step" → step_command_of words ≡ Ok what → IsCall version (w0 ∷ words) what
unfolding step_command_of
step_called version w0 (w1 ∷ []) what first is =
    let s1 = then_ok (between 1 steps_limit w1) _ what is in
    let f1 = between_says 1 steps_limit w1 s1.0 s1.1 in
    record { call = StepCall s1.0; range = (f1.1, f1.2); written = (first, (f1.0, tt)); calls = told (command.Step s1.0) what s1.2 }
step_called version w0 _ what first is = refused _ what is

break_is : (version : JobVersion) (name : List ℕ) (a : ℕ) (words : List (List ℕ)) → IsCallInRange version (BreakCall name a) → AreWords (call_words (BreakCall name a)) words → command_of version words ≡ Ok (command.Break name a)
unfolding command_of command_with break_command_of
break_is version name a (w0 ∷ w1 ∷ w2 ∷ []) range are =
    ap (λ w. command_with version w (w1 ∷ w2 ∷ [])) are.0 ∙
    then_is _ _ name _ (named_is w1 name are.1.0.0 are.1.0.1)
    (then_is _ _ a _ (number_is w2 a are.1.1.0)
    refl)
break_is version name a words range are = absurd (omega (arith, are_length (call_words (BreakCall name a)) words are))

break_called : (version : JobVersion) (w0 : List ℕ) (words : List (List ℕ)) (what : DebugCommand) → w0 ≡ codes "break" → break_command_of words ≡ Ok what → IsCall version (w0 ∷ words) what
unfolding break_command_of
break_called version w0 (w1 ∷ w2 ∷ []) what first is =
    let s1 = then_ok (named w1) _ what is in
    let f1 = named_says w1 s1.0 s1.1 in
    let s2 = then_ok (number w2) _ what s1.2 in
    let f2 = number_says w2 s2.0 s2.1 in
    record { call = BreakCall s1.0 s2.0; range = tt; written = (first, (f1, (f2, tt))); calls = told (command.Break s1.0 s2.0) what s2.2 }
break_called version w0 _ what first is = refused _ what is

regs_is : (version : JobVersion) (name : List ℕ) (words : List (List ℕ)) → IsCallInRange version (RegsCall name) → AreWords (call_words (RegsCall name)) words → command_of version words ≡ Ok (command.Regs name)
unfolding command_of command_with regs_command_of
regs_is version name (w0 ∷ w1 ∷ []) range are =
    ap (λ w. command_with version w (w1 ∷ [])) are.0 ∙
    then_is _ _ name _ (named_is w1 name are.1.0.0 are.1.0.1)
    refl
regs_is version name words range are = absurd (omega (arith, are_length (call_words (RegsCall name)) words are))

regs_called : (version : JobVersion) (w0 : List ℕ) (words : List (List ℕ)) (what : DebugCommand) → w0 ≡ codes "regs" → regs_command_of words ≡ Ok what → IsCall version (w0 ∷ words) what
unfolding regs_command_of
regs_called version w0 (w1 ∷ []) what first is =
    let s1 = then_ok (named w1) _ what is in
    let f1 = named_says w1 s1.0 s1.1 in
    record { call = RegsCall s1.0; range = tt; written = (first, (f1, tt)); calls = told (command.Regs s1.0) what s1.2 }
regs_called version w0 _ what first is = refused _ what is

mem_is : (version : JobVersion) (name : List ℕ) (a : ℕ) (words : List (List ℕ)) → IsCallInRange version (MemCall name a) → AreWords (call_words (MemCall name a)) words → command_of version words ≡ Ok (command.Mem name a)
unfolding command_of command_with mem_command_of
mem_is version name a (w0 ∷ w1 ∷ w2 ∷ []) range are =
    ap (λ w. command_with version w (w1 ∷ w2 ∷ [])) are.0 ∙
    then_is _ _ name _ (named_is w1 name are.1.0.0 are.1.0.1)
    (then_is _ _ a _ (address_is w2 a are.1.1.0 range)
    refl)
mem_is version name a words range are = absurd (omega (arith, are_length (call_words (MemCall name a)) words are))

mem_called : (version : JobVersion) (w0 : List ℕ) (words : List (List ℕ)) (what : DebugCommand) → w0 ≡ codes "mem" → mem_command_of words ≡ Ok what → IsCall version (w0 ∷ words) what
unfolding mem_command_of
mem_called version w0 (w1 ∷ w2 ∷ []) what first is =
    let s1 = then_ok (named w1) _ what is in
    let f1 = named_says w1 s1.0 s1.1 in
    let s2 = then_ok (address w2) _ what s1.2 in
    let f2 = address_says w2 s2.0 s2.1 in
    record { call = MemCall s1.0 s2.0; range = f2.1; written = (first, (f1, (f2.0, tt))); calls = told (command.Mem s1.0 s2.0) what s2.2 }
mem_called version w0 _ what first is = refused _ what is

path_is : (version : JobVersion) (h : ℕ) (words : List (List ℕ)) → IsCallInRange version (PathCall h) → AreWords (call_words (PathCall h)) words → command_of version words ≡ Ok (command.Path h)
unfolding command_of command_with path_command_of
path_is version h (w0 ∷ w1 ∷ []) range are =
    ap (λ w. command_with version w (w1 ∷ [])) are.0 ∙
    then_is _ _ h _ (hart_is version w1 h are.1.0 range)
    refl
path_is version h words range are = absurd (omega (arith, are_length (call_words (PathCall h)) words are))

path_called : (version : JobVersion) (w0 : List ℕ) (words : List (List ℕ)) (what : DebugCommand) → w0 ≡ codes "path" → path_command_of version words ≡ Ok what → IsCall version (w0 ∷ words) what
unfolding path_command_of
path_called version w0 (w1 ∷ []) what first is =
    let s1 = then_ok (hart version w1) _ what is in
    let f1 = hart_says version w1 s1.0 s1.1 in
    record { call = PathCall s1.0; range = f1.1; written = (first, (f1.0, tt)); calls = told (command.Path s1.0) what s1.2 }
path_called version w0 _ what first is = refused _ what is

map_is : (version : JobVersion) (name : List ℕ) (i : ℕ) (words : List (List ℕ)) → IsCallInRange version (MapCall name i) → AreWords (call_words (MapCall name i)) words → command_of version words ≡ Ok (command.Map name i)
unfolding command_of command_with map_command_of
map_is version name i (w0 ∷ w1 ∷ w2 ∷ []) range are =
    ap (λ w. command_with version w (w1 ∷ w2 ∷ [])) are.0 ∙
    then_is _ _ name _ (named_is w1 name are.1.0.0 are.1.0.1)
    (then_is _ _ i _ (page_is w2 i are.1.1.0 range)
    refl)
map_is version name i words range are = absurd (omega (arith, are_length (call_words (MapCall name i)) words are))

map_called : (version : JobVersion) (w0 : List ℕ) (words : List (List ℕ)) (what : DebugCommand) → w0 ≡ codes "map" → map_command_of words ≡ Ok what → IsCall version (w0 ∷ words) what
unfolding map_command_of
map_called version w0 (w1 ∷ w2 ∷ []) what first is =
    let s1 = then_ok (named w1) _ what is in
    let f1 = named_says w1 s1.0 s1.1 in
    let s2 = then_ok (page w2) _ what s1.2 in
    let f2 = page_says w2 s2.0 s2.1 in
    record { call = MapCall s1.0 s2.0; range = f2.1; written = (first, (f1, (f2.0, tt))); calls = told (command.Map s1.0 s2.0) what s2.2 }
map_called version w0 _ what first is = refused _ what is

faults_is : (version : JobVersion) (words : List (List ℕ)) → IsCallInRange version (FaultsCall) → AreWords (call_words (FaultsCall)) words → command_of version words ≡ Ok (command.Faults)
unfolding command_of command_with faults_command_of
faults_is version (w0 ∷ []) range are =
    ap (λ w. command_with version w ([])) are.0 ∙
    refl
faults_is version words range are = absurd (omega (arith, are_length (call_words (FaultsCall)) words are))

faults_called : (version : JobVersion) (w0 : List ℕ) (words : List (List ℕ)) (what : DebugCommand) → w0 ≡ codes "faults" → faults_command_of words ≡ Ok what → IsCall version (w0 ∷ words) what
unfolding faults_command_of
faults_called version w0 ([]) what first is =
    record { call = FaultsCall; range = tt; written = (first, tt); calls = told (command.Faults) what is }
faults_called version w0 _ what first is = refused _ what is

call_is : (version : JobVersion) (call : Call) (words : List (List ℕ)) → IsCallInRange version call → AreWords (call_words call) words → command_of version words ≡ Ok (calls_for call)
call_is version (StepCall n) words range are = step_is version n words range are
call_is version (BreakCall name a) words range are = break_is version name a words range are
call_is version (RegsCall name) words range are = regs_is version name words range are
call_is version (MemCall name a) words range are = mem_is version name a words range are
call_is version (PathCall h) words range are = path_is version h words range are
call_is version (MapCall name i) words range are = map_is version name i words range are
call_is version FaultsCall words range are = faults_is version words range are

called_is : (version : JobVersion) (first : List ℕ) (words : List (List ℕ)) (what : DebugCommand) → command_with version first words ≡ Ok what → IsCall version (first ∷ words) what
unfolding command_with
called_is version first words what is =
    first_or _ first (codes "step") (step_command_of words) _ what (step_called version first words what) (
    first_or _ first (codes "break") (break_command_of words) _ what (break_called version first words what) (
    first_or _ first (codes "regs") (regs_command_of words) _ what (regs_called version first words what) (
    first_or _ first (codes "mem") (mem_command_of words) _ what (mem_called version first words what) (
    first_or _ first (codes "path") (path_command_of version words) _ what (path_called version first words what) (
    first_or _ first (codes "map") (map_command_of words) _ what (map_called version first words what) (
    first_or _ first (codes "faults") (faults_command_of words) _ what (faults_called version first words what) (
    refused fault.Directive what))))))) is

pub words_call : (version : JobVersion) (words : List (List ℕ)) (what : DebugCommand) → command_of version words ≡ Ok what → IsCall version words what
unfolding command_of
words_call version [] what is = refused _ what is
words_call version (first ∷ words) what is = called_is version first words what is

pub commands_are_calls : CommandFormLaw
commands_are_calls version words what = (words_call version words what, λ is. call_is version is.call words is.range is.written ∙ ap Ok is.calls)
