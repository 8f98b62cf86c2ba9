-- What a line says has its values in their ranges.
use Rattle.std.proofs.Common.{◌≡◌, ◌⊎◌, ℕ, suc, ◌+◌, ◌-◌, ◌*◌, ◌%◌, ◌^◌, ◌<◌, ◌≤◌, ◌&&◌, nat_eq, nat_lt, Bool, true, false, cond, codes, List, [], ◌∷◌, length, Option, Some, None, Result, Ok, Err, inl, inr, refl, sym, ap, ◌∙◌, subst, arith}
use Rattle.std.specs.Option.{option_and_then}
use Rattle.std.specs.Str.{bytes_eq}
use Rattle.std.proofs.lemmas.Bool.{leb-true, ltb-true, eqb-true}
use Rattle.hv_lex.specs.Numbers.{fitting, number_after, number_in, number_of, spelled_from}
use Rattle.hv_samples.specs.declared.choice.Sample.{Sample}
use Rattle.hv_samples.specs.declared.choice.Sample.TheVariants as sample
use Rattle.hv_line.specs.Statements.{access, address, any_sample, statement_of, between, statement_with, dump_directive_of, fixed, hart, hart_directive_of, harts_directive_of, image_directive_of, inner, later_page, lines_directive_of, machine_directive_of, map_directive_of, mask, named, number, numbers, or_no_number, page, pages, sample_directive_of, start_directive_of, storage_line_of, storage_pages, storage_with, tower_directive_of, turn_directive_of, upgrade_directive_of, upgrade_in, watch_directive_of, word_directive_of, word_with}
use Rattle.hv_irq.specs.declared.Event.TheVariants as event
use Rattle.hv_limits.specs.Limits.{pages_limit, steps_limit}
use Rattle.hv_line.specs.Commands.{step_command_of, break_command_of, regs_command_of, mem_command_of, path_command_of, map_command_of, faults_command_of, command_of, command_with}
use Rattle.hv_line.specs.JobLimits.{depth_in, harts_in, job_values}
use Rattle.hv_line.specs.Ranges.{IsCommand, IsSize, IsStatement}
use Rattle.hv_line.specs.declared.types.Statement.{Statement}
use Rattle.hv_line.specs.declared.types.DebugCommand.{DebugCommand}
use Rattle.hv_line.specs.declared.types.DebugCommand.TheVariants as command
use Rattle.hv_line.specs.declared.types.Directive.TheVariants as directive
use Rattle.hv_line.specs.declared.types.Statement.TheVariants as states
use Rattle.hv_line.specs.declared.kinds.JobKind.{JobKind}
use Rattle.hv_line.specs.declared.kinds.JobKind.TheVariants as fault
use Rattle.hv_line.specs.declared.version.JobVersion.{JobVersion}
use Rattle.hv_line.specs.declared.version.JobVersion.TheVariants.{One, Two}
use Rattle.hv_line.proofs.Versions.{depth_within, harts_within}
use Rattle.hv_lex.specs.Refusing.{◌>>=◌}

-- what passed a test, and then the next one
pub then_ok : {A B : Type 0} (r : Result A JobKind) (f : A → Result B JobKind) (x : B) → (r >>= f) ≡ Ok x → (v : A) × (r ≡ Ok v) × (f v ≡ Ok x)
then_ok (Ok v) f x is = (v, refl, is)
then_ok (Err k) f x is = cc

ok_is : (x y : Statement) → (let r : Result Statement JobKind = Ok x in r) ≡ Ok y → x ≡ y
ok_is x y is = cc

refused_ranged : (kind : JobKind) (said : Statement) → (let r : Result Statement JobKind = Err kind in r) ≡ Ok said → IsStatement said
refused_ranged kind said is = cc

both : (a b : Bool) → (a && b) ≡ true → (a ≡ true) × (b ≡ true)
both true b e = (refl, e)
both false b e = cc

chosen : (b : Bool) (n m : ℕ) → (let r : Result ℕ JobKind = cond b (Ok n) (Err fault.Range) in r) ≡ Ok m → (b ≡ true) × (n ≡ m)
chosen true n m is = let e : n ≡ m = cc in (refl, e)
chosen false n m is = cc

pub between_ok : (low high : ℕ) (word : List ℕ) (n : ℕ) → between low high word ≡ Ok n → (low ≤ n) × (n ≤ high)
unfolding between
between_ok low high word n is =
    let s = then_ok (number word) _ n is in
    let t = chosen _ _ _ s.2 in
    let b = both _ _ t.0 in
    let l : low ≤ s.0 = leb-true low s.0 b.0 in
    let h : s.0 ≤ high = leb-true s.0 high b.1 in
    let e : s.0 ≡ n = t.1 in
    (omega arith, omega arith)

fitting_below : (m n : ℕ) → fitting m ≡ Some n → n < 2 ^ 32
fitting_below m n is =
    elim (nat_lt m (2 ^ 32)) as (λ b. nat_lt m (2 ^ 32) ≡ b → (let o : Option ℕ = cond b (Some m) None in o) ≡ Some n → n < 2 ^ 32) [
      | true ↦ λ lt is. let h : m < 2 ^ 32 = ltb-true m (2 ^ 32) lt in let e : m ≡ n = cc in omega arith
      | false ↦ λ lt is. cc
    ] refl is

some_below : (o : Option ℕ) (n : ℕ) → option_and_then fitting o ≡ Some n → n < 2 ^ 32
some_below (Some m) n is = fitting_below m n is
some_below None n is = cc

in_below : (base : ℕ) (digits : List ℕ) (n : ℕ) → number_in base digits ≡ Some n → n < 2 ^ 32
unfolding number_in
in_below base digits n is =
    elim (nat_eq (length digits) 0) as (λ b. (let o : Option ℕ = cond b None (option_and_then fitting (spelled_from base 0 digits)) in o) ≡ Some n → n < 2 ^ 32)
    [ true ↦ λ is. cc | false ↦ λ is. some_below (spelled_from base 0 digits) n is ] is

after_below : (o : Option (List ℕ)) (text : List ℕ) (n : ℕ) → number_after o text ≡ Some n → n < 2 ^ 32
after_below (Some digits) text n is = in_below 16 digits n is
after_below None text n is = in_below 10 text n is

of_below : (text : List ℕ) (n : ℕ) → number_of text ≡ Some n → n < 2 ^ 32
unfolding number_of
of_below text n is = after_below _ text n is

some_number : (o : Option ℕ) (n : ℕ) → or_no_number o ≡ Ok n → o ≡ Some n
some_number (Some m) n is = let e : m ≡ n = cc in ap Some e
some_number None n is = cc

number_below : (word : List ℕ) (n : ℕ) → number word ≡ Ok n → n < 2 ^ 32
unfolding number
number_below word n is = of_below word n (some_number (number_of word) n is)

pub address_ok : (word : List ℕ) (n : ℕ) → address word ≡ Ok n → (n % 4 ≡ 0) × (n < 2 ^ 32)
unfolding address
address_ok word n is =
    let s = then_ok (number word) _ n is in
    let t = chosen _ _ _ s.2 in
    let b = number_below word s.0 s.1 in
    let e : s.0 ≡ n = t.1 in
    (subst (λ n. n % 4 ≡ 0) t.1 (eqb-true (s.0 % 4) 0 t.0), omega arith)

numbers_length : (words : List (List ℕ)) (ns : List ℕ) → numbers words ≡ Ok ns → length ns ≡ length words
unfolding numbers
numbers_length [] ns is = let e : [] ≡ ns = cc in ap length (sym e)
numbers_length (word ∷ words) ns is =
    let s = then_ok (number word) _ ns is in
    let t = then_ok (numbers words) _ ns s.2 in
    let e : s.0 ∷ t.0 ≡ ns = cc in
    ap length (sym e) ∙ ap suc (numbers_length words t.0 t.1)

inner_ok : (word : List ℕ) (which : Sample) → inner word ≡ Ok which → (which ≡ sample.Pass) ⊎ (which ≡ sample.Forward)
unfolding inner
inner_ok word which is =
    elim (bytes_eq word (codes "pass")) as (λ b. (let r : Result Sample JobKind = cond b (Ok sample.Pass) (cond (bytes_eq word (codes "forward")) (Ok sample.Forward) (Err fault.Words)) in r) ≡ Ok which → (which ≡ sample.Pass) ⊎ (which ≡ sample.Forward)) [
      | true ↦ λ is. inl (cc)
      | false ↦ elim (bytes_eq word (codes "forward")) as (λ b. (let r : Result Sample JobKind = cond b (Ok sample.Forward) (Err fault.Words) in r) ≡ Ok which → (which ≡ sample.Pass) ⊎ (which ≡ sample.Forward)) [
        | true ↦ λ is. inr (cc)
        | false ↦ λ is. cc
      ]
    ] is

harts_ranged : (version : JobVersion) (words : List (List ℕ)) (said : Statement) → harts_directive_of version words ≡ Ok said → IsStatement said
unfolding harts_directive_of
harts_ranged version (n ∷ []) said is =
    let s0 = then_ok (between 1 (harts_in version) n) _ said is in
    let e : states.Harts s0.0 ≡ said = ok_is _ said s0.2 in
    let b = between_ok 1 (harts_in version) n s0.0 s0.1 in
    let w = harts_within version in
    subst IsStatement e (b.0, omega arith)
harts_ranged version _ said is = cc

hart_ranged : (version : JobVersion) (words : List (List ℕ)) (said : Statement) → hart_directive_of version words ≡ Ok said → IsStatement said
unfolding hart_directive_of
hart_ranged version (h ∷ a ∷ []) said is =
    let s0 = then_ok (hart version h) _ said is in
    let s1 = then_ok (address a) _ said s0.2 in
    let e : states.Directive (directive.Hart s0.0 s1.0) ≡ said = ok_is _ said s1.2 in
    subst IsStatement e (((let b = between_ok 0 (harts_in version - 1) h s0.0 s0.1 in let w = harts_within version in omega arith), (address_ok a s1.0 s1.1).0), refl)
hart_ranged version _ said is = cc

machine_ranged : (words : List (List ℕ)) (said : Statement) → machine_directive_of words ≡ Ok said → IsStatement said
unfolding machine_directive_of
machine_ranged (name ∷ w_in ∷ parent ∷ w_block ∷ b ∷ w_pages ∷ n ∷ w_table ∷ t ∷ w_at ∷ p ∷ []) said is =
    let s0 = then_ok (named name) _ said is in
    let s1 = then_ok (fixed (codes "in") w_in) _ said s0.2 in
    let s2 = then_ok (named parent) _ said s1.2 in
    let s3 = then_ok (fixed (codes "block") w_block) _ said s2.2 in
    let s4 = then_ok (later_page b) _ said s3.2 in
    let s5 = then_ok (fixed (codes "pages") w_pages) _ said s4.2 in
    let s6 = then_ok (pages n) _ said s5.2 in
    let s7 = then_ok (fixed (codes "table") w_table) _ said s6.2 in
    let s8 = then_ok (page t) _ said s7.2 in
    let s9 = then_ok (fixed (codes "at") w_at) _ said s8.2 in
    let s10 = then_ok (page p) _ said s9.2 in
    let e : states.Directive (directive.Machine s0.0 s2.0 s4.0 s6.0 s8.0 s10.0) ≡ said = ok_is _ said s10.2 in
    subst IsStatement e (((let b = between_ok 1 (2 ^ 20 - 1) b s4.0 s4.1 in omega arith), (let b = between_ok 1 (2 ^ 20 - 1) b s4.0 s4.1 in omega arith), between_ok 1 pages_limit n s6.0 s6.1, (let b = between_ok 0 (2 ^ 20 - 1) t s8.0 s8.1 in omega arith), (let b = between_ok 0 (2 ^ 20 - 1) p s10.0 s10.1 in omega arith)), refl)
machine_ranged _ said is = cc

map_ranged : (version : JobVersion) (words : List (List ℕ)) (said : Statement) → map_directive_of version words ≡ Ok said → IsStatement said
unfolding map_directive_of
map_ranged version (name ∷ i ∷ w_none ∷ []) said is =
    let s0 = then_ok (named name) _ said is in
    let s1 = then_ok (page i) _ said s0.2 in
    let s2 = then_ok (fixed (codes "none") w_none) _ said s1.2 in
    let e : states.Directive (directive.Map s0.0 s1.0 0) ≡ said = ok_is _ said s2.2 in
    subst IsStatement e (((let b = between_ok 0 (2 ^ 20 - 1) i s1.0 s1.1 in omega arith)), refl)
map_ranged version (name ∷ i ∷ bits ∷ p ∷ []) said is =
    let s0 = then_ok (named name) _ said is in
    let s1 = then_ok (page i) _ said s0.2 in
    let s2 = then_ok (access version bits) _ said s1.2 in
    let s3 = then_ok (page p) _ said s2.2 in
    let e : states.Directive (directive.Map s0.0 s1.0 (s3.0 * 4096 + s2.0)) ≡ said = ok_is _ said s3.2 in
    subst IsStatement e (((let b = between_ok 0 (2 ^ 20 - 1) i s1.0 s1.1 in omega arith)), refl)
map_ranged version _ said is = cc

start_ranged : (words : List (List ℕ)) (said : Statement) → start_directive_of words ≡ Ok said → IsStatement said
unfolding start_directive_of
start_ranged (name ∷ a ∷ []) said is =
    let s0 = then_ok (named name) _ said is in
    let s1 = then_ok (address a) _ said s0.2 in
    let e : states.Directive (directive.Start s0.0 s1.0) ≡ said = ok_is _ said s1.2 in
    subst IsStatement e (((address_ok a s1.0 s1.1).0), refl)
start_ranged _ said is = cc

image_ranged : (words : List (List ℕ)) (said : Statement) → image_directive_of words ≡ Ok said → IsStatement said
unfolding image_directive_of
image_ranged (name ∷ a ∷ []) said is =
    let s0 = then_ok (named name) _ said is in
    let s1 = then_ok (address a) _ said s0.2 in
    let e : states.Image s0.0 s1.0 ≡ said = ok_is _ said s1.2 in
    subst IsStatement e (address_ok a s1.0 s1.1)
image_ranged _ said is = cc

sample_ranged : (words : List (List ℕ)) (said : Statement) → sample_directive_of words ≡ Ok said → IsStatement said
unfolding sample_directive_of
sample_ranged (name ∷ a ∷ which ∷ []) said is =
    let s0 = then_ok (named name) _ said is in
    let s1 = then_ok (address a) _ said s0.2 in
    let s2 = then_ok (any_sample which) _ said s1.2 in
    let e : states.Sample s0.0 s1.0 s2.0 ≡ said = ok_is _ said s2.2 in
    subst IsStatement e (address_ok a s1.0 s1.1)
sample_ranged _ said is = cc

fitted : (b : Bool) (r : Result Statement JobKind) (said : Statement) → cond b r (Err fault.Words) ≡ Ok said → (b ≡ true) × (r ≡ Ok said)
fitted true r said is = (refl, is)
fitted false r said is = cc

word_ranged : (words : List (List ℕ)) (said : Statement) → word_directive_of words ≡ Ok said → IsStatement said
unfolding word_directive_of
word_ranged (name ∷ a ∷ values) said is =
    let f = fitted _ (word_with name a values) said is in
    let s0 = then_ok (named name) _ said f.1 in
    let s1 = then_ok (address a) _ said s0.2 in
    let s2 = then_ok (numbers values) _ said s1.2 in
    let e : states.Directive (directive.Word s0.0 s1.0 s2.0) ≡ said = ok_is _ said s2.2 in
    let b = both _ _ f.0 in
    let l : 1 ≤ length values = leb-true 1 (length values) b.0 in
    let h : length values ≤ job_values = leb-true (length values) job_values b.1 in
    let n = numbers_length values s2.0 s2.1 in
    subst IsStatement e (((address_ok a s1.0 s1.1).0, omega arith, omega arith), refl)
word_ranged _ said is = cc

tower_ranged : (version : JobVersion) (words : List (List ℕ)) (said : Statement) → tower_directive_of version words ≡ Ok said → IsStatement said
unfolding tower_directive_of
tower_ranged version (d ∷ w_pages ∷ n ∷ []) said is =
    let s0 = then_ok (between 0 (depth_in version) d) _ said is in
    let s1 = then_ok (fixed (codes "pages") w_pages) _ said s0.2 in
    let s2 = then_ok (pages n) _ said s1.2 in
    let e : states.Directive (directive.Tower s0.0 s2.0 sample.Pass) ≡ said = ok_is _ said s2.2 in
    subst IsStatement e (((let b = between_ok 0 (depth_in version) d s0.0 s0.1 in let w = depth_within version in omega arith), between_ok 1 pages_limit n s2.0 s2.1, inl refl), refl)
tower_ranged version (d ∷ w_pages ∷ n ∷ which ∷ []) said is =
    let s0 = then_ok (between 0 (depth_in version) d) _ said is in
    let s1 = then_ok (fixed (codes "pages") w_pages) _ said s0.2 in
    let s2 = then_ok (pages n) _ said s1.2 in
    let s3 = then_ok (inner which) _ said s2.2 in
    let e : states.Directive (directive.Tower s0.0 s2.0 s3.0) ≡ said = ok_is _ said s3.2 in
    subst IsStatement e (((let b = between_ok 0 (depth_in version) d s0.0 s0.1 in let w = depth_within version in omega arith), between_ok 1 pages_limit n s2.0 s2.1, inner_ok which s3.0 s3.1), refl)
tower_ranged version _ said is = cc

turn_ranged : (version : JobVersion) (words : List (List ℕ)) (said : Statement) → turn_directive_of version words ≡ Ok said → IsStatement said
unfolding turn_directive_of
turn_ranged version (h ∷ n ∷ []) said is =
    let s0 = then_ok (hart version h) _ said is in
    let s1 = then_ok (between 1 steps_limit n) _ said s0.2 in
    let e : states.Event (event.Turn s0.0 s1.0) ≡ said = ok_is _ said s1.2 in
    subst IsStatement e (let b = between_ok 0 (harts_in version - 1) h s0.0 s0.1 in let w = harts_within version in omega arith)
turn_ranged version _ said is = cc

lines_ranged : (version : JobVersion) (words : List (List ℕ)) (said : Statement) → lines_directive_of version words ≡ Ok said → IsStatement said
unfolding lines_directive_of
lines_ranged version (h ∷ m ∷ []) said is =
    let s0 = then_ok (hart version h) _ said is in
    let s1 = then_ok (mask m) _ said s0.2 in
    let e : states.Event (event.Lines s0.0 s1.0) ≡ said = ok_is _ said s1.2 in
    subst IsStatement e (let b = between_ok 0 (harts_in version - 1) h s0.0 s0.1 in let w = harts_within version in omega arith)
lines_ranged version _ said is = cc

watch_ranged : (version : JobVersion) (words : List (List ℕ)) (said : Statement) → watch_directive_of version words ≡ Ok said → IsStatement said
unfolding watch_directive_of
watch_ranged version (h ∷ name ∷ []) said is =
    let s0 = then_ok (hart version h) _ said is in
    let s1 = then_ok (named name) _ said s0.2 in
    let e : states.Directive (directive.Watch s0.0 s1.0) ≡ said = ok_is _ said s1.2 in
    subst IsStatement e ((let b = between_ok 0 (harts_in version - 1) h s0.0 s0.1 in let w = harts_within version in omega arith), refl)
watch_ranged version _ said is = cc

dump_ranged : (words : List (List ℕ)) (said : Statement) → dump_directive_of words ≡ Ok said → IsStatement said
unfolding dump_directive_of
dump_ranged (name ∷ i ∷ []) said is =
    let s0 = then_ok (named name) _ said is in
    let s1 = then_ok (page i) _ said s0.2 in
    let e : states.Directive (directive.Dump s0.0 s1.0) ≡ said = ok_is _ said s1.2 in
    subst IsStatement e ((let b = between_ok 0 (2 ^ 20 - 1) i s1.0 s1.1 in omega arith), refl)
dump_ranged _ said is = cc

upgrade_ranged : (words : List (List ℕ)) (said : Statement) → upgrade_directive_of words ≡ Ok said → IsStatement said
unfolding upgrade_directive_of
upgrade_ranged (name ∷ d ∷ []) said is =
    let s0 = then_ok (named name) _ said is in
    let s1 = then_ok (page d) _ said s0.2 in
    let e : states.Directive (directive.Upgrade s0.0 s1.0) ≡ said = ok_is _ said s1.2 in
    subst IsStatement e ((let b = between_ok 0 (2 ^ 20 - 1) d s1.0 s1.1 in omega arith), refl)
upgrade_ranged _ said is = cc

upgrade_in_ranged : (version : JobVersion) (words : List (List ℕ)) (said : Statement) → upgrade_in version words ≡ Ok said → IsStatement said
unfolding upgrade_in
upgrade_in_ranged One words said is = cc
upgrade_in_ranged Two words said is = upgrade_ranged words said is

abbrev IsRanged : Result Statement JobKind → Type 0
IsRanged r = (said : Statement) → r ≡ Ok said → IsStatement said

either : (b : Bool) (x y : Result Statement JobKind) → IsRanged x → IsRanged y → IsRanged (cond b x y)
either true x y f g = f
either false x y f g = g

directive_ranged : (version : JobVersion) (first : List ℕ) (words : List (List ℕ)) → IsRanged (statement_with version first words)
unfolding statement_with
directive_ranged version first words =
    either (bytes_eq first (codes "harts")) (harts_directive_of version words) _ (harts_ranged version words) (
    either (bytes_eq first (codes "hart")) (hart_directive_of version words) _ (hart_ranged version words) (
    either (bytes_eq first (codes "machine")) (machine_directive_of words) _ (machine_ranged words) (
    either (bytes_eq first (codes "map")) (map_directive_of version words) _ (map_ranged version words) (
    either (bytes_eq first (codes "start")) (start_directive_of words) _ (start_ranged words) (
    either (bytes_eq first (codes "image")) (image_directive_of words) _ (image_ranged words) (
    either (bytes_eq first (codes "sample")) (sample_directive_of words) _ (sample_ranged words) (
    either (bytes_eq first (codes "word")) (word_directive_of words) _ (word_ranged words) (
    either (bytes_eq first (codes "tower")) (tower_directive_of version words) _ (tower_ranged version words) (
    either (bytes_eq first (codes "turn")) (turn_directive_of version words) _ (turn_ranged version words) (
    either (bytes_eq first (codes "lines")) (lines_directive_of version words) _ (lines_ranged version words) (
    either (bytes_eq first (codes "watch")) (watch_directive_of version words) _ (watch_ranged version words) (
    either (bytes_eq first (codes "dump")) (dump_directive_of words) _ (dump_ranged words) (
    either (bytes_eq first (codes "upgrade")) (upgrade_in version words) _ (upgrade_in_ranged version words) (
    refused_ranged fault.Directive))))))))))))))

pub statement_ranged : (version : JobVersion) (words : List (List ℕ)) (said : Statement) → statement_of version words ≡ Ok said → IsStatement said
unfolding statement_of
statement_ranged version [] said is = cc
statement_ranged version (first ∷ words) said is = directive_ranged version first words said is

-- the storage
pages_ranged : (words : List (List ℕ)) (pages : ℕ) → storage_pages words ≡ Ok pages → IsSize pages
unfolding storage_pages
pages_ranged (p ∷ []) pages is = between_ok 1 pages_limit p pages is
pages_ranged _ pages is = cc

either_pages : (b : Bool) (words : List (List ℕ)) (pages : ℕ) → cond b (storage_pages words) (Err fault.Storage) ≡ Ok pages → IsSize pages
either_pages true words pages is = pages_ranged words pages is
either_pages false words pages is = cc

pub storage_ranged : (words : List (List ℕ)) (pages : ℕ) → storage_line_of words ≡ Ok pages → IsSize pages
unfolding storage_line_of storage_with
storage_ranged [] pages is = cc
storage_ranged (first ∷ words) pages is = either_pages (bytes_eq first (codes "storage")) words pages is

-- the commands
command_same : (x y : DebugCommand) → (let r : Result DebugCommand JobKind = Ok x in r) ≡ Ok y → x ≡ y
command_same x y is = cc

abbrev AreRanged : Result DebugCommand JobKind → Type 0
AreRanged r = (what : DebugCommand) → r ≡ Ok what → IsCommand what

step_ranged : (words : List (List ℕ)) (what : DebugCommand) → step_command_of words ≡ Ok what → IsCommand what
unfolding step_command_of
step_ranged (n ∷ []) what is =
    let s0 = then_ok (between 1 steps_limit n) _ what is in
    let e : command.Step s0.0 ≡ what = command_same _ what s0.2 in
    subst IsCommand e (between_ok 1 steps_limit n s0.0 s0.1)
step_ranged _ what is = cc

break_ranged : (words : List (List ℕ)) (what : DebugCommand) → break_command_of words ≡ Ok what → IsCommand what
unfolding break_command_of
break_ranged (name ∷ a ∷ []) what is =
    let s0 = then_ok (named name) _ what is in
    let s1 = then_ok (number a) _ what s0.2 in
    let e : command.Break s0.0 s1.0 ≡ what = command_same _ what s1.2 in
    subst IsCommand e tt
break_ranged _ what is = cc

regs_ranged : (words : List (List ℕ)) (what : DebugCommand) → regs_command_of words ≡ Ok what → IsCommand what
unfolding regs_command_of
regs_ranged (name ∷ []) what is =
    let s0 = then_ok (named name) _ what is in
    let e : command.Regs s0.0 ≡ what = command_same _ what s0.2 in
    subst IsCommand e tt
regs_ranged _ what is = cc

mem_ranged : (words : List (List ℕ)) (what : DebugCommand) → mem_command_of words ≡ Ok what → IsCommand what
unfolding mem_command_of
mem_ranged (name ∷ a ∷ []) what is =
    let s0 = then_ok (named name) _ what is in
    let s1 = then_ok (address a) _ what s0.2 in
    let e : command.Mem s0.0 s1.0 ≡ what = command_same _ what s1.2 in
    subst IsCommand e ((address_ok a s1.0 s1.1).0)
mem_ranged _ what is = cc

path_ranged : (version : JobVersion) (words : List (List ℕ)) (what : DebugCommand) → path_command_of version words ≡ Ok what → IsCommand what
unfolding path_command_of
path_ranged version (h ∷ []) what is =
    let s0 = then_ok (hart version h) _ what is in
    let e : command.Path s0.0 ≡ what = command_same _ what s0.2 in
    subst IsCommand e (let b = between_ok 0 (harts_in version - 1) h s0.0 s0.1 in let w = harts_within version in omega arith)
path_ranged version _ what is = cc

map_command_ranged : (words : List (List ℕ)) (what : DebugCommand) → map_command_of words ≡ Ok what → IsCommand what
unfolding map_command_of
map_command_ranged (name ∷ i ∷ []) what is =
    let s0 = then_ok (named name) _ what is in
    let s1 = then_ok (page i) _ what s0.2 in
    let e : command.Map s0.0 s1.0 ≡ what = command_same _ what s1.2 in
    subst IsCommand e (let b = between_ok 0 (2 ^ 20 - 1) i s1.0 s1.1 in omega arith)
map_command_ranged _ what is = cc

faults_ranged : (words : List (List ℕ)) (what : DebugCommand) → faults_command_of words ≡ Ok what → IsCommand what
unfolding faults_command_of
faults_ranged [] what is = let e : command.Faults ≡ what = command_same _ what is in subst IsCommand e tt
faults_ranged _ what is = cc

no_command : (kind : JobKind) (what : DebugCommand) → (let r : Result DebugCommand JobKind = Err kind in r) ≡ Ok what → IsCommand what
no_command kind what is = cc

either_command : (b : Bool) (x y : Result DebugCommand JobKind) → AreRanged x → AreRanged y → AreRanged (cond b x y)
either_command true x y f g = f
either_command false x y f g = g

with_ranged : (version : JobVersion) (first : List ℕ) (words : List (List ℕ)) → AreRanged (command_with version first words)
unfolding command_with
with_ranged version first words =
    either_command (bytes_eq first (codes "step")) (step_command_of words) _ (step_ranged words) (
    either_command (bytes_eq first (codes "break")) (break_command_of words) _ (break_ranged words) (
    either_command (bytes_eq first (codes "regs")) (regs_command_of words) _ (regs_ranged words) (
    either_command (bytes_eq first (codes "mem")) (mem_command_of words) _ (mem_ranged words) (
    either_command (bytes_eq first (codes "path")) (path_command_of version words) _ (path_ranged version words) (
    either_command (bytes_eq first (codes "map")) (map_command_of words) _ (map_command_ranged words) (
    either_command (bytes_eq first (codes "faults")) (faults_command_of words) _ (faults_ranged words) (
    no_command fault.Directive)))))))

pub command_ranged : (version : JobVersion) (words : List (List ℕ)) (what : DebugCommand) → command_of version words ≡ Ok what → IsCommand what
unfolding command_of
command_ranged version [] what is = cc
command_ranged version (first ∷ words) what is = with_ranged version first words what is
