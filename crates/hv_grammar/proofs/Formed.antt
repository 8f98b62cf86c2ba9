-- Words that ask for something are those of a form.
use Rattle.std.proofs.Common.{◌≡◌, ℕ, ◌≤◌, ◌&&◌, nat_le, Bool, true, false, cond, codes, List, [], ◌∷◌, length, map, Result, Ok, Err, inl, inr, refl, sym, ap, ◌∙◌, arith}
use Rattle.std.proofs.lemmas.Bool.{leb-true}
use Rattle.std.proofs.lemmas.List.{length-map}
use Rattle.hv_limits.specs.Limits.{pages_limit, steps_limit}
use Rattle.hv_line.specs.JobLimits.{depth_in, harts_in, job_values}
use Rattle.hv_line.specs.Statements.{access, address, any_sample, statement_of, between, statement_with, dump_directive_of, fixed, hart, hart_directive_of, harts_directive_of, image_directive_of, inner, later_page, lines_directive_of, machine_directive_of, map_directive_of, mask, named, numbers, page, sample_directive_of, start_directive_of, storage_line_of, storage_pages, storage_with, tower_directive_of, turn_directive_of, upgrade_directive_of, upgrade_in, watch_directive_of, word_directive_of, word_with}
use Rattle.hv_line.specs.declared.kinds.JobKind.{JobKind}
use Rattle.hv_line.specs.declared.kinds.JobKind.TheVariants as fault
use Rattle.hv_line.specs.declared.types.Statement.{Statement}
use Rattle.hv_line.specs.declared.version.JobVersion.{JobVersion}
use Rattle.hv_line.specs.declared.version.JobVersion.TheVariants.{One, Two}
use Rattle.hv_line.proofs.Ranging.{then_ok}
use Rattle.hv_grammar.specs.Forms.{Form, IsLine, IsStorageLine, LineFormLaw, StorageFormLaw, Harts, Hart, Machine, MapNone, MapRead, MapWrite, MapFetch, MapAll, Start, Image, Sampled, Words, Tower, TowerOf, Turn, Lines, Watch, Dump, Upgrade, Spelt}
use Rattle.hv_grammar.proofs.Means.{form_means, storage_means}
use Rattle.hv_grammar.proofs.Tests.{access_says, address_says, any_says, are_length, between_says, both, first_or, fixed_says, hart_says, inner_says, later_says, mask_says, named_says, numbers_say, page_says}

-- the words are of some form
abbrev pub Formed : JobVersion → List (List ℕ) → Type 0
Formed version words = (form : Form) × IsLine version words form

refused : {G : Type 0} (kind : JobKind) (asked : Statement) → (let r : Result Statement JobKind = Err kind in r) ≡ Ok asked → G
refused kind asked is = cc

harts_formed : (version : JobVersion) (w0 : List ℕ) (words : List (List ℕ)) (asked : Statement) → w0 ≡ codes "harts" → harts_directive_of version words ≡ Ok asked → Formed version (w0 ∷ words)
unfolding harts_directive_of
harts_formed version w0 (w1 ∷ []) asked first is =
    let s1 = then_ok (between 1 (harts_in version) w1) _ asked is in
    let f1 = between_says 1 (harts_in version) w1 s1.0 s1.1 in
    (Harts s1.0, record { range = (f1.1, f1.2); written = (first, (f1.0, tt)) })
harts_formed version w0 _ asked first is = refused _ asked is

hart_formed : (version : JobVersion) (w0 : List ℕ) (words : List (List ℕ)) (asked : Statement) → w0 ≡ codes "hart" → hart_directive_of version words ≡ Ok asked → Formed version (w0 ∷ words)
unfolding hart_directive_of
hart_formed version w0 (w1 ∷ w2 ∷ []) asked first is =
    let s1 = then_ok (hart version w1) _ asked is in
    let f1 = hart_says version w1 s1.0 s1.1 in
    let s2 = then_ok (address w2) _ asked s1.2 in
    let f2 = address_says w2 s2.0 s2.1 in
    (Hart s1.0 s2.0, record { range = (f1.1, f2.1); written = (first, (f1.0, (f2.0, tt))) })
hart_formed version w0 _ asked first is = refused _ asked is

machine_formed : (version : JobVersion) (w0 : List ℕ) (words : List (List ℕ)) (asked : Statement) → w0 ≡ codes "machine" → machine_directive_of words ≡ Ok asked → Formed version (w0 ∷ words)
unfolding machine_directive_of
machine_formed version w0 (w1 ∷ w2 ∷ w3 ∷ w4 ∷ w5 ∷ w6 ∷ w7 ∷ w8 ∷ w9 ∷ w10 ∷ w11 ∷ []) asked first is =
    let s1 = then_ok (named w1) _ asked is in
    let f1 = named_says w1 s1.0 s1.1 in
    let s2 = then_ok (fixed (codes "in") w2) _ asked s1.2 in
    let f2 = fixed_says (codes "in") w2 s2.0 s2.1 in
    let s3 = then_ok (named w3) _ asked s2.2 in
    let f3 = named_says w3 s3.0 s3.1 in
    let s4 = then_ok (fixed (codes "block") w4) _ asked s3.2 in
    let f4 = fixed_says (codes "block") w4 s4.0 s4.1 in
    let s5 = then_ok (later_page w5) _ asked s4.2 in
    let f5 = later_says w5 s5.0 s5.1 in
    let s6 = then_ok (fixed (codes "pages") w6) _ asked s5.2 in
    let f6 = fixed_says (codes "pages") w6 s6.0 s6.1 in
    let s7 = then_ok (between 1 pages_limit w7) _ asked s6.2 in
    let f7 = between_says 1 pages_limit w7 s7.0 s7.1 in
    let s8 = then_ok (fixed (codes "table") w8) _ asked s7.2 in
    let f8 = fixed_says (codes "table") w8 s8.0 s8.1 in
    let s9 = then_ok (page w9) _ asked s8.2 in
    let f9 = page_says w9 s9.0 s9.1 in
    let s10 = then_ok (fixed (codes "at") w10) _ asked s9.2 in
    let f10 = fixed_says (codes "at") w10 s10.0 s10.1 in
    let s11 = then_ok (page w11) _ asked s10.2 in
    let f11 = page_says w11 s11.0 s11.1 in
    (Machine s1.0 s3.0 s5.0 s7.0 s9.0 s11.0, record { range = (f5.1, f5.2, f7.1, f7.2, f9.1, f11.1); written = (first, (f1, (f2, (f3, (f4, (f5.0, (f6, (f7.0, (f8, (f9.0, (f10, (f11.0, tt)))))))))))) })
machine_formed version w0 _ asked first is = refused _ asked is

map_formed : (version : JobVersion) (w0 : List ℕ) (words : List (List ℕ)) (asked : Statement) → w0 ≡ codes "map" → map_directive_of version words ≡ Ok asked → Formed version (w0 ∷ words)
unfolding map_directive_of
map_formed version w0 (w1 ∷ w2 ∷ w3 ∷ []) asked first is =
    let s1 = then_ok (named w1) _ asked is in
    let f1 = named_says w1 s1.0 s1.1 in
    let s2 = then_ok (page w2) _ asked s1.2 in
    let f2 = page_says w2 s2.0 s2.1 in
    let s3 = then_ok (fixed (codes "none") w3) _ asked s2.2 in
    let f3 = fixed_says (codes "none") w3 s3.0 s3.1 in
    (MapNone s1.0 s2.0, record { range = f2.1; written = (first, (f1, (f2.0, (f3, tt)))) })
map_formed version w0 (w1 ∷ w2 ∷ w3 ∷ w4 ∷ []) asked first is =
    let s1 = then_ok (named w1) _ asked is in
    let f1 = named_says w1 s1.0 s1.1 in
    let s2 = then_ok (page w2) _ asked s1.2 in
    let f2 = page_says w2 s2.0 s2.1 in
    let s3 = then_ok (access version w3) _ asked s2.2 in
    let f3 = access_says version w3 s3.0 s3.1 in
    let s4 = then_ok (page w4) _ asked s3.2 in
    let f4 = page_says w4 s4.0 s4.1 in
    elim f3 as (λ _. Formed version (w0 ∷ w1 ∷ w2 ∷ w3 ∷ w4 ∷ [])) [
      | inl bits ↦ (MapRead s1.0 s2.0 s4.0, record { range = (f2.1, f4.1); written = (first, (f1, (f2.0, (bits.0, (f4.0, tt))))) })
      | inr more ↦
          elim more as (λ _. Formed version (w0 ∷ w1 ∷ w2 ∷ w3 ∷ w4 ∷ [])) [
            | inl bits ↦ (MapWrite s1.0 s2.0 s4.0, record { range = (f2.1, f4.1); written = (first, (f1, (f2.0, (bits.0, (f4.0, tt))))) })
            | inr wide ↦
                elim wide.1 as (λ _. Formed version (w0 ∷ w1 ∷ w2 ∷ w3 ∷ w4 ∷ [])) [
                  | inl bits ↦ (MapFetch s1.0 s2.0 s4.0, record { range = (wide.0, f2.1, f4.1); written = (first, (f1, (f2.0, (bits.0, (f4.0, tt))))) })
                  | inr bits ↦ (MapAll s1.0 s2.0 s4.0, record { range = (wide.0, f2.1, f4.1); written = (first, (f1, (f2.0, (bits.0, (f4.0, tt))))) })
                ]
          ]
    ]
map_formed version w0 _ asked first is = refused _ asked is

start_formed : (version : JobVersion) (w0 : List ℕ) (words : List (List ℕ)) (asked : Statement) → w0 ≡ codes "start" → start_directive_of words ≡ Ok asked → Formed version (w0 ∷ words)
unfolding start_directive_of
start_formed version w0 (w1 ∷ w2 ∷ []) asked first is =
    let s1 = then_ok (named w1) _ asked is in
    let f1 = named_says w1 s1.0 s1.1 in
    let s2 = then_ok (address w2) _ asked s1.2 in
    let f2 = address_says w2 s2.0 s2.1 in
    (Start s1.0 s2.0, record { range = f2.1; written = (first, (f1, (f2.0, tt))) })
start_formed version w0 _ asked first is = refused _ asked is

image_formed : (version : JobVersion) (w0 : List ℕ) (words : List (List ℕ)) (asked : Statement) → w0 ≡ codes "image" → image_directive_of words ≡ Ok asked → Formed version (w0 ∷ words)
unfolding image_directive_of
image_formed version w0 (w1 ∷ w2 ∷ []) asked first is =
    let s1 = then_ok (named w1) _ asked is in
    let f1 = named_says w1 s1.0 s1.1 in
    let s2 = then_ok (address w2) _ asked s1.2 in
    let f2 = address_says w2 s2.0 s2.1 in
    (Image s1.0 s2.0, record { range = f2.1; written = (first, (f1, (f2.0, tt))) })
image_formed version w0 _ asked first is = refused _ asked is

sample_formed : (version : JobVersion) (w0 : List ℕ) (words : List (List ℕ)) (asked : Statement) → w0 ≡ codes "sample" → sample_directive_of words ≡ Ok asked → Formed version (w0 ∷ words)
unfolding sample_directive_of
sample_formed version w0 (w1 ∷ w2 ∷ w3 ∷ []) asked first is =
    let s1 = then_ok (named w1) _ asked is in
    let f1 = named_says w1 s1.0 s1.1 in
    let s2 = then_ok (address w2) _ asked s1.2 in
    let f2 = address_says w2 s2.0 s2.1 in
    let s3 = then_ok (any_sample w3) _ asked s2.2 in
    let f3 = any_says w3 s3.0 s3.1 in
    (Sampled s1.0 s2.0 s3.0, record { range = f2.1; written = (first, (f1, (f2.0, (f3, tt)))) })
sample_formed version w0 _ asked first is = refused _ asked is

tower_formed : (version : JobVersion) (w0 : List ℕ) (words : List (List ℕ)) (asked : Statement) → w0 ≡ codes "tower" → tower_directive_of version words ≡ Ok asked → Formed version (w0 ∷ words)
unfolding tower_directive_of
tower_formed version w0 (w1 ∷ w2 ∷ w3 ∷ []) asked first is =
    let s1 = then_ok (between 0 (depth_in version) w1) _ asked is in
    let f1 = between_says 0 (depth_in version) w1 s1.0 s1.1 in
    let s2 = then_ok (fixed (codes "pages") w2) _ asked s1.2 in
    let f2 = fixed_says (codes "pages") w2 s2.0 s2.1 in
    let s3 = then_ok (between 1 pages_limit w3) _ asked s2.2 in
    let f3 = between_says 1 pages_limit w3 s3.0 s3.1 in
    (Tower s1.0 s3.0, record { range = (f1.2, f3.1, f3.2); written = (first, (f1.0, (f2, (f3.0, tt)))) })
tower_formed version w0 (w1 ∷ w2 ∷ w3 ∷ w4 ∷ []) asked first is =
    let s1 = then_ok (between 0 (depth_in version) w1) _ asked is in
    let f1 = between_says 0 (depth_in version) w1 s1.0 s1.1 in
    let s2 = then_ok (fixed (codes "pages") w2) _ asked s1.2 in
    let f2 = fixed_says (codes "pages") w2 s2.0 s2.1 in
    let s3 = then_ok (between 1 pages_limit w3) _ asked s2.2 in
    let f3 = between_says 1 pages_limit w3 s3.0 s3.1 in
    let s4 = then_ok (inner w4) _ asked s3.2 in
    let f4 = inner_says w4 s4.0 s4.1 in
    (TowerOf s1.0 s3.0 s4.0, record { range = (f1.2, f3.1, f3.2, f4.1); written = (first, (f1.0, (f2, (f3.0, (f4.0, tt))))) })
tower_formed version w0 _ asked first is = refused _ asked is

turn_formed : (version : JobVersion) (w0 : List ℕ) (words : List (List ℕ)) (asked : Statement) → w0 ≡ codes "turn" → turn_directive_of version words ≡ Ok asked → Formed version (w0 ∷ words)
unfolding turn_directive_of
turn_formed version w0 (w1 ∷ w2 ∷ []) asked first is =
    let s1 = then_ok (hart version w1) _ asked is in
    let f1 = hart_says version w1 s1.0 s1.1 in
    let s2 = then_ok (between 1 steps_limit w2) _ asked s1.2 in
    let f2 = between_says 1 steps_limit w2 s2.0 s2.1 in
    (Turn s1.0 s2.0, record { range = (f1.1, f2.1, f2.2); written = (first, (f1.0, (f2.0, tt))) })
turn_formed version w0 _ asked first is = refused _ asked is

lines_formed : (version : JobVersion) (w0 : List ℕ) (words : List (List ℕ)) (asked : Statement) → w0 ≡ codes "lines" → lines_directive_of version words ≡ Ok asked → Formed version (w0 ∷ words)
unfolding lines_directive_of
lines_formed version w0 (w1 ∷ w2 ∷ []) asked first is =
    let s1 = then_ok (hart version w1) _ asked is in
    let f1 = hart_says version w1 s1.0 s1.1 in
    let s2 = then_ok (mask w2) _ asked s1.2 in
    let f2 = mask_says w2 s2.0 s2.1 in
    (Lines s1.0 s2.0, record { range = (f1.1, f2.1); written = (first, (f1.0, (f2.0, tt))) })
lines_formed version w0 _ asked first is = refused _ asked is

watch_formed : (version : JobVersion) (w0 : List ℕ) (words : List (List ℕ)) (asked : Statement) → w0 ≡ codes "watch" → watch_directive_of version words ≡ Ok asked → Formed version (w0 ∷ words)
unfolding watch_directive_of
watch_formed version w0 (w1 ∷ w2 ∷ []) asked first is =
    let s1 = then_ok (hart version w1) _ asked is in
    let f1 = hart_says version w1 s1.0 s1.1 in
    let s2 = then_ok (named w2) _ asked s1.2 in
    let f2 = named_says w2 s2.0 s2.1 in
    (Watch s1.0 s2.0, record { range = f1.1; written = (first, (f1.0, (f2, tt))) })
watch_formed version w0 _ asked first is = refused _ asked is

dump_formed : (version : JobVersion) (w0 : List ℕ) (words : List (List ℕ)) (asked : Statement) → w0 ≡ codes "dump" → dump_directive_of words ≡ Ok asked → Formed version (w0 ∷ words)
unfolding dump_directive_of
dump_formed version w0 (w1 ∷ w2 ∷ []) asked first is =
    let s1 = then_ok (named w1) _ asked is in
    let f1 = named_says w1 s1.0 s1.1 in
    let s2 = then_ok (page w2) _ asked s1.2 in
    let f2 = page_says w2 s2.0 s2.1 in
    (Dump s1.0 s2.0, record { range = f2.1; written = (first, (f1, (f2.0, tt))) })
dump_formed version w0 _ asked first is = refused _ asked is

upgrade_formed : (version : JobVersion) (w0 : List ℕ) (words : List (List ℕ)) (asked : Statement) → w0 ≡ codes "upgrade" → upgrade_in version words ≡ Ok asked → Formed version (w0 ∷ words)
unfolding upgrade_in upgrade_directive_of
upgrade_formed One w0 words asked first is = refused _ asked is
upgrade_formed Two w0 (w1 ∷ w2 ∷ []) asked first is =
    let s1 = then_ok (named w1) _ asked is in
    let f1 = named_says w1 s1.0 s1.1 in
    let s2 = then_ok (page w2) _ asked s1.2 in
    let f2 = page_says w2 s2.0 s2.1 in
    (Upgrade s1.0 s2.0, record { range = (refl, f2.1); written = (first, (f1, (f2.0, tt))) })
upgrade_formed Two w0 _ asked first is = refused _ asked is

fitted : (b : Bool) (r : Result Statement JobKind) (asked : Statement) → cond b r (Err fault.Words) ≡ Ok asked → (b ≡ true) × (r ≡ Ok asked)
fitted true r asked is = (refl, is)
fitted false r asked is = cc

word_formed : (version : JobVersion) (w0 : List ℕ) (words : List (List ℕ)) (asked : Statement) → w0 ≡ codes "word" → word_directive_of words ≡ Ok asked → Formed version (w0 ∷ words)
unfolding word_directive_of
word_formed version w0 (w1 ∷ w2 ∷ ws) asked first is =
    let fit = fitted (nat_le 1 (length ws) && nat_le (length ws) job_values) (word_with w1 w2 ws) asked is in
    let s1 = then_ok (named w1) _ asked fit.1 in
    let f1 = named_says w1 s1.0 s1.1 in
    let s2 = then_ok (address w2) _ asked s1.2 in
    let f2 = address_says w2 s2.0 s2.1 in
    let s3 = then_ok (numbers ws) _ asked s2.2 in
    let f3 = numbers_say ws s3.0 s3.1 in
    let b = both _ _ fit.0 in
    let low : 1 ≤ length ws = leb-true 1 (length ws) b.0 in
    let high : length ws ≤ job_values = leb-true (length ws) job_values b.1 in
    let n : length ws ≡ length s3.0 = are_length (map Spelt s3.0) ws f3 ∙ length-map s3.0 Spelt in
    (Words s1.0 s2.0 s3.0, record { range = (f2.1, omega (arith, low, n), omega (arith, high, n)); written = (first, (f1, (f2.0, f3))) })
word_formed version w0 _ asked first is = refused _ asked is

directive_formed : (version : JobVersion) (first : List ℕ) (words : List (List ℕ)) (asked : Statement) → statement_with version first words ≡ Ok asked → Formed version (first ∷ words)
unfolding statement_with
directive_formed version first words asked is =
    first_or _ first (codes "harts") (harts_directive_of version words) _ asked (harts_formed version first words asked) (
    first_or _ first (codes "hart") (hart_directive_of version words) _ asked (hart_formed version first words asked) (
    first_or _ first (codes "machine") (machine_directive_of words) _ asked (machine_formed version first words asked) (
    first_or _ first (codes "map") (map_directive_of version words) _ asked (map_formed version first words asked) (
    first_or _ first (codes "start") (start_directive_of words) _ asked (start_formed version first words asked) (
    first_or _ first (codes "image") (image_directive_of words) _ asked (image_formed version first words asked) (
    first_or _ first (codes "sample") (sample_directive_of words) _ asked (sample_formed version first words asked) (
    first_or _ first (codes "word") (word_directive_of words) _ asked (word_formed version first words asked) (
    first_or _ first (codes "tower") (tower_directive_of version words) _ asked (tower_formed version first words asked) (
    first_or _ first (codes "turn") (turn_directive_of version words) _ asked (turn_formed version first words asked) (
    first_or _ first (codes "lines") (lines_directive_of version words) _ asked (lines_formed version first words asked) (
    first_or _ first (codes "watch") (watch_directive_of version words) _ asked (watch_formed version first words asked) (
    first_or _ first (codes "dump") (dump_directive_of words) _ asked (dump_formed version first words asked) (
    first_or _ first (codes "upgrade") (upgrade_in version words) _ asked (upgrade_formed version first words asked) (
    refused fault.Directive asked)))))))))))))) is

pub words_formed : (version : JobVersion) (words : List (List ℕ)) (asked : Statement) → statement_of version words ≡ Ok asked → Formed version words
unfolding statement_of
words_formed version [] asked is = refused _ asked is
words_formed version (first ∷ words) asked is = directive_formed version first words asked is

same_said : (x y : Statement) → (let r : Result Statement JobKind = Ok x in r) ≡ Ok y → x ≡ y
same_said x y is = cc

pub lines_are_formed : LineFormLaw
lines_are_formed version words what = (
  λ is.
      let f = words_formed version words what is in
      record { form = f.0; line = f.1; states = same_said _ what (sym (form_means version f.0 words f.1) ∙ is) },
  λ said. form_means version said.form words said.line ∙ ap (λ (w : Statement). let r : Result Statement JobKind = Ok w in r) said.states,
)

-- the storage
pages_formed : (w0 : List ℕ) (words : List (List ℕ)) (pages : ℕ) → w0 ≡ codes "storage" → storage_pages words ≡ Ok pages → IsStorageLine (w0 ∷ words) pages
unfolding storage_pages
pages_formed w0 (w1 ∷ []) pages first is =
    let f = between_says 1 pages_limit w1 pages is in record { range = (f.1, f.2); written = (first, (f.0, tt)) }
pages_formed w0 _ pages first is = cc

pub storage_formed : (words : List (List ℕ)) (pages : ℕ) → storage_line_of words ≡ Ok pages → IsStorageLine words pages
unfolding storage_line_of storage_with
storage_formed [] pages is = cc
storage_formed (first ∷ words) pages is =
    first_or _ first (codes "storage") (storage_pages words) (Err fault.Storage) pages (pages_formed first words pages) (λ e. cc) is

pub storage_is_formed : StorageFormLaw
storage_is_formed words pages = (storage_formed words pages, storage_means pages words)
