-- What the words of a form ask for.
use Rattle.std.proofs.Common.{◌≡◌, ℕ, ◌≤◌, nat_le, ◌&&◌, Bool, true, false, cond, codes, List, [], ◌∷◌, length, map, Result, Ok, Err, refl, sym, ap, ◌∙◌, subst, arith}
use Rattle.std.proofs.lemmas.Bool.{le-leb}
use Rattle.std.proofs.lemmas.List.{length-map}
use Rattle.hv_samples.specs.declared.choice.Sample.{Sample}
use Rattle.hv_limits.specs.Limits.{pages_limit, steps_limit}
use Rattle.hv_line.specs.JobLimits.{depth_in, harts_in, job_values}
use Rattle.hv_line.specs.Statements.{dump_directive_of, hart_directive_of, harts_directive_of, image_directive_of, lines_directive_of, machine_directive_of, map_directive_of, sample_directive_of, start_directive_of, statement_of, statement_with, storage_line_of, storage_pages, storage_with, tower_directive_of, turn_directive_of, upgrade_directive_of, upgrade_in, watch_directive_of, word_directive_of, word_with}
use Rattle.hv_line.specs.declared.kinds.JobKind.{JobKind}
use Rattle.hv_line.specs.declared.kinds.JobKind.TheVariants as fault
use Rattle.hv_line.specs.declared.types.Statement.{Statement}
use Rattle.hv_line.specs.declared.version.JobVersion.{JobVersion}
use Rattle.hv_line.specs.declared.version.JobVersion.TheVariants.{One, Two}
use Rattle.hv_grammar.specs.Forms.{AreWords, Form, IsInRange, IsLine, IsStorageLine, Harts, Hart, Machine, MapNone, MapRead, MapWrite, MapFetch, MapAll, Start, Image, Sampled, Words, Tower, TowerOf, Turn, Lines, Watch, Dump, Upgrade, Fixed, Spelt, form_words, states_for}
use Rattle.hv_grammar.proofs.Tests.{access_all, access_fetch, access_read, access_write, address_is, any_is, are_length, between_is, both_is, fixed_is, hart_is, inner_is, later_is, mask_is, named_is, numbers_are, page_is, passing}

abbrev pub is_image_form : Form → Bool
is_image_form (Image name at) = true
is_image_form _ = false

-- the words of a form say what it states
abbrev pub Means : Form → Result Statement JobKind → Type 0
Means form says = says ≡ Ok (states_for form)

-- a `job 1` is no `job 2`
pub not_first : One ≡ Two → ⊥
not_first is = cc

harts_means : (version : JobVersion) (n : ℕ) (words : List (List ℕ)) → IsInRange version (Harts n) → AreWords (form_words (Harts n)) words → Means (Harts n) (statement_of version words)
unfolding statement_of statement_with harts_directive_of
harts_means version n (w0 ∷ w1 ∷ []) range are =
    subst (λ w. Means (Harts n) (statement_with version w (w1 ∷ []))) (sym are.0)
    (passing (Means (Harts n)) _ _ n (between_is 1 (harts_in version) w1 n are.1.0 range.0 range.1)
    refl)
harts_means version n words range are = absurd (omega (arith, are_length (form_words (Harts n)) words are))

hart_means : (version : JobVersion) (h : ℕ) (a : ℕ) (words : List (List ℕ)) → IsInRange version (Hart h a) → AreWords (form_words (Hart h a)) words → Means (Hart h a) (statement_of version words)
unfolding statement_of statement_with hart_directive_of
hart_means version h a (w0 ∷ w1 ∷ w2 ∷ []) range are =
    subst (λ w. Means (Hart h a) (statement_with version w (w1 ∷ w2 ∷ []))) (sym are.0)
    (passing (Means (Hart h a)) _ _ h (hart_is version w1 h are.1.0 range.0)
    (passing (Means (Hart h a)) _ _ a (address_is w2 a are.1.1.0 range.1)
    refl))
hart_means version h a words range are = absurd (omega (arith, are_length (form_words (Hart h a)) words are))

machine_means : (version : JobVersion) (name : List ℕ) (parent : List ℕ) (b : ℕ) (n : ℕ) (t : ℕ) (p : ℕ) (words : List (List ℕ)) → IsInRange version (Machine name parent b n t p) → AreWords (form_words (Machine name parent b n t p)) words → Means (Machine name parent b n t p) (statement_of version words)
unfolding statement_of statement_with machine_directive_of
machine_means version name parent b n t p (w0 ∷ w1 ∷ w2 ∷ w3 ∷ w4 ∷ w5 ∷ w6 ∷ w7 ∷ w8 ∷ w9 ∷ w10 ∷ w11 ∷ []) range are =
    subst (λ w. Means (Machine name parent b n t p) (statement_with version w (w1 ∷ w2 ∷ w3 ∷ w4 ∷ w5 ∷ w6 ∷ w7 ∷ w8 ∷ w9 ∷ w10 ∷ w11 ∷ []))) (sym are.0)
    (passing (Means (Machine name parent b n t p)) _ _ name (named_is w1 name are.1.0.0 are.1.0.1)
    (passing (Means (Machine name parent b n t p)) _ _ tt (fixed_is (codes "in") w2 are.1.1.0)
    (passing (Means (Machine name parent b n t p)) _ _ parent (named_is w3 parent are.1.1.1.0.0 are.1.1.1.0.1)
    (passing (Means (Machine name parent b n t p)) _ _ tt (fixed_is (codes "block") w4 are.1.1.1.1.0)
    (passing (Means (Machine name parent b n t p)) _ _ b (later_is w5 b are.1.1.1.1.1.0 range.0 range.1)
    (passing (Means (Machine name parent b n t p)) _ _ tt (fixed_is (codes "pages") w6 are.1.1.1.1.1.1.0)
    (passing (Means (Machine name parent b n t p)) _ _ n (between_is 1 pages_limit w7 n are.1.1.1.1.1.1.1.0 range.2 range.3)
    (passing (Means (Machine name parent b n t p)) _ _ tt (fixed_is (codes "table") w8 are.1.1.1.1.1.1.1.1.0)
    (passing (Means (Machine name parent b n t p)) _ _ t (page_is w9 t are.1.1.1.1.1.1.1.1.1.0 range.4)
    (passing (Means (Machine name parent b n t p)) _ _ tt (fixed_is (codes "at") w10 are.1.1.1.1.1.1.1.1.1.1.0)
    (passing (Means (Machine name parent b n t p)) _ _ p (page_is w11 p are.1.1.1.1.1.1.1.1.1.1.1.0 range.5)
    refl)))))))))))
machine_means version name parent b n t p words range are = absurd (omega (arith, are_length (form_words (Machine name parent b n t p)) words are))

map_none_means : (version : JobVersion) (name : List ℕ) (i : ℕ) (words : List (List ℕ)) → IsInRange version (MapNone name i) → AreWords (form_words (MapNone name i)) words → Means (MapNone name i) (statement_of version words)
unfolding statement_of statement_with map_directive_of
map_none_means version name i (w0 ∷ w1 ∷ w2 ∷ w3 ∷ []) range are =
    subst (λ w. Means (MapNone name i) (statement_with version w (w1 ∷ w2 ∷ w3 ∷ []))) (sym are.0)
    (passing (Means (MapNone name i)) _ _ name (named_is w1 name are.1.0.0 are.1.0.1)
    (passing (Means (MapNone name i)) _ _ i (page_is w2 i are.1.1.0 range)
    (passing (Means (MapNone name i)) _ _ tt (fixed_is (codes "none") w3 are.1.1.1.0)
    refl)))
map_none_means version name i words range are = absurd (omega (arith, are_length (form_words (MapNone name i)) words are))

map_read_means : (version : JobVersion) (name : List ℕ) (i : ℕ) (p : ℕ) (words : List (List ℕ)) → IsInRange version (MapRead name i p) → AreWords (form_words (MapRead name i p)) words → Means (MapRead name i p) (statement_of version words)
unfolding statement_of statement_with map_directive_of
map_read_means version name i p (w0 ∷ w1 ∷ w2 ∷ w3 ∷ w4 ∷ []) range are =
    subst (λ w. Means (MapRead name i p) (statement_with version w (w1 ∷ w2 ∷ w3 ∷ w4 ∷ []))) (sym are.0)
    (passing (Means (MapRead name i p)) _ _ name (named_is w1 name are.1.0.0 are.1.0.1)
    (passing (Means (MapRead name i p)) _ _ i (page_is w2 i are.1.1.0 range.0)
    (passing (Means (MapRead name i p)) _ _ 1 (access_read version w3 are.1.1.1.0)
    (passing (Means (MapRead name i p)) _ _ p (page_is w4 p are.1.1.1.1.0 range.1)
    refl))))
map_read_means version name i p words range are = absurd (omega (arith, are_length (form_words (MapRead name i p)) words are))

map_write_means : (version : JobVersion) (name : List ℕ) (i : ℕ) (p : ℕ) (words : List (List ℕ)) → IsInRange version (MapWrite name i p) → AreWords (form_words (MapWrite name i p)) words → Means (MapWrite name i p) (statement_of version words)
unfolding statement_of statement_with map_directive_of
map_write_means version name i p (w0 ∷ w1 ∷ w2 ∷ w3 ∷ w4 ∷ []) range are =
    subst (λ w. Means (MapWrite name i p) (statement_with version w (w1 ∷ w2 ∷ w3 ∷ w4 ∷ []))) (sym are.0)
    (passing (Means (MapWrite name i p)) _ _ name (named_is w1 name are.1.0.0 are.1.0.1)
    (passing (Means (MapWrite name i p)) _ _ i (page_is w2 i are.1.1.0 range.0)
    (passing (Means (MapWrite name i p)) _ _ 3 (access_write version w3 are.1.1.1.0)
    (passing (Means (MapWrite name i p)) _ _ p (page_is w4 p are.1.1.1.1.0 range.1)
    refl))))
map_write_means version name i p words range are = absurd (omega (arith, are_length (form_words (MapWrite name i p)) words are))

map_fetch_means : (version : JobVersion) (name : List ℕ) (i : ℕ) (p : ℕ) (words : List (List ℕ)) → IsInRange version (MapFetch name i p) → AreWords (form_words (MapFetch name i p)) words → Means (MapFetch name i p) (statement_of version words)
unfolding statement_of statement_with map_directive_of
map_fetch_means One name i p words range are = absurd (not_first range.0)
map_fetch_means Two name i p (w0 ∷ w1 ∷ w2 ∷ w3 ∷ w4 ∷ []) range are =
    subst (λ w. Means (MapFetch name i p) (statement_with Two w (w1 ∷ w2 ∷ w3 ∷ w4 ∷ []))) (sym are.0)
    (passing (Means (MapFetch name i p)) _ _ name (named_is w1 name are.1.0.0 are.1.0.1)
    (passing (Means (MapFetch name i p)) _ _ i (page_is w2 i are.1.1.0 range.1)
    (passing (Means (MapFetch name i p)) _ _ 5 (access_fetch w3 are.1.1.1.0)
    (passing (Means (MapFetch name i p)) _ _ p (page_is w4 p are.1.1.1.1.0 range.2)
    refl))))
map_fetch_means Two name i p words range are = absurd (omega (arith, are_length (form_words (MapFetch name i p)) words are))

map_all_means : (version : JobVersion) (name : List ℕ) (i : ℕ) (p : ℕ) (words : List (List ℕ)) → IsInRange version (MapAll name i p) → AreWords (form_words (MapAll name i p)) words → Means (MapAll name i p) (statement_of version words)
unfolding statement_of statement_with map_directive_of
map_all_means One name i p words range are = absurd (not_first range.0)
map_all_means Two name i p (w0 ∷ w1 ∷ w2 ∷ w3 ∷ w4 ∷ []) range are =
    subst (λ w. Means (MapAll name i p) (statement_with Two w (w1 ∷ w2 ∷ w3 ∷ w4 ∷ []))) (sym are.0)
    (passing (Means (MapAll name i p)) _ _ name (named_is w1 name are.1.0.0 are.1.0.1)
    (passing (Means (MapAll name i p)) _ _ i (page_is w2 i are.1.1.0 range.1)
    (passing (Means (MapAll name i p)) _ _ 7 (access_all w3 are.1.1.1.0)
    (passing (Means (MapAll name i p)) _ _ p (page_is w4 p are.1.1.1.1.0 range.2)
    refl))))
map_all_means Two name i p words range are = absurd (omega (arith, are_length (form_words (MapAll name i p)) words are))

start_means : (version : JobVersion) (name : List ℕ) (a : ℕ) (words : List (List ℕ)) → IsInRange version (Start name a) → AreWords (form_words (Start name a)) words → Means (Start name a) (statement_of version words)
unfolding statement_of statement_with start_directive_of
start_means version name a (w0 ∷ w1 ∷ w2 ∷ []) range are =
    subst (λ w. Means (Start name a) (statement_with version w (w1 ∷ w2 ∷ []))) (sym are.0)
    (passing (Means (Start name a)) _ _ name (named_is w1 name are.1.0.0 are.1.0.1)
    (passing (Means (Start name a)) _ _ a (address_is w2 a are.1.1.0 range)
    refl))
start_means version name a words range are = absurd (omega (arith, are_length (form_words (Start name a)) words are))

image_means : (version : JobVersion) (name : List ℕ) (a : ℕ) (words : List (List ℕ)) → IsInRange version (Image name a) → AreWords (form_words (Image name a)) words → Means (Image name a) (statement_of version words)
unfolding statement_of statement_with image_directive_of
image_means version name a (w0 ∷ w1 ∷ w2 ∷ []) range are =
    subst (λ w. Means (Image name a) (statement_with version w (w1 ∷ w2 ∷ []))) (sym are.0)
    (passing (Means (Image name a)) _ _ name (named_is w1 name are.1.0.0 are.1.0.1)
    (passing (Means (Image name a)) _ _ a (address_is w2 a are.1.1.0 range)
    refl))
image_means version name a words range are = absurd (omega (arith, are_length (form_words (Image name a)) words are))

sample_means : (version : JobVersion) (name : List ℕ) (a : ℕ) (which : Sample) (words : List (List ℕ)) → IsInRange version (Sampled name a which) → AreWords (form_words (Sampled name a which)) words → Means (Sampled name a which) (statement_of version words)
unfolding statement_of statement_with sample_directive_of
sample_means version name a which (w0 ∷ w1 ∷ w2 ∷ w3 ∷ []) range are =
    subst (λ w. Means (Sampled name a which) (statement_with version w (w1 ∷ w2 ∷ w3 ∷ []))) (sym are.0)
    (passing (Means (Sampled name a which)) _ _ name (named_is w1 name are.1.0.0 are.1.0.1)
    (passing (Means (Sampled name a which)) _ _ a (address_is w2 a are.1.1.0 range)
    (passing (Means (Sampled name a which)) _ _ which (any_is w3 which are.1.1.1.0)
    refl)))
sample_means version name a which words range are = absurd (omega (arith, are_length (form_words (Sampled name a which)) words are))

tower_means : (version : JobVersion) (d : ℕ) (n : ℕ) (words : List (List ℕ)) → IsInRange version (Tower d n) → AreWords (form_words (Tower d n)) words → Means (Tower d n) (statement_of version words)
unfolding statement_of statement_with tower_directive_of
tower_means version d n (w0 ∷ w1 ∷ w2 ∷ w3 ∷ []) range are =
    subst (λ w. Means (Tower d n) (statement_with version w (w1 ∷ w2 ∷ w3 ∷ []))) (sym are.0)
    (passing (Means (Tower d n)) _ _ d (between_is 0 (depth_in version) w1 d are.1.0 (omega arith) range.0)
    (passing (Means (Tower d n)) _ _ tt (fixed_is (codes "pages") w2 are.1.1.0)
    (passing (Means (Tower d n)) _ _ n (between_is 1 pages_limit w3 n are.1.1.1.0 range.1 range.2)
    refl)))
tower_means version d n words range are = absurd (omega (arith, are_length (form_words (Tower d n)) words are))

tower_with_means : (version : JobVersion) (d : ℕ) (n : ℕ) (which : Sample) (words : List (List ℕ)) → IsInRange version (TowerOf d n which) → AreWords (form_words (TowerOf d n which)) words → Means (TowerOf d n which) (statement_of version words)
unfolding statement_of statement_with tower_directive_of
tower_with_means version d n which (w0 ∷ w1 ∷ w2 ∷ w3 ∷ w4 ∷ []) range are =
    subst (λ w. Means (TowerOf d n which) (statement_with version w (w1 ∷ w2 ∷ w3 ∷ w4 ∷ []))) (sym are.0)
    (passing (Means (TowerOf d n which)) _ _ d (between_is 0 (depth_in version) w1 d are.1.0 (omega arith) range.0)
    (passing (Means (TowerOf d n which)) _ _ tt (fixed_is (codes "pages") w2 are.1.1.0)
    (passing (Means (TowerOf d n which)) _ _ n (between_is 1 pages_limit w3 n are.1.1.1.0 range.1 range.2)
    (passing (Means (TowerOf d n which)) _ _ which (inner_is w4 which are.1.1.1.1.0 range.3)
    refl))))
tower_with_means version d n which words range are = absurd (omega (arith, are_length (form_words (TowerOf d n which)) words are))

turn_means : (version : JobVersion) (h : ℕ) (n : ℕ) (words : List (List ℕ)) → IsInRange version (Turn h n) → AreWords (form_words (Turn h n)) words → Means (Turn h n) (statement_of version words)
unfolding statement_of statement_with turn_directive_of
turn_means version h n (w0 ∷ w1 ∷ w2 ∷ []) range are =
    subst (λ w. Means (Turn h n) (statement_with version w (w1 ∷ w2 ∷ []))) (sym are.0)
    (passing (Means (Turn h n)) _ _ h (hart_is version w1 h are.1.0 range.0)
    (passing (Means (Turn h n)) _ _ n (between_is 1 steps_limit w2 n are.1.1.0 range.1 range.2)
    refl))
turn_means version h n words range are = absurd (omega (arith, are_length (form_words (Turn h n)) words are))

lines_means : (version : JobVersion) (h : ℕ) (m : ℕ) (words : List (List ℕ)) → IsInRange version (Lines h m) → AreWords (form_words (Lines h m)) words → Means (Lines h m) (statement_of version words)
unfolding statement_of statement_with lines_directive_of
lines_means version h m (w0 ∷ w1 ∷ w2 ∷ []) range are =
    subst (λ w. Means (Lines h m) (statement_with version w (w1 ∷ w2 ∷ []))) (sym are.0)
    (passing (Means (Lines h m)) _ _ h (hart_is version w1 h are.1.0 range.0)
    (passing (Means (Lines h m)) _ _ m (mask_is w2 m are.1.1.0 range.1)
    refl))
lines_means version h m words range are = absurd (omega (arith, are_length (form_words (Lines h m)) words are))

watch_means : (version : JobVersion) (h : ℕ) (name : List ℕ) (words : List (List ℕ)) → IsInRange version (Watch h name) → AreWords (form_words (Watch h name)) words → Means (Watch h name) (statement_of version words)
unfolding statement_of statement_with watch_directive_of
watch_means version h name (w0 ∷ w1 ∷ w2 ∷ []) range are =
    subst (λ w. Means (Watch h name) (statement_with version w (w1 ∷ w2 ∷ []))) (sym are.0)
    (passing (Means (Watch h name)) _ _ h (hart_is version w1 h are.1.0 range)
    (passing (Means (Watch h name)) _ _ name (named_is w2 name are.1.1.0.0 are.1.1.0.1)
    refl))
watch_means version h name words range are = absurd (omega (arith, are_length (form_words (Watch h name)) words are))

dump_means : (version : JobVersion) (name : List ℕ) (i : ℕ) (words : List (List ℕ)) → IsInRange version (Dump name i) → AreWords (form_words (Dump name i)) words → Means (Dump name i) (statement_of version words)
unfolding statement_of statement_with dump_directive_of
dump_means version name i (w0 ∷ w1 ∷ w2 ∷ []) range are =
    subst (λ w. Means (Dump name i) (statement_with version w (w1 ∷ w2 ∷ []))) (sym are.0)
    (passing (Means (Dump name i)) _ _ name (named_is w1 name are.1.0.0 are.1.0.1)
    (passing (Means (Dump name i)) _ _ i (page_is w2 i are.1.1.0 range)
    refl))
dump_means version name i words range are = absurd (omega (arith, are_length (form_words (Dump name i)) words are))

upgrade_means : (version : JobVersion) (name : List ℕ) (d : ℕ) (words : List (List ℕ)) → IsInRange version (Upgrade name d) → AreWords (form_words (Upgrade name d)) words → Means (Upgrade name d) (statement_of version words)
unfolding statement_of statement_with upgrade_in upgrade_directive_of
upgrade_means One name d words range are = absurd (not_first range.0)
upgrade_means Two name d (w0 ∷ w1 ∷ w2 ∷ []) range are =
    subst (λ w. Means (Upgrade name d) (statement_with Two w (w1 ∷ w2 ∷ []))) (sym are.0)
    (passing (Means (Upgrade name d)) _ _ name (named_is w1 name are.1.0.0 are.1.0.1)
    (passing (Means (Upgrade name d)) _ _ d (page_is w2 d are.1.1.0 range.1)
    refl))
upgrade_means Two name d words range are = absurd (omega (arith, are_length (form_words (Upgrade name d)) words are))

words_means : (version : JobVersion) (name : List ℕ) (a : ℕ) (values : List ℕ) (words : List (List ℕ)) → IsInRange version (Words name a values) → AreWords (form_words (Words name a values)) words → Means (Words name a values) (statement_of version words)
unfolding statement_of statement_with word_directive_of
words_means version name a values (w0 ∷ w1 ∷ w2 ∷ ws) range are =
    let n : length ws ≡ length values = are_length (map Spelt values) ws are.1.1.1 ∙ length-map values Spelt in
    let low : 1 ≤ length ws = let l : 1 ≤ length values = range.1 in omega (arith, n, l) in
    let high : length ws ≤ job_values = let h : length values ≤ job_values = range.2 in omega (arith, n, h) in
    let fits : (nat_le 1 (length ws) && nat_le (length ws) job_values) ≡ true =
    both_is _ _ (le-leb 1 (length ws) low) (le-leb (length ws) job_values high)
    in
    subst (λ w. Means (Words name a values) (statement_with version w (w1 ∷ w2 ∷ ws))) (sym are.0)
    (subst (λ b. Means (Words name a values) (cond b (word_with w1 w2 ws) (Err fault.Words))) (sym fits)
    (passing (Means (Words name a values)) _ _ name (named_is w1 name are.1.0.0 are.1.0.1)
    (passing (Means (Words name a values)) _ _ a (address_is w2 a are.1.1.0 range.0)
    (passing (Means (Words name a values)) _ _ values (numbers_are ws values are.1.1.1)
    refl))))
words_means version name a values (w0 ∷ w1 ∷ []) range are = absurd are.1.1
words_means version name a values (w0 ∷ []) range are = absurd are.1
words_means version name a values [] range are = absurd are

-- the words of a form, in its range
pub form_means : (version : JobVersion) (form : Form) (words : List (List ℕ)) → IsLine version words form → Means form (statement_of version words)
form_means version (Harts n) words line = harts_means version n words line.range line.written
form_means version (Hart h a) words line = hart_means version h a words line.range line.written
form_means version (Machine name parent b n t p) words line = machine_means version name parent b n t p words line.range line.written
form_means version (MapNone name i) words line = map_none_means version name i words line.range line.written
form_means version (MapRead name i p) words line = map_read_means version name i p words line.range line.written
form_means version (MapWrite name i p) words line = map_write_means version name i p words line.range line.written
form_means version (MapFetch name i p) words line = map_fetch_means version name i p words line.range line.written
form_means version (MapAll name i p) words line = map_all_means version name i p words line.range line.written
form_means version (Start name a) words line = start_means version name a words line.range line.written
form_means version (Image name a) words line = image_means version name a words line.range line.written
form_means version (Sampled name a which) words line = sample_means version name a which words line.range line.written
form_means version (Tower d n) words line = tower_means version d n words line.range line.written
form_means version (TowerOf d n which) words line = tower_with_means version d n which words line.range line.written
form_means version (Turn h n) words line = turn_means version h n words line.range line.written
form_means version (Lines h m) words line = lines_means version h m words line.range line.written
form_means version (Watch h name) words line = watch_means version h name words line.range line.written
form_means version (Dump name i) words line = dump_means version name i words line.range line.written
form_means version (Upgrade name d) words line = upgrade_means version name d words line.range line.written
form_means version (Words name a values) words line = words_means version name a values words line.range line.written

-- the words of the storage
pub storage_means : (p : ℕ) (words : List (List ℕ)) → IsStorageLine words p → storage_line_of words ≡ Ok p
unfolding storage_line_of storage_with storage_pages
storage_means p (w0 ∷ w1 ∷ []) line =
    ap (λ w. storage_with w (w1 ∷ [])) line.written.0 ∙ between_is 1 pages_limit w1 p line.written.1.0 line.range.0 line.range.1
storage_means p words line = absurd (omega (arith, are_length (Fixed (codes "storage") ∷ Spelt p ∷ []) words line.written))
