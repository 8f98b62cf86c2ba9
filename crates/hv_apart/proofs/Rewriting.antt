-- The words of the storage after an upgrade, part by part.
use Rattle.std.proofs.Common.{◌≡◌, ◌≢◌, ℕ, zero, suc, ◌+◌, ◌*◌, ◌/◌, ◌%◌, ◌<◌, ◌≤◌, ◌⊎◌, inl, inr, List, length, map, get_or, set, get_or-set_same, get_or-set_other, length-set, refl, ap, ◌∙◌, sym, arith}
use Rattle.std.specs.List.{range_with_len}
use Rattle.std.proofs.Math.Seq.{sets, length-sets}
use Rattle.std.proofs.Math.Numerals.{add-one}
use Rattle.std.proofs.lemmas.Bool.{cases_eq, cases_lt}
use Rattle.std.proofs.lemmas.List.FromFn.{length-map-range_with_len, get_or-map-range_with_len, map-range_with_len_more}
use Rattle.hv_word.specs.Storage.{page_count, word_at}
use Rattle.hv_block.proofs.Edits.{sets-snoc}
use Rattle.hv_block.proofs.Words.{sets_at, sets_outside}
use Rattle.hv_map.specs.Apart.{table_pages}
use Rattle.hv_map.specs.Item.{Item}
use Rattle.hv_apart.specs.Upgrade.{directory_word, rewritten, with_directory_words, with_fetch, with_fetch_at, with_fetchable_table, with_version}

-- words that a function gives, written one after another, and those beside them
run_other : (n : ℕ) (S : List ℕ) (at : ℕ) (f : ℕ → ℕ) (q : ℕ) → (q < at) ⊎ (at + n ≤ q) → get_or (sets S at (map f (range_with_len 0 n))) q 0 ≡ get_or S q 0
run_other n S at f q h = sets_outside (map f (range_with_len 0 n)) S at q (beside (length (map f (range_with_len 0 n))) (length-map-range_with_len f 0 n) h)
  where
    beside : (l : ℕ) → l ≡ n → (q < at) ⊎ (at + n ≤ q) → (q < at) ⊎ (at + l ≤ q)
    beside l e (inl a) = inl a
    beside l e (inr b) = inr (omega (arith, e, b))

run_at : (n : ℕ) (S : List ℕ) (at : ℕ) (f : ℕ → ℕ) (k : ℕ) → at + n ≤ length S → k < n → get_or (sets S at (map f (range_with_len 0 n))) (at + k) 0 ≡ f k
run_at n S at f k fits lt =
    let l = length-map-range_with_len f 0 n in
    sets_at (map f (range_with_len 0 n)) S at k (at + k) (omega (arith, l, fits)) (omega (arith, l, lt)) refl
    ∙ get_or-map-range_with_len f 0 n k k 0 lt (omega arith)

-- one word more
run_more : (f : ℕ → ℕ) (l : List ℕ) (at n : ℕ) → sets l at (map f (range_with_len 0 (n + 1))) ≡ set (sets l at (map f (range_with_len 0 n))) (at + n) (f n)
run_more f l at n =
    ap (sets l at) (map-range_with_len_more f 0 n n (omega arith))
    ∙ sets-snoc (map f (range_with_len 0 n)) l at (f n)
    ∙ ap (λ (k : ℕ). set (sets l at (map f (range_with_len 0 n))) (at + k) (f n)) (length-map-range_with_len f 0 n)

pub word_put : (f : ℕ → ℕ) (l S T : List ℕ) (at n v : ℕ) → S ≡ sets l at (map f (range_with_len 0 n)) → v ≡ f n → T ≡ set S (at + n) v → T ≡ sets l at (map f (range_with_len 0 (n + 1)))
word_put f l S T at n v so_far is put =
    put
    ∙ ap (λ (s : List ℕ). set s (at + n) v) so_far
    ∙ ap (λ (w : ℕ). set (sets l at (map f (range_with_len 0 n))) (at + n) w) is
    ∙ sym (run_more f l at n)

pub length_put : (S T l : List ℕ) (i v : ℕ) → T ≡ set S i v → length S ≡ length l → length T ≡ length l
length_put S T l i v put len = ap length put ∙ length-set S i v ∙ len

-- the directory
pub directory_written : (n : ℕ) (S T : List ℕ) (d t c : ℕ) → n ≡ 1024 → T ≡ sets S (1024 * d) (map (directory_word t c) (range_with_len 0 n)) → T ≡ with_directory_words S d t c
unfolding with_directory_words
directory_written n S T d t c is written =
    written ∙ ap (λ (k : ℕ). sets S (1024 * d) (map (directory_word t c) (range_with_len 0 k))) is

pub length-with_directory_words : (S : List ℕ) (d t c : ℕ) → length (with_directory_words S d t c) ≡ length S
unfolding with_directory_words
length-with_directory_words S d t c = length-sets S (1024 * d) (map (directory_word t c) (range_with_len 0 1024))

-- its words, and those of other pages
pub directory_at : (S : List ℕ) (d t c w : ℕ) → 1024 * d + 1024 ≤ length S → w < 1024 → word_at (with_directory_words S d t c) d w ≡ directory_word t c w
unfolding with_directory_words
directory_at S d t c w fits low = run_at 1024 S (1024 * d) (directory_word t c) w fits low

directory_beside : (S : List ℕ) (d t c q : ℕ) → (q < 1024 * d) ⊎ (1024 * d + 1024 ≤ q) → get_or (with_directory_words S d t c) q 0 ≡ get_or S q 0
unfolding with_directory_words
directory_beside S d t c q h = run_other 1024 S (1024 * d) (directory_word t c) q h

pub directory_other : (S : List ℕ) (d t c g w : ℕ) → g ≢ d → w < 1024 → word_at (with_directory_words S d t c) g w ≡ word_at S g w
directory_other S d t c g w ne low = directory_beside S d t c (1024 * g + w) (beside (cases_lt g d))
  where
    beside : (g < d) ⊎ (d ≤ g) → (1024 * g + w < 1024 * d) ⊎ (1024 * d + 1024 ≤ 1024 * g + w)
    beside (inl lt) = inl (omega arith)
    beside (inr le) = inr (omega (arith, ne))

-- the table
pub length-with_fetchable_table : (S : List ℕ) (table : ℕ → ℕ) (n : ℕ) → length (with_fetchable_table S table n) ≡ length S
unfolding with_fetchable_table
length-with_fetchable_table S table zero = refl
length-with_fetchable_table S table (suc i) =
    length-set (with_fetchable_table S table i) (1024 * table (i / 1024) + i % 1024) (with_fetch (word_at (with_fetchable_table S table i) (table (i / 1024)) (i % 1024)))
    ∙ length-with_fetchable_table S table i

-- one table word more
pub table_more : (S T U : List ℕ) (table : ℕ → ℕ) (i at v : ℕ) → T ≡ with_fetchable_table S table i → at ≡ 1024 * table (i / 1024) + i % 1024 → v ≡ with_fetch (get_or T at 0) → U ≡ set T at v → U ≡ with_fetchable_table S table (i + 1)
unfolding with_fetchable_table
table_more S T U table i at v so_far there is put =
    put
    ∙ ap (set T at) is
    ∙ ap (λ (s : List ℕ). set s at (with_fetch (get_or s at 0))) so_far
    ∙ ap (λ (q : ℕ). set (with_fetchable_table S table i) q (with_fetch (get_or (with_fetchable_table S table i) q 0))) there
    ∙ ap (with_fetchable_table S table) (sym (add-one i))

-- it goes by the bare pages of the table pages that there are
pub table_alike : (S : List ℕ) (f g : ℕ → ℕ) (n : ℕ) → ((k : ℕ) → k < table_pages n → f k ≡ g k) → with_fetchable_table S f n ≡ with_fetchable_table S g n
unfolding with_fetchable_table
table_alike S f g zero same = refl
table_alike S f g (suc i) same =
    let last : f (i / 1024) ≡ g (i / 1024) = same (i / 1024) (omega arith) in
    ap (λ (s : List ℕ). with_fetch_at s (f (i / 1024)) (i % 1024)) (table_alike S f g i (λ k lt. same k (omega arith)))
    ∙ ap (λ (p : ℕ). with_fetch_at (with_fetchable_table S g i) p (i % 1024)) last

-- a word that is no table word
pub table_other : (S : List ℕ) (table : ℕ → ℕ) (n g w : ℕ) → w < 1024 → ((i : ℕ) → i < n → table (i / 1024) ≡ g → w ≡ i % 1024 → ⊥) → word_at (with_fetchable_table S table n) g w ≡ word_at S g w
unfolding with_fetchable_table
table_other S table zero g w low out = refl
table_other S table (suc i) g w low out =
    get_or-set_other (with_fetchable_table S table i) (1024 * table (i / 1024) + i % 1024) (1024 * g + w) (with_fetch (word_at (with_fetchable_table S table i) (table (i / 1024)) (i % 1024))) 0 ne
    ∙ table_other S table i g w low (λ k lt. out k (omega arith))
  where
    ne : 1024 * g + w ≢ 1024 * table (i / 1024) + i % 1024
    ne = λ e. out i (omega arith) (omega arith) (omega arith)

-- a table word that was just written, and one that was before
table_here : (S : List ℕ) (table : ℕ → ℕ) (i : ℕ)
    → ((k m : ℕ) → k < table_pages (suc i) → m < table_pages (suc i) → table k ≡ table m → k ≡ m)
    → ((k : ℕ) → k < table_pages (suc i) → table k < page_count S)
    → word_at (with_fetchable_table S table (suc i)) (table (i / 1024)) (i % 1024) ≡ with_fetch (word_at S (table (i / 1024)) (i % 1024))
unfolding with_fetchable_table
table_here S table i one within =
    let inside : table (i / 1024) < page_count S = within (i / 1024) (omega arith) in
    let fits : 1024 * table (i / 1024) + i % 1024 < length (with_fetchable_table S table i) = omega (arith, length-with_fetchable_table S table i, inside) in
    get_or-set_same (with_fetchable_table S table i) (1024 * table (i / 1024) + i % 1024) (with_fetch (word_at (with_fetchable_table S table i) (table (i / 1024)) (i % 1024))) 0 fits
    ∙ ap with_fetch (table_other S table i (table (i / 1024)) (i % 1024) (omega arith) (λ k low same word.
    let page : k / 1024 ≡ i / 1024 = one (k / 1024) (i / 1024) (omega arith) (omega arith) same in
    omega arith))

table_before : (S : List ℕ) (table : ℕ → ℕ) (m i : ℕ)
    → ((k l : ℕ) → k < table_pages (suc m) → l < table_pages (suc m) → table k ≡ table l → k ≡ l)
    → i < m
    → word_at (with_fetchable_table S table (suc m)) (table (i / 1024)) (i % 1024) ≡ word_at (with_fetchable_table S table m) (table (i / 1024)) (i % 1024)
unfolding with_fetchable_table
table_before S table m i one lt =
    get_or-set_other (with_fetchable_table S table m) (1024 * table (m / 1024) + m % 1024) (1024 * table (i / 1024) + i % 1024) (with_fetch (word_at (with_fetchable_table S table m) (table (m / 1024)) (m % 1024))) 0 apart
  where
    apart : 1024 * table (i / 1024) + i % 1024 ≢ 1024 * table (m / 1024) + m % 1024
    apart = λ e.
        let page : i / 1024 ≡ m / 1024 = one (i / 1024) (m / 1024) (omega arith) (omega arith) (omega arith) in
        omega arith

-- a table word, where no two table pages lie in one bare page
pub table_at : (S : List ℕ) (table : ℕ → ℕ) (n i : ℕ)
    → ((k m : ℕ) → k < table_pages n → m < table_pages n → table k ≡ table m → k ≡ m)
    → ((k : ℕ) → k < table_pages n → table k < page_count S)
    → i < n
    → word_at (with_fetchable_table S table n) (table (i / 1024)) (i % 1024) ≡ with_fetch (word_at S (table (i / 1024)) (i % 1024))
table_at S table zero i one within lt = absurd (omega arith)
table_at S table (suc m) i one within lt = elim (cases_eq i m) [
  | inl e ↦
      ap (λ (k : ℕ). word_at (with_fetchable_table S table (suc k)) (table (i / 1024)) (i % 1024)) (sym e)
      ∙ table_here S table i (λ k l low high. one k l (omega (arith, e)) (omega (arith, e))) (λ k low. within k (omega (arith, e)))
  | inr ne ↦
      let low : i < m = omega (arith, ne) in
      table_before S table m i one low
      ∙ table_at S table m i (λ k l a b. one k l (omega arith) (omega arith)) (λ k a. within k (omega arith)) low
]

-- the block
pub version_other : (S : List ℕ) (b dir g w : ℕ) → w < 1024 → (g ≡ b → (w ≡ 66) ⊎ (w ≡ 67) → ⊥) → word_at (with_version S b dir) g w ≡ word_at S g w
version_other S b dir g w low out =
    get_or-set_other (set S (1024 * b + 66) dir) (1024 * b + 67) (1024 * g + w) 2 0 second
    ∙ get_or-set_other S (1024 * b + 66) (1024 * g + w) dir 0 first
  where
    first : 1024 * g + w ≢ 1024 * b + 66
    first = λ e. out (omega arith) (inl (omega arith))

    second : 1024 * g + w ≢ 1024 * b + 67
    second = λ e. out (omega arith) (inr (omega arith))

pub version_directory : (S : List ℕ) (b dir : ℕ) → b < page_count S → word_at (with_version S b dir) b 66 ≡ dir
version_directory S b dir inside =
    let other : 1024 * b + 66 ≢ 1024 * b + 67 = omega arith in
    get_or-set_other (set S (1024 * b + 66) dir) (1024 * b + 67) (1024 * b + 66) 2 0 other
    ∙ get_or-set_same S (1024 * b + 66) dir 0 (omega arith)

pub version_two : (S : List ℕ) (b dir : ℕ) → b < page_count S → word_at (with_version S b dir) b 67 ≡ 2
version_two S b dir inside =
    get_or-set_same (set S (1024 * b + 66) dir) (1024 * b + 67) 2 0 (omega (arith, length-set S (1024 * b + 66) dir))

pub length-with_version : (S : List ℕ) (b dir : ℕ) → length (with_version S b dir) ≡ length S
length-with_version S b dir = length-set (set S (1024 * b + 66) dir) (1024 * b + 67) 2 ∙ length-set S (1024 * b + 66) dir

-- all three
pub length-rewritten : (S : List ℕ) (x : Item) (dir d : ℕ) (table : ℕ → ℕ) → length (rewritten S x dir d table) ≡ length S
unfolding rewritten
length-rewritten S x dir d table =
    length-with_version (with_fetchable_table (with_directory_words S d x.table (table_pages x.pages)) table x.pages) x.block dir
    ∙ length-with_fetchable_table (with_directory_words S d x.table (table_pages x.pages)) table x.pages
    ∙ length-with_directory_words S d x.table (table_pages x.pages)
