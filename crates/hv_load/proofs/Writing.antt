-- Words written one after another, which a function gives.
use Rattle.std.proofs.Common.{◌≡◌, ℕ, suc, ◌+◌, ◌*◌, ◌<◌, ◌≤◌, List, [], ◌∷◌, ◌++◌, length, map, drop, get_or, set, sym, ap, subst, ◌∙◌, arith}
use Rattle.std.specs.List.{All, range_with_len}
use Rattle.std.proofs.Math.Seq.{sets, length-sets}
use Rattle.std.proofs.lemmas.List.{drop_all, get_or_default}
use Rattle.std.proofs.Math.ListN.{length-set}
use Rattle.std.proofs.lemmas.List.FromFn.{length-map-range_with_len, map-range_with_len_more}
use Rattle.hv_load.specs.Making.{table_word, with_page, with_tables}
use Rattle.hv_load.proofs.Lists.{left_at}

sets-snoc : (vs l : List ℕ) (i a : ℕ) → sets l i (vs ++ a ∷ []) ≡ set (sets l i vs) (i + length vs) a
sets-snoc [] l i a = ap (λ (k : ℕ). set l k a) (omega arith)
sets-snoc (v ∷ vs) l i a =
    sets-snoc vs (set l i v) (suc i) a ∙ ap (λ (k : ℕ). set (sets (set l i v) (suc i) vs) k a) (omega arith)

pub length-sets_lem : (l : List ℕ) (i : ℕ) (vs : List ℕ) → length (sets l i vs) ≡ length l
length-sets_lem l i vs = length-sets l i vs

pub sets_word : (f : ℕ → ℕ) (l : List ℕ) (at n : ℕ) → sets l at (map f (range_with_len 0 (n + 1))) ≡ set (sets l at (map f (range_with_len 0 n))) (at + n) (f n)
sets_word f l at n =
    ap (sets l at) (map-range_with_len_more f 0 n n (omega arith))
    ∙ sets-snoc (map f (range_with_len 0 n)) l at (f n)
    ∙ ap (λ (k : ℕ). set (sets l at (map f (range_with_len 0 n))) (at + k) (f n)) (length-map-range_with_len f 0 n)

-- one word more was written
pub word_put : (f : ℕ → ℕ) (l S T : List ℕ) (at n v : ℕ) → S ≡ sets l at (map f (range_with_len 0 n)) → v ≡ f n → T ≡ set S (at + n) v → T ≡ sets l at (map f (range_with_len 0 (n + 1)))
word_put f l S T at n v so_far is put =
    put
    ∙ ap (λ (s : List ℕ). set s (at + n) v) so_far
    ∙ ap (λ (v : ℕ). set (sets l at (map f (range_with_len 0 n))) (at + n) v) is
    ∙ sym (sets_word f l at n)

pub length_put : (S T l : List ℕ) (i v : ℕ) → T ≡ set S i v → length S ≡ length l → length T ≡ length l
length_put S T l i v put len = ap length put ∙ length-set S i v ∙ len

pub tables_more : (S : List ℕ) (pages at k : ℕ) (tables : List ℕ) (i : ℕ) → i < length tables → with_tables S pages at k (drop i tables) ≡ with_tables (with_page S (get_or tables i 0) (table_word pages at k)) pages at (k + 1) (drop (i + 1) tables)
tables_more S pages at k tables i h =
    ap (with_tables S pages at k) (left_at tables i (get_or tables i 0) h (get_or_default tables i 0 (get_or tables i 0) h))

pub tables_end : (S : List ℕ) (pages at k : ℕ) (tables : List ℕ) (i : ℕ) → length tables ≤ i → with_tables S pages at k (drop i tables) ≡ S
tables_end S pages at k tables i h = ap (with_tables S pages at k) (drop_all i tables h)

-- all words of a page were written
pub page_written : (n : ℕ) (S T : List ℕ) (g : ℕ) (f : ℕ → ℕ) → n ≡ 1024 → T ≡ sets S (1024 * g) (map f (range_with_len 0 n)) → T ≡ with_page S g f
unfolding with_page
page_written n S T g f is written = written ∙ ap (λ (k : ℕ). sets S (1024 * g) (map f (range_with_len 0 k))) is

pub length-with_page : (S : List ℕ) (g : ℕ) (f : ℕ → ℕ) → length (with_page S g f) ≡ length S
unfolding with_page
length-with_page S g f = length-sets S (1024 * g) (map f (range_with_len 0 1024))

pub ruleset writing = (sets_word, length-sets_lem, tables_more, tables_end)

-- a bare page behind the first is in range as all are
pub host_in : (n m : ℕ) (taken tables : List ℕ) (block k : ℕ) → All (λ g. g < n) taken → taken ≡ block ∷ tables → k < length tables → n ≡ m → get_or tables k 0 < m
host_in n m taken tables block k all is lt same =
    let both : All (λ g. g < n) (block ∷ tables) = subst (λ (ts : List ℕ). All (λ g. g < n) ts) is all in
    subst (λ (m : ℕ). get_or tables k 0 < m) same (both (suc k) 0 (omega arith))
