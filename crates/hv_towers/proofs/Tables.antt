-- The words of a block and of tables that lie one page after another.
use Rattle.std.proofs.Common.{◌≡◌, ℕ, zero, suc, ◌+◌, ◌*◌, ◌<◌, ◌≤◌, ◌⊎◌, inl, inr, List, [], ◌∷◌, length, map, refl, ap, ◌∙◌, arith, get_or}
use Rattle.std.specs.List.{range_with_len}
use Rattle.std.proofs.Math.Seq.{sets}
use Rattle.std.proofs.lemmas.List.FromFn.{length-map-range_with_len, get_or-map-range_with_len}
use Rattle.hv_word.specs.Storage.{word_at}
use Rattle.hv_block.proofs.Words.{sets_at, sets_outside}
use Rattle.hv_load.specs.Making.{block_word, table_word, with_page, with_tables, with_machine}
use Rattle.hv_load.proofs.Writing.{length-with_page}

-- words that a function gives, written one after another, and those beside them
run_other : (n : ℕ) (S : List ℕ) (at : ℕ) (f : ℕ → ℕ) (q : ℕ) → (q < at) ⊎ (at + n ≤ q) → get_or (sets S at (map f (range_with_len 0 n))) q 0 ≡ get_or S q 0
run_other n S at f q h = sets_outside (map f (range_with_len 0 n)) S at q (beside (length (map f (range_with_len 0 n))) (length-map-range_with_len f 0 n) h)
  where
    beside : (l : ℕ) → l ≡ n → (q < at) ⊎ (at + n ≤ q) → (q < at) ⊎ (at + l ≤ q)
    beside l e (inl a) = inl a
    beside l e (inr b) = inr (omega (arith, e, b))

run_at : (n : ℕ) (S : List ℕ) (at : ℕ) (f : ℕ → ℕ) (k : ℕ) → at + n ≤ length S → k < n → get_or (sets S at (map f (range_with_len 0 n))) (at + k) 0 ≡ f k
run_at n S at f k fits lt =
    let l = length-map-range_with_len f 0 n in
    sets_at (map f (range_with_len 0 n)) S at k (at + k) (omega (arith, l, fits)) (omega (arith, l, lt)) refl
    ∙ get_or-map-range_with_len f 0 n k k 0 lt (omega arith)

-- a page
pub page_other : (S : List ℕ) (g : ℕ) (f : ℕ → ℕ) (q : ℕ) → (q < 1024 * g) ⊎ (1024 * g + 1024 ≤ q) → get_or (with_page S g f) q 0 ≡ get_or S q 0
unfolding with_page
page_other S g f q h = run_other 1024 S (1024 * g) f q h

pub page_at : (S : List ℕ) (g : ℕ) (f : ℕ → ℕ) (w : ℕ) → 1024 * g + 1024 ≤ length S → w < 1024 → word_at (with_page S g f) g w ≡ f w
unfolding with_page
page_at S g f w fits lt = run_at 1024 S (1024 * g) f w fits lt

-- tables, from page k of the whole table on
pub length-tables : (S : List ℕ) (pages at k : ℕ) (gs : List ℕ) → length (with_tables S pages at k gs) ≡ length S
length-tables S pages at k [] = refl
length-tables S pages at k (g ∷ gs) =
    length-tables (with_page S g (table_word pages at k)) pages at (k + 1) gs ∙ length-with_page S g (table_word pages at k)

pub tables_other : (S : List ℕ) (pages at k g c q : ℕ) → (q < 1024 * g) ⊎ (1024 * (g + c) ≤ q) → get_or (with_tables S pages at k (range_with_len g c)) q 0 ≡ get_or S q 0
tables_other S pages at k g zero q h = refl
tables_other S pages at k g (suc c) q h =
    tables_other (with_page S g (table_word pages at k)) pages at (k + 1) (g + 1) c q (further h)
    ∙ page_other S g (table_word pages at k) q (here h)
  where
    further : (q < 1024 * g) ⊎ (1024 * (g + suc c) ≤ q) → (q < 1024 * (g + 1)) ⊎ (1024 * (g + 1 + c) ≤ q)
    further (inl a) = inl (omega arith)
    further (inr b) = inr (omega arith)

    here : (q < 1024 * g) ⊎ (1024 * (g + suc c) ≤ q) → (q < 1024 * g) ⊎ (1024 * g + 1024 ≤ q)
    here (inl a) = inl a
    here (inr b) = inr (omega arith)

pub tables_at : (S : List ℕ) (pages at k g c i w : ℕ) → 1024 * (g + c) ≤ length S → i < c → w < 1024 → word_at (with_tables S pages at k (range_with_len g c)) (g + i) w ≡ table_word pages at (k + i) w
tables_at S pages at k g zero i w fits lt small = absurd (omega arith)
tables_at S pages at k g (suc c) zero w fits lt small =
    let first : g + 0 ≡ g = omega arith in
    let none : k ≡ k + 0 = omega arith in
    let before : 1024 * g + w < 1024 * (g + 1) = omega arith in
    let room : 1024 * g + 1024 ≤ length S = omega (arith, fits) in
    ap (λ (x : ℕ). word_at (with_tables S pages at k (range_with_len g (suc c))) x w) first
    ∙ tables_other (with_page S g (table_word pages at k)) pages at (k + 1) (g + 1) c (1024 * g + w) (inl before)
    ∙ page_at S g (table_word pages at k) w room small
    ∙ ap (λ (x : ℕ). table_word pages at x w) none
tables_at S pages at k g (suc c) (suc i) w fits lt small =
    let next : g + suc i ≡ g + 1 + i = omega arith in
    let page : k + 1 + i ≡ k + suc i = omega arith in
    let room : 1024 * (g + 1 + c) ≤ length (with_page S g (table_word pages at k)) = omega (arith, length-with_page S g (table_word pages at k), fits) in
    ap (λ (x : ℕ). word_at (with_tables S pages at k (range_with_len g (suc c))) x w) next
    ∙ tables_at (with_page S g (table_word pages at k)) pages at (k + 1) (g + 1) c i w room (omega (arith, lt)) small
    ∙ ap (λ (x : ℕ). table_word pages at x w) page

-- a block on page g, and tables from the next page on
module _ (S : List ℕ) (pages table at g c : ℕ) where
  pub length-machine : length (with_machine S pages table at (range_with_len g (suc c))) ≡ length S
  length-machine = length-tables (with_page S g (block_word pages table)) pages at 0 (range_with_len (g + 1) c) ∙ length-with_page S g (block_word pages table)

  pub machine_other : (q : ℕ) → (q < 1024 * g) ⊎ (1024 * (g + 1 + c) ≤ q) → get_or (with_machine S pages table at (range_with_len g (suc c))) q 0 ≡ get_or S q 0
  machine_other q h =
      tables_other (with_page S g (block_word pages table)) pages at 0 (g + 1) c q (further h)
      ∙ page_other S g (block_word pages table) q (here h)
    where
      further : (q < 1024 * g) ⊎ (1024 * (g + 1 + c) ≤ q) → (q < 1024 * (g + 1)) ⊎ (1024 * (g + 1 + c) ≤ q)
      further (inl a) = inl (omega arith)
      further (inr b) = inr b

      here : (q < 1024 * g) ⊎ (1024 * (g + 1 + c) ≤ q) → (q < 1024 * g) ⊎ (1024 * g + 1024 ≤ q)
      here (inl a) = inl a
      here (inr b) = inr (omega arith)

  pub machine_block : (w : ℕ) → 1024 * (g + 1 + c) ≤ length S → w < 1024 → word_at (with_machine S pages table at (range_with_len g (suc c))) g w ≡ block_word pages table w
  machine_block w fits small =
      let before : 1024 * g + w < 1024 * (g + 1) = omega arith in
      let room : 1024 * g + 1024 ≤ length S = omega (arith, fits) in
      tables_other (with_page S g (block_word pages table)) pages at 0 (g + 1) c (1024 * g + w) (inl before)
      ∙ page_at S g (block_word pages table) w room small

  pub machine_table : (k w : ℕ) → 1024 * (g + 1 + c) ≤ length S → k < c → w < 1024 → word_at (with_machine S pages table at (range_with_len g (suc c))) (g + 1 + k) w ≡ table_word pages at k w
  machine_table k w fits lt small =
      let none : 0 + k ≡ k = omega arith in
      let room : 1024 * (g + 1 + c) ≤ length (with_page S g (block_word pages table)) = omega (arith, length-with_page S g (block_word pages table), fits) in
      tables_at (with_page S g (block_word pages table)) pages at 0 (g + 1) c k w room lt small
      ∙ ap (λ (x : ℕ). table_word pages at x w) none
