-- The words of a control block, read one after another.
use Rattle.std.proofs.Common.{◌≡◌, ◌∙◌, ℕ, ◌+◌, ◌<◌, List, [], ◌∷◌, ◌++◌, length, take, set, map, ap, sym, arith}
use Rattle.std.specs.List.{range_with_len}
use Rattle.std.proofs.lemmas.List.{length-set, map-append, take_all, take_more_set}
use Rattle.hv_word.specs.Storage.{word_at}
use Rattle.hv_apart.proofs.Growing.{range-push}
use Rattle.hv_report.specs.Report.{block_words}

-- one word more
pub words_more : (S words : List ℕ) (g n : ℕ) → n < length words → take n words ≡ map (word_at S g) (range_with_len 0 n) → take (n + 1) (set words n (word_at S g n)) ≡ map (word_at S g) (range_with_len 0 (n + 1))
words_more S words g n lt is =
    let place : n ≡ 0 + n = omega arith in
    take_more_set words n (word_at S g n) lt
    ∙ ap (λ (ws : List ℕ). ws ++ word_at S g n ∷ []) is
    ∙ ap (λ (k : ℕ). map (word_at S g) (range_with_len 0 n) ++ word_at S g k ∷ []) place
    ∙ sym (map-append (word_at S g) (range_with_len 0 n) ((0 + n) ∷ []))
    ∙ ap (map (word_at S g)) (sym (range-push 0 n))

-- the words 0 to 48, and then 64
pub all_words : (S words : List ℕ) (g n : ℕ) → length words ≡ 50 → n ≡ 49 → take n words ≡ map (word_at S g) (range_with_len 0 n) → set words 49 (word_at S g 64) ≡ block_words S g
all_words S words g n len e is =
    sym (take_all 50 (set words 49 (word_at S g 64)) (omega (arith, len, length-set words 49 (word_at S g 64))))
    ∙ take_more_set words 49 (word_at S g 64) (omega (arith, len))
    ∙ ap (λ (ws : List ℕ). ws ++ word_at S g 64 ∷ []) (ap (λ (k : ℕ). take k words) (sym e) ∙ is ∙ ap (λ (k : ℕ). map (word_at S g) (range_with_len 0 k)) e)
