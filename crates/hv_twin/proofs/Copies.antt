-- A storage that is filled page by page with what a machine sees.
use Rattle.std.proofs.Common.{◌≡◌, ◌≢◌, ℕ, suc, ◌+◌, ◌-◌, ◌*◌, ◌≤◌, List, [], ◌∷◌, ◌++◌, length, map, take, drop, set, Some, refl, sym, ap, ◌∙◌, arith, append_assoc, length-append}
use Rattle.std.specs.Prelude.{replicate, slice_get}
use Rattle.std.specs.List.{range_with_len}
use Rattle.std.proofs.Math.Seq.{take-append_seam, drop-append-add}
use Rattle.std.proofs.lemmas.List.{append-nil, length-replicate, length-take, take_more, drop-replicate, replicate-append-replicate}
use Rattle.std.proofs.lemmas.Option.{slice_get_within, get_or_from_slice_get}
use Rattle.std.proofs.lemmas.List.FromFn.{length-map-range_with_len, map-range_with_len_more}
use Rattle.std.proofs.lemmas.List.Edits.{sets, sets-eq}
use Rattle.hv_word.specs.Storage.{word_at}
use Rattle.hv_store.specs.declared.access.Slot.{Slot}
use Rattle.hv_store.specs.declared.access.Way.{Way}
use Rattle.hv_store.specs.declared.access.Way.TheVariants.{Open, Shut}
use Rattle.hv_store.specs.Zeros.{zeros}
use Rattle.hv_map.specs.Seen.{words_of, page_of, seen}

-- one word more is replaced
sets-snoc : (vs l : List ℕ) (i v : ℕ) → sets l i (vs ++ v ∷ []) ≡ set (sets l i vs) (i + length vs) v
sets-snoc [] l i v = ap (λ k. set l k v) (omega arith)
sets-snoc (a ∷ vs) l i v =
    sets-snoc vs (set l i a) (suc i) v ∙ ap (λ k. set (sets (set l i a) (suc i) vs) k v) (omega arith)

-- one word more of a page is copied
pub word_copied : (S l now : List ℕ) (g i w v : ℕ) → now ≡ sets l i (words_of S w (Open g)) → v ≡ word_at S g w → set now (i + w) v ≡ sets l i (words_of S (w + 1) (Open g))
unfolding words_of
word_copied S l now g i w v is value =
    let vs = map (word_at S g) (range_with_len 0 w) in
    let n = length-map-range_with_len (word_at S g) 0 w in
    ap (λ s. set s (i + w) v) is
    ∙ ap (λ k. set (sets l i vs) (i + k) v) (sym n)
    ∙ sym (sets-snoc vs l i v)
    ∙ ap (λ k. sets l i (vs ++ k ∷ [])) value
    ∙ ap (sets l i) (sym (map-range_with_len_more (word_at S g) 0 w w (omega arith)))

-- none are at first, and a whole page in the end
pub no_words : (S l : List ℕ) (g i : ℕ) → l ≡ sets l i (words_of S 0 (Open g))
unfolding words_of
no_words S l g i = refl

pub all_words : (S l now : List ℕ) (g i w n : ℕ) → w ≡ n → now ≡ sets l i (words_of S w (Open g)) → now ≡ sets l i (words_of S n (Open g))
all_words S l now g i w n e is = is ∙ ap (λ k. sets l i (words_of S k (Open g))) e

-- the pages that were filled, and as many zeros as there are words behind them
abbrev pub filled : List ℕ → ℕ → List ℕ
filled front n = front ++ replicate n 0

zeros_len : (n : ℕ) → length {A = ℕ} (replicate n 0) ≡ n
zeros_len n = length-replicate {A = ℕ} n 0

-- words put where the zeros begin
put_in_front : (front vs : List ℕ) (i n : ℕ) → length front ≡ i → length vs ≤ n → sets (filled front n) i vs ≡ filled (front ++ vs) (n - length vs)
put_in_front front vs i n at room =
    let whole : length (filled front n) ≡ i + n = omega (arith, length-append front (replicate n 0), zeros_len n) in
    let e : i + length vs ≡ length front + length vs = omega arith in
    sets-eq vs (filled front n) i (omega arith)
    ∙ ap (λ k. take k (filled front n) ++ vs ++ drop (i + length vs) (filled front n)) (sym at)
    ∙ ap (λ xs. xs ++ vs ++ drop (i + length vs) (filled front n)) (take-append_seam front (replicate n 0))
    ∙ ap (λ k. front ++ vs ++ drop k (filled front n)) e
    ∙ ap (λ xs. front ++ vs ++ xs) (drop-append-add front (replicate n 0) (length vs) ∙ drop-replicate (length vs) n 0)

pub length-words_of : (S : List ℕ) (n : ℕ) (way : Way) → length (words_of S n way) ≡ n
unfolding words_of
length-words_of S n (Open g) = length-map-range_with_len (word_at S g) 0 n
length-words_of S n (Shut l c p w) = length-replicate n 0

pub length-seen : (S : List ℕ) (F : List Slot) → length (seen S F) ≡ 1024 * length F
unfolding seen
length-seen S [] = refl
length-seen S (s ∷ F) =
    omega (arith, length-append (page_of S s.read) (seen S F), length-words_of S 1024 s.read, length-seen S F)

pub seen-append : (S : List ℕ) (F G : List Slot) → seen S (F ++ G) ≡ seen S F ++ seen S G
unfolding seen
seen-append S [] G = refl
seen-append S (s ∷ F) G = ap (λ ws. page_of S s.read ++ ws) (seen-append S F G) ∙ sym (append_assoc (page_of S s.read) (seen S F) (seen S G))

-- one page more of what is seen
seen-more : (S : List ℕ) (F : List Slot) (i : ℕ) (s : Slot) → slice_get F i ≡ Some s → seen S (take (i + 1) F) ≡ seen S (take i F) ++ page_of S s.read
unfolding seen
seen-more S F i s at =
    ap (seen S) (take_more F i s (slice_get_within F i s at) ∙ ap (λ x. take i F ++ x ∷ []) (get_or_from_slice_get F i s s at))
    ∙ seen-append S (take i F) (s ∷ [])
    ∙ ap (λ ws. seen S (take i F) ++ ws) (append-nil (page_of S s.read))

-- a copy whose first i pages are those of the map F, of as many pages
abbrev pub copied : List ℕ → List Slot → ℕ → List ℕ
copied S F i = filled (seen S (take i F)) (1024 * (length F - i))

pub copied_none : (S : List ℕ) (F : List Slot) (n : ℕ) → n ≡ length F → zeros (1024 * n) ≡ copied S F 0
unfolding seen zeros
copied_none S F n e = ap (λ k. filled [] (1024 * k)) same
  where
    same : n ≡ length F - 0
    same = omega (arith, e)

-- a page that is read
pub open_more : (S : List ℕ) (F : List Slot) (i g : ℕ) (s : Slot) → slice_get F i ≡ Some s → s.read ≡ Open g → sets (copied S F i) (1024 * i) (words_of S 1024 (Open g)) ≡ copied S F (i + 1)
open_more S F i g s at is =
    let ws = words_of S 1024 (Open g) in
    let len : length ws ≡ 1024 = length-words_of S 1024 (Open g) in
    let inside = slice_get_within F i s at in
    let front : length (seen S (take i F)) ≡ 1024 * i = omega (arith, length-seen S (take i F), length-take i F) in
    let left : 1024 * (length F - i) - length ws ≡ 1024 * (length F - (i + 1)) = omega arith in
    put_in_front (seen S (take i F)) ws (1024 * i) (1024 * (length F - i)) front (omega arith)
    ∙ ap (λ k. filled (seen S (take i F) ++ ws) k) left
    ∙ ap (λ way. filled (seen S (take i F) ++ page_of S way) (1024 * (length F - (i + 1)))) (sym is)
    ∙ ap (λ xs. filled xs (1024 * (length F - (i + 1)))) (sym (seen-more S F i s at))

-- and one that can't be read
words_shut : (S : List ℕ) (n : ℕ) (way : Way) → ((g : ℕ) → way ≢ Open g) → words_of S n way ≡ replicate n 0
unfolding words_of
words_shut S n (Open g) not_open = absurd (not_open g refl)
words_shut S n (Shut l c p w) not_open = refl

shut_page : (front ws : List ℕ) (k n m : ℕ) → ws ≡ replicate k 0 → m ≡ k + n → filled front m ≡ filled (front ++ ws) n
shut_page front ws k n m is left =
    ap (λ j. filled front j) left
    ∙ ap (λ xs. front ++ xs) (sym (replicate-append-replicate k n 0))
    ∙ sym (append_assoc front (replicate k 0) (replicate n 0))
    ∙ ap (λ xs. filled (front ++ xs) n) (sym is)

pub shut_more : (S : List ℕ) (F : List Slot) (i : ℕ) (s : Slot) → slice_get F i ≡ Some s → ((g : ℕ) → s.read ≢ Open g) → copied S F i ≡ copied S F (i + 1)
shut_more S F i s at not_open =
    let inside = slice_get_within F i s at in
    let n = 1024 * (length F - (i + 1)) in
    shut_page (seen S (take i F)) (page_of S s.read) 1024 n (1024 * (length F - i)) (words_shut S 1024 s.read not_open) (omega arith)
    ∙ ap (λ xs. filled xs n) (sym (seen-more S F i s at))
