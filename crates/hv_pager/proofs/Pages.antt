-- The words of one page, and of a storage made of pages as they first came.
use Rattle.std.proofs.Common.{◌≡◌, ℕ, zero, suc, ◌+◌, ◌-◌, ◌*◌, ◌<◌, ◌≤◌, List, ◌++◌, length, Option, Some, None, get_or, refl, ap, ◌∙◌, arith, length-append}
use Rattle.std.proofs.lemmas.List.{length-replicate, get_or_append_left, get_or-append_right}
use Rattle.std.proofs.lemmas.List.FromFn.{length-map-range_with_len, get_or-map-range_with_len}
use Rattle.hv_word.specs.Storage.{word_at}
use Rattle.hv_store.specs.declared.access.Way.TheVariants.{Open}
use Rattle.hv_map.specs.Seen.{words_of}
use Rattle.hv_pager.specs.Paging.{Arrivals, arrived, demand}

word_of : (S : List ℕ) (n g w : ℕ) → w < n → get_or (words_of S n (Open g)) w 0 ≡ word_at S g w
unfolding words_of
word_of S n g w h = get_or-map-range_with_len (word_at S g) 0 n w w 0 h (omega arith)

pub word_of_page : (S : List ℕ) (g w : ℕ) → w < 1024 → get_or (words_of S 1024 (Open g)) w 0 ≡ word_at S g w
word_of_page S g w h = word_of S 1024 g w h

length-arrived : (n : ℕ) (o : Option (List ℕ)) → length (arrived n o) ≡ n
unfolding arrived
length-arrived n None = length-replicate n 0
length-arrived n (Some words) = length-map-range_with_len (λ w. get_or words w 0) 0 n

word_arrived : (n : ℕ) (words : List ℕ) (w : ℕ) → w < n → get_or (arrived n (Some words)) w 0 ≡ get_or words w 0
unfolding arrived
word_arrived n words w h = get_or-map-range_with_len (λ k. get_or words k 0) 0 n w w 0 h (omega arith)

pub page_length : (n : ℕ) (pages : ℕ → Arrivals) → length (demand n pages) ≡ 1024 * n
unfolding demand
page_length zero pages = refl
page_length (suc n) pages =
    omega (arith, length-append (arrived 1024 (pages 0).first) (demand n (λ i. pages (suc i))), length-arrived 1024 (pages 0).first, page_length n (λ i. pages (suc i)))

pub word_demand : (n : ℕ) (pages : ℕ → Arrivals) (i w : ℕ) (words : List ℕ) → i < n → w < 1024 → (pages i).first ≡ Some words → word_at (demand n pages) i w ≡ get_or words w 0
unfolding demand
word_demand zero pages i w words inside h e = absurd (omega (arith, inside))
word_demand (suc n) pages zero w words inside h e =
    let low : w < length (arrived 1024 (pages 0).first) = omega (arith, h, length-arrived 1024 (pages 0).first) in
    let at : 1024 * 0 + w ≡ w = omega arith in
    ap (λ (k : ℕ). get_or (arrived 1024 (pages 0).first ++ demand n (λ i. pages (suc i))) k 0) at
    ∙ get_or_append_left (arrived 1024 (pages 0).first) (demand n (λ i. pages (suc i))) 0 w low
    ∙ ap (λ (o : Option (List ℕ)). get_or (arrived 1024 o) w 0) e
    ∙ word_arrived 1024 words w h
word_demand (suc n) pages (suc i) w words inside h e =
    let past : 1024 ≤ 1024 * suc i + w = omega arith in
    let at : 1024 * suc i + w - 1024 ≡ 1024 * i + w = omega arith in
    let more : i < n = omega (arith, inside) in
    get_or-append_right (arrived 1024 (pages 0).first) (demand n (λ k. pages (suc k))) 1024 (1024 * suc i + w) 0 (length-arrived 1024 (pages 0).first) past
    ∙ ap (λ (k : ℕ). get_or (demand n (λ m. pages (suc m))) k 0) at
    ∙ word_demand n (λ k. pages (suc k)) i w words more h e
