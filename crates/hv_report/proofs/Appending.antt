-- One more piece of text behind those that are written.
use Rattle.std.proofs.Common.{◌≡◌, ◌∙◌, ℕ, ◌+◌, List, [], ◌++◌, ap, sym, arith, append_assoc}
use Rattle.std.specs.List.{flat_map, range_with_len}
use Rattle.hv_report.specs.Dumps.{dumped_bytes, words_bytes, page_line, first_lines}
use Rattle.hv_nest.specs.State.{State}
use Rattle.hv_report.specs.Report.{hart_text, first_harts}
use Rattle.hv_apart.proofs.Growing.{range-push, flat_map-push}

-- the text of the numbers from a on, with one more
pub text_more : (f : ℕ → List ℕ) (front text : List ℕ) (a n j : ℕ) → a + n ≡ j → text ≡ front ++ flat_map f (range_with_len a n) →
    text ++ f j ≡ front ++ flat_map f (range_with_len a (n + 1))
text_more f front text a n j e is =
    ap (λ (t : List ℕ). t ++ f j) is
    ∙ append_assoc front (flat_map f (range_with_len a n)) (f j)
    ∙ ap (λ (t : List ℕ). front ++ t)
    (ap (λ (m : ℕ). flat_map f (range_with_len a n) ++ f m) (sym e)
    ∙ sym (flat_map-push ℕ f (range_with_len a n) (a + n))
    ∙ sym (ap (flat_map f) (range-push a n)))

-- the bytes of one word more
pub bytes_more : (S : List ℕ) (g a n j : ℕ) (text : List ℕ) → a + n ≡ j → text ≡ words_bytes S g a n → text ++ dumped_bytes S g j ≡ words_bytes S g a (n + 1)
unfolding words_bytes
bytes_more S g a n j text e is = text_more (dumped_bytes S g) [] text a n j e is

-- the text of one line more
pub lines_more : (S front text : List ℕ) (g n : ℕ) → text ≡ front ++ first_lines S g n → text ++ page_line S g n ≡ front ++ first_lines S g (n + 1)
unfolding first_lines
lines_more S front text g n is = text_more (page_line S g) front text 0 n n (omega arith) is

-- the text of one hart more
pub harts_more : (st : State) (front text : List ℕ) (n : ℕ) → text ≡ front ++ first_harts st n → text ++ hart_text st n ≡ front ++ first_harts st (n + 1)
unfolding first_harts
harts_more st front text n is = text_more (hart_text st) front text 0 n n (omega arith) is

pub ruleset one_more = (bytes_more, lines_more, harts_more)
