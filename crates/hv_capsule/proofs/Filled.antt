-- A storage that is filled page by page, and the pages of it that aren't all zero.
use Rattle.std.proofs.Common.{◌≡◌, ℕ, zero, suc, ◌+◌, ◌*◌, ◌-◌, ◌<◌, ◌≤◌, List, [], ◌∷◌, ◌++◌, length, take, drop, set, get_or, replicate, Bool, true, false, if◌then◌else◌, refl, sym, ap, subst, ◌∙◌, append_assoc, arith}
use Rattle.std.proofs.Math.Seq.{sets, length-sets}
use Rattle.std.proofs.lemmas.List.{take_more, length-take-le, append-nil, take_at, drop_at, take-append-le, take-take, drop-take, drop-drop, length-append, take-replicate, drop-replicate, length-replicate}
use Rattle.std.proofs.lemmas.List.Edits.{sets-eq}
use Rattle.hv_word.specs.Storage.{page_count}
use Rattle.hv_store.specs.Zeros.{zeros}
use Rattle.hv_capsule.specs.Lines.{AreNext, Holds, IsNext, end_line, are_zero, filled_at, filled_line, filled_lines, filled_of, least_behind}
use Rattle.hv_capsule.specs.Text.{page_line, page_words, pages_text}

-- ---- words that are written one after another

sets-snoc : (vs l : List ℕ) (i a : ℕ) → sets l i (vs ++ a ∷ []) ≡ set (sets l i vs) (i + length vs) a
sets-snoc [] l i a = ap (λ (k : ℕ). set l k a) (omega arith)
sets-snoc (v ∷ vs) l i a =
    sets-snoc vs (set l i v) (suc i) a ∙ ap (λ (k : ℕ). set (sets (set l i v) (suc i) vs) k a) (omega arith)

pub sets_more : (ws l : List ℕ) (at i : ℕ) → i < length ws → sets l at (take (i + 1) ws) ≡ set (sets l at (take i ws)) (at + i) (get_or ws i 0)
sets_more ws l at i h =
    ap (λ (vs : List ℕ). sets l at vs) (take_more ws i 0 h)
    ∙ sets-snoc (take i ws) l at (get_or ws i 0)
    ∙ ap (λ (k : ℕ). set (sets l at (take i ws)) (at + k) (get_or ws i 0)) (length-take-le i ws (omega arith))

pub length-sets_lem : (l : List ℕ) (i : ℕ) (vs : List ℕ) → length (sets l i vs) ≡ length l
length-sets_lem l i vs = length-sets l i vs

pub ruleset edits = (sets_more, length-sets_lem)

-- ---- the words of pages, where one page is written

-- the words of a page are the end of those up to it
words_to : (S : List ℕ) (k : ℕ) → page_words S k ≡ drop (1024 * k) (take (1024 * k + 1024) S)
words_to S k = sym (drop-take (1024 * k) 1024 S)

pub words_below : (S ws : List ℕ) (p k : ℕ) → length ws ≡ 1024 → 1024 * p + 1024 ≤ length S → k < p
    → page_words (sets S (1024 * p) ws) k ≡ page_words S k
words_below S ws p k len room lt =
    let same : take (1024 * k + 1024) (sets S (1024 * p) ws) ≡ take (1024 * k + 1024) S =
    ap (take (1024 * k + 1024)) (sets-eq ws S (1024 * p) (omega (arith, len, room)))
    ∙ ap (take (1024 * k + 1024)) (append_assoc (take (1024 * p) S) ws (drop (1024 * p + length ws) S))
    ∙ take-append-le (1024 * k + 1024) (take (1024 * p) S) (ws ++ drop (1024 * p + length ws) S)
    (omega (arith, length-take-le (1024 * p) S (omega (arith, room))))
    ∙ take-take (1024 * k + 1024) (1024 * p) S (omega (arith, lt)) in
    words_to (sets S (1024 * p) ws) k ∙ ap (drop (1024 * k)) same ∙ sym (words_to S k)

pub words_here : (S ws : List ℕ) (p : ℕ) → length ws ≡ 1024 → 1024 * p + 1024 ≤ length S
    → page_words (sets S (1024 * p) ws) p ≡ ws
words_here S ws p len room =
    ap (take 1024) (ap (drop (1024 * p)) (sets-eq ws S (1024 * p) (omega (arith, len, room))
    ∙ append_assoc (take (1024 * p) S) ws (drop (1024 * p + length ws) S))
    ∙ drop_at (take (1024 * p) S) (ws ++ drop (1024 * p + length ws) S) (1024 * p) (length-take-le (1024 * p) S (omega (arith, room))))
    ∙ take_at ws (drop (1024 * p + length ws) S) 1024 len

pub words_above : (S ws : List ℕ) (p k : ℕ) → length ws ≡ 1024 → 1024 * p + 1024 ≤ length S → p < k
    → page_words (sets S (1024 * p) ws) k ≡ page_words S k
words_above S ws p k len room lt =
    let r : ℕ = 1024 * k - (1024 * p + 1024) in
    let sum : (1024 * p + 1024) + r ≡ 1024 * k = omega (arith, lt) in
    let front : List ℕ = take (1024 * p) S ++ ws in
    let behind : drop (1024 * p + 1024) (sets S (1024 * p) ws) ≡ drop (1024 * p + 1024) S =
    ap (drop (1024 * p + 1024)) (sets-eq ws S (1024 * p) (omega (arith, len, room)))
    ∙ drop_at front (drop (1024 * p + length ws) S) (1024 * p + 1024)
    (omega (arith, length-append (take (1024 * p) S) ws, length-take-le (1024 * p) S (omega (arith, room)), len))
    ∙ ap (λ (n : ℕ). drop (1024 * p + n) S) len in
    ap (take 1024) (ap (λ (n : ℕ). drop n (sets S (1024 * p) ws)) (sym sum)
    ∙ sym (drop-drop r (1024 * p + 1024) (sets S (1024 * p) ws)) ∙ ap (drop r) behind
    ∙ drop-drop r (1024 * p + 1024) S ∙ ap (λ (n : ℕ). drop n S) sum)

-- ---- the pages that aren't all zero

at_same : (S T : List ℕ) (k : ℕ) → page_words S k ≡ page_words T k → filled_at S k ≡ filled_at T k
at_same S T k e =
    ap (λ (ws : List ℕ). if are_zero ws then [] else (k, ws) ∷ []) e

same_filled : (S T : List ℕ) (n : ℕ) → ((k : ℕ) → k < n → page_words S k ≡ page_words T k) → filled_of S n ≡ filled_of T n
same_filled S T zero h = refl
same_filled S T (suc n) h =
    ap (λ (xs : List (ℕ × List ℕ)). xs ++ filled_at S n) (same_filled S T n (λ k lt. h k (omega (arith, lt))))
    ∙ ap (λ (xs : List (ℕ × List ℕ)). filled_of T n ++ xs) (at_same S T n (h n (omega arith)))

pub at_zero : (S : List ℕ) (k : ℕ) → are_zero (page_words S k) ≡ true → filled_at S k ≡ []
at_zero S k e = ap (λ (b : Bool). if b then [] else (k, page_words S k) ∷ []) e

pub at_some : (S : List ℕ) (k : ℕ) → are_zero (page_words S k) ≡ false → filled_at S k ≡ (k, page_words S k) ∷ []
at_some S k e = ap (λ (b : Bool). if b then [] else (k, page_words S k) ∷ []) e

pub filled_zeros : (S : List ℕ) (n d : ℕ) → ((k : ℕ) → n ≤ k → k < n + d → are_zero (page_words S k) ≡ true)
    → filled_of S (n + d) ≡ filled_of S n
filled_zeros S n zero h = ap (filled_of S) (let e : n + 0 ≡ n = omega arith in e)
filled_zeros S n (suc d) h =
    ap (filled_of S) (let e : n + suc d ≡ suc (n + d) = omega arith in e)
    ∙ ap (λ (xs : List (ℕ × List ℕ)). filled_of S (n + d) ++ xs) (at_zero S (n + d) (h (n + d) (omega arith) (omega arith)))
    ∙ append-nil (filled_of S (n + d)) ∙ filled_zeros S n d (λ k le lt. h k le (omega (arith, lt)))

-- one page more
pub filled_more : (S ws : List ℕ) (least p : ℕ) → length ws ≡ 1024 → 1024 * p + 1024 ≤ length S → least ≤ p
    → ((k : ℕ) → least ≤ k → k < p → are_zero (page_words S k) ≡ true) → are_zero ws ≡ false
    → filled_of (sets S (1024 * p) ws) (p + 1) ≡ filled_of S least ++ (p, ws) ∷ []
filled_more S ws least p len room le zeros some =
    let T : List ℕ = sets S (1024 * p) ws in
    let here : page_words T p ≡ ws = words_here S ws p len room in
    let before : filled_of T p ≡ filled_of S least =
    same_filled T S p (λ k lt. words_below S ws p k len room lt)
    ∙ ap (filled_of S) (let e : p ≡ least + (p - least) = omega (arith, le) in e)
    ∙ filled_zeros S least (p - least) (λ k l r. zeros k l (omega (arith, l, r, le))) in
    ap (filled_of T) (let e : p + 1 ≡ suc p = omega arith in e)
    ∙ ap (λ (xs : List (ℕ × List ℕ)). xs ++ filled_at T p) before
    ∙ ap (λ (xs : List (ℕ × List ℕ)). filled_of S least ++ xs)
    (at_some T p (ap are_zero here ∙ some) ∙ ap (λ (vs : List ℕ). (p, vs) ∷ []) here)

pub next_more : (pages k : ℕ) (xs : List (ℕ × List ℕ)) (q : ℕ × List ℕ) → AreNext pages k xs
    → IsNext pages (least_behind k xs) q.0 q.1 → AreNext pages k (xs ++ q ∷ [])
next_more pages k [] q h is = (is, tt)
next_more pages k (x ∷ xs) q h is = (h.0, next_more pages (x.0 + 1) xs q h.1 is)

pub least_more : (k : ℕ) (xs : List (ℕ × List ℕ)) (q : ℕ × List ℕ) → least_behind k (xs ++ q ∷ []) ≡ q.0 + 1
least_more k [] q = refl
least_more k (x ∷ xs) q = least_more (x.0 + 1) xs q

pub lines_more : (xs : List (ℕ × List ℕ)) (q : ℕ × List ℕ) (rest : List ℕ)
    → filled_lines xs ++ (filled_line q.0 q.1 ++ rest) ≡ filled_lines (xs ++ q ∷ []) ++ rest
lines_more [] q rest = ap (λ (text : List ℕ). text ++ rest) (sym (append-nil (filled_line q.0 q.1)))
lines_more (x ∷ xs) q rest =
    append_assoc (filled_line x.0 x.1) (filled_lines xs) (filled_line q.0 q.1 ++ rest)
    ∙ ap (λ (text : List ℕ). filled_line x.0 x.1 ++ text) (lines_more xs q rest)
    ∙ sym (append_assoc (filled_line x.0 x.1) (filled_lines (xs ++ q ∷ [])) rest)

-- ---- the loop over page lines

-- the lines of the pages below `least` are read, and the pages from there on are zero
pub record IsReadTo (S : List ℕ) (pages least : ℕ) (text : List ℕ) (at : ℕ) (rest : List ℕ) : Type 0 where
  pub whole : length S ≡ 1024 * pages
  pub below : least ≤ pages
  pub zero : (k : ℕ) → least ≤ k → k < pages → are_zero (page_words S k) ≡ true
  pub next : AreNext pages 0 (filled_of S least)
  pub last : least_behind 0 (filled_of S least) ≡ least
  pub parts : text ≡ filled_lines (filled_of S least) ++ rest
  pub line : at ≡ 4 + length (filled_of S least)
  pub room : at ≤ 4 + least

pub read_more : (S ws text rest behind : List ℕ) (pages least line p : ℕ) → IsReadTo S pages least text line rest
    → IsNext pages least p ws → rest ≡ filled_line p ws ++ behind
    → IsReadTo (sets S (1024 * p) ws) pages (p + 1) text (line + 1) behind
read_more S ws text rest behind pages least line p h is cut =
    let room : 1024 * p + 1024 ≤ length S = omega (arith, h.whole, is.inside) in
    let more = filled_more S ws least p is.size room is.from (λ k l r. h.zero k l (omega (arith, r, is.inside))) is.some in
    record {
      whole = length-sets S (1024 * p) ws ∙ h.whole;
      below = omega (arith, is.inside);
      zero = λ k l r. ap are_zero (words_above S ws p k is.size room (omega (arith, l))) ∙ h.zero k (omega (arith, l, is.from)) r;
      next =
          subst (AreNext pages 0) (sym more)
          (next_more pages 0 (filled_of S least) (p, ws) h.next (subst (λ (n : ℕ). IsNext pages n p ws) (sym h.last) is));
      last = ap (least_behind 0) more ∙ least_more 0 (filled_of S least) (p, ws);
      parts =
          h.parts ∙ ap (λ (z : List ℕ). filled_lines (filled_of S least) ++ z) cut ∙ lines_more (filled_of S least) (p, ws) behind
          ∙ ap (λ (xs : List (ℕ × List ℕ)). filled_lines xs ++ behind) (sym more);
      line = omega (arith, h.line, ap length more, length-append (filled_of S least) ((p, ws) ∷ []));
      room = omega (arith, h.room, is.from);
    }

-- the text of the pages is that of those that aren't all zero
line_at : (S : List ℕ) (k : ℕ) (b : Bool) → are_zero (page_words S k) ≡ b → page_line S k ≡ filled_lines (filled_at S k)
unfolding page_line
line_at S k true e =
    ap (λ (c : Bool). if c then [] else filled_line k (page_words S k)) e ∙ sym (ap filled_lines (at_zero S k e))
line_at S k false e =
    ap (λ (c : Bool). if c then [] else filled_line k (page_words S k)) e ∙ sym (append-nil (filled_line k (page_words S k)))
    ∙ sym (ap filled_lines (at_some S k e))

lines_append : (xs ys : List (ℕ × List ℕ)) → filled_lines (xs ++ ys) ≡ filled_lines xs ++ filled_lines ys
lines_append [] ys = refl
lines_append (x ∷ xs) ys =
    ap (λ (text : List ℕ). filled_line x.0 x.1 ++ text) (lines_append xs ys)
    ∙ sym (append_assoc (filled_line x.0 x.1) (filled_lines xs) (filled_lines ys))

pub text_of_pages : (S : List ℕ) (n : ℕ) → pages_text S n ≡ filled_lines (filled_of S n)
text_of_pages S zero = refl
text_of_pages S (suc n) =
    ap (λ (text : List ℕ). text ++ page_line S n) (text_of_pages S n)
    ∙ ap (λ (text : List ℕ). filled_lines (filled_of S n) ++ text) (line_at S n (are_zero (page_words S n)) refl)
    ∙ sym (lines_append (filled_of S n) (filled_at S n))

-- ---- a storage of zeros

zeros_are_zero : (n : ℕ) → are_zero (replicate n 0) ≡ true
zeros_are_zero zero = refl
zeros_are_zero (suc n) = zeros_are_zero n

zeros_is : (n : ℕ) → zeros n ≡ replicate n 0
unfolding zeros
zeros_is n = refl

pub zeros_count : (S : List ℕ) (n : ℕ) → S ≡ zeros (1024 * n) → n ≡ page_count S
zeros_count S n e =
    let size : length S ≡ 1024 * n = ap length (e ∙ zeros_is (1024 * n)) ∙ length-replicate (1024 * n) 0 in omega (arith, size)

zero_page : (n k : ℕ) → k < n → are_zero (page_words (zeros (1024 * n)) k) ≡ true
zero_page n k lt =
    ap (λ (S : List ℕ). are_zero (page_words S k)) (zeros_is (1024 * n))
    ∙ ap are_zero (ap (take 1024) (drop-replicate (1024 * k) (1024 * n) 0)
    ∙ take-replicate 1024 (1024 * n - 1024 * k) 0 (omega (arith, lt))) ∙ zeros_are_zero 1024

pub read_none : (S text : List ℕ) (pages : ℕ) → length S ≡ 1024 * pages → S ≡ zeros (1024 * pages)
    → IsReadTo S pages 0 text 4 text
read_none S text pages whole e = record {
  whole = whole;
  below = omega arith;
  zero = λ k l r. ap (λ (T : List ℕ). are_zero (page_words T k)) e ∙ zero_page pages k r;
  next = tt;
  last = refl;
  parts = refl;
  line = refl;
  room = omega arith;
}

-- all pages are read where the last line follows
pub all_read : (S text rest behind : List ℕ) (pages least line : ℕ) → IsReadTo S pages least text line rest
    → rest ≡ end_line ++ behind → Holds S text line behind
all_read S text rest behind pages least line h cut =
    let count : page_count S ≡ pages = omega (arith, h.whole) in
    let same : filled_of S (page_count S) ≡ filled_of S least =
    ap (filled_of S) (let e : page_count S ≡ least + (pages - least) = omega (arith, count, h.below) in e)
    ∙ filled_zeros S least (pages - least) (λ k l r. h.zero k l (omega (arith, l, r, h.below))) in
    record {
      whole = omega (arith, h.whole, count);
      next =
          subst (λ (n : ℕ). AreNext n 0 (filled_of S (page_count S))) (sym count)
          (subst (AreNext pages 0) (sym same) h.next);
      parts =
          h.parts ∙ ap (λ (z : List ℕ). filled_lines (filled_of S least) ++ z) cut
          ∙ ap (λ (xs : List (ℕ × List ℕ)). filled_lines xs ++ (end_line ++ behind)) (sym same);
      lines = h.line ∙ ap (λ (xs : List (ℕ × List ℕ)). 4 + length xs) (sym same);
      few = omega (arith, h.room, h.below, count);
    }
