-- The text of a parked machine as it is written, piece by piece.
use Rattle.std.proofs.Common.{◌≡◌, ℕ, zero, suc, ◌+◌, ◌<◌, List, [], ◌∷◌, ◌++◌, length, get_or, slice_index, take, drop, Bool, true, false, ◌==◌, ◌&&◌, refl, sym, ap, ◌∙◌, append_assoc}
use Rattle.std.specs.List.{list_all}
use Rattle.std.proofs.lemmas.Bool.{eqb-true}
use Rattle.std.proofs.lemmas.List.{append-nil, drop_more, take_more}
use Rattle.hv_cpu.specs.Regs.{spelled}
use Rattle.hv_capsule.specs.Parked.{regs_of_words}
use Rattle.hv_capsule.specs.Text.{word_digits, words_digits}

words_push : (ws : List ℕ) (w : ℕ) → words_digits (ws ++ w ∷ []) ≡ words_digits ws ++ word_digits w
words_push [] w = append-nil (word_digits w)
words_push (v ∷ vs) w =
    ap (λ (text : List ℕ). word_digits v ++ text) (words_push vs w)
    ∙ sym (append_assoc (word_digits v) (words_digits vs) (word_digits w))

pub words_at : (ws : List ℕ) (i d : ℕ) → i < length ws
    → words_digits (take (i + 1) ws) ≡ words_digits (take i ws) ++ word_digits (get_or ws i d)
words_at ws i d lt = ap words_digits (take_more ws i d lt) ∙ words_push (take i ws) (get_or ws i d)

-- the words from a place on, one by one
listing : List ℕ → ℕ → ℕ → List ℕ
listing ws k zero = []
listing ws k (suc n) = slice_index ws k ∷ listing ws (suc k) n

shifted : (x : ℕ) (xs : List ℕ) (k n : ℕ) → listing (x ∷ xs) (suc k) n ≡ listing xs k n
unfolding listing
shifted x xs k zero = refl
shifted x xs k (suc n) = ap (λ (ys : List ℕ). slice_index xs k ∷ ys) (shifted x xs (suc k) n)

listed : (ws : List ℕ) → listing ws 0 (length ws) ≡ ws
unfolding listing
listed [] = refl
listed (x ∷ xs) = ap (λ (ys : List ℕ). x ∷ ys) (shifted x xs 0 (length xs) ∙ listed xs)

-- 50 words are those of the registers that they spell
pub spelled_words : (ws : List ℕ) → length ws ≡ 50 → spelled (regs_of_words ws) ≡ ws
unfolding listing
spelled_words ws size = ap (λ (n : ℕ). listing ws 0 n) (sym size) ∙ listed ws

-- whether all words from a place on are zero, at a word that is zero and at one that isn't
abbrev pub are_zero : List ℕ → Bool
are_zero ws = list_all (λ word. word == 0) ws

pub zero_next : (ws : List ℕ) (i : ℕ) → i < length ws → get_or ws i 0 ≡ 0 → are_zero (drop i ws) ≡ are_zero (drop (i + 1) ws)
zero_next ws i lt e =
    ap are_zero (drop_more ws i 0 lt) ∙ ap (λ (w : ℕ). are_zero (w ∷ drop (i + 1) ws)) e

fails : (b rest : Bool) → (b ≡ true → ⊥) → (b && rest) ≡ false
fails true rest h = absurd (h refl)
fails false rest h = refl

no_zero : (w : ℕ) (ws : List ℕ) → (w ≡ 0 → ⊥) → are_zero (w ∷ ws) ≡ false
no_zero w ws h = fails (w == 0) (are_zero ws) (λ e. h (eqb-true w 0 e))

pub other_here : (ws : List ℕ) (i : ℕ) → i < length ws → (get_or ws i 0 ≡ 0 → ⊥) → are_zero (drop i ws) ≡ false
other_here ws i lt h = ap are_zero (drop_more ws i 0 lt) ∙ no_zero (get_or ws i 0) (drop (i + 1) ws) h

-- one more piece behind what was written
pub and_then : (old text now more piece : List ℕ) → now ≡ old ++ text → more ≡ now ++ piece → more ≡ old ++ (text ++ piece)
and_then old text now more piece p q = q ∙ ap (λ (z : List ℕ). z ++ piece) p ∙ append_assoc old text piece
