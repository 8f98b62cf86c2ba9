-- A name's letters, one after another, and the names of a tower's levels.
use Rattle.std.proofs.Common.{◌≡◌, ℕ, zero, suc, ◌+◌, ◌-◌, ◌*◌, ◌/◌, ◌%◌, ◌^◌, ◌<◌, ◌≤◌, false, Bool, ◌&&◌, eqb, List, [], ◌∷◌, ◌++◌, length, take, drop, set, get_or, replicate, codes, refl, sym, ap, subst, ◌∙◌, arith, lit<}
use Rattle.std.specs.Int.{from_le_bytes, w128}
use Rattle.std.specs.Str.{bytes_eq}
use Rattle.std.specs.Str.Parse.{AllDigits}
use Rattle.std.proofs.lemmas.Bool.{false_from_ne_true}
use Rattle.std.proofs.lemmas.Bool.Decides.{Decides-and, Decides-at, Decides-eqb, Decides-like, same_from_decides}
use Rattle.std.proofs.lemmas.Fmt.{decimal_digit, decimal_injective, decimal_is_IsNumeral, decimal_step}
use Rattle.std.proofs.lemmas.Slice.Eq.{bytes_eq-Decides}
use Rattle.std.proofs.lemmas.Str.Parse.{digit_at}
use Rattle.hv_load.specs.Tower.{level_name}
use Rattle.std.proofs.lemmas.List.{drop-drop, drop-set-lt, drop-replicate, length-take-le, take-append-drop, take_more, take_more_set}

-- one letter more
pub front_more : (letters text : List ℕ) (i : ℕ) → i < length letters → i < length text → take i letters ≡ take i text → take (i + 1) (set letters i (get_or text i 0)) ≡ take (i + 1) text
front_more letters text i h k is =
    take_more_set letters i (get_or text i 0) h
    ∙ ap (λ (l : List ℕ). l ++ get_or text i 0 ∷ []) is
    ∙ sym (take_more text i 0 k)

below : (i : ℕ) → i < i + 1
below i = omega arith

pub rest_more : (letters : List ℕ) (i n x : ℕ) → drop i letters ≡ replicate (n - i) 0 → drop (i + 1) (set letters i x) ≡ replicate (n - (i + 1)) 0
rest_more letters i n x is = more (i + 1) (n - (i + 1)) (omega arith) (omega arith)
  where
    more : (j m : ℕ) → j ≡ i + 1 → n - i - 1 ≡ m → drop j (set letters i x) ≡ replicate m 0
    more j m next left =
        ap (λ (j : ℕ). drop j (set letters i x)) next
        ∙ drop-set-lt (i + 1) letters i x (below i)
        ∙ sym (drop-drop 1 i letters)
        ∙ ap (drop 1) is
        ∙ drop-replicate 1 (n - i) 0
        ∙ ap (λ (k : ℕ). replicate k 0) left

-- the name of a level of one digit, and of two
pub level_one : (n : ℕ) → 0 < n → n < 10 → level_name n ≡ 116 ∷ (48 + n) ∷ []
level_one zero some few = absurd (omega (arith, some))
level_one (suc k) some few = ap (λ (ds : List ℕ). 116 ∷ ds) (decimal_digit (suc k) few)

pub level_two : (n : ℕ) → 10 ≤ n → n < 100 → level_name n ≡ 116 ∷ (48 + n / 10) ∷ (48 + n % 10) ∷ []
level_two zero some few = absurd (omega (arith, some))
level_two (suc k) some few =
    ap (λ (ds : List ℕ). 116 ∷ ds) (decimal_step (suc k) some (omega (arith, few)))
    ∙ ap (λ (ds : List ℕ). 116 ∷ ds ++ (48 + suc k % 10) ∷ []) (decimal_digit (suc k / 10) (omega (arith, few)))

pub ruleset level_names = (level_one, level_two)

names_apart : (xs ys : List ℕ) → (xs ≡ ys → ⊥) → bytes_eq xs ys ≡ false
names_apart xs ys ne = false_from_ne_true _ (λ e. ne ((bytes_eq-Decides xs ys).0 e))

-- two levels have different names, and none has the name of the top
pub levels_differ : (n k : ℕ) → n < k → suc k < 2 ^ 64 → bytes_eq (level_name (suc n)) (level_name (suc k)) ≡ false
levels_differ n k lt small =
    names_apart (level_name (suc n)) (level_name (suc k))
    (λ e.
    let same : suc n ≡ suc k = decimal_injective (suc n) (suc k) (omega (arith, lt, small)) small (ap (drop 1) e) in
    omega (arith, lt, same))

pub never_top : (n : ℕ) → suc n < 2 ^ 64 → bytes_eq (level_name (suc n)) (codes "top") ≡ false
never_top n small =
    names_apart (level_name (suc n)) (codes "top")
    (λ e.
    let digits : AllDigits 10 (111 ∷ 112 ∷ []) = subst (AllDigits 10) (ap (drop 1) e) (decimal_is_IsNumeral (suc n) small).0.1 in
    let first = digit_at (111 ∷ 112 ∷ []) 0 digits (lit< tt) in
    omega (arith, first.1))

-- the number of some bytes, the first of them lowest
abbrev number_of : List ℕ → ℕ
number_of [] = 0
number_of (b ∷ bs) = b + 256 * number_of bs

number_16 : (bs : List ℕ) → length bs ≡ 16 → from_le_bytes w128 bs ≡ number_of bs
number_16 (a ∷ b ∷ c ∷ d ∷ e ∷ f ∷ g ∷ h ∷ i ∷ j ∷ k ∷ l ∷ m ∷ n ∷ o ∷ p ∷ []) is = omega arith
number_16 bs is = absurd (omega arith)

number_tells : (xs ys : List ℕ) → length xs ≡ length ys → ((i : ℕ) → get_or xs i 0 < 256) → ((i : ℕ) → get_or ys i 0 < 256) → number_of xs ≡ number_of ys → xs ≡ ys
number_tells [] [] len small tiny is = refl
number_tells [] (y ∷ ys) len small tiny is = absurd (omega arith)
number_tells (x ∷ xs) [] len small tiny is = absurd (omega arith)
number_tells (x ∷ xs) (y ∷ ys) len small tiny is =
    let x_fits : x < 256 = small 0 in
    let y_fits : y < 256 = tiny 0 in
    let first : x ≡ y = omega arith in
    let rest : number_of xs ≡ number_of ys = omega arith in
    let behind : xs ≡ ys = number_tells xs ys (omega arith) (λ i. small (suc i)) (λ i. tiny (suc i)) rest in
    cc

-- 16 bytes are told from others by their number
pub same_number : (xs ys : List ℕ) → length xs ≡ 16 → length ys ≡ 16 → ((i : ℕ) → get_or xs i 0 < 256) → ((i : ℕ) → get_or ys i 0 < 256) → eqb (from_le_bytes w128 xs) (from_le_bytes w128 ys) ≡ bytes_eq xs ys
same_number xs ys xs_len ys_len xs_fit ys_fit =
    same_from_decides {P = xs ≡ ys} (eqb (from_le_bytes w128 xs) (from_le_bytes w128 ys)) (bytes_eq xs ys)
    (Decides-like {P = from_le_bytes w128 xs ≡ from_le_bytes w128 ys} {Q = xs ≡ ys} (eqb (from_le_bytes w128 xs) (from_le_bytes w128 ys)) forth (ap (from_le_bytes w128)) (Decides-eqb (from_le_bytes w128 xs) (from_le_bytes w128 ys)))
    (bytes_eq-Decides xs ys)
  where
    forth : from_le_bytes w128 xs ≡ from_le_bytes w128 ys → xs ≡ ys
    forth same = number_tells xs ys (omega arith) xs_fit ys_fit (sym (number_16 xs xs_len) ∙ same ∙ number_16 ys ys_len)

-- names, each with zeros behind its letters, are the same where all of their bytes are, and they are as long
pub same_names : (n m : ℕ) (xs ys : List ℕ) (b : Bool) → b ≡ bytes_eq xs ys → n ≤ 16 → m ≤ 16 → length xs ≡ 16 → length ys ≡ 16 → drop n xs ≡ replicate (16 - n) 0 → drop m ys ≡ replicate (16 - m) 0 → (b && eqb n m) ≡ bytes_eq (take n xs) (take m ys)
same_names n m xs ys b is few less xs_len ys_len xs_rest ys_rest =
    same_from_decides {P = take n xs ≡ take m ys} (b && eqb n m) (bytes_eq (take n xs) (take m ys))
    (Decides-like {P = (xs ≡ ys) × (n ≡ m)} {Q = take n xs ≡ take m ys} (b && eqb n m) forth back
    (Decides-and {P = xs ≡ ys} {Q = n ≡ m} b (eqb n m) (Decides-at {P = xs ≡ ys} b (bytes_eq xs ys) is (bytes_eq-Decides xs ys)) (Decides-eqb n m)))
    (bytes_eq-Decides (take n xs) (take m ys))
  where
    forth : (xs ≡ ys) × (n ≡ m) → take n xs ≡ take m ys
    forth both =
        let bytes : xs ≡ ys = both.0 in
        let count : n ≡ m = both.1 in
        cc

    back : take n xs ≡ take m ys → (xs ≡ ys) × (n ≡ m)
    back same =
        let count : n ≡ m = sym (length-take-le n xs (omega arith)) ∙ ap length same ∙ length-take-le m ys (omega arith) in
        let bytes : xs ≡ ys = cc (take-append-drop n xs, take-append-drop m ys) in
        (bytes, count)
