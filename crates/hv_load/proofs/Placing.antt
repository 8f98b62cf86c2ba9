-- Finding one word or page after another.
use Rattle.std.proofs.Common.{◌≡◌, ℕ, suc, ◌+◌, ◌-◌, ◌*◌, ◌/◌, ◌%◌, ◌<◌, ◌≤◌, List, [], ◌∷◌, ◌++◌, length, Result, Ok, Err, refl, sym, ap, subst, ◌∙◌, arith, append_assoc, append-nil, length-append}
use Rattle.std.specs.List.{All}
use Rattle.std.proofs.lemmas.List.Elements.{All-push}
use Rattle.hv_load.specs.declared.ends.BuildKind.{BuildKind}
use Rattle.hv_load.specs.Finding.{in_front}
use Rattle.hv_load.specs.Pages.{each_from, place_by}
use Rattle.hv_lex.specs.Refusing.{◌>>=◌}

fronted : (front : List ℕ) (r : Result (List ℕ) BuildKind) (g : ℕ) → in_front front (r >>= λ gs. Ok (g ∷ gs)) ≡ in_front (front ++ g ∷ []) r
fronted front (Ok gs) g = ap (λ (l : List ℕ). let r : Result (List ℕ) BuildKind = Ok l in r) (sym (append_assoc front (g ∷ []) gs))
fronted front (Err why) g = refl

-- one more
step : (f : ℕ → Result ℕ BuildKind) (front : List ℕ) (at m g : ℕ) → f at ≡ Ok g → in_front front (each_from f at (suc m)) ≡ in_front (front ++ g ∷ []) (each_from f (at + 1) m)
step f front at m g is =
    ap (λ (r : Result ℕ BuildKind). in_front front (r >>= λ g. each_from f (at + 1) m >>= λ gs. Ok (g ∷ gs))) is
    ∙ fronted front (each_from f (at + 1) m) g

halt : (f : ℕ → Result ℕ BuildKind) (front : List ℕ) (at m : ℕ) (why : BuildKind) → f at ≡ Err why → in_front front (each_from f at (suc m)) ≡ Err why
halt f front at m why is =
    ap (λ (r : Result ℕ BuildKind). in_front front (r >>= λ g. each_from f (at + 1) m >>= λ gs. Ok (g ∷ gs))) is

pub each_more : (f : ℕ → Result ℕ BuildKind) (front : List ℕ) (first i n g : ℕ) (all : Result (List ℕ) BuildKind) → i < n → f (first + i) ≡ Ok g → in_front front (each_from f (first + i) (n - i)) ≡ all → in_front (front ++ g ∷ []) (each_from f (first + (i + 1)) (n - (i + 1))) ≡ all
each_more f front first i n g all lt is told =
    let next : first + (i + 1) ≡ first + i + 1 = omega arith in
    let left : suc (n - (i + 1)) ≡ n - i = omega arith in
    ap (λ (k : ℕ). in_front (front ++ g ∷ []) (each_from f k (n - (i + 1)))) next
    ∙ sym (step f front (first + i) (n - (i + 1)) g is)
    ∙ ap (λ (m : ℕ). in_front front (each_from f (first + i) m)) left
    ∙ told

pub each_stop : (f : ℕ → Result ℕ BuildKind) (front : List ℕ) (first i n : ℕ) (why : BuildKind) (all : Result (List ℕ) BuildKind) → i < n → f (first + i) ≡ Err why → in_front front (each_from f (first + i) (n - i)) ≡ all → all ≡ Err why
each_stop f front first i n why all lt is told =
    let left : n - i ≡ suc (n - (i + 1)) = omega arith in
    sym told ∙ ap (λ (m : ℕ). in_front front (each_from f (first + i) m)) left ∙ halt f front (first + i) (n - (i + 1)) why is

pub each_end : (f : ℕ → Result ℕ BuildKind) (front : List ℕ) (first i n : ℕ) (all : Result (List ℕ) BuildKind) → n ≤ i → in_front front (each_from f (first + i) (n - i)) ≡ all → all ≡ Ok front
each_end f front first i n all le told =
    let left : n - i ≡ 0 = omega arith in
    sym told
    ∙ ap (λ (m : ℕ). in_front front (each_from f (first + i) m)) left
    ∙ ap (λ (l : List ℕ). let r : Result (List ℕ) BuildKind = Ok l in r) (append-nil front)

-- the page of a word is found: with it the word is, and without it the word isn't
pub placed : (find : ℕ → Result ℕ BuildKind) (q host : ℕ) → find (q / 1024) ≡ Ok host → place_by find q ≡ Ok (1024 * host + q % 1024)
placed find q host is = ap (λ (r : Result ℕ BuildKind). r >>= λ g. let p : Result ℕ BuildKind = Ok (1024 * g + q % 1024) in p) is

pub unplaced : (find : ℕ → Result ℕ BuildKind) (q : ℕ) (why : BuildKind) → find (q / 1024) ≡ Err why → place_by find q ≡ Err why
unplaced find q why is = ap (λ (r : Result ℕ BuildKind). r >>= λ g. let p : Result ℕ BuildKind = Ok (1024 * g + q % 1024) in p) is

-- one more, as a call gives it and a list takes it
pub next_found : (f : ℕ → Result ℕ BuildKind) (front new : List ℕ) (first i n g q : ℕ) (all : Result (List ℕ) BuildKind) → i < n → q ≡ first + i → Ok g ≡ f q → new ≡ front ++ g ∷ [] → in_front front (each_from f (first + i) (n - i)) ≡ all → in_front new (each_from f (first + (i + 1)) (n - (i + 1))) ≡ all
next_found f front new first i n g q all lt at found grew told =
    ap (λ (l : List ℕ). in_front l (each_from f (first + (i + 1)) (n - (i + 1)))) grew
    ∙ each_more f front first i n g all lt (ap f (sym at) ∙ sym found) told

pub next_placed : (find : ℕ → Result ℕ BuildKind) (front new : List ℕ) (first i n host place q : ℕ) (all : Result (List ℕ) BuildKind) → i < n → q ≡ first + i → Ok host ≡ find (q / 1024) → place ≡ 1024 * host + q % 1024 → new ≡ front ++ place ∷ [] → in_front front (each_from (place_by find) (first + i) (n - i)) ≡ all → in_front new (each_from (place_by find) (first + (i + 1)) (n - (i + 1))) ≡ all
next_placed find front new first i n host place q all lt at found is grew told =
    next_found (place_by find) front new first i n place q all lt at (ap (λ (p : ℕ). let r : Result ℕ BuildKind = Ok p in r) is ∙ sym (placed find q host (sym found))) grew told

pub stop_placed : (find : ℕ → Result ℕ BuildKind) (front : List ℕ) (first i n q : ℕ) (why : BuildKind) (all : Result (List ℕ) BuildKind) → i < n → q ≡ first + i → Err why ≡ find (q / 1024) → in_front front (each_from (place_by find) (first + i) (n - i)) ≡ all → all ≡ Err why
stop_placed find front first i n q why all lt at found told =
    each_stop (place_by find) front first i n why all lt (ap (place_by find) (sym at) ∙ unplaced find q why (sym found)) told

pub length_more : (front new : List ℕ) (x n : ℕ) → new ≡ front ++ x ∷ [] → length front ≡ n → length new ≡ n + 1
length_more front new x n grew is = omega (arith, ap length grew ∙ length-append front (x ∷ []), is)

pub all_more : (m : ℕ) (front new : List ℕ) (x : ℕ) → new ≡ front ++ x ∷ [] → All (λ k. k < m) front → x < m → All (λ k. k < m) new
all_more m front new x grew all lt = subst (λ (l : List ℕ). All (λ k. k < m) l) (sym grew) (All-push (λ k. k < m) front x all lt)
