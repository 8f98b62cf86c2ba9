-- The numbers of a line, one more at a time.
use Rattle.std.proofs.Common.{◌≡◌, ℕ, suc, ◌+◌, ◌<◌, ◌≤◌, List, [], ◌∷◌, ◌++◌, length, drop, Bor, Result, Ok, Err, refl, sym, ap, ◌∙◌, arith, append_assoc, drop-cons}
use Rattle.std.proofs.lemmas.List.{append-nil, drop_all}
use Rattle.hv_line.specs.Statements.{number, numbers}
use Rattle.hv_line.specs.Texts.{texts}
use Rattle.hv_line.specs.declared.kinds.JobKind.{JobKind}
use Rattle.hv_line.proofs.Shapes.{text_at}
use Rattle.hv_lex.specs.Refusing.{◌>>=◌}

-- numbers in front of others, unless these are refused
abbrev pub in_front : List ℕ → Result (List ℕ) JobKind → Result (List ℕ) JobKind
in_front ns (Ok more) = Ok (ns ++ more)
in_front ns (Err kind) = Err kind

pub numbers_none : (ns : List ℕ) (r : Result (List ℕ) JobKind) → ns ≡ [] → in_front ns r ≡ r
numbers_none ns (Ok more) none = ap (λ x. Ok (x ++ more)) none
numbers_none ns (Err kind) none = refl

next : (ws : List (Bor (List ℕ))) (i : ℕ) → i < length ws → numbers (texts (drop i ws)) ≡ number (text_at ws i) >>= (λ n. numbers (texts (drop (suc i) ws)) >>= (λ ns. Ok (n ∷ ns)))
unfolding numbers
next ws i lt = ap (λ x. numbers (texts x)) (drop-cons ws i record { ref_ptr = (0, 0); now = [] } lt)

pub numbers_stop : (ws : List (Bor (List ℕ))) (ns : List ℕ) (i : ℕ) (kind : JobKind) (all : Result (List ℕ) JobKind) → i < length ws → Err kind ≡ number (text_at ws i) → in_front ns (numbers (texts (drop i ws))) ≡ all → all ≡ Err kind
numbers_stop ws ns i kind all lt refused told =
    sym told ∙ ap (in_front ns) (next ws i lt ∙ ap (λ r. r >>= (λ n. numbers (texts (drop (suc i) ws)) >>= (λ ns. Ok (n ∷ ns)))) (sym refused))

grown : (ns : List ℕ) (n : ℕ) (r : Result (List ℕ) JobKind) → in_front (ns ++ n ∷ []) r ≡ in_front ns (r >>= (λ more. Ok (n ∷ more)))
grown ns n (Ok more) = ap Ok (append_assoc ns (n ∷ []) more)
grown ns n (Err kind) = refl

pub numbers_more : (ws : List (Bor (List ℕ))) (ns : List ℕ) (i n : ℕ) (all : Result (List ℕ) JobKind) → i < length ws → Ok n ≡ number (text_at ws i) → in_front ns (numbers (texts (drop i ws))) ≡ all → in_front (ns ++ n ∷ []) (numbers (texts (drop (i + 1) ws))) ≡ all
numbers_more ws ns i n all lt read told =
    let same : i + 1 ≡ suc i = omega arith in
    ap (λ k. in_front (ns ++ n ∷ []) (numbers (texts (drop k ws)))) same
    ∙ grown ns n (numbers (texts (drop (suc i) ws)))
    ∙ sym (ap (in_front ns) (next ws i lt ∙ ap (λ r. r >>= (λ n. numbers (texts (drop (suc i) ws)) >>= (λ ns. Ok (n ∷ ns)))) (sym read)))
    ∙ told

pub numbers_end : (ws : List (Bor (List ℕ))) (ns : List ℕ) (i : ℕ) (all : Result (List ℕ) JobKind) → length ws ≤ i → in_front ns (numbers (texts (drop i ws))) ≡ all → all ≡ Ok ns
unfolding numbers
numbers_end ws ns i all end told =
    sym told ∙ ap (λ x. in_front ns (numbers (texts x))) (drop_all i ws end) ∙ ap Ok (append-nil ns)
