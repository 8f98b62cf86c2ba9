-- A row put among others.
use Rattle.std.proofs.Common.{◌≡◌, ℕ, suc, ◌+◌, ◌-◌, ◌<◌, ◌≤◌, Bool, true, false, cond, List, [], ◌∷◌, ◌++◌, length, take, drop, set, get_or, replicate, refl, ap, ◌∙◌, sym, arith, length-set}
use Rattle.std.specs.Prelude.{nat_lt}
use Rattle.std.proofs.Math.Seq.{drop-cons}
use Rattle.std.proofs.Math.Numerals.{add-one}
use Rattle.std.proofs.lemmas.List.{append_assoc, length-append, length-drop, length-take-le, take_at, drop_at, take_more, take_more_set, take_all, drop_all, drop-set-lt}
use Rattle.std.proofs.lemmas.Bool.{lt-ltb, ltb-true}
use Rattle.hv_nest.specs.declared.changed.ChangedRow.{ChangedRow}
use Rattle.hv_nest.specs.Rows.{no_row, rows_limit, with_row}

-- a row stands before those of greater places
pub with_lesser : (row r : ChangedRow) (rows : List ChangedRow) → row.at < r.at → with_row row (r ∷ rows) ≡ row ∷ with_row r rows
unfolding with_row
with_lesser row r rows lt = ap (λ (t : Bool). cond t (row ∷ with_row r rows) (r ∷ with_row row rows)) (lt-ltb row.at r.at lt)

-- and behind those of the same or lower places
pub with_greater : (row r : ChangedRow) (rows : List ChangedRow) → r.at ≤ row.at → with_row row (r ∷ rows) ≡ r ∷ with_row row rows
unfolding with_row
with_greater row r rows le = by (nat_lt row.at r.at) refl
  where
    by : (t : Bool) → nat_lt row.at r.at ≡ t → cond t (row ∷ with_row r rows) (r ∷ with_row row rows) ≡ r ∷ with_row row rows
    by true e = absurd (omega (arith, ltb-true row.at r.at e, le))
    by false e = refl

-- there is one row more
pub length-with_row : (row : ChangedRow) (rows : List ChangedRow) → length (with_row row rows) ≡ suc (length rows)
unfolding with_row
length-with_row row [] = refl
length-with_row row (r ∷ rows) = by (nat_lt row.at r.at) (ap suc (length-with_row r rows)) (ap suc (length-with_row row rows))
  where
    by : (t : Bool) → length (row ∷ with_row r rows) ≡ suc (suc (length rows)) → length (r ∷ with_row row rows) ≡ suc (suc (length rows)) → length (cond t (row ∷ with_row r rows) (r ∷ with_row row rows)) ≡ suc (suc (length rows))
    by true lesser greater = lesser
    by false lesser greater = greater

-- the rows behind those that are told, when one more is put behind them
drop_row : (z : ChangedRow) (rows : List ChangedRow) (n k : ℕ) (row : ChangedRow) → n < length rows → drop n rows ≡ replicate (suc k) z → drop (n + 1) (set rows n row) ≡ replicate k z
drop_row z rows n k row lt e =
    let h : n < n + 1 = omega arith in
    drop-set-lt (n + 1) rows n row h
    ∙ ap (λ (m : ℕ). drop m rows) (add-one n)
    ∙ ap (drop 1) (sym (drop-cons rows n z lt) ∙ e)

-- a row is put among the first n of the rows, and the last of them behind these
module _ (rows front old : List ChangedRow) (n : ℕ) (row last : ChangedRow) (room : n < rows_limit) (long : length rows ≡ rows_limit) (rest : drop n rows ≡ replicate (rows_limit - n) no_row) (is : old ≡ take n rows) (put : front ++ last ∷ [] ≡ with_row row old) where
  length-front : length front ≡ n
  length-front = omega (arith, length-append front (last ∷ []), ap length put, length-with_row row old, ap length is, length-take-le n rows (omega arith))

  length-behind : length (front ++ drop n rows) ≡ rows_limit
  length-behind = omega (arith, length-append front (drop n rows), length-front, length-drop n rows)

  pub length_inserted : length (set (front ++ drop n rows) n last) ≡ rows_limit
  length_inserted = length-set (front ++ drop n rows) n last ∙ length-behind

  pub rest_inserted : drop (n + 1) (set (front ++ drop n rows) n last) ≡ replicate (rows_limit - (n + 1)) no_row
  rest_inserted =
      let lt : n < length (front ++ drop n rows) = omega (arith, length-behind) in
      let s : rows_limit - n ≡ suc (rows_limit - (n + 1)) = omega arith in
      drop_row no_row (front ++ drop n rows) n (rows_limit - (n + 1)) last lt (drop_at front (drop n rows) n length-front ∙ rest ∙ ap (λ (k : ℕ). replicate k no_row) s)

  pub told_inserted : take (n + 1) (set (front ++ drop n rows) n last) ≡ with_row row (take n rows)
  told_inserted =
      let lt : n < length (front ++ drop n rows) = omega (arith, length-behind) in
      take_more_set (front ++ drop n rows) n last lt
      ∙ ap (λ (xs : List ChangedRow). xs ++ last ∷ []) (take_at front (drop n rows) n length-front)
      ∙ put
      ∙ ap (with_row row) is

-- the row at place i gives its place to the one that is put, and goes on in its stead
pub lesser_passed : (rows : List ChangedRow) (i : ℕ) (m d : ChangedRow) → i < length rows → m.at < (get_or rows i d).at → take i rows ++ with_row m (drop i rows) ≡ take (i + 1) (set rows i m) ++ with_row (get_or rows i d) (drop (i + 1) (set rows i m))
lesser_passed rows i m d lt below =
    let r : ChangedRow = get_or rows i d in
    let next : i < i + 1 = omega arith in
    ap (λ (xs : List ChangedRow). take i rows ++ with_row m xs) (drop-cons rows i d lt)
    ∙ ap (λ (xs : List ChangedRow). take i rows ++ xs) (with_lesser m r (drop (suc i) rows) below)
    ∙ sym (append_assoc (take i rows) (m ∷ []) (with_row r (drop (suc i) rows)))
    ∙ ap (λ (xs : List ChangedRow). xs ++ with_row r (drop (suc i) rows)) (sym (take_more_set rows i m lt))
    ∙ ap (λ (xs : List ChangedRow). take (i + 1) (set rows i m) ++ with_row r xs) (ap (λ (k : ℕ). drop k rows) (sym (add-one i)) ∙ sym (drop-set-lt (i + 1) rows i m next))

-- or it stays where it is
pub greater_passed : (rows : List ChangedRow) (i : ℕ) (m d : ChangedRow) → i < length rows → (get_or rows i d).at ≤ m.at → take i rows ++ with_row m (drop i rows) ≡ take (i + 1) rows ++ with_row m (drop (i + 1) rows)
greater_passed rows i m d lt above =
    let r : ChangedRow = get_or rows i d in
    ap (λ (xs : List ChangedRow). take i rows ++ with_row m xs) (drop-cons rows i d lt)
    ∙ ap (λ (xs : List ChangedRow). take i rows ++ xs) (with_greater m r (drop (suc i) rows) above)
    ∙ sym (append_assoc (take i rows) (r ∷ []) (with_row m (drop (suc i) rows)))
    ∙ ap (λ (xs : List ChangedRow). xs ++ with_row m (drop (suc i) rows)) (sym (take_more rows i d lt))
    ∙ ap (λ (k : ℕ). take (i + 1) rows ++ with_row m (drop k rows)) (sym (add-one i))

-- all are passed
pub all_passed : (rows : List ChangedRow) (i : ℕ) (m : ChangedRow) → length rows ≤ i → take i rows ++ with_row m (drop i rows) ≡ rows ++ m ∷ []
unfolding with_row
all_passed rows i m h =
    ap (λ (xs : List ChangedRow). xs ++ with_row m (drop i rows)) (take_all i rows h)
    ∙ ap (λ (xs : List ChangedRow). rows ++ with_row m xs) (drop_all i rows h)

pub ruleset inserting = (lesser_passed, greater_passed, all_passed)
