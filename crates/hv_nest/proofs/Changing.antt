-- Putting registers part by part, with notes: what doesn't change is left alone.
use Rattle.std.proofs.Common.{◌≡◌, ◌≢◌, ℕ, zero, suc, ◌+◌, ◌*◌, ◌<◌, ◌≤◌, Bool, true, false, cond, List, [], ◌∷◌, ◌++◌, length, take, drop, set, get_or, refl, ap, ◌∙◌, sym, arith}
use Rattle.std.specs.Prelude.{◌==◌}
use Rattle.std.proofs.Math.Seq.{sets, drop-cons}
use Rattle.std.proofs.lemmas.List.{set-get_or}
use Rattle.std.proofs.lemmas.Bool.{eq-eqb, eqb-true, ne_eqb}
use Rattle.hv_cpu.specs.Regs.{Regs, file_of}
use Rattle.hv_block.specs.Block.{put_regs, regs_at}
use Rattle.hv_exec.specs.Changes.{changed_regs, differing}
use Rattle.hv_nest.specs.Noted.{control_of}
use Rattle.hv_nest.specs.Rows.{rows_limit}
use Rattle.hv_nest.proofs.Puts.{block_changes, count_step, differing_more, differing_nil, differing_part, room_step}
use Rattle.hv_nest.proofs.Undone.{same_or_other}

-- so many words are compared as are put
pub differing_row : (xs ws : List ℕ) (n : ℕ) → n ≡ length ws → differing (take n xs) ws ≡ differing xs ws
unfolding differing
differing_row [] ws n e = ap (λ (ys : List ℕ). differing ys ws) (take_none n)
  where
    take_none : (n : ℕ) → take {A = ℕ} n [] ≡ []
    take_none zero = refl
    take_none (suc n) = refl
differing_row (x ∷ xs) [] n e = differing_nil (take n (x ∷ xs))
differing_row (x ∷ xs) (w ∷ ws) zero e = absurd (omega (arith, e))
differing_row (x ∷ xs) (w ∷ ws) (suc n) e =
    let rest : n ≡ length ws = omega (arith, e) in
    ap (λ (m : ℕ). cond (x == w) 0 1 + m) (differing_row xs ws n rest)

-- the first word and the others
differing_first : (S ws : List ℕ) (at w : ℕ) → at < length S → differing (drop at S) (w ∷ ws) ≡ cond (get_or S at 0 == w) 0 1 + differing (drop (suc at) S) ws
unfolding differing
differing_first S ws at w inside = ap (λ (xs : List ℕ). differing xs (w ∷ ws)) (drop-cons S at 0 inside)

-- the first word is there already
first_same : (S ws : List ℕ) (at w : ℕ) → get_or S at 0 ≡ w → sets S at (w ∷ ws) ≡ sets S (suc at) ws
first_same S ws at w e =
    ap (λ (v : ℕ). sets (set S at v) (suc at) ws) (sym e) ∙ ap (λ (T : List ℕ). sets T (suc at) ws) (set-get_or S at 0)

-- the first word of a row, and the others after it
module _ (S ws : List ℕ) (at w n : ℕ) (inside : at < length S) (count : differing (drop at S) (w ∷ ws) ≡ n) where
  pub behind_same : get_or S at 0 ≡ w → differing (drop (suc at) S) ws ≡ n
  behind_same e =
      let first : differing (drop at S) (w ∷ ws) ≡ 0 + differing (drop (suc at) S) ws = differing_first S ws at w inside ∙ ap (λ (t : Bool). cond t 0 1 + differing (drop (suc at) S) ws) (eq-eqb (get_or S at 0) w e) in
      omega (arith, first, count)

  pub behind_other : get_or S at 0 ≢ w → suc (differing (drop (suc at) S) ws) ≡ n
  behind_other ne =
      let first : differing (drop at S) (w ∷ ws) ≡ 1 + differing (drop (suc at) S) ws = differing_first S ws at w inside ∙ ap (λ (t : Bool). cond t 0 1 + differing (drop (suc at) S) ws) (ne_eqb (get_or S at 0) w ne) in
      omega (arith, first, count)

-- where no word is another nothing is put
pub sets_same : (S ws : List ℕ) (at : ℕ) → at + length ws ≤ length S → differing (drop at S) ws ≡ 0 → sets S at ws ≡ S
sets_same S [] at long none = refl
sets_same S (w ∷ ws) at long none =
    let inside : at < length S = omega (arith, long) in
    let rest : suc at + length ws ≤ length S = omega (arith, long) in
    same_or_other (get_or S at 0) w (sets S at (w ∷ ws) ≡ S)
    (λ e. first_same S ws at w e ∙ sets_same S ws (suc at) rest (behind_same S ws at w 0 inside none e))
    (λ ne. absurd (omega (arith, behind_other S ws at w 0 inside none ne)))

-- two rows, one behind the other
pub sets_append : (us vs S : List ℕ) (i : ℕ) → sets S i (us ++ vs) ≡ sets (sets S i us) (i + length us) vs
sets_append [] vs S i = let e : i ≡ i + 0 = omega arith in ap (λ (k : ℕ). sets S k vs) e
sets_append (u ∷ us) vs S i =
    let e : suc i + length us ≡ i + suc (length us) = omega arith in
    sets_append us vs (set S i u) (suc i) ∙ ap (λ (k : ℕ). sets (sets (set S i u) (suc i) us) k vs) e

-- the parts of a block, put one after another, are the registers
pub all_put : (S first second third last xs cs : List ℕ) (g v : ℕ) (q : Regs) → first ≡ set S (1024 * g) q.pc → second ≡ sets first (1024 * g + 1) xs → third ≡ sets second (1024 * g + 32) cs → last ≡ set third (1024 * g + 64) v → xs ≡ drop 1 (file_of q) → cs ≡ control_of q → v ≡ q.next → last ≡ put_regs S g q
all_put S first second third last xs cs g v q put1 put2 put3 put4 file control next =
    let a : ℕ = 1024 * g in
    let one : a + 1 ≡ suc a = omega arith in
    let far : a + 32 ≡ suc a + 31 = omega arith in
    put4
    ∙ ap (λ (w : ℕ). set third (a + 64) w) next
    ∙ ap (λ (T : List ℕ). set T (a + 64) q.next) (
    put3
    ∙ ap (λ (T : List ℕ). sets T (a + 32) cs) (
    put2
    ∙ ap (λ (T : List ℕ). sets T (a + 1) xs) put1
    ∙ ap (λ (k : ℕ). sets (set S a q.pc) k xs) one
    ∙ ap (λ (ys : List ℕ). sets (set S a q.pc) (suc a) ys) file
    )
    ∙ ap (λ (k : ℕ). sets (sets (set S a q.pc) (suc a) (drop 1 (file_of q))) k cs) far
    ∙ ap (λ (ys : List ℕ). sets (sets (set S a q.pc) (suc a) (drop 1 (file_of q))) (suc a + 31) ys) control
    ∙ sym (sets_append (drop 1 (file_of q)) (control_of q) (set S a q.pc) (suc a))
    )

-- how many words differ, in two parts
pub differing_append : (us vs S : List ℕ) (i : ℕ) → i + length us ≤ length S → differing (drop i S) (us ++ vs) ≡ differing (drop i S) us + differing (drop (i + length us) S) vs
unfolding differing
differing_append [] vs S i h =
    let here : i ≡ i + 0 = omega arith in
    let none : differing (drop i S) [] ≡ 0 = differing_nil (drop i S) in
    let whole : differing (drop i S) vs ≡ differing (drop (i + 0) S) vs = ap (λ (k : ℕ). differing (drop k S) vs) here in
    omega (arith, none, whole)
differing_append (u ∷ us) vs S i h =
    let inside : i < length S = omega (arith, h) in
    let rest : suc i + length us ≤ length S = omega (arith, h) in
    let next : suc i + length us ≡ i + suc (length us) = omega arith in
    let f : ℕ = cond (get_or S i 0 == u) 0 1 in
    let whole : differing (drop i S) (u ∷ (us ++ vs)) ≡ f + differing (drop (suc i) S) (us ++ vs) = ap (λ (xs : List ℕ). differing xs (u ∷ (us ++ vs))) (drop-cons S i 0 inside) in
    let first : differing (drop i S) (u ∷ us) ≡ f + differing (drop (suc i) S) us = ap (λ (xs : List ℕ). differing xs (u ∷ us)) (drop-cons S i 0 inside) in
    let last : differing (drop (suc i + length us) S) vs ≡ differing (drop (i + suc (length us)) S) vs = ap (λ (k : ℕ). differing (drop k S) vs) next in
    omega (arith, whole, first, last, differing_append us vs S (suc i) rest)

-- one word: there is room where it changes, and then one note more
other_one : (S : List ℕ) (i v : ℕ) → get_or S i 0 ≢ v → ◌≡◌ {A = ℕ} (cond (get_or S i 0 == v) 0 1) 1
other_one S i v ne = ap (λ (t : Bool). let n : ℕ = cond t 0 1 in n) (ne_eqb (get_or S i 0) v ne)

one_more : (S : List ℕ) (i v n m : ℕ) → m ≤ n + 1 → (get_or S i 0 ≡ v → m ≡ n) → m ≤ n + cond (get_or S i 0 == v) 0 1
one_more S i v n m few kept = by (get_or S i 0 == v) refl
  where
    by : (t : Bool) → (get_or S i 0 == v) ≡ t → m ≤ n + cond t 0 1
    by true e = let same : m ≡ n = kept (eqb-true (get_or S i 0) v e) in omega arith
    by false e = omega arith

-- how many registers change, part by part
parts : (O : List ℕ) (g : ℕ) (q : Regs) → 1024 * g + 65 ≤ length O
    → changed_regs (regs_at O g) q ≡ cond (get_or O (1024 * g) 0 == q.pc) 0 1 + differing (drop (1024 * g + 1) O) (drop 1 (file_of q)) + differing (drop (1024 * g + 32) O) (control_of q) + cond (get_or O (1024 * g + 64) 0 == q.next) 0 1
unfolding differing
parts O g q long =
    let a : ℕ = 1024 * g in
    let xs : List ℕ = drop 1 (file_of q) in
    let cs : List ℕ = control_of q in
    let inside : a < length O = omega (arith, long) in
    let short : suc a + 31 ≤ length O = omega (arith, long) in
    let one : suc a ≡ a + 1 = omega arith in
    let far : suc a + 31 ≡ a + 32 = omega arith in
    let d : ℕ = cond (get_or O a 0 == q.pc) 0 1 in
    let whole : differing (drop a O) (q.pc ∷ (xs ++ cs)) ≡ d + differing (drop (suc a) O) (xs ++ cs) = ap (λ (ys : List ℕ). differing ys (q.pc ∷ (xs ++ cs))) (drop-cons O a 0 inside) in
    let rest : differing (drop (suc a) O) (xs ++ cs) ≡ differing (drop (suc a) O) xs + differing (drop (suc a + 31) O) cs = differing_append xs cs O (suc a) short in
    let near : differing (drop (suc a) O) xs ≡ differing (drop (a + 1) O) xs = ap (λ (k : ℕ). differing (drop k O) xs) one in
    let last : differing (drop (suc a + 31) O) cs ≡ differing (drop (a + 32) O) cs = ap (λ (k : ℕ). differing (drop k O) cs) far in
    let all : changed_regs (regs_at O g) q ≡ differing (drop a O) (q.pc ∷ (xs ++ cs)) + cond (get_or O (a + 64) 0 == q.next) 0 1 = block_changes O g q (omega (arith, long)) in
    omega (arith, whole, rest, near, last, all)

-- there is room for each part, and few are noted in all
module _ (O : List ℕ) (g n pc : ℕ) (q : Regs) (long : 1024 * g + 65 ≤ length O) (first : pc ≡ q.pc) (room : n + changed_regs (regs_at O g) q ≤ rows_limit) where
  pub pc_room : get_or O (1024 * g) 0 ≢ pc → n < rows_limit
  pc_room ne =
      let one : ◌≡◌ {A = ℕ} (cond (get_or O (1024 * g) 0 == q.pc) 0 1) 1 = other_one O (1024 * g) q.pc (λ e. ne (e ∙ sym first)) in
      omega (arith, one, parts O g q long, room)

  module _ (O1 : List ℕ) (m1 : ℕ) (origin1 : O1 ≡ O) (few1 : m1 ≤ n + 1) (kept1 : get_or O (1024 * g) 0 ≡ pc → m1 ≡ n) (xs : List ℕ) (file : xs ≡ drop 1 (file_of q)) where
    pc_count : m1 ≤ n + cond (get_or O (1024 * g) 0 == q.pc) 0 1
    pc_count = one_more O (1024 * g) q.pc n m1 few1 (λ e. kept1 (e ∙ sym first))

    file_part : differing (drop (1024 * g + 1) O1) xs ≡ differing (drop (1024 * g + 1) O) (drop 1 (file_of q))
    file_part = (λ i. differing (drop (1024 * g + 1) (origin1 i)) (file i))

    pub file_room : m1 + differing (drop (1024 * g + 1) O1) xs ≤ rows_limit
    file_room = omega (arith, pc_count, file_part, parts O g q long, room)

    module _ (O2 : List ℕ) (m2 : ℕ) (origin2 : O2 ≡ O1) (few2 : m2 ≤ m1 + differing (drop (1024 * g + 1) O1) xs) (cs : List ℕ) (control : cs ≡ control_of q) where
      control_part : differing (drop (1024 * g + 32) O2) cs ≡ differing (drop (1024 * g + 32) O) (control_of q)
      control_part =
          ap (λ (X : List ℕ). differing (drop (1024 * g + 32) X) cs) (origin2 ∙ origin1)
          ∙ ap (λ (ys : List ℕ). differing (drop (1024 * g + 32) O) ys) control

      pub control_room : m2 + differing (drop (1024 * g + 32) O2) cs ≤ rows_limit
      control_room = omega (arith, pc_count, file_part, few2, control_part, parts O g q long, room)

      module _ (O3 : List ℕ) (m3 v : ℕ) (origin3 : O3 ≡ O2) (few3 : m3 ≤ m2 + differing (drop (1024 * g + 32) O2) cs) (next : v ≡ q.next) where
        here : get_or O3 (1024 * g + 64) 0 ≡ get_or O (1024 * g + 64) 0
        here = ap (λ (X : List ℕ). get_or X (1024 * g + 64) 0) (origin3 ∙ origin2 ∙ origin1)

        pub last_room : get_or O3 (1024 * g + 64) 0 ≢ v → m3 < rows_limit
        last_room ne =
            let one : ◌≡◌ {A = ℕ} (cond (get_or O (1024 * g + 64) 0 == q.next) 0 1) 1 = other_one O (1024 * g + 64) q.next (λ e. ne (here ∙ e ∙ sym next)) in
            omega (arith, one, pc_count, file_part, few2, control_part, few3, parts O g q long, room)

        pub last_count : (m4 : ℕ) → m4 ≤ m3 + 1 → (get_or O3 (1024 * g + 64) 0 ≡ v → m4 ≡ m3) → m4 ≤ n + changed_regs (regs_at O g) q
        last_count m4 few4 kept4 =
            let more : m4 ≤ m3 + cond (get_or O (1024 * g + 64) 0 == q.next) 0 1 = one_more O (1024 * g + 64) q.next m3 m4 few4 (λ e. kept4 (here ∙ e ∙ sym next)) in
            omega (arith, more, pc_count, file_part, few2, control_part, few3, parts O g q long)

-- one more place is compared
pub count_more : (xs ws : List ℕ) (i c : ℕ) → i < length xs → i < length ws → c ≡ differing xs (take i ws) → c + cond (get_or xs i 0 == get_or ws i 0) 0 1 ≡ differing xs (take (i + 1) ws)
count_more xs ws i c h k e = ap (λ (n : ℕ). n + cond (get_or xs i 0 == get_or ws i 0) 0 1) e ∙ sym (differing_more xs ws i h k)

pub ruleset counting = (differing_nil, count_more)

pub ruleset rows_put = (sets_same, differing_row)
