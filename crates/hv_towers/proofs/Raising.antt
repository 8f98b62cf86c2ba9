-- A tower is raised level by level.
use Rattle.std.proofs.Common.{◌≡◌, ℕ, suc, ◌+◌, ◌*◌, ◌<◌, ◌≤◌, inl, inr, List, [], ◌∷◌, ◌++◌, length, replicate, codes, Some, None, Ok, refl, ap, ◌∙◌, sym, subst, arith, lit<, get_or, length-append}
use Rattle.std.specs.List.{range_with_len}
use Rattle.std.proofs.Math.Seq.{sets, length-sets}
use Rattle.std.proofs.lemmas.List.{length-replicate, replicate_more}
use Rattle.std.proofs.lemmas.Slice.Eq.{bytes_eq-Decides}
use Rattle.hv_limits.specs.Limits.{pages_limit}
use Rattle.hv_word.specs.Storage.{page_count, word_at}
use Rattle.hv_cpu.specs.Regs.{reset_regs}
use Rattle.hv_block.proofs.Words.{sets_at, sets_outside}
use Rattle.hv_map.specs.Apart.{table_pages}
use Rattle.hv_map.specs.Chain.{map_of}
use Rattle.hv_job.specs.declared.job.Placed.{Placed}
use Rattle.hv_samples.specs.declared.choice.Sample.TheVariants.{Pass}
use Rattle.hv_load.specs.Building.{Building, Known, known, named}
use Rattle.hv_load.specs.Build.{part_of, parts_of}
use Rattle.hv_load.specs.Making.{with_machine}
use Rattle.hv_load.specs.Tower.{level_machine, level_name, level_sample, sample_words, words_if}
use Rattle.hv_load.proofs.Naming.{never_top}
use Rattle.hv_load.proofs.Samples.{pass_words}
use Rattle.hv_towers.specs.Laid.{child_base, from_base}
use Rattle.hv_towers.proofs.Lines.{Made, Wrote, image_is, machine_is}
use Rattle.hv_towers.proofs.Passing.{bound, named_kept, named_last, named_none}
use Rattle.hv_towers.proofs.Standing.{end_up}
use Rattle.hv_towers.proofs.Storeys.{Storey, Storeys, end_base, end_size, map_of_is}
use Rattle.hv_towers.proofs.Tables.{length-machine, machine_block, machine_other, machine_table}

-- the words of a storey lie below the pages of its child
pub storeys_same : (S U : List ℕ) (base n : ℕ) (ms : List ℕ) → ((q : ℕ) → q < 1024 * end_base base ms → get_or U q 0 ≡ get_or S q 0) → Storeys S base n ms → Storeys U base n ms
unfolding end_base
storeys_same S U base n [] same all = tt
storeys_same S U base n (m ∷ ms) same all =
    (one (λ q h. same q (let up : child_base base m ≤ end_base (child_base base m) ms = end_up (child_base base m) ms in omega (arith, h, up))), storeys_same S U (child_base base m) m ms same all.1)
  where
    one : ((q : ℕ) → q < 1024 * child_base base m → get_or U q 0 ≡ get_or S q 0) → Storey U base n m
    one keeps =
        let s : Storey S base n m = all.0 in
        record {
          some = s.some;
          size = s.size;
          program = record {
            lui = keeps (1024 * base + 0) (omega arith) ∙ s.program.lui;
            addi = keeps (1024 * base + 1) (omega arith) ∙ s.program.addi;
            vmenter = keeps (1024 * base + 2) (omega arith) ∙ s.program.vmenter;
            jal = keeps (1024 * base + 3) (omega arith) ∙ s.program.jal;
          };
          block = λ w h. keeps (1024 * (base + 1) + w) (omega (arith, h)) ∙ s.block w h;
          table = λ k w h i. keeps (1024 * (base + 2 + k) + w) (omega (arith, h, i)) ∙ s.table k w h i;
        }

-- one storey more
pub storeys_push : (S : List ℕ) (base n : ℕ) (ms : List ℕ) (m : ℕ) → Storeys S base n ms → Storey S (end_base base ms) (end_size n ms) m → Storeys S base n (ms ++ m ∷ [])
unfolding end_base end_size
storeys_push S base n [] m all last = (last, tt)
storeys_push S base n (k ∷ ms) m all last = (all.0, storeys_push S (child_base base k) k ms m all.1 last)

pub base_push : (base : ℕ) (ms : List ℕ) (m : ℕ) → end_base base (ms ++ m ∷ []) ≡ child_base (end_base base ms) m
unfolding end_base
base_push base [] m = refl
base_push base (k ∷ ms) m = base_push (child_base base k) ms m

pub size_push : (n : ℕ) (ms : List ℕ) (m : ℕ) → end_size n (ms ++ m ∷ []) ≡ m
unfolding end_size
size_push n [] m = refl
size_push n (k ∷ ms) m = size_push k ms m

pub length_push : (ms : List ℕ) (m : ℕ) → length (ms ++ m ∷ []) ≡ suc (length ms)
length_push ms m = omega (arith, length-append ms (m ∷ []))

-- the words of the program
pass_list : List ℕ
pass_list = 4791 ∷ 164499 ∷ 163851 ∷ 4292866159 ∷ []

pass_are : sample_words Pass ≡ pass_list
unfolding pass_list
pass_are = ap words_if pass_words

-- The words after a storey was added on the pages from base on.
module _ (S : List ℕ) (P base n m : ℕ) (size : length S ≡ 1024 * P) (room : base + n ≤ P) (fits : 2 + table_pages m + m ≤ n) (some : 1 ≤ m) where
  with_block : List ℕ
  with_block = with_machine S m 2 (2 + table_pages m) (range_with_len (base + 1) (suc (table_pages m)))

  pub with_storey : List ℕ
  unfolding with_block pass_list
  with_storey = sets with_block (1024 * base + 0) pass_list

  block_size : length with_block ≡ 1024 * P
  unfolding with_block
  block_size = length-machine S m 2 (2 + table_pages m) (base + 1) (table_pages m) ∙ size

  pub storey_size : length with_storey ≡ 1024 * P
  unfolding with_storey
  storey_size = length-sets with_block (1024 * base + 0) pass_list ∙ block_size

  block_below : (q : ℕ) → q < 1024 * (base + 1) → get_or with_block q 0 ≡ get_or S q 0
  unfolding with_block
  block_below q h = machine_other S m 2 (2 + table_pages m) (base + 1) (table_pages m) q (inl h)

  pub storey_below : (q : ℕ) → q < 1024 * base → get_or with_storey q 0 ≡ get_or S q 0
  unfolding with_storey
  storey_below q h = sets_outside pass_list with_block (1024 * base + 0) q (inl (omega (arith, h))) ∙ block_below q (omega (arith, h))

  storey_beside : (q : ℕ) → 1024 * base + 4 ≤ q → get_or with_storey q 0 ≡ get_or with_block q 0
  unfolding with_storey pass_list
  storey_beside q h = sets_outside pass_list with_block (1024 * base + 0) q (inr (omega (arith, h)))

  pub storey_past : (q : ℕ) → 1024 * child_base base m ≤ q → get_or with_storey q 0 ≡ get_or S q 0
  unfolding with_block
  storey_past q h =
      storey_beside q (omega (arith, h))
      ∙ machine_other S m 2 (2 + table_pages m) (base + 1) (table_pages m) q (inr (omega (arith, h)))

  program_word : (k : ℕ) → k < 4 → word_at with_storey base k ≡ get_or pass_list k 0
  unfolding with_storey pass_list
  program_word k h =
      let r : base + n ≤ P = room in
      let f : 2 + table_pages m + m ≤ n = fits in
      sets_at pass_list with_block (1024 * base + 0) k (1024 * base + k) (omega (arith, block_size, r, f)) h (omega arith)

  pub storey_is : Storey with_storey base n m
  unfolding with_block pass_list
  storey_is =
      let r : base + n ≤ P = room in
      let f : 2 + table_pages m + m ≤ n = fits in
      let whole : 1024 * (base + 1 + 1 + table_pages m) ≤ length S = omega (arith, size, r, f) in
      record {
        some = some;
        size = fits;
        program = record {
          lui = program_word 0 (lit< tt);
          addi = program_word 1 (lit< tt);
          vmenter = program_word 2 (lit< tt);
          jal = program_word 3 (lit< tt);
        };
        block = λ w h.
            storey_beside (1024 * (base + 1) + w) (omega arith)
            ∙ machine_block S m 2 (2 + table_pages m) (base + 1) (table_pages m) w whole h;
        table = λ k w h i.
            let page : base + 2 + k ≡ base + 1 + 1 + k = omega arith in
            storey_beside (1024 * (base + 2 + k) + w) (omega arith)
            ∙ ap (λ (g : ℕ). word_at with_block g w) page
            ∙ machine_table S m 2 (2 + table_pages m) (base + 1) (table_pages m) k w whole h i;
      }

-- A tower of some levels: what was built so far, where the rest of the storage is still empty.
pub record Raised (P : ℕ) (b : Building) (ms : List ℕ) : Type 0 where
  pub size : length b.storage ≡ 1024 * P
  pub last : Known
  pub is_known : known (level_name (length ms)) b.names ≡ Ok last
  pub path : last.path ≡ replicate (length ms) 1
  pub pages : last.pages ≡ end_size P ms
  pub no_top : named (codes "top") b.names ≡ None
  pub storeys : Storeys b.storage 0 P ms
  pub room : end_base 0 ms + end_size P ms ≤ P
  pub empty : (q : ℕ) → 1024 * end_base 0 ms ≤ q → get_or b.storage q 0 ≡ 0
  pub harts : b.harts ≡ reset_regs ∷ []
  pub watches : b.watches ≡ []

pages_are : (S : List ℕ) (P : ℕ) → length S ≡ 1024 * P → page_count S ≡ P
pages_are S P e = omega (arith, e)

module _ (P line m : ℕ) (few : P ≤ pages_limit) (some : 1 ≤ m) (b n : Building) (ms : List ℕ) (rest : List Placed) (r : Raised P b ms) where
  first_map : map_of b.storage r.last.path ≡ Some (from_base (end_base 0 ms) (end_size P ms))
  first_map = ap (map_of b.storage) r.path ∙ map_of_is b.storage P ms (pages_are b.storage P r.size) few r.storeys

  -- after the machine
  module _ (c : Building) (made : Made b c (level_name (suc (length ms))) r.last m (end_base 0 ms) (2 + table_pages m)) where
    fits : 2 + table_pages m + m ≤ end_size P ms
    fits = subst (λ (k : ℕ). 2 + table_pages m + m ≤ k) r.pages made.inside

    block_same : (q : ℕ) → q < 1024 * end_base 0 ms → get_or c.storage q 0 ≡ get_or b.storage q 0
    block_same q h = ap (λ (S : List ℕ). get_or S q 0) made.storage ∙ machine_other b.storage m 2 (2 + table_pages m) (end_base 0 ms + 1) (table_pages m) q (inl (omega (arith, h)))

    second_map : map_of c.storage r.last.path ≡ Some (from_base (end_base 0 ms) (end_size P ms))
    second_map =
        let len : length c.storage ≡ 1024 * P = ap length made.storage ∙ length-machine b.storage m 2 (2 + table_pages m) (end_base 0 ms + 1) (table_pages m) ∙ r.size in
        ap (map_of c.storage) r.path
        ∙ map_of_is c.storage P ms (pages_are c.storage P len) few (storeys_same b.storage c.storage 0 P ms block_same r.storeys)

    second_known : known (level_name (length ms)) c.names ≡ Ok r.last
    second_known =
        ap (known (level_name (length ms))) made.names
        ∙ named_kept (level_name (length ms)) b.names record { name = level_name (suc (length ms)); path = r.last.path ++ 1 ∷ []; pages = m } r.last r.is_known

    -- after the program
    module _ (d : Building) (wrote : Wrote c d (1024 * end_base 0 ms + 0) (sample_words Pass)) where
      stored : d.storage ≡ with_storey b.storage P (end_base 0 ms) (end_size P ms) m r.size r.room fits some
      unfolding with_storey with_block
      stored =
          wrote.storage
          ∙ ap (λ (ws : List ℕ). sets c.storage (1024 * end_base 0 ms + 0) ws) pass_are
          ∙ ap (λ (S : List ℕ). sets S (1024 * end_base 0 ms + 0) pass_list) made.storage

      pub raised : Raised P d (ms ++ m ∷ [])
      raised =
          let V : List ℕ = with_storey b.storage P (end_base 0 ms) (end_size P ms) m r.size r.room fits some in
          let new : Known = record { name = level_name (suc (length ms)); path = r.last.path ++ 1 ∷ []; pages = m } in
          let names : d.names ≡ b.names ++ new ∷ [] = wrote.names ∙ made.names in
          let longer : length (ms ++ m ∷ []) ≡ suc (length ms) = length_push ms m in
          let h : 2 + table_pages m + m ≤ end_size P ms = fits in
          let i : end_base 0 ms + end_size P ms ≤ P = r.room in
          let levels : length r.last.path ≡ length ms = ap length r.path ∙ length-replicate (length ms) 1 in
          record {
            size = ap length stored ∙ storey_size b.storage P (end_base 0 ms) (end_size P ms) m r.size r.room fits some;
            last = new;
            is_known =
                ap (λ (k : ℕ). known (level_name k) d.names) longer
                ∙ ap (known (level_name (suc (length ms)))) names
                ∙ named_last (level_name (suc (length ms))) b.names new made.new ((bytes_eq-Decides (level_name (suc (length ms))) (level_name (suc (length ms)))).1 refl);
            path =
                ap (λ (p : List ℕ). p ++ 1 ∷ []) r.path
                ∙ replicate_more (length ms) 1
                ∙ ap (λ (k : ℕ). replicate k 1) (omega (arith, longer));
            pages = sym (size_push P ms m);
            no_top =
                ap (named (codes "top")) names
                ∙ named_none (codes "top") b.names new r.no_top (never_top (length ms) (omega (arith, levels, made.deep)));
            storeys =
                subst (λ (S : List ℕ). Storeys S 0 P (ms ++ m ∷ [])) (sym stored)
                (storeys_push V 0 P ms m
                (storeys_same b.storage V 0 P ms (storey_below b.storage P (end_base 0 ms) (end_size P ms) m r.size r.room fits some) r.storeys)
                (storey_is b.storage P (end_base 0 ms) (end_size P ms) m r.size r.room fits some));
            room = omega (arith, base_push 0 ms m, size_push P ms m, h, i);
            empty = λ q past.
                let from : 1024 * child_base (end_base 0 ms) m ≤ q = subst (λ (k : ℕ). 1024 * k ≤ q) (base_push 0 ms m) past in
                ap (λ (S : List ℕ). get_or S q 0) stored
                ∙ storey_past b.storage P (end_base 0 ms) (end_size P ms) m r.size r.room fits some q from
                ∙ r.empty q (omega (arith, from));
            harts = wrote.harts ∙ made.harts ∙ r.harts;
            watches = wrote.watches ∙ made.watches ∙ r.watches;
          }

  -- one level more
  pub level : parts_of b (level_machine line (length ms) m ∷ level_sample line (length ms) Pass ∷ rest) ≡ Ok n → (d : Building) × Raised P d (ms ++ m ∷ []) × (parts_of d rest ≡ Ok n)
  level is =
      let first = bound (part_of b (level_machine line (length ms) m).what) (λ next. parts_of next (level_sample line (length ms) Pass ∷ rest)) n is in
      let second = bound (part_of first.0 (level_sample line (length ms) Pass).what) (λ next. parts_of next rest) n first.2 in
      let made : Made b first.0 (level_name (suc (length ms))) r.last m (end_base 0 ms) (2 + table_pages m) = machine_is b first.0 (level_name (suc (length ms))) (level_name (length ms)) m (2 + table_pages m) r.last (end_base 0 ms) (end_size P ms) r.is_known first_map first.1 in
      let wrote : Wrote first.0 second.0 (1024 * end_base 0 ms + 0) (sample_words Pass) = image_is first.0 second.0 (level_name (length ms)) r.last (end_base 0 ms) (end_size P ms) (second_known first.0 made) (second_map first.0 made) record { base = 0; words = sample_words Pass } second.1 in
      (second.0, raised first.0 made second.0 wrote, second.2)
