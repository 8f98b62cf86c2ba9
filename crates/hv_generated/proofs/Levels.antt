-- A tower whose levels fit is raised level by level: no part of it is refused.
use Rattle.std.proofs.Common.{◌≡◌, ℕ, zero, suc, ◌+◌, ◌*◌, ◌<◌, ◌≤◌, inl, inr, true, List, [], ◌∷◌, ◌++◌, length, None, Some, Result, Ok, refl, ap, ◌∙◌, sym, subst, arith, get_or}
use Rattle.std.proofs.lemmas.List.{length-replicate}
use Rattle.hv_limits.specs.Limits.{depth_limit, pages_limit}
use Rattle.hv_word.specs.Storage.{page_count}
use Rattle.hv_map.specs.Apart.{table_pages}
use Rattle.hv_map.specs.Chain.{map_of}
use Rattle.hv_job.specs.declared.job.Placed.{Placed}
use Rattle.hv_samples.specs.declared.choice.Sample.TheVariants.{Pass}
use Rattle.hv_load.specs.declared.ends.BuildKind.{BuildKind}
use Rattle.hv_load.specs.Building.{Building, named}
use Rattle.hv_load.specs.Build.{parts_of}
use Rattle.hv_load.specs.Directives.{image_of, machine_of}
use Rattle.hv_load.specs.Pages.{free_at}
use Rattle.hv_load.specs.Tower.{grown, level_machine, level_name, level_sample, levels_from, sample_words, words_if}
use Rattle.hv_load.proofs.Naming.{levels_differ}
use Rattle.hv_load.proofs.Samples.{pass_words}
use Rattle.hv_towers.specs.Laid.{child_base, from_base}
use Rattle.hv_towers.proofs.Passing.{named_kept, named_none, same_ok}
use Rattle.hv_towers.proofs.Storeys.{end_base, end_size, map_of_is}
use Rattle.hv_towers.proofs.Raising.{Raised, base_push, length_push, level, size_push, storeys_same}
use Rattle.hv_towers.proofs.Rising.{last_size}
use Rattle.hv_towers.proofs.Tables.{length-machine, machine_other}
use Rattle.hv_generated.proofs.Marks.{run_kept}
use Rattle.hv_generated.proofs.Parts.{Filled, image_written, machine_at, machine_made}
use Rattle.hv_lex.specs.Refusing.{◌>>=◌}

-- A tower of some levels: the bare pages behind its monitors were given to nothing, and no further level has its name.
pub record Fresh (P : ℕ) (b : Building) (ms : List ℕ) : Type 0 where
  pub raised : Raised P b ms
  pub machines : b.machines ≡ length ms
  pub free : (g : ℕ) → end_base 0 ms ≤ g → g < P → free_at b.marks g ≡ true
  pub unused : (k : ℕ) → length ms ≤ k → k < depth_limit → named (level_name (suc k)) b.names ≡ None

pass_length : length (sample_words Pass) ≡ 4
pass_length = ap (λ (r : Result (List ℕ) _). length (words_if r)) pass_words

module _ (P line m : ℕ) (few : P ≤ pages_limit) (some : 1 ≤ m) (b : Building) (ms : List ℕ) (f : Fresh P b ms) (short : length ms < depth_limit) (fits : 2 + table_pages m + m ≤ end_size P ms) where
  -- after the machine
  abbrev made : Building
  made = machine_at b (level_name (suc (length ms))) f.raised.last m (end_base 0 ms)

  first_map : map_of b.storage f.raised.last.path ≡ Some (from_base (end_base 0 ms) (end_size P ms))
  first_map =
      let pages : page_count b.storage ≡ P = omega (arith, f.raised.size) in
      ap (map_of b.storage) f.raised.path ∙ map_of_is b.storage P ms pages few f.raised.storeys

  below : (q : ℕ) → q < 1024 * end_base 0 ms → get_or made.storage q 0 ≡ get_or b.storage q 0
  below q h = machine_other b.storage m 2 (2 + table_pages m) (end_base 0 ms + 1) (table_pages m) q (inl (omega (arith, h)))

  second_map : map_of made.storage f.raised.last.path ≡ Some (from_base (end_base 0 ms) (end_size P ms))
  second_map =
      let words : length made.storage ≡ 1024 * P = length-machine b.storage m 2 (2 + table_pages m) (end_base 0 ms + 1) (table_pages m) ∙ f.raised.size in
      let pages : page_count made.storage ≡ P = omega (arith, words) in
      ap (map_of made.storage) f.raised.path
      ∙ map_of_is made.storage P ms pages few (storeys_same b.storage made.storage 0 P ms below f.raised.storeys)

  machine_is : machine_of b (level_name (suc (length ms))) (level_name (length ms)) 1 m 2 (2 + table_pages m) ≡ Ok made
  machine_is =
      let machines : b.machines ≡ length ms = f.machines in
      let count : length ms < depth_limit = short in
      let room : end_base 0 ms + end_size P ms ≤ P = f.raised.room in
      let path : length f.raised.last.path ≡ length ms = ap length f.raised.path ∙ length-replicate (length ms) 1 in
      machine_made b f.raised.last (end_base 0 ms) (end_size P ms) first_map f.raised.pages (level_name (suc (length ms))) (level_name (length ms)) m f.raised.is_known (omega (arith, machines, count)) (omega (arith, path, count)) (f.unused (length ms) (omega arith) short) some fits (λ g low high. f.free g (omega (arith, low)) (omega (arith, high, room)))

  image_is : (d : Building) × (image_of made (level_name (length ms)) record { base = 0; words = sample_words Pass } ≡ Ok d) × Filled made d (end_base 0 ms)
  image_is =
      let size : 2 + table_pages m + m ≤ end_size P ms = fits in
      let room : end_base 0 ms + end_size P ms ≤ P = f.raised.room in
      image_written made f.raised.last (end_base 0 ms) (end_size P ms) second_map f.raised.pages (level_name (length ms)) (sample_words Pass)
      (named_kept (level_name (length ms)) b.names record { name = level_name (suc (length ms)); path = f.raised.last.path ++ 1 ∷ []; pages = m } f.raised.last f.raised.is_known)
      (omega (arith, pass_length))
      (omega (arith, size))
      (run_kept _ b.marks (end_base 0 ms) (end_base 0 ms + 1) (suc (table_pages m)) (inl (omega arith))
      ∙ f.free (end_base 0 ms) (omega arith) (omega (arith, size, room)))

  -- after the program too
  module _ (d : Building) (is : image_of made (level_name (length ms)) record { base = 0; words = sample_words Pass } ≡ Ok d) (filled : Filled made d (end_base 0 ms)) where
    parts_go_on : (rest : List Placed) → parts_of b (level_machine line (length ms) m ∷ level_sample line (length ms) Pass ∷ rest) ≡ parts_of d rest
    parts_go_on rest =
        ap (λ (r : Result Building BuildKind). r >>= λ next. parts_of next (level_sample line (length ms) Pass ∷ rest)) machine_is
        ∙ ap (λ (r : Result Building BuildKind). r >>= λ next. parts_of next rest) is

    next_raised : Raised P d (ms ++ m ∷ [])
    next_raised =
        let l = level P line m few some b d ms [] f.raised (parts_go_on []) in
        subst (λ (x : Building). Raised P x (ms ++ m ∷ [])) (same_ok l.0 d (parts_of l.0 []) refl l.2) l.1

    next_free : (g : ℕ) → child_base (end_base 0 ms) m ≤ g → g < P → free_at d.marks g ≡ true
    next_free g low high =
        filled.free g (omega (arith, low))
        ∙ run_kept _ b.marks g (end_base 0 ms + 1) (suc (table_pages m)) (inr (omega (arith, low)))
        ∙ f.free g (omega (arith, low)) high

    next_fresh : Fresh P d (ms ++ m ∷ [])
    next_fresh =
        let longer : length (ms ++ m ∷ []) ≡ suc (length ms) = length_push ms m in
        let machines : b.machines ≡ length ms = f.machines in
        record {
          raised = next_raised;
          machines = filled.machines ∙ omega (arith, machines, longer);
          free = λ g low high. next_free g (subst (λ (k : ℕ). k ≤ g) (base_push 0 ms m) low) high;
          unused = λ k low high.
              ap (named (level_name (suc k))) filled.names
              ∙ named_none (level_name (suc k)) b.names record { name = level_name (suc (length ms)); path = f.raised.last.path ++ 1 ∷ []; pages = m } (f.unused k (omega (arith, low, longer)) high) (levels_differ (length ms) k (omega (arith, low, longer)) (omega (arith, high)));
        }

  -- one level more
  pub next_level : (d : Building) × ((rest : List Placed) → parts_of b (level_machine line (length ms) m ∷ level_sample line (length ms) Pass ∷ rest) ≡ parts_of d rest) × Fresh P d (ms ++ m ∷ [])
  next_level = let i = image_is in (i.0, parts_go_on i.0 i.1 i.2, next_fresh i.0 i.1 i.2)

grown_some : (levels n : ℕ) → 1 ≤ n → 1 ≤ grown levels n
grown_some zero n some = some
grown_some (suc levels) n some = let h : 1 ≤ grown levels n = grown_some levels n some in omega (arith, h)

last_grown : (levels n : ℕ) → last_size (grown levels n) n levels ≡ n
unfolding last_size
last_grown zero n = refl
last_grown (suc levels) n = refl

-- The building after so many levels more.
pub record Reached (P top levels : ℕ) (ms : List ℕ) (parts : Result Building BuildKind) : Type 0 where
  pub after : Building
  pub is : parts ≡ Ok after
  pub ns : List ℕ
  pub fresh : Fresh P after ns
  pub longer : length ns ≡ length ms + levels
  pub size : end_size P ns ≡ last_size (end_size P ms) top levels

one_more : (P line top levels k : ℕ) (b d : Building) (ms : List ℕ) → k ≡ length ms → ((rest : List Placed) → parts_of b (level_machine line (length ms) (grown levels top) ∷ level_sample line (length ms) Pass ∷ rest) ≡ parts_of d rest) → Reached P top levels (ms ++ grown levels top ∷ []) (parts_of d (levels_from line top Pass (suc (length ms)) levels)) → Reached P top (suc levels) ms (parts_of b (levels_from line top Pass k (suc levels)))
unfolding last_size
one_more P line top levels k b d ms e go_on rest = record {
  after = rest.after;
  is =
      ap (λ (k : ℕ). parts_of b (levels_from line top Pass k (suc levels))) e
      ∙ go_on (levels_from line top Pass (suc (length ms)) levels)
      ∙ rest.is;
  ns = rest.ns;
  fresh = rest.fresh;
  longer = omega (arith, rest.longer, length_push ms (grown levels top));
  size = rest.size ∙ ap (λ (s : ℕ). last_size s top levels) (size_push P ms (grown levels top)) ∙ last_grown levels top;
}

pub reach : (P line top : ℕ) → P ≤ pages_limit → 1 ≤ top → (levels k : ℕ) (b : Building) (ms : List ℕ) → k ≡ length ms → length ms + levels ≤ depth_limit → grown levels top ≤ end_size P ms → Fresh P b ms → Reached P top levels ms (parts_of b (levels_from line top Pass k levels))
unfolding last_size
reach P line top few some zero k b ms e short fits f = record {
  after = b;
  is = refl;
  ns = ms;
  fresh = f;
  longer = omega arith;
  size = refl;
}
reach P line top few some (suc levels) k b ms e short fits f =
    let longer : length (ms ++ grown levels top ∷ []) ≡ suc (length ms) = length_push ms (grown levels top) in
    let last : end_size P (ms ++ grown levels top ∷ []) ≡ grown levels top = size_push P ms (grown levels top) in
    let step = next_level P line (grown levels top) few (grown_some levels top some) b ms f (omega (arith, short)) (omega (arith, fits)) in
    one_more P line top levels k b step.0 ms e step.1
    (reach P line top few some levels (suc (length ms)) step.0 (ms ++ grown levels top ∷ []) (sym longer) (omega (arith, short, longer)) (omega (arith, last)) step.2)
