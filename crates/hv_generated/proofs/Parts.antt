-- A machine and an image that aren't refused, where the pages of the machine are bare pages in their order.
use Rattle.std.proofs.Common.{◌≡◌, ℕ, suc, ◌+◌, ◌*◌, ◌<◌, ◌≤◌, true, false, ◌||◌, cond, List, ◌∷◌, length, map, Option, Some, None, Result, Ok, Err, refl, ap, ◌∙◌, arith}
use Rattle.std.specs.Prelude.{nat_le, nat_lt, is_some}
use Rattle.std.specs.List.{range_with_len}
use Rattle.std.proofs.lemmas.Bool.{le-ltb, lt-leb, lt-ltb}
use Rattle.hv_store.specs.declared.access.Slot.{Slot}
use Rattle.hv_map.specs.Apart.{table_pages}
use Rattle.hv_map.specs.Chain.{map_of}
use Rattle.hv_limits.specs.Limits.{depth_limit}
use Rattle.hv_load.specs.declared.ends.BuildKind.{BuildKind}
use Rattle.hv_load.specs.declared.ends.BuildKind.TheVariants as kind
use Rattle.hv_load.specs.Building.{Building, Known, known, named}
use Rattle.hv_line.specs.JobLimits.{job_machines}
use Rattle.hv_load.specs.Directives.{image_in, image_of, is_outside, machine_of, made_in, pages_along, with_made}
use Rattle.hv_load.specs.Making.{can_take}
use Rattle.hv_load.specs.Pages.{each_from, free_at, free_page_of, if_free, marked, page_at, page_of, place_by, read_at, reads_in, with_values, writes_in, written_at}
use Rattle.hv_towers.specs.Laid.{from_base}
use Rattle.hv_towers.proofs.Bases.{base_slot}
use Rattle.hv_generated.proofs.Given.{allowed, each_found, goes_on, not_refused, place_found}
use Rattle.hv_generated.proofs.Marks.{can_take_run, places_kept}
use Rattle.hv_lex.specs.Refusing.{◌>>=◌}

writes_at : (base n i : ℕ) → i < n → writes_in (Some (from_base base n)) i ≡ Ok (base + i)
writes_at base n i lt = ap written_at (base_slot base n i lt)

reads_at : (base n i : ℕ) → i < n → reads_in (Some (from_base base n)) i ≡ Ok (base + i)
reads_at base n i lt = ap read_at (base_slot base n i lt)

-- the block's page and those of the table
along_found : (base n m : ℕ) → 2 + table_pages m ≤ n → pages_along (Some (from_base base n)) 1 m 2 ≡ Ok (range_with_len (base + 1) (suc (table_pages m)))
along_found base n m fits =
    let next : base + 2 ≡ base + 1 + 1 = omega arith in
    goes_on (writes_in (Some (from_base base n)) 1) (λ g. each_from (writes_in (Some (from_base base n))) 2 (table_pages m) >>= λ gs. Ok (g ∷ gs)) (base + 1) (range_with_len (base + 1) (suc (table_pages m))) (writes_at base n 1 (omega (arith, fits)))
    (goes_on (each_from (writes_in (Some (from_base base n))) 2 (table_pages m)) (λ gs. Ok ((base + 1) ∷ gs)) (range_with_len (base + 2) (table_pages m)) (range_with_len (base + 1) (suc (table_pages m)))
    (each_found (writes_in (Some (from_base base n))) base 2 (table_pages m) (λ i lt. writes_at base n i (omega (arith, fits, lt))))
    (ap (λ (k : ℕ). let r : Result (List ℕ) BuildKind = Ok ((base + 1) ∷ range_with_len k (table_pages m)) in r) next))

-- nothing is outside
is_inside : (limit m : ℕ) → 1 ≤ m → 2 + table_pages m + m ≤ limit → is_outside limit 1 m 2 (2 + table_pages m) ≡ false
is_inside limit m some fits = λ i. ((block i) || (table i)) || (pages i)
  where
    block : nat_le limit 1 ≡ false
    block = lt-leb limit 1 (omega (arith, some, fits))

    table : nat_lt limit (2 + table_pages m) ≡ false
    table = le-ltb limit (2 + table_pages m) (omega (arith, fits))

    pages : nat_lt limit (2 + table_pages m + m) ≡ false
    pages = le-ltb limit (2 + table_pages m + m) fits

-- the building with a machine made in the pages behind its parent's first
abbrev pub machine_at : Building → List ℕ → Known → (m base : ℕ) → Building
machine_at b name k m base = with_made b name k 1 m 2 (2 + table_pages m) (range_with_len (base + 1) (suc (table_pages m)))

-- Words were written to the first page of a machine, which is bare page `base`, and the bare pages behind it are as free as
-- before.
pub record Filled (b n : Building) (base : ℕ) : Type 0 where
  pub free : (g : ℕ) → base < g → free_at n.marks g ≡ free_at b.marks g
  pub names : n.names ≡ b.names
  pub machines : n.machines ≡ b.machines
  pub harts : n.harts ≡ b.harts
  pub watches : n.watches ≡ b.watches

module _ (b : Building) (k : Known) (base n : ℕ) (is_map : map_of b.storage k.path ≡ Some (from_base base n)) (pages : k.pages ≡ n) where
  pub machine_made : (name parent : List ℕ) (m : ℕ) → known parent b.names ≡ Ok k → b.machines < job_machines → length k.path < depth_limit → named name b.names ≡ None → 1 ≤ m → 2 + table_pages m + m ≤ n → ((g : ℕ) → base < g → g < base + n → free_at b.marks g ≡ true) → machine_of b name parent 1 m 2 (2 + table_pages m) ≡ Ok (machine_at b name k m base)
  machine_made name parent m is_known few short new some fits free =
      let taken : List ℕ = range_with_len (base + 1) (suc (table_pages m)) in
      let done : List ℕ → Result Building BuildKind = λ taken. cond (can_take b.marks taken) (Ok (with_made b name k 1 m 2 (2 + table_pages m) taken)) (Err kind.Overlap) in
      let placed : Result Building BuildKind = pages_along (map_of b.storage k.path) 1 m 2 >>= done in
      let outside : Result Building BuildKind = cond (is_outside k.pages 1 m 2 (2 + table_pages m)) (Err kind.Outside) placed in
      let again : Result Building BuildKind = cond (is_some (named name b.names)) (Err kind.Repeat) outside in
      let size : k.pages ≡ n = pages in
      not_refused (nat_le job_machines b.machines) kind.Many (known parent b.names >>= λ k. made_in b name k 1 m 2 (2 + table_pages m)) (machine_at b name k m base) (lt-leb job_machines b.machines few)
      (goes_on (known parent b.names) (λ k. made_in b name k 1 m 2 (2 + table_pages m)) k (machine_at b name k m base) is_known
      (not_refused (nat_le depth_limit (length k.path)) kind.Depth again (machine_at b name k m base) (lt-leb depth_limit (length k.path) short)
      (not_refused (is_some (named name b.names)) kind.Repeat outside (machine_at b name k m base) (ap is_some new)
      (not_refused (is_outside k.pages 1 m 2 (2 + table_pages m)) kind.Outside placed (machine_at b name k m base) (is_inside k.pages m some (omega (arith, fits, size)))
      (goes_on (pages_along (map_of b.storage k.path) 1 m 2) done taken (machine_at b name k m base) (ap (λ (F : Option (List Slot)). pages_along F 1 m 2) is_map ∙ along_found base n m (omega (arith, fits)))
      (allowed (can_take b.marks taken) kind.Overlap (Ok (machine_at b name k m base)) (machine_at b name k m base)
      (can_take_run b.marks (base + 1) (suc (table_pages m)) (λ g low high. free g (omega (arith, low)) (omega (arith, high, some, fits))))
      refl))))))

  first_page : 0 < n → free_at b.marks base ≡ true → free_page_of b.storage b.marks k 0 ≡ Ok base
  first_page some free =
      let here : base + 0 ≡ base = omega arith in
      let size : k.pages ≡ n = pages in
      goes_on (page_of b.storage k 0) (if_free b.marks) base base
      (allowed (nat_lt 0 k.pages) kind.Outside (reads_in (map_of b.storage k.path) 0) base (lt-ltb 0 k.pages (omega (arith, some, size)))
      (ap (λ (F : Option (List Slot)). reads_in F 0) is_map ∙ reads_at base n 0 some ∙ ap (λ (g : ℕ). let r : Result ℕ BuildKind = Ok g in r) here))
      (allowed (free_at b.marks base) kind.Overlap (Ok base) base free refl)

  -- The building after words were written. (A mark's type has no name outside of the crate that builds jobs.)
  filled : (name words : List ℕ) → length words ≤ 1024 → (mark : _) → image_of b name record { base = 0; words = words } ≡ Ok (record b { storage = with_values b.storage (range_with_len (1024 * base + 0) (length words)) words; marks = marked mark (map page_at (range_with_len (1024 * base + 0) (length words))) b.marks }) → (d : Building) × (image_of b name record { base = 0; words = words } ≡ Ok d) × Filled b d base
  filled name words few mark is = (
    _,
    is,
    record {
      free = λ g low. let count : length words ≤ 1024 = few in places_kept mark b.marks g (1024 * base + 0) (length words) (omega (arith, low, count));
      names = refl;
      machines = refl;
      harts = refl;
      watches = refl;
    },
  )

  pub image_written : (name words : List ℕ) → known name b.names ≡ Ok k → length words ≤ 1024 → 0 < n → free_at b.marks base ≡ true → (d : Building) × (image_of b name record { base = 0; words = words } ≡ Ok d) × Filled b d base
  image_written name words is_known few some free =
      filled name words few _
      (goes_on (known name b.names) (λ k. image_in b k record { base = 0; words = words }) k _ is_known
      (goes_on (each_from (place_by (free_page_of b.storage b.marks k)) 0 (length words)) _ (range_with_len (1024 * base + 0) (length words)) _
      (each_found (place_by (free_page_of b.storage b.marks k)) (1024 * base) 0 (length words) (λ i lt. place_found (free_page_of b.storage b.marks k) base i (first_page some free) (omega (arith, lt, few))))
      refl))
