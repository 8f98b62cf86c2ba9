-- A whole tower, with the name of its top.
use Rattle.std.proofs.Common.{◌≡◌, ℕ, zero, suc, ◌+◌, ◌*◌, ◌≤◌, ◌||◌, List, [], ◌∷◌, ◌++◌, length, replicate, codes, Result, Ok, refl, ap, ◌∙◌, sym, subst, arith, get_or}
use Rattle.std.specs.Prelude.{is_some}
use Rattle.hv_limits.specs.Limits.{pages_limit}
use Rattle.hv_cpu.specs.Regs.{reset_regs}
use Rattle.hv_store.specs.Zeros.{zeros}
use Rattle.hv_store.proofs.Identity.{length-zeros}
use Rattle.hv_samples.specs.declared.choice.Sample.TheVariants.{Pass}
use Rattle.hv_load.specs.declared.ends.BuildKind.{BuildKind}
use Rattle.hv_load.specs.declared.ends.BuildKind.TheVariants as kind
use Rattle.hv_load.specs.Building.{Building, Known, known, named, nothing_built, root_with}
use Rattle.hv_load.specs.Build.{parts_of, top_of, towered_of, with_top}
use Rattle.hv_load.specs.Tower.{grown, level_name, levels_from, tower_of}
use Rattle.hv_towers.proofs.Passing.{same_ok, bound, passed, named_last}
use Rattle.hv_towers.proofs.Storeys.{Storeys, end_base, end_size}
use Rattle.hv_towers.proofs.Raising.{Raised, length_push, size_push, level}
use Rattle.hv_lex.specs.Refusing.{◌>>=◌}

-- how many pages the machine after so many levels more has
unfoldable pub last_size : ℕ → ℕ → ℕ → ℕ
last_size size top zero = size
last_size size top (suc levels) = top

grown_some : (levels n : ℕ) → 1 ≤ n → 1 ≤ grown levels n
grown_some zero n some = some
grown_some (suc levels) n some = let h : 1 ≤ grown levels n = grown_some levels n some in omega (arith, h)

last_grown : (levels n : ℕ) → last_size (grown levels n) n levels ≡ n
unfolding last_size
last_grown zero n = refl
last_grown (suc levels) n = refl

record Risen (P top levels : ℕ) (ms : List ℕ) (n : Building) : Type 0 where
  ns : List ℕ
  raised : Raised P n ns
  longer : length ns ≡ length ms + levels
  size : end_size P ns ≡ last_size (end_size P ms) top levels

rise : (P line top : ℕ) → P ≤ pages_limit → 1 ≤ top → (levels k : ℕ) (b n : Building) (ms : List ℕ) → k ≡ length ms → Raised P b ms → parts_of b (levels_from line top Pass k levels) ≡ Ok n → Risen P top levels ms n
unfolding last_size
rise P line top few some zero k b n ms e r is = record {
  ns = ms;
  raised = subst (λ (x : Building). Raised P x ms) (same_ok b n (parts_of b []) refl is) r;
  longer = omega arith;
  size = refl;
}
rise P line top few some (suc levels) k b n ms e r is =
    let m : ℕ = grown levels top in
    let step = level P line (grown levels top) few (grown_some levels top some) b n ms (levels_from line top Pass (suc (length ms)) levels) r (subst (λ (k : ℕ). parts_of b (levels_from line top Pass k (suc levels)) ≡ Ok n) e is) in
    let rest = rise P line top few some levels (suc (length ms)) step.0 n (ms ++ grown levels top ∷ []) (sym (length_push ms (grown levels top))) step.1 step.2 in
    record {
      ns = rest.ns;
      raised = rest.raised;
      longer = omega (arith, rest.longer, length_push ms (grown levels top));
      size = rest.size ∙ ap (λ (s : ℕ). last_size s top levels) (size_push P ms (grown levels top)) ∙ last_grown levels top;
    }

-- the storage at the start is empty
none_written : (n q : ℕ) → get_or (zeros n) q 0 ≡ 0
unfolding zeros
none_written zero q = refl
none_written (suc n) zero = refl
none_written (suc n) (suc q) = none_written n q

at_first : (P : ℕ) → Raised P (nothing_built P 1) []
unfolding end_base end_size zeros
at_first P = record {
  size = length-zeros (1024 * P);
  last = root_with P;
  is_known = refl;
  path = refl;
  pages = refl;
  no_top = refl;
  storeys = tt;
  room = omega arith;
  empty = λ q h. none_written (1024 * P) q;
  harts = refl;
  watches = refl;
}

-- A tower with the pages of each machine but the bare one, whose top has its name. Its lines may have written to the top.
pub record Stands (P : ℕ) (ns : List ℕ) (b : Building) : Type 0 where
  pub size : length b.storage ≡ 1024 * P
  pub top : Known
  pub is_known : known (codes "top") b.names ≡ Ok top
  pub path : top.path ≡ replicate (length ns) 1
  pub storeys : Storeys b.storage 0 P ns
  pub harts : b.harts ≡ reset_regs ∷ []

-- the same before any line wrote
pub record Empty (P depth top : ℕ) (b : Building) : Type 0 where
  pub ns : List ℕ
  pub stands : Stands P ns b
  pub levels : length ns ≡ depth
  pub pages : end_size P ns ≡ last_size P top depth
  pub room : end_base 0 ns + end_size P ns ≤ P
  pub empty : (q : ℕ) → 1024 * end_base 0 ns ≤ q → get_or b.storage q 0 ≡ 0
  pub watches : b.watches ≡ []

pub tower_stands : (P line depth top : ℕ) (n : Building) → P ≤ pages_limit → 1 ≤ top → towered_of (nothing_built P 1) line depth top Pass ≡ Ok n → Empty P depth top n
unfolding end_size
tower_stands P line depth top n few some is =
    let b : Building = nothing_built P 1 in
    let first = passed (b.towered || is_some (named (codes "top") b.names)) (parts_of b (tower_of depth top Pass line) >>= λ next. top_of next depth) kind.Repeat n is in
    let parts = bound (parts_of b (tower_of depth top Pass line)) (λ next. top_of next depth) n first.1 in
    named_top parts.0 (rise P line top few some depth 0 b parts.0 [] refl (at_first P) parts.1) parts.2
  where
    named_top : (m : Building) → Risen P top depth [] m → top_of m depth ≡ Ok n → Empty P depth top n
    named_top m risen is =
        let r : Raised P m risen.ns = risen.raised in
        let levels : length risen.ns ≡ depth = omega (arith, risen.longer) in
        let found : known (level_name depth) m.names ≡ Ok r.last = ap (λ (k : ℕ). known (level_name k) m.names) (sym levels) ∙ r.is_known in
        let inner : Ok (with_top m r.last) ≡ Ok n = sym (ap (λ (x : Result Known BuildKind). x >>= λ k. let done : Result Building BuildKind = Ok (with_top m k) in done) found) ∙ is in
        subst (Empty P depth top)
        (same_ok (with_top m r.last) n (let done : Result Building BuildKind = Ok (with_top m r.last) in done) refl inner)
        record {
          ns = risen.ns;
          stands = record {
            size = r.size;
            top = record r.last { name = codes "top" };
            is_known = named_last (codes "top") m.names (record r.last { name = codes "top" }) r.no_top refl;
            path = r.path;
            storeys = r.storeys;
            harts = r.harts;
          };
          levels = levels;
          pages = risen.size;
          room = r.room;
          empty = r.empty;
          watches = r.watches;
        }
