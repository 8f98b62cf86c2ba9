-- A whole tower that fits, with the name of its top, is built.
use Rattle.std.proofs.Common.{◌≡◌, ℕ, zero, suc, ◌+◌, ◌*◌, ◌<◌, ◌≤◌, true, List, [], length, codes, Ok, Result, refl, ap, ◌∙◌, sym, arith, get_or}
use Rattle.std.specs.Result.{is_ok}
use Rattle.hv_limits.specs.Limits.{depth_limit, pages_limit}
use Rattle.hv_store.specs.Zeros.{zeros}
use Rattle.hv_store.proofs.Identity.{length-zeros}
use Rattle.hv_samples.specs.declared.choice.Sample.TheVariants.{Pass}
use Rattle.hv_load.specs.declared.ends.BuildKind.{BuildKind}
use Rattle.hv_load.specs.Building.{Building, known, nothing_built, root_with}
use Rattle.hv_load.specs.Build.{parts_of, top_of, towered_of, with_top}
use Rattle.hv_load.specs.Pages.{free_at}
use Rattle.hv_load.specs.Tower.{grown, level_name, tower_of}
use Rattle.hv_towers.proofs.Passing.{named_last}
use Rattle.hv_towers.proofs.Storeys.{end_base, end_size}
use Rattle.hv_towers.proofs.Raising.{Raised}
use Rattle.hv_towers.proofs.Rising.{Stands, last_size}
use Rattle.hv_generated.specs.Fitting.{TowerFitLaw}
use Rattle.hv_generated.proofs.Given.{goes_on}
use Rattle.hv_generated.proofs.Levels.{Fresh, Reached, reach}

-- at the start no word is written and no page is given away
none_written : (n q : ℕ) → get_or (zeros n) q 0 ≡ 0
unfolding zeros
none_written zero q = refl
none_written (suc n) zero = refl
none_written (suc n) (suc q) = none_written n q

none_given : (n g : ℕ) → g < n → free_at (nothing_built n 1).marks g ≡ true
none_given zero g lt = absurd (omega arith)
none_given (suc n) zero lt = refl
none_given (suc n) (suc g) lt = none_given n g (omega (arith, lt))

at_first : (P : ℕ) → Fresh P (nothing_built P 1) []
unfolding end_base end_size
at_first P = record {
  raised = record {
    size = length-zeros (1024 * P);
    last = root_with P;
    is_known = refl;
    path = refl;
    pages = refl;
    no_top = refl;
    storeys = tt;
    room = omega arith;
    empty = λ q h. none_written (1024 * P) q;
    harts = refl;
    watches = refl;
  };
  machines = refl;
  free = λ g low high. none_given P g high;
  unused = λ k low high. refl;
}

-- A tower that was built: its top has so many pages, and the bare pages behind its monitors were given to nothing.
pub record Tower (P depth top : ℕ) (built : Result Building BuildKind) : Type 0 where
  pub after : Building
  pub is : built ≡ Ok after
  pub ns : List ℕ
  pub stands : Stands P ns after
  pub levels : length ns ≡ depth
  pub pages : stands.top.pages ≡ end_size P ns
  pub size : end_size P ns ≡ last_size P top depth
  pub room : end_base 0 ns + end_size P ns ≤ P
  pub free : (g : ℕ) → end_base 0 ns ≤ g → g < P → free_at after.marks g ≡ true
  pub watches : after.watches ≡ []

pub tower : (P line depth top : ℕ) → P ≤ pages_limit → depth ≤ depth_limit → 1 ≤ top → grown depth top ≤ P → Tower P depth top (towered_of (nothing_built P 1) line depth top Pass)
unfolding end_size
tower P line depth top few short some fits =
    named_top (reach P line top few some depth 0 (nothing_built P 1) [] refl (omega (arith, short)) fits (at_first P))
  where
    named_top : Reached P top depth [] (parts_of (nothing_built P 1) (tower_of depth top Pass line)) → Tower P depth top (towered_of (nothing_built P 1) line depth top Pass)
    named_top all =
        let r : Raised P all.after all.ns = all.fresh.raised in
        let levels : length all.ns ≡ depth = omega (arith, all.longer) in
        let found : known (level_name depth) all.after.names ≡ Ok r.last = ap (λ (k : ℕ). known (level_name k) all.after.names) (sym levels) ∙ r.is_known in
        record {
          after = with_top all.after r.last;
          is = goes_on (parts_of (nothing_built P 1) (tower_of depth top Pass line)) (λ next. top_of next depth) all.after (with_top all.after r.last) all.is
              (goes_on (known (level_name depth) all.after.names) (λ k. Ok (with_top all.after k)) r.last (with_top all.after r.last) found refl);
          ns = all.ns;
          stands = record {
            size = r.size;
            top = record r.last { name = codes "top" };
            is_known = named_last (codes "top") all.after.names (record r.last { name = codes "top" }) r.no_top refl;
            path = r.path;
            storeys = r.storeys;
            harts = r.harts;
          };
          levels = levels;
          pages = r.pages;
          size = all.size;
          room = r.room;
          free = all.fresh.free;
          watches = r.watches;
        }

pub towers_fit : TowerFitLaw
towers_fit P line depth top few short some fits = ap is_ok (tower P line depth top few short some fits).is
