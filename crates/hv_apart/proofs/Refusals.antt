-- Why a machine isn't upgraded, reason by reason, and what holds where there is none.
use Rattle.std.proofs.Common.{◌≡◌, ◌≢◌, ℕ, zero, suc, ◌+◌, ◌<◌, ◌≤◌, Bool, true, false, not, cond, List, ◌∷◌, length, Option, Some, None, Result, Ok, Err, refl, ap, ◌∙◌, sym, subst, arith}
use Rattle.std.specs.Prelude.{◌==◌, IsOk, MatchOption, nat_le, nat_lt}
use Rattle.std.specs.List.{find, range_with_len}
use Rattle.std.specs.Option.{is_none, option_and_then, option_map, option_or}
use Rattle.std.proofs.lemmas.Bool.{eq-eqb, eqb-false, leb-false, ltb-false, ne_eqb, or_parts}
use Rattle.hv_word.specs.Words.{has}
use Rattle.hv_store.specs.declared.access.Slot.{Slot}
use Rattle.hv_map.specs.Apart.{is_apart, standing_on, table_pages}
use Rattle.hv_map.specs.Item.{Item}
use Rattle.hv_apart.specs.declared.upgrading.UpgradeEnd.{UpgradeEnd}
use Rattle.hv_apart.specs.declared.upgrading.UpgradeEnd.TheVariants as end
use Rattle.hv_apart.specs.Upgrade.{first_shut, last_item, leaves_parent, page_found, parent_map, stands_on, upgrade_refusal, upgrade_refusal_in, written_in}

-- the first page of a range that a test passes
find_first : (p : ℕ → Bool) (a n k : ℕ) → k < n → ((m : ℕ) → m < k → p (a + m) ≡ false) → p (a + k) ≡ true → find p (range_with_len a n) ≡ Some (a + k)
find_first p a zero k lt before here = absurd (omega arith)
find_first p a (suc n) zero lt before here =
    let same : a + 0 ≡ a = omega arith in
    ap (λ (b : Bool). cond b (Some a) (find p (range_with_len (a + 1) n))) (ap p (sym same) ∙ here) ∙ ap Some (sym same)
find_first p a (suc n) (suc k) lt before here =
    let start : a + 0 ≡ a = omega arith in
    let next : a + 1 + k ≡ a + suc k = omega arith in
    ap (λ (b : Bool). cond b (Some a) (find p (range_with_len (a + 1) n))) (ap p (sym start) ∙ before 0 (omega arith))
    ∙ find_first p (a + 1) n k (omega arith) (λ m low. ap p (let e : a + 1 + m ≡ a + suc m = omega arith in e) ∙ before (suc m) (omega arith)) (ap p next ∙ here)
    ∙ ap Some next

find_none : (p : ℕ → Bool) (a n : ℕ) → ((m : ℕ) → m < n → p (a + m) ≡ false) → find p (range_with_len a n) ≡ None
find_none p a zero none = refl
find_none p a (suc n) none =
    let start : a + 0 ≡ a = omega arith in
    ap (λ (b : Bool). cond b (Some a) (find p (range_with_len (a + 1) n))) (ap p (sym start) ∙ none 0 (omega arith))
    ∙ find_none p (a + 1) n (λ m low. ap p (let e : a + 1 + m ≡ a + suc m = omega arith in e) ∙ none (suc m) (omega arith))

-- nothing is found in front of a list
head_passes : (p : ℕ → Bool) (x : ℕ) (xs : List ℕ) → find p (x ∷ xs) ≡ None → (p x ≡ false) × (find p xs ≡ None)
head_passes p x xs e = go (p x) refl e
  where
    go : (b : Bool) → p x ≡ b → cond b (Some x) (find p xs) ≡ None → (p x ≡ false) × (find p xs ≡ None)
    go true is f = absurd (let g : Some x ≡ None = f in cc)
    go false is f = (is, f)

none_found : (p : ℕ → Bool) (a n m : ℕ) → find p (range_with_len a n) ≡ None → m < n → p (a + m) ≡ false
none_found p a zero m e lt = absurd (omega arith)
none_found p a (suc n) zero e lt =
    let same : a + 0 ≡ a = omega arith in
    ap p same ∙ (head_passes p a (range_with_len (a + 1) n) e).0
none_found p a (suc n) (suc m) e lt =
    let next : a + suc m ≡ a + 1 + m = omega arith in
    ap p next ∙ none_found p (a + 1) n m (head_passes p a (range_with_len (a + 1) n) e).1 (omega arith)

-- a page that is found, and one that isn't
there : (o : Option ℕ) → is_none o ≡ false → o ≡ Some (page_found o)
there None e = absurd (let f : true ≡ false = e in cc)
there (Some g) e = refl

-- the first page that can't be written
module _ (F : List Slot) (x : Item) (dir : ℕ) where
  pub shut_first : written_in F dir ≡ None → first_shut F x dir ≡ Some dir
  shut_first e =
      ap (λ (o : Option ℕ). cond (is_none o) (Some dir) (find (λ u. is_none (written_in F u)) (range_with_len x.table (table_pages x.pages)))) e

  past_first : (g : ℕ) → written_in F dir ≡ Some g → first_shut F x dir ≡ find (λ u. is_none (written_in F u)) (range_with_len x.table (table_pages x.pages))
  past_first g e =
      ap (λ (o : Option ℕ). cond (is_none o) (Some dir) (find (λ u. is_none (written_in F u)) (range_with_len x.table (table_pages x.pages)))) e

  pub shut_at : (g k : ℕ) (h : ℕ → ℕ) → written_in F dir ≡ Some g → k < table_pages x.pages → ((m : ℕ) → m < k → written_in F (x.table + m) ≡ Some (h m)) → written_in F (x.table + k) ≡ None → first_shut F x dir ≡ Some (x.table + k)
  shut_at g k h e lt before here =
      past_first g e
      ∙ find_first (λ u. is_none (written_in F u)) x.table (table_pages x.pages) k lt (λ m low. ap is_none (before m low)) (ap is_none here)

  pub shut_nowhere : (g : ℕ) (h : ℕ → ℕ) → written_in F dir ≡ Some g → ((m : ℕ) → m < table_pages x.pages → written_in F (x.table + m) ≡ Some (h m)) → first_shut F x dir ≡ None
  shut_nowhere g h e all =
      past_first g e ∙ find_none (λ u. is_none (written_in F u)) x.table (table_pages x.pages) (λ m low. ap is_none (all m low))

  pub all_written : first_shut F x dir ≡ None → (written_in F dir ≡ Some (page_found (written_in F dir))) × ((k : ℕ) → k < table_pages x.pages → written_in F (x.table + k) ≡ Some (page_found (written_in F (x.table + k))))
  all_written e =
      let h = head_passes (λ u. is_none (written_in F u)) dir (range_with_len x.table (table_pages x.pages)) e in (
        there (written_in F dir) h.0,
        λ k low. there (written_in F (x.table + k)) (none_found (λ u. is_none (written_in F u)) x.table (table_pages x.pages) k h.1 low),
      )

-- the first reason, by the five tests
pub reason : (version apart outside : Bool) (shut : Option ℕ) (taken : Bool) → Option UpgradeEnd
reason version apart outside shut taken =
    cond version (Some end.Version)
    (cond (not apart) (Some end.Apart)
    (cond outside (Some end.Outside) (option_or (option_map (λ u. end.Shut u) shut) (cond taken (Some end.Overlap) None))))

pub record Passed (v a o : Bool) (h : Option ℕ) (t : Bool) : Type 0 where
  pub version : v ≡ false
  pub apart : a ≡ true
  pub outside : o ≡ false
  pub shut : h ≡ None
  pub taken : t ≡ false

passed : (v a o : Bool) (shut : Option ℕ) (t : Bool) → reason v a o shut t ≡ None → Passed v a o shut t
unfolding reason
passed true a o shut t e = absurd (let f : Some end.Version ≡ None = e in cc)
passed false false o shut t e = absurd (let f : Some end.Apart ≡ None = e in cc)
passed false true true shut t e = absurd (let f : Some end.Outside ≡ None = e in cc)
passed false true false (Some u) t e = absurd (let f : Some (end.Shut u) ≡ None = e in cc)
passed false true false None true e = absurd (let f : Some end.Overlap ≡ None = e in cc)
passed false true false None false e = record { version = refl; apart = refl; outside = refl; shut = refl; taken = refl }

tests : (v w a b o q : Bool) (h k : Option ℕ) (t u : Bool) → v ≡ w → a ≡ b → o ≡ q → h ≡ k → t ≡ u → reason v a o h t ≡ reason w b q k u
tests v w a b o q h k t u e f g m n = λ i. reason (e i) (f i) (g i) (m i) (n i)

-- for the last machine x
module _ (S : List ℕ) (items : List Item) (x : Item) (dir : ℕ) (last : last_item items ≡ Some x) where
  outside : Bool
  outside = leaves_parent (length (parent_map S items)) x dir

  shut : Option ℕ
  shut = first_shut (parent_map S items) x dir

  taken : Bool
  taken = stands_on S items (written_in (parent_map S items) dir)

  by_tests : upgrade_refusal S items dir ≡ reason (x.version == 2) (is_apart S items) outside shut taken
  unfolding reason outside shut taken
  by_tests = ap (option_and_then (λ (y : Item). upgrade_refusal_in S items (parent_map S items) y dir)) last

  pub refused_version : x.version ≡ 2 → upgrade_refusal S items dir ≡ Some end.Version
  unfolding reason
  refused_version v = by_tests ∙ tests _ true _ _ _ _ _ _ _ _ (eq-eqb x.version 2 v) refl refl refl refl

  pub refused_apart : x.version ≢ 2 → is_apart S items ≡ false → upgrade_refusal S items dir ≡ Some end.Apart
  unfolding reason
  refused_apart v a = by_tests ∙ tests _ false _ false _ _ _ _ _ _ (ne_eqb x.version 2 v) a refl refl refl

  pub refused_outside : x.version ≢ 2 → is_apart S items ≡ true → leaves_parent (length (parent_map S items)) x dir ≡ true → upgrade_refusal S items dir ≡ Some end.Outside
  unfolding reason outside
  refused_outside v a o = by_tests ∙ tests _ false _ true _ true _ _ _ _ (ne_eqb x.version 2 v) a o refl refl

  pub refused_shut : (u : ℕ) → x.version ≢ 2 → is_apart S items ≡ true → leaves_parent (length (parent_map S items)) x dir ≡ false → first_shut (parent_map S items) x dir ≡ Some u → upgrade_refusal S items dir ≡ Some (end.Shut u)
  unfolding reason outside shut
  refused_shut u v a o h = by_tests ∙ tests _ false _ true _ false _ (Some u) _ _ (ne_eqb x.version 2 v) a o h refl

  pub refused_overlap : x.version ≢ 2 → is_apart S items ≡ true → leaves_parent (length (parent_map S items)) x dir ≡ false → first_shut (parent_map S items) x dir ≡ None → stands_on S items (written_in (parent_map S items) dir) ≡ true → upgrade_refusal S items dir ≡ Some end.Overlap
  unfolding reason outside shut taken
  refused_overlap v a o h t = by_tests ∙ tests _ false _ true _ false _ None _ true (ne_eqb x.version 2 v) a o h t

  pub not_refused : x.version ≢ 2 → is_apart S items ≡ true → leaves_parent (length (parent_map S items)) x dir ≡ false → first_shut (parent_map S items) x dir ≡ None → stands_on S items (written_in (parent_map S items) dir) ≡ false → upgrade_refusal S items dir ≡ None
  unfolding reason outside shut taken
  not_refused v a o h t = by_tests ∙ tests _ false _ true _ false _ None _ false (ne_eqb x.version 2 v) a o h t

  pub all_passed : upgrade_refusal S items dir ≡ None → Passed (x.version == 2) (is_apart S items) (leaves_parent (length (parent_map S items)) x dir) (first_shut (parent_map S items) x dir) (stands_on S items (written_in (parent_map S items) dir))
  unfolding outside shut taken
  all_passed e = passed (x.version == 2) (is_apart S items) outside shut taken (sym by_tests ∙ e)

-- what holds where nothing is refused, for the last machine x, whose parent has the map F
pub record IsUpgradable (S : List ℕ) (items : List Item) (F : List Slot) (x : Item) (dir : ℕ) : Type 0 where
  pub version : x.version ≢ 2
  pub apart : is_apart S items ≡ true
  pub directory : dir < length F
  pub tables : x.table + table_pages x.pages ≤ length F
  pub written : written_in F dir ≡ Some (page_found (written_in F dir))
  pub tables_written : (k : ℕ) → k < table_pages x.pages → written_in F (x.table + k) ≡ Some (page_found (written_in F (x.table + k)))
  pub free : has (page_found (written_in F dir)) (standing_on S items) ≡ false

pub upgradable : (S : List ℕ) (items : List Item) (x : Item) (dir : ℕ) → last_item items ≡ Some x → upgrade_refusal S items dir ≡ None → IsUpgradable S items (parent_map S items) x dir
upgradable S items x dir last e =
    let F = parent_map S items in
    let p = all_passed S items x dir last e in
    let o = or_parts (nat_le (length F) dir) (nat_lt (length F) (x.table + table_pages x.pages)) p.outside in
    let w = all_written F x dir p.shut in
    record {
      version = eqb-false x.version 2 p.version;
      apart = p.apart;
      directory = leb-false (length F) dir o.0;
      tables = ltb-false (length F) (x.table + table_pages x.pages) o.1;
      written = w.0;
      tables_written = w.1;
      free = ap (stands_on S items) (sym w.0) ∙ p.taken;
    }

-- how an answer tells a reason, and what an answer tells
pub refuses : {A : Type 0} (o : Option UpgradeEnd) (why : UpgradeEnd) (r : Result A UpgradeEnd) → o ≡ Some why → r ≡ Err why → MatchOption o (IsOk r) (λ e. r ≡ Err e)
refuses o why r e is = subst (λ (p : Option UpgradeEnd). MatchOption p (IsOk r) (λ e. r ≡ Err e)) (sym e) is

pub accepts : {A : Type 0} (o : Option UpgradeEnd) (r : Result A UpgradeEnd) → o ≡ None → IsOk r → MatchOption o (IsOk r) (λ e. r ≡ Err e)
accepts o r e is = subst (λ (p : Option UpgradeEnd). MatchOption p (IsOk r) (λ e. r ≡ Err e)) (sym e) is

pub accepted : {A : Type 0} (o : Option UpgradeEnd) (r : Result A UpgradeEnd) (x : A) → r ≡ Ok x → MatchOption o (IsOk r) (λ e. r ≡ Err e) → o ≡ None
accepted None r x is h = refl
accepted (Some why) r x is h = absurd (let f : Ok x ≡ Err why = sym is ∙ h in cc)

pub shut_told : {A : Type 0} (o : Option ℕ) (r : Result A UpgradeEnd) (why : UpgradeEnd) → r ≡ Err why → MatchOption o (IsOk r) (λ u. r ≡ Err (end.Shut u)) → (u : ℕ) × (o ≡ Some u) × (why ≡ end.Shut u)
shut_told None r why is h = absurd (let f : IsOk r = h in cc)
shut_told (Some u) r why is h = (u, refl, let f : Err why ≡ Err (end.Shut u) = sym is ∙ h in cc)

pub none_shut : {A : Type 0} (o : Option ℕ) (r : Result A UpgradeEnd) (x : A) → r ≡ Ok x → MatchOption o (IsOk r) (λ u. r ≡ Err (end.Shut u)) → o ≡ None
none_shut None r x is h = refl
none_shut (Some u) r x is h = absurd (let f : Ok x ≡ Err (end.Shut u) = sym is ∙ h in cc)

pub tells_shut : {A : Type 0} (o : Option ℕ) (r : Result A UpgradeEnd) (u : ℕ) → o ≡ Some u → r ≡ Err (end.Shut u) → MatchOption o (IsOk r) (λ u. r ≡ Err (end.Shut u))
tells_shut o r u e is = subst (λ (p : Option ℕ). MatchOption p (IsOk r) (λ u. r ≡ Err (end.Shut u))) (sym e) is

pub tells_none : {A : Type 0} (o : Option ℕ) (r : Result A UpgradeEnd) → o ≡ None → IsOk r → MatchOption o (IsOk r) (λ u. r ≡ Err (end.Shut u))
tells_none o r e is = subst (λ (p : Option ℕ). MatchOption p (IsOk r) (λ u. r ≡ Err (end.Shut u))) (sym e) is
