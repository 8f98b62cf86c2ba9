-- What a machine, an image and words change, where the pages of the machine are bare pages in their order.
use Rattle.std.proofs.Common.{◌≡◌, ℕ, suc, ◌+◌, ◌*◌, ◌/◌, ◌%◌, ◌<◌, ◌≤◌, Bool, true, false, cond, List, [], ◌∷◌, ◌++◌, length, set, Option, Some, None, Result, Ok, Err, refl, ap, ◌∙◌, sym, subst, arith, add-one, slice_get}
use Rattle.std.specs.Prelude.{nat_lt, nat_le, is_some, ◌||◌}
use Rattle.std.specs.List.{range_with_len}
use Rattle.std.proofs.Math.Seq.{sets}
use Rattle.std.proofs.lemmas.Bool.{leb-false, ltb-false, true≢false}
use Rattle.hv_asm.specs.declared.Image.{Image}
use Rattle.hv_store.specs.declared.access.Slot.{Slot}
use Rattle.hv_map.specs.Apart.{table_pages}
use Rattle.hv_map.specs.Chain.{map_of}
use Rattle.hv_limits.specs.Limits.{depth_limit}
use Rattle.hv_load.specs.declared.ends.BuildKind.{BuildKind}
use Rattle.hv_load.specs.declared.ends.BuildKind.TheVariants as kind
use Rattle.hv_load.specs.Building.{Building, Known, known, named}
use Rattle.hv_line.specs.JobLimits.{job_machines}
use Rattle.hv_load.specs.Directives.{image_in, image_of, is_outside, machine_of, made_in, pages_along, with_made, words_in, words_of}
use Rattle.hv_load.specs.Making.{can_take, with_machine}
use Rattle.hv_load.specs.Pages.{each_from, free_at, free_page_of, if_free, opened, page_of, place_by, read_at, reads_in, with_values, writes_in, written_at}
use Rattle.hv_towers.specs.Laid.{from_base}
use Rattle.hv_towers.proofs.Bases.{base_at}
use Rattle.hv_towers.proofs.Passing.{same_ok, never_ok, bound, chosen, passed, each_is}
use Rattle.hv_lex.specs.Refusing.{◌>>=◌}

-- the bare page of a page
writes_is : (base n i g : ℕ) → writes_in (Some (from_base base n)) i ≡ Ok g → g ≡ base + i
writes_is base n i g is = by (slice_get (from_base base n) i) refl is
  where
    by : (o : Option Slot) → slice_get (from_base base n) i ≡ o → written_at o ≡ Ok g → g ≡ base + i
    by None e is = absurd (never_ok kind.Absent g is)
    by (Some s) e is = same_ok g (base + i) (opened s.write) is (ap (λ (r : Slot). opened r.write) (base_at base n i s e))

reads_is : (base n i g : ℕ) → reads_in (Some (from_base base n)) i ≡ Ok g → g ≡ base + i
reads_is base n i g is = by (slice_get (from_base base n) i) refl is
  where
    by : (o : Option Slot) → slice_get (from_base base n) i ≡ o → read_at o ≡ Ok g → g ≡ base + i
    by None e is = absurd (never_ok kind.Absent g is)
    by (Some s) e is = same_ok g (base + i) (opened s.read) is (ap (λ (r : Slot). opened r.read) (base_at base n i s e))

page_is : (S : List ℕ) (k : Known) (base n page g : ℕ) → map_of S k.path ≡ Some (from_base base n) → page_of S k page ≡ Ok g → g ≡ base + page
page_is S k base n page g is_map is =
    let c = chosen (nat_lt page k.pages) (reads_in (map_of S k.path) page) kind.Outside g is in
    reads_is base n page g (sym (ap (λ (F : Option (List Slot)). reads_in F page) is_map) ∙ c.1)

free_page_is : (b : Building) (k : Known) (base n page g : ℕ) → map_of b.storage k.path ≡ Some (from_base base n) → free_page_of b.storage b.marks k page ≡ Ok g → g ≡ base + page
free_page_is b k base n page g is_map is =
    let S : List ℕ = b.storage in
    let h = bound (page_of S k page) (if_free b.marks) g is in
    let c = chosen (free_at b.marks h.0) (Ok h.0) kind.Overlap g h.2 in
    same_ok g h.0 (let r : Result ℕ BuildKind = Ok h.0 in r) c.1 refl ∙ page_is S k base n page h.0 is_map h.1

-- the place of a word
place_is : (find : ℕ → Result ℕ BuildKind) (base q p : ℕ) → ((page g : ℕ) → find page ≡ Ok g → g ≡ base + page) → place_by find q ≡ Ok p → p ≡ 1024 * base + q
place_is find base q p page is =
    let h = bound (find (q / 1024)) (λ g. Ok (1024 * g + q % 1024)) p is in
    let at : h.0 ≡ base + q / 1024 = page (q / 1024) h.0 h.1 in
    same_ok p (1024 * h.0 + q % 1024) (let r : Result ℕ BuildKind = Ok (1024 * h.0 + q % 1024) in r) h.2 refl
    ∙ ap (λ (g : ℕ). 1024 * g + q % 1024) at
    ∙ sum (q / 1024) (q % 1024) (omega arith)
  where
    sum : (d r : ℕ) → 1024 * d + r ≡ q → 1024 * (base + d) + r ≡ 1024 * base + q
    sum d r e = omega (arith, e)

values_run : (S : List ℕ) (a : ℕ) (vs : List ℕ) → with_values S (range_with_len a (length vs)) vs ≡ sets S a vs
values_run S a [] = refl
values_run S a (v ∷ vs) = values_run (set S a v) (a + 1) vs ∙ ap (λ (k : ℕ). sets (set S a v) k vs) (add-one a)

-- words were written, and nothing else changed but the marks
pub record Wrote (b n : Building) (at : ℕ) (values : List ℕ) : Type 0 where
  pub storage : n.storage ≡ sets b.storage at values
  pub names : n.names ≡ b.names
  pub harts : n.harts ≡ b.harts
  pub watches : n.watches ≡ b.watches

stored : (S places : List ℕ) (at : ℕ) (values : List ℕ) → places ≡ range_with_len at (length values) → with_values S places values ≡ sets S at values
stored S places at values are = ap (λ (ps : List ℕ). with_values S ps values) are ∙ values_run S at values

module _ (b n : Building) (name : List ℕ) (k : Known) (base size : ℕ) (is_known : known name b.names ≡ Ok k) (is_map : map_of b.storage k.path ≡ Some (from_base base size)) where
  pub image_is : (image : Image) → image_of b name image ≡ Ok n → Wrote b n (1024 * base + image.base / 4) image.words
  image_is image is =
      let inner : image_in b k image ≡ Ok n = sym (ap (λ (r : Result Known BuildKind). r >>= λ k. image_in b k image) is_known) ∙ is in
      let find : ℕ → Result ℕ BuildKind = place_by (free_page_of b.storage b.marks k) in
      let places = bound (each_from find (image.base / 4) (length image.words)) _ n inner in
      let are : places.0 ≡ range_with_len (1024 * base + image.base / 4) (length image.words) = each_is find (1024 * base) (image.base / 4) (length image.words) places.0 (λ q p. place_is (free_page_of b.storage b.marks k) base q p (λ page g. free_page_is b k base size page g is_map)) places.1 in
      subst (λ (n : Building). Wrote b n (1024 * base + image.base / 4) image.words)
      (same_ok _ n _ refl places.2)
      record {
        storage = stored b.storage places.0 (1024 * base + image.base / 4) image.words are;
        names = refl;
        harts = refl;
        watches = refl;
      }

  pub words_is : (at : ℕ) (values : List ℕ) → words_of b name at values ≡ Ok n → Wrote b n (1024 * base + at / 4) values
  words_is at values is =
      let inner : words_in b k at values ≡ Ok n = sym (ap (λ (r : Result Known BuildKind). r >>= λ k. words_in b k at values) is_known) ∙ is in
      let after : List ℕ → Building = λ places. record b { storage = with_values b.storage places values } in
      let find : ℕ → Result ℕ BuildKind = place_by (page_of b.storage k) in
      let places = bound (each_from find (at / 4) (length values)) (λ places. Ok (after places)) n inner in
      subst (λ (n : Building). Wrote b n (1024 * base + at / 4) values)
      (same_ok (after places.0) n (let r : Result Building BuildKind = Ok (after places.0) in r) refl places.2)
      record {
        storage =
            stored b.storage places.0 (1024 * base + at / 4) values
            (each_is find (1024 * base) (at / 4) (length values) places.0 (λ q p. place_is (page_of b.storage k) base q p (λ page g. page_is b.storage k base size page g is_map)) places.1);
        names = refl;
        harts = refl;
        watches = refl;
      }

-- a machine was made, with its block on page 1 of its parent and its table from page 2 on
pub record Made (b n : Building) (name : List ℕ) (k : Known) (m base at : ℕ) : Type 0 where
  pub storage : n.storage ≡ with_machine b.storage m 2 at (range_with_len (base + 1) (suc (table_pages m)))
  pub names : n.names ≡ b.names ++ record { name = name; path = k.path ++ 1 ∷ []; pages = m } ∷ []
  pub harts : n.harts ≡ b.harts
  pub watches : n.watches ≡ b.watches
  pub new : named name b.names ≡ None
  pub deep : length k.path < depth_limit
  pub inside : at + m ≤ k.pages

none_of : (o : Option Known) → is_some o ≡ false → o ≡ None
none_of None is = refl
none_of (Some k) is = absurd (true≢false is)

fits_in : (a b c : Bool) (at m limit : ℕ) → (c ≡ false → at + m ≤ limit) → ((a || b) || c) ≡ false → at + m ≤ limit
fits_in false false c at m limit f is = f is
fits_in false true c at m limit f is = absurd (true≢false is)
fits_in true b c at m limit f is = absurd (true≢false is)

module _ (b n : Building) (name parent : List ℕ) (m at : ℕ) (k : Known) (base size : ℕ) (is_known : known parent b.names ≡ Ok k) (is_map : map_of b.storage k.path ≡ Some (from_base base size)) where
  taken_is : (taken : List ℕ) → pages_along (Some (from_base base size)) 1 m 2 ≡ Ok taken → taken ≡ range_with_len (base + 1) (suc (table_pages m))
  taken_is taken is =
      let here = bound (writes_in (Some (from_base base size)) 1) (λ g. each_from (writes_in (Some (from_base base size))) 2 (table_pages m) >>= λ gs. Ok (g ∷ gs)) taken is in
      let rest = bound (each_from (writes_in (Some (from_base base size))) 2 (table_pages m)) (λ gs. Ok (here.0 ∷ gs)) taken here.2 in
      let next : base + 2 ≡ base + 1 + 1 = omega arith in
      same_ok taken (here.0 ∷ rest.0) (let r : Result (List ℕ) BuildKind = Ok (here.0 ∷ rest.0) in r) rest.2 refl
      ∙ ap (λ (g : ℕ). g ∷ rest.0) (writes_is base size 1 here.0 here.1)
      ∙ ap (λ (gs : List ℕ). (base + 1) ∷ gs) (each_is (writes_in (Some (from_base base size))) base 2 (table_pages m) rest.0 (λ i g. writes_is base size i g) rest.1)
      ∙ ap (λ (x : ℕ). (base + 1) ∷ range_with_len x (table_pages m)) next

  pub machine_is : machine_of b name parent 1 m 2 at ≡ Ok n → Made b n name k m base at
  machine_is is =
      let done : List ℕ → Result Building BuildKind = λ taken. cond (can_take b.marks taken) (Ok (with_made b name k 1 m 2 at taken)) (Err kind.Overlap) in
      let placed : Result Building BuildKind = pages_along (map_of b.storage k.path) 1 m 2 >>= done in
      let outside : Result Building BuildKind = cond (is_outside k.pages 1 m 2 at) (Err kind.Outside) placed in
      let again : Result Building BuildKind = cond (is_some (named name b.names)) (Err kind.Repeat) outside in
      let many = passed (nat_le job_machines b.machines) (known parent b.names >>= λ k. made_in b name k 1 m 2 at) kind.Many n is in
      let here : made_in b name k 1 m 2 at ≡ Ok n = sym (ap (λ (r : Result Known BuildKind). r >>= λ k. made_in b name k 1 m 2 at) is_known) ∙ many.1 in
      let deep = passed (nat_le depth_limit (length k.path)) again kind.Depth n here in
      let new = passed (is_some (named name b.names)) outside kind.Repeat n deep.1 in
      let inner = passed (is_outside k.pages 1 m 2 at) placed kind.Outside n new.1 in
      let took = bound (pages_along (map_of b.storage k.path) 1 m 2) done n inner.1 in
      let can = chosen (can_take b.marks took.0) (Ok (with_made b name k 1 m 2 at took.0)) kind.Overlap n took.2 in
      let taken : took.0 ≡ range_with_len (base + 1) (suc (table_pages m)) = taken_is took.0 (sym (ap (λ (F : Option (List Slot)). pages_along F 1 m 2) is_map) ∙ took.1) in
      subst (λ (n : Building). Made b n name k m base at)
      (same_ok (with_made b name k 1 m 2 at took.0) n (let r : Result Building BuildKind = Ok (with_made b name k 1 m 2 at took.0) in r) refl can.1)
      record {
        storage = ap (with_machine b.storage m 2 at) taken;
        names = refl;
        harts = refl;
        watches = refl;
        new = none_of (named name b.names) new.0;
        deep = leb-false depth_limit (length k.path) deep.0;
        inside = fits_in (nat_le k.pages 1) (nat_lt k.pages (2 + table_pages m)) (nat_lt k.pages (at + m)) at m k.pages (λ e. ltb-false k.pages (at + m) e) inner.0;
      }
