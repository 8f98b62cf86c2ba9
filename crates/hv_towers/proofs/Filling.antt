-- The lines of a tower's top: what they write, and that the same is written to the bare machine without the tower.
use Rattle.std.proofs.Common.{◌≡◌, ℕ, suc, ◌+◌, ◌*◌, ◌/◌, ◌<◌, ◌≤◌, inl, ⊎_elim, true, false, cond, eqb, List, [], ◌∷◌, ◌++◌, length, map, replicate, set, codes, Some, Result, Ok, refl, ap, ◌∙◌, sym, subst, arith, get_or, append_assoc, append-nil, get_or-set_same, get_or-set_other, length-set}
use Rattle.std.specs.Prelude.{nat_lt}
use Rattle.std.specs.List.{All}
use Rattle.std.proofs.Math.Seq.{sets, length-sets}
use Rattle.std.proofs.lemmas.Bool.Decides.{eqb_tells}
use Rattle.std.proofs.lemmas.List.{map-append}
use Rattle.std.proofs.lemmas.List.Sums.{sum_by-cons}
use Rattle.hv_limits.specs.Limits.{pages_limit}
use Rattle.hv_word.specs.Storage.{page_count}
use Rattle.hv_block.proofs.Words.{sets_outside}
use Rattle.hv_map.specs.Chain.{map_of}
use Rattle.hv_map.specs.declared.path.Watch.{Watch}
use Rattle.hv_job.specs.Limited.{amount_of, share_of}
use Rattle.hv_line.specs.declared.types.Directive.{Directive}
use Rattle.hv_line.specs.declared.types.Directive.TheVariants as directive
use Rattle.hv_job.specs.declared.job.Placed.{Placed}
use Rattle.hv_job.specs.declared.limited.Limited.TheVariants as limited
use Rattle.hv_load.specs.declared.ends.BuildKind.{BuildKind}
use Rattle.hv_load.specs.declared.ends.BuildKind.TheVariants as kind
use Rattle.hv_load.specs.Building.{Building, Known, known}
use Rattle.hv_load.specs.Build.{built_from, done_of, watch_asked}
use Rattle.hv_load.specs.Directives.{is_shared, watch_in, watch_of}
use Rattle.hv_towers.specs.Laid.{from_base}
use Rattle.hv_towers.specs.Towers.{IsTop, IsTopLine}
use Rattle.hv_towers.proofs.Lines.{Wrote, image_is, words_is}
use Rattle.hv_towers.proofs.Passing.{same_ok, chosen, passed, line_bound, then_bound}
use Rattle.hv_towers.proofs.Storeys.{end_base, end_size, map_of_is}
use Rattle.hv_towers.proofs.Raising.{storeys_same}
use Rattle.hv_towers.proofs.Rising.{Stands}
use Rattle.hv_lex.specs.Refusing.{◌>>=◌, at_line}

-- the storage after a line, where the top's pages begin at page `base`, and the watch that it asks for
abbrev pub put : ℕ → List ℕ → Directive → List ℕ
put base S (directive.Image name image) = sets S (1024 * base + image.base / 4) image.words
put base S (directive.Word name at values) = sets S (1024 * base + at / 4) values
put base S _ = S

abbrev pub watched : ℕ → Directive → List Watch
watched depth (directive.Watch hart name) = record { hart = 0; path = replicate depth 1 } ∷ []
watched depth _ = []

abbrev pub put_lines : ℕ → List ℕ → List Placed → List ℕ
put_lines base S [] = S
put_lines base S (p ∷ ps) = put_lines base (put base S p.what) ps

abbrev pub watched_lines : ℕ → List Placed → List Watch
watched_lines depth [] = []
watched_lines depth (p ∷ ps) = watched depth p.what ++ watched_lines depth ps

pub record Did (P : ℕ) (ns : List ℕ) (b n : Building) (S : List ℕ) (asked : List Watch) : Type 0 where
  pub stands : Stands P ns n
  pub storage : n.storage ≡ S
  pub watches : map watch_asked n.watches ≡ map watch_asked b.watches ++ asked

abbrev same_as : Building → Result Building BuildKind
same_as b = Ok b

module _ (P : ℕ) (ns : List ℕ) (few : P ≤ pages_limit) (b n : Building) (s : Stands P ns b) where
  top_map : map_of b.storage s.top.path ≡ Some (from_base (end_base 0 ns) (end_size P ns))
  top_map =
      let pages : page_count b.storage ≡ P = omega (arith, s.size) in
      ap (map_of b.storage) s.path ∙ map_of_is b.storage P ns pages few s.storeys

  known_as_top : (name : List ℕ) → name ≡ codes "top" → known name b.names ≡ Ok s.top
  known_as_top name e = ap (λ (l : List ℕ). known l b.names) e ∙ s.is_known

  wrote : (at : ℕ) (values : List ℕ) → Wrote b n (1024 * end_base 0 ns + at) values → Did P ns b n (sets b.storage (1024 * end_base 0 ns + at) values) []
  wrote at values w = record {
    stands = record {
      size = ap length w.storage ∙ length-sets b.storage (1024 * end_base 0 ns + at) values ∙ s.size;
      top = s.top;
      is_known = ap (known (codes "top")) w.names ∙ s.is_known;
      path = s.path;
      storeys = storeys_same b.storage n.storage 0 P ns (λ q h. ap (λ (S : List ℕ). get_or S q 0) w.storage ∙ sets_outside values b.storage (1024 * end_base 0 ns + at) q (inl (omega (arith, h)))) s.storeys;
      harts = w.harts ∙ s.harts;
    };
    storage = w.storage;
    watches = ap (map watch_asked) w.watches ∙ sym (append-nil (map watch_asked b.watches));
  }

  nothing : same_as b ≡ Ok n → Did P ns b n b.storage []
  nothing is =
      subst (λ (n : Building). Did P ns b n b.storage []) (same_ok b n (same_as b) refl is)
      record { stands = s; storage = refl; watches = sym (append-nil (map watch_asked b.watches)) }

  watch : (line hart : ℕ) (name : List ℕ) → hart ≡ 0 → name ≡ codes "top" → watch_of b line hart name ≡ Ok n → Did P ns b n b.storage (record { hart = 0; path = replicate (length ns) 1 } ∷ [])
  watch line hart name first e is =
      let there = chosen (nat_lt hart (length b.harts)) (known name b.names >>= watch_in b line hart) kind.Hart n is in
      let inner : watch_in b line hart s.top ≡ Ok n = sym (ap (λ (r : Result Known BuildKind). r >>= watch_in b line hart) (known_as_top name e)) ∙ there.1 in
      let can = passed (is_shared s.top.path (length b.harts)) _ kind.Watch n inner in
      subst (λ (n : Building). Did P ns b n b.storage (record { hart = 0; path = replicate (length ns) 1 } ∷ []))
      (same_ok _ n _ refl can.1)
      record {
        stands = record { size = s.size; top = s.top; is_known = s.is_known; path = s.path; storeys = s.storeys; harts = s.harts };
        storage = refl;
        watches = map-append watch_asked b.watches _ ∙ (λ i. map watch_asked b.watches ++ record { hart = first i; path = s.path i } ∷ []);
      }

  pub done : (line : ℕ) (what : Directive) → IsTop what → done_of b line what ≡ Ok n → Did P ns b n (put (end_base 0 ns) b.storage what) (watched (length ns) what)
  done line (directive.Image name image) h is = wrote (image.base / 4) image.words (image_is b n name s.top (end_base 0 ns) (end_size P ns) (known_as_top name h) top_map image is)
  done line (directive.Word name at values) h is = wrote (at / 4) values (words_is b n name s.top (end_base 0 ns) (end_size P ns) (known_as_top name h) top_map at values is)
  done line (directive.Turn hart) h is = nothing ((chosen (nat_lt hart (length b.harts)) (same_as b) kind.Hart n is).1)
  done line (directive.Watch hart name) h is = watch line hart name h.0 h.1 is
  done line (directive.Hart hart pc) h is = absurd h
  done line (directive.Machine name parent block pages table at) h is = absurd h
  done line (directive.Map name page entry) h is = absurd h
  done line (directive.Start name pc) h is = absurd h
  done line (directive.Upgrade name dir) h is = absurd h
  done line (directive.Sample name image) h is = absurd h
  done line (directive.Tower depth pages which) h is = absurd h
  done line (directive.Lines hart) h is = absurd h
  done line (directive.Dump name page) h is = absurd h

-- all lines
pub lines_done : (P : ℕ) (ns : List ℕ) → P ≤ pages_limit → (lines : List Placed) (b n : Building) → All IsTopLine lines → Stands P ns b → built_from b lines ≡ Ok n → Did P ns b n (put_lines (end_base 0 ns) b.storage lines) (watched_lines (length ns) lines)
unfolding built_from
lines_done P ns few [] b n all s is =
    subst (λ (n : Building). Did P ns b n b.storage []) (same_ok b n (built_from b []) refl is)
    record { stands = s; storage = refl; watches = sym (append-nil (map watch_asked b.watches)) }
lines_done P ns few (p ∷ lines) b n all s is =
    let first = then_bound (at_line p.line (done_of b p.line p.what)) (λ next. built_from next lines) n is in
    let one : Did P ns b first.0 (put (end_base 0 ns) b.storage p.what) (watched (length ns) p.what) = done P ns few b first.0 s p.line p.what (all 0 p (omega arith)) (line_bound p.line (done_of b p.line p.what) first.0 first.1) in
    let rest : Did P ns first.0 n (put_lines (end_base 0 ns) first.0.storage lines) (watched_lines (length ns) lines) = lines_done P ns few lines first.0 n (λ k d lt. all (suc k) d (omega arith)) one.stands first.2 in
    record {
      stands = rest.stands;
      storage = rest.storage ∙ ap (λ (S : List ℕ). put_lines (end_base 0 ns) S lines) one.storage;
      watches =
          rest.watches
          ∙ ap (λ (ws : List Watch). ws ++ watched_lines (length ns) lines) one.watches
          ∙ append_assoc (map watch_asked b.watches) (watched (length ns) p.what) (watched_lines (length ns) lines);
    }

-- T is what stands in S from page `base` on.
pub record Matches (N base : ℕ) (S T : List ℕ) : Type 0 where
  pub room : 1024 * (base + N) ≤ length S
  pub size : length T ≡ 1024 * N
  pub same : (q : ℕ) → q < 1024 * N → get_or S (1024 * base + q) 0 ≡ get_or T q 0

match_set : (N base x y a v : ℕ) (S T : List ℕ) → x ≡ 1024 * base + a → y ≡ a → Matches N base S T → Matches N base (set S x v) (set T y v)
match_set N base x y a v S T e f h = record {
  room = omega (arith, h.room, length-set S x v);
  size = length-set T y v ∙ h.size;
  same = λ q lt. ⊎_elim
      (λ (s : (eqb a q ≡ true) × (a ≡ q)).
      let room : 1024 * (base + N) ≤ length S = h.room in
      let size : length T ≡ 1024 * N = h.size in
      let at : a ≡ q = s.1 in
      let here : 1024 * base + q ≡ x = omega (arith, e, at) in
      let there : q ≡ y = omega (arith, f, at) in
      ap (λ (k : ℕ). get_or (set S x v) k 0) here
      ∙ get_or-set_same S x v 0 (omega (arith, room, e, at, lt))
      ∙ sym (ap (λ (k : ℕ). get_or (set T y v) k 0) there ∙ get_or-set_same T y v 0 (omega (arith, size, f, at, lt))))
      (λ (d : (eqb a q ≡ false) × (a ≡ q → ⊥)).
      get_or-set_other S x (1024 * base + q) v 0 (λ k. d.1 (omega (arith, e, k)))
      ∙ h.same q lt
      ∙ sym (get_or-set_other T y q v 0 (λ k. d.1 (omega (arith, f, k)))))
      (eqb_tells a q);
}

match_sets : (N base x y a : ℕ) (vs S T : List ℕ) → x ≡ 1024 * base + a → y ≡ a → Matches N base S T → Matches N base (sets S x vs) (sets T y vs)
match_sets N base x y a [] S T e f h = h
match_sets N base x y a (v ∷ vs) S T e f h =
    match_sets N base (suc x) (suc y) (suc a) vs (set S x v) (set T y v) (omega (arith, e)) (omega (arith, f)) (match_set N base x y a v S T e f h)

match_put : (N base : ℕ) (S T : List ℕ) (what : Directive) → Matches N base S T → Matches N base (put base S what) (put 0 T what)
match_put N base S T (directive.Image name image) h = match_sets N base (1024 * base + image.base / 4) (1024 * 0 + image.base / 4) (image.base / 4) image.words S T refl (omega arith) h
match_put N base S T (directive.Word name at values) h = match_sets N base (1024 * base + at / 4) (1024 * 0 + at / 4) (at / 4) values S T refl (omega arith) h
match_put N base S T (directive.Turn hart) h = h
match_put N base S T (directive.Watch hart name) h = h
match_put N base S T (directive.Hart hart pc) h = h
match_put N base S T (directive.Machine name parent block pages table at) h = h
match_put N base S T (directive.Map name page entry) h = h
match_put N base S T (directive.Start name pc) h = h
match_put N base S T (directive.Upgrade name dir) h = h
match_put N base S T (directive.Sample name image) h = h
match_put N base S T (directive.Tower depth pages which) h = h
match_put N base S T (directive.Lines hart) h = h
match_put N base S T (directive.Dump name page) h = h

pub match_lines : (N base : ℕ) (lines : List Placed) (S T : List ℕ) → Matches N base S T → Matches N base (put_lines base S lines) (put_lines 0 T lines)
match_lines N base [] S T h = h
match_lines N base (p ∷ lines) S T h = match_lines N base lines (put base S p.what) (put 0 T p.what) (match_put N base S T p.what h)

-- the watches are as many as ask for one
no_watch : (depth c : ℕ) → replicate c (let w : Watch = record { hart = 0; path = replicate depth 1 } in w) ≡ replicate (0 + c) (let w : Watch = record { hart = 0; path = replicate depth 1 } in w)
no_watch depth c = let e : c ≡ 0 + c = omega arith in ap (λ (k : ℕ). let ws : List Watch = replicate k record { hart = 0; path = replicate depth 1 } in ws) e

one_watch : (depth c : ℕ) (what : Directive) → watched depth what ++ replicate c record { hart = 0; path = replicate depth 1 } ≡ replicate (share_of limited.Watches what + c) record { hart = 0; path = replicate depth 1 }
one_watch depth c (directive.Watch hart name) = let e : suc c ≡ 1 + c = omega arith in ap (λ (k : ℕ). let ws : List Watch = replicate k record { hart = 0; path = replicate depth 1 } in ws) e
one_watch depth c (directive.Image name image) = no_watch depth c
one_watch depth c (directive.Word name at values) = no_watch depth c
one_watch depth c (directive.Turn hart) = no_watch depth c
one_watch depth c (directive.Hart hart pc) = no_watch depth c
one_watch depth c (directive.Machine name parent block pages table at) = no_watch depth c
one_watch depth c (directive.Map name page entry) = no_watch depth c
one_watch depth c (directive.Start name pc) = no_watch depth c
one_watch depth c (directive.Upgrade name dir) = no_watch depth c
one_watch depth c (directive.Sample name image) = no_watch depth c
one_watch depth c (directive.Tower depth_of pages which) = no_watch depth c
one_watch depth c (directive.Lines hart) = no_watch depth c
one_watch depth c (directive.Dump name page) = no_watch depth c

pub watches_are : (depth : ℕ) (lines : List Placed) → watched_lines depth lines ≡ replicate (amount_of limited.Watches lines) record { hart = 0; path = replicate depth 1 }
watches_are depth [] = refl
watches_are depth (p ∷ lines) =
    ap (λ (ws : List Watch). watched depth p.what ++ ws) (watches_are depth lines)
    ∙ one_watch depth (amount_of limited.Watches lines) p.what
    ∙ ap (λ (k : ℕ). let ws : List Watch = replicate k record { hart = 0; path = replicate depth 1 } in ws) (sym (sum_by-cons (λ (placed : Placed). share_of limited.Watches placed.what) p lines))
