-- The paths of nodes, one node after another, and what is known of them where the nodes are kept.
use Rattle.std.proofs.Common.{◌≡◌, ◌≢◌, ℕ, zero, suc, ◌<◌, ◌≤◌, Bool, true, false, cond, ◌&&◌, nat_eq, List, [], ◌∷◌, ◌++◌, length, Option, Some, None, slice_get, refl, sym, ap, ◌∙◌, subst, inl, inr, arith, count_by, is_some}
use Rattle.std.proofs.lemmas.Bool.{cases_eq, cases_lt, eqb-true, eq-eqb}
use Rattle.std.proofs.lemmas.List.{get_or_append_left, length_push}
use Rattle.std.proofs.lemmas.Option.{slice_get_within, slice_get-get_or, get_or_from_slice_get}
use Rattle.std.proofs.Math.Seq.{get_or-append_seam}
use Rattle.std.specs.Option.{option_eq}
use Rattle.hv_limits.specs.Limits.{depth_limit}
use Rattle.hv_vmid.specs.Paths.{ids_limit, IsNumber, path_at, parent_path, child_path, IsNew, IsNumbered}
use Rattle.hv_vmid.specs.Nodes.{same_node, node_at, with_node, paths_of, IsPlaced, AreNodesKept}
use Rattle.hv_vmid.specs.declared.ids.Node.{Node}

same_parent : (o p : Option ℕ) → option_eq nat_eq o p ≡ true → o ≡ p
same_parent None None e = refl
same_parent None (Some y) e = absurd (let f : false ≡ true = e in cc)
same_parent (Some x) None e = absurd (let f : false ≡ true = e in cc)
same_parent (Some x) (Some y) e = ap Some (eqb-true x y e)

own_parent : (o : Option ℕ) → option_eq nat_eq o o ≡ true
own_parent None = refl
own_parent (Some x) = eq-eqb x x refl

both : (a b : Bool) → (a && b) ≡ true → (a ≡ true) × (b ≡ true)
both true b e = (refl, e)
both false b e = absurd (let f : false ≡ true = e in cc)

both_hold : (a b : Bool) → a ≡ true → b ≡ true → (a && b) ≡ true
both_hold a b e f = rw (e, f) refl

abbrev node-of : Option ℕ → ℕ → Node
node-of parent syllable = record { parent = parent; syllable = syllable }

pub node-parts : (a b : Node) → a.parent ≡ b.parent → a.syllable ≡ b.syllable → a ≡ b
node-parts a b e f =
    ap (λ (o : Option ℕ). node-of o a.syllable) e ∙ ap (node-of b.parent) f

pub same_node-true : (a b : Node) → same_node a b ≡ true → a ≡ b
same_node-true a b e =
    let parts = both (option_eq nat_eq a.parent b.parent) (nat_eq a.syllable b.syllable) e in
    node-parts a b (same_parent a.parent b.parent parts.0) (eqb-true a.syllable b.syllable parts.1)

pub same_node-refl : (a : Node) → same_node a a ≡ true
same_node-refl a =
    both_hold (option_eq nat_eq a.parent a.parent) (nat_eq a.syllable a.syllable) (own_parent a.parent) (eq-eqb a.syllable a.syllable refl)

-- two lists with one element more are the same only where they were, and the element is
pub snoc-inj : (xs ys : List ℕ) (a b : ℕ) → xs ++ a ∷ [] ≡ ys ++ b ∷ [] → (xs ≡ ys) × (a ≡ b)
snoc-inj [] [] a b e = (refl, cc)
snoc-inj [] (y ∷ ys) a b e = absurd (omega (arith, ap length e, length_push ys b))
snoc-inj (x ∷ xs) [] a b e = absurd (omega (arith, ap length e, length_push xs a))
snoc-inj (x ∷ xs) (y ∷ ys) a b e =
    let rest : xs ++ a ∷ [] ≡ ys ++ b ∷ [] = cc in
    let same = snoc-inj xs ys a b rest in
    let lists = same.0 in
    (cc, same.1)

-- a number stays one where more are given
pub number-more : (m n : ℕ) (parent : Option ℕ) → IsNumber m parent → m ≤ n → IsNumber n parent
number-more m n None h le = tt
number-more m n (Some k) h le = omega (arith, h, le)

-- a path keeps its number where more are given
pub below-grows : (xs ys : List (List ℕ)) (parent : Option ℕ) → IsNumber (length xs) parent → parent_path (xs ++ ys) parent ≡ parent_path xs parent
below-grows xs ys None h = refl
below-grows xs ys (Some k) h = get_or_append_left xs ys [] k h

pub child-grows : (xs ys : List (List ℕ)) (parent : Option ℕ) (s : ℕ) → IsNumber (length xs) parent → child_path (xs ++ ys) parent s ≡ child_path xs parent s
child-grows xs ys parent s h = ap (λ (p : List ℕ). p ++ s ∷ []) (below-grows xs ys parent h)

-- no nodes have no paths
pub paths-none : (S : List (Option Node)) → paths_of S 0 ≡ []
unfolding paths_of
paths-none S = refl

pub paths-empty : (S : List (Option Node)) → S ≡ [] → paths_of S (count_by is_some S) ≡ []
paths-empty S e = ap (λ (T : List (Option Node)). paths_of T (count_by is_some T)) e ∙ paths-none []

-- the same nodes have the same paths
pub paths-same : (S T : List (Option Node)) (n : ℕ) → ((k : ℕ) → k < n → node_at T k ≡ node_at S k) → paths_of T n ≡ paths_of S n
unfolding paths_of
paths-same S T zero h = refl
paths-same S T (suc n) h =
    ap (λ (p : List (List ℕ)). with_node p (node_at T n)) (paths-same S T n (λ k l. h k (omega (arith, l))))
    ∙ ap (with_node (paths_of S n)) (h n (omega arith))

-- one node more has one path more
pub paths-step : (S : List (Option Node)) (n : ℕ) (node : Node) → node_at S n ≡ Some node → paths_of S (suc n) ≡ paths_of S n ++ child_path (paths_of S n) node.parent node.syllable ∷ []
unfolding paths_of
paths-step S n node e = ap (with_node (paths_of S n)) e

module _ (S : List (Option Node)) where
  pub paths-length : (n : ℕ) → ((k : ℕ) → k < n → IsPlaced S k) → length (paths_of S n) ≡ n
  paths-length zero placed = ap length (paths-none S)
  paths-length (suc n) placed =
      let p = placed n (omega arith) in
      let shorter = paths-length n (λ k l. placed k (omega (arith, l))) in
      omega (arith, ap length (paths-step S n p.node p.is), length_push (paths_of S n) (child_path (paths_of S n) p.node.parent p.node.syllable), shorter)

  -- the path at a number is that of its node
  pub paths-at : (n : ℕ) → ((k : ℕ) → k < n → IsPlaced S k) → (k : ℕ) (node : Node) → k < n → node_at S k ≡ Some node → IsNumber k node.parent → path_at (paths_of S n) k ≡ child_path (paths_of S n) node.parent node.syllable
  paths-at zero placed k node l is earlier = absurd (omega (arith, l))
  paths-at (suc n) placed k node l is earlier =
      let p = placed n (omega arith) in
      let P = paths_of S n in
      let last = child_path P p.node.parent p.node.syllable in
      let step = paths-step S n p.node p.is in
      let before : (j : ℕ) → j < n → IsPlaced S j = λ j m. placed j (omega (arith, m)) in
      let long : length P ≡ n = paths-length n before in
      let within : k ≤ length P = omega (arith, l, long) in
      let grown : child_path (P ++ last ∷ []) node.parent node.syllable ≡ child_path P node.parent node.syllable =
      child-grows P (last ∷ []) node.parent node.syllable (number-more k (length P) node.parent earlier within) in
      let there : path_at (P ++ last ∷ []) k ≡ child_path P node.parent node.syllable =
      elim (cases_eq k n) [
        | inl same ↦
            let nodes : Some node ≡ Some p.node = sym is ∙ ap (node_at S) same ∙ p.is in
            let one : node ≡ p.node = cc in
            ap (λ (j : ℕ). path_at (P ++ last ∷ []) j) (same ∙ sym long)
            ∙ get_or-append_seam P last [] []
            ∙ ap (λ (x : Node). child_path P x.parent x.syllable) (sym one)
        | inr differs ↦
            let less : k < n = omega (arith, l, differs) in
            get_or_append_left P (last ∷ []) [] k (omega (arith, less, long)) ∙ paths-at n before k node less is earlier
      ] in
      ap (λ (Q : List (List ℕ)). path_at Q k) step ∙ there ∙ sym grown ∙ ap (λ (Q : List (List ℕ)). child_path Q node.parent node.syllable) (sym step)

module _ (S : List (Option Node)) (n : ℕ) (look : Node → Option ℕ) (K : AreNodesKept S n look) where
  pub kept-length : length (paths_of S n) ≡ n
  kept-length = paths-length S n K.placed

  pub kept-within : (k : ℕ) (node : Node) → node_at S k ≡ Some node → k < n
  kept-within k node is =
      elim (cases_lt k n) [
        | inl l ↦ l
        | inr le ↦ absurd (let f : None ≡ Some node = sym (K.vacant k le) ∙ is in cc)
      ]

  pub kept-earlier : (k : ℕ) (node : Node) → k < n → node_at S k ≡ Some node → IsNumber k node.parent
  kept-earlier k node l is =
      let p = K.placed k l in
      let one : Some p.node ≡ Some node = sym p.is ∙ is in
      let same : p.node ≡ node = cc in
      subst (λ (x : Node). IsNumber k x.parent) same p.earlier

  pub kept-path : (k : ℕ) (node : Node) → k < n → node_at S k ≡ Some node → path_at (paths_of S n) k ≡ child_path (paths_of S n) node.parent node.syllable
  kept-path k node l is = paths-at S n K.placed k node l is (kept-earlier k node l is)

  -- the path at a number that was given
  pub kept-get : (k : ℕ) → k < n → slice_get (paths_of S n) k ≡ Some (path_at (paths_of S n) k)
  kept-get k l = slice_get-get_or (paths_of S n) k [] (omega (arith, l, kept-length))

  -- what is found has that path
  pub kept-found : (k : ℕ) (node : Node) → look node ≡ Some k → slice_get (paths_of S n) k ≡ Some (child_path (paths_of S n) node.parent node.syllable)
  kept-found k node e =
      let is = K.found k node e in
      let l = kept-within k node is in
      kept-get k l ∙ ap Some (kept-path k node l is)

  path-long : (k : ℕ) → k < n → 0 < length (path_at (paths_of S n) k)
  path-long k l =
      let p = K.placed k l in
      omega (arith, ap length (kept-path k p.node l p.is), length_push (parent_path (paths_of S n) p.node.parent) p.node.syllable)

  below-same : (p q : Option ℕ) → IsNumber n p → IsNumber n q → parent_path (paths_of S n) p ≡ parent_path (paths_of S n) q → p ≡ q
  below-same None None h g e = refl
  below-same None (Some k) h g e = absurd (omega (arith, path-long k g, ap length e))
  below-same (Some j) None h g e = absurd (omega (arith, path-long j h, ap length e))
  below-same (Some j) (Some k) h g e = ap Some (K.once j k h g e)

  -- what isn't found has no number
  pub kept-new : (node : Node) → IsNumber n node.parent → look node ≡ None → IsNew (paths_of S n) (child_path (paths_of S n) node.parent node.syllable)
  kept-new node h none k at =
      let P = paths_of S n in
      let l : k < n = omega (arith, slice_get_within P k (child_path P node.parent node.syllable) at, kept-length) in
      let p = K.placed k l in
      let same : parent_path P p.node.parent ++ p.node.syllable ∷ [] ≡ parent_path P node.parent ++ node.syllable ∷ [] =
      sym (kept-path k p.node l p.is) ∙ get_or_from_slice_get P k (child_path P node.parent node.syllable) [] at in
      let parts = snoc-inj (parent_path P p.node.parent) (parent_path P node.parent) p.node.syllable node.syllable same in
      let parents = below-same p.node.parent node.parent (number-more k n p.node.parent p.earlier (omega (arith, l))) h parts.0 in
      let nodes = node-parts p.node node parents parts.1 in
      let found : look node ≡ Some k = K.listed k node (p.is ∙ ap Some nodes) in
      cc

  -- and the other way round
  pub new-none : (node : Node) → IsNew (paths_of S n) (child_path (paths_of S n) node.parent node.syllable) → look node ≡ None
  new-none node new = by (look node) refl
    where
      by : (o : Option ℕ) → look node ≡ o → look node ≡ None
      by None e = e
      by (Some k) e = absurd (new k (kept-found k node e))

  pub kept-numbered : IsNumbered (paths_of S n)
  kept-numbered =
      let P = paths_of S n in
      let within : (k : ℕ) (path : List ℕ) → slice_get P k ≡ Some path → k < n =
      λ k path at. omega (arith, slice_get_within P k path at, kept-length) in
      let is : (k : ℕ) (path : List ℕ) → slice_get P k ≡ Some path → path_at P k ≡ path =
      λ k path at. get_or_from_slice_get P k path [] at in
      record {
        few = omega (arith, K.few, kept-length);
        once = λ i j path a b. K.once i j (within i path a) (within j path b) (is i path a ∙ sym (is j path b));
        shallow = λ k path a. omega (arith, K.shallow k (within k path a), ap length (is k path a));
        child = λ k path a.
            let p = K.placed k (within k path a) in
            record { parent = p.node.parent; syllable = p.node.syllable; earlier = p.earlier; is = sym (is k path a) ∙ kept-path k p.node (within k path a) p.is };
      }

-- one node more, under the next key
module _ (S T : List (Option Node)) (n : ℕ) (look more : Node → Option ℕ) (node : Node) (K : AreNodesKept S n look) where
  pub added-paths : node_at T n ≡ Some node → ((k : ℕ) → k ≢ n → node_at T k ≡ node_at S k) → paths_of T (suc n) ≡ paths_of S n ++ child_path (paths_of S n) node.parent node.syllable ∷ []
  added-paths at others =
      paths-step T n node at
      ∙ ap (λ (Q : List (List ℕ)). Q ++ child_path Q node.parent node.syllable ∷ []) (paths-same S T n (λ k l. others k (omega (arith, l))))

  module _ (at : node_at T n ≡ Some node) (others : (k : ℕ) → k ≢ n → node_at T k ≡ node_at S k) (same : (q : Node) → more q ≡ cond (same_node node q) (Some n) (look q)) (none : look node ≡ None) where
    added-found : (k : ℕ) (q : Node) → more q ≡ Some k → node_at T k ≡ Some q
    added-found k q e = by (same_node node q) refl
      where
        by : (b : Bool) → same_node node q ≡ b → node_at T k ≡ Some q
        by true t =
            let one = same_node-true node q t in
            let here : more q ≡ Some n = same q ∙ ap (λ (b : Bool). cond b (Some n) (look q)) t in
            let number : k ≡ n = cc in
            ap (node_at T) number ∙ at ∙ ap Some one
        by false t =
            let there : look q ≡ Some k = sym (ap (λ (b : Bool). cond b (Some n) (look q)) t) ∙ sym (same q) ∙ e in
            let is = K.found k q there in
            let l = kept-within S n look K k q is in
            others k (omega (arith, l)) ∙ is

    added-listed : (k : ℕ) (q : Node) → node_at T k ≡ Some q → more q ≡ Some k
    added-listed k q is =
        elim (cases_eq k n) [
          | inl e ↦
              let nodes : Some node ≡ Some q = sym at ∙ sym (ap (node_at T) e) ∙ is in
              let one : node ≡ q = cc in
              same q
              ∙ ap (λ (b : Bool). cond b (Some n) (look q)) (ap (same_node node) (sym one) ∙ same_node-refl node)
              ∙ ap Some (sym e)
          | inr d ↦ there d (same_node node q) refl
        ]
      where
        there : k ≢ n → (b : Bool) → same_node node q ≡ b → more q ≡ Some k
        there d true t =
            let one = same_node-true node q t in
            let found : look q ≡ Some k = K.listed k q (sym (others k d) ∙ is) in
            let missing : look q ≡ None = ap look (sym one) ∙ none in
            absurd (cc)
        there d false t =
            same q ∙ ap (λ (b : Bool). cond b (Some n) (look q)) t ∙ K.listed k q (sym (others k d) ∙ is)

    added-placed : IsNumber n node.parent → (k : ℕ) → k < suc n → IsPlaced T k
    added-placed earlier k l =
        elim (cases_eq k n) [
          | inl e ↦ record { node = node; is = ap (node_at T) e ∙ at; earlier = number-at e }
          | inr d ↦ let p = K.placed k (omega (arith, l, d)) in record { node = p.node; is = others k d ∙ p.is; earlier = p.earlier }
        ]
      where
        number-at : k ≡ n → IsNumber k node.parent
        number-at e = number-more n k node.parent earlier (omega (arith, e))

    pub added-kept : n < ids_limit → IsNumber n node.parent → length (parent_path (paths_of S n) node.parent) < depth_limit → AreNodesKept T (suc n) more
    added-kept room earlier depth =
        let P = paths_of S n in
        let path = child_path P node.parent node.syllable in
        let long = kept-length S n look K in
        let all = added-paths at others in
        let last : path_at (paths_of T (suc n)) n ≡ path =
        ap (λ (Q : List (List ℕ)). path_at Q n) all
        ∙ ap (λ (j : ℕ). path_at (P ++ path ∷ []) j) (sym long)
        ∙ get_or-append_seam P path [] [] in
        let old : (k : ℕ) → k < n → path_at (paths_of T (suc n)) k ≡ path_at P k =
        λ k l. ap (λ (Q : List (List ℕ)). path_at Q k) all ∙ get_or_append_left P (path ∷ []) [] k (omega (arith, l, long)) in
        let new = kept-new S n look K node earlier none in
        let apart : (k : ℕ) → k < n → path_at (paths_of T (suc n)) k ≡ path_at (paths_of T (suc n)) n → ⊥ =
        λ k l e. new k (kept-get S n look K k l ∙ ap Some (sym (old k l) ∙ e ∙ last)) in
        record {
          few = omega (arith, room);
          placed = added-placed earlier;
          vacant = λ k le. others k (omega (arith, le)) ∙ K.vacant k (omega (arith, le));
          found = added-found;
          listed = added-listed;
          once = λ i j a b e. once-by apart old i j a b e;
          shallow = λ k l.
              elim (cases_eq k n) [
                | inl e ↦ omega (arith, ap length (ap (path_at (paths_of T (suc n))) e ∙ last), length_push (parent_path P node.parent) node.syllable, depth)
                | inr d ↦ omega (arith, ap length (old k (omega (arith, l, d))), K.shallow k (omega (arith, l, d)))
              ];
        }
      where
        once-by :
            ((k : ℕ) → k < n → path_at (paths_of T (suc n)) k ≡ path_at (paths_of T (suc n)) n → ⊥)
            → ((k : ℕ) → k < n → path_at (paths_of T (suc n)) k ≡ path_at (paths_of S n) k)
            → (i j : ℕ)
            → i < suc n
            → j < suc n
            → path_at (paths_of T (suc n)) i ≡ path_at (paths_of T (suc n)) j
            → i ≡ j
        once-by apart old i j a b e =
            elim (cases_eq i n) [
              | inl x ↦
                  elim (cases_eq j n) [
                    | inl y ↦ x ∙ sym y
                    | inr d ↦ absurd (apart j (omega (arith, b, d)) (sym e ∙ ap (path_at (paths_of T (suc n))) x))
                  ]
              | inr c ↦
                  elim (cases_eq j n) [
                    | inl y ↦ absurd (apart i (omega (arith, a, c)) (e ∙ ap (path_at (paths_of T (suc n))) y))
                    | inr d ↦
                        let li : i < n = omega (arith, a, c) in
                        let lj : j < n = omega (arith, b, d) in
                        K.once i j li lj (sym (old i li) ∙ e ∙ old j lj)
                  ]
            ]
