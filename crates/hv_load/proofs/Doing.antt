-- A directive is done by its parts, and a job by its directives.
use Rattle.std.proofs.Common.{◌≡◌, ℕ, suc, ◌+◌, ◌-◌, ◌/◌, ◌<◌, ◌≤◌, Bool, true, false, List, [], ◌∷◌, ◌++◌, length, map, drop, get_or, Option, Some, None, Result, Ok, Err, sym, ap, subst, ◌∙◌, arith, append_assoc}
use Rattle.std.proofs.lemmas.List.{drop_all}
use Rattle.hv_asm.specs.declared.Image.{Image}
use Rattle.hv_job.specs.declared.job.DebugLine.{DebugLine}
use Rattle.hv_job.specs.declared.job.Placed.{Placed}
use Rattle.hv_map.specs.Item.{Item}
use Rattle.hv_map.specs.Chain.{pin_of}
use Rattle.hv_samples.specs.declared.choice.Sample.{Sample}
use Rattle.hv_load.specs.declared.ends.BuildEnd.{BuildEnd}
use Rattle.hv_load.specs.declared.ends.BuildKind.{BuildKind}
use Rattle.hv_load.specs.declared.parts.DirectiveEnd.{DirectiveEnd}
use Rattle.hv_load.specs.declared.parts.DirectiveEnd.TheVariants.{Fault, Memory}
use Rattle.hv_load.specs.declared.parts.Mark.{Mark}
use Rattle.hv_load.specs.declared.parts.Mark.TheVariants as mark
use Rattle.hv_load.specs.declared.start.Start.{Start}
use Rattle.hv_load.specs.Answers.{Refuses}
use Rattle.hv_load.specs.Building.{Building, Known, known}
use Rattle.hv_load.specs.Build.{GivesStart, built_from, command_fault, command_of, done_of, end_of, fault_or, part_of, parts_of}
use Rattle.hv_load.specs.Directives.{image_in, image_of, words_in, words_of}
use Rattle.hv_load.specs.Finding.{found_by}
use Rattle.hv_load.specs.Pages.{each_from, marked, page_at, place_by, with_values}
use Rattle.hv_load.specs.Tower.{grown, level_machine, level_sample, levels_from}
use Rattle.hv_load.proofs.Lists.{left_at}
use Rattle.hv_lex.specs.Refusing.{◌>>=◌, at_line}

-- a refusal of a part is one of the whole
refused_by : {A B : Type 0} (end : DirectiveEnd) (part : Result A BuildKind) (whole : Result B BuildKind) → ((why : BuildKind) → part ≡ Err why → whole ≡ Err why) → Refuses end part → Refuses end whole
refused_by (Fault why) part whole f is = f why is
refused_by Memory part whole f is = tt

-- A machine is known, in names as they are read; its chain is found, and the marks are read.
module _ (b : Building) (name : List ℕ) (names : List Known) (k : Known) (chain : Option (List Item)) (marks : List Mark) (is_known : Ok k ≡ known name names) (is_names : names ≡ b.names) (is_chain : chain ≡ pin_of b.storage k.path) (is_marks : marks ≡ b.marks) where
  known_here : known name b.names ≡ Ok k
  known_here = ap (known name) (sym is_names) ∙ sym is_known

  -- the places as they are found, and as they are defined
  same_places : (free : Bool) (first n m : ℕ) → m ≡ n → each_from (place_by (found_by b.storage b.marks (pin_of b.storage k.path) k.pages free)) first n ≡ each_from (place_by (found_by b.storage marks chain k.pages free)) first m
  same_places free first n m is =
      ap (λ (ch : Option (List Item)). each_from (place_by (found_by b.storage b.marks ch k.pages free)) first n) (sym is_chain)
      ∙ ap (λ (ms : List Mark). each_from (place_by (found_by b.storage ms chain k.pages free)) first n) (sym is_marks)
      ∙ ap (each_from (place_by (found_by b.storage marks chain k.pages free)) first) (sym is)

  words_by : (at n : ℕ) (values : List ℕ) (r : Result (List ℕ) BuildKind) → n ≡ length values → each_from (place_by (found_by b.storage marks chain k.pages false)) (at / 4) n ≡ r → words_of b name at values ≡ (r >>= λ places. Ok (record b { storage = with_values b.storage places values }))
  words_by at n values r count is =
      ap (λ (r : Result Known BuildKind). r >>= λ k. words_in b k at values) known_here
      ∙ ap (λ (r : Result (List ℕ) BuildKind). r >>= λ places. let done : Result Building BuildKind = Ok (record b { storage = with_values b.storage places values }) in done) (same_places false (at / 4) (length values) n count ∙ is)

  pub words_done : (at n : ℕ) (values places new : List ℕ) → n ≡ length values → each_from (place_by (found_by b.storage marks chain k.pages false)) (at / 4) n ≡ Ok places → new ≡ with_values b.storage places values → words_of b name at values ≡ Ok (record b { storage = new })
  words_done at n values places new count is written =
      words_by at n values (Ok places) count is
      ∙ ap (λ (S : List ℕ). let done : Result Building BuildKind = Ok (record b { storage = S }) in done) (sym written)

  pub words_refused : (at n : ℕ) (values : List ℕ) (end : DirectiveEnd) → n ≡ length values → Refuses end (each_from (place_by (found_by b.storage marks chain k.pages false)) (at / 4) n) → Refuses end (words_of b name at values)
  words_refused at n values end count =
      refused_by end (each_from (place_by (found_by b.storage marks chain k.pages false)) (at / 4) n) (words_of b name at values) (λ why is. words_by at n values (Err why) count is)

  image_by : (image : Image) (n : ℕ) (r : Result (List ℕ) BuildKind) → n ≡ length image.words → each_from (place_by (found_by b.storage marks chain k.pages true)) (image.base / 4) n ≡ r → image_of b name image ≡ (r >>= λ places. Ok (record b { storage = with_values b.storage places image.words; marks = marked mark.Image (map page_at places) b.marks }))
  image_by image n r count is =
      ap (λ (r : Result Known BuildKind). r >>= λ k. image_in b k image) known_here
      ∙ ap (λ (r : Result (List ℕ) BuildKind). r >>= λ places. let done : Result Building BuildKind = Ok (record b { storage = with_values b.storage places image.words; marks = marked mark.Image (map page_at places) b.marks }) in done) (same_places true (image.base / 4) (length image.words) n count ∙ is)

  pub image_done : (image : Image) (n : ℕ) (places words new : List ℕ) (ms : List Mark) → n ≡ length image.words → words ≡ image.words → each_from (place_by (found_by b.storage marks chain k.pages true)) (image.base / 4) n ≡ Ok places → new ≡ with_values b.storage places words → ms ≡ marked mark.Image (map page_at places) b.marks → image_of b name image ≡ Ok (record b { storage = new; marks = ms })
  image_done image n places words new ms count are is written marked_so =
      image_by image n (Ok places) count is
      ∙ ap (λ (S : List ℕ). let done : Result Building BuildKind = Ok (record b { storage = S; marks = marked mark.Image (map page_at places) b.marks }) in done) (ap (with_values b.storage places) (sym are) ∙ sym written)
      ∙ ap (λ (ms : List Mark). let done : Result Building BuildKind = Ok (record b { storage = new; marks = ms }) in done) (sym marked_so)

  pub image_refused : (image : Image) (n : ℕ) (end : DirectiveEnd) → n ≡ length image.words → Refuses end (each_from (place_by (found_by b.storage marks chain k.pages true)) (image.base / 4) n) → Refuses end (image_of b name image)
  image_refused image n end count =
      refused_by end (each_from (place_by (found_by b.storage marks chain k.pages true)) (image.base / 4) n) (image_of b name image) (λ why is. image_by image n (Err why) count is)

-- one line more of a job
built_at : (b : Building) (lines : List Placed) (i : ℕ) (p : Placed) (r : Result Building BuildKind) → i < length lines → p ≡ get_or lines i p → done_of b p.line p.what ≡ r → built_from b (drop i lines) ≡ ((at_line p.line r) >>= (λ next. built_from next (drop (i + 1) lines)))
unfolding built_from
built_at b lines i p r h is done =
    ap (built_from b) (left_at lines i p h is)
    ∙ ap (λ (r : Result Building BuildKind). ((at_line p.line r) >>= (λ next. built_from next (drop (i + 1) lines)))) done

pub built_more : (b next : Building) (lines : List Placed) (i : ℕ) (p : Placed) (all : Result Building (ℕ × BuildKind)) → i < length lines → p ≡ get_or lines i p → done_of b p.line p.what ≡ Ok next → built_from b (drop i lines) ≡ all → built_from next (drop (i + 1) lines) ≡ all
built_more b next lines i p all h is done told = sym (built_at b lines i p (Ok next) h is done) ∙ told

pub built_stop : (b : Building) (lines : List Placed) (i : ℕ) (p : Placed) (why : BuildKind) (all : Result Building (ℕ × BuildKind)) (after : Building → Result Start (ℕ × BuildKind)) → i < length lines → p ≡ get_or lines i p → done_of b p.line p.what ≡ Err why → built_from b (drop i lines) ≡ all → (all >>= after) ≡ Err (p.line, why)
built_stop b lines i p why all after h is done told =
    ap (λ (r : Result Building (ℕ × BuildKind)). (r >>= after)) (sym told ∙ built_at b lines i p (Err why) h is done)

pub built_end : (b : Building) (lines : List Placed) (i : ℕ) (result : Result Start BuildEnd) (all : Result Building (ℕ × BuildKind)) (read commands : List DebugLine) → length lines ≤ i → read ≡ commands → GivesStart result (end_of read b) → built_from b (drop i lines) ≡ all → GivesStart result (all >>= (end_of commands))
unfolding built_from
built_end b lines i result all read commands h same gives told =
    subst
    (λ (r : Result Building (ℕ × BuildKind)). GivesStart result (r >>= (end_of commands)))
    (sym (ap (built_from b) (drop_all i lines h)) ∙ told)
    (subst (λ (l : List DebugLine). GivesStart result (end_of l b)) same gives)

-- one command more
command_at : (b : Building) (lines : List DebugLine) (i : ℕ) (l : DebugLine) (r : Result Building BuildKind) → i < length lines → l ≡ get_or lines i l → command_of b l.what ≡ r → command_fault b (drop i lines) ≡ fault_or l.line r (command_fault b (drop (i + 1) lines))
command_at b lines i l r h is done =
    ap (command_fault b) (left_at lines i l h is)
    ∙ ap (λ (r : Result Building BuildKind). fault_or l.line r (command_fault b (drop (i + 1) lines))) done

pub command_more : (b : Building) (lines : List DebugLine) (i : ℕ) (l : DebugLine) → i < length lines → l ≡ get_or lines i l → command_of b l.what ≡ Ok b → command_fault b (drop i lines) ≡ command_fault b (drop (i + 1) lines)
command_more b lines i l h is done = command_at b lines i l (Ok b) h is done

pub command_stop : (b : Building) (lines : List DebugLine) (i : ℕ) (l : DebugLine) (why : BuildKind) → i < length lines → l ≡ get_or lines i l → command_of b l.what ≡ Err why → command_fault b (drop i lines) ≡ Some (l.line, why)
command_stop b lines i l why h is done = command_at b lines i l (Err why) h is done

pub command_end : (b : Building) (lines : List DebugLine) (i : ℕ) → length lines ≤ i → command_fault b (drop i lines) ≡ None
command_end b lines i h = ap (command_fault b) (drop_all i lines h)

pub ruleset commands = (command_more, command_stop, command_end)

-- one part more of a tower
pub parts_more : (b next : Building) (parts : List Placed) (i : ℕ) (p : Placed) (all : Result Building BuildKind) → i < length parts → p ≡ get_or parts i p → part_of b p.what ≡ Ok next → parts_of b (drop i parts) ≡ all → parts_of next (drop (i + 1) parts) ≡ all
parts_more b next parts i p all h is done told =
    sym
    (ap (parts_of b) (left_at parts i p h is) ∙ ap (λ (r : Result Building BuildKind). r >>= λ next. parts_of next (drop (i + 1) parts)) done)
    ∙ told

pub parts_stop : (b : Building) (parts : List Placed) (i : ℕ) (p : Placed) (end : DirectiveEnd) (all : Result Building BuildKind) → i < length parts → p ≡ get_or parts i p → Refuses end (part_of b p.what) → parts_of b (drop i parts) ≡ all → Refuses end all
parts_stop b parts i p end all h is refused told =
    refused_by
    end
    (part_of b p.what)
    all
    (λ why done.
    sym told
    ∙ ap (parts_of b) (left_at parts i p h is)
    ∙ ap (λ (r : Result Building BuildKind). r >>= λ next. parts_of next (drop (i + 1) parts)) done)
    refused

pub parts_end : (b : Building) (parts : List Placed) (i : ℕ) (all : Result Building BuildKind) → length parts ≤ i → parts_of b (drop i parts) ≡ all → all ≡ Ok b
parts_end b parts i all h told = sym told ∙ ap (parts_of b) (drop_all i parts h)

-- one level more of a tower
pub levels_more : (line n k d : ℕ) (which : Sample) (front new all : List Placed) → k < d → new ≡ (front ++ level_machine line k (grown (d - k - 1) n) ∷ []) ++ level_sample line k which ∷ [] → front ++ levels_from line n which k (d - k) ≡ all → new ++ levels_from line n which (k + 1) (d - (k + 1)) ≡ all
levels_more line n k d which front new all lt grew told =
    let left : d - k ≡ suc (d - (k + 1)) = omega arith in
    let same : d - k - 1 ≡ d - (k + 1) = omega arith in
    let next : k + 1 ≡ suc k = omega arith in
    ap (λ (l : List Placed). l ++ levels_from line n which (k + 1) (d - (k + 1))) grew
    ∙ append_assoc (front ++ level_machine line k (grown (d - k - 1) n) ∷ []) (level_sample line k which ∷ []) (levels_from line n which (k + 1) (d - (k + 1)))
    ∙ append_assoc front (level_machine line k (grown (d - k - 1) n) ∷ []) (level_sample line k which ∷ levels_from line n which (k + 1) (d - (k + 1)))
    ∙ ap (λ (m : ℕ). front ++ (level_machine line k (grown m n) ∷ level_sample line k which ∷ levels_from line n which (k + 1) (d - (k + 1)))) same
    ∙ ap (λ (j : ℕ). front ++ (level_machine line k (grown (d - (k + 1)) n) ∷ level_sample line k which ∷ levels_from line n which j (d - (k + 1)))) next
    ∙ ap (λ (m : ℕ). front ++ levels_from line n which k m) (sym left)
    ∙ told
