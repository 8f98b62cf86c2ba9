-- Lines that are written one after another, and machines by their names.
use Rattle.std.proofs.Common.{◌≡◌, ℕ, ◌+◌, Option, Some, None, List, [], ◌∷◌, ◌++◌, take, map, ap, sym, ◌∙◌}
use Rattle.std.specs.Prelude.{slice_get}
use Rattle.std.specs.Option.{option_and_then}
use Rattle.std.proofs.lemmas.List.{flat_map_more, take_more}
use Rattle.std.proofs.lemmas.Option.{get_or_from_slice_get, slice_get_within}
use Rattle.hv_map.proofs.Machines.{pinned_own}
use Rattle.hv_map.specs.Chain.{pin_of}
use Rattle.hv_map.specs.Item.{Item}
use Rattle.hv_map.specs.Links.{syllable_of}
use Rattle.hv_report.specs.Report.{faults_text}
use Rattle.hv_run.specs.Record.{FaultRecord}
use Rattle.hv_run.specs.Text.{fault_line}

-- one more fault
pub faults_more : (front out text : List ℕ) (kept : List FaultRecord) (i : ℕ) (row : FaultRecord)
    → slice_get kept i ≡ Some row
    → out ≡ front ++ faults_text (take i kept)
    → text ≡ fault_line row
    → out ++ text ≡ front ++ faults_text (take (i + 1) kept)
unfolding faults_text
faults_more front out text kept i row is before line =
    let more = take_more kept i row (slice_get_within kept i row is) ∙ ap (λ (x : FaultRecord). take i kept ++ x ∷ []) (get_or_from_slice_get kept i row row is) in
    ap (λ (t : List ℕ). t ++ text) before
    ∙ ap (λ (t : List ℕ). (front ++ faults_text (take i kept)) ++ t) line
    ∙ flat_map_more fault_line front (take i kept) row
    ∙ sym (ap (λ (fs : List FaultRecord). front ++ faults_text fs) more)

-- the chain that a path pins is that of its own path
pub own_chain : (S : List ℕ) (path : Option (List ℕ)) (items : List Item) → Some items ≡ option_and_then (pin_of S) path → pin_of S (map syllable_of items) ≡ Some items
own_chain S None items e = cc
own_chain S (Some path) items e = pinned_own S path items (sym e)
