-- Which slots are known without a table.
use Rattle.std.proofs.Common.{◌≡◌, ◌≢◌, ◌↔◌, ℕ, ◌<◌, Bool, true, false, List, [], ◌∷◌, length, Some, refl, ap, ◌∙◌, sym, subst, arith, slice_get}
use Rattle.std.proofs.lemmas.Option.{same_Some}
use Rattle.hv_word.specs.Storage.{page_count}
use Rattle.hv_cpu.specs.Regs.{Regs}
use Rattle.hv_store.specs.declared.access.Slot.{Slot}
use Rattle.hv_store.specs.Access.{identity, open_at}
use Rattle.hv_store.proofs.Identity.{length-identity, slice_get-identity}
use Rattle.hv_map.specs.Chain.{along, machines, map_along, map_of, pin_of, running_path}
use Rattle.hv_map.specs.Item.{Item}
use Rattle.hv_nest.specs.Move.{running_at, running_of}
use Rattle.hv_cache.specs.Holding.{Entry}
use Rattle.hv_fast.specs.Engine.{Engine}
use Rattle.hv_fast.specs.Holds.{is_held, is_known, pages_for}
use Rattle.hv_fast.specs.declared.translations.Kept.{Kept}
use Rattle.hv_fast.specs.declared.translations.Kept.TheVariants.{Wide}

pub none_long : (path : List ℕ) → length path ≡ 0 → path ≡ []
none_long [] e = refl
none_long (s ∷ path) e = absurd (omega (arith, e))

known_held : (paths : List (List ℕ)) (es : List Entry) (path : List ℕ) (page : ℕ) → path ≢ [] → is_known paths es path page ≡ is_held paths es path page
known_held paths es [] page some = absurd (some refl)
known_held paths es (s ∷ path) page some = refl

-- on the bare machine a page's slot opens the page itself
pub bare_page : (S path : List ℕ) (F : List Slot) (page : ℕ) (slot : Slot) → path ≡ [] → map_of S path ≡ Some F → page < length F → slot ≡ open_at page → slice_get F page ≡ Some slot
unfolding machines pin_of map_along along
bare_page S path F page slot empty is inside same =
    let whole : identity (page_count S) ≡ F = same_Some (identity (page_count S)) F (ap (map_of S) (sym empty) ∙ is) in
    let lt : page < page_count S = omega (arith, inside, ap length whole, length-identity (page_count S)) in
    ap (λ (G : List Slot). slice_get G page) (sym whole) ∙ slice_get-identity (page_count S) page lt ∙ ap Some (sym same)

-- when an entry is too wide, on a path that isn't the bare machine's
pub wide_at : (S : List ℕ) (R : List Regs) (paths : List (List ℕ)) (es : List Entry) (hart : ℕ) (r : Regs) (path : List ℕ) (page : ℕ) (kept : Kept)
    → slice_get R hart ≡ Some r
    → path ≡ running_path S r
    → path ≢ []
    → ((items : List Item) → pin_of S path ≡ Some items → (kept ≡ Wide) ↔ ((is_held paths es path page ≡ false) × ((pages_for S items page).full ≡ true)))
    → (items : List Item)
    → pin_of S (running_at S (slice_get R hart)) ≡ Some items
    → (kept ≡ Wide) ↔ ((is_known paths es (running_at S (slice_get R hart)) page ≡ false) × ((pages_for S items page).full ≡ true))
wide_at S R paths es hart r path page kept at is some wide items =
    let runs : path ≡ running_at S (slice_get R hart) = is ∙ ap (running_at S) (sym at) in
    subst (λ (q : List ℕ). pin_of S q ≡ Some items → (kept ≡ Wide) ↔ ((is_known paths es q page ≡ false) × ((pages_for S items page).full ≡ true))) runs
    (λ pinned.
    subst (λ (b : Bool). (kept ≡ Wide) ↔ ((b ≡ false) × ((pages_for S items page).full ≡ true))) (sym (known_held paths es path page some))
    (wide items pinned))

-- the path of an engine's hart
pub engine_runs : (e f : Engine) (hart : ℕ) (r : Regs) (path : List ℕ) → f ≡ e → slice_get f.state.harts hart ≡ Some r → path ≡ running_path f.state.storage r → running_of e.state hart ≡ path
engine_runs e f hart r path view at is =
    ap (λ (x : Engine). running_of x.state hart) (sym view) ∙ ap (running_at f.state.storage) at ∙ sym is
