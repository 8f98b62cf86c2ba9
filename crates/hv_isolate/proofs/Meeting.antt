-- Whether pages are among those that are marked, one page more each time.
use Rattle.std.proofs.Common.{◌≡◌, ◌≢◌, ℕ, ◌+◌, Bool, true, false, ◌||◌, List, [], ◌∷◌, ◌++◌, take, Some, slice_get, refl, ap, ap₂, ◌∙◌, sym}
use Rattle.std.specs.List.{list_any}
use Rattle.hv_store.specs.declared.access.Slot.{Slot}
use Rattle.hv_store.specs.declared.access.Way.{Way}
use Rattle.hv_store.specs.declared.access.Way.TheVariants.{Open, Shut}
use Rattle.hv_map.specs.Apart.{blocks_of, open_page}
use Rattle.hv_map.specs.Item.{Item}
use Rattle.hv_apart.specs.Marked.{SetOf, is_marked}
use Rattle.hv_apart.proofs.Growing.{take-push, flat_map-push, blocks-push}
use Rattle.hv_isolate.specs.May.{meet, written_pages}

or_assoc : (a b c : Bool) → (a || (b || c)) ≡ ((a || b) || c)
or_assoc true b c = refl
or_assoc false b c = refl

or-false : (a : Bool) → (a || false) ≡ a
or-false true = refl
or-false false = refl

any-append : (p : ℕ → Bool) (xs ys : List ℕ) → list_any p (xs ++ ys) ≡ (list_any p xs || list_any p ys)
any-append p [] ys = refl
any-append p (x ∷ xs) ys = ap (λ (b : Bool). p x || b) (any-append p xs ys) ∙ or_assoc (p x) (list_any p xs) (list_any p ys)

-- the marks have the numbers of a list
pub any_marked : (words others pages : List ℕ) → SetOf words others → list_any (is_marked words) pages ≡ meet pages others
any_marked words others [] s = refl
any_marked words others (x ∷ xs) s = ap₂ (λ (a b : Bool). a || b) (s.each x) (any_marked words others xs s)

-- blocks
pub block-more : (p : ℕ → Bool) (items : List Item) (i : ℕ) (x : Item) (found : Bool)
    → slice_get items i ≡ Some x
    → found ≡ list_any p (blocks_of (take i items))
    → (found || p x.block) ≡ list_any p (blocks_of (take (i + 1) items))
block-more p items i x found is before =
    ap (λ (b : Bool). b || p x.block) before
    ∙ ap (λ (b : Bool). list_any p (blocks_of (take i items)) || b) (sym (or-false (p x.block)))
    ∙ sym (any-append p (blocks_of (take i items)) (x.block ∷ []))
    ∙ ap (list_any p) (sym (blocks-push items i x is))

-- the pages of one slot more
written-more : (p : ℕ → Bool) (F : List Slot) (i : ℕ) (s : Slot) (found : Bool)
    → slice_get F i ≡ Some s
    → found ≡ list_any p (written_pages (take i F))
    → (found || list_any p (open_page s.write)) ≡ list_any p (written_pages (take (i + 1) F))
written-more p F i s found is before =
    ap (λ (b : Bool). b || list_any p (open_page s.write)) before
    ∙ sym (any-append p (written_pages (take i F)) (open_page s.write))
    ∙ ap (list_any p) (sym (flat_map-push Slot (λ (t : Slot). open_page t.write) (take i F) s))
    ∙ ap (λ (G : List Slot). list_any p (written_pages G)) (sym (take-push Slot F i s is))

pub opened-more : (p : ℕ → Bool) (F : List Slot) (i g : ℕ) (s : Slot) (found : Bool)
    → slice_get F i ≡ Some s
    → s.write ≡ Open g
    → found ≡ list_any p (written_pages (take i F))
    → (found || p g) ≡ list_any p (written_pages (take (i + 1) F))
opened-more p F i g s found is opens before =
    ap (λ (b : Bool). found || b) (sym (or-false (p g)))
    ∙ ap (λ (way : Way). found || list_any p (open_page way)) (sym opens)
    ∙ written-more p F i s found is before

shut_page : (way : Way) → ((g : ℕ) → way ≢ Open g) → open_page way ≡ []
shut_page (Open g) not_open = absurd (not_open g refl)
shut_page (Shut l c p w) not_open = refl

pub shut-more : (p : ℕ → Bool) (F : List Slot) (i : ℕ) (s : Slot) (found : Bool)
    → slice_get F i ≡ Some s
    → ((g : ℕ) → s.write ≢ Open g)
    → found ≡ list_any p (written_pages (take i F))
    → found ≡ list_any p (written_pages (take (i + 1) F))
shut-more p F i s found is not_open before =
    sym (or-false found)
    ∙ ap (λ (pages : List ℕ). found || list_any p pages) (sym (shut_page s.write not_open))
    ∙ written-more p F i s found is before
