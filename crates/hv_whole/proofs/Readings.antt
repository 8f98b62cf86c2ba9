-- What a likeness says of the block's words, and of the whole storage where the bare machine itself is watched.
use Rattle.std.proofs.Common.{◌≡◌, ℕ, ◌+◌, ◌*◌, ◌/◌, ◌%◌, ◌<◌, List, [], ◌∷◌, length, Some, None, refl, ap, ◌∙◌, sym, arith, get_or}
use Rattle.std.proofs.lemmas.List.{ext_get_or}
use Rattle.std.proofs.lemmas.Option.{same_Some}
use Rattle.hv_cpu.specs.Regs.{Regs}
use Rattle.hv_store.specs.Access.{identity, open_at}
use Rattle.hv_store.proofs.Identity.{length-identity, slice_get-identity}
use Rattle.hv_block.specs.Block.{regs_at}
use Rattle.hv_map.specs.Item.{Item}
use Rattle.hv_nest.specs.State.{State}
use Rattle.hv_nest.specs.Routing.{regs_along}
use Rattle.hv_nest.specs.Watched.{last_block}
use Rattle.hv_whole.specs.Whole.{Alike}

-- the registers of the machine at the end of the items are those in the last block
pub regs_last : (S : List ℕ) (items : List Item) (r : Regs) (g : ℕ) → last_block items ≡ Some g → regs_along S items r ≡ regs_at S g
regs_last S [] r g e = absurd (let f : None ≡ Some g = e in cc)
regs_last S (x ∷ []) r g e = ap (regs_at S) (same_Some x.block g e)
regs_last S (x ∷ (y ∷ ys)) r g e = regs_last S (y ∷ ys) (regs_at S x.block) g e

-- two storages that are alike in each page are the same
pub same_storage : (h P : ℕ) (st bare : State) → length st.storage ≡ 1024 * P → Alike h [] (identity P) st bare → st.storage ≡ bare.storage
same_storage h P st bare whole alike =
    ext_get_or 0 st.storage bare.storage (whole ∙ ap (λ (n : ℕ). 1024 * n) (sym (length-identity P)) ∙ sym alike.size) at
  where
    at : (a : ℕ) → a < length st.storage → get_or st.storage a 0 ≡ get_or bare.storage a 0
    at a h =
        let page : a / 1024 < P = omega (arith, whole) in
        let word : a % 1024 < 1024 = omega arith in
        let place : 1024 * (a / 1024) + a % 1024 ≡ a = omega arith in
        ap (λ (n : ℕ). get_or st.storage n 0) (sym place)
        ∙ alike.pages (a / 1024) (a / 1024) (a % 1024) (open_at (a / 1024)) (slice_get-identity P (a / 1024) page) refl word
        ∙ ap (λ (n : ℕ). get_or bare.storage n 0) place
