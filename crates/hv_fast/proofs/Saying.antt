-- What the block of a machine says, and where it says the same in two storages.
use Rattle.std.proofs.Common.{◌≡◌, ℕ, Bool, true, false, cond, ◌||◌, List, [], ◌∷◌, inl, inr, Option, Some, None, refl, ap, ◌∙◌, sym, subst}
use Rattle.std.proofs.lemmas.Bool.Decides.{eqb_tells}
use Rattle.std.proofs.lemmas.Option.{same_Some}
use Rattle.hv_word.specs.Storage.{word_at}
use Rattle.hv_block.specs.Block.{Contents, block_of, contents_at, is_block, regs_at}
use Rattle.hv_block.proofs.Blocks.{block_holds}
use Rattle.hv_word.specs.Words.{has}
use Rattle.hv_map.specs.Chain.{child_with}
use Rattle.hv_map.specs.Held.{SamePage, SamePages, SaysItem}
use Rattle.hv_map.specs.Item.{Item}

-- a page in a list is the same where all pages of the list are
pub page_same : (S T : List ℕ) (g : ℕ) (hs : List ℕ) → has g hs ≡ true → SamePages S T hs → SamePage S T g
page_same S T g [] e same = absurd (let f : false ≡ true = e in cc)
page_same S T g (h ∷ hs) e same = elim (eqb_tells g h) [
  | inl agree ↦ subst (SamePage S T) (sym agree.1) same.0
  | inr differ ↦ page_same S T g hs (sym (ap (λ (b : Bool). b || has g hs) differ.0) ∙ e) same.1
]

-- a block that says what a machine is, says that of it and the registers of its page
pub said : (S : List ℕ) (x : Item) → SaysItem S x → block_of S x.block ≡ Some record { regs = regs_at S x.block; pages = x.pages; table = x.table; version = x.version }
said S x says = go (block_of S x.block) refl says
  where
    go : (o : Option Contents) → block_of S x.block ≡ o → child_with x.syllable x.block o ≡ Some x → block_of S x.block ≡ Some record { regs = regs_at S x.block; pages = x.pages; table = x.table; version = x.version }
    go None is e = absurd (let f : None ≡ Some x = e in cc)
    go (Some held) is e =
        is
        ∙ ap (λ (y : Item). Some record { regs = held.regs; pages = y.pages; table = y.table; version = y.version })
        (same_Some record { syllable = x.syllable; block = x.block; pages = held.pages; table = held.table; version = held.version } x e)
        ∙ ap (λ (k : Contents). Some record { regs = k.regs; pages = x.pages; table = x.table; version = x.version })
        (sym (block_holds S x.block held is).1)

-- and it is well formed, and its words say it
pub says_block : (S : List ℕ) (x : Item) → SaysItem S x → (is_block S x.block ≡ true) × (contents_at S x.block ≡ record { regs = regs_at S x.block; pages = x.pages; table = x.table; version = x.version })
says_block S x says =
    block_holds S x.block record { regs = regs_at S x.block; pages = x.pages; table = x.table; version = x.version } (said S x says)

-- it says so still where its words 65 to 67 are the same, if it is well formed
pub still_says : (S T : List ℕ) (x : Item)
    → SaysItem S x
    → word_at T x.block 65 ≡ word_at S x.block 65
    → word_at T x.block 66 ≡ word_at S x.block 66
    → word_at T x.block 67 ≡ word_at S x.block 67
    → is_block T x.block ≡ true
    → SaysItem T x
still_says S T x says pages table version fits =
    let is = (says_block S x says).1 in
    let n : word_at T x.block 65 ≡ x.pages = pages ∙ ap (λ (h : Contents). h.pages) is in
    let t : word_at T x.block 66 ≡ x.table = table ∙ ap (λ (h : Contents). h.table) is in
    let v : word_at T x.block 67 ≡ x.version = version ∙ ap (λ (h : Contents). h.version) is in
    ap (λ (b : Bool). child_with x.syllable x.block (cond b (Some (contents_at T x.block)) None)) fits
    ∙ (λ i. Some record { syllable = x.syllable; block = x.block; pages = n i; table = t i; version = v i })
