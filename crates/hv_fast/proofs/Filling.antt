-- What is kept beside the state stays right where a translation is held, and where one is put at hand.
use Rattle.std.proofs.Common.{◌≡◌, ◌≢◌, ℕ, inl, inr, true, false, List, [], ◌∷◌, length, map, Some, None, ap, ◌∙◌, sym, subst, slice_get, set, length-set}
use Rattle.std.proofs.lemmas.Bool.Decides.{eqb_tells}
use Rattle.std.proofs.lemmas.Option.{same_Some}
use Rattle.hv_cpu.specs.Regs.{Regs}
use Rattle.hv_block.specs.Block.{regs_at}
use Rattle.hv_map.specs.Chain.{pin_of}
use Rattle.hv_map.specs.Held.{IsHeld, Lists}
use Rattle.hv_map.specs.Item.{Item}
use Rattle.hv_map.specs.Links.{last_block, syllable_of}
use Rattle.hv_map.proofs.Holding.{pin_right}
use Rattle.hv_cache.specs.Kept.{Kept}
use Rattle.hv_fast.specs.declared.beside.Beside.{Beside}
use Rattle.hv_fast.specs.declared.pin.Pin.{Pin}
use Rattle.hv_fast.specs.Beside.{EntriesAreRight, IsReady, IsRightBeside}
use Rattle.hv_fast.specs.Marked.{IsMore, Marked, listed}
use Rattle.hv_fast.specs.Memo.{Entries, IsRightMemo}
use Rattle.hv_fast.proofs.Growing.{held_more}
use Rattle.hv_fast.proofs.Keeping.{FindsHeld}
use Rattle.hv_fast.proofs.Mounting.{has_listed, ready_more, set_elsewhere, set_here}

pub no_less : (m : Marked) → IsMore m m
no_less m = record { tables = λ g e. e; blocks = λ g e. e }

-- the machines of a pin that is right are those on their own path, and there are some
pub own_pin : (S : List ℕ) (r : Regs) (m : Marked) (p : Pin) → IsReady S r m p → pin_of S (map syllable_of p.chain) ≡ Some p.chain
own_pin S r m p ready =
    let right = pin_right S r p.chain (listed m.tables) ready.pin in
    ap (pin_of S) (sym right.0) ∙ right.1

pub some_path : (items : List Item) (g : ℕ) → last_block items ≡ Some g → map syllable_of items ≢ []
some_path [] g last e = let f : None ≡ Some g = last in cc
some_path (x ∷ xs) g last e = let f : syllable_of x ∷ map syllable_of xs ≡ [] = e in cc

-- pins and registers are as they were, with more that is marked
pub right_held : (S : List ℕ) (R : List Regs) (b c : Beside)
    → IsMore b.marks c.marks
    → c.pins.items ≡ b.pins.items
    → c.rider ≡ b.rider
    → c.inner ≡ b.inner
    → EntriesAreRight S c.ids c.cache.entries
    → IsRightBeside S R b
    → IsRightBeside S R c
right_held S R b c more pins rider inner held right = record {
  count = ap length pins ∙ right.count;
  pins = λ h r p at there live.
      ready_more S r b.marks c.marks p more
      (right.pins h r p at (ap (λ (ps : List Pin). slice_get ps h) (sym pins) ∙ there) live);
  rider = λ h p is there.
      let before = right.rider h p (sym rider ∙ is) (ap (λ (ps : List Pin). slice_get ps h) (sym pins) ∙ there) in
      record { live = before.live; regs = before.regs ∙ sym inner };
  held = held;
}

-- and one pin has another memo
pub right_filled : (S : List ℕ) (R : List Regs) (b c : Beside) (hart : ℕ) (r : Regs) (p q : Pin)
    → IsMore b.marks c.marks
    → c.pins.items ≡ set b.pins.items hart q
    → c.rider ≡ b.rider
    → c.inner ≡ b.inner
    → EntriesAreRight S c.ids c.cache.entries
    → slice_get R hart ≡ Some r
    → slice_get b.pins.items hart ≡ Some p
    → q.live ≡ p.live
    → q.block ≡ p.block
    → IsReady S r c.marks q
    → IsRightBeside S R b
    → IsRightBeside S R c
right_filled S R b c hart r p q more pins rider inner held at was live block ready right = record {
  count = ap length pins ∙ length-set b.pins.items hart q ∙ right.count;
  pins = λ h s o names there used. elim (eqb_tells h hart) [
    | inl agree ↦
        here s o (ap (slice_get R) (sym agree.1) ∙ names)
        (ap (slice_get (set b.pins.items hart q)) (sym agree.1) ∙ ap (λ (ps : List Pin). slice_get ps h) (sym pins) ∙ there)
    | inr differ ↦
        ready_more S s b.marks c.marks o more
        (right.pins h s o names (set_elsewhere b.pins.items hart h q o differ.1 (ap (λ (ps : List Pin). slice_get ps h) (sym pins) ∙ there)) used)
  ];
  rider = λ h o is there. elim (eqb_tells h hart) [
    | inl agree ↦
        let same : q ≡ o = set_here b.pins.items hart q o (ap (slice_get (set b.pins.items hart q)) (sym agree.1) ∙ ap (λ (ps : List Pin). slice_get ps h) (sym pins) ∙ there) in
        let before = right.rider h p (sym rider ∙ is) (ap (slice_get b.pins.items) agree.1 ∙ was) in
        record {
          live = ap (λ (k : Pin). k.live) (sym same) ∙ live ∙ before.live;
          regs = ap (λ (k : Pin). regs_at S k.block) (sym same) ∙ ap (regs_at S) block ∙ before.regs ∙ sym inner;
        }
    | inr differ ↦
        let before = right.rider h o (sym rider ∙ is) (set_elsewhere b.pins.items hart h q o differ.1 (ap (λ (ps : List Pin). slice_get ps h) (sym pins) ∙ there)) in
        record { live = before.live; regs = before.regs ∙ sym inner }
  ];
  held = held;
}
  where
    here : (s : Regs) (o : Pin) → slice_get R hart ≡ Some s → slice_get (set b.pins.items hart q) hart ≡ Some o → IsReady S s c.marks o
    here s o names there =
        subst (λ (k : Regs). IsReady S k c.marks o) (same_Some r s (sym at ∙ names))
        (subst (IsReady S r c.marks) (set_here b.pins.items hart q o there) ready)

-- a pin that is ready stays so with a memo that is right
pub ready_filled : (S : List ℕ) (r : Regs) (m n : Marked) (p : Pin) (memo : Entries)
    → IsMore m n
    → IsReady S r m p
    → (IsRightMemo S p.chain n.tables p.memo → IsRightMemo S p.chain n.tables memo)
    → IsReady S r n (record p { memo = memo })
ready_filled S r m n p memo more ready right =
    let grown = ready_more S r m n p more ready in
    record { pin = grown.pin; path = grown.path; ends = grown.ends; blocks = grown.blocks; quiet = grown.quiet; memo = right grown.memo }

-- what is found of a page on the path of a pin is held of the pin's machines, once what it rests on is marked
pub held_of_pin : (S : List ℕ) (r : Regs) (m n : Marked) (p : Pin) (path : List ℕ) (page : ℕ) (kept : Kept)
    → IsReady S r m p
    → path ≡ map syllable_of p.chain
    → FindsHeld S path page kept
    → Lists (listed n.tables) kept.tables
    → IsHeld S p.chain (listed n.tables) page kept.slot
held_of_pin S r m n p path page kept ready is f lists =
    let same : f.items ≡ p.chain = same_Some f.items p.chain (sym f.pinned ∙ ap (pin_of S) is ∙ own_pin S r m p ready) in
    let rests : Marked = record { tables = kept.tables; blocks = [] } in
    let more : IsMore rests n = record { tables = has_listed kept.tables n.tables lists; blocks = λ g e. absurd (let h : false ≡ true = e in cc) } in
    held_more S p.chain rests n page kept.slot more (subst (λ (items : List Item). IsHeld S items (listed kept.tables) page kept.slot) same f.held)
