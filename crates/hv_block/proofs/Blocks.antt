-- What follows from the words of a page about the block in it.
use Rattle.std.proofs.Common.{◌≡◌, ℕ, ◌^◌, ◌<◌, ◌≤◌, ◌⊎◌, inl, inr, true, cond, ◌&&◌, List, Option, Some, None, subst}
use Rattle.std.proofs.lemmas.Option.{cond_some}
use Rattle.std.proofs.lemmas.Bool.{and_parts, or_cases, eqb-true, ltb-true, leb-true}
use Rattle.std.specs.Prelude.{nat_lt, nat_le, ◌==◌, ◌||◌}
use Rattle.std.proofs.Math.Dec.{lit<}
use Rattle.hv_word.specs.Storage.{word_at}
use Rattle.hv_cpu.specs.Regs.{Regs}
use Rattle.hv_block.specs.Block.{regs_at, pages_at, table_at, version_at, fits_hart, fits_pages, is_block, Contents, contents_at, block_of}

module _ (S T : List ℕ) (g y : ℕ) (same : (w : ℕ) → w < 1024 → word_at S g w ≡ word_at T y w) where
  -- the registers that a page says depend on its words alone
  pub regs_alike : regs_at S g ≡ regs_at T y
  regs_alike = λ i. record {
    pc = (same 0 (lit< tt)) i;
    x1 = (same 1 (lit< tt)) i;
    x2 = (same 2 (lit< tt)) i;
    x3 = (same 3 (lit< tt)) i;
    x4 = (same 4 (lit< tt)) i;
    x5 = (same 5 (lit< tt)) i;
    x6 = (same 6 (lit< tt)) i;
    x7 = (same 7 (lit< tt)) i;
    x8 = (same 8 (lit< tt)) i;
    x9 = (same 9 (lit< tt)) i;
    x10 = (same 10 (lit< tt)) i;
    x11 = (same 11 (lit< tt)) i;
    x12 = (same 12 (lit< tt)) i;
    x13 = (same 13 (lit< tt)) i;
    x14 = (same 14 (lit< tt)) i;
    x15 = (same 15 (lit< tt)) i;
    x16 = (same 16 (lit< tt)) i;
    x17 = (same 17 (lit< tt)) i;
    x18 = (same 18 (lit< tt)) i;
    x19 = (same 19 (lit< tt)) i;
    x20 = (same 20 (lit< tt)) i;
    x21 = (same 21 (lit< tt)) i;
    x22 = (same 22 (lit< tt)) i;
    x23 = (same 23 (lit< tt)) i;
    x24 = (same 24 (lit< tt)) i;
    x25 = (same 25 (lit< tt)) i;
    x26 = (same 26 (lit< tt)) i;
    x27 = (same 27 (lit< tt)) i;
    x28 = (same 28 (lit< tt)) i;
    x29 = (same 29 (lit< tt)) i;
    x30 = (same 30 (lit< tt)) i;
    x31 = (same 31 (lit< tt)) i;
    mode = (same 32 (lit< tt)) i;
    mstatus = (same 33 (lit< tt)) i;
    mtvec = (same 34 (lit< tt)) i;
    mepc = (same 35 (lit< tt)) i;
    mcause = (same 36 (lit< tt)) i;
    mtval = (same 37 (lit< tt)) i;
    mscratch = (same 38 (lit< tt)) i;
    medeleg = (same 39 (lit< tt)) i;
    mideleg = (same 40 (lit< tt)) i;
    mie = (same 41 (lit< tt)) i;
    mip = (same 42 (lit< tt)) i;
    stvec = (same 43 (lit< tt)) i;
    sepc = (same 44 (lit< tt)) i;
    scause = (same 45 (lit< tt)) i;
    stval = (same 46 (lit< tt)) i;
    sscratch = (same 47 (lit< tt)) i;
    satp = (same 48 (lit< tt)) i;
    next = (same 64 (lit< tt)) i;
  }

  -- and so does the block
  pub block_alike : block_of S g ≡ block_of T y
  block_alike = λ i. made (regs_alike i) ((same 65 (lit< tt)) i) ((same 66 (lit< tt)) i) ((same 67 (lit< tt)) i)
    where
      made : Regs → ℕ → ℕ → ℕ → Option Contents
      made r n t v =
          cond (fits_hart r && (nat_lt 0 n && nat_le n (2 ^ 20) && nat_lt t (2 ^ 20) && nat_lt r.next n && ((v == 0) || (v == 2))))
          (Some record { regs = r; pages = n; table = t; version = v })
          None

-- a block is what its page says, and is well formed
pub block_holds : (S : List ℕ) (g : ℕ) (contents : Contents) → block_of S g ≡ Some contents → (is_block S g ≡ true) × (contents_at S g ≡ contents)
block_holds S g contents e = cond_some (is_block S g) (contents_at S g) contents e

-- the sizes that a well-formed block has
pub record Sized (contents : Contents) : Type 0 where
  pub some : 1 ≤ contents.pages
  pub pages : contents.pages ≤ 1048576
  pub table : contents.table < 1048576
  pub next : contents.regs.next < contents.pages
  pub version : (contents.version ≡ 0) ⊎ (contents.version ≡ 2)

either_version : (v : ℕ) → (v == 0 ≡ true) ⊎ (v == 2 ≡ true) → (v ≡ 0) ⊎ (v ≡ 2)
either_version v (inl e) = inl (eqb-true v 0 e)
either_version v (inr e) = inr (eqb-true v 2 e)

pub block_sized : (S : List ℕ) (g : ℕ) (contents : Contents) → block_of S g ≡ Some contents → Sized contents
block_sized S g contents e = subst Sized (block_holds S g contents e).1 (sized (and_parts (fits_hart (regs_at S g)) (fits_pages S g) (block_holds S g contents e).0).1)
  where
    sized : fits_pages S g ≡ true → Sized (contents_at S g)
    sized f =
        let n : ℕ = pages_at S g in
        let a = and_parts (nat_lt 0 n && nat_le n 1048576 && nat_lt (table_at S g) 1048576 && nat_lt (word_at S g 64) n) ((version_at S g == 0) || (version_at S g == 2)) f in
        let b = and_parts (nat_lt 0 n && nat_le n 1048576 && nat_lt (table_at S g) 1048576) (nat_lt (word_at S g 64) n) a.0 in
        let d = and_parts (nat_lt 0 n && nat_le n 1048576) (nat_lt (table_at S g) 1048576) b.0 in
        let h = and_parts (nat_lt 0 n) (nat_le n 1048576) d.0 in
        record {
          some = ltb-true 0 n h.0;
          pages = leb-true n 1048576 h.1;
          table = ltb-true (table_at S g) 1048576 d.1;
          next = ltb-true (word_at S g 64) n b.1;
          version = either_version (version_at S g) (or_cases (version_at S g == 0) (version_at S g == 2) a.1);
        }
