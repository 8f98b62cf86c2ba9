-- The words for the kinds of refused lines.
use Rattle.std.specs.Prelude.{ℕ, List, codes}
use Rattle.hv_capsule.specs.declared.ends.CapsuleKind.{CapsuleKind}
use Rattle.hv_capsule.specs.declared.ends.CapsuleKind.TheVariants.{Header, Pages, Regs, Page, End}

unfoldable pub kind_word : CapsuleKind → List ℕ
kind_word Header = codes "header"
kind_word Pages = codes "pages"
kind_word Regs = codes "regs"
kind_word Page = codes "page"
kind_word End = codes "end"
