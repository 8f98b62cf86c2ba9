-- The words for the kinds of refused lines.
use Rattle.std.specs.Prelude.{ℕ, List, codes}
use Rattle.hv_trace.specs.declared.ends.TraceKind.{TraceKind}
use Rattle.hv_trace.specs.declared.ends.TraceKind.TheVariants.{Header, Pages, Regs, Page, Row, End}

unfoldable pub kind_word : TraceKind → List ℕ
kind_word Header = codes "header"
kind_word Pages = codes "pages"
kind_word Regs = codes "regs"
kind_word Page = codes "page"
kind_word Row = codes "row"
kind_word End = codes "end"
