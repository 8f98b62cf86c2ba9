-- A page of a machine as text.
use Rattle.std.specs.Prelude.{ℕ, ◌*◌, Bool, ◌==◌, if◌then◌else◌, List, [], ◌++◌, drop, Option, Some, None, codes}
use Rattle.std.specs.List.{flat_map, list_all, range_with_len}
use Rattle.std.specs.Option.{option_and_then}
use Rattle.std.specs.Fmt.{decimal}
use Rattle.std.specs.Int.{w32, to_le_bytes}
use Rattle.hex.specs.Hex.{encode_lower}
use Rattle.hv_word.specs.Storage.{word_at}
use Rattle.hv_store.specs.declared.access.Slot.{Slot}
use Rattle.hv_store.specs.declared.access.Way.{Way}
use Rattle.hv_store.specs.declared.access.Way.TheVariants.{Open, Shut}
use Rattle.hv_map.specs.Compose.{reading}
use Rattle.hv_map.specs.Chain.{map_of}
use Rattle.hv_load.specs.declared.start.Dump.{Dump}
use Rattle.hv_text.specs.Text.{line, hex8}

-- the bytes of word k of bare page g in the order of their addresses, which is little-endian
abbrev pub dumped_bytes : List ℕ → ℕ → ℕ → List ℕ
dumped_bytes S g k = to_le_bytes w32 (word_at S g k)

-- the bytes of n words of bare page g from word k on
unfoldable pub words_bytes : List ℕ → ℕ → ℕ → ℕ → List ℕ
words_bytes S g k n = flat_map (dumped_bytes S g) (range_with_len k n)

-- the 32 bytes of line k of bare page g
abbrev pub line_bytes : List ℕ → ℕ → ℕ → List ℕ
line_bytes S g k = words_bytes S g (8 * k) 8

-- a byte that is 0
abbrev pub is_zero : ℕ → Bool
is_zero byte = byte == 0

-- an offset in the page, which is below 4096, as three digits
abbrev pub offset_text : ℕ → List ℕ
offset_text offset = drop 5 (hex8 offset)

-- the 32 bytes of line k as text; none where all of them are zero
abbrev pub bytes_line : ℕ → List ℕ → List ℕ
bytes_line k bytes =
    if list_all is_zero bytes then [] else line (offset_text (32 * k) ++ codes " " ++ encode_lower bytes)

-- line k of bare page g
abbrev pub page_line : List ℕ → ℕ → ℕ → List ℕ
page_line S g k = bytes_line k (line_bytes S g k)

-- its first n lines
unfoldable pub first_lines : List ℕ → ℕ → ℕ → List ℕ
first_lines S g n = flat_map (page_line S g) (range_with_len 0 n)

-- its 128 lines
abbrev pub page_lines : List ℕ → ℕ → List ℕ
page_lines S g = first_lines S g 128

-- the bare page that a way opens, if it does
abbrev pub opened_page : Way → Option ℕ
opened_page (Open g) = Some g
opened_page (Shut l c p w) = None

-- The bare page where a machine reads page i now. There is none where there is no machine at the end of the path, where
-- it doesn't have that page, and where it can't read it.
abbrev pub page_read : List ℕ → List ℕ → ℕ → Option ℕ
page_read S path i =
    option_and_then (λ (F : List Slot). option_and_then opened_page (reading F i)) (map_of S path)

-- the lines of a page that can be read, and the line of one that can't
abbrev pub page_text : List ℕ → Option ℕ → List ℕ
page_text S None = line (codes "absent")
page_text S (Some g) = page_lines S g

-- a page of a machine, as it is now
abbrev pub dump_text : List ℕ → Dump → List ℕ
dump_text S d =
    line (codes "dump " ++ d.name ++ codes " " ++ decimal d.page) ++ page_text S (page_read S d.path d.page)

-- all pages that are shown
unfoldable pub dumps_text : List ℕ → List Dump → List ℕ
dumps_text S dumps = flat_map (dump_text S) dumps
