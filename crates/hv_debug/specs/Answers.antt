-- What the commands of a debugger answer about a state, as bytes. Each line ends in a line feed.
use Rattle.std.specs.Prelude.{ℕ, ◌/◌, ◌%◌, nat_lt, bytes_eq, if◌then◌else◌, List, [], ◌∷◌, ◌++◌, length, reverse}
use Rattle.std.specs.Prelude.{Option, Some, None, codes}
use Rattle.std.specs.List.{find, flat_map}
use Rattle.std.specs.Option.{option_and_then, option_map}
use Rattle.std.specs.Fmt.{decimal}
use Rattle.hv_word.specs.Storage.{page_count, word_at}
use Rattle.hv_store.specs.declared.access.Access.TheVariants.{Read}
use Rattle.hv_store.specs.declared.access.Way.{Way}
use Rattle.hv_store.specs.declared.access.Way.TheVariants.{Open, Shut}
use Rattle.hv_map.specs.Item.{Item}
use Rattle.hv_map.specs.Chain.{map_along, pin_of}
use Rattle.hv_map.specs.Links.{last_block}
use Rattle.hv_map.specs.Trail.{trail, trail_pages}
use Rattle.hv_nest.specs.State.{State}
use Rattle.hv_load.specs.declared.start.Named.{Named}
use Rattle.hv_run.specs.Text.{register_lines}
use Rattle.hv_text.specs.Text.{line, hex8}
use Rattle.hv_report.specs.Dumps.{page_read}
use Rattle.hv_report.specs.Report.{machine_words}
use Rattle.hv_debug.specs.declared.stop.Stop.{Stop}
use Rattle.hv_debug.specs.declared.stop.Stop.TheVariants.{Done, AtBreak, AtEnd}

-- the path to the first machine of this name
abbrev pub path_named : List ℕ → List Named → Option (List ℕ)
path_named name names = option_map (λ (n : Named). n.path) (find (λ (n : Named). bytes_eq n.name name) names)

-- the machines on the path to it, as they are now
abbrev pub machine_named : List ℕ → List ℕ → List Named → Option (List Item)
machine_named S name names = option_and_then (pin_of S) (path_named name names)

-- the words of a command
abbrev pub echo_line : List ℕ → List ℕ
echo_line words = line (codes "> " ++ words)

-- why the steps ended where they did
abbrev pub stop_text : Stop → List ℕ
stop_text Done = []
stop_text AtBreak = codes " break"
stop_text AtEnd = codes " end"

-- how many steps were made, and why they ended
abbrev pub halt_line : ℕ → Stop → List ℕ
halt_line steps stop = line (codes "at " ++ decimal steps ++ stop_text stop)

-- the registers of a machine; of hart 0 for the bare machine
abbrev pub registers_text : State → Option (List Item) → List ℕ
registers_text st None = line (codes "gone")
registers_text st (Some items) = register_lines (machine_words st 0 (last_block items))

-- the registers of the machine of this name
abbrev pub regs_text : State → List ℕ → List Named → List ℕ
regs_text st name names = registers_text st (machine_named st.storage name names)

-- there is no such page, or it can't be read
abbrev pub absent : List ℕ
absent = line (codes "absent")

-- an address and the word there, in the bare page that is given
abbrev pub word_text : List ℕ → ℕ → Option ℕ → List ℕ
word_text S address None = absent
word_text S address (Some g) = line (hex8 address ++ codes " " ++ hex8 (word_at S g (address % 4096 / 4)))

-- the word at an address of the machine of this name
abbrev pub mem_text : List ℕ → List ℕ → ℕ → List Named → List ℕ
mem_text S name address names =
    word_text S address (option_and_then (λ path. page_read S path (address / 4096)) (path_named name names))

-- each page behind an arrow
unfoldable pub pages_text : List ℕ → List ℕ
pages_text pages = flat_map (λ page. codes " > " ++ decimal page) pages

-- the pages of a trail, from the inside out
abbrev pub trail_text : List ℕ → List ℕ
trail_text [] = []
trail_text (page ∷ pages) = decimal page ++ pages_text pages

-- the map that refuses, if one does
abbrev pub end_text : Way → List ℕ
end_text (Open g) = []
end_text (Shut level cause page word) = codes " refused level " ++ decimal level ++ codes " cause " ++ decimal cause

-- a trail: its pages, and the map that refuses
abbrev pub trail_line : List ℕ → Way → List ℕ
trail_line pages end = line (trail_text pages ++ end_text end)

-- the trail of a machine's page for reading
abbrev pub page_trail : List ℕ → ℕ → Option (List Item) → List ℕ
page_trail S page None = absent
page_trail S page (Some items) =
    let outwards = reverse items in
    if nat_lt page (length (map_along S items))
    then trail_line (trail_pages S (page_count S) outwards page) (trail S (page_count S) outwards page Read)
    else absent

-- the trail of a page of the machine of this name
abbrev pub map_text : List ℕ → List ℕ → ℕ → List Named → List ℕ
map_text S name page names = page_trail S page (machine_named S name names)
