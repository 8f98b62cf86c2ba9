-- The text of a parked machine: how many pages it has, its registers, and each page that isn't all zero. Words are eight
-- hexadecimal digits in lower case, two for each byte, the lowest byte first.
use Rattle.std.specs.Prelude.{ℕ, zero, suc, ◌*◌, ◌==◌, if◌then◌else◌, List, [], ◌∷◌, ◌++◌, take, drop, codes}
use Rattle.std.specs.Fmt.{decimal}
use Rattle.std.specs.Int.{w32, to_le_bytes}
use Rattle.std.specs.List.{list_all}
use Rattle.hex.specs.Hex.{encode_lower}
use Rattle.hv_word.specs.Storage.{page_count}
use Rattle.hv_cpu.specs.Regs.{spelled}
use Rattle.hv_capsule.specs.Parked.{Parked}

-- the digits of a word
unfoldable pub word_digits : ℕ → List ℕ
word_digits word = encode_lower (to_le_bytes w32 word)

-- the digits of words
abbrev pub words_digits : List ℕ → List ℕ
words_digits [] = []
words_digits (word ∷ words) = word_digits word ++ words_digits words

-- the words of a page
abbrev pub page_words : List ℕ → ℕ → List ℕ
page_words S page = take 1024 (drop (1024 * page) S)

-- the line of a page that isn't all zero
unfoldable pub page_line : List ℕ → ℕ → List ℕ
page_line S page =
    if list_all (λ word. word == 0) (page_words S page) then []
    else codes "page " ++ decimal page ++ codes " " ++ words_digits (page_words S page) ++ codes "\n"

-- the lines of so many pages
abbrev pub pages_text : List ℕ → ℕ → List ℕ
pages_text S zero = []
pages_text S (suc count) = pages_text S count ++ page_line S count

-- the text of a parked machine
unfoldable pub machine_text : List ℕ → List ℕ → List ℕ
machine_text regs S =
    codes "machine 1\npages " ++ decimal (page_count S) ++ codes "\nregs " ++ words_digits regs ++ codes "\n"
    ++ pages_text S (page_count S) ++ codes "end\n"

abbrev pub capsule_text : Parked → List ℕ
capsule_text m = machine_text (spelled m.regs) m.storage
