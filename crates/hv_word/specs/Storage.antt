-- A storage is a list of words, in pages of 1024 words, which are 4096 bytes.
use Rattle.std.specs.Prelude.{ℕ, ◌+◌, ◌*◌, ◌/◌, List, length, slice_index, slice_set}

-- word k of page g
abbrev pub word_at : List ℕ → ℕ → ℕ → ℕ
word_at S g k = slice_index S (1024 * g + k)

-- the storage with word k of page g replaced
abbrev pub with_word : List ℕ → ℕ → ℕ → ℕ → List ℕ
with_word S g k v = slice_set S (1024 * g + k) v

-- how many whole pages it has
abbrev pub page_count : List ℕ → ℕ
page_count S = length S / 1024
