-- What a machine sees of the bare storage, as a storage of its own.
use Rattle.std.specs.Prelude.{ℕ, List, [], ◌++◌, ◌∷◌, map, replicate}
use Rattle.std.specs.List.{range_with_len}
use Rattle.hv_word.specs.Storage.{word_at}
use Rattle.hv_store.specs.declared.access.Slot.{Slot}
use Rattle.hv_store.specs.declared.access.Way.{Way}
use Rattle.hv_store.specs.declared.access.Way.TheVariants.{Open, Shut}

-- the first n words of the page that a way opens, or as many zeros where it is shut
unfoldable pub words_of : List ℕ → ℕ → Way → List ℕ
words_of S n (Open g) = map (word_at S g) (range_with_len 0 n)
words_of S n (Shut l c p w) = replicate n 0

-- all words of that page
abbrev pub page_of : List ℕ → Way → List ℕ
page_of S way = words_of S 1024 way

-- as many pages as the map F has slots, each the page that can be read there, or zeros where none can
unfoldable pub seen : List ℕ → List Slot → List ℕ
seen S [] = []
seen S (s ∷ F) = page_of S s.read ++ seen S F
