-- What a line says. Each directive has a definition of its own: the number of words behind the first, and then the
-- tests of these words, from the left.
use Rattle.std.specs.Prelude.{ℕ, ◌+◌, ◌-◌, ◌*◌, ◌%◌, ◌^◌, ◌==◌, ◌&&◌, nat_le, if◌then◌else◌, List, [], ◌∷◌, length}
use Rattle.std.specs.Prelude.{Option, Some, None, Result, Ok, Err, codes}
use Rattle.std.specs.Str.{bytes_eq}
use Rattle.hv_irq.specs.Events.{is_line_mask}
use Rattle.hv_irq.specs.declared.Event.TheVariants as event
use Rattle.hv_lex.specs.Numbers.{number_of}
use Rattle.hv_limits.specs.Limits.{pages_limit, steps_limit}
use Rattle.hv_samples.specs.declared.choice.Sample.{Sample}
use Rattle.hv_samples.specs.declared.choice.Sample.TheVariants as sample
use Rattle.hv_line.specs.JobLimits.{depth_in, harts_in, job_values}
use Rattle.hv_line.specs.Names.{name_of}
use Rattle.hv_line.specs.declared.kinds.JobKind.{JobKind}
use Rattle.hv_line.specs.declared.kinds.JobKind.TheVariants as fault
use Rattle.hv_line.specs.declared.types.Directive.TheVariants as directive
use Rattle.hv_line.specs.declared.types.Statement.{Statement}
use Rattle.hv_line.specs.declared.types.Statement.TheVariants as states
use Rattle.hv_line.specs.declared.version.JobVersion.{JobVersion}
use Rattle.hv_line.specs.declared.version.JobVersion.TheVariants.{One, Two}
use Rattle.hv_lex.specs.Refusing.{◌>>=◌}

-- a word that is this text
unfoldable pub fixed : List ℕ → List ℕ → Result (Unit {0}) JobKind
fixed text word = if bytes_eq word text then Ok tt else Err fault.Words

-- the name, or the kind where there is none
abbrev pub or_no_name : Option (List ℕ) → Result (List ℕ) JobKind
or_no_name None = Err fault.Name
or_no_name (Some name) = Ok name

-- a word that is a name
unfoldable pub named : List ℕ → Result (List ℕ) JobKind
named word = or_no_name (name_of word)

-- the number, or the kind where there is none
abbrev pub or_no_number : Option ℕ → Result ℕ JobKind
or_no_number None = Err fault.Number
or_no_number (Some n) = Ok n

-- a word that is a number
unfoldable pub number : List ℕ → Result ℕ JobKind
number word = or_no_number (number_of word)

-- a word that is a number from `low` to `high`
unfoldable pub between : ℕ → ℕ → List ℕ → Result ℕ JobKind
between low high word = do
  n ← number word
  (if nat_le low n && nat_le n high then Ok n else Err fault.Range)

-- a word that is an address of a word, a multiple of 4
unfoldable pub address : List ℕ → Result ℕ JobKind
address word = do
  n ← number word
  (if n % 4 == 0 then Ok n else Err fault.Range)

-- a word that is a mask of lines from outside
unfoldable pub mask : List ℕ → Result ℕ JobKind
mask word = do
  n ← number word
  (if is_line_mask n then Ok n else Err fault.Range)

-- the number of a hart
abbrev pub hart : JobVersion → List ℕ → Result ℕ JobKind
hart version word = between 0 (harts_in version - 1) word

-- a page of a machine
abbrev pub page : List ℕ → Result ℕ JobKind
page word = between 0 (2 ^ 20 - 1) word

-- a page of a machine that isn't its first
abbrev pub later_page : List ℕ → Result ℕ JobKind
later_page word = between 1 (2 ^ 20 - 1) word

-- a number of pages
abbrev pub pages : List ℕ → Result ℕ JobKind
pages word = between 1 pages_limit word

-- the access bits of an entry that can be fetched from, which only a `job 2` has
unfoldable pub wide_access : JobVersion → List ℕ → Result ℕ JobKind
wide_access One word = Err fault.Words
wide_access Two word =
    if bytes_eq word (codes "rx") then Ok 5
    else if bytes_eq word (codes "rwx") then Ok 7
    else Err fault.Words

-- the access bits of an entry
unfoldable pub access : JobVersion → List ℕ → Result ℕ JobKind
access version word =
    if bytes_eq word (codes "ro") then Ok 1
    else if bytes_eq word (codes "rw") then Ok 3
    else wide_access version word

-- one of the samples that run the machine at page 1 and nothing else
unfoldable pub inner : List ℕ → Result Sample JobKind
inner word =
    if bytes_eq word (codes "pass") then Ok sample.Pass
    else if bytes_eq word (codes "forward") then Ok sample.Forward
    else Err fault.Words

-- one of all samples
unfoldable pub any_sample : List ℕ → Result Sample JobKind
any_sample word =
    if bytes_eq word (codes "slicer") then Ok sample.Slicer
    else if bytes_eq word (codes "pager") then Ok sample.Pager
    else inner word

-- words that are numbers
unfoldable pub numbers : List (List ℕ) → Result (List ℕ) JobKind
numbers [] = Ok []
numbers (word ∷ words) = do
  n ← number word
  ns ← numbers words
  Ok (n ∷ ns)

-- the words behind `storage`: P
unfoldable pub storage_pages : List (List ℕ) → Result ℕ JobKind
storage_pages (p ∷ []) = pages p
storage_pages _ = Err fault.Words

-- the pages of a line with this first word, with these words behind it
unfoldable pub storage_with : List ℕ → List (List ℕ) → Result ℕ JobKind
storage_with first words = if bytes_eq first (codes "storage") then storage_pages words else Err fault.Storage

-- storage P, which is the second line of a job that has words
unfoldable pub storage_line_of : List (List ℕ) → Result ℕ JobKind
storage_line_of [] = Err fault.Storage
storage_line_of (first ∷ words) = storage_with first words

-- harts N
unfoldable pub harts_directive_of : JobVersion → List (List ℕ) → Result Statement JobKind
harts_directive_of version (n ∷ []) = do
  n ← between 1 (harts_in version) n
  Ok (states.Harts n)
harts_directive_of version _ = Err fault.Words

-- hart H A
unfoldable pub hart_directive_of : JobVersion → List (List ℕ) → Result Statement JobKind
hart_directive_of version (h ∷ a ∷ []) = do
  h ← hart version h
  a ← address a
  Ok (states.Directive (directive.Hart h a))
hart_directive_of version _ = Err fault.Words

-- machine NAME in PARENT block B pages N table T at P
unfoldable pub machine_directive_of : List (List ℕ) → Result Statement JobKind
machine_directive_of
    (name ∷ word_in ∷ parent ∷ word_block ∷ b ∷ word_pages ∷ n ∷ word_table ∷ t ∷ word_at ∷ p ∷ []) = do
      name ← named name
      _ ← fixed (codes "in") word_in
      parent ← named parent
      _ ← fixed (codes "block") word_block
      b ← later_page b
      _ ← fixed (codes "pages") word_pages
      n ← pages n
      _ ← fixed (codes "table") word_table
      t ← page t
      _ ← fixed (codes "at") word_at
      p ← page p
      Ok (states.Directive (directive.Machine name parent b n t p))
machine_directive_of _ = Err fault.Words

-- map NAME I none, map NAME I ro P, map NAME I rw P, and in a `job 2` map NAME I rx P, map NAME I rwx P
unfoldable pub map_directive_of : JobVersion → List (List ℕ) → Result Statement JobKind
map_directive_of version (name ∷ i ∷ word_none ∷ []) = do
  name ← named name
  i ← page i
  _ ← fixed (codes "none") word_none
  Ok (states.Directive (directive.Map name i 0))
map_directive_of version (name ∷ i ∷ bits ∷ p ∷ []) = do
  name ← named name
  i ← page i
  bits ← access version bits
  p ← page p
  Ok (states.Directive (directive.Map name i (p * 4096 + bits)))
map_directive_of version _ = Err fault.Words

-- start NAME A
unfoldable pub start_directive_of : List (List ℕ) → Result Statement JobKind
start_directive_of (name ∷ a ∷ []) = do
  name ← named name
  a ← address a
  Ok (states.Directive (directive.Start name a))
start_directive_of _ = Err fault.Words

-- image NAME A
unfoldable pub image_directive_of : List (List ℕ) → Result Statement JobKind
image_directive_of (name ∷ a ∷ []) = do
  name ← named name
  a ← address a
  Ok (states.Image name a)
image_directive_of _ = Err fault.Words

-- sample NAME A WHICH
unfoldable pub sample_directive_of : List (List ℕ) → Result Statement JobKind
sample_directive_of (name ∷ a ∷ which ∷ []) = do
  name ← named name
  a ← address a
  which ← any_sample which
  Ok (states.Sample name a which)
sample_directive_of _ = Err fault.Words

-- word NAME A V..
abbrev pub word_with : List ℕ → List ℕ → List (List ℕ) → Result Statement JobKind
word_with name a values = do
  name ← named name
  a ← address a
  values ← numbers values
  Ok (states.Directive (directive.Word name a values))

-- word NAME A V ..., with one to eight V
unfoldable pub word_directive_of : List (List ℕ) → Result Statement JobKind
word_directive_of (name ∷ a ∷ values) =
    if nat_le 1 (length values) && nat_le (length values) job_values then word_with name a values else Err fault.Words
word_directive_of _ = Err fault.Words

-- tower D pages N, with the sample pass, and tower D pages N WHICH
unfoldable pub tower_directive_of : JobVersion → List (List ℕ) → Result Statement JobKind
tower_directive_of version (d ∷ word_pages ∷ n ∷ []) = do
  d ← between 0 (depth_in version) d
  _ ← fixed (codes "pages") word_pages
  n ← pages n
  Ok (states.Directive (directive.Tower d n sample.Pass))
tower_directive_of version (d ∷ word_pages ∷ n ∷ which ∷ []) = do
  d ← between 0 (depth_in version) d
  _ ← fixed (codes "pages") word_pages
  n ← pages n
  which ← inner which
  Ok (states.Directive (directive.Tower d n which))
tower_directive_of version _ = Err fault.Words

-- turn H N
unfoldable pub turn_directive_of : JobVersion → List (List ℕ) → Result Statement JobKind
turn_directive_of version (h ∷ n ∷ []) = do
  h ← hart version h
  n ← between 1 steps_limit n
  Ok (states.Event (event.Turn h n))
turn_directive_of version _ = Err fault.Words

-- lines H M
unfoldable pub lines_directive_of : JobVersion → List (List ℕ) → Result Statement JobKind
lines_directive_of version (h ∷ m ∷ []) = do
  h ← hart version h
  m ← mask m
  Ok (states.Event (event.Lines h m))
lines_directive_of version _ = Err fault.Words

-- watch H NAME
unfoldable pub watch_directive_of : JobVersion → List (List ℕ) → Result Statement JobKind
watch_directive_of version (h ∷ name ∷ []) = do
  h ← hart version h
  name ← named name
  Ok (states.Directive (directive.Watch h name))
watch_directive_of version _ = Err fault.Words

-- dump NAME I
unfoldable pub dump_directive_of : List (List ℕ) → Result Statement JobKind
dump_directive_of (name ∷ i ∷ []) = do
  name ← named name
  i ← page i
  Ok (states.Directive (directive.Dump name i))
dump_directive_of _ = Err fault.Words

-- upgrade NAME D
unfoldable pub upgrade_directive_of : List (List ℕ) → Result Statement JobKind
upgrade_directive_of (name ∷ d ∷ []) = do
  name ← named name
  d ← page d
  Ok (states.Directive (directive.Upgrade name d))
upgrade_directive_of _ = Err fault.Words

-- a line `upgrade`, which only a `job 2` has
unfoldable pub upgrade_in : JobVersion → List (List ℕ) → Result Statement JobKind
upgrade_in One words = Err fault.Directive
upgrade_in Two words = upgrade_directive_of words

-- what the line with this first word says, with these words behind it
unfoldable pub statement_with : JobVersion → List ℕ → List (List ℕ) → Result Statement JobKind
statement_with version first words =
    if bytes_eq first (codes "harts") then harts_directive_of version words
    else if bytes_eq first (codes "hart") then hart_directive_of version words
    else if bytes_eq first (codes "machine") then machine_directive_of words
    else if bytes_eq first (codes "map") then map_directive_of version words
    else if bytes_eq first (codes "start") then start_directive_of words
    else if bytes_eq first (codes "image") then image_directive_of words
    else if bytes_eq first (codes "sample") then sample_directive_of words
    else if bytes_eq first (codes "word") then word_directive_of words
    else if bytes_eq first (codes "tower") then tower_directive_of version words
    else if bytes_eq first (codes "turn") then turn_directive_of version words
    else if bytes_eq first (codes "lines") then lines_directive_of version words
    else if bytes_eq first (codes "watch") then watch_directive_of version words
    else if bytes_eq first (codes "dump") then dump_directive_of words
    else if bytes_eq first (codes "upgrade") then upgrade_in version words
    else Err fault.Directive

-- what a line with these words says among the directives
unfoldable pub statement_of : JobVersion → List (List ℕ) → Result Statement JobKind
statement_of version [] = Err fault.Directive
statement_of version (first ∷ words) = statement_with version first words
