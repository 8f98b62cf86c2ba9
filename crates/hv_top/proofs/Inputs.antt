-- The input of the command that the words name, and what it is answered where nothing outside fails.
use Rattle.std.proofs.Common.{◌≡◌, ◌≢◌, ◌⊎◌, ℕ, ◌+◌, ◌<◌, ◌≤◌, Bool, true, false, Some, Result, Ok, Err, List, [], length, refl, subst, inl, inr, arith}
use Rattle.std.specs.Prelude.{IfOk}
use Rattle.hv_io.specs.Memory.{SinkState}
use Rattle.hv_io.specs.Whole.{LacksRoom}
use Rattle.hv_words.specs.declared.Command.{Command}
use Rattle.hv_words.specs.declared.Usage.{Usage}
use Rattle.hv_top.specs.Commands.{OnInput, OnReadInput, output_of, reads, reads_input}
use Rattle.hv_top.specs.Output.{Output, Text, Refusal, IsAnswer, IsRefusalAnd, IsTextAnd, text_of}

-- what is said of the input of the command that is named, where the source tells the bytes that it has left
abbrev pub OfInput : Result Command Usage → List ℕ → (Command → List ℕ → Type 0) → Type 0
OfInput r bytes P = IfOk r (λ (command : Command). OnInput command (Some bytes) (P command))

-- What is to be said of the command that is named and of its input follows from what is said of them. The input is all
-- bytes, or the command reads none.
pub of_input : (r : Result Command Usage) (bytes : List ℕ) (Q : Command → List ℕ → Type 0)
    → ((command : Command) (input : List ℕ)
    → r ≡ Ok command
    → ((reads r ≡ true) × (input ≡ bytes)) ⊎ (reads r ≡ false)
    → ((P : Command → List ℕ → Type 0) → OfInput r bytes P → P command input)
    → Q command input)
    → OfInput r bytes Q
of_input (Err usage) bytes Q follows = tt
of_input (Ok command) bytes Q follows = at (reads_input command) refl
  where
    at : (b : Bool) → reads_input command ≡ b → OnReadInput b (Some bytes) (Q command)
    at true is =
        follows command bytes refl (inl (is, refl))
        (λ P said. subst (λ (b : Bool). OnReadInput b (Some bytes) (P command)) is said)
    at false is =
        follows command [] refl (inr is)
        (λ P said. subst (λ (b : Bool). OnReadInput b (Some bytes) (P command)) is said)

-- the sink has no room for what is written for an input, or it has, and no call of it fails by its number
abbrev pub Lacks : SinkState → Command → List ℕ → Type 0
Lacks sink command input =
    LacksRoom (Some record { room = sink.room; fails = sink.fails }) (Some sink.held)
    (length (text_of (output_of command input)))

abbrev pub HasRoom : SinkState → Command → List ℕ → Type 0
HasRoom sink command input = length sink.held + length (text_of (output_of command input)) < sink.room

pub has_room : (sink : SinkState) (command : Command) (input : List ℕ)
    → sink.fails ≡ []
    → HasRoom sink command input
    → Lacks sink command input
    → ⊥
has_room sink command input clean room lacks =
    let full : sink.room < length sink.held + length (text_of (output_of command input)) = lacks clean in
    omega (arith, room, full)

-- the statuses that are left
which : (n : ℕ) → n ≤ 7 → n ≢ 1 → n ≢ 2 → n ≢ 4 → n ≢ 5 → n ≢ 6 → (n ≡ 0) ⊎ ((n ≡ 3) ⊎ (n ≡ 7))
which n most a b c d e = grind arith

-- that of an output, where none of the others comes
pub answered : (o : Output) (status : ℕ) (P Q : List ℕ → Type 0)
    → status ≤ 7
    → status ≢ 1
    → status ≢ 2
    → status ≢ 4
    → status ≢ 5
    → status ≢ 6
    → (status ≡ 0 → IsTextAnd o P)
    → (status ≡ 3 → IsRefusalAnd o Q)
    → IsAnswer o status
answered o status P Q most a b c d e text line = at o (which status most a b c d e) text line
  where
    at : (o : Output)
        → (status ≡ 0) ⊎ ((status ≡ 3) ⊎ (status ≡ 7))
        → (status ≡ 0 → IsTextAnd o P)
        → (status ≡ 3 → IsRefusalAnd o Q)
        → IsAnswer o status
    at (Text bytes) (inl done) text line = inl done
    at (Text bytes) (inr (inl refused)) text line = absurd (line refused)
    at (Text bytes) (inr (inr memory)) text line = inr memory
    at (Refusal bytes) (inl done) text line = absurd (text done)
    at (Refusal bytes) (inr (inl refused)) text line = inl refused
    at (Refusal bytes) (inr (inr memory)) text line = inr memory
