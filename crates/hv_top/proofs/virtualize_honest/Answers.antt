use Rattle.std.proofs.Common.{◌≡◌, ◌≢◌, ℕ, ◌≤◌, List, [], Some, length, map, string_bytes, subst, inl, inr, arith}
use Rattle.std.specs.Io.KnownBytes.{Appends}
use Rattle.std.proofs.lemmas.Result.{IfOk-from_err, IfOk-at_ok}
use Rattle.hv_limits.specs.Limits.{input_limit}
use Rattle.hv_words.specs.Table.{command_of}
use Rattle.hv_top.specs.Commands.{output_of}
use Rattle.hv_top.specs.Output.{IsAnswer, IsRefusalAnd, IsTextAnd}
use Rattle.hv_top.specs.declared.TheConstants.{WRITE_FAULT}
use Rattle.hv_top.proofs.Inputs.{of_input, Lacks, HasRoom, has_room, answered}
use Rattle.hv_top.proofs.virtualize_honest.Goals as goal

pub returns-clause-write : goal.returns-clause-write
returns-clause-write c =
    let sink = c.args.sink.now in
    of_input (command_of (map string_bytes c.args.words.now)) c.args.source.now
    (λ command input. sink.fails ≡ [] → HasRoom sink command input → c.virtualize.result ≢ WRITE_FAULT)
    (λ command input named there said clean room fault.
    has_room sink command input clean room (said (Lacks sink) (c.virtualize.ensures.room fault)))

-- No other status comes than that of the output, or want of memory: what is promised at the others doesn't hold.
pub returns-clause-complete : goal.returns-clause-complete
returns-clause-complete c =
    let sink = c.args.sink.now in
    let words = command_of (map string_bytes c.args.words.now) in
    let status = c.virtualize.result in
    let told = c.virtualize.ensures in
    let appends = Appends (Some sink.held) (Some c.virtualize.new.sink.held) in
    of_input words c.args.source.now
    (λ command input.
    length input ≤ input_limit
    → sink.fails ≡ []
    → HasRoom sink command input
    → IsAnswer (output_of command input) status)
    (λ command input named there said short clean room.
    answered (output_of command input) status appends appends told.statuses.0 told.statuses.1
    (λ usage. IfOk-at_ok (λ _. ⊥) named (IfOk-from_err words (λ _. ⊥) (told.usage.0 usage)))
    (λ long.
    elim there [
      | inl all ↦ omega (arith, told.longer long, subst (λ (input : List ℕ). length input ≤ input_limit) all.1 short)
      | inr none ↦ (told.unblamed none).0 long
    ])
    (λ fault. omega (arith, told.read fault))
    (λ fault. has_room sink command input clean room (said (Lacks sink) (told.room fault)))
    (λ done. said (λ command input. IsTextAnd (output_of command input) appends) (told.done done))
    (λ refused. said (λ command input. IsRefusalAnd (output_of command input) appends) (told.refused refused)))
