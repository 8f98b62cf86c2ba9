-- The commands of a text keep the ranges and the limits.
use Rattle.std.proofs.Common.{◌≡◌, ℕ, ◌+◌, ◌≤◌, Bool, true, false, not, cond, List, [], ◌∷◌, length, Result, Ok, Err, refl, subst, arith, length-append}
use Rattle.std.specs.Prelude.{All}
use Rattle.std.proofs.lemmas.List.Elements.{All-append, All-cons, All-nil}
use Rattle.hv_line.specs.Commands.{command_of, join_words_of}
use Rattle.hv_line.specs.JobLimits.{job_breaks, job_commands}
use Rattle.hv_line.specs.Lines.{has_words, is_allowed, words_of}
use Rattle.hv_line.specs.Ranges.{IsCommand}
use Rattle.hv_line.specs.declared.kinds.JobKind.{JobKind}
use Rattle.hv_line.specs.declared.kinds.JobKind.TheVariants as fault
use Rattle.hv_line.specs.declared.types.DebugCommand.{DebugCommand}
use Rattle.hv_line.specs.declared.version.JobVersion.{JobVersion}
use Rattle.hv_line.proofs.Ranging.{command_ranged, then_ok}
use Rattle.hv_job.specs.Commands.{line_commands, commands_from, commands_then, commands_with, new_commands, is_over}
use Rattle.hv_job.specs.IsJob.{breaks_in}
use Rattle.hv_job.specs.declared.job.DebugLine.{DebugLine}
use Rattle.hv_job.proofs.Commanding.{breaks_more, room_breaks, room_commands}
use Rattle.hv_lex.specs.Refusing.{◌>>=◌}

-- what the commands so far keep
pub record AreCommands (commands : List DebugLine) : Type 0 where
  pub ranged : All (λ line. IsCommand line.what) commands
  pub count : length commands ≤ job_commands
  pub breaks : breaks_in commands ≤ job_breaks

pub no_commands : AreCommands []
no_commands = record { ranged = All-nil (λ (line : DebugLine). IsCommand line.what); count = omega arith; breaks = omega arith }

one_more : (commands : List DebugLine) (n : ℕ) (text : List ℕ) (what : DebugCommand) → AreCommands commands → IsCommand what → is_over commands what ≡ false → AreCommands (commands_with commands n text what)
one_more commands n text what is ranged few = record {
  ranged =
      All-append (λ (line : DebugLine). IsCommand line.what) commands (record { line = n; words = text; what = what } ∷ []) is.ranged
      (All-cons (λ (line : DebugLine). IsCommand line.what) (record { line = n; words = text; what = what }) [] ranged (All-nil (λ (line : DebugLine). IsCommand line.what)));
  count = omega (arith, length-append commands (record { line = n; words = text; what = what } ∷ []), room_commands commands what few);
  breaks = omega (arith, breaks_more commands n text what, room_breaks commands what few is.breaks);
}

ok_list : (x y : List DebugLine) → (let r : Result (List DebugLine) JobKind = Ok x in r) ≡ Ok y → x ≡ y
ok_list x y is = cc

entered_is : (commands new : List DebugLine) (n : ℕ) (words : List (List ℕ)) (what : DebugCommand) → AreCommands commands → IsCommand what → new_commands commands n words what ≡ Ok new → AreCommands new
entered_is commands new n words what is ranged made =
    elim (is_over commands what) as (λ b. is_over commands what ≡ b → (let r : Result (List DebugLine) JobKind = cond b (Err fault.Many) (Ok (commands_with commands n (join_words_of words) what)) in r) ≡ Ok new → AreCommands new) [
      | true ↦ λ over made. cc
      | false ↦ λ few made. subst AreCommands (ok_list _ new made) (one_more commands n (join_words_of words) what is ranged few)
    ] refl made

with_choice : (allowed words : Bool) (commands new : List DebugLine) (r : Result (List DebugLine) JobKind) → AreCommands commands → (r ≡ Ok new → AreCommands new) → cond (not allowed) (Err fault.Byte) (cond (not words) (Ok commands) r) ≡ Ok new → AreCommands new
with_choice false words commands new r is goes made = cc
with_choice true false commands new r is goes made = subst AreCommands (ok_list commands new made) is
with_choice true true commands new r is goes made = goes made

with_is : (version : JobVersion) (commands new : List DebugLine) (n : ℕ) (line : List ℕ) → AreCommands commands → line_commands version commands n line ≡ Ok new → AreCommands new
unfolding line_commands
with_is version commands new n line is made =
    with_choice (is_allowed line) (has_words line) commands new (command_of version (words_of line) >>= new_commands commands n (words_of line)) is
    (λ told.
    let s = then_ok (command_of version (words_of line)) (new_commands commands n (words_of line)) new told in
    entered_is commands new n (words_of line) s.0 is (command_ranged version (words_of line) s.0 s.1) s.2) made

then_is : (n : ℕ) (r : Result (List DebugLine) JobKind) (next : List DebugLine → Result (List DebugLine) (ℕ × JobKind)) (new : List DebugLine) → commands_then n r next ≡ Ok new → (mid : List DebugLine) × (r ≡ Ok mid) × (next mid ≡ Ok new)
then_is n (Ok mid) next new made = (mid, refl, made)
then_is n (Err kind) next new made = cc

ok_commands : (x y : List DebugLine) → (let r : Result (List DebugLine) (ℕ × JobKind) = Ok x in r) ≡ Ok y → x ≡ y
ok_commands x y is = cc

pub commands_are : (version : JobVersion) (lines : List (List ℕ)) (commands new : List DebugLine) (n : ℕ) → AreCommands commands → commands_from version commands n lines ≡ Ok new → AreCommands new
unfolding commands_from
commands_are version [] commands new n is made = subst AreCommands (ok_commands commands new made) is
commands_are version (line ∷ lines) commands new n is made =
    let s = then_is n (line_commands version commands n line) (λ next. commands_from version next (n + 1) lines) new made in
    commands_are version lines s.0 new (n + 1) (with_is version commands s.0 n line is s.1) s.2
