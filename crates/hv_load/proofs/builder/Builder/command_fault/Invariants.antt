use Rattle.std.proofs.Common.{◌≡◌, drop}
use Rattle.hv_load.specs.Build.{command_fault}
use Rattle.hv_load.proofs.builder.Builder.command_fault.Given as goal

-- the commands that were passed are not refused
abbrev pub invariant-loop-command : goal.invariant-loop-command
invariant-loop-command l = command_fault l.self (drop l.command-index l.commands) ≡ command_fault l.self l.commands
