use Rattle.std.proofs.Common.{◌∙◌, ap}
use Rattle.hv_asm.specs.Names.{operation_of}
use Rattle.hv_asm.proofs.Naming.{operation_is, operation_none}
use Rattle.hv_asm.proofs.names.operation_named.Goals as goal

pub returns-in_default : goal.returns-in_default
returns-in_default c = operation_none c.args.text.now c.in_default.ensures

pub returns : goal.returns
returns c =
    operation_is c.in-Some.name.now c.find_operation.result c.find_operation.ensures.found c.find_operation.ensures.none ∙ ap operation_of c.in-Some.ensures
