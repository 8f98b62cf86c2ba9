use Rattle.std.proofs.Common.{◌∙◌, ap, rules}
use Rattle.hv_asm.specs.Names.{register_of}
use Rattle.hv_asm.proofs.Naming.{register_none, register_fp, register_numbered, register_used}
use Rattle.hv_asm.proofs.names.register_named.Goals as goal

pub returns-in_default-clause-value : goal.returns-in_default-clause-value
returns-in_default-clause-value c = register_none c.args.text.now c.in_default.ensures

pub returns-then-eq-clause-value : goal.returns-then-eq-clause-value
returns-then-eq-clause-value c = register_fp c.in-Some.name.now (search rules) ∙ ap register_of c.in-Some.ensures

pub returns-in_default-find_number-clause-value : goal.returns-in_default-find_number-clause-value
returns-in_default-find_number-clause-value c =
    register_used c.in-Some.name.now c.find_use.result (search rules) (search rules) c.find_use.ensures.found c.find_use.ensures.none
    ∙ ap register_of c.in-Some.ensures

pub returns-clause-value : goal.returns-clause-value
returns-clause-value c =
    register_numbered c.in-Some.name.now c.in-Some-find_number.number (search rules) c.in-Some-find_number.ensures.found ∙ ap register_of c.in-Some.ensures
