use Rattle.std.proofs.Common.{ap, arith}
use Rattle.hv_job.specs.Limited.{counted_of}
use Rattle.hv_job.proofs.limited.Amounts.add.Goals as goal

pub overflow_cast-amount : goal.overflow_cast-amount
overflow_cast-amount c = omega (arith, c.requires c.in-Some.share c.in-Some.is)

pub overflow_add-self : goal.overflow_add-self
overflow_add-self c =
    omega (arith, c.requires c.in-Some.share c.in-Some.is, ap (counted_of c.args.self.now) c.in-Machines.is)

pub overflow_add-self-in-Watches : goal.overflow_add-self-in-Watches
overflow_add-self-in-Watches c =
    omega (arith, c.requires c.in-Some.share c.in-Some.is, ap (counted_of c.args.self.now) c.in-Watches.is)

pub overflow_add-self-in-Dumps : goal.overflow_add-self-in-Dumps
overflow_add-self-in-Dumps c =
    omega (arith, c.requires c.in-Some.share c.in-Some.is, ap (counted_of c.args.self.now) c.in-Dumps.is)

pub overflow_add-self-in-ImageBytes : goal.overflow_add-self-in-ImageBytes
overflow_add-self-in-ImageBytes c =
    omega (arith, c.requires c.in-Some.share c.in-Some.is, ap (counted_of c.args.self.now) c.in-ImageBytes.is)
