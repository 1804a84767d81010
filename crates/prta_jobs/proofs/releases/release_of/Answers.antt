use Rattle.std.proofs.Common.{◌-◌, ◌^◌, arith}
use Rattle.std.proofs.lemmas.Nat.{mul-le}
use Rattle.prta_jobs.proofs.releases.release_of.Goals as goal

pub overflow_mul-result : goal.overflow_mul-result
overflow_mul-result c = omega (arith, mul-le c.args.number c.period.result (2 ^ 32 - 1) (2 ^ 32 - 1) (omega arith) (omega arith))

pub overflow_add-result : goal.overflow_add-result
overflow_add-result c = omega (arith, mul-le c.args.number c.period.result (2 ^ 32 - 1) (2 ^ 32 - 1) (omega arith) (omega arith))
