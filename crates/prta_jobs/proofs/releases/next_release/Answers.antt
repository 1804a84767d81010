use Rattle.std.proofs.Common.{◌≡◌, ◌+◌, ◌*◌, arith}
use Rattle.prta_sheet.specs.Counts.{releases}
use Rattle.prta_jobs.proofs.NextRelease.{next_release_is}
use Rattle.prta_jobs.proofs.releases.next_release.Goals as goal

pub returns-clause-next : goal.returns-clause-next
returns-clause-next c =
    let at : c.offset.result + c.releases-number.result * c.period.result ≡ c.args.task.now.offset + releases c.args.task.now c.args.from * c.args.task.now.period = cc in
    next_release_is c.args.task.now c.args.from _ (omega arith) at
