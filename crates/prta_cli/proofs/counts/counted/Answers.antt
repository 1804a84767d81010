use Rattle.prta_cli.proofs.Refusals.{safe_keeping}
use Rattle.prta_cli.proofs.counts.counted.Goals as goal

pub returns-in-AtMost-clause-safe : goal.returns-in-AtMost-clause-safe
returns-in-AtMost-clause-safe c =
    safe_keeping c.counted_sheets_are_accepted.ensures c.reduced_sheets_are_accepted.ensures c.reduced_sheets_are_safe.ensures c.args.kept c.requires c.args.sheet.now c.tasks-tasks.ensures.accepted c.args.bytes.now
