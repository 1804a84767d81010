-- What was found is the cause of the answer.
use Rattle.std.proofs.Common.{◌≡◌, ℕ, sym, ◌∙◌, arith}
use Rattle.prta_sheet.specs.Sheet.{Sheet}
use Rattle.prta_slack.specs.Answer.{slack_of, IsCause}
use Rattle.prta_slack.specs.Laws.{SlackHolds}
use Rattle.prta_slack.specs.declared.answer.Slack.{Slack}
use Rattle.prta_slack.specs.declared.answer.Slack.TheVariants.{Fails, Ticks, All as Whole}
use Rattle.prta_slack.proofs.finding.search.Goals as goal

answer_is : (sheet : Sheet) (task : ℕ) (slack : Slack) → SlackHolds sheet task → IsCause sheet task slack → slack ≡ slack_of sheet task
answer_is sheet task slack holds cause = sym ((holds.exactly slack).1 cause)

pub returns-in-Some-clause-slack : goal.returns-in-Some-clause-slack
returns-in-Some-clause-slack g c =
    let holds = c.slacks_hold.ensures c.args.sheet.now c.args.task c.tasks-tasks.ensures.accepted c.requires.task in
    answer_is c.args.sheet.now c.args.task (Fails c.in-Some.job.task c.in-Some.job.number c.in-Some.job.bound) holds (sym c.in-Some.ensures.first)

pub returns-then-passes_added-clause-slack : goal.returns-then-passes_added-clause-slack
returns-then-passes_added-clause-slack g c =
    let holds = c.slacks_hold.ensures c.args.sheet.now c.args.task c.tasks-tasks.ensures.accepted c.requires.task in
    answer_is c.args.sheet.now c.args.task (Whole c.room-room.result) holds record { whole = c.room-room.ensures.room; passes = sym c.passes_added.ensures.passes ∙ c.if-passes_added.true }

pub returns-else-passes_added-clause-slack : goal.returns-else-passes_added-clause-slack
returns-else-passes_added-clause-slack g c =
    let holds = c.slacks_hold.ensures c.args.sheet.now c.args.task c.tasks-tasks.ensures.accepted c.requires.task in
    answer_is c.args.sheet.now c.args.task (Ticks c.last_passing.result) holds
    record {
      below = omega (arith, c.last_passing.ensures.below, c.room-room.ensures.room);
      passes = c.last_passing.ensures.passes;
      next = c.last_passing.ensures.fails;
    }
