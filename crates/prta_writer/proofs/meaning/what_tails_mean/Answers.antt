use Rattle.prta_writer.proofs.TailMeanings.{levels_hold}
use Rattle.prta_writer.proofs.meaning.what_tails_mean.Goals as goal

pub returns : goal.returns
returns c = levels_hold c.verdicts_say.ensures c.steady_numbers_hold.ensures c.backlogs_have_tails.ensures c.tail_numbers_hold.ensures c.args.sheet.now c.tasks-tasks.ensures.accepted
