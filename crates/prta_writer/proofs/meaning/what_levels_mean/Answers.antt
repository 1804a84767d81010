use Rattle.prta_writer.proofs.LevelMeanings.{numbers_hold}
use Rattle.prta_writer.proofs.meaning.what_levels_mean.Goals as goal

pub returns : goal.returns
returns c = numbers_hold c.steps_are_lists.ensures c.test_certifies.ensures c.steady_numbers_hold.ensures c.args.sheet.now c.tasks-tasks.ensures.accepted c.args.certificate.now c.requires
