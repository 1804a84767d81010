use Rattle.prta_writer.proofs.Meanings.{are_around, are_close, chances_pass}
use Rattle.prta_writer.proofs.meaning.what_numbers_mean.Goals as goal

pub returns-clause-around : goal.returns-clause-around
returns-clause-around c = are_around c.jobs_are_before.ensures c.own_jobs_in_turn.ensures c.args.sheet.now c.tasks-tasks.ensures.accepted c.numbers_are_around.ensures

pub returns-clause-close : goal.returns-clause-close
returns-clause-close c = are_close c.jobs_are_before.ensures c.own_jobs_in_turn.ensures c.args.sheet.now c.tasks-tasks.ensures.accepted c.gap_is_noted.ensures

pub returns-clause-passing : goal.returns-clause-passing
returns-clause-passing c =
    chances_pass c.jobs_are_before.ensures c.args.sheet.now
    (are_around c.jobs_are_before.ensures c.own_jobs_in_turn.ensures c.args.sheet.now c.tasks-tasks.ensures.accepted c.numbers_are_around.ensures)
