use Rattle.prta_session.proofs.Edits.{edits_keep_numbers as law}
use Rattle.prta_session.proofs.laws.edits_keep_numbers.Goals as goal

pub returns : goal.returns
returns c = law c.numbers_depend_on.ensures c.edits_keep_jobs.ensures
