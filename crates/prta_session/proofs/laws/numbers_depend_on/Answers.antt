use Rattle.prta_session.proofs.Dependence.{numbers_depend_on as law}
use Rattle.prta_session.proofs.laws.numbers_depend_on.Goals as goal

pub returns : goal.returns
returns c = law
