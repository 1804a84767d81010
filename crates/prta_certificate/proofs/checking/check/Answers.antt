use Rattle.prta_certificate.proofs.checking.check.Goals as goal

pub returns-clause-none : goal.returns-clause-none
returns-clause-none g c = (
  λ none. record { whole = c.requires.whole; dominates = c.go_on-found.ensures.none.0 none },
  λ certified. c.go_on-found.ensures.none.1 certified.dominates,
)
