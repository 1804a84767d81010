-- The test of a list says what it tests.
use Rattle.std.proofs.Common.{◌≡◌, ℕ, ◌↔◌, Option, Some, None, true, is_none, nat_eq, List, refl, ap, sym}
use Rattle.std.proofs.lemmas.Bool.{and_from, and_parts, eqb-true, eq-eqb}
use Rattle.prta_mass.specs.Unit.{unit}
use Rattle.prta_mass.specs.Chances.{last, Dominates}
use Rattle.prta_sheet.specs.Sheet.{Task, hyperperiod}
use Rattle.prta_dist.proofs.Breaks.{unbroken}
use Rattle.prta_backlog.specs.Level.{Level}
use Rattle.prta_backlog.proofs.Chances.{size_image}
use Rattle.prta_certificate.specs.Certificate.{next_image, Certifies, broken_at, certifies}
use Rattle.prta_certificate.specs.Laws.{TestCertifies}

nothing_there : {X : Type 0} (o : Option X) → is_none o ≡ true → o ≡ None
nothing_there None h = refl
nothing_there (Some x) h = cc

module _ (tasks : List Task) (level : Level) (cells : List ℕ) where
  no_break : (broken_at tasks level cells ≡ None) ↔ Dominates cells (next_image tasks level cells)
  no_break = unbroken cells (next_image tasks level cells) (sym (size_image tasks level (hyperperiod tasks) cells))

  pub passes_from : Certifies tasks level cells → certifies tasks level cells ≡ true
  passes_from is = and_from (nat_eq (last cells) unit) (is_none (broken_at tasks level cells)) (eq-eqb (last cells) unit is.whole) (ap is_none (no_break.1 is.dominates))

  pub certifies_is : certifies tasks level cells ≡ true → Certifies tasks level cells
  certifies_is e =
      let parts : (nat_eq (last cells) unit ≡ true) × (is_none (broken_at tasks level cells) ≡ true) = and_parts _ _ e in
      record { whole = eqb-true (last cells) unit parts.0; dominates = no_break.0 (nothing_there (broken_at tasks level cells) parts.1) }

pub test_certifies : TestCertifies
test_certifies tasks level cells of some chances = (certifies_is tasks level cells, passes_from tasks level cells)
