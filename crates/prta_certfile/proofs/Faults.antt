-- What it tells that there is no fault.
use Rattle.std.proofs.Common.{◌≡◌, ℕ, Bool, true, false, not, nat_lt, Option, Some, None, List, bytes_eq, refl, eqb-true, eq-eqb}
use Rattle.std.proofs.lemmas.Bool.{ltb-true, lt-ltb}
use Rattle.std.proofs.lemmas.List.Sums.{AllPass-from_list_all, list_all-from_AllPass}
use Rattle.std.proofs.lemmas.Slice.Eq.{bytes_eq-Decides}
use Rattle.prta_mass.specs.Unit.{unit}
use Rattle.prta_mass.specs.Table.{or_else, when}
use Rattle.prta_certfile.specs.declared.level.CertLevel.{CertLevel}
use Rattle.prta_certfile.specs.declared.level.CertLevel.TheVariants.{Steps, OverFull, BeyondCap}
use Rattle.prta_certfile.specs.declared.fault.CertFault.TheVariants.{NotIncreasing, PlaceTooLarge, NotWhole}
use Rattle.prta_certfile.specs.Steps.{IsSteps, AreBelow, IsWholeSteps, last_value}
use Rattle.prta_certfile.specs.Reading.{rises, are_below, is_whole, level_fault}
use Rattle.prta_certfile.specs.Laws.{IsLevel}
use Rattle.prta_certfile.proofs.StepLists.{climbs_tested, tested_climbs, climbs_from_steps, whole_climbs}

pub first_none : {X : Type 0} (a b : Option X) → or_else a b ≡ None → a ≡ None
first_none None b h = refl
first_none (Some x) b h = absurd (cc)

pub next_none : {X : Type 0} (a b : Option X) → or_else a b ≡ None → b ≡ None
next_none None b h = h
next_none (Some x) b h = absurd (cc)

pub both_none : {X : Type 0} (a b : Option X) → a ≡ None → b ≡ None → or_else a b ≡ None
both_none a b x y = rw x y

pub passes : {X : Type 0} (t : Bool) (x : X) → when (not t) x ≡ None → t ≡ true
passes true x h = refl
passes false x h = absurd (cc)

pub no_fault : {X : Type 0} (t : Bool) (x : X) → t ≡ true → when (not t) x ≡ None
no_fault t x e = rw e refl

pub same_bytes : (xs ys : List ℕ) → bytes_eq xs ys ≡ true → xs ≡ ys
same_bytes xs ys e = (bytes_eq-Decides xs ys).0 e

pub bytes_same : (xs : List ℕ) → bytes_eq xs xs ≡ true
bytes_same xs = (bytes_eq-Decides xs xs).1 refl

-- ---- a level

pub steps_faultless : (cap n : ℕ) (steps : List (ℕ × ℕ)) → level_fault cap n (Steps steps) ≡ None → IsLevel cap (Steps steps)
steps_faultless cap n steps h =
    let rest = next_none (when (not (rises steps)) (NotIncreasing n)) (or_else (when (not (are_below cap steps)) (PlaceTooLarge n)) (when (not (is_whole steps)) (NotWhole n))) h in
    let up = passes (rises steps) (NotIncreasing n) (first_none (when (not (rises steps)) (NotIncreasing n)) _ h) in
    let under = passes (are_below cap steps) (PlaceTooLarge n) (first_none (when (not (are_below cap steps)) (PlaceTooLarge n)) (when (not (is_whole steps)) (NotWhole n)) rest) in
    let full = passes (is_whole steps) (NotWhole n) (next_none (when (not (are_below cap steps)) (PlaceTooLarge n)) (when (not (is_whole steps)) (NotWhole n)) rest) in
    let whole : IsWholeSteps steps = eqb-true (last_value steps) unit full in
    let below : AreBelow cap steps = λ k d low. ltb-true _ _ (AllPass-from_list_all (λ (step : ℕ × ℕ). nat_lt step.0 cap) steps under k d low) in
    (whole_climbs steps (climbs_tested 0 0 steps up) whole, below, whole)

-- pairs that rise up to the unit are steps
pub steps_pass : (steps : List (ℕ × ℕ)) → rises steps ≡ true → is_whole steps ≡ true → IsSteps steps
steps_pass steps up full = whole_climbs steps (climbs_tested 0 0 steps up) (eqb-true (last_value steps) unit full)

pub faultless_steps : (cap n : ℕ) (steps : List (ℕ × ℕ)) → IsLevel cap (Steps steps) → level_fault cap n (Steps steps) ≡ None
faultless_steps cap n steps (is, below, whole) =
    both_none (when (not (rises steps)) (NotIncreasing n)) _ (no_fault (rises steps) (NotIncreasing n) (tested_climbs 0 0 steps (climbs_from_steps steps is)))
    (both_none (when (not (are_below cap steps)) (PlaceTooLarge n)) _ (no_fault (are_below cap steps) (PlaceTooLarge n) (list_all-from_AllPass (λ (step : ℕ × ℕ). nat_lt step.0 cap) steps (λ k d low. lt-ltb _ _ (below k d low))))
    (no_fault (is_whole steps) (NotWhole n) (eq-eqb (last_value steps) unit whole)))

pub faultless_level : (cap n : ℕ) (level : CertLevel) → IsLevel cap level → level_fault cap n level ≡ None
faultless_level cap n (Steps steps) is = faultless_steps cap n steps is
faultless_level cap n (OverFull work hyperperiod) is = refl
faultless_level cap n (BeyondCap peak) is = refl
