use Rattle.std.proofs.Common.{◌≡◌, ◌+◌, ◌≤◌, Bool, true, false, refl, ap, ap₂, sym, ◌∙◌, arith}
use mir.Val.{bool_byte}
use Rattle.prta_sheet.specs.Weights.{one_if}
use Rattle.prta_mass.specs.Support.{is_support}
use Rattle.prta_writer.proofs.AddedUp.{sum_more}
use Rattle.prta_writer.proofs.curves.has_few_points.Goals as goal

-- a place more counts at most 1
counted : (b : Bool) → bool_byte b ≡ one_if b
counted true = refl
counted false = refl

at_most_one : (b : Bool) → one_if b ≤ 1
at_most_one true = omega arith
at_most_one false = omega arith

pub loop-k-init : goal.loop-k-init
loop-k-init c = record { counted = refl; few = omega arith }

pub overflow_add-count : goal.overflow_add-count
overflow_add-count c = omega (arith, counted c.is_support.result, at_most_one c.is_support.result, c.loop-k.invariant.few, c.loop-k-test.true, c.ranges.cap)

pub loop-k-preserved : goal.loop-k-preserved
loop-k-preserved c = record {
  counted =
      ap₂ (λ a b. a + b) c.loop-k.invariant.counted (counted c.is_support.result ∙ ap one_if c.is_support.ensures)
      ∙ sym (sum_more (λ i. one_if (is_support c.args.support c.args.cap i)) c.loop-k.k);
  few = omega (arith, counted c.is_support.result, at_most_one c.is_support.result, c.loop-k.invariant.few);
}
