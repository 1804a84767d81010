use Rattle.std.proofs.Common.{◌≡◌, ℕ, true, [], ◌∷◌, ◌++◌, List, length, drop, ap, ap₂, sym, ◌∙◌, below_more, arith}
use Rattle.std.specs.Str.Lines.{lines}
use Rattle.std.proofs.lemmas.Bool.{eqb-true}
use Rattle.std.proofs.lemmas.List.{map_more}
use Rattle.prta_number.specs.Decimal.{value_of}
use Rattle.prta_ticksim.specs.Choices.{is_number}
use Rattle.prta_ticksim.proofs.FirstLines.{IsNext, next_line, bad_at, none_bad, all_values, number_tells, no_number_tells, no_lines}
use Rattle.prta_ticksim.proofs.choices.read_choices.Goals as goal

pub returns-in-None : goal.returns-in-None
returns-in-None c =
    bad_at c.args.bytes.now c.loop-rest.count c.loop-rest.invariant.good _ _ (c.loop-rest.invariant.rest ∙ c.first_line.ensures.lines)
    (no_number_tells c.first_line.result.0.now (sym c.number_of.ensures ∙ c.in-None.is))

pub loop-rest-preserved : goal.loop-rest-preserved
loop-rest-preserved c =
    let all : List (List ℕ) = lines c.args.bytes.now in
    let line : List ℕ = c.first_line.result.0.now in
    let next : IsNext all c.loop-rest.count line (lines c.first_line.result.1.now) = next_line all c.loop-rest.count line (lines c.first_line.result.1.now) (c.loop-rest.invariant.rest ∙ c.first_line.ensures.lines) in
    let told : (is_number line ≡ true) × (c.in-Some.number ≡ value_of line) = number_tells line c.in-Some.number (sym c.number_of.ensures ∙ c.in-Some.is) in
    record {
      rest = next.rest;
      numbers =
          c.in_ok-push-in-Some.ensures.items
          ∙ ap₂ (λ (done : List ℕ) (number : ℕ). done ++ number ∷ []) c.loop-rest.invariant.numbers (told.1 ∙ ap value_of (sym next.is_line))
          ∙ sym (map_more value_of all c.loop-rest.count [] next.listed);
      good = below_more _ _ c.loop-rest.invariant.good (ap is_number next.is_line ∙ told.0);
      few = omega (arith, c.loop-rest.invariant.few, c.first_line.ensures.shorter);
    }

pub returns : goal.returns
returns c =
    let empty : length c.loop-rest.rest.now ≡ 0 = eqb-true (length c.loop-rest.rest.now) 0 (sym c.loop-rest-test.ensures) in
    let over : drop c.loop-rest.count (lines c.args.bytes.now) ≡ [] = c.loop-rest.invariant.rest ∙ no_lines c.loop-rest.rest.now empty in
    (none_bad c.args.bytes.now c.loop-rest.count c.loop-rest.invariant.good over, all_values c.args.bytes.now c.loop-rest.count c.loop-rest.invariant.good c.loop-rest.numbers.items c.loop-rest.invariant.numbers over)
