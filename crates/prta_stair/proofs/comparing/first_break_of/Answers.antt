use Rattle.std.proofs.Common.{◌≡◌, ℕ, ◌+◌, ◌<◌, ◌≤◌, ◌∙◌, Some, length, ap, subst, arith}
use Rattle.prta_stair.specs.Steps.{value_at, place, height}
use Rattle.prta_stair.proofs.Values.{before_none}
use Rattle.prta_stair.proofs.Comparisons.{Clear, clear_none, clear_more, clear_all, broken_at}
use Rattle.prta_stair.proofs.comparing.first_break_of.Goals as goal

pub loop-i-init : goal.loop-i-init
loop-i-init c = record {
  reached = λ h. record { within = omega arith; passed = λ n l. absurd (omega arith) };
  clear = clear_none c.args.steps.now c.args.image.now c.requires.rising c.requires.image;
}

pub returns-then-got-had : goal.returns-then-got-had
returns-then-got-had c cap under =
    let steps = c.args.steps.now in
    let image = c.args.image.now in
    let i = c.loop-i.i in
    let got : c.value-got.result ≡ value_at image (place steps i) = c.value-got.ensures ∙ before_none (value_at image) (place steps i) in
    let less : value_at image (place steps i) < height steps i = omega (arith, got, c.if-got-had.true) in
    ap (λ (v : ℕ). Some (record { place = place steps i; had = height steps i; got = v })) got
    ∙ broken_at steps image c.requires.rising c.requires.image cap i c.loop-i-test.true under less c.loop-i.invariant.clear

pub loop-i-preserved : goal.loop-i-preserved
loop-i-preserved c =
    let steps = c.args.steps.now in
    let image = c.args.image.now in
    let i = c.loop-i.i in
    let got : c.value-got.result ≡ value_at image (place steps i) = c.value-got.ensures ∙ before_none (value_at image) (place steps i) in
    let low : height steps i ≤ value_at image (place steps i) = omega (arith, got, c.if-got-had.false) in
    record {
      reached = λ h. record {
        within = c.reach-j.ensures.reached.within;
        passed = λ n l. omega (arith, c.reach-j.ensures.reached.passed n l, (c.requires.rising i (i + 1) (omega arith) h).0);
      };
      clear = clear_more steps image c.requires.rising c.requires.image i c.loop-i-test.true low c.loop-i.invariant.clear;
    }

pub returns : goal.returns
returns c cap under =
    let past : c.loop-i.i ≡ length c.args.steps.now = omega arith in
    clear_all c.args.steps.now c.args.image.now c.requires.rising c.requires.image cap (subst (Clear c.args.steps.now c.args.image.now) past c.loop-i.invariant.clear)
