use Rattle.std.proofs.Common.{◌≡◌, ℕ, ◌%◌, ◌||◌, ◌*◌, Bool, not, nat_eq, length, take, get_or, ap, sym, ◌∙◌, arith}
use Rattle.std.specs.List.{range_with_len, list_any}
use Rattle.std.proofs.lemmas.List.{take_all}
use Rattle.std.proofs.lemmas.List.Edits.{fill_by_more}
use Rattle.std.proofs.lemmas.List.Folds.{list_any_more}
use Rattle.std.proofs.lemmas.List.FromFn.{fill_by_all, length-range_with_len, get_or-range_with_len}
use Rattle.prta_mass.specs.Unit.{unit}
use Rattle.prta_mass.specs.Table.{total}
use Rattle.prta_mass.specs.Direction.{divided}
use Rattle.prta_dist.specs.Addition.{weighted, cell_added, leaves_rest}
use Rattle.prta_dist.proofs.Chances.{weighted_most}
use Rattle.prta_convplain.proofs.plain.PlainKernel.convolve.Goals as goal

pub rounded_quotient-cell-requires : goal.rounded_quotient-cell-requires
rounded_quotient-cell-requires c =
    let k : ℕ = c.loop-k.k in
    let sum : c.weighted_sum.result ≡ weighted c.args.table.now c.args.from.now k = c.weighted_sum.ensures ∙ ap (λ t. weighted t c.args.from.now k) c.points-points.ensures.pairs in
    omega (arith, sum, weighted_most c.args.table.now c.args.from.now k c.requires.chances, ap (λ w. w * unit) c.divisor-divisor.ensures.total)

pub loop-k-preserved : goal.loop-k-preserved
loop-k-preserved c =
    let k : ℕ = c.loop-k.k in
    let n : ℕ = length c.args.from.now in
    let sum : c.weighted_sum.result ≡ weighted c.args.table.now c.args.from.now k = c.weighted_sum.ensures ∙ ap (λ t. weighted t c.args.from.now k) c.points-points.ensures.pairs in
    let total_is : c.divisor-divisor.result.total ≡ total c.args.table.now = c.divisor-divisor.ensures.total in
    let cell : c.rounded_quotient-cell.result.0 ≡ cell_added c.args.dir c.args.table.now c.args.from.now k =
    c.rounded_quotient-cell.ensures.cell ∙ ap (λ s. divided c.args.dir s c.divisor-divisor.result.total) sum ∙ ap (divided c.args.dir (weighted c.args.table.now c.args.from.now k)) total_is in
    let rest : c.rounded_quotient-cell.result.1 ≡ leaves_rest c.args.table.now c.args.from.now k =
    c.rounded_quotient-cell.ensures.rest ∙ ap (λ s. not (nat_eq (s % c.divisor-divisor.result.total) 0)) sum ∙ ap (λ w. not (nat_eq (weighted c.args.table.now c.args.from.now k % w) 0)) total_is in
    let test : ℕ → Bool = leaves_rest c.args.table.now c.args.from.now in
    let place : get_or (range_with_len 0 n) k 0 ≡ k = get_or-range_with_len 0 n k 0 (omega arith) ∙ omega arith in
    record {
      cells = rw cell (fill_by_more (cell_added c.args.dir c.args.table.now c.args.from.now) c.loop-k.to k 0 (omega arith) c.loop-k.invariant.cells);
      rests = ap (λ b. b || c.rounded_quotient-cell.result.1) c.loop-k.invariant.rests
          ∙ ap (λ b. list_any test (take k (range_with_len 0 n)) || b) (rest ∙ ap test (sym place))
          ∙ sym (list_any_more test (range_with_len 0 n) k 0 (omega (arith, length-range_with_len 0 n)));
    }

pub returns-clause-cells : goal.returns-clause-cells
returns-clause-cells c =
    fill_by_all (cell_added c.args.dir c.args.table.now c.args.from.now) c.loop-k.to (length c.args.from.now) 0 (omega arith) (λ k h. c.loop-k.invariant.cells k (omega arith))

pub returns-clause-rounded : goal.returns-clause-rounded
returns-clause-rounded c =
    c.loop-k.invariant.rests ∙ ap (list_any (leaves_rest c.args.table.now c.args.from.now)) (take_all c.loop-k.k (range_with_len 0 (length c.args.from.now)) (omega (arith, length-range_with_len 0 (length c.args.from.now))))
