-- Each of the ratios is above 0 and below 1, with small numbers.
use Rattle.std.proofs.Common.{◌<◌, ◌≤◌, Contains, All, arith}
use Rattle.std.specs.List.{AllByRecursion as Each}
use Rattle.std.proofs.lemmas.List.Elements.{All-from_recursion, All-contains}
use Rattle.prta_tail.specs.declared.ratio.Ratio.{Ratio}
use Rattle.prta_tail.specs.Ratios.{ratios, IsProper}

one : (r : Ratio) → 0 < r.p → r.p < r.q → r.q ≤ 1024 → IsProper r
one r a b c = record { some = a; below_one = b; short = c }

each : Each IsProper ratios
each = (one _ (omega arith) (omega arith) (omega arith), (one _ (omega arith) (omega arith) (omega arith), (one _ (omega arith) (omega arith) (omega arith), (one _ (omega arith) (omega arith) (omega arith), (one _ (omega arith) (omega arith) (omega arith), (one _ (omega arith) (omega arith) (omega arith), (one _ (omega arith) (omega arith) (omega arith), (one _ (omega arith) (omega arith) (omega arith), (one _ (omega arith) (omega arith) (omega arith), (one _ (omega arith) (omega arith) (omega arith), tt))))))))))

pub all_proper : All IsProper ratios
all_proper = All-from_recursion IsProper ratios each

pub proper : (r : Ratio) → Contains ratios r → IsProper r
proper r listed = All-contains IsProper ratios r all_proper listed
