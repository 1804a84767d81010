-- Sums for jobs of worked ledgers.
use Rattle.std.specs.Prelude.{◌≡◌, ℕ, List, [], ◌∷◌, ◌++◌}
use Rattle.prta_mass.specs.declared.direction.Dir.{Dir}
use Rattle.prta_mass.specs.declared.direction.Dir.TheVariants.{Up, Down}
use Rattle.prta_ledger.specs.declared.entry.Entry.{Entry}
use Rattle.prta_ledger.specs.declared.entry.Kind.{Kind}
use Rattle.prta_ledger.specs.declared.entry.Kind.TheVariants.{Round, Cut, Delay}
use Rattle.prta_ledger.specs.Sums.{sum_for}

abbrev pub entry : Dir → Kind → ℕ → ℕ → ℕ → ℕ → Entry
entry dir kind task job op amount = record { dir = dir; kind = kind; task = task; job = job; op = op; amount = amount }

-- three jobs of task 0: in Up the cuts halve, in Down each cuts a half of the unit
abbrev pub cuts : List Entry
cuts =
    entry Up Cut 0 0 1 576460752303423488
    ∷ entry Up Cut 0 1 2 288230376151711744
    ∷ entry Up Cut 0 2 3 144115188075855872
    ∷ entry Down Cut 0 0 1 576460752303423488
    ∷ entry Down Cut 0 1 2 576460752303423488
    ∷ entry Down Cut 0 2 3 576460752303423488
    ∷ []

-- one job of task 1, delayed once
abbrev pub delayed : List Entry
delayed =
    entry Up Round 1 0 1 1
    ∷ entry Up Delay 1 0 1 1
    ∷ entry Down Round 1 0 1 1
    ∷ entry Down Round 1 0 2 1
    ∷ entry Down Delay 1 0 1 1
    ∷ []

pub record WorkedSums : Type 0 where
  pub first_job : sum_for 0 0 cuts ≡ 1152921504606846976
  pub second_job : sum_for 0 1 cuts ≡ 2017612633061982208
  pub third_job : sum_for 0 2 cuts ≡ 2738188573441261568
  pub other_task : sum_for 1 2 cuts ≡ 0
  pub all_kinds : sum_for 1 0 delayed ≡ 5
  pub delays_of_the_job_alone : sum_for 1 1 delayed ≡ 3
  pub both_tasks : sum_for 1 0 (cuts ++ delayed) ≡ 5
