-- Tasks that are drawn.
use Rattle.std.proofs.Common.{◌≡◌, ℕ, zero, suc, ◌+◌, ◌<◌, ◌≤◌, [], ◌∷◌, length, All, refl, ap, ◌∙◌, sym, arith}
use Rattle.std.specs.List.{AllByRecursion as Each}
use Rattle.std.proofs.lemmas.List.Elements.{All-from_recursion}
use Rattle.prta_mass.specs.Table.{Table, IsTable, greatest}
use Rattle.prta_sheet.specs.declared.limits.TheConstants.{TIME_LIMIT}
use Rattle.prta_sheet.specs.Sheet.{Task, task_at}
use Rattle.prta_sheet.specs.Accepted.{IsTask, HaveOwnNames}
use Rattle.prta_gen.specs.Generator.{state_after, points_from, drawn_period, drawn_count, drawn_task, after_task, drawn_tasks}
use Rattle.prta_gen.proofs.States.{drawn_below}
use Rattle.prta_gen.proofs.Periods.{IsPeriod, period_is}
use Rattle.prta_gen.proofs.Points.{points_length, points_are_a_table, short_times}
use Rattle.prta_gen.proofs.Names.{name_of, good_name, same_number}

-- what bounds the work of a task
pub record IsModest (task : Task) : Type 0 where
  pub period : IsPeriod task.period
  pub deadline : task.deadline ≤ 400
  pub one_table : length task.cycle ≡ 1
  pub few_points : All (λ table. length table ≤ 20) task.cycle

pub drawn_is_modest : (i x : ℕ) → IsModest (drawn_task i x)
drawn_is_modest i x =
    let count = drawn_below 19 (state_after 3 x) (omega arith) in
    let table : Table = points_from (drawn_count x) 0 (state_after 3 x) in
    record {
      period = period_is x;
      deadline = (period_is x).high;
      one_table = refl;
      few_points = All-from_recursion (λ table. length table ≤ 20) (table ∷ []) (omega (arith, points_length (drawn_count x) 0 (state_after 3 x)), tt);
    }

pub drawn_is_task : (i x : ℕ) → i < 12 → IsTask 2048 (drawn_task i x)
drawn_is_task i x low =
    let period = period_is x in
    let least = period.low in
    let most = period.high in
    let count = drawn_below 19 (state_after 3 x) (omega arith) in
    let table : Table = points_from (drawn_count x) 0 (state_after 3 x) in
    record {
      name = good_name i low;
      offset = drawn_below (drawn_period x) (state_after 2 x) (omega arith);
      period_low = omega arith;
      period_high = omega arith;
      deadline_low = omega arith;
      deadline_high = omega arith;
      cycle_low = omega arith;
      cycle_high = omega arith;
      tables = All-from_recursion IsTable (table ∷ []) (points_are_a_table (drawn_count x) (state_after 3 x) (omega arith) (omega arith), tt);
      times = All-from_recursion (λ table. greatest table ≤ TIME_LIMIT) (table ∷ []) (let short = short_times (drawn_count x) (state_after 3 x) (omega arith) (omega arith) in omega arith, tt);
      allow = record { part = omega arith; whole_low = omega arith; whole_high = omega arith };
    }

-- what holds of each task that is drawn
each_drawn : (P : Task → Type 0) (i n x : ℕ) → ((k y : ℕ) → k < i + n → P (drawn_task k y)) → Each P (drawn_tasks i n x)
each_drawn P i zero x h = tt
each_drawn P i (suc n) x h = (h i x (omega arith), each_drawn P (i + 1) n (after_task x) (λ k y low. h k y (omega arith)))

pub all_drawn : (P : Task → Type 0) (n x : ℕ) → ((k y : ℕ) → k < n → P (drawn_task k y)) → All P (drawn_tasks 0 n x)
all_drawn P n x h = All-from_recursion P (drawn_tasks 0 n x) (each_drawn P 0 n x (λ k y low. h k y (omega arith)))

length_from : (i n x : ℕ) → length (drawn_tasks i n x) ≡ n
length_from i zero x = refl
length_from i (suc n) x = let rest = length_from (i + 1) n (after_task x) in omega (arith, rest)

pub tasks_length : (n x : ℕ) → length (drawn_tasks 0 n x) ≡ n
tasks_length n x = length_from 0 n x

name_at : (i n x k : ℕ) → k < n → (task_at (drawn_tasks i n x) k).name ≡ name_of (i + k)
name_at i zero x k low = absurd (omega arith)
name_at i (suc n) x zero low = let here : i ≡ i + 0 = omega arith in ap name_of here
name_at i (suc n) x (suc k) low = let next : i + 1 + k ≡ i + suc k = omega arith in name_at (i + 1) n (after_task x) k (omega arith) ∙ ap name_of next

pub own_names : (n x : ℕ) → n ≤ 12 → HaveOwnNames (drawn_tasks 0 n x)
own_names n x few i j before low same =
    let size = tasks_length n x in
    let names : name_of (0 + i) ≡ name_of (0 + j) = sym (name_at 0 n x i (omega arith)) ∙ same ∙ name_at 0 n x j (omega arith) in
    let numbers = same_number (0 + i) (0 + j) (omega arith) (omega arith) names in
    omega arith
