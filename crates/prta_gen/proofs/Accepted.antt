-- Every generated sheet meets the conditions.
use Rattle.std.proofs.Common.{ℕ, ◌%◌, ◌^◌, ◌≤◌, List, length, refl, arith}
use Rattle.prta_mass.specs.Table.{FaultlessPairs}
use Rattle.prta_mass.specs.declared.table.TheConstants.{POINT_LIMIT}
use Rattle.prta_mass.proofs.Faults.{IsTable-from_none}
use Rattle.prta_mass.proofs.Faultless.{no_table_fault}
use Rattle.prta_sheet.specs.Sheet.{Task, Sheet, horizon}
use Rattle.prta_sheet.specs.Accepted.{IsTask, IsAccepted}
use Rattle.prta_sheet.proofs.Faultless.{faultless}
use Rattle.prta_gen.specs.Generator.{drawn_tasks, generated}
use Rattle.prta_gen.specs.Laws.{GeneratedAreAccepted}
use Rattle.prta_gen.proofs.Tasks.{IsModest, drawn_is_modest, drawn_is_task, all_drawn, tasks_length, own_names}
use Rattle.prta_gen.proofs.Jobs.{short_hyperperiod, jobs_within}
use Rattle.prta_gen.proofs.Works.{work_within}

generated_is_accepted : (seed n : ℕ) → 1 ≤ n → n ≤ 12 → IsAccepted (generated seed n)
generated_is_accepted seed n some few =
    let x : ℕ = seed % 2 ^ 32 in
    let sheet : Sheet = generated seed n in
    let tasks : List Task = drawn_tasks 0 n x in
    let size = tasks_length n x in
    let modest = all_drawn IsModest n x (λ k y low. drawn_is_modest k y) in
    let hyperperiod = short_hyperperiod tasks modest in
    let within : length tasks ≤ 12 = omega arith in
    let short : horizon sheet ≤ 1600 = omega arith in
    let jobs = jobs_within tasks modest (horizon sheet) 32 within (omega arith) in
    record {
      settings = record { cap_low = omega arith; cap_high = omega arith; hyperperiods_low = omega arith; hyperperiods_high = omega arith; turns = omega arith; support = tt };
      some = omega arith;
      few = omega arith;
      tasks = all_drawn (IsTask 2048) n x (λ k y low. drawn_is_task k y (omega arith));
      names = own_names n x few;
      short_hyperperiod = omega arith;
      jobs = omega arith;
      work = work_within sheet refl modest within short;
    }

faultless_pairs : FaultlessPairs
faultless_pairs pairs = (IsTable-from_none POINT_LIMIT pairs, no_table_fault POINT_LIMIT pairs)

pub generated_are_accepted : GeneratedAreAccepted
generated_are_accepted seed n some few = faultless faultless_pairs (generated seed n) (generated_is_accepted seed n some few)
