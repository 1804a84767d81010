-- Laws of the two numbers and their ledger.
use Rattle.std.specs.Prelude.{◌≡◌, ℕ, ◌+◌, ◌-◌, ◌*◌, ◌^◌, ◌<◌, ◌≤◌, false, List, length, map}
use Rattle.std.specs.List.{range_with_len}
use Rattle.prta_mass.specs.Unit.{unit}
use Rattle.prta_sheet.specs.Sheet.{Sheet}
use Rattle.prta_sheet.specs.Job.{nth_job}
use Rattle.prta_sheet.specs.Counts.{job_count}
use Rattle.prta_sheet.specs.Chance.{miss_weight, chance_total}
use Rattle.prta_sheet.specs.Accepted.{IsAccepted}
use Rattle.prta_backlog.specs.Level.{Level}
use Rattle.prta_backlog.specs.Room.{own_jobs, room_for}
use Rattle.prta_response.specs.Chance.{IsOrderFor}
use Rattle.prta_dual.specs.Numbers.{lower, upper}
use Rattle.prta_dual.specs.Entries.{entries, job_sum}

-- the two numbers of each analysed own job come no further apart than the job's entries add up to
abbrev pub GapIsNoted : Type 0
GapIsNoted =
    (sheet : Sheet) (level : Level) (k : ℕ) → IsAccepted sheet → level.own < length sheet.tasks → level.higher level.own ≡ false → k < job_count sheet level.own →
    upper sheet level (nth_job sheet.tasks level.own k) ≤ lower sheet level (nth_job sheet.tasks level.own k) + job_sum sheet level (nth_job sheet.tasks level.own k)

-- so where they add up to nothing, both numbers are the exact chance, under every order in which exactly the higher tasks stand above
pub record IsExact (sheet : Sheet) (level : Level) (order : List ℕ) (k : ℕ) : Type 0 where
  pub equal : lower sheet level (nth_job sheet.tasks level.own k) ≡ upper sheet level (nth_job sheet.tasks level.own k)
  pub exact : unit * miss_weight sheet.tasks order (nth_job sheet.tasks level.own k)
      ≡ upper sheet level (nth_job sheet.tasks level.own k) * chance_total sheet.tasks (nth_job sheet.tasks level.own k)

abbrev pub EmptyLedgerIsExact : Type 0
EmptyLedgerIsExact =
    (sheet : Sheet) (level : Level) (order : List ℕ) (k : ℕ) → IsAccepted sheet → level.own < length sheet.tasks → IsOrderFor sheet.tasks level order →
    k < job_count sheet level.own → job_sum sheet level (nth_job sheet.tasks level.own k) ≡ 0 → IsExact sheet level order k

-- the room is enough for all entries of an analysis, whatever tasks are above, and for one more step of a level run
abbrev pub EntriesHaveRoom : Type 0
EntriesHaveRoom =
    (sheet : Sheet) (level : Level) → IsAccepted sheet → level.own < length sheet.tasks → level.higher level.own ≡ false →
    length (entries sheet level) + 26 ≤ room_for sheet

-- they can be counted in 64 bits, so what takes any number of them has room
abbrev pub EntriesAreCountable : Type 0
EntriesAreCountable = (sheet : Sheet) → IsAccepted sheet → room_for sheet ≤ 2 ^ 64 - 1

-- the analysed jobs of a task, in their order, are its jobs of the numbers from 0 on
abbrev pub OwnJobsInTurn : Type 0
OwnJobsInTurn =
    (sheet : Sheet) (i : ℕ) → IsAccepted sheet → i < length sheet.tasks →
    own_jobs sheet i ≡ map (nth_job sheet.tasks i) (range_with_len 0 (job_count sheet i))
