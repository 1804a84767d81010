-- The lines of the texts that the program writes.
use Rattle.std.specs.Prelude.{ℕ, ◌++◌, Option, Some, None, List, codes, decimal}
use Rattle.prta_mass.specs.Decimal.{decimal_below, decimal_above}
use Rattle.prta_mass.specs.declared.direction.Dir.{Dir}
use Rattle.prta_mass.specs.declared.direction.Dir.TheVariants.{Up, Down}
use Rattle.prta_sheet.specs.Sheet.{Task, task_at}
use Rattle.prta_sheet.specs.Job.{Job, deadline_of}
use Rattle.prta_dist.specs.declared.effect.Break.{Break}
use Rattle.prta_ledger.specs.declared.entry.Entry.{Entry}
use Rattle.prta_ledger.specs.declared.entry.Kind.{Kind}
use Rattle.prta_ledger.specs.declared.entry.Kind.TheVariants.{Round, Cut, Resample, Delay}
use Rattle.prta_dual.specs.declared.bounds.Bounds.{Bounds}
use Rattle.prta_tail.specs.declared.ratio.Ratio.{Ratio}

-- a sheet's hyperperiod and its number of analysed jobs
unfoldable pub count_line : ℕ → ℕ → List ℕ
count_line hyperperiod jobs = codes "hyperperiod " ++ decimal hyperperiod ++ codes " jobs " ++ decimal jobs ++ codes "\n"

-- a job, by its task's name, its number, release and absolute deadline, with its two numbers, each as it is and as a decimal
unfoldable pub job_line : List ℕ → ℕ → ℕ → ℕ → Bounds → List ℕ
job_line name number release deadline bounds =
    codes "job " ++ name ++ codes " " ++ decimal number
    ++ codes " release " ++ decimal release ++ codes " deadline " ++ decimal deadline
    ++ codes " lower " ++ decimal bounds.lower ++ codes " " ++ decimal_below bounds.lower
    ++ codes " upper " ++ decimal bounds.upper ++ codes " " ++ decimal_above bounds.upper ++ codes "\n"

abbrev pub line_of_job : List Task → Job → Bounds → List ℕ
line_of_job tasks job bounds = job_line (task_at tasks job.task).name job.number job.release (deadline_of tasks job) bounds

-- the same as a record of six fields, none of which needs quotes
unfoldable pub csv_line : List ℕ → ℕ → ℕ → ℕ → Bounds → List ℕ
csv_line name number release deadline bounds =
    name ++ codes "," ++ decimal number ++ codes "," ++ decimal release ++ codes "," ++ decimal deadline
    ++ codes "," ++ decimal bounds.lower ++ codes "," ++ decimal bounds.upper ++ codes "\n"

abbrev pub record_of_job : List Task → Job → Bounds → List ℕ
record_of_job tasks job bounds = csv_line (task_at tasks job.task).name job.number job.release (deadline_of tasks job) bounds

abbrev pub dir_text : Dir → List ℕ
dir_text Up = codes "up"
dir_text Down = codes "down"

abbrev pub kind_text : Kind → List ℕ
kind_text Round = codes "round"
kind_text Cut = codes "cut"
kind_text Resample = codes "resample"
kind_text Delay = codes "delay"

-- an entry of the ledger, with its task's name: the job that it names, the number of its operation and the amount
unfoldable pub entry_line : List ℕ → Entry → List ℕ
entry_line name entry =
    codes "entry " ++ dir_text entry.dir ++ codes " " ++ kind_text entry.kind ++ codes " " ++ name ++ codes " " ++ decimal entry.job
    ++ codes " " ++ decimal entry.op ++ codes " " ++ decimal entry.amount ++ codes "\n"

abbrev pub line_of_entry : List Task → Entry → List ℕ
line_of_entry tasks entry = entry_line (task_at tasks entry.task).name entry

-- a job's two numbers, and what its entries add up to
unfoldable pub gap_line : List ℕ → ℕ → Bounds → ℕ → List ℕ
gap_line name number bounds sum =
    codes "gap " ++ name ++ codes " " ++ decimal number ++ codes " lower " ++ decimal bounds.lower ++ codes " upper " ++ decimal bounds.upper
    ++ codes " sum " ++ decimal sum ++ codes "\n"

abbrev pub line_of_gap : List Task → Job → Bounds → ℕ → List ℕ
line_of_gap tasks job bounds sum = gap_line (task_at tasks job.task).name job.number bounds sum

-- a word, a job whose upper number doesn't pass its task's allowance, that number, and the allowance
unfoldable pub failing_line : List ℕ → List ℕ → ℕ → ℕ → ℕ × ℕ → List ℕ
failing_line word name number upper allow =
    word ++ codes " " ++ name ++ codes " " ++ decimal number ++ codes " upper " ++ decimal upper ++ codes " allow " ++ decimal allow.0 ++ codes " " ++ decimal allow.1 ++ codes "\n"

abbrev pub line_of_failing : List ℕ → List Task → Job → ℕ → List ℕ
line_of_failing word tasks job upper = let task = task_at tasks job.task in failing_line word task.name job.number upper task.allow

-- in the texts of `check` and of `slack`
abbrev pub line_of_no : List Task → Job → ℕ → List ℕ
line_of_no = line_of_failing (codes "no")

abbrev pub line_of_fails : List Task → Job → ℕ → List ℕ
line_of_fails = line_of_failing (codes "fails")

-- how many ticks may be added to the times of a task, after a word
unfoldable pub ticks_line : List ℕ → List ℕ → ℕ → List ℕ
ticks_line word name ticks = word ++ codes " " ++ name ++ codes " " ++ decimal ticks ++ codes "\n"

-- how much an analysis of a whole sheet is
unfoldable pub size_line : ℕ → ℕ → ℕ → ℕ → List ℕ
size_line tasks jobs entries certified =
    codes "tasks " ++ decimal tasks ++ codes " jobs " ++ decimal jobs ++ codes " entries " ++ decimal entries ++ codes " certified " ++ decimal certified ++ codes "\n"

-- the sums of all lower and of all upper numbers
unfoldable pub sums_line : ℕ → ℕ → List ℕ
sums_line lower upper = codes "lower " ++ decimal lower ++ codes " upper " ++ decimal upper ++ codes "\n"

-- a level whose list certifies it, and one for which no list is stated
unfoldable pub certified_line : List ℕ → List ℕ
certified_line name = codes "level " ++ name ++ codes " certified\n"

unfoldable pub uncertified_line : List ℕ → List ℕ
uncertified_line name = codes "uncertified " ++ name ++ codes "\n"

-- a level that no list certifies, and whose backlog has a geometric tail: its ratio, and the worst-case backlog from which it falls
unfoldable pub tail_line : List ℕ → Ratio → ℕ → List ℕ
tail_line name ratio worst =
    codes "tail " ++ name ++ codes " " ++ decimal ratio.p ++ codes " " ++ decimal ratio.q ++ codes " " ++ decimal worst ++ codes "\n"

-- a job's steady number, as it is and as a decimal
unfoldable pub steady_line : List ℕ → ℕ → ℕ → List ℕ
steady_line name number upper =
    codes "steady " ++ name ++ codes " " ++ decimal number ++ codes " upper " ++ decimal upper ++ codes " " ++ decimal_above upper ++ codes "\n"

-- the first place where the image of a level's list is below it, with both cells
unfoldable pub broken_line : List ℕ → Break → List ℕ
broken_line name broken =
    codes "broken " ++ name ++ codes " " ++ decimal broken.place ++ codes " " ++ decimal broken.had ++ codes " " ++ decimal broken.got ++ codes "\n"

-- the line of a stretch of ticks in which a job runs, or none
unfoldable pub busy_line : List ℕ → ℕ → ℕ → ℕ → List ℕ
busy_line name number from to =
    codes "run " ++ decimal from ++ codes " " ++ decimal to ++ codes " " ++ name ++ codes " " ++ decimal number ++ codes "\n"

unfoldable pub idle_line : ℕ → ℕ → List ℕ
idle_line from to = codes "idle " ++ decimal from ++ codes " " ++ decimal to ++ codes "\n"

abbrev pub run_line : List Task → Option Job → ℕ → ℕ → List ℕ
run_line tasks (Some job) from to = busy_line (task_at tasks job.task).name job.number from to
run_line tasks None from to = idle_line from to
