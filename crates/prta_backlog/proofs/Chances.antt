-- The list of a level run stays a list of chances.
use Rattle.std.proofs.Common.{◌≡◌, ℕ, zero, suc, ◌+◌, ◌-◌, ◌<◌, List, [], ◌∷◌, length, refl, ◌∙◌, arith, Option, Some, None}
use Rattle.std.specs.List.{AllByRecursion as Each}
use Rattle.std.proofs.lemmas.Bool.{cond_both}
use Rattle.std.proofs.lemmas.List.{length-set}
use Rattle.prta_mass.specs.Unit.{unit}
use Rattle.prta_mass.specs.declared.direction.Dir.{Dir}
use Rattle.prta_mass.specs.declared.direction.Dir.TheVariants.{Up, Down}
use Rattle.prta_mass.specs.declared.support.Support.{Support}
use Rattle.prta_mass.specs.Table.{Table, IsTable}
use Rattle.prta_mass.specs.Chances.{IsChances, point}
use Rattle.prta_sheet.specs.Sheet.{Task}
use Rattle.prta_sheet.specs.Job.{Job, table_of}
use Rattle.prta_shift.specs.Shift.{shifted}
use Rattle.prta_shift.specs.Laws.{KeptByShift}
use Rattle.prta_shift.proofs.Shifts.{shifts_chances, length-shifted}
use Rattle.prta_resample.specs.Resample.{resampled}
use Rattle.prta_resample.specs.Laws.{KeptByResampling}
use Rattle.prta_resample.proofs.Keeping.{resamplings_keep, length-resampled}
use Rattle.prta_dist.specs.Addition.{cell_added, cells_added, added}
use Rattle.prta_dist.proofs.Cells.{length-cells_of}
use Rattle.prta_dist.proofs.Chances.{keep_chances}
use Rattle.prta_backlog.specs.Level.{Level, level_at, is_quiet}
use Rattle.prta_backlog.specs.LevelRun.{RunState, tables_added, kept, found_at, after_instant, level_run, image}
use Rattle.prta_backlog.specs.Laws.{HaveTables, StaysChances, RunsStayChances}
use Rattle.prta_backlog.proofs.Released.{level_tables}

stay_then : (x y z : List ℕ) → StaysChances x y → StaysChances y z → StaysChances x z
stay_then x y z p q = record { chances = q.chances; size = q.size ∙ p.size }

pub length-added : (dir : Dir) (table : Table) (cells : List ℕ) → length (added dir table cells) ≡ length cells
length-added Up table cells = length-cells_of (length cells) (cell_added Up table cells)
length-added Down table cells =
    let new : List ℕ = cells_added Down table cells in
    length-set new (length new - 1) unit ∙ length-cells_of (length cells) (cell_added Down table cells)

stay_tables : (dir : Dir) (table : Job → Table) (jobs : List Job) (cells : List ℕ) → Each (λ job. IsTable (table job)) jobs → IsChances cells → StaysChances cells (tables_added dir table jobs cells)
stay_tables dir table [] cells are chances = record { chances = chances; size = refl }
stay_tables dir table (job ∷ jobs) cells are chances =
    let next : List ℕ = added dir (table job) cells in
    let one : StaysChances cells next = record { chances = (keep_chances dir (table job) cells are.0 chances).1; size = length-added dir (table job) cells } in
    stay_then cells next (tables_added dir table jobs next) one (stay_tables dir table jobs next are.1 one.chances)

stay_kept : (dir : Dir) (support : Option Support) (run : RunState) → 0 < length run.cells → IsChances run.cells → StaysChances run.cells (kept dir support run)
stay_kept dir None run some chances = record { chances = chances; size = refl }
stay_kept dir (Some s) run some chances =
    let after : KeptByResampling dir run.cells (resampled dir s run.cells) = resamplings_keep dir s run.cells some chances in
    cond_both run.begun (resampled dir s run.cells) run.cells (StaysChances run.cells)
    (λ e. record { chances = after.chances; size = after.size })
    (λ e. record { chances = chances; size = refl })

stay_found : (dir : Dir) (support : Option Support) (run : RunState) (t : ℕ) → 0 < length run.cells → IsChances run.cells → StaysChances run.cells (found_at dir support run t)
stay_found dir support run t some chances =
    let was : StaysChances run.cells (kept dir support run) = stay_kept dir support run some chances in
    let after : KeptByShift (kept dir support run) (shifted (t - run.since) (kept dir support run)) = shifts_chances (t - run.since) (kept dir support run) was.chances in
    stay_then run.cells (kept dir support run) (found_at dir support run t) was (record { chances = after.chances; size = after.size })

pub stay_instant : (dir : Dir) (tasks : List Task) (level : Level) (support : Option Support) (run : RunState) (t : ℕ) → HaveTables tasks → 0 < length run.cells → IsChances run.cells →
    StaysChances run.cells (after_instant dir tasks level support run t).cells
stay_instant dir tasks level support run t have some chances =
    let found : StaysChances run.cells (found_at dir support run t) = stay_found dir support run t some chances in
    stay_then run.cells (found_at dir support run t) (after_instant dir tasks level support run t).cells found
    (stay_tables dir (table_of tasks) (level_at tasks level t) (found_at dir support run t) (level_tables tasks level t have) found.chances)

pub runs_stay_chances : RunsStayChances
runs_stay_chances dir tasks level support start base zero have some chances = record { chances = chances; size = refl }
runs_stay_chances dir tasks level support start base (suc n) have some chances =
    let run : RunState = level_run dir tasks level support start base n in
    let was : StaysChances start run.cells = runs_stay_chances dir tasks level support start base n have some chances in
    cond_both (is_quiet tasks level (base + n)) run (after_instant dir tasks level support run (base + n)) (λ r. StaysChances start r.cells)
    (λ e. was)
    (λ e. stay_then start run.cells (after_instant dir tasks level support run (base + n)).cells was
    (stay_instant dir tasks level support run (base + n) have (omega (arith, was.size)) was.chances))

-- ---- the number of cells alone

size_tables : (dir : Dir) (table : Job → Table) (jobs : List Job) (cells : List ℕ) → length (tables_added dir table jobs cells) ≡ length cells
size_tables dir table [] cells = refl
size_tables dir table (job ∷ jobs) cells = size_tables dir table jobs (added dir (table job) cells) ∙ length-added dir (table job) cells

size_kept : (dir : Dir) (support : Option Support) (run : RunState) → length (kept dir support run) ≡ length run.cells
size_kept dir None run = refl
size_kept dir (Some s) run = cond_both run.begun (resampled dir s run.cells) run.cells (λ cells. length cells ≡ length run.cells) (λ e. length-resampled dir s run.cells) (λ e. refl)

pub size_instant : (dir : Dir) (tasks : List Task) (level : Level) (support : Option Support) (run : RunState) (t : ℕ) → length (after_instant dir tasks level support run t).cells ≡ length run.cells
size_instant dir tasks level support run t =
    size_tables dir (table_of tasks) (level_at tasks level t) (found_at dir support run t) ∙ length-shifted (t - run.since) (kept dir support run) ∙ size_kept dir support run

size_run : (dir : Dir) (tasks : List Task) (level : Level) (support : Option Support) (start : List ℕ) (base n : ℕ) → length (level_run dir tasks level support start base n).cells ≡ length start
size_run dir tasks level support start base zero = refl
size_run dir tasks level support start base (suc n) =
    let run : RunState = level_run dir tasks level support start base n in
    cond_both (is_quiet tasks level (base + n)) run (after_instant dir tasks level support run (base + n)) (λ r. length r.cells ≡ length start)
    (λ e. size_run dir tasks level support start base n)
    (λ e. size_instant dir tasks level support run (base + n) ∙ size_run dir tasks level support start base n)

pub size_image : (tasks : List Task) (level : Level) (hyperperiod : ℕ) (cells : List ℕ) → length (image tasks level hyperperiod cells) ≡ length cells
size_image tasks level hyperperiod cells =
    let run : RunState = level_run Up tasks level None cells 0 hyperperiod in
    length-shifted (hyperperiod - run.since) run.cells ∙ size_run Up tasks level None cells 0 hyperperiod

pub size_point : (n b : ℕ) → length (point n b) ≡ n
size_point n b = length-cells_of n _
