-- Entries of operations: one more operation appends, and how many there are.
use Rattle.std.proofs.Common.{◌≡◌, ℕ, ◌+◌, ◌*◌, ◌≤◌, Bool, true, false, not, cond, nat_eq, Option, Some, None, List, [], ◌∷◌, ◌++◌, filter, sum_by, length, refl, ap, sym, ◌∙◌, arith, append_assoc, length-append}
use Rattle.std.proofs.lemmas.List.{length-map}
use Rattle.std.proofs.lemmas.List.Sums.{sum_by-cons, sum_by-append}
use Rattle.std.proofs.lemmas.Bool.{cond_both}
use Rattle.prta_mass.specs.declared.direction.Dir.{Dir}
use Rattle.prta_mass.specs.declared.support.Support.{Support}
use Rattle.prta_mass.specs.Table.{Table}
use Rattle.prta_sheet.specs.Sheet.{Task}
use Rattle.prta_sheet.specs.Job.{Job, table_of}
use Rattle.prta_dist.specs.Addition.{added}
use Rattle.prta_ledger.specs.declared.entry.Entry.{Entry}
use Rattle.prta_ledger.specs.declared.entry.Kind.{Kind}
use Rattle.prta_backlog.specs.Level.{Level, level_at}
use Rattle.prta_backlog.specs.LevelRun.{RunState, tables_added, found_at}
use Rattle.prta_backlog.specs.Entries.{Operation, addition, additions, samplings, operations_of, entry_of, entries_of, noted}

pub noted-append : (dir : Dir) (task job from : ℕ) (xs ys : List Operation) → noted dir task job from (xs ++ ys) ≡ noted dir task job from xs ++ noted dir task job (from + length xs) ys
noted-append dir task job from [] ys = ap (λ k. noted dir task job k ys) (let same : from ≡ from + 0 = omega arith in same)
noted-append dir task job from (x ∷ xs) ys =
    let next : from + 1 + length xs ≡ from + length (x ∷ xs) = omega arith in
    ap (λ es. entries_of dir task job from x ++ es) (noted-append dir task job (from + 1) xs ys ∙ ap (λ k. noted dir task job (from + 1) xs ++ noted dir task job k ys) next)
    ∙ sym (append_assoc (entries_of dir task job from x) (noted dir task job (from + 1) xs) (noted dir task job (from + length (x ∷ xs)) ys))

-- one more job
pub additions_push : (dir : Dir) (table : Job → Table) (jobs : List Job) (job : Job) (cells : List ℕ) →
    additions dir table (jobs ++ job ∷ []) cells ≡ additions dir table jobs cells ++ (addition dir (table job) (tables_added dir table jobs cells) ∷ [])
additions_push dir table [] job cells = refl
additions_push dir table (other ∷ jobs) job cells = ap (λ ops. addition dir (table other) cells ∷ ops) (additions_push dir table jobs job (added dir (table other) cells))

pub additions-append : (dir : Dir) (table : Job → Table) (jobs others : List Job) (cells : List ℕ) →
    additions dir table (jobs ++ others) cells ≡ additions dir table jobs cells ++ additions dir table others (tables_added dir table jobs cells)
additions-append dir table [] others cells = refl
additions-append dir table (job ∷ jobs) others cells = ap (λ ops. addition dir (table job) cells ∷ ops) (additions-append dir table jobs others (added dir (table job) cells))

pub length-additions : (dir : Dir) (table : Job → Table) (jobs : List Job) (cells : List ℕ) → length (additions dir table jobs cells) ≡ length jobs
length-additions dir table [] cells = refl
length-additions dir table (job ∷ jobs) cells = omega (arith, length-additions dir table jobs (added dir (table job) cells))

-- ---- how many

length-filter_le : {X : Type 0} (p : X → Bool) (xs : List X) → length (filter p xs) ≤ length xs
length-filter_le p [] = omega arith
length-filter_le p (x ∷ xs) = cond_both (p x) (x ∷ filter p xs) (filter p xs) (λ ys. length ys ≤ length (x ∷ xs)) (λ e. omega (arith, length-filter_le p xs)) (λ e. omega (arith, length-filter_le p xs))

-- the amounts of operations, by their number
abbrev pub amount_count : List Operation → ℕ
amount_count ops = sum_by (λ op. length op) ops

pub length-entries_of : (dir : Dir) (task job op : ℕ) (xs : Operation) → length (entries_of dir task job op xs) ≤ length xs
length-entries_of dir task job op xs =
    omega (
      arith,
      length-map {B = Entry} (filter (λ amount. not (nat_eq amount.1 0)) xs) (entry_of dir task job op),
      length-filter_le (λ (amount : Kind × ℕ). not (nat_eq amount.1 0)) xs,
    )

pub length-noted : (dir : Dir) (task job from : ℕ) (ops : List Operation) → length (noted dir task job from ops) ≤ amount_count ops
length-noted dir task job from [] = omega arith
length-noted dir task job from (op ∷ ops) =
    omega (
      arith,
      length-append (entries_of dir task job from op) (noted dir task job (from + 1) ops),
      length-entries_of dir task job from op,
      length-noted dir task job (from + 1) ops,
      sum_by-cons (λ (op : Operation). length op) op ops,
    )

pub count_additions : (dir : Dir) (table : Job → Table) (jobs : List Job) (cells : List ℕ) → amount_count (additions dir table jobs cells) ≡ 2 * length jobs
count_additions dir table [] cells = refl
count_additions dir table (job ∷ jobs) cells =
    sum_by-cons (λ (op : Operation). length op) (addition dir (table job) cells) (additions dir table jobs (added dir (table job) cells))
    ∙ omega (arith, count_additions dir table jobs (added dir (table job) cells))

pub count_samplings : (dir : Dir) (support : Option Support) (run : RunState) → amount_count (samplings dir support run) ≤ 1
count_samplings dir None run = omega arith
count_samplings dir (Some s) run = elim run.begun as (λ b. amount_count (cond b (samplings dir (Some s) (record run { begun = true })) []) ≤ 1) [ true ↦ omega arith | false ↦ omega arith ]

-- an instant makes at most two entries for each of its jobs, and one for the re-sampling
pub count_operations : (dir : Dir) (tasks : List Task) (level : Level) (support : Option Support) (run : RunState) (t : ℕ) →
    amount_count (operations_of dir tasks level support run t) ≤ 2 * length (level_at tasks level t) + 1
count_operations dir tasks level support run t =
    omega (
      arith,
      sum_by-append (λ (op : Operation). length op) (samplings dir support run) (additions dir (table_of tasks) (level_at tasks level t) (found_at dir support run t)),
      count_samplings dir support run,
      count_additions dir (table_of tasks) (level_at tasks level t) (found_at dir support run t),
    )
