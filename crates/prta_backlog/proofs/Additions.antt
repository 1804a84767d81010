-- The additions of an instant, job by job.
use Rattle.std.proofs.Common.{◌≡◌, ℕ, zero, suc, ◌+◌, ◌-◌, ◌*◌, ◌≤◌, ◌<◌, Bool, true, false, cond, ◌&&◌, nat_eq, Option, Some, None, List, [], ◌∷◌, ◌++◌, filter, length, take, refl, ap, ap₂, sym, ◌∙◌, subst, arith, append-nil, length-append}
use Rattle.std.proofs.lemmas.List.Elements.{filter-append}
use Rattle.std.proofs.lemmas.Bool.{ne_eqb}
use Rattle.prta_mass.specs.declared.support.Support.{Support}
use Rattle.prta_mass.specs.declared.direction.Dir.{Dir}
use Rattle.prta_mass.specs.Table.{Table}
use Rattle.prta_sheet.specs.Sheet.{Task, task_at}
use Rattle.prta_sheet.specs.Job.{Job, table_of, is_release, released_by, released_at}
use Rattle.prta_jobs.proofs.JobLists.{with_job, without_job}
use Rattle.prta_shift.specs.Shift.{shifted}
use Rattle.prta_resample.specs.Resample.{resampled, moved_amount}
use Rattle.prta_dist.specs.Addition.{added}
use Rattle.prta_ledger.specs.declared.entry.Entry.{Entry}
use Rattle.prta_ledger.specs.declared.entry.Kind.TheVariants.{Resample}
use Rattle.prta_ledger.specs.Noted.{appended, appended-append, appended-nil}
use Rattle.prta_backlog.specs.Level.{Level, higher_at, own_at, level_at}
use Rattle.prta_backlog.specs.LevelRun.{RunState, tables_added, kept, found_at, after_instant}
use Rattle.prta_backlog.specs.Entries.{Operation, addition, additions, samplings, operations_of, entries_of, noted}
use Rattle.prta_backlog.specs.AreNoted.{AreNoted}
use Rattle.prta_backlog.proofs.Notes.{noted-append, additions_push, additions-append, length-additions, length-noted, count_additions, count_samplings}
use Rattle.prta_backlog.proofs.Released.{job_at}

pub tables_push : (dir : Dir) (table : Job → Table) (jobs : List Job) (job : Job) (cells : List ℕ) → tables_added dir table (jobs ++ job ∷ []) cells ≡ added dir (table job) (tables_added dir table jobs cells)
tables_push dir table [] job cells = refl
tables_push dir table (other ∷ jobs) job cells = tables_push dir table jobs job (added dir (table other) cells)

pub tables-append : (dir : Dir) (table : Job → Table) (jobs others : List Job) (cells : List ℕ) → tables_added dir table (jobs ++ others) cells ≡ tables_added dir table others (tables_added dir table jobs cells)
tables-append dir table [] others cells = refl
tables-append dir table (job ∷ jobs) others cells = tables-append dir table jobs others (added dir (table job) cells)

-- none
pub noted_none : (dir : Dir) (task job from : ℕ) (before : Option (List Entry)) (room : ℕ) → AreNoted dir task job from [] before room before room
noted_none dir task job from before room = record { entries = sym (appended-nil before); room = omega arith }

-- some, and then others
pub noted_then : (dir : Dir) (task job from : ℕ) (xs ys : List Operation) (a : Option (List Entry)) (p : ℕ) (b : Option (List Entry)) (q : ℕ) (c : Option (List Entry)) (r from' : ℕ) →
    AreNoted dir task job from xs a p b q → from' ≡ from + length xs → AreNoted dir task job from' ys b q c r → AreNoted dir task job from (xs ++ ys) a p c r
noted_then dir task job from xs ys a p b q c r from' first same second =
    let both : noted dir task job from (xs ++ ys) ≡ noted dir task job from xs ++ noted dir task job from' ys = noted-append dir task job from xs ys ∙ ap (λ n. noted dir task job from xs ++ noted dir task job n ys) (sym same) in
    record {
      entries = second.entries ∙ ap (λ n. appended n (noted dir task job from' ys)) first.entries ∙ appended-append a (noted dir task job from xs) (noted dir task job from' ys) ∙ ap (appended a) (sym both);
      room = omega (arith, first.room, second.room, ap length both, length-append (noted dir task job from xs) (noted dir task job from' ys));
    }

-- one operation
pub noted_one : (dir : Dir) (task job from : ℕ) (op : Operation) (a : Option (List Entry)) (p : ℕ) (b : Option (List Entry)) (q : ℕ) →
    b ≡ appended a (entries_of dir task job from op) → p ≤ q + length (entries_of dir task job from op) → AreNoted dir task job from (op ∷ []) a p b q
noted_one dir task job from op a p b q entries room =
    let one : noted dir task job from (op ∷ []) ≡ entries_of dir task job from op = append-nil (entries_of dir task job from op) in
    record { entries = entries ∙ ap (appended a) (sym one); room = omega (arith, room, ap length one) }

-- the tables of some jobs were added, as operations from one more than made on
pub record Added (dir : Dir) (task job made : ℕ) (table : Job → Table) (jobs : List Job) (cells_before : List ℕ) (noted_before : Option (List Entry)) (room_before : ℕ)
    (cells_now : List ℕ) (noted_now : Option (List Entry)) (room_now op : ℕ) : Type 0 where
  pub cells : cells_now ≡ tables_added dir table jobs cells_before
  pub number : op ≡ made + length jobs
  pub notes : AreNoted dir task job (1 + made) (additions dir table jobs cells_before) noted_before room_before noted_now room_now

module _ (dir : Dir) (task job made : ℕ) (table : Job → Table) (cells_before : List ℕ) (noted_before : Option (List Entry)) (room_before : ℕ) where
  pub added_none : Added dir task job made table [] cells_before noted_before room_before cells_before noted_before room_before made
  added_none = record { cells = refl; number = omega arith; notes = noted_none dir task job (1 + made) noted_before room_before }

  pub added_push : (jobs : List Job) (next : Job) (cells cells' : List ℕ) (now now' : Option (List Entry)) (room room' op : ℕ) →
      Added dir task job made table jobs cells_before noted_before room_before cells now room op →
      cells' ≡ added dir (table next) cells →
      now' ≡ appended now (entries_of dir task job (op + 1) (addition dir (table next) cells)) →
      room ≤ room' + length (entries_of dir task job (op + 1) (addition dir (table next) cells)) →
      Added dir task job made table (jobs ++ next ∷ []) cells_before noted_before room_before cells' now' room' (op + 1)
  added_push jobs next cells cells' now now' room room' op is cells_are entries_are room_is =
      let ops : List Operation = additions dir table jobs cells_before in
      let last : AreNoted dir task job (op + 1) (addition dir (table next) cells ∷ []) now room now' room' = noted_one dir task job (op + 1) (addition dir (table next) cells) now room now' room' entries_are room_is in
      let here : op + 1 ≡ 1 + made + length ops = omega (arith, is.number, length-additions dir table jobs cells_before) in
      let all : ops ++ addition dir (table next) cells ∷ [] ≡ additions dir table (jobs ++ next ∷ []) cells_before =
      ap (λ c. ops ++ addition dir (table next) c ∷ []) is.cells ∙ sym (additions_push dir table jobs next cells_before) in
      record {
        cells = cells_are ∙ ap (added dir (table next)) is.cells ∙ sym (tables_push dir table jobs next cells_before);
        number = omega (arith, is.number, length-append jobs (next ∷ []));
        notes = subst (λ os. AreNoted dir task job (1 + made) os noted_before room_before now' room') all
            (noted_then dir task job (1 + made) ops (addition dir (table next) cells ∷ []) noted_before room_before now room now' room' (op + 1) is.notes here last);
      }

  -- with equal parts
  pub added_same : (jobs jobs' : List Job) (cells cells' : List ℕ) (now now' : Option (List Entry)) (room room' op op' : ℕ) →
      jobs' ≡ jobs → cells' ≡ cells → now' ≡ now → room' ≡ room → op' ≡ op →
      Added dir task job made table jobs cells_before noted_before room_before cells now room op →
      Added dir task job made table jobs' cells_before noted_before room_before cells' now' room' op'
  added_same jobs jobs' cells cells' now now' room room' op op' a b c d e is = record {
    cells = b ∙ is.cells ∙ ap (λ js. tables_added dir table js cells_before) (sym a);
    number = omega (arith, e, is.number, ap length a);
    notes = subst (λ js. AreNoted dir task job (1 + made) (additions dir table js cells_before) noted_before room_before now' room') (sym a)
        (record { entries = c ∙ is.notes.entries; room = omega (arith, d, is.notes.room) });
  }

  -- at most two entries for each of them
  pub added_room : (jobs : List Job) (cells : List ℕ) (now : Option (List Entry)) (room op : ℕ) → Added dir task job made table jobs cells_before noted_before room_before cells now room op → room_before ≤ room + 2 * length jobs
  added_room jobs cells now room op is =
      omega (arith, is.notes.room, length-noted dir task job (1 + made) (additions dir table jobs cells_before), count_additions dir table jobs cells_before)

-- ---- the jobs of the tasks so far

module _ (p : ℕ → Bool) (tasks : List Task) (t i : ℕ) (low : i < length tasks) where
  abbrev pub so_far : ℕ → List Job
  so_far n = filter (λ job. p job.task) (released_at 0 (take n tasks) t)

  pub job_more : p i ≡ true → is_release (task_at tasks i) t ≡ true → so_far (i + 1) ≡ so_far i ++ job_at i (task_at tasks i) t ∷ []
  job_more chosen releases =
      let job : Job = job_at i (task_at tasks i) t in
      let one : released_by i (task_at tasks i) t ≡ job ∷ [] = rw releases refl in
      let all : released_at 0 (take i tasks) t ++ job ∷ [] ≡ released_at 0 (take (i + 1) tasks) t = with_job tasks t i low [] (released_at 0 (take i tasks) t) (released_at 0 (take i tasks) t ++ job ∷ []) job refl refl one in
      let own : filter (λ (j : Job). p j.task) (job ∷ []) ≡ job ∷ [] = rw chosen refl in
      ap (filter (λ (j : Job). p j.task)) (sym all) ∙ filter-append (λ (j : Job). p j.task) (released_at 0 (take i tasks) t) (job ∷ []) ∙ ap (λ js. so_far i ++ js) own

  pub no_job_more : (p i && is_release (task_at tasks i) t) ≡ false → so_far (i + 1) ≡ so_far i
  no_job_more none = by_cases (is_release (task_at tasks i) t) refl
    where
      by_cases : (b : Bool) → is_release (task_at tasks i) t ≡ b → so_far (i + 1) ≡ so_far i
      by_cases false e = ap (filter (λ (j : Job). p j.task)) (sym (without_job tasks t i low [] (released_at 0 (take i tasks) t) refl e))
      by_cases true e =
          let job : Job = job_at i (task_at tasks i) t in
          let one : released_by i (task_at tasks i) t ≡ job ∷ [] = rw e refl in
          let all : released_at 0 (take i tasks) t ++ job ∷ [] ≡ released_at 0 (take (i + 1) tasks) t = with_job tasks t i low [] (released_at 0 (take i tasks) t) (released_at 0 (take i tasks) t ++ job ∷ []) job refl refl one in
          let out : p i ≡ false = left (p i) (is_release (task_at tasks i) t) e none in
          let gone : filter (λ (j : Job). p j.task) (job ∷ []) ≡ [] = rw out refl in
          ap (filter (λ (j : Job). p j.task)) (sym all) ∙ filter-append (λ (j : Job). p j.task) (released_at 0 (take i tasks) t) (job ∷ []) ∙ ap (λ js. so_far i ++ js) gone ∙ append-nil (so_far i)
        where
          left : (a b : Bool) → b ≡ true → (a && b) ≡ false → a ≡ false
          left a true e h = by_a a h
            where
              by_a : (a : Bool) → (a && true) ≡ false → a ≡ false
              by_a true h = h
              by_a false h = refl
          left a false e h = absurd (cc_false e)
            where
              cc_false : false ≡ true → ⊥
              cc_false e = cc

-- no more of the first tasks than of all
pub prefix_low : (p : ℕ → Bool) (j : ℕ) (tasks : List Task) (t n : ℕ) → length (filter (λ job. p job.task) (released_at j (take n tasks) t)) ≤ length (filter (λ job. p job.task) (released_at j tasks t))
prefix_low p j [] t n = elim n as (λ n. length (filter (λ job. p job.task) (released_at j (take n []) t)) ≤ 0) [ zero ↦ omega arith | suc n ↦ omega arith ]
prefix_low p j (task ∷ tasks) t zero = omega arith
prefix_low p j (task ∷ tasks) t (suc n) =
    omega (
      arith,
      ap length (filter-append (λ (job : Job). p job.task) (released_by j task t) (released_at (j + 1) (take n tasks) t)),
      length-append (filter (λ (job : Job). p job.task) (released_by j task t)) (filter (λ (job : Job). p job.task) (released_at (j + 1) (take n tasks) t)),
      ap length (filter-append (λ (job : Job). p job.task) (released_by j task t) (released_at (j + 1) tasks t)),
      length-append (filter (λ (job : Job). p job.task) (released_by j task t)) (filter (λ (job : Job). p job.task) (released_at (j + 1) tasks t)),
      prefix_low p (j + 1) tasks t n,
    )

-- at most one for each task
length_released : (j : ℕ) (tasks : List Task) (t : ℕ) → length (released_at j tasks t) ≤ length tasks
length_released j [] t = omega arith
length_released j (task ∷ tasks) t =
    let one : length (released_by j task t) ≤ 1 = elim (is_release task t) as (λ b. length (cond b (job_at j task t ∷ []) []) ≤ 1) [ true ↦ omega arith | false ↦ omega arith ] in
    omega (arith, length-append (released_by j task t) (released_at (j + 1) tasks t), one, length_released (j + 1) tasks t)

apart_lengths : (p q : Job → Bool) → ((job : Job) → p job ≡ true → q job ≡ false) → (jobs : List Job) → length (filter p jobs) + length (filter q jobs) ≤ length jobs
apart_lengths p q apart [] = omega arith
apart_lengths p q apart (job ∷ jobs) = one_more (p job) (q job) (filter p jobs) (filter q jobs) (apart job) (apart_lengths p q apart jobs)
  where
    one_more : (a b : Bool) (xs ys : List Job) → (a ≡ true → b ≡ false) → length xs + length ys ≤ length jobs → length (cond a (job ∷ xs) xs) + length (cond b (job ∷ ys) ys) ≤ length (job ∷ jobs)
    one_more true b xs ys not_both ih = let no : b ≡ false = not_both refl in rw no (omega (arith, ih))
    one_more false b xs ys not_both ih = elim b as (λ b. length xs + length (cond b (job ∷ ys) ys) ≤ length (job ∷ jobs)) [ true ↦ omega (arith, ih) | false ↦ omega (arith, ih) ]

-- the jobs of a level whose own task is no higher one
pub level_low : (tasks : List Task) (level : Level) (t : ℕ) → level.higher level.own ≡ false → length (higher_at tasks level t) + length (own_at tasks level t) ≤ length tasks
level_low tasks level t apart =
    omega (arith, apart_lengths (λ job. level.higher job.task) (λ job. nat_eq job.task level.own) not_both (released_at 0 tasks t), length_released 0 tasks t)
  where
    not_both : (job : Job) → level.higher job.task ≡ true → nat_eq job.task level.own ≡ false
    not_both job h = ne_eqb job.task level.own (λ e. let same : level.higher level.own ≡ true = subst (λ k. level.higher k ≡ true) e h in cc)

-- ---- an instant as a whole

pub filter_same : {X : Type 0} (p q : X → Bool) (xs : List X) → ((x : X) → p x ≡ q x) → filter p xs ≡ filter q xs
filter_same p q [] h = refl
filter_same p q (x ∷ xs) h = ap₂ (λ b ys. cond b (x ∷ ys) ys) (h x) (filter_same p q xs h)

pub kept_same : (dir : Dir) (support : Option Support) (cells : List ℕ) (s t : ℕ) (a b : Bool) → a ≡ b →
    kept dir support (record { cells = cells; since = s; begun = a }) ≡ kept dir support (record { cells = cells; since = t; begun = b })
kept_same dir None cells s t a b e = refl
kept_same dir (Some support) cells s t a b e = ap (λ x. cond x (resampled dir support cells) cells) e

pub samplings_same : (dir : Dir) (support : Option Support) (cells : List ℕ) (s t : ℕ) (a b : Bool) → a ≡ b →
    samplings dir support (record { cells = cells; since = s; begun = a }) ≡ samplings dir support (record { cells = cells; since = t; begun = b })
samplings_same dir None cells s t a b e = refl
samplings_same dir (Some support) cells s t a b e = ap (λ x. cond x (((Resample, moved_amount cells (resampled dir support cells)) ∷ []) ∷ []) []) e

pub few_samplings : (dir : Dir) (support : Option Support) (run : RunState) → length (samplings dir support run) ≤ 1
few_samplings dir None run = omega arith
few_samplings dir (Some s) run = by_begun run.begun ((Resample, moved_amount run.cells (resampled dir s run.cells)) ∷ [])
  where
    by_begun : (b : Bool) (op : Operation) → length (cond b (op ∷ []) []) ≤ 1
    by_begun true op = omega arith
    by_begun false op = omega arith

module _ (dir : Dir) (tasks : List Task) (level : Level) (support : Option Support) (run : RunState) (t : ℕ) where
  -- the cells of its four parts
  pub record FoundCells (kept_cells found higher_added all_added : List ℕ) : Type 0 where
    pub sampled : kept_cells ≡ kept dir support run
    pub moved : found ≡ shifted (t - run.since) kept_cells
    pub higher : higher_added ≡ tables_added dir (table_of tasks) (higher_at tasks level t) found
    pub own : all_added ≡ tables_added dir (table_of tasks) (own_at tasks level t) higher_added

  found_is : (a b c d : List ℕ) → FoundCells a b c d → b ≡ found_at dir support run t
  found_is a b c d is = is.moved ∙ ap (shifted (t - run.since)) is.sampled

  pub made_cells : (a b c d : List ℕ) → FoundCells a b c d → d ≡ (after_instant dir tasks level support run t).cells
  made_cells a b c d is =
      is.own ∙ ap (tables_added dir (table_of tasks) (own_at tasks level t)) (is.higher ∙ ap (tables_added dir (table_of tasks) (higher_at tasks level t)) (found_is a b c d is))
      ∙ sym (tables-append dir (table_of tasks) (higher_at tasks level t) (own_at tasks level t) (found_at dir support run t))

  made_additions : (a b c d : List ℕ) → FoundCells a b c d →
      additions dir (table_of tasks) (level_at tasks level t) (found_at dir support run t) ≡ additions dir (table_of tasks) (higher_at tasks level t) b ++ additions dir (table_of tasks) (own_at tasks level t) c
  made_additions a b c d is =
      let here : found_at dir support run t ≡ b = sym (found_is a b c d is) in
      additions-append dir (table_of tasks) (higher_at tasks level t) (own_at tasks level t) (found_at dir support run t)
      ∙ ap₂ (λ x y. additions dir (table_of tasks) (higher_at tasks level t) x ++ additions dir (table_of tasks) (own_at tasks level t) y) here
      (ap (tables_added dir (table_of tasks) (higher_at tasks level t)) here ∙ sym is.higher)

  pub made_number : (m1 m2 m3 made : ℕ) → m1 ≡ made + length (samplings dir support run) → m2 ≡ m1 + length (higher_at tasks level t) → m3 ≡ m2 + length (own_at tasks level t) →
      m3 ≡ made + length (operations_of dir tasks level support run t)
  made_number m1 m2 m3 made a b c =
      omega (
        arith,
        a,
        b,
        c,
        length-append (samplings dir support run) (additions dir (table_of tasks) (level_at tasks level t) (found_at dir support run t)),
        length-additions dir (table_of tasks) (level_at tasks level t) (found_at dir support run t),
        length-append (higher_at tasks level t) (own_at tasks level t),
      )

  pub made_notes : (task job made m1 m2 : ℕ) (a b c d : List ℕ) → FoundCells a b c d →
      (n0 : Option (List Entry)) (r0 : ℕ) (n1 : Option (List Entry)) (r1 : ℕ) (n2 : Option (List Entry)) (r2 : ℕ) (n3 : Option (List Entry)) (r3 : ℕ) →
      AreNoted dir task job (1 + made) (samplings dir support run) n0 r0 n1 r1 →
      m1 ≡ made + length (samplings dir support run) →
      AreNoted dir task job (1 + m1) (additions dir (table_of tasks) (higher_at tasks level t) b) n1 r1 n2 r2 →
      m2 ≡ m1 + length (higher_at tasks level t) →
      AreNoted dir task job (1 + m2) (additions dir (table_of tasks) (own_at tasks level t) c) n2 r2 n3 r3 →
      AreNoted dir task job (1 + made) (operations_of dir tasks level support run t) n0 r0 n3 r3
  made_notes task job made m1 m2 a b c d is n0 r0 n1 r1 n2 r2 n3 r3 first e1 second e2 third =
      let xs : List Operation = samplings dir support run in
      let hs : List Operation = additions dir (table_of tasks) (higher_at tasks level t) b in
      let os : List Operation = additions dir (table_of tasks) (own_at tasks level t) c in
      let size : length hs ≡ length (higher_at tasks level t) = length-additions dir (table_of tasks) (higher_at tasks level t) b in
      let next : 1 + m2 ≡ 1 + m1 + length hs = omega (arith, e2, size) in
      let start : 1 + m1 ≡ 1 + made + length xs = omega (arith, e1) in
      let both : AreNoted dir task job (1 + m1) (hs ++ os) n1 r1 n3 r3 = noted_then dir task job (1 + m1) hs os n1 r1 n2 r2 n3 r3 (1 + m2) second next third in
      subst (λ ops. AreNoted dir task job (1 + made) (xs ++ ops) n0 r0 n3 r3) (sym (made_additions a b c d is))
      (noted_then dir task job (1 + made) xs (hs ++ os) n0 r0 n1 r1 n3 r3 (1 + m1) first start both)

  -- at most a re-sampling, and an addition for each task
  pub few_operations : level.higher level.own ≡ false → length (operations_of dir tasks level support run t) ≤ length tasks + 1
  few_operations apart =
      omega (
        arith,
        length-append (samplings dir support run) (additions dir (table_of tasks) (level_at tasks level t) (found_at dir support run t)),
        length-additions dir (table_of tasks) (level_at tasks level t) (found_at dir support run t),
        length-append (higher_at tasks level t) (own_at tasks level t),
        level_low tasks level t apart,
        few_samplings dir support run,
      )

-- the room that a re-sampling and the additions of some jobs leave
pub sampling_room : (dir : Dir) (task job from : ℕ) (support : Option Support) (run : RunState) (n0 : Option (List Entry)) (r0 : ℕ) (n1 : Option (List Entry)) (r1 : ℕ) →
    AreNoted dir task job from (samplings dir support run) n0 r0 n1 r1 → r0 ≤ r1 + 1
sampling_room dir task job from support run n0 r0 n1 r1 is = omega (arith, is.room, length-noted dir task job from (samplings dir support run), count_samplings dir support run)

pub jobs_room : (dir : Dir) (task job from : ℕ) (table : Job → Table) (jobs : List Job) (cells : List ℕ) (n0 : Option (List Entry)) (r0 : ℕ) (n1 : Option (List Entry)) (r1 : ℕ) →
    AreNoted dir task job from (additions dir table jobs cells) n0 r0 n1 r1 → r0 ≤ r1 + 2 * length jobs
jobs_room dir task job from table jobs cells n0 r0 n1 r1 is = omega (arith, is.room, length-noted dir task job from (additions dir table jobs cells), count_additions dir table jobs cells)

-- what holds of an instant's parts holds of equal ones
pub same_parts : (Goal : Dir → Level → Option Support → RunState → Type 0) (d d' : Dir) (l l' : Level) (s s' : Option Support) (r r' : RunState) →
    d ≡ d' → l ≡ l' → s ≡ s' → r ≡ r' → Goal d l s r → Goal d' l' s' r'
same_parts Goal d d' l l' s s' r r' a b c e h = subst (Goal d' l' s') e (subst (λ x. Goal d' l' x r) c (subst (λ x. Goal d' x s r) b (subst (λ x. Goal x l s r) a h)))
