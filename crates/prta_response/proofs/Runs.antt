-- The lists of a level run bound the level's backlog.
use Rattle.std.proofs.Common.{◌≡◌, ℕ, zero, suc, ◌+◌, ◌-◌, ◌*◌, ◌≤◌, ◌<◌, true, false, cond, nat_le, nat_eq, Option, List, [], ◌∷◌, ◌++◌, filter, length, refl, ap, sym, ◌∙◌, subst, arith, append-nil, add-zero, add-suc}
use Rattle.std.specs.List.{AllByRecursion as Each}
use Rattle.std.proofs.lemmas.List.{nil_from_length}
use Rattle.std.proofs.lemmas.List.Elements.{filter-append}
use Rattle.std.proofs.lemmas.Bool.{cond_both, cond-false, eqb-true, ne_eqb}
use Rattle.prta_mass.specs.Unit.{unit}
use Rattle.prta_mass.specs.Table.{Table}
use Rattle.prta_mass.specs.Chances.{at}
use Rattle.prta_mass.specs.declared.direction.Dir.{Dir}
use Rattle.prta_mass.specs.declared.support.Support.{Support}
use Rattle.prta_sheet.specs.Sheet.{Task}
use Rattle.prta_sheet.specs.Job.{Job, table_of, released_at, jobs_before}
use Rattle.prta_sheet.specs.Assignment.{Timed, total_of}
use Rattle.prta_sheet.specs.Weights.{one_if, weigh, jobs_of}
use Rattle.prta_sheet.proofs.Each.{Each-weaker, filter_none}
use Rattle.prta_sheet.proofs.Weighing.{weigh_one}
use Rattle.prta_shift.specs.Shift.{shifted}
use Rattle.prta_shift.proofs.Shifts.{length-shifted}
use Rattle.prta_ticksim.proofs.TimeOf.{time_of, time_of-cons}
use Rattle.prta_ticksim.proofs.JobOrder.{IsBefore, before_is}
use Rattle.prta_backlog.specs.Level.{Level, level_at, level_before, is_quiet}
use Rattle.prta_backlog.specs.LevelRun.{RunState, tables_added, kept, found_at, after_instant, level_run}
use Rattle.prta_backlog.specs.Laws.{HaveTables}
use Rattle.prta_backlog.proofs.Released.{Each-filter}
use Rattle.prta_backlog.proofs.Chances.{size_instant}
use Rattle.prta_response.specs.Backlog.{level_backlog}
use Rattle.prta_response.proofs.Weighing.{timed}
use Rattle.prta_response.proofs.Regrouping.{Regroups, regroup, regrouped_sum}
use Rattle.prta_response.proofs.Shares.{safe-same, safe-times, BoundsMean, Bounds}
use Rattle.prta_response.proofs.Operations.{tables_bounds, shifted_bounds, kept_bounds}
use Rattle.prta_response.proofs.Backlogs.{of_level, level_falls, level_rises, level_stays, BoundsShares}
use Rattle.prta_response.proofs.Released.{released_then, IsOfInstant, instant_jobs, none_of_level}

-- a run before a time: its list, of so many cells, bounds the backlog right after its last instant
pub record IsBounded (dir : Dir) (tasks : List Task) (level : Level) (size : ℕ) (run : RunState) (t : ℕ) : Type 0 where
  pub bounds : BoundsShares dir tasks level t run.since run.cells
  pub early : Each (λ job. job.release ≤ run.since) (level_before tasks level t)
  pub reached : run.since ≤ t
  pub size_is : length run.cells ≡ size

module _ (dir : Dir) (tasks : List Task) (level : Level) (have : HaveTables tasks) (apart : level.higher level.own ≡ false) where
  abbrev table : Job → Table
  table = table_of tasks

  not_both : (job : Job) → level.higher job.task ≡ true → nat_eq job.task level.own ≡ false
  not_both job h = ne_eqb job.task level.own (λ e. let same : level.higher level.own ≡ true = subst (λ i. level.higher i ≡ true) e h in cc)

  -- all jobs of a time, in place of those of the level in the order of their additions
  all_released : (t x : ℕ) (before : List Job) (f : List Timed → ℕ) (g : List Timed → ℕ → ℕ) →
      ((a y : List Timed) → jobs_of y ≡ released_at 0 tasks t → f (a ++ y) ≡ g a (time_of (of_level level) y)) →
      ((a y : List Timed) → jobs_of y ≡ level_at tasks level t → f (a ++ y) ≡ g a (time_of (of_level level) y)) →
      BoundsMean dir table x (before ++ level_at tasks level t) f → BoundsMean dir table x (before ++ released_at 0 tasks t) f
  all_released t x before f g of_all of_level_at h =
      let all : List Job = released_at 0 tasks t in
      let added : List Job = level_at tasks level t in
      let r : Regroups table (λ job. level.higher job.task) (λ job. nat_eq job.task level.own) not_both all added = regroup table (λ job. level.higher job.task) (λ job. nat_eq job.task level.own) not_both all in
      let sums : weigh table (before ++ all) f ≡ r.0 * weigh table (before ++ added) f = regrouped_sum table (of_level level) all added r.0 r.1 before f g of_all of_level_at in
      let ones : weigh table (before ++ all) (λ a. 1) ≡ r.0 * weigh table (before ++ added) (λ a. 1) =
      regrouped_sum table (of_level level) all added r.0 r.1 before (λ a. 1) (λ a n. 1) (λ a y e. refl) (λ a y e. refl) in
      let totals : total_of table (before ++ all) ≡ r.0 * total_of table (before ++ added) = sym (weigh_one table (before ++ all)) ∙ ones ∙ ap (λ s. r.0 * s) (weigh_one table (before ++ added)) in
      safe-same dir (r.0 * (x * total_of table (before ++ added))) (r.0 * (unit * weigh table (before ++ added) f)) _ _
      (ap (λ s. x * s) totals ∙ omega arith) (ap (λ s. unit * s) sums ∙ omega arith) (safe-times dir r.0 _ _ h)

  -- the list of a run, shifted to a later time
  pub fallen : (size : ℕ) (run : RunState) (t : ℕ) (cells : List ℕ) → IsBounded dir tasks level size run t → 0 < length cells → BoundsShares dir tasks level t run.since cells →
      BoundsShares dir tasks level t t (shifted (t - run.since) cells)
  fallen size run t cells is some h =
      shifted_bounds dir table (jobs_before tasks t) cells (t - run.since) (λ a. level_backlog level a run.since) (λ a. level_backlog level a t) some
      (λ a of_a. level_falls level run.since t (jobs_before tasks t) a of_a is.early is.reached) h

  module _ (support : Option Support) (size : ℕ) (some : 0 < size) where
    -- an instant
    pub instant_bounded : (run : RunState) (t : ℕ) → IsBounded dir tasks level size run t → IsBounded dir tasks level size (after_instant dir tasks level support run t) (suc t)
    instant_bounded run t is =
        let before : List Job = jobs_before tasks t in
        let jobs : List Job = level_at tasks level t in
        let number : List Timed → ℕ = λ a. level_backlog level a t in
        let found : List ℕ = found_at dir support run t in
        let (room, safe) = kept_bounds dir table support run before (λ a. level_backlog level a run.since) (omega (arith, is.size_is)) is.bounds in
        let start : Bounds dir table (at found) before number = fallen size run t (kept dir support run) is room safe in
        let added : Bounds dir table (at (tables_added dir table jobs found)) (before ++ jobs) number =
        tables_bounds dir table before jobs found number (omega (arith, length-shifted (t - run.since) (kept dir support run)))
        (Each-weaker (IsOfInstant tasks level t) _ (λ job own. (own.table.weighs, λ a c. one_more job own a c)) jobs (instant_jobs tasks level t have)) start in
        record {
          bounds = λ k. all_released t (at (tables_added dir table jobs found) k) before (λ a. one_if (nat_le (number a) k)) (λ a n. one_if (nat_le (number a + n) k))
              (λ a y of_y. ap (λ n. one_if (nat_le n k)) (level_rises level t (released_at 0 tasks t) a y of_y (released_then tasks t)))
              (λ a y of_y. ap (λ n. one_if (nat_le n k)) (level_rises level t jobs a y of_y (Each-weaker (IsOfInstant tasks level t) _ (λ job own. own.now) jobs (instant_jobs tasks level t have))))
              (added k);
          early = Each-filter _ _ (jobs_before tasks (suc t)) (Each-weaker (IsBefore (suc t)) _ (λ job low. omega arith) (jobs_before tasks (suc t)) (before_is tasks (suc t)));
          reached = omega arith;
          size_is = size_instant dir tasks level support run t ∙ is.size_is;
        }
      where
        one_more : (job : Job) → IsOfInstant tasks level t job → (a : List Timed) (c : ℕ) → level_backlog level (a ++ timed job c ∷ []) t ≡ level_backlog level a t + c
        one_more job own a c =
            level_rises level t (job ∷ []) a (timed job c ∷ []) refl (own.now, tt)
            ∙ ap (λ s. level_backlog level a t + s) (time_of-cons (of_level level) (timed job c) [] ∙ ap (λ b. cond b c 0 + 0) own.member ∙ omega arith)

    -- a time that is none
    still_bounded : (run : RunState) (t : ℕ) → is_quiet tasks level t ≡ true → IsBounded dir tasks level size run t → IsBounded dir tasks level size run (suc t)
    still_bounded run t quiet is =
        let before : List Job = jobs_before tasks t in
        let number : List Timed → ℕ = λ a. level_backlog level a run.since in
        let none : level_at tasks level t ≡ [] = nil_from_length (level_at tasks level t) (eqb-true (length (level_at tasks level t)) 0 quiet) in
        let others : filter (of_level level) (released_at 0 tasks t) ≡ [] = filter_none (of_level level) (released_at 0 tasks t) (none_of_level tasks level t none) in
        let same : level_before tasks level (suc t) ≡ level_before tasks level t = filter-append (of_level level) before (released_at 0 tasks t) ∙ ap (λ jobs. level_before tasks level t ++ jobs) others ∙ append-nil (level_before tasks level t) in
        record {
          bounds = λ k. all_released t (at run.cells k) before (λ a. one_if (nat_le (number a) k)) (λ a n. one_if (nat_le (number a) k))
              (λ a y of_y. ap (λ n. one_if (nat_le n k)) (level_stays level run.since (released_at 0 tasks t) a y of_y others))
              (λ a y of_y. ap (λ n. one_if (nat_le n k)) (level_stays level run.since (level_at tasks level t) a y of_y (ap (filter (of_level level)) none)))
              (subst (λ jobs. BoundsMean dir table (at run.cells k) jobs (λ a. one_if (nat_le (number a) k))) (sym (ap (λ jobs. before ++ jobs) none ∙ append-nil before)) (is.bounds k));
          early = subst (Each (λ job. job.release ≤ run.since)) (sym same) is.early;
          reached = omega (arith, is.reached);
          size_is = is.size_is;
        }

    -- so from a list that bounds the backlog at a base time, the run does at each time
    pub run_bounded : (start : List ℕ) (base n : ℕ) → length start ≡ size → BoundsShares dir tasks level base base start → IsBounded dir tasks level size (level_run dir tasks level support start base n) (base + n)
    run_bounded start base zero size_is h = rw add-zero record {
      bounds = h;
      early = Each-filter _ _ (jobs_before tasks base) (Each-weaker (IsBefore base) _ (λ job low. omega arith) (jobs_before tasks base) (before_is tasks base));
      reached = omega arith;
      size_is = size_is;
    }
    run_bounded start base (suc n) size_is h =
        let run : RunState = level_run dir tasks level support start base n in
        let t : ℕ = base + n in
        let before : IsBounded dir tasks level size run t = run_bounded start base n size_is h in
        rw add-suc (cond_both (is_quiet tasks level t) run (after_instant dir tasks level support run t) (λ r. IsBounded dir tasks level size r (suc t))
        (λ quiet. still_bounded run t quiet before)
        (λ e. instant_bounded run t before))

    -- right after an instant it is the backlog then
    pub run_at_instant : (start : List ℕ) (base n : ℕ) → length start ≡ size → BoundsShares dir tasks level base base start → is_quiet tasks level (base + n) ≡ false →
        BoundsShares dir tasks level (suc (base + n)) (base + n) (level_run dir tasks level support start base (suc n)).cells
    run_at_instant start base n size_is h instant =
        let t : ℕ = base + n in
        let run : RunState = level_run dir tasks level support start base n in
        let here : RunState = after_instant dir tasks level support run t in
        subst (λ (r : RunState). BoundsShares dir tasks level (suc t) t r.cells) (sym (cond-false (is_quiet tasks level t) run here instant))
        (instant_bounded run t (run_bounded start base n size_is h)).bounds

    -- and at its end
    pub end_bounds : (run : RunState) (t : ℕ) → IsBounded dir tasks level size run t → BoundsShares dir tasks level t t (shifted (t - run.since) run.cells)
    end_bounds run t is = fallen size run t run.cells is (omega (arith, is.size_is)) is.bounds
