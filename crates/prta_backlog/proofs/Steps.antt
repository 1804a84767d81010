-- Steps from instant to instant follow the level run.
use Rattle.std.proofs.Common.{◌≡◌, ℕ, zero, suc, ◌+◌, ◌-◌, ◌≤◌, ◌<◌, true, false, cond, Option, List, [], ◌++◌, length, length-append, refl, ap, ap₂, sym, ◌∙◌, subst, arith, append-nil}
use Rattle.std.proofs.lemmas.Bool.{cond-true, cond-false, ne_eqb, eq-eqb}
use Rattle.prta_mass.specs.declared.direction.Dir.{Dir}
use Rattle.prta_mass.specs.declared.support.Support.{Support}
use Rattle.prta_sheet.specs.Sheet.{Task}
use Rattle.prta_jobs.specs.Instant.{IsLeastRelease}
use Rattle.prta_backlog.specs.Level.{Level, has_task, level_at, is_quiet}
use Rattle.prta_backlog.specs.LevelRun.{RunState, after_instant, level_run}
use Rattle.prta_backlog.specs.Entries.{operations_of, operations_at, operations, noted_at, level_entries_at, level_entries}
use Rattle.prta_backlog.specs.Pass.{pass_level, pass_support, after_last, pass_run, pass_operations}
use Rattle.prta_backlog.specs.Laws.{StepsFollowRuns, RunsStayStill}
use Rattle.prta_backlog.proofs.Released.{none_at, some_at}

module _ (dir : Dir) (tasks : List Task) (level : Level) (support : Option Support) (start : List ℕ) where
  -- nothing happens at a time without a release of the level
  pub record Quiet (s t : ℕ) : Type 0 where
    pub same_run : level_run dir tasks level support start 0 s ≡ level_run dir tasks level support start 0 t
    pub same_operations : operations dir tasks level support start s ≡ operations dir tasks level support start t
    pub same_entries : level_entries dir tasks level support start s ≡ level_entries dir tasks level support start t

  quiet_time : (t : ℕ) → level_at tasks level t ≡ [] → Quiet (suc t) t
  quiet_time t none =
      let test : is_quiet tasks level t ≡ true = eq-eqb (length (level_at tasks level t)) 0 (ap length none) in
      let run : RunState = level_run dir tasks level support start 0 t in
      let same : 0 + t ≡ t = omega arith in
      let ops : operations_at dir tasks level support start t ≡ [] = cond-true (is_quiet tasks level t) [] (operations_of dir tasks level support run t) test in
      let entries : level_entries_at dir tasks level support start t ≡ [] = ap (noted_at dir tasks level t (1 + length (operations dir tasks level support start t))) ops in
      record {
        same_run = ap (λ m. cond (is_quiet tasks level m) run (after_instant dir tasks level support run m)) same ∙ cond-true (is_quiet tasks level t) run (after_instant dir tasks level support run t) test;
        same_operations = ap (λ xs. operations dir tasks level support start t ++ xs) ops ∙ append-nil (operations dir tasks level support start t);
        same_entries = ap (λ xs. level_entries dir tasks level support start t ++ xs) entries ∙ append-nil (level_entries dir tasks level support start t);
      }

  -- nor in a stretch of such times
  pub quiet : (t n : ℕ) → ((s : ℕ) → t ≤ s → s < n + t → level_at tasks level s ≡ []) → Quiet (n + t) t
  quiet t zero h = let same : 0 + t ≡ t = omega arith in subst (λ s. Quiet s t) (sym same) record { same_run = refl; same_operations = refl; same_entries = refl }
  quiet t (suc n) h =
      let before : Quiet (n + t) t = quiet t n (λ s a b. h s a (omega arith)) in
      let last : Quiet (suc (n + t)) (n + t) = quiet_time (n + t) (h (n + t) (omega arith) (omega arith)) in
      let next : suc (n + t) ≡ suc n + t = omega arith in
      subst (λ s. Quiet s t) next record {
        same_run = last.same_run ∙ before.same_run;
        same_operations = last.same_operations ∙ before.same_operations;
        same_entries = last.same_entries ∙ before.same_entries;
      }

  -- up to the least release of the level
  pub still_until : (from t u : ℕ) → IsLeastRelease tasks (has_task level) from t → from ≤ u → u ≤ t → Quiet u from
  still_until from t u is low high =
      let split : (u - from) + from ≡ u = omega arith in
      subst (λ s. Quiet s from) split (quiet from (u - from) (λ s a b. none_at tasks level s (is.least s a (omega arith))))

  -- what an instant brings
  pub record Brings (t : ℕ) (run : RunState) : Type 0 where
    pub next_run : level_run dir tasks level support start 0 (suc t) ≡ after_instant dir tasks level support run t
    pub next_operations : operations dir tasks level support start (suc t) ≡ operations dir tasks level support start t ++ operations_of dir tasks level support run t
    pub next_entries : level_entries dir tasks level support start (suc t)
        ≡ level_entries dir tasks level support start t ++ noted_at dir tasks level t (1 + length (operations dir tasks level support start t)) (operations_of dir tasks level support run t)

  pub instant_brings : (t : ℕ) → 0 < length (level_at tasks level t) → Brings t (level_run dir tasks level support start 0 t)
  instant_brings t some =
      let test : is_quiet tasks level t ≡ false = ne_eqb (length (level_at tasks level t)) 0 (λ e. omega arith) in
      let run : RunState = level_run dir tasks level support start 0 t in
      let same : 0 + t ≡ t = omega arith in
      let ops : operations_at dir tasks level support start t ≡ operations_of dir tasks level support run t = cond-false (is_quiet tasks level t) [] (operations_of dir tasks level support run t) test in
      record {
        next_run = ap (λ m. cond (is_quiet tasks level m) run (after_instant dir tasks level support run m)) same ∙ cond-false (is_quiet tasks level t) run (after_instant dir tasks level support run t) test;
        next_operations = ap (λ xs. operations dir tasks level support start t ++ xs) ops;
        next_entries = ap (λ xs. level_entries dir tasks level support start t ++ noted_at dir tasks level t (1 + length (operations dir tasks level support start t)) xs) ops;
      }

pub runs_stay_still : RunsStayStill
runs_stay_still sheet start pass t u is low high =
    let q : Quiet pass.dir sheet.tasks (pass_level pass) (pass_support sheet pass) start u (after_last pass.last) =
    still_until pass.dir sheet.tasks (pass_level pass) (pass_support sheet pass) start (after_last pass.last) t u is low high in
    record { run = q.same_run; entries = q.same_entries }

pub steps_follow_runs : StepsFollowRuns
steps_follow_runs sheet start pass cells t within stands is =
    let level : Level = pass_level pass in
    let support : Option Support = pass_support sheet pass in
    let q : Quiet pass.dir sheet.tasks level support start t (after_last pass.last) = still_until pass.dir sheet.tasks level support start (after_last pass.last) t t is is.reached (omega arith) in
    let here : level_run pass.dir sheet.tasks level support start 0 t ≡ pass_run pass cells = q.same_run ∙ stands.run in
    let brings : Brings pass.dir sheet.tasks level support start t (pass_run pass cells) =
    subst (Brings pass.dir sheet.tasks level support start t) here (instant_brings pass.dir sheet.tasks level support start t (some_at sheet.tasks level t within is.some)) in
    let made : length (operations pass.dir sheet.tasks level support start t) ≡ pass.made = ap length q.same_operations ∙ stands.made in
    let next : suc t ≡ t + 1 = omega arith in
    record {
      stands = record {
        run = ap (level_run pass.dir sheet.tasks level support start 0) (sym next) ∙ brings.next_run;
        made = ap (λ n. length (operations pass.dir sheet.tasks level support start n)) (sym next) ∙ ap length brings.next_operations
            ∙ length-append (operations pass.dir sheet.tasks level support start t) (pass_operations sheet pass cells t) ∙ ap (λ n. n + length (pass_operations sheet pass cells t)) made;
      };
      entries = ap (level_entries pass.dir sheet.tasks level support start) (sym next) ∙ brings.next_entries
          ∙ ap₂ (λ es n. es ++ noted_at pass.dir sheet.tasks level t (1 + n) (pass_operations sheet pass cells t)) q.same_entries made;
    }
