-- The lists of a response run bound the own job's response time.
use Rattle.std.proofs.Common.{◌≡◌, ℕ, ◌+◌, ◌-◌, ◌≤◌, ◌<◌, Bool, true, false, cond, nat_le, nat_lt, if◌then◌else◌, List, [], ◌∷◌, ◌++◌, filter, length, take, refl, ap, ap₂, sym, ◌∙◌, subst, arith, append_assoc, append-nil}
use Rattle.std.specs.List.{AllByRecursion as Each}
use Rattle.std.proofs.lemmas.List.{get_or_default, get_or-take}
use Rattle.std.proofs.lemmas.List.Elements.{filter-append}
use Rattle.std.proofs.lemmas.Bool.{cond_both, le-leb, lt-leb, lt-ltb, le-ltb}
use Rattle.prta_mass.specs.Table.{Table, total}
use Rattle.prta_mass.specs.Chances.{at}
use Rattle.prta_mass.specs.declared.direction.Dir.{Dir}
use Rattle.prta_sheet.specs.Job.{Job}
use Rattle.prta_sheet.specs.Assignment.{Timed}
use Rattle.prta_sheet.specs.Weights.{one_if}
use Rattle.prta_sheet.proofs.Each.{Each-weaker, filter_none}
use Rattle.prta_ticksim.proofs.Each.{filter_all}
use Rattle.prta_backlog.proofs.Released.{Each-filter}
use Rattle.prta_jobs.specs.Backlog.{backlog_at, released_until, released_after, delayed}
use Rattle.prta_preempt.specs.Delay.{delayed as list_delayed}
use Rattle.prta_backlog.specs.Level.{Level}
use Rattle.prta_response.specs.Backlog.{level_backlog}
use Rattle.prta_response.specs.Response.{all_delayed}
use Rattle.prta_response.proofs.Weighing.{timed}
use Rattle.prta_response.proofs.Shares.{free_mean}
use Rattle.prta_response.proofs.Operations.{BoundsUpTo, delayed_bounds, length-delayed}
use Rattle.prta_response.proofs.Backlogs.{of_level}

-- the ticks from its release on that a level's own job takes to finish, by backlog
abbrev pub response_time : Level → ℕ → List Timed → ℕ
response_time level r a = delayed r (backlog_at 0 0 (released_until r (filter (λ e. of_level level e.job) a)) r) (released_after r (filter (λ e. level.higher e.job.task) a))

-- a job with a table of some weight that is released after r, within so many ticks
abbrev pub IsLater : (Job → Table) → ℕ → ℕ → Job → Type 0
IsLater table r limit job = (r < job.release) × (job.release - r ≤ limit) × (0 < total (table job))

-- ---- one more job, released later

module _ (r : ℕ) (p : Timed → Bool) (a : List Timed) (e : Timed) (late : r < e.job.release) where
  until_push : released_until r (filter p (a ++ e ∷ [])) ≡ released_until r (filter p a)
  until_push =
      ap (released_until r) (filter-append p a (e ∷ []))
      ∙ filter-append (λ e. nat_le e.job.release r) (filter p a) (filter p (e ∷ []))
      ∙ ap (λ es. released_until r (filter p a) ++ es) (none (p e))
      ∙ append-nil (released_until r (filter p a))
    where
      none : (b : Bool) → released_until r (cond b (e ∷ []) []) ≡ []
      none true = rw (lt-leb e.job.release r late) refl
      none false = refl

  after_push : released_after r (filter p (a ++ e ∷ [])) ≡ released_after r (filter p a) ++ cond (p e) (e ∷ []) []
  after_push =
      ap (released_after r) (filter-append p a (e ∷ []))
      ∙ filter-append (λ e. nat_lt r e.job.release) (filter p a) (filter p (e ∷ []))
      ∙ ap (λ es. released_after r (filter p a) ++ es) (all (p e))
    where
      all : (b : Bool) → released_after r (cond b (e ∷ []) []) ≡ cond b (e ∷ []) []
      all true = rw (lt-ltb r e.job.release late) refl
      all false = refl

module _ (level : Level) (r : ℕ) where
  response_push : (a : List Timed) (e : Timed) → r < e.job.release → response_time level r (a ++ e ∷ []) ≡ delayed r (response_time level r a) (cond (level.higher e.job.task) (e ∷ []) [])
  response_push a e late =
      ap₂ (λ es more. delayed r (backlog_at 0 0 es r) more) (until_push r (λ e. of_level level e.job) a e late) (after_push r (λ e. level.higher e.job.task) a e late)
      ∙ on_behind (released_after r (filter (λ e. level.higher e.job.task) a)) (cond (level.higher e.job.task) (e ∷ []) []) _
    where
      on_behind : (es more : List Timed) (ticks : ℕ) → delayed r ticks (es ++ more) ≡ delayed r (delayed r ticks es) more
      on_behind [] more ticks = refl
      on_behind (x ∷ es) more ticks = on_behind es more (if nat_lt (x.job.release - r) ticks then ticks + x.time else ticks)

  -- a higher job delays where ticks are left to serve at its release
  higher_push : (a : List Timed) (job : Job) (c : ℕ) → level.higher job.task ≡ true → r < job.release →
      response_time level r (a ++ timed job c ∷ []) ≡ (if nat_lt (job.release - r) (response_time level r a) then response_time level r a + c else response_time level r a)
  higher_push a job c is late = response_push a (timed job c) late ∙ ap (λ b. delayed r (response_time level r a) (cond b (timed job c ∷ []) [])) is

  -- and no other
  other_push : (a : List Timed) (job : Job) (c : ℕ) → level.higher job.task ≡ false → r < job.release → response_time level r (a ++ timed job c ∷ []) ≡ response_time level r a
  other_push a job c other late = response_push a (timed job c) late ∙ ap (λ b. delayed r (response_time level r a) (cond b (timed job c ∷ []) [])) other

  -- before them, at the release, it is the level's backlog
  pub response_first : (a : List Timed) → Each (λ e. e.job.release ≤ r) a → response_time level r a ≡ level_backlog level a r
  response_first a early =
      let members : List Timed = filter (λ e. of_level level e.job) a in
      let higher : List Timed = filter (λ e. level.higher e.job.task) a in
      let all : released_until r members ≡ members =
      filter_all (λ e. nat_le e.job.release r) members (Each-weaker (λ e. e.job.release ≤ r) _ (λ e low. le-leb e.job.release r low) members (Each-filter _ (λ e. of_level level e.job) a early)) in
      let none : released_after r higher ≡ [] =
      filter_none (λ e. nat_lt r e.job.release) higher (Each-weaker (λ e. e.job.release ≤ r) _ (λ e low. le-ltb r e.job.release low) higher (Each-filter _ (λ e. level.higher e.job.task) a early)) in
      ap₂ (λ es more. delayed r (backlog_at 0 0 es r) more) all none

  module _ (dir : Dir) (table : Job → Table) (limit : ℕ) where
    pub delays_bound : (jobs more : List Job) (cells : List ℕ) → Each (IsLater table r limit) more → limit < length cells → BoundsUpTo limit dir table (at cells) jobs (response_time level r) →
        BoundsUpTo limit dir table (at (all_delayed dir table r (filter (λ job. level.higher job.task) more) cells)) (jobs ++ more) (response_time level r)
    delays_bound jobs [] cells later long h = subst (λ js. BoundsUpTo limit dir table (at cells) js (response_time level r)) (sym (append-nil jobs)) h
    delays_bound jobs (job ∷ more) cells later long h =
        let (late, low, weighs) = later.0 in
        let rest : List Job = filter (λ job. level.higher job.task) more in
        let next : List ℕ = list_delayed dir (table job) (job.release - r) cells in
        let goes_on : (cells : List ℕ) → limit < length cells → BoundsUpTo limit dir table (at cells) (jobs ++ job ∷ []) (response_time level r) →
        BoundsUpTo limit dir table (at (all_delayed dir table r rest cells)) (jobs ++ job ∷ more) (response_time level r) =
        λ cells long h. subst (λ js. BoundsUpTo limit dir table (at (all_delayed dir table r rest cells)) js (response_time level r)) (append_assoc jobs (job ∷ []) more)
        (delays_bound (jobs ++ job ∷ []) more cells later.1 long h) in
        cond_both (level.higher job.task) (job ∷ rest) rest (λ js. BoundsUpTo limit dir table (at (all_delayed dir table r js cells)) (jobs ++ job ∷ more) (response_time level r))
        (λ is. goes_on next (omega (arith, length-delayed dir (table job) (job.release - r) cells))
        (delayed_bounds dir table limit jobs job cells (response_time level r) (response_time level r) (job.release - r) weighs low long (λ a c of_a. higher_push a job c is late) h))
        (λ other. goes_on cells long
        (λ k l. free_mean dir table (at cells k) jobs job _ (λ a. one_if (nat_le (response_time level r a) k)) (λ a c of_a. ap (λ n. one_if (nat_le n k)) (other_push a job c other late)) (h k l)))

-- the first cells of a list
pub at-take : (cells : List ℕ) (d k : ℕ) → k ≤ d → d < length cells → at (take (d + 1) cells) k ≡ at cells k
at-take cells d k low long = get_or-take (d + 1) cells k _ (omega arith) ∙ get_or_default cells k _ _ (omega arith)
