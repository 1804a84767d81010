-- Later times end no job sooner.
use Rattle.std.proofs.Common.{◌≡◌, ℕ, ◌+◌, ◌-◌, ◌≤◌, Bool, true, false, nat_le, nat_lt, if◌then◌else◌, List, [], ◌∷◌, filter, sym, ◌∙◌, ap, arith, ⊎_elim}
use Rattle.std.proofs.lemmas.Bool.{cases_Bool}
use Rattle.std.proofs.lemmas.Bool.Decides.{nat_tests}
use Rattle.prta_sheet.specs.Job.{Job}
use Rattle.prta_sheet.specs.Assignment.{Timed}
use Rattle.prta_sheet.specs.Machine.{place}
use Rattle.prta_jobs.specs.Backlog.{backlog_at, delayed, released_until, released_after, level_jobs, jobs_above, finish_by_backlog}
use Rattle.prta_times.specs.LaterTimes.{Both}

-- one job with two times, the second not before the first
pub record IsTimedLater (e e' : Timed) : Type 0 where
  pub job : e.job ≡ e'.job
  pub time : e.time ≤ e'.time

filter_later : (p : Job → Bool) (a b : List Timed) → Both IsTimedLater a b → Both IsTimedLater (filter (λ e. p e.job) a) (filter (λ e. p e.job) b)
filter_later p [] [] h = tt
filter_later p [] (e' ∷ b) h = absurd h
filter_later p (e ∷ a) [] h = absurd h
filter_later p (e ∷ a) (e' ∷ b) h =
    let same : p e.job ≡ p e'.job = ap p (h.0).job in
    let rest : Both IsTimedLater (filter (λ e. p e.job) a) (filter (λ e. p e.job) b) = filter_later p a b h.1 in
    ⊎_elim
    (λ (kept : p e.job ≡ true). let kept' : p e'.job ≡ true = sym same ∙ kept in rw (kept, kept') (h.0, rest))
    (λ (lost : p e.job ≡ false). let lost' : p e'.job ≡ false = sym same ∙ lost in rw (lost, lost') rest)
    (cases_Bool (p e.job))

backlog_later : (t : ℕ) (a a' : List Timed) → Both IsTimedLater a a' → (b c since : ℕ) → b ≤ c → backlog_at b since a t ≤ backlog_at c since a' t
backlog_later t [] [] h b c since l = omega arith
backlog_later t [] (e' ∷ a') h b c since l = absurd h
backlog_later t (e ∷ a) [] h b c since l = absurd h
backlog_later t (e ∷ a) (e' ∷ a') h b c since l =
    let r : e.job.release ≡ e'.job.release = ap (λ (job : Job). job.release) (h.0).job in
    let time : e.time ≤ e'.time = (h.0).time in
    rw r (backlog_later t a a' h.1 ((b - (e'.job.release - since)) + e.time) ((c - (e'.job.release - since)) + e'.time) e'.job.release (omega arith))

delayed_later : (r : ℕ) (a a' : List Timed) → Both IsTimedLater a a' → (y z : ℕ) → y ≤ z → delayed r y a ≤ delayed r z a'
delayed_later r [] [] h y z l = l
delayed_later r [] (e' ∷ a') h y z l = absurd h
delayed_later r (e ∷ a) [] h y z l = absurd h
delayed_later r (e ∷ a) (e' ∷ a') h y z l =
    let q : e.job.release ≡ e'.job.release = ap (λ (job : Job). job.release) (h.0).job in
    rw q (delayed_later r a a' h.1 _ _ (further y z (e'.job.release - r) e.time e'.time l (h.0).time))
  where
    further : (y z d s t : ℕ) → y ≤ z → s ≤ t → (if nat_lt d y then y + s else y) ≤ (if nat_lt d z then z + t else z)
    further y z d s t h l = grind (arith, nat_tests)

pub finish_later : (order : List ℕ) (a b : List Timed) (job : Job) → Both IsTimedLater a b → finish_by_backlog order a job ≤ finish_by_backlog order b job
finish_later order a b job h =
    let r : ℕ = job.release in
    let in_level : Job → Bool = λ other. nat_le (place order other.task) (place order job.task) in
    let higher : Job → Bool = λ other. nat_lt (place order other.task) (place order job.task) in
    let ticks : delayed r (backlog_at 0 0 (released_until r (level_jobs order job.task a)) r) (released_after r (jobs_above order job.task a))
    ≤ delayed r (backlog_at 0 0 (released_until r (level_jobs order job.task b)) r) (released_after r (jobs_above order job.task b)) =
    delayed_later r (released_after r (jobs_above order job.task a)) (released_after r (jobs_above order job.task b)) (filter_later (λ other. nat_lt r other.release) _ _ (filter_later higher a b h)) _ _
    (backlog_later r (released_until r (level_jobs order job.task a)) (released_until r (level_jobs order job.task b)) (filter_later (λ other. nat_le other.release r) _ _ (filter_later in_level a b h)) 0 0 0 (omega arith)) in
    omega (arith, ticks)
