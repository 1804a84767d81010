-- The jobs released from a time on, and those among them that delay an own job.
use Rattle.std.proofs.Common.{◌≡◌, ℕ, zero, suc, ◌+◌, ◌-◌, ◌≤◌, ◌<◌, Bool, true, false, ◌&&◌, nat_lt, List, [], ◌∷◌, ◌++◌, filter, refl, ap, ap₂, sym, ◌∙◌, arith, append_assoc, append-nil, add-zero, add-suc}
use Rattle.std.specs.List.{AllByRecursion as Each}
use Rattle.std.proofs.lemmas.List.Elements.{filter-append}
use Rattle.std.proofs.lemmas.Bool.{and_right, lt-ltb, le-ltb}
use Rattle.prta_sheet.specs.Sheet.{Task}
use Rattle.prta_sheet.specs.Job.{Job, released_at, jobs_before}
use Rattle.prta_sheet.proofs.Each.{Each-append, Each-weaker, filter_none}
use Rattle.prta_ticksim.proofs.JobOrder.{IsBefore, before_is}
use Rattle.prta_backlog.specs.Level.{Level, delaying}
use Rattle.prta_response.proofs.Released.{released_then}

-- the jobs that are released in the n ticks from a time on
abbrev pub jobs_from : List Task → ℕ → ℕ → List Job
jobs_from tasks s zero = []
jobs_from tasks s (suc n) = jobs_from tasks s n ++ released_at 0 tasks (s + n)

pub jobs_split : (tasks : List Task) (s n : ℕ) → jobs_before tasks (s + n) ≡ jobs_before tasks s ++ jobs_from tasks s n
jobs_split tasks s zero = ap (jobs_before tasks) (add-zero s) ∙ sym (append-nil (jobs_before tasks s))
jobs_split tasks s (suc n) =
    ap (jobs_before tasks) (add-suc s n) ∙ ap (λ jobs. jobs ++ released_at 0 tasks (s + n)) (jobs_split tasks s n) ∙ append_assoc (jobs_before tasks s) (jobs_from tasks s n) (released_at 0 tasks (s + n))

-- released in those ticks
abbrev pub IsWithin : ℕ → ℕ → Job → Type 0
IsWithin s n job = (s ≤ job.release) × (job.release < s + n)

pub each_within : (tasks : List Task) (s n : ℕ) → Each (IsWithin s n) (jobs_from tasks s n)
each_within tasks s zero = tt
each_within tasks s (suc n) =
    Each-append _ (jobs_from tasks s n) (released_at 0 tasks (s + n))
    (Each-weaker (IsWithin s n) _ (λ job in_time. (in_time.0, omega (arith, in_time.1))) (jobs_from tasks s n) (each_within tasks s n))
    (Each-weaker (λ job. job.release ≡ s + n) _ (λ job now. (omega arith, omega arith)) (released_at 0 tasks (s + n)) (released_then tasks (s + n)))

-- two tests that agree at each of some elements keep the same of them
filter_same_on : {X : Type 0} (p q : X → Bool) (xs : List X) → Each (λ x. p x ≡ q x) xs → filter p xs ≡ filter q xs
filter_same_on p q [] h = refl
filter_same_on p q (x ∷ xs) h = rw (h.0, filter_same_on p q xs h.1) refl

-- of all jobs before the deadline these are the higher ones from the next tick on
pub delaying_is : (tasks : List Task) (level : Level) (r d : ℕ) → 0 < d → delaying tasks level r d ≡ filter (λ job. level.higher job.task) (jobs_from tasks (suc r) (d - 1))
delaying_is tasks level r d some =
    let delays : Job → Bool = λ job. level.higher job.task && nat_lt r job.release in
    let past : List Job = jobs_before tasks (suc r) in
    let later : List Job = jobs_from tasks (suc r) (d - 1) in
    let end : r + d ≡ suc r + (d - 1) = omega arith in
    let none : filter delays past ≡ [] =
    filter_none delays past (Each-weaker (IsBefore (suc r)) _ (λ job low. and_right (level.higher job.task) (nat_lt r job.release) (le-ltb r job.release (omega arith))) past (before_is tasks (suc r))) in
    let same : filter delays later ≡ filter (λ job. level.higher job.task) later =
    filter_same_on delays (λ job. level.higher job.task) later
    (Each-weaker (IsWithin (suc r) (d - 1)) _ (λ job in_time. also (level.higher job.task) (nat_lt r job.release) (lt-ltb r job.release (omega (arith, in_time.0)))) later (each_within tasks (suc r) (d - 1))) in
    ap (λ t. filter delays (jobs_before tasks t)) end
    ∙ ap (filter delays) (jobs_split tasks (suc r) (d - 1))
    ∙ filter-append delays past later
    ∙ ap₂ (λ (a b : List Job). a ++ b) none same
  where
    also : (a b : Bool) → b ≡ true → (a && b) ≡ a
    also true b e = e
    also false b e = refl
