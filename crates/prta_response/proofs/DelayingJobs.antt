-- The jobs that delay an own job, from instant to instant.
use Rattle.std.proofs.Common.{◌≡◌, ℕ, zero, suc, ◌+◌, ◌-◌, ◌*◌, ◌<◌, ◌≤◌, Bool, true, false, not, cond, ◌&&◌, ◌||◌, nat_eq, nat_lt, List, [], ◌∷◌, ◌++◌, filter, length, length-append, append-nil, append_assoc, refl, ap, ap₂, sym, ◌∙◌, subst, arith}
use Rattle.std.proofs.lemmas.Bool.{lt-ltb, le-ltb, eq-eqb, eqb-true, ne_eqb, true≢false}
use Rattle.std.proofs.lemmas.List.Elements.{filter-append}
use Rattle.std.proofs.lemmas.List.Sums.{length-filter, count_by-le-length}
use Rattle.prta_sheet.specs.Sheet.{Task, task_at}
use Rattle.prta_sheet.specs.Job.{Job, is_release, released_by, released_at, jobs_before}
use Rattle.prta_sheet.proofs.Each.{filter_none}
use Rattle.prta_jobs.specs.Instant.{is_released, IsLeastRelease, IsInstant}
use Rattle.prta_jobs.specs.Laws.{IsBefore}
use Rattle.prta_jobs.proofs.JobsBefore.{each_before, each_weaker}
use Rattle.prta_backlog.specs.Level.{Level, has_task, delaying}
use Rattle.prta_backlog.proofs.Released.{job_at}

-- two tests that agree on the jobs that the tasks release at a time
released_same : (p q : Job → Bool) (t i : ℕ) (tasks : List Task) →
    ((k : ℕ) → k < length tasks → is_release (task_at tasks k) t ≡ true → p (job_at (i + k) (task_at tasks k) t) ≡ q (job_at (i + k) (task_at tasks k) t)) →
    filter p (released_at i tasks t) ≡ filter q (released_at i tasks t)
released_same p q t i [] h = refl
released_same p q t i (task ∷ tasks) h =
    let Same : ℕ → Task → Type 0 = λ n task. p (job_at n task t) ≡ q (job_at n task t) in
    filter-append p (released_by i task t) (released_at (i + 1) tasks t)
    ∙ ap₂ (λ (xs ys : List Job). xs ++ ys)
    (first (is_release task t) (λ e. let place : i + 0 ≡ i = omega arith in subst (λ n. Same n task) place (h 0 (omega arith) e)))
    (released_same p q t (i + 1) tasks (λ k low e. let place : i + suc k ≡ i + 1 + k = omega arith in subst (λ n. Same n (task_at tasks k)) place (h (suc k) (omega arith) e)))
    ∙ sym (filter-append q (released_by i task t) (released_at (i + 1) tasks t))
  where
    first : (b : Bool) → (b ≡ true → p (job_at i task t) ≡ q (job_at i task t)) → filter p (cond b (job_at i task t ∷ []) []) ≡ filter q (cond b (job_at i task t ∷ []) [])
    first true same = ap (λ c. cond c (job_at i task t ∷ []) []) (same refl)
    first false same = refl

filter_never : (jobs : List Job) → filter (λ job. false) jobs ≡ []
filter_never [] = refl
filter_never (job ∷ jobs) = filter_never jobs

and_not : (a b : Bool) → b ≡ false → (a && b) ≡ false
and_not true b e = e
and_not false b e = refl

and_sure : (a b : Bool) → b ≡ true → (a && b) ≡ a
and_sure true b e = e
and_sure false b e = refl

module _ (tasks : List Task) (level : Level) (r : ℕ) where
  abbrev pub is_delaying : Job → Bool
  is_delaying job = level.higher job.task && nat_lt r job.release

  -- those released before a time
  abbrev pub delaying_before : ℕ → List Job
  delaying_before t = filter is_delaying (jobs_before tasks t)

  none_yet : delaying_before (r + 1) ≡ []
  none_yet =
      filter_none is_delaying (jobs_before tasks (r + 1))
      (each_weaker (IsBefore tasks (r + 1)) (λ job. is_delaying job ≡ false) (λ job is. and_not (level.higher job.task) (nat_lt r job.release) (le-ltb r job.release (omega (arith, is.release))))
      (jobs_before tasks (r + 1)) (each_before tasks (r + 1)))

  delaying_suc : (t : ℕ) → delaying_before (suc t) ≡ delaying_before t ++ filter is_delaying (released_at 0 tasks t)
  delaying_suc t = filter-append is_delaying (jobs_before tasks t) (released_at 0 tasks t)

  -- a set of the tasks of the level
  module _ (set : ℕ → Bool) (is_level : (i : ℕ) → set i ≡ has_task level i) where
    -- at a time without a release of the level
    none_now : (t : ℕ) → ((i : ℕ) → is_released tasks set t i ≡ false) → filter is_delaying (released_at 0 tasks t) ≡ []
    none_now t none =
        released_same is_delaying (λ job. false) t 0 tasks (λ k low e. let place : 0 + k ≡ k = omega arith in ap (λ n. level.higher n && nat_lt r t) place ∙ never k e)
        ∙ filter_never (released_at 0 tasks t)
      where
        not_higher : (a b c : Bool) → c ≡ true → ((a || b) && c) ≡ false → b ≡ false
        not_higher true b c e h = absurd (true≢false (sym e ∙ h))
        not_higher false true c e h = absurd (true≢false (sym e ∙ h))
        not_higher false false c e h = refl

        never : (k : ℕ) → is_release (task_at tasks k) t ≡ true → (level.higher k && nat_lt r t) ≡ false
        never k e =
            let no : level.higher k ≡ false = not_higher (nat_eq k level.own) (level.higher k) (is_release (task_at tasks k) t) e
            (ap (λ b. b && is_release (task_at tasks k) t) (sym (is_level k)) ∙ none k) in
            rw no refl

    still : (from n : ℕ) → ((t : ℕ) → from ≤ t → t < n + from → (i : ℕ) → is_released tasks set t i ≡ false) → delaying_before (n + from) ≡ delaying_before from
    still from zero none = let same : 0 + from ≡ from = omega arith in ap delaying_before same
    still from (suc n) none =
        let next : suc n + from ≡ suc (n + from) = omega arith in
        ap delaying_before next
        ∙ delaying_suc (n + from)
        ∙ ap₂ (λ (xs ys : List Job). xs ++ ys) (still from n (λ t a b. none t a (omega arith))) (none_now (n + from) (none (n + from) (omega arith) (omega arith)))
        ∙ append-nil (delaying_before from)

    -- up to the least release of the level there are no more
    still_until : (from t u : ℕ) → IsLeastRelease tasks set from t → from ≤ u → u ≤ t → delaying_before u ≡ delaying_before from
    still_until from t u is low high =
        let split : u ≡ (u - from) + from = omega arith in
        ap delaying_before split ∙ still from (u - from) (λ s a b. is.least s a (omega arith))

    -- with those of the released tasks but the own one, they are those before the next tick
    delaying_next : (from t : ℕ) (released others : ℕ → Bool) → level.higher level.own ≡ false → r < t → IsInstant tasks set from t released →
        ((i : ℕ) → others i ≡ (not (nat_eq i level.own) && released i)) → delaying_before (t + 1) ≡ delaying_before from ++ filter (λ job. others job.task) (released_at 0 tasks t)
    delaying_next from t released others apart late is without =
        let next : t + 1 ≡ suc t = omega arith in
        ap delaying_before next
        ∙ delaying_suc t
        ∙ ap₂ (λ (xs ys : List Job). xs ++ ys) (still_until from t t is.time is.time.reached (omega arith))
        (released_same is_delaying (λ job. others job.task) t 0 tasks (λ k low e. let place : 0 + k ≡ k = omega arith in ap (λ n. level.higher n && nat_lt r t) place ∙ agree k e ∙ ap others (sym place)))
      where
        only_higher : (own higher : Bool) → (own ≡ true → higher ≡ false) → higher ≡ (not own && (own || higher))
        only_higher true higher h = h refl
        only_higher false higher h = refl

        agree : (k : ℕ) → is_release (task_at tasks k) t ≡ true → (level.higher k && nat_lt r t) ≡ others k
        agree k e =
            let own : Bool = nat_eq k level.own in
            let now : released k ≡ has_task level k = is.each k ∙ and_sure (set k) (is_release (task_at tasks k) t) e ∙ is_level k in
            and_sure (level.higher k) (nat_lt r t) (lt-ltb r t late)
            ∙ only_higher own (level.higher k) (λ h. subst (λ n. level.higher n ≡ false) (sym (eqb-true k level.own h)) apart)
            ∙ ap (λ b. not own && b) (sym now)
            ∙ sym (without k)

-- after a later time, those that are released up to it come first
delaying_later : (tasks : List Task) (level : Level) (r t n : ℕ) → r ≤ t →
    delaying_before tasks level r (n + (t + 1)) ≡ delaying_before tasks level r (t + 1) ++ delaying_before tasks level t (n + (t + 1))
delaying_later tasks level r t zero le =
    let same : 0 + (t + 1) ≡ t + 1 = omega arith in
    ap (delaying_before tasks level r) same
    ∙ sym (append-nil (delaying_before tasks level r (t + 1)))
    ∙ ap (λ js. delaying_before tasks level r (t + 1) ++ js) (sym (ap (delaying_before tasks level t) same ∙ none_yet tasks level t))
delaying_later tasks level r t (suc n) le =
    let u : ℕ = n + (t + 1) in
    let next : suc n + (t + 1) ≡ suc u = omega arith in
    let now : filter (is_delaying tasks level r) (released_at 0 tasks u) ≡ filter (is_delaying tasks level t) (released_at 0 tasks u) =
    released_same (is_delaying tasks level r) (is_delaying tasks level t) u 0 tasks (λ k low e. ap (λ b. level.higher (0 + k) && b) (lt-ltb r u (omega arith) ∙ sym (lt-ltb t u (omega arith)))) in
    ap (delaying_before tasks level r) next
    ∙ delaying_suc tasks level r u
    ∙ ap₂ (λ (xs ys : List Job). xs ++ ys) (delaying_later tasks level r t n le) now
    ∙ append_assoc (delaying_before tasks level r (t + 1)) (delaying_before tasks level t u) (filter (is_delaying tasks level t) (released_at 0 tasks u))
    ∙ ap (λ js. delaying_before tasks level r (t + 1) ++ js) (sym (ap (delaying_before tasks level t) next ∙ delaying_suc tasks level t u))

-- up to an end, from instant to instant of the level
module _ (tasks : List Task) (level : Level) (r end : ℕ) (inside : r < end) (set : ℕ → Bool) (is_level : (i : ℕ) → set i ≡ has_task level i) where
  -- none, where the next instant is past the end
  pub delaying_none : (t : ℕ) → IsLeastRelease tasks set (r + 1) t → end ≤ t → delaying tasks level r (end - r) ≡ []
  delaying_none t is past =
      let whole : r + (end - r) ≡ end = omega arith in
      ap (delaying_before tasks level r) whole ∙ still_until tasks level r set is_level (r + 1) t end is (omega arith) past ∙ none_yet tasks level r

  -- those of the next instant, and the later ones
  pub delaying_more : (t : ℕ) (released others : ℕ → Bool) → level.higher level.own ≡ false → IsInstant tasks set (r + 1) t released →
      ((i : ℕ) → others i ≡ (not (nat_eq i level.own) && released i)) → t < end →
      delaying tasks level r (end - r) ≡ filter (λ job. others job.task) (released_at 0 tasks t) ++ delaying tasks level t (end - t)
  delaying_more t released others apart is without before =
      let late : r < t = omega (arith, is.time.reached) in
      let whole : r + (end - r) ≡ (end - (t + 1)) + (t + 1) = omega arith in
      let rest : (end - (t + 1)) + (t + 1) ≡ t + (end - t) = omega arith in
      ap (delaying_before tasks level r) whole
      ∙ delaying_later tasks level r t (end - (t + 1)) (omega arith)
      ∙ ap₂ (λ (xs ys : List Job). xs ++ ys)
      (delaying_next tasks level r set is_level (r + 1) t released others apart late is without ∙ ap (λ js. js ++ filter (λ job. others job.task) (released_at 0 tasks t)) (none_yet tasks level r))
      (ap (delaying_before tasks level t) rest)

-- the first of the tasks that wait, and the others
pub first_waiting : (p q : ℕ → Bool) (t j : ℕ) (tasks : List Task) (i : ℕ) → i < length tasks → p (j + i) ≡ true → is_release (task_at tasks i) t ≡ true →
    ((k : ℕ) → k < i → p (j + k) ≡ false) → ((n : ℕ) → q n ≡ (not (nat_eq n (j + i)) && p n)) →
    filter (λ job. p job.task) (released_at j tasks t) ≡ job_at (j + i) (task_at tasks i) t ∷ filter (λ job. q job.task) (released_at j tasks t)
first_waiting p q t j [] i low waits releases first others = absurd (omega arith)
first_waiting p q t j (task ∷ tasks) zero low waits releases first others =
    let place : j + 0 ≡ j = omega arith in
    let rest : List Job = released_at (j + 1) tasks t in
    let held : p j ≡ true = ap p (sym place) ∙ waits in
    let gone : q j ≡ false = others j ∙ ap (λ b. not b && p j) (eq-eqb j (j + 0) (sym place)) in
    let here : filter (λ (job : Job). p job.task) (released_by j task t) ≡ job_at j task t ∷ [] = rw (releases, held) refl in
    let none : filter (λ (job : Job). q job.task) (released_by j task t) ≡ [] = rw (releases, gone) refl in
    let later : filter (λ (job : Job). p job.task) rest ≡ filter (λ (job : Job). q job.task) rest =
    released_same (λ (job : Job). p job.task) (λ (job : Job). q job.task) t (j + 1) tasks
    (λ k l e. sym (others (j + 1 + k) ∙ ap (λ b. not b && p (j + 1 + k)) (ne_eqb (j + 1 + k) (j + 0) (λ e. omega arith)))) in
    filter-append (λ (job : Job). p job.task) (released_by j task t) rest
    ∙ ap₂ (λ (xs ys : List Job). xs ++ ys) (here ∙ ap (λ n. job_at n task t ∷ []) (sym place)) later
    ∙ ap (λ js. job_at (j + 0) task t ∷ js) (sym (filter-append (λ (job : Job). q job.task) (released_by j task t) rest ∙ ap (λ js. js ++ filter (λ (job : Job). q job.task) rest) none))
first_waiting p q t j (task ∷ tasks) (suc i) low waits releases first others =
    let place : j + 1 + i ≡ j + suc i = omega arith in
    let start : j + 0 ≡ j = omega arith in
    let rest : List Job = released_at (j + 1) tasks t in
    let out : p j ≡ false = ap p (sym start) ∙ first 0 (omega arith) in
    let gone : q j ≡ false = others j ∙ ap (λ b. not (nat_eq j (j + suc i)) && b) out ∙ none_of (not (nat_eq j (j + suc i))) in
    filter-append (λ (job : Job). p job.task) (released_by j task t) rest
    ∙ ap₂ (λ (xs ys : List Job). xs ++ ys) (nobody p out (is_release task t))
    (first_waiting p q t (j + 1) tasks i (omega arith) (ap p place ∙ waits) releases
    (λ k l. let one : j + 1 + k ≡ j + suc k = omega arith in ap p one ∙ first (suc k) (omega arith))
    (λ n. others n ∙ ap (λ m. not (nat_eq n m) && p n) (sym place)))
    ∙ ap (λ n. job_at n (task_at tasks i) t ∷ filter (λ (job : Job). q job.task) rest) place
    ∙ ap (λ js. job_at (j + suc i) (task_at tasks i) t ∷ js)
    (sym (filter-append (λ (job : Job). q job.task) (released_by j task t) rest ∙ ap (λ js. js ++ filter (λ (job : Job). q job.task) rest) (nobody q gone (is_release task t))))
  where
    none_of : (b : Bool) → (b && false) ≡ false
    none_of true = refl
    none_of false = refl

    nobody : (s : ℕ → Bool) → s j ≡ false → (b : Bool) → filter (λ (job : Job). s job.task) (cond b (job_at j task t ∷ []) []) ≡ []
    nobody s apart true = rw apart refl
    nobody s apart false = refl

-- ---- they are few

released_few : (i : ℕ) (tasks : List Task) (t : ℕ) → length (released_at i tasks t) ≤ length tasks
released_few i [] t = omega arith
released_few i (task ∷ tasks) t = omega (arith, length-append (released_by i task t) (released_at (i + 1) tasks t), one (is_release task t), released_few (i + 1) tasks t)
  where
    one : (b : Bool) → length (cond b (job_at i task t ∷ []) []) ≤ 1
    one true = omega arith
    one false = omega arith

pub before_few : (tasks : List Task) (t : ℕ) → length (jobs_before tasks t) ≤ length tasks * t
before_few tasks zero = omega arith
before_few tasks (suc t) =
    omega (arith, length-append (jobs_before tasks t) (released_at 0 tasks t), before_few tasks t, released_few 0 tasks t, more (length tasks) t)
  where
    more : (n t : ℕ) → n * suc t ≡ n * t + n
    more n t = omega arith

pub delaying_few : (tasks : List Task) (level : Level) (r ticks : ℕ) → length (delaying tasks level r ticks) ≤ length tasks * (r + ticks)
delaying_few tasks level r ticks =
    let all : List Job = jobs_before tasks (r + ticks) in
    omega (arith, length-filter (is_delaying tasks level r) all, count_by-le-length (is_delaying tasks level r) all, before_few tasks (r + ticks))
