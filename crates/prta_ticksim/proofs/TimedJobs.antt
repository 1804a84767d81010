-- Jobs with their times, place by place.
use Rattle.std.proofs.Common.{◌≡◌, ℕ, ◌+◌, ◌<◌, ◌≤◌, List, [], ◌∷◌, length, drop, get_or, map, zip, All, refl, ap, sym, subst, ◌∙◌, arith}
use Rattle.std.proofs.lemmas.List.{drop_more, drop_all, get_or-map, get_or_default, length-map}
use Rattle.std.proofs.lemmas.Simd.{map-map}
use Rattle.std.proofs.lemmas.Slice.Zip.{length-zip, get_or-zip, firsts-zip, seconds-zip}
use Rattle.prta_sheet.specs.Job.{Job}
use Rattle.prta_sheet.specs.Assignment.{Timed}
use Rattle.prta_sheet.specs.Weights.{jobs_of}
use Rattle.prta_ticksim.specs.Times.{timed_jobs, job_at}

-- the job that is read at a place of a list
pub read_is : (jobs read : List Job) (k : ℕ) (job : Job) → read ≡ jobs → k < length jobs → job ≡ get_or read k job → job ≡ job_at jobs k
read_is jobs read k job same low is = is ∙ ap (λ (list : List Job). get_or list k job) same ∙ get_or_default jobs k _ _ low

-- the job at a place, with the time at that place
abbrev pub timed_at : List Job → List ℕ → ℕ → Timed
timed_at jobs times k = record { job = job_at jobs k; time = get_or times k 0 }

-- what stands past a list's end
abbrev pub no_timed : Timed
no_timed = record { job = record { task = 0; number = 0; release = 0 }; time = 0 }

-- a list of jobs with times is its jobs with its times
pub timed_parts : (state : List Timed) → timed_jobs (jobs_of state) (map (λ e. e.time) state) ≡ state
timed_parts [] = refl
timed_parts (e ∷ state) = ap (λ rest. e ∷ rest) (timed_parts state)

module _ (jobs : List Job) (times : List ℕ) (each : length times ≡ length jobs) where
  pub length-timed : length (timed_jobs jobs times) ≡ length jobs
  length-timed = length-map (zip jobs times) _ ∙ length-zip jobs times ∙ omega arith

  pub timed_get : (k : ℕ) (d : Timed) → k < length jobs → get_or (timed_jobs jobs times) k d ≡ timed_at jobs times k
  timed_get k d low =
      get_or-map (λ (pair : Job × ℕ). record { job = pair.0; time = pair.1 }) (zip jobs times) k (no_timed.job, 0) d (omega (arith, length-zip jobs times))
      ∙ ap (λ (pair : Job × ℕ). record { job = pair.0; time = pair.1 }) (get_or-zip jobs times k (no_timed.job, 0) low (omega arith))

  pub timed_rest : (k : ℕ) → k < length jobs → drop k (timed_jobs jobs times) ≡ timed_at jobs times k ∷ drop (k + 1) (timed_jobs jobs times)
  timed_rest k low =
      drop_more (timed_jobs jobs times) k (timed_at jobs times k) (omega (arith, length-timed))
      ∙ ap (λ (e : Timed). e ∷ drop (k + 1) (timed_jobs jobs times)) (timed_get k (timed_at jobs times k) low)

  pub timed_end : (k : ℕ) → length jobs ≤ k → drop k (timed_jobs jobs times) ≡ []
  timed_end k past = drop_all k (timed_jobs jobs times) (omega (arith, length-timed))

  pub jobs_of_timed : jobs_of (timed_jobs jobs times) ≡ jobs
  jobs_of_timed = map-map _ _ (zip jobs times) ∙ firsts-zip jobs times each

  pub times_of_timed : map (λ e. e.time) (timed_jobs jobs times) ≡ times
  times_of_timed = map-map _ _ (zip jobs times) ∙ seconds-zip jobs times each

  -- what holds of each time
  pub All-timed : (P : ℕ → Type 0) → All P times → All (λ e. P e.time) (timed_jobs jobs times)
  All-timed P all = λ k d low.
      let within : k < length jobs = omega (arith, length-timed) in
      subst (λ (e : Timed). P e.time) (sym (timed_get k d within)) (all k 0 (omega arith))
