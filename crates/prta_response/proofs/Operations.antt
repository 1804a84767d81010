-- The operations on lists keep their bounds on the shares of the assignments.
use Rattle.std.proofs.Common.{◌≡◌, ℕ, ◌+◌, ◌-◌, ◌*◌, ◌≤◌, ◌<◌, max, true, false, nat_le, nat_lt, if◌then◌else◌, List, [], ◌∷◌, ◌++◌, length, get_or, set, refl, ap, sym, ◌∙◌, subst, arith, ⊎_elim, append_assoc, append-nil, Option, Some, None}
use Rattle.std.specs.List.{AllByRecursion as Each}
use Rattle.std.proofs.lemmas.List.{length-set, get_or_default, get_or-set_same, get_or-set_other}
use Rattle.std.proofs.lemmas.Bool.{cases_lt, cond_both, lt-leb}
use Rattle.std.proofs.lemmas.Bool.Decides.{nat_tests}
use Rattle.prta_mass.specs.Unit.{unit}
use Rattle.prta_mass.specs.Table.{Table, total}
use Rattle.prta_mass.specs.Chances.{at, before, cells_of, point}
use Rattle.prta_mass.specs.declared.direction.Dir.{Dir}
use Rattle.prta_mass.specs.declared.direction.Dir.TheVariants.{Up, Down}
use Rattle.prta_mass.specs.declared.support.Support.{Support}
use Rattle.prta_sheet.specs.Job.{Job}
use Rattle.prta_sheet.specs.Assignment.{Timed}
use Rattle.prta_sheet.specs.Weights.{one_if, jobs_of}
use Rattle.prta_sheet.proofs.Weighing.{weigh_constant}
use Rattle.prta_shift.specs.Shift.{shifted}
use Rattle.prta_shift.proofs.Shifts.{reads_later}
use Rattle.prta_resample.specs.Resample.{read_place, resampled}
use Rattle.prta_resample.proofs.Places.{read_safe, read_last}
use Rattle.prta_resample.proofs.Keeping.{length-resampled, cell_resampled}
use Rattle.prta_dist.specs.Addition.{cell_added, settled, added}
use Rattle.prta_dist.proofs.Cells.{at_past, length-cells_of, at-cells_of, last-cells_of}
use Rattle.prta_dist.proofs.Sums.{before_both}
use Rattle.prta_preempt.specs.Delay.{delayed}
use Rattle.prta_backlog.specs.LevelRun.{RunState, tables_added, kept}
use Rattle.prta_backlog.proofs.Chances.{length-added}
use Rattle.prta_response.proofs.Weighing.{timed}
use Rattle.prta_response.proofs.Shares.{safe-refl, safe-same, BoundsMean, BoundsShare, Bounds, from_place, unit_bounds, same_mean, rounded_mean, free_mean}

-- the same at the places up to a limit
abbrev pub BoundsUpTo : ℕ → Dir → (Job → Table) → (ℕ → ℕ) → List Job → (List Timed → ℕ) → Type 0
BoundsUpTo limit dir table F jobs number = (k : ℕ) → k ≤ limit → BoundsShare dir table (F k) jobs number k

module _ (table : Job → Table) where
  -- equal values bound alike
  same_value : (dir : Dir) (x y : ℕ) (jobs : List Job) (f : List Timed → ℕ) → x ≡ y → BoundsMean dir table y jobs f → BoundsMean dir table x jobs f
  same_value dir x y jobs f e h = subst (λ z. BoundsMean dir table z jobs f) (sym e) h

  -- finitely many cells, with the rule on the last one, bound at every place
  pub settled_bounds : (dir : Dir) (jobs : List Job) (F : ℕ → ℕ) (n : ℕ) (b : List Timed → ℕ) → 0 < n → Bounds dir table F jobs b → Bounds dir table (at (settled dir (cells_of n F))) jobs b
  settled_bounds Up jobs F n b some h k = ⊎_elim
      (λ (l : k < n). same_value Up _ _ jobs _ (at-cells_of n F k l) (h k))
      (λ (l : n ≤ k).
      same_value Up _ _ jobs _ (at_past (cells_of n F) k (omega (arith, length-cells_of n F)) ∙ last-cells_of n F some)
      (from_place table Up (F (n - 1)) jobs b (n - 1) k (omega arith) (h (n - 1))))
      (cases_lt k n)
  settled_bounds Down jobs F n b some h k =
      let cells : List ℕ = cells_of n F in
      let size : length cells ≡ n = length-cells_of n F in
      let ended : List ℕ = set cells (length cells - 1) unit in
      let same : length ended ≡ length cells = length-set cells (length cells - 1) unit in
      ⊎_elim
      (λ (l : k < n - 1).
      same_value Down _ _ jobs _ (get_or-set_other cells (length cells - 1) k unit _ (omega arith) ∙ get_or_default cells k _ _ (omega arith) ∙ at-cells_of n F k (omega arith)) (h k))
      (λ (l : n - 1 ≤ k).
      same_value Down _ _ jobs _
      (at_past ended k (omega arith) ∙ ap (λ m. get_or ended (m - 1) 0) same ∙ get_or-set_same cells (length cells - 1) unit 0 (omega arith))
      (unit_bounds table jobs (λ a. nat_le (b a) k)))
      (cases_lt k (n - 1))

module _ (dir : Dir) (table : Job → Table) where
  -- the addition of a job's table: the number rises by the job's time
  pub added_bounds : (jobs : List Job) (job : Job) (cells : List ℕ) (b b' : List Timed → ℕ) → 0 < total (table job) → 0 < length cells →
      ((a : List Timed) (c : ℕ) → jobs_of a ≡ jobs → b' (a ++ timed job c ∷ []) ≡ b a + c) →
      Bounds dir table (at cells) jobs b → Bounds dir table (at (added dir (table job) cells)) (jobs ++ job ∷ []) b'
  added_bounds jobs job cells b b' weighs some rises h =
      settled_bounds table dir (jobs ++ job ∷ []) (cell_added dir (table job) cells) (length cells) b' some
      (λ k. rounded_mean dir table jobs job (λ a. one_if (nat_le (b' a) k)) (before (at cells) k) weighs
      (λ c. before_both (λ x. BoundsMean dir table x jobs (λ a. one_if (nat_le (b' (a ++ timed job c ∷ [])) k))) (at cells) k c (near k c) (far k c)))
    where
      within : (n c k : ℕ) → c ≤ k → nat_le n (k - c) ≡ nat_le (n + c) k
      within n c k le = grind (arith, nat_tests)

      above : (n c k : ℕ) → k < c → nat_le (n + c) k ≡ false
      above n c k lt = lt-leb (n + c) k (omega arith)

      near : (k c : ℕ) → c ≤ k → BoundsMean dir table (at cells (k - c)) jobs (λ a. one_if (nat_le (b' (a ++ timed job c ∷ [])) k))
      near k c le = same_mean dir table (at cells (k - c)) jobs (λ a. one_if (nat_le (b a) (k - c))) _
          (λ a of_a. ap one_if (within (b a) c k le ∙ ap (λ n. nat_le n k) (sym (rises a c of_a)))) (h (k - c))

      far : (k c : ℕ) → k < c → BoundsMean dir table 0 jobs (λ a. one_if (nat_le (b' (a ++ timed job c ∷ [])) k))
      far k c lt = same_mean dir table 0 jobs (λ a. 0) _ (λ a of_a. ap one_if (sym (ap (λ n. nat_le n k) (rises a c of_a) ∙ above (b a) c k lt)))
          (safe-same dir 0 0 _ _ (omega arith) (ap (λ s. unit * s) (weigh_constant table 0 jobs) ∙ omega arith) (safe-refl dir 0))

  -- those of several jobs, each of which adds its time to the number
  pub tables_bounds : (jobs more : List Job) (cells : List ℕ) (b : List Timed → ℕ) → 0 < length cells →
      Each (λ job. (0 < total (table job)) × ((a : List Timed) (c : ℕ) → b (a ++ timed job c ∷ []) ≡ b a + c)) more →
      Bounds dir table (at cells) jobs b → Bounds dir table (at (tables_added dir table more cells)) (jobs ++ more) b
  tables_bounds jobs [] cells b some each h = subst (λ js. Bounds dir table (at cells) js b) (sym (append-nil jobs)) h
  tables_bounds jobs (job ∷ more) cells b some each h =
      let next : List ℕ = added dir (table job) cells in
      subst (λ js. Bounds dir table (at (tables_added dir table more next)) js b) (append_assoc jobs (job ∷ []) more)
      (tables_bounds (jobs ++ job ∷ []) more next b (omega (arith, length-added dir (table job) cells)) each.1
      (added_bounds jobs job cells b b (each.0).0 some (λ a c of_a. (each.0).1 a c) h))

  -- the shift: the number falls as time passes, not below 0
  pub shifted_bounds : (jobs : List Job) (cells : List ℕ) (t : ℕ) (b b' : List Timed → ℕ) → 0 < length cells → ((a : List Timed) → jobs_of a ≡ jobs → b' a ≡ b a - t) →
      Bounds dir table (at cells) jobs b → Bounds dir table (at (shifted t cells)) jobs b'
  shifted_bounds jobs cells t b b' some falls h k =
      same_value table dir _ _ jobs _ (reads_later t cells k some)
      (same_mean dir table (at cells (k + t)) jobs (λ a. one_if (nat_le (b a) (k + t))) _ (λ a of_a. ap one_if (fallen (b a) ∙ ap (λ n. nat_le n k) (sym (falls a of_a)))) (h (k + t)))
    where
      fallen : (n : ℕ) → nat_le n (k + t) ≡ nat_le (n - t) k
      fallen n = grind (arith, nat_tests)

  -- the re-sampling reads at the safe side
  resampled_bounds : (support : Support) (jobs : List Job) (cells : List ℕ) (b : List Timed → ℕ) → 0 < length cells → Bounds dir table (at cells) jobs b → Bounds dir table (at (resampled dir support cells)) jobs b
  resampled_bounds support jobs cells b some h k =
      let n : ℕ = length cells in
      let new : List ℕ = resampled dir support cells in
      let size : length new ≡ n = length-resampled dir support cells in
      ⊎_elim
      (λ (l : k < n).
      same_value table dir _ _ jobs _ (cell_resampled dir support cells k _ l)
      (from_place table dir _ jobs b (read_place dir support n k) k (read_safe support n dir k) (h (read_place dir support n k))))
      (λ (l : n ≤ k).
      let same : at new k ≡ at cells k =
      at_past new k (omega arith) ∙ ap (λ m. get_or new (m - 1) 0) size ∙ cell_resampled dir support cells (n - 1) 0 (omega arith)
      ∙ ap (at cells) (read_last support n dir (n - 1) refl) ∙ at_past cells (n - 1) (omega arith) ∙ sym (at_past cells k (omega arith)) in
      same_value table dir _ _ jobs _ same (h k))
      (cases_lt k n)

  pub kept_bounds : (support : Option Support) (run : RunState) (jobs : List Job) (b : List Timed → ℕ) → 0 < length run.cells → Bounds dir table (at run.cells) jobs b →
      (0 < length (kept dir support run)) × Bounds dir table (at (kept dir support run)) jobs b
  kept_bounds None run jobs b some h = (some, h)
  kept_bounds (Some s) run jobs b some h =
      cond_both run.begun (resampled dir s run.cells) run.cells (λ cells. (0 < length cells) × Bounds dir table (at cells) jobs b)
      (λ e. (omega (arith, length-resampled dir s run.cells), resampled_bounds s jobs run.cells b some h)) (λ e. (some, h))

  -- the delay at a split place: a number above it rises by the job's time
  pub delayed_bounds : (limit : ℕ) (jobs : List Job) (job : Job) (cells : List ℕ) (y y' : List Timed → ℕ) (d : ℕ) → 0 < total (table job) → d ≤ limit → limit < length cells →
      ((a : List Timed) (c : ℕ) → jobs_of a ≡ jobs → y' (a ++ timed job c ∷ []) ≡ (if nat_lt d (y a) then y a + c else y a)) →
      BoundsUpTo limit dir table (at cells) jobs y → BoundsUpTo limit dir table (at (delayed dir (table job) d cells)) (jobs ++ job ∷ []) y'
  delayed_bounds limit jobs job cells y y' d weighs low within rises h k in_limit =
      same_value table dir _ _ (jobs ++ job ∷ []) _ (at-cells_of (length cells) _ k (omega arith))
      (cond_both (nat_le k d) (at cells k) _ (λ x. BoundsMean dir table x (jobs ++ job ∷ []) (λ a. one_if (nat_le (y' a) k)))
      (λ e. free_mean dir table (at cells k) jobs job _ (λ a. one_if (nat_le (y a) k)) (λ a c of_a. ap one_if (ap (λ n. nat_le n k) (rises a c of_a) ∙ early (y a) c e)) (h k in_limit))
      (λ e. rounded_mean dir table jobs job (λ a. one_if (nat_le (y' a) k)) (λ c. at cells (max (k - c) d)) weighs
      (λ c. same_mean dir table _ jobs (λ a. one_if (nat_le (y a) (max (k - c) d))) _ (λ a of_a. ap one_if (sym (ap (λ n. nat_le n k) (rises a c of_a) ∙ late (y a) c e))) (h (max (k - c) d) (omega arith)))))
    where
      early : (n c : ℕ) → nat_le k d ≡ true → nat_le (if nat_lt d n then n + c else n) k ≡ nat_le n k
      early n c e = grind (arith, nat_tests)

      late : (n c : ℕ) → nat_le k d ≡ false → nat_le (if nat_lt d n then n + c else n) k ≡ nat_le n (max (k - c) d)
      late n c e = grind (arith, nat_tests)

pub length-delayed : (dir : Dir) (table : Table) (d : ℕ) (cells : List ℕ) → length (delayed dir table d cells) ≡ length cells
length-delayed dir table d cells = length-cells_of (length cells) _

-- the point at 0 is the unit at every place
pub at-point : (cap k : ℕ) → 0 < cap → at (point cap 0) k ≡ unit
at-point cap k some =
    let F : ℕ → ℕ = λ k. if nat_lt k 0 then 0 else unit in
    ⊎_elim
    (λ (l : k < cap). at-cells_of cap F k l ∙ every k)
    (λ (l : cap ≤ k). at_past (point cap 0) k (omega (arith, length-cells_of cap F)) ∙ last-cells_of cap F some ∙ every (cap - 1))
    (cases_lt k cap)
  where
    every : (k : ℕ) → (if nat_lt k 0 then 0 else unit) ≡ unit
    every k = grind (arith, nat_tests)
