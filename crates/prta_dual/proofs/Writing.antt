-- The numbers of one direction, written job by job.
use Rattle.std.proofs.Common.{◌≡◌, ℕ, ◌+◌, ◌<◌, ◌≤◌, List, length, ap, sym, ◌∙◌, subst, arith}
use Rattle.std.proofs.Math.ListN.{set, length-set}
use Rattle.std.proofs.lemmas.List.{get_or-set_other}
use Rattle.std.proofs.lemmas.List.Edits.{fill_by_more}
use Rattle.std.proofs.lemmas.List.FromFn.{fill_by_all, length-map-range_with_len, get_or-map-range_with_len}
use Rattle.prta_mass.specs.declared.direction.Dir.{Dir}
use Rattle.prta_mass.specs.declared.direction.Dir.TheVariants.{Up, Down}
use Rattle.prta_sheet.specs.Sheet.{Sheet}
use Rattle.prta_sheet.specs.Job.{nth_job}
use Rattle.prta_sheet.specs.Counts.{job_count}
use Rattle.prta_backlog.specs.Level.{Level}
use Rattle.prta_response.specs.Response.{number_of}
use Rattle.prta_dual.specs.declared.bounds.Bounds.{Bounds}
use Rattle.prta_dual.specs.Numbers.{bounds_of, all_bounds}
use Rattle.prta_dual.specs.Direction.{with_number, bounds_at, job_written, all_written}

module _ (dir : Dir) (sheet : Sheet) (level : Level) (before : List Bounds) where
  -- the numbers of the own jobs below a number are written, and the places from there on stay
  pub record AreWritten (number : ℕ) (now : List Bounds) : Type 0 where
    pub size : length now ≡ length before
    pub done : (k : ℕ) → k < number → bounds_at now k ≡ job_written dir sheet level before k
    pub rest : (k : ℕ) → number ≤ k → bounds_at now k ≡ bounds_at before k

  -- one more
  pub one_written : (number n : ℕ) (now : List Bounds) → AreWritten number now → number < length now → n ≡ number_of dir sheet level (nth_job sheet.tasks level.own number) →
      AreWritten (number + 1) (set now number (with_number dir n (bounds_at now number)))
  one_written number n now is low e =
      let written : with_number dir n (bounds_at now number) ≡ job_written dir sheet level before number =
      ap (λ m. with_number dir m (bounds_at now number)) e ∙ ap (with_number dir (number_of dir sheet level (nth_job sheet.tasks level.own number))) (is.rest number (omega arith)) in
      subst (λ bounds. AreWritten (number + 1) (set now number bounds)) (sym written) record {
        size = length-set now number (job_written dir sheet level before number) ∙ is.size;
        done = fill_by_more (job_written dir sheet level before) now number _ low is.done;
        rest = λ k high. get_or-set_other now number k (job_written dir sheet level before number) _ (λ same. omega arith) ∙ is.rest k (omega arith);
      }

  -- all
  pub are_all_written : (now : List Bounds) → AreWritten (job_count sheet level.own) now → length before ≡ job_count sheet level.own → now ≡ all_written dir sheet level before
  are_all_written now is all = fill_by_all (job_written dir sheet level before) now (job_count sheet level.own) _ (is.size ∙ all) is.done

-- the numbers of both directions are all there are
pub both_written : (sheet : Sheet) (level : Level) (before : List Bounds) → all_written Down sheet level (all_written Up sheet level before) ≡ all_bounds sheet level
both_written sheet level before =
    let count : ℕ = job_count sheet level.own in
    fill_by_all (bounds_of sheet level) (all_written Down sheet level (all_written Up sheet level before)) count (record { lower = 0; upper = 0 })
    (length-map-range_with_len (job_written Down sheet level (all_written Up sheet level before)) 0 count)
    (λ k low.
    get_or-map-range_with_len (job_written Down sheet level (all_written Up sheet level before)) 0 count k k (record { lower = 0; upper = 0 }) low (omega arith)
    ∙ ap (with_number Down (number_of Down sheet level (nth_job sheet.tasks level.own k))) (get_or-map-range_with_len (job_written Up sheet level before) 0 count k k (record { lower = 0; upper = 0 }) low (omega arith)))
