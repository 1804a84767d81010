-- A task passes where none of its jobs fails.
use Rattle.std.proofs.Common.{◌≡◌, ℕ, Bool, not, is_none, Option, Some, None, option_map, find, List, [], ◌∷◌, refl, ◌∙◌, inl, inr}
use Rattle.std.specs.List.{list_all, range_with_len}
use Rattle.std.proofs.lemmas.Bool.{cases_Bool}
use Rattle.prta_mass.specs.declared.direction.Dir.{Dir}
use Rattle.prta_sheet.specs.Sheet.{Sheet, task_at}
use Rattle.prta_sheet.specs.Counts.{job_count}
use Rattle.prta_dual.specs.Failing.{failing_number, failing_at}
use Rattle.prta_audsley.specs.Passing.{level, number_passes, job_number, task_passes}

none_mapped : {A B : Type 0} (f : A → B) (found : Option A) → is_none (option_map f found) ≡ is_none found
none_mapped f None = refl
none_mapped f (Some x) = refl

all_pass : {A : Type 0} (p : A → Bool) (xs : List A) → is_none (find (λ x. not (p x)) xs) ≡ list_all p xs
all_pass p [] = refl
all_pass p (x ∷ xs) =
    elim (cases_Bool (p x)) [
      | inl passes ↦ rw passes (all_pass p xs)
      | inr fails ↦ rw fails refl
    ]

pub passes_is : (dir : Dir) (sheet : Sheet) (higher : ℕ → Bool) (task : ℕ) →
    is_none (option_map (failing_at dir sheet (level higher task)) (failing_number dir sheet (level higher task))) ≡ task_passes dir sheet higher task
passes_is dir sheet higher task =
    none_mapped (failing_at dir sheet (level higher task)) (failing_number dir sheet (level higher task))
    ∙ all_pass (λ k. number_passes (task_at sheet.tasks task).allow (job_number dir sheet higher task k)) (range_with_len 0 (job_count sheet task))
