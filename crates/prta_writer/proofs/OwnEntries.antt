-- All entries of an analysis are of its own task.
use Rattle.std.proofs.Common.{◌≡◌, ℕ, zero, suc, ◌+◌, not, nat_eq, List, [], ◌∷◌, filter, map, length, All, refl}
use Rattle.std.specs.List.{flat_map}
use Rattle.std.proofs.lemmas.List.Elements.{All-nil, All-cons, All-append}
use Rattle.prta_mass.specs.declared.direction.Dir.{Dir}
use Rattle.prta_mass.specs.declared.direction.Dir.TheVariants.{Up, Down}
use Rattle.prta_mass.specs.Chances.{point}
use Rattle.prta_sheet.specs.Sheet.{Sheet, task_at, horizon}
use Rattle.prta_sheet.specs.Job.{Job}
use Rattle.prta_ledger.specs.declared.entry.Entry.{Entry}
use Rattle.prta_ledger.specs.declared.entry.Kind.{Kind}
use Rattle.prta_backlog.specs.Level.{Level, own_at}
use Rattle.prta_backlog.specs.Entries.{Operation, entry_of, entries_of, noted, named_job, operations, operations_at, level_entries_at, run_end}
use Rattle.prta_response.specs.Delays.{response_delays, delay_entries}
use Rattle.prta_dual.specs.Entries.{list_after, entries_at, entries_before, entries_in, entries}

abbrev IsOwn : ℕ → Entry → Type 0
IsOwn task entry = entry.task ≡ task

own_amounts : (dir : Dir) (task job op : ℕ) (amounts : List (Kind × ℕ)) → All (IsOwn task) (map (entry_of dir task job op) amounts)
own_amounts dir task job op [] = All-nil (IsOwn task)
own_amounts dir task job op (amount ∷ amounts) = All-cons (IsOwn task) (entry_of dir task job op amount) (map (entry_of dir task job op) amounts) refl (own_amounts dir task job op amounts)

own_noted : (dir : Dir) (task job from : ℕ) (ops : List Operation) → All (IsOwn task) (noted dir task job from ops)
own_noted dir task job from [] = All-nil (IsOwn task)
own_noted dir task job from (op ∷ ops) =
    All-append (IsOwn task) (entries_of dir task job from op) (noted dir task job (from + 1) ops)
    (own_amounts dir task job from (filter (λ amount. not (nat_eq amount.1 0)) op))
    (own_noted dir task job (from + 1) ops)

module _ (dir : Dir) (sheet : Sheet) (level : Level) where
  own_delays : (t : ℕ) (jobs : List Job) → All (IsOwn level.own) (flat_map (λ job. delay_entries dir sheet.tasks level job (list_after dir sheet level t)) jobs)
  own_delays t [] = All-nil (IsOwn level.own)
  own_delays t (job ∷ jobs) =
      All-append (IsOwn level.own) (delay_entries dir sheet.tasks level job (list_after dir sheet level t)) (flat_map (λ job. delay_entries dir sheet.tasks level job (list_after dir sheet level t)) jobs)
      (own_noted dir level.own job.number 1 (response_delays dir sheet.tasks level job.release (list_after dir sheet level t))) (own_delays t jobs)

  own_before : (t : ℕ) → All (IsOwn level.own) (entries_before dir sheet level t)
  own_before zero = All-nil (IsOwn level.own)
  own_before (suc t) =
      All-append (IsOwn level.own) (entries_before dir sheet level t) (entries_at dir sheet level t) (own_before t)
      (All-append (IsOwn level.own) (level_entries_at dir sheet.tasks level sheet.settings.support (point sheet.settings.cap 0) t)
      (flat_map (λ job. delay_entries dir sheet.tasks level job (list_after dir sheet level t)) (own_at sheet.tasks level t))
      (own_noted dir level.own (named_job sheet.tasks level t) (1 + length (operations dir sheet.tasks level sheet.settings.support (point sheet.settings.cap 0) t)) (operations_at dir sheet.tasks level sheet.settings.support (point sheet.settings.cap 0) t)) (own_delays t (own_at sheet.tasks level t)))

pub own_entries : (sheet : Sheet) (level : Level) → All (λ entry. entry.task ≡ level.own) (entries sheet level)
own_entries sheet level =
    let end : ℕ = run_end (task_at sheet.tasks level.own) (horizon sheet) in
    All-append (IsOwn level.own) (entries_in Up sheet level) (entries_in Down sheet level) (own_before Up sheet level end) (own_before Down sheet level end)
