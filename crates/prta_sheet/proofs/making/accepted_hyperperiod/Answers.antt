use Rattle.std.proofs.Common.{◌*◌, ◌≤◌, length, get_or, ap, sym, ◌∙◌, subst}
use Rattle.std.proofs.lemmas.Nat.{mul-le}
use Rattle.prta_sheet.specs.declared.limits.TheConstants.{PERIOD_LIMIT, JOB_LIMIT, WORK_LIMIT}
use Rattle.prta_sheet.specs.Sheet.{Sheet}
use Rattle.prta_sheet.specs.Job.{jobs_before}
use Rattle.prta_sheet.proofs.FirstOf.{first_some}
use Rattle.prta_sheet.proofs.Ranges.{tasks_within}
use Rattle.prta_sheet.proofs.Accepts.{head_parts, early_offsets, are_tasks, load_of, past_tables, long_hyperperiod, many_jobs, much_work, no_fault}
use Rattle.prta_sheet.proofs.making.accepted_hyperperiod.Goals as goal

pub returns-in-Some-deadline_fault-clause-refused : goal.returns-in-Some-deadline_fault-clause-refused
returns-in-Some-deadline_fault-clause-refused c =
    let sheet : Sheet = record { settings = c.args.settings; tasks = c.args.tasks.now } in
    let ranges = sym c.part_ranges.ensures.ranges ∙ c.in_default.is in
    let head = sym c.head_fault.ensures ∙ c.in_default-head_fault.is in
    let made = c.part_ranges.ensures.tables c.in_default.is in
    past_tables sheet ranges head made ∙ first_some _ (load_of sheet) c.in-Some-deadline_fault.fault (sym c.deadline_fault.ensures ∙ c.in-Some-deadline_fault.is)

pub hyperperiod_within-requires-clause-some : goal.hyperperiod_within-requires-clause-some
hyperperiod_within-requires-clause-some c =
    let sheet : Sheet = record { settings = c.args.settings; tasks = c.args.tasks.now } in
    let ranges = sym c.part_ranges.ensures.ranges ∙ c.in_default.is in
    λ k d low.
    let within = tasks_within sheet ranges k d low in
    mul-le 1 1 (get_or sheet.tasks k d).period (length (get_or sheet.tasks k d).cycle) within.period_low within.cycle_low

pub hyperperiod_within-requires-clause-few : goal.hyperperiod_within-requires-clause-few
hyperperiod_within-requires-clause-few c =
    let sheet : Sheet = record { settings = c.args.settings; tasks = c.args.tasks.now } in
    let ranges = sym c.part_ranges.ensures.ranges ∙ c.in_default.is in
    λ k d low. (tasks_within sheet ranges k d low).cycle_high

pub returns-in-None-clause-refused : goal.returns-in-None-clause-refused
returns-in-None-clause-refused c =
    let sheet : Sheet = record { settings = c.args.settings; tasks = c.args.tasks.now } in
    let ranges = sym c.part_ranges.ensures.ranges ∙ c.in_default.is in
    let head = sym c.head_fault.ensures ∙ c.in_default-head_fault.is in
    let made = c.part_ranges.ensures.tables c.in_default.is in
    let deadlines = sym c.deadline_fault.ensures ∙ c.in_default-deadline_fault.is in
    long_hyperperiod sheet ranges head made deadlines (c.hyperperiod_within.ensures.above c.in-None.is)

pub count_jobs-jobs-requires-clause-offsets : goal.count_jobs-jobs-requires-clause-offsets
count_jobs-jobs-requires-clause-offsets c =
    let head = sym c.head_fault.ensures ∙ c.in_default-head_fault.is in
    early_offsets c.args.tasks.now (head_parts c.args.tasks.now head).2

pub count_jobs-jobs-requires-clause-cycles : goal.count_jobs-jobs-requires-clause-cycles
count_jobs-jobs-requires-clause-cycles c =
    let sheet : Sheet = record { settings = c.args.settings; tasks = c.args.tasks.now } in
    let ranges = sym c.part_ranges.ensures.ranges ∙ c.in_default.is in
    λ k d low. (tasks_within sheet ranges k d low).cycle_low

pub returns-then-jobs-clause-refused : goal.returns-then-jobs-clause-refused
returns-then-jobs-clause-refused c =
    let sheet : Sheet = record { settings = c.args.settings; tasks = c.args.tasks.now } in
    let ranges = sym c.part_ranges.ensures.ranges ∙ c.in_default.is in
    let head = sym c.head_fault.ensures ∙ c.in_default-head_fault.is in
    let made = c.part_ranges.ensures.tables c.in_default.is in
    let deadlines = sym c.deadline_fault.ensures ∙ c.in_default-deadline_fault.is in
    let jobs = c.count_jobs-jobs.ensures ∙ ap (λ h. length (jobs_before c.args.tasks.now (c.args.settings.hyperperiods * h))) c.in-Some-hyperperiod_within.ensures.found in
    let short = subst (λ n. n ≤ PERIOD_LIMIT) c.in-Some-hyperperiod_within.ensures.found c.in-Some-hyperperiod_within.ensures.few in
    many_jobs sheet ranges head made deadlines short c.count_jobs-jobs.result jobs c.if-jobs.true

pub work_of-work-requires-clause-tasks : goal.work_of-work-requires-clause-tasks
work_of-work-requires-clause-tasks c =
    let sheet : Sheet = record { settings = c.args.settings; tasks = c.args.tasks.now } in
    let ranges = sym c.part_ranges.ensures.ranges ∙ c.in_default.is in
    let head = sym c.head_fault.ensures ∙ c.in_default-head_fault.is in
    let made = c.part_ranges.ensures.tables c.in_default.is in
    let deadlines = sym c.deadline_fault.ensures ∙ c.in_default-deadline_fault.is in
    are_tasks c.faultless_pairs.ensures sheet ranges head made deadlines

pub returns-then-work-gt-WORK_LIMIT-clause-refused : goal.returns-then-work-gt-WORK_LIMIT-clause-refused
returns-then-work-gt-WORK_LIMIT-clause-refused c =
    let sheet : Sheet = record { settings = c.args.settings; tasks = c.args.tasks.now } in
    let ranges = sym c.part_ranges.ensures.ranges ∙ c.in_default.is in
    let head = sym c.head_fault.ensures ∙ c.in_default-head_fault.is in
    let made = c.part_ranges.ensures.tables c.in_default.is in
    let deadlines = sym c.deadline_fault.ensures ∙ c.in_default-deadline_fault.is in
    let jobs = c.count_jobs-jobs.ensures ∙ ap (λ h. length (jobs_before c.args.tasks.now (c.args.settings.hyperperiods * h))) c.in-Some-hyperperiod_within.ensures.found in
    let short = subst (λ n. n ≤ PERIOD_LIMIT) c.in-Some-hyperperiod_within.ensures.found c.in-Some-hyperperiod_within.ensures.few in
    let few = subst (λ n. n ≤ JOB_LIMIT) jobs c.if-jobs.false in
    much_work sheet ranges head made deadlines short few c.work_of-work.result c.work_of-work.ensures c.if-work-gt-WORK_LIMIT.true

pub returns-clause-accepted : goal.returns-clause-accepted
returns-clause-accepted c =
    let sheet : Sheet = record { settings = c.args.settings; tasks = c.args.tasks.now } in
    let ranges = sym c.part_ranges.ensures.ranges ∙ c.in_default.is in
    let head = sym c.head_fault.ensures ∙ c.in_default-head_fault.is in
    let made = c.part_ranges.ensures.tables c.in_default.is in
    let deadlines = sym c.deadline_fault.ensures ∙ c.in_default-deadline_fault.is in
    let jobs = c.count_jobs-jobs.ensures ∙ ap (λ h. length (jobs_before c.args.tasks.now (c.args.settings.hyperperiods * h))) c.in-Some-hyperperiod_within.ensures.found in
    let short = subst (λ n. n ≤ PERIOD_LIMIT) c.in-Some-hyperperiod_within.ensures.found c.in-Some-hyperperiod_within.ensures.few in
    let few = subst (λ n. n ≤ JOB_LIMIT) jobs c.if-jobs.false in
    λ ok. no_fault sheet ranges head made deadlines short few (subst (λ n. n ≤ WORK_LIMIT) c.work_of-work.ensures c.if-work-gt-WORK_LIMIT.false)
