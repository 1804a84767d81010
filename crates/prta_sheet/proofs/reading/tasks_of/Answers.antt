use Rattle.std.proofs.Common.{◌≡◌, true, false, Some, None, [], ◌∷◌, ◌++◌, map, take, get_or, refl, ap, ap₂, sym, ◌∙◌, subst, arith, inl, inr}
use Rattle.std.proofs.lemmas.List.{length-map, map-append, take_more}
use Rattle.std.proofs.lemmas.Bool.{cases_lt}
use Rattle.prta_mass.specs.Table.{shape_fault}
use Rattle.prta_sheet.specs.Sheet.{Task}
use Rattle.prta_sheet.specs.DocumentConditions.{first_of}
use Rattle.prta_sheet.proofs.ReadItems.{task_read, task_at_map, has_heavy, is_heavy_at, no_fault_at, first_heavy, none_heavy}
use Rattle.prta_sheet.proofs.reading.tasks_of.Goals as goal

pub weighed_task-requires : goal.weighed_task-requires
weighed_task-requires c =
    let tasks = map task_read c.args.tables.now in
    let i = c.loop-i.i in
    let long = length-map c.args.tables.now task_read in
    let here = task_at_map task_read c.args.tables.now i c.index-tables-i.result c.loop-i-test.true c.index-tables-i.is in
    record { shapes = subst (λ (task : Task). first_of shape_fault task.cycle ≡ None) here (no_fault_at tasks i (omega (arith, long)) c.requires.shapes) }

pub returns-in-Err-clause-refused : goal.returns-in-Err-clause-refused
returns-in-Err-clause-refused c = λ real.
    let tasks = map task_read c.args.tables.now in
    let i = c.loop-i.i in
    let long = length-map c.args.tables.now task_read in
    let here = task_at_map task_read c.args.tables.now i c.index-tables-i.result c.loop-i-test.true c.index-tables-i.is in
    let heavy : is_heavy_at tasks i ≡ true = subst (λ (task : Task). has_heavy task ≡ true) (sym here) (c.in-Err.ensures.heavy real) in
    first_heavy tasks i (omega (arith, long)) c.loop-i.invariant.light heavy ∙ ap Some (sym (c.in-Err.ensures.fault real))

pub loop-i-preserved : goal.loop-i-preserved
loop-i-preserved c =
    let tables = c.args.tables.now in
    let tasks = map task_read tables in
    let i = c.loop-i.i in
    let table = c.index-tables-i.result in
    let here = task_at_map task_read tables i table c.loop-i-test.true c.index-tables-i.is in
    let light : is_heavy_at tasks i ≡ false = subst (λ (task : Task). has_heavy task ≡ false) (sym here) (c.in-Ok.ensures.light refl) in
    record {
      made = c.in-Ok-push.ensures.items
          ∙ ap₂ (λ before (task : Task). before ++ task ∷ []) c.loop-i.invariant.made (c.in-Ok.ensures.made ∙ ap task_read c.index-tables-i.is)
          ∙ sym (ap (map task_read) (take_more tables i table c.loop-i-test.true) ∙ map-append task_read (take i tables) (get_or tables i table ∷ []));
      light = λ k low. elim (cases_lt k i) [
        | inl earlier ↦ c.loop-i.invariant.light k earlier
        | inr now ↦ let same : k ≡ i = omega arith in ap (is_heavy_at tasks) same ∙ light
      ];
    }

pub returns-clause-accepted : goal.returns-clause-accepted
returns-clause-accepted c = λ _.
    let long = length-map c.args.tables.now task_read in
    none_heavy (map task_read c.args.tables.now) (λ k low. c.loop-i.invariant.light k (omega (arith, long)))
