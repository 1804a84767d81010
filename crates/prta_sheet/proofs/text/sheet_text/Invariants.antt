-- the settings and the tasks so far
use Rattle.std.proofs.Common.{◌≡◌, ◌++◌, flat_map, take}
use Rattle.prta_sheet.specs.Canonical.{canonical_format, settings_text, task_text}
use Rattle.prta_sheet.proofs.text.sheet_text.Given as goal

abbrev pub invariant-loop-task : goal.invariant-loop-task
invariant-loop-task l = l.text.items ≡ settings_text (canonical_format l.sheet.tasks) l.sheet.settings ++ flat_map task_text (take l.task-index l.task-items)
