use Rattle.std.proofs.Common.{rules, ◌≡◌, ℕ, ◌++◌, List, flat_map, ap, ◌∙◌, subst, append_assoc}
use Rattle.prta_sheet.specs.Sheet.{Sheet}
use Rattle.prta_report.specs.Text.{line_of_entry}
use Rattle.prta_dual.specs.Entries.{entries}
use Rattle.prta_backlog.specs.Level.{sheet_level}
use Rattle.prta_report.specs.Analysis.{entry_rows, gap_rows}
use Rattle.prta_writer.specs.Writing.{TookPart, TookAllBut}
use Rattle.prta_writer.proofs.Taking.{more_put, longer, part_then, part_of_more}
use Rattle.prta_writer.proofs.OwnEntries.{own_entries}
use Rattle.prta_writer.proofs.rows.put_gap_rows.Goals as goal

pub put_entries-requires-clause-tasks : goal.put_entries-requires-clause-tasks
put_entries-requires-clause-tasks g c =
    let sheet : Sheet = c.args.sheet.now in
    let own = own_entries sheet (sheet_level c.args.task) in
    let same : c.entries.result.now ≡ entries sheet (sheet_level c.args.task) = c.entries.ensures ∙ c.requires.entries in
    rw same (λ k d l. rw (own k d l) c.requires.task)

pub returns-in_err-put_entries-clause-part : goal.returns-in_err-put_entries-clause-part
returns-in_err-put_entries-clause-part g c =
    let sheet : Sheet = c.args.sheet.now in
    let a = g.O.Sink.taken c.args.out.now in
    let b = g.O.Sink.taken c.put_entries.new.out in
    let start : List ℕ = c.args.desk.now.page.written in
    let same : flat_map (line_of_entry sheet.tasks) c.entries.result.now ≡ entry_rows sheet c.args.task = ap (flat_map (line_of_entry sheet.tasks)) (c.entries.ensures ∙ c.requires.entries) in
    let part : TookPart a b (start ++ (entry_rows sheet c.args.task ++ gap_rows sheet c.args.task)) =
    subst (λ t. TookPart a b t) (append_assoc start (entry_rows sheet c.args.task) (gap_rows sheet c.args.task))
    (part_of_more a b (start ++ entry_rows sheet c.args.task) (gap_rows sheet c.args.task) (subst (λ rows. TookPart a b (start ++ rows)) same c.in_err-put_entries.ensures.part)) in
    search (rules, part)

pub returns-in_err-put_jobs-clause-part : goal.returns-in_err-put_jobs-clause-part
returns-in_err-put_jobs-clause-part g c =
    let sheet : Sheet = c.args.sheet.now in
    let a = g.O.Sink.taken c.args.out.now in
    let b = g.O.Sink.taken c.put_entries.new.out in
    let d = g.O.Sink.taken c.put_jobs.new.out in
    let start : List ℕ = c.args.desk.now.page.written in
    let gaps : List ℕ = gap_rows sheet c.args.task in
    let same : flat_map (line_of_entry sheet.tasks) c.entries.result.now ≡ entry_rows sheet c.args.task = ap (flat_map (line_of_entry sheet.tasks)) (c.entries.ensures ∙ c.requires.entries) in
    let first : TookAllBut a b (start ++ entry_rows sheet c.args.task) c.put_entries.new.page.written = subst (λ rows. TookAllBut a b (start ++ rows) c.put_entries.new.page.written) same c.in_ok-put_entries.ensures.took in
    let part : TookPart a d (start ++ (entry_rows sheet c.args.task ++ gaps)) =
    subst (λ t. TookPart a d t) (append_assoc start (entry_rows sheet c.args.task) gaps)
    (part_then a b d _ (c.put_entries.new.page.written ++ gaps) (longer a b _ c.put_entries.new.page.written gaps first) c.in_err-put_jobs.ensures.part) in
    search (rules, part)

pub returns-clause-took : goal.returns-clause-took
returns-clause-took g c =
    let sheet : Sheet = c.args.sheet.now in
    let a = g.O.Sink.taken c.args.out.now in
    let b = g.O.Sink.taken c.put_entries.new.out in
    let d = g.O.Sink.taken c.put_jobs.new.out in
    let start : List ℕ = c.args.desk.now.page.written in
    let gaps : List ℕ = gap_rows sheet c.args.task in
    let same : flat_map (line_of_entry sheet.tasks) c.entries.result.now ≡ entry_rows sheet c.args.task = ap (flat_map (line_of_entry sheet.tasks)) (c.entries.ensures ∙ c.requires.entries) in
    let first : TookAllBut a b (start ++ entry_rows sheet c.args.task) c.put_entries.new.page.written = subst (λ rows. TookAllBut a b (start ++ rows) c.put_entries.new.page.written) same c.in_ok-put_entries.ensures.took in
    let whole : TookAllBut a d (start ++ (entry_rows sheet c.args.task ++ gaps)) c.put_jobs.new.page.written =
    subst (λ t. TookAllBut a d t c.put_jobs.new.page.written) (append_assoc start (entry_rows sheet c.args.task) gaps)
    (more_put a b d _ (c.put_entries.new.page.written ++ gaps) c.put_jobs.new.page.written (longer a b _ c.put_entries.new.page.written gaps first) c.in_ok-put_jobs.ensures.took) in
    search (rules, whole)
