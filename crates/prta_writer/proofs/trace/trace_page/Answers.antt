use Rattle.std.proofs.Common.{◌≡◌, ℕ, ◌++◌, List, flat_map, length, codes, ap, ◌∙◌}
use Rattle.std.specs.List.{range_with_len}
use Rattle.prta_sheet.specs.Sheet.{Task}
use Rattle.prta_report.specs.Page.{PageParts}
use Rattle.prta_ticksim.specs.Machine.{MachineParts}
use Rattle.prta_report.specs.Trace.{runs_of, line_of_run, standing_line}
use Rattle.prta_writer.proofs.trace.trace_page.Goals as goal

-- the pieces as they were pushed are the parts of the text
pub returns : goal.returns
returns c =
    let written : PageParts → List ℕ = λ page. page.written in
    let tasks : List Task = c.args.sheet.now.tasks in
    let machine : MachineParts = c.args.machine in
    let moved = c.in_ok-runs.ensures.moved in
    let runs : MachineParts → List ℕ = λ m. flat_map (line_of_run tasks m.jobs) c.in_ok-runs.runs.items in
    let standings : MachineParts → List ℕ = λ m. flat_map (standing_line tasks m) (range_with_len 0 (length m.jobs)) in
    let head : c.push.new.self.written ≡ codes "prta simulate 1\n" = ap written c.push.ensures ∙ ap (λ (page : PageParts). page.written ++ codes "prta simulate 1\n") c.in_ok-page.ensures in
    let body : (runs c.all_runs.new.machine ++ standings c.all_runs.new.machine) ++ codes "end\n" ≡ flat_map (line_of_run tasks machine.jobs) (runs_of machine) ++ standings machine ++ codes "end\n" =
    ap (λ m. (runs m ++ standings m) ++ codes "end\n") moved
    ∙ ap (λ all. flat_map (line_of_run tasks machine.jobs) all ++ standings machine ++ codes "end\n") (c.runs_are_longest.ensures.only machine c.in_ok-runs.runs.items c.in_ok-runs.ensures.runs) in
    ap written c.push-2.ensures
    ∙ rw (c.push_standings.ensures.written, c.push_runs.ensures.written, c.jobs-2.ensures, c.deref.ensures.value, head) (ap (λ text. codes "prta simulate 1\n" ++ text) body)
