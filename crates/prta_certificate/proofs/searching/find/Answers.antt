-- Each answer is the verdict that the step of the search decides.
use Rattle.std.proofs.Common.{◌≡◌, ℕ, ◌≤◌, ◌<◌, List, length, ap, ap₂, sym, ◌∙◌, subst, arith}
use Rattle.prta_sheet.specs.Sheet.{Task, Sheet, hyperperiod}
use Rattle.prta_sheet.specs.Accepted.{IsAccepted}
use Rattle.prta_backlog.specs.Level.{Level, sheet_level}
use Rattle.prta_backlog.specs.Greatest.{greatest_work, peak}
use Rattle.prta_certificate.specs.Candidates.{verdict_of}
use Rattle.prta_certificate.specs.declared.verdict.Verdict.{Verdict}
use Rattle.prta_certificate.specs.declared.verdict.Verdict.TheVariants.{Slack, OverFull, BeyondCap}
use Rattle.prta_certificate.specs.Search.{WorkDecides, NoImage}
use Rattle.prta_certificate.specs.Verdict.{Says, VerdictsSay}
use Rattle.prta_certificate.proofs.SheetLevels.{level_below, is_level}
use Rattle.prta_certificate.proofs.Walks.{worst_low}
use Rattle.prta_certificate.proofs.searching.find.Goals as goal

-- what is said of the level's verdict is so
says_it : (say : VerdictsSay) (sheet : Sheet) (i : ℕ) (verdict : Verdict) → IsAccepted sheet → i < length sheet.tasks →
    verdict ≡ verdict_of sheet.tasks (sheet_level i) sheet.settings.cap sheet.settings.turns → Says sheet.tasks (sheet_level i) sheet.settings.cap sheet.settings.turns verdict
says_it say sheet i verdict accepted listed e =
    subst (Says sheet.tasks (sheet_level i) sheet.settings.cap sheet.settings.turns) (sym e) (say sheet.tasks (sheet_level i) sheet.settings.cap sheet.settings.turns (is_level sheet i accepted listed))

over_full : (decides : WorkDecides) (tasks : List Task) (level : Level) (cap turns work total : ℕ) → work ≡ greatest_work tasks level → total ≡ hyperperiod tasks → total < work →
    OverFull work total ≡ verdict_of tasks level cap turns
over_full decides tasks level cap turns work total works totals over = ap₂ OverFull works totals ∙ sym ((decides tasks level cap turns).0 (omega (arith, works, totals, over)))

beyond_cap : (decides : WorkDecides) (tasks : List Task) (level : Level) (cap turns most : ℕ) → greatest_work tasks level ≤ hyperperiod tasks → most ≡ peak tasks level → cap ≤ most →
    BeyondCap most ≡ verdict_of tasks level cap turns
beyond_cap decides tasks level cap turns most fits mosts over = ap BeyondCap mosts ∙ sym ((decides tasks level cap turns).1 fits (omega (arith, mosts, over)))

pub returns-then-work-hyperperiod-clause-verdict : goal.returns-then-work-hyperperiod-clause-verdict
returns-then-work-hyperperiod-clause-verdict g c =
    let tasks : List Task = c.args.sheet.now.tasks in
    let level : Level = sheet_level c.args.task in
    let cap : ℕ = c.args.sheet.now.settings.cap in
    let turns : ℕ = c.args.sheet.now.settings.turns in
    let same = level_below c.below-higher.result c.args.task c.below-higher.ensures.members in
    let works : c.greatest_work-work.result ≡ greatest_work tasks level = c.greatest_work-work.ensures ∙ ap (greatest_work tasks) same in
    over_full c.search_decides.ensures.work tasks level cap turns _ _ works c.hyperperiod-hyperperiod.ensures.hyperperiod c.if-work-hyperperiod.true

pub returns-then-peak-cap-clause-verdict : goal.returns-then-peak-cap-clause-verdict
returns-then-peak-cap-clause-verdict g c =
    let tasks : List Task = c.args.sheet.now.tasks in
    let level : Level = sheet_level c.args.task in
    let cap : ℕ = c.args.sheet.now.settings.cap in
    let turns : ℕ = c.args.sheet.now.settings.turns in
    let same = level_below c.below-higher.result c.args.task c.below-higher.ensures.members in
    let works : c.greatest_work-work.result ≡ greatest_work tasks level = c.greatest_work-work.ensures ∙ ap (greatest_work tasks) same in
    let fits : greatest_work tasks level ≤ hyperperiod tasks = omega (arith, works, c.hyperperiod-hyperperiod.ensures.hyperperiod, c.if-work-hyperperiod.false) in
    let mosts : c.peak-peak.result ≡ peak tasks level = c.peak-peak.ensures ∙ ap (peak tasks) same in
    beyond_cap c.search_decides.ensures.work tasks level cap turns _ fits mosts (omega (arith, c.cap.ensures, c.if-peak-cap.true))

pub returns-in-Some-clause-verdict : goal.returns-in-Some-clause-verdict
returns-in-Some-clause-verdict g c =
    let tasks : List Task = c.args.sheet.now.tasks in
    let level : Level = sheet_level c.args.task in
    let cap : ℕ = c.args.sheet.now.settings.cap in
    let turns : ℕ = c.args.sheet.now.settings.turns in
    let same = level_below c.below-higher.result c.args.task c.below-higher.ensures.members in
    let works : c.greatest_work-work.result ≡ greatest_work tasks level = c.greatest_work-work.ensures ∙ ap (greatest_work tasks) same in
    let fits : greatest_work tasks level ≤ hyperperiod tasks = omega (arith, works, c.hyperperiod-hyperperiod.ensures.hyperperiod, c.if-work-hyperperiod.false) in
    let mosts : c.peak-peak.result ≡ peak tasks level = c.peak-peak.ensures ∙ ap (peak tasks) same in
    let below : peak tasks level < cap = omega (arith, mosts, c.cap.ensures, c.if-peak-cap.false) in
    let tried = c.in-Some.ensures.tried in
    sym (c.search_decides.ensures.image tasks level cap turns c.in-Some.turn fits below tried.0 tried.1.fail tried.1.passes)

pub first_lowered-requires-clause-below : goal.first_lowered-requires-clause-below
first_lowered-requires-clause-below g c =
    let tasks : List Task = c.args.sheet.now.tasks in
    let level : Level = sheet_level c.args.task in
    let cap : ℕ = c.args.sheet.now.settings.cap in
    let turns : ℕ = c.args.sheet.now.settings.turns in
    let same = level_below c.below-higher.result c.args.task c.below-higher.ensures.members in
    let works : c.greatest_work-work.result ≡ greatest_work tasks level = c.greatest_work-work.ensures ∙ ap (greatest_work tasks) same in
    let fits : greatest_work tasks level ≤ hyperperiod tasks = omega (arith, works, c.hyperperiod-hyperperiod.ensures.hyperperiod, c.if-work-hyperperiod.false) in
    let mosts : c.peak-peak.result ≡ peak tasks level = c.peak-peak.ensures ∙ ap (peak tasks) same in
    let below : peak tasks level < cap = omega (arith, mosts, c.cap.ensures, c.if-peak-cap.false) in
    omega (arith, worst_low tasks level, c.first_image.ensures.fits.main_is, below)

pub first_lowered-requires-clause-last : goal.first_lowered-requires-clause-last
first_lowered-requires-clause-last g c =
    let tasks : List Task = c.args.sheet.now.tasks in
    let level : Level = sheet_level c.args.task in
    let cap : ℕ = c.args.sheet.now.settings.cap in
    let turns : ℕ = c.args.sheet.now.settings.turns in
    let same = level_below c.below-higher.result c.args.task c.below-higher.ensures.members in
    let works : c.greatest_work-work.result ≡ greatest_work tasks level = c.greatest_work-work.ensures ∙ ap (greatest_work tasks) same in
    let fits : greatest_work tasks level ≤ hyperperiod tasks = omega (arith, works, c.hyperperiod-hyperperiod.ensures.hyperperiod, c.if-work-hyperperiod.false) in
    let mosts : c.peak-peak.result ≡ peak tasks level = c.peak-peak.ensures ∙ ap (peak tasks) same in
    let below : peak tasks level < cap = omega (arith, mosts, c.cap.ensures, c.if-peak-cap.false) in
    c.search_decides.ensures.last tasks level cap turns (is_level c.args.sheet.now c.args.task c.tasks-tasks.ensures.accepted c.requires.task) fits below

pub returns-clause-verdict : goal.returns-clause-verdict
returns-clause-verdict g c =
    let tasks : List Task = c.args.sheet.now.tasks in
    let level : Level = sheet_level c.args.task in
    let cap : ℕ = c.args.sheet.now.settings.cap in
    let turns : ℕ = c.args.sheet.now.settings.turns in
    let same = level_below c.below-higher.result c.args.task c.below-higher.ensures.members in
    let works : c.greatest_work-work.result ≡ greatest_work tasks level = c.greatest_work-work.ensures ∙ ap (greatest_work tasks) same in
    let fits : greatest_work tasks level ≤ hyperperiod tasks = omega (arith, works, c.hyperperiod-hyperperiod.ensures.hyperperiod, c.if-work-hyperperiod.false) in
    let mosts : c.peak-peak.result ≡ peak tasks level = c.peak-peak.ensures ∙ ap (peak tasks) same in
    let below : peak tasks level < cap = omega (arith, mosts, c.cap.ensures, c.if-peak-cap.false) in
    let images : NoImage tasks level cap turns (g.C.Curve.cells c.first_image.new.bench.main) = c.in_default.ensures.tried in
    let tried = c.first_lowered.ensures.tried in
    ap Slack tried.2 ∙ sym (c.search_decides.ensures.slack tasks level cap turns tried.0 fits below tried.1 images.fail tried.3.fail tried.3.passes)

pub returns-then-work-hyperperiod-clause-says : goal.returns-then-work-hyperperiod-clause-says
returns-then-work-hyperperiod-clause-says g c =
    says_it c.verdicts_say.ensures c.args.sheet.now c.args.task _ c.tasks-tasks.ensures.accepted c.requires.task (returns-then-work-hyperperiod-clause-verdict g c)

pub returns-then-peak-cap-clause-says : goal.returns-then-peak-cap-clause-says
returns-then-peak-cap-clause-says g c =
    says_it c.verdicts_say.ensures c.args.sheet.now c.args.task _ c.tasks-tasks.ensures.accepted c.requires.task (returns-then-peak-cap-clause-verdict g c)

pub returns-in-Some-clause-says : goal.returns-in-Some-clause-says
returns-in-Some-clause-says g c =
    says_it c.verdicts_say.ensures c.args.sheet.now c.args.task _ c.tasks-tasks.ensures.accepted c.requires.task (returns-in-Some-clause-verdict g c)

pub returns-clause-says : goal.returns-clause-says
returns-clause-says g c =
    says_it c.verdicts_say.ensures c.args.sheet.now c.args.task _ c.tasks-tasks.ensures.accepted c.requires.task (returns-clause-verdict g c)
