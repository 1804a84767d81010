-- With each image the numbers are lowered to its steady numbers.
use Rattle.std.proofs.Common.{◌≡◌, ℕ, ◌+◌, ◌<◌, min, map, length, replicate, List, get_or, refl, ap, ◌∙◌, arith}
use Rattle.std.specs.List.{range_with_len}
use Rattle.std.proofs.lemmas.List.FromFn.{length-map-range_with_len}
use Rattle.prta_mass.specs.Unit.{unit}
use Rattle.prta_sheet.specs.Sheet.{Task, Sheet, sheet_order, task_at}
use Rattle.prta_sheet.specs.Job.{nth_job}
use Rattle.prta_backlog.specs.Level.{Level, sheet_level}
use Rattle.prta_certificate.specs.Certificate.{steady_number}
use Rattle.prta_certificate.proofs.SheetLevels.{is_level, own_order_fits}
use Rattle.prta_certificate.proofs.FirstJobs.{short_deadline}
use Rattle.prta_response.specs.Laws.{IsLevelOf}
use Rattle.prta_tail.specs.Tail.{base_list, image_of}
use Rattle.prta_tail.proofs.Turns.{first_turn, next_turn, image_next}
use Rattle.prta_tail.proofs.steadiness.tail_steady.Goals as goal

pub loop-turn-init : goal.loop-turn-init
loop-turn-init g c =
    let tasks : List Task = c.args.sheet.now.tasks in
    let level : Level = sheet_level c.args.task in
    let base : List ℕ = base_list tasks level c.args.sheet.now.settings.cap c.args.ratio in
    let n : ℕ = length c.args.found.now in
    let size : length c.fill.new.self ≡ n = c.fill.ensures.len in
    let loaded : g.C.Curve.cells c.load_tail.new.bench.main ≡ base = c.load_tail.ensures.main ∙ ap (λ cap. base_list tasks level cap c.args.ratio) c.requires.fits.main_is in
    let main : g.C.Curve.cells c.set_aside.new.self.main ≡ base = ap g.C.Curve.cells (rw c.set_aside.ensures.others refl) ∙ loaded in
    let full : c.fill.new.self ≡ replicate n unit = c.fill.ensures.after (λ y h. h) in
    let numbers : c.lower_to_steady.new.found ≡ map (λ k. min (get_or c.fill.new.self k 0) (steady_number tasks level (g.C.Curve.cells c.set_aside.new.self.main) (nth_job tasks c.args.task k))) (range_with_len 0 n) =
    c.lower_to_steady.ensures.numbers ∙ ap (λ m. map (λ k. min (get_or c.fill.new.self k 0) (steady_number tasks level (g.C.Curve.cells c.set_aside.new.self.main) (nth_job tasks c.args.task k))) (range_with_len 0 m)) size in
    let least : c.lower_to_steady.new.found ≡ _ = first_turn tasks level c.args.task base n c.fill.new.self (g.C.Curve.cells c.set_aside.new.self.main) c.lower_to_steady.new.found full main numbers in
    record {
      fits = c.lower_to_steady.ensures.fits;
      spare = c.lower_to_steady.ensures.spare ∙ c.set_aside.ensures.spare ∙ loaded;
      size = ap length least ∙ length-map-range_with_len _ 0 n;
      least = least;
      within = omega arith;
    }

pub loop-turn-preserved : goal.loop-turn-preserved
loop-turn-preserved g c =
    let tasks : List Task = c.args.sheet.now.tasks in
    let level : Level = sheet_level c.args.task in
    let base : List ℕ = base_list tasks level c.args.sheet.now.settings.cap c.args.ratio in
    let n : ℕ = length c.args.found.now in
    let turn : ℕ = c.loop-turn.turn in
    let image : g.C.Curve.cells c.go_on.new.bench.main ≡ image_of tasks level base (turn + 1) =
    image_next tasks level c.args.task base n turn (g.C.Curve.cells c.go_on.new.bench.main) (g.C.Curve.cells c.loop-turn.bench.spare) (g.C.Curve.cells c.bring_back.new.self.main)
    c.loop-turn.invariant.spare c.bring_back.ensures.main c.go_on.ensures.main in
    let main : g.C.Curve.cells c.set_aside-in-loop-turn.new.self.main ≡ image_of tasks level base (turn + 1) = ap g.C.Curve.cells (rw c.set_aside-in-loop-turn.ensures.others refl) ∙ image in
    let numbers : c.lower_to_steady-in-loop-turn.new.found ≡ map (λ k. min (get_or c.loop-turn.found k 0) (steady_number tasks level (g.C.Curve.cells c.set_aside-in-loop-turn.new.self.main) (nth_job tasks c.args.task k))) (range_with_len 0 n) =
    c.lower_to_steady-in-loop-turn.ensures.numbers
    ∙ ap (λ m. map (λ k. min (get_or c.loop-turn.found k 0) (steady_number tasks level (g.C.Curve.cells c.set_aside-in-loop-turn.new.self.main) (nth_job tasks c.args.task k))) (range_with_len 0 m)) c.loop-turn.invariant.size in
    let least : c.lower_to_steady-in-loop-turn.new.found ≡ _ =
    next_turn tasks level c.args.task base n turn c.loop-turn.found (g.C.Curve.cells c.set_aside-in-loop-turn.new.self.main) c.lower_to_steady-in-loop-turn.new.found c.loop-turn.invariant.least main numbers in
    record {
      fits = c.lower_to_steady-in-loop-turn.ensures.fits;
      spare = c.lower_to_steady-in-loop-turn.ensures.spare ∙ c.set_aside-in-loop-turn.ensures.spare ∙ image;
      size = ap length least ∙ length-map-range_with_len _ 0 n;
      least = least;
      within = omega (arith, c.loop-turn-test.true);
    }

pub returns-clause-hold : goal.returns-clause-hold
returns-clause-hold g c =
    let sheet : Sheet = c.args.sheet.now in
    let task : ℕ = c.args.task in
    let is : IsLevelOf sheet.tasks (sheet_level task) = is_level sheet task c.settings-turns.ensures.accepted c.requires.task in
    let deadline : (task_at sheet.tasks task).deadline < sheet.settings.cap = short_deadline sheet task c.settings-turns.ensures.accepted c.requires.task sheet.settings.cap refl in
    record {
      numbers = λ k m. c.tail_numbers_hold.ensures sheet.tasks (sheet_level task) sheet.settings.cap sheet.settings.turns c.args.ratio (sheet_order sheet.tasks) k m is deadline c.requires.passes (own_order_fits sheet.tasks task c.requires.task);
      backlogs = λ m. c.backlogs_have_tails.ensures sheet.tasks (sheet_level task) c.args.ratio m is c.requires.passes;
    }
