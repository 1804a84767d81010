-- Both directions have room; what the numbers mean is said by the laws.
use Rattle.std.proofs.Common.{ap, ◌∙◌, arith}
use Rattle.prta_mass.specs.declared.direction.Dir.TheVariants.{Up, Down}
use Rattle.prta_backlog.specs.Pass.{level_of}
use Rattle.prta_dual.specs.Direction.{all_written}
use Rattle.prta_dual.proofs.RoomSoFar.{few_in}
use Rattle.prta_dual.proofs.Passing.{own_low}
use Rattle.prta_dual.proofs.Writing.{both_written}
use Rattle.prta_dual.proofs.analyse.analyse_task.Goals as goal

pub analyse_direction-requires-clause-room : goal.analyse_direction-requires-clause-room
analyse_direction-requires-clause-room g c =
    omega (
      arith,
      c.room_is_enough.ensures c.args.sheet.now (level_of c.args.higher c.args.task) c.tasks-tasks.ensures.accepted
          (own_low c.args.sheet.now c.args.higher c.args.task c.requires.on_sheet) c.requires.apart,
      c.requires.room,
    )

pub analyse_direction-requires-2-clause-room : goal.analyse_direction-requires-2-clause-room
analyse_direction-requires-2-clause-room g c =
    omega (
      arith,
      c.room_is_enough.ensures c.args.sheet.now (level_of c.args.higher c.args.task) c.tasks-tasks.ensures.accepted
          (own_low c.args.sheet.now c.args.higher c.args.task c.requires.on_sheet) c.requires.apart,
      c.requires.room,
      c.analyse_direction.ensures.room,
      few_in Up c.args.sheet.now (level_of c.args.higher c.args.task),
    )

pub returns-clause-numbers : goal.returns-clause-numbers
returns-clause-numbers g c =
    c.analyse_direction-2.ensures.numbers
    ∙ ap (all_written Down c.args.sheet.now (level_of c.args.higher c.args.task)) c.analyse_direction.ensures.numbers
    ∙ both_written c.args.sheet.now (level_of c.args.higher c.args.task) c.args.found.now

pub returns-clause-gap : goal.returns-clause-gap
returns-clause-gap g c = λ k low.
    c.gap_is_noted.ensures c.args.sheet.now (level_of c.args.higher c.args.task) k c.tasks-tasks.ensures.accepted (own_low c.args.sheet.now c.args.higher c.args.task c.requires.on_sheet) c.requires.apart low

pub returns-clause-around : goal.returns-clause-around
returns-clause-around g c = λ order k is low.
    c.numbers_are_around.ensures c.args.sheet.now (level_of c.args.higher c.args.task) order k c.tasks-tasks.ensures.accepted (own_low c.args.sheet.now c.args.higher c.args.task c.requires.on_sheet) is

pub returns-clause-later : goal.returns-clause-later
returns-clause-later g c = λ order k m is low.
    c.lower_numbers_stay.ensures c.args.sheet.now (level_of c.args.higher c.args.task) order k m c.tasks-tasks.ensures.accepted (own_low c.args.sheet.now c.args.higher c.args.task c.requires.on_sheet) is
