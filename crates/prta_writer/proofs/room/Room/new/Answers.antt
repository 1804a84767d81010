use Rattle.std.proofs.Common.{arith}
use Rattle.prta_writer.proofs.Fitting.{fits_from, cap_is}
use Rattle.prta_writer.proofs.room.Room.new.Goals as goal

pub returns : goal.returns
returns c =
    fits_from c.args.sheet.now _ (cap_is _ _ c.in_ok-curves.ensures.fits) c.in_ok-curves.ensures.kind (omega (arith, c.room_for-entries.ensures)) (omega (arith, c.in_ok-bounds.ensures.len, c.most_jobs.ensures))
