use Rattle.std.proofs.Common.{refl}
use Rattle.prta_sheet.proofs.model.stated_limits.Goals as goal

pub returns : goal.returns
returns c = record { bytes = refl; tasks = refl; name_bytes = refl; points = refl; total = refl; tables = refl; time = refl; period = refl; jobs = refl; work = refl }
