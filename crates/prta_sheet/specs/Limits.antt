-- The limits of a sheet, as numbers. The definitions name the code's constants; this says what those are.
use Rattle.std.specs.Prelude.{◌≡◌}
use Rattle.prta_mass.specs.declared.table.TheConstants.{POINT_LIMIT, TOTAL_LIMIT}
use Rattle.prta_sheet.specs.declared.limits.TheConstants.{SHEET_LIMIT, TASK_LIMIT, NAME_LIMIT, CYCLE_LIMIT, TIME_LIMIT, PERIOD_LIMIT, JOB_LIMIT, WORK_LIMIT}

pub record StatedLimits : Type 0 where
  pub bytes : SHEET_LIMIT ≡ 1048576
  pub tasks : TASK_LIMIT ≡ 12
  pub name_bytes : NAME_LIMIT ≡ 24
  pub points : POINT_LIMIT ≡ 32
  pub total : TOTAL_LIMIT ≡ 281474976710656
  pub tables : CYCLE_LIMIT ≡ 16
  pub time : TIME_LIMIT ≡ 1000000
  pub period : PERIOD_LIMIT ≡ 1000000
  pub jobs : JOB_LIMIT ≡ 2000
  pub work : WORK_LIMIT ≡ 2147483648
