use Rattle.std.proofs.Common.{◌≡◌, ◌<◌, ℕ, List, Some, map, true}
use Rattle.csv.specs.Reading.{is_flexible, Reached, Ready, default_config, source_of, strip_bom}
use Rattle.csv.specs.Records.{fields_of}
use Rattle.csv.specs.declared.parser.State.TheVariants as st
use Rattle.csv.specs.declared.reader.Trim.TheVariants as trim
use Rattle.prta_times.proofs.records.records_in.Given as goal

abbrev pub invariant-loop-row : goal.invariant-loop-row
invariant-loop-row l = record {
  trim : l.row-iterator.rdr.trim ≡ trim.None;
  ready : Ready l.row-iterator.rdr;
  left : 0 < l.row-iterator.left;
  config : l.row-iterator.rdr.config ≡ default_config;
  flexible : is_flexible l.row-iterator.rdr ≡ true;
  text : List ℕ;
  source : source_of (λ s. Some s.now) l.row-iterator.rdr ≡ Some text;
  reached : Reached default_config st.StartRecord (strip_bom l.fn.bytes) (map fields_of l.rows.items) l.row-iterator.rdr.state text;
}
