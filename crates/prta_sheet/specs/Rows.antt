-- A row of the format, by the form of its value.
use Rattle.std.specs.Prelude.{ℕ, Bool, List}
use Rattle.toml.specs.Data.{Data}
use Rattle.prta_sheet.specs.declared.fault.Key.{Key}
use Rattle.prta_sheet.specs.declared.conditions.Form.{Form}
use Rattle.prta_sheet.specs.declared.conditions.Form.TheVariants.{Integer, Text, Table, Tables, Times, Cycle, Share}
use Rattle.prta_sheet.specs.Format.{Row, is_integer, is_text, is_table, is_array_of, is_pair, is_pair_with, is_from_to, is_times, is_cycle, is_share, any}

-- the kind and the range of a form
abbrev pub kind_of : Form → Data → Bool
kind_of (Integer low high) = is_integer
kind_of Text = is_text
kind_of Table = is_table
kind_of Tables = is_array_of is_table
kind_of Times = is_array_of is_pair
kind_of Cycle = is_array_of (is_array_of is_pair)
kind_of Share = is_pair

abbrev pub range_of : Form → Data → Bool
range_of (Integer low high) = is_from_to low high
range_of Text = any
range_of Table = any
range_of Tables = any
range_of Times = is_times
range_of Cycle = is_cycle
range_of Share = is_pair_with is_share

abbrev pub row_of : List ℕ → Key → Bool → Form → Row
row_of text key needed form = record { text = text; key = key; needed = needed; kind = kind_of form; range = range_of form }
