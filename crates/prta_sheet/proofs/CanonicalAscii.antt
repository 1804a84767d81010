-- The canonical text has only bytes of ASCII.
use Rattle.std.proofs.Common.{◌≡◌, ℕ, ◌<◌, true, nat_lt, Some, None, Option, List, [], ◌∷◌, ◌++◌, flat_map, codes, decimal, All, refl, arith, IsAscii}
use Rattle.std.specs.List.{list_all}
use Rattle.std.proofs.lemmas.Bool.{and_parts}
use Rattle.std.proofs.lemmas.Bool.Decides.{nat_tests}
use Rattle.std.proofs.lemmas.List.Elements.{All-head, All-tail}
use Rattle.std.proofs.lemmas.Fmt.{IsAscii-decimal}
use Rattle.std.proofs.lemmas.Str.{IsAscii-append}
use Rattle.std.proofs.lemmas.Str.Ascii.{IsAscii-nil, IsAscii-cons}
use Rattle.prta_mass.specs.Table.{Table}
use Rattle.prta_mass.specs.declared.support.Support.{Support}
use Rattle.prta_sheet.specs.declared.settings.Settings.{Settings}
use Rattle.prta_sheet.specs.Sheet.{Task, Sheet}
use Rattle.prta_sheet.specs.Accepted.{is_good_name, is_name_byte}
use Rattle.prta_sheet.specs.Canonical.{number_line, support_line, support_text, settings_text, name_line, pair_text, next_pair_text, pairs_text, times_line, table_text, next_table_text, cycle_line, tables_line, allow_line, task_text, canonical_format, canonical_text, IsTomlNumber, IsTomlPair, IsTomlSupport, AreStatable, IsStatableTask, IsStatable}
use Rattle.prta_sheet.proofs.CanonicalLines.{format_small}

-- the fact as a record, whose text antt finds
record HasAscii (text : List ℕ) : Type 0 where
  bytes : IsAscii text

infixl 10 ◌>>◌
◌>>◌ : {t u : List ℕ} → HasAscii t → HasAscii u → HasAscii (t ++ u)
a >> b = record { bytes = IsAscii-append _ _ a.bytes b.bytes }

nothing : HasAscii []
nothing = record { bytes = IsAscii-nil }

byte : (b : ℕ) (bs : List ℕ) → b < 128 → HasAscii bs → HasAscii (b ∷ bs)
byte b bs small later = record { bytes = IsAscii-cons b bs small later.bytes }

-- a literal, by a test that computes
literal : (text : List ℕ) → list_all (λ b. nat_lt b 128) text ≡ true → HasAscii text
literal [] all = nothing
literal (b ∷ bs) all =
    let (here, later) = and_parts (nat_lt b 128) (list_all (λ b. nat_lt b 128) bs) all in
    byte b bs (grind (arith, nat_tests)) (literal bs later)

name : (bytes : List ℕ) → list_all is_name_byte bytes ≡ true → HasAscii bytes
name [] good = nothing
name (b ∷ bs) good =
    let (here, later) = and_parts (is_name_byte b) (list_all is_name_byte bs) good in
    byte b bs (grind (arith, nat_tests)) (name bs later)

number : (n : ℕ) → IsTomlNumber n → HasAscii (decimal n)
number n small = record { bytes = IsAscii-decimal n (omega arith) }

-- ---- the parts of the text

in_number_line : (key : List ℕ) (n : ℕ) → list_all (λ b. nat_lt b 128) key ≡ true → IsTomlNumber n → HasAscii (number_line key n)
unfolding number_line
in_number_line key n plain small = literal key plain >> literal (codes " = ") refl >> number n small >> literal (codes "\n") refl

in_pair : (pair : ℕ × ℕ) → IsTomlPair pair → HasAscii (pair_text pair)
unfolding pair_text
in_pair pair small =
    literal (codes "[") refl >> number pair.0 small.first >> literal (codes ", ") refl >> number pair.1 small.second >> literal (codes "]") refl

in_support_line : (support : Support) → IsTomlSupport (Some support) → HasAscii (support_line support)
unfolding support_line
in_support_line support small =
    literal (codes "support = { fine = ") refl >> number support.fine small.first
    >> literal (codes ", step = ") refl >> number support.step small.second >> literal (codes " }\n") refl

in_support : (support : Option Support) → IsTomlSupport support → HasAscii (support_text support)
in_support None small = nothing
in_support (Some support) small = in_support_line support small

in_settings : (format : ℕ) (settings : Settings) → IsTomlNumber format → AreStatable settings → HasAscii (settings_text format settings)
unfolding settings_text
in_settings format settings known small =
    in_number_line (codes "format") format refl known
    >> in_number_line (codes "cap") settings.cap refl small.cap
    >> in_number_line (codes "hyperperiods") settings.hyperperiods refl small.hyperperiods
    >> in_number_line (codes "turns") settings.turns refl small.turns
    >> in_support settings.support small.support

in_next_pairs : (pairs : Table) → All IsTomlPair pairs → HasAscii (flat_map next_pair_text pairs)
in_next_pairs [] small = nothing
in_next_pairs (pair ∷ pairs) small =
    literal (codes ", ") refl >> in_pair pair (All-head IsTomlPair pair pairs small) >> in_next_pairs pairs (All-tail IsTomlPair pair pairs small)

in_pairs : (pairs : Table) → All IsTomlPair pairs → HasAscii (pairs_text pairs)
in_pairs [] small = nothing
in_pairs (pair ∷ pairs) small =
    in_pair pair (All-head IsTomlPair pair pairs small) >> in_next_pairs pairs (All-tail IsTomlPair pair pairs small)

in_name : (bytes : List ℕ) → is_good_name bytes ≡ true → HasAscii (name_line bytes)
unfolding name_line
in_name bytes good =
    let (size, all) = and_parts _ (list_all is_name_byte bytes) good in
    literal (codes "name = \"") refl >> name bytes all >> literal (codes "\"\n") refl

in_times : (times : Table) → All IsTomlPair times → HasAscii (times_line times)
unfolding times_line
in_times times small = literal (codes "times = [") refl >> in_pairs times small >> literal (codes "]\n") refl

in_table : (times : Table) → All IsTomlPair times → HasAscii (table_text times)
unfolding table_text
in_table times small = literal (codes "[") refl >> in_pairs times small >> literal (codes "]") refl

abbrev AreTomlPairs : Table → Type 0
AreTomlPairs times = All IsTomlPair times

in_next_tables : (tables : List Table) → All AreTomlPairs tables → HasAscii (flat_map next_table_text tables)
in_next_tables [] small = nothing
in_next_tables (times ∷ tables) small =
    literal (codes ", ") refl >> in_table times (All-head AreTomlPairs times tables small) >> in_next_tables tables (All-tail AreTomlPairs times tables small)

in_cycle : (first : Table) (rest : List Table) → All AreTomlPairs (first ∷ rest) → HasAscii (cycle_line first rest)
unfolding cycle_line
in_cycle first rest small =
    literal (codes "cycle = [") refl >> in_table first (All-head AreTomlPairs first rest small) >> in_next_tables rest (All-tail AreTomlPairs first rest small) >> literal (codes "]\n") refl

in_tables : (cycle : List Table) → All AreTomlPairs cycle → HasAscii (tables_line cycle)
in_tables [] small = nothing
in_tables (times ∷ []) small = in_times times (All-head AreTomlPairs times [] small)
in_tables (first ∷ second ∷ rest) small = in_cycle first (second ∷ rest) small

in_allow : (allow : ℕ × ℕ) → IsTomlPair allow → HasAscii (allow_line allow)
unfolding allow_line
in_allow allow small = literal (codes "allow = ") refl >> in_pair allow small >> literal (codes "\n") refl

in_task : (task : Task) → IsStatableTask task → HasAscii (task_text task)
unfolding task_text
in_task task small =
    literal (codes "\n[[task]]\n") refl
    >> in_name task.name small.name
    >> in_number_line (codes "offset") task.offset refl small.offset
    >> in_number_line (codes "period") task.period refl small.period
    >> in_number_line (codes "deadline") task.deadline refl small.deadline
    >> in_tables task.cycle small.tables
    >> in_allow task.allow small.allow

in_tasks : (tasks : List Task) → All IsStatableTask tasks → HasAscii (flat_map task_text tasks)
in_tasks [] small = nothing
in_tasks (task ∷ tasks) small =
    in_task task (All-head IsStatableTask task tasks small) >> in_tasks tasks (All-tail IsStatableTask task tasks small)

pub ascii : (sheet : Sheet) → IsStatable sheet → IsAscii (canonical_text sheet)
ascii sheet small =
    let whole : HasAscii (canonical_text sheet) = in_settings (canonical_format sheet.tasks) sheet.settings (format_small sheet.tasks) small.settings >> in_tasks sheet.tasks small.tasks in
    whole.bytes
