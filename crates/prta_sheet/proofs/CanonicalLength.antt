-- The canonical text of an accepted sheet is shorter than a sheet's file may be. The bounds are crude.
use Rattle.std.proofs.Common.{◌≡◌, ℕ, ◌+◌, ◌*◌, ◌≤◌, true, nat_le, Some, None, Option, List, [], ◌∷◌, ◌++◌, flat_map, length, codes, decimal, All, arith, le_refl, length-append}
use Rattle.std.specs.List.{list_all}
use Rattle.std.proofs.lemmas.Bool.{and_parts, leb-true}
use Rattle.std.proofs.lemmas.Fmt.{length-decimal-le}
use Rattle.std.proofs.lemmas.List.Elements.{All-head, All-tail}
use Rattle.prta_mass.specs.Table.{Table}
use Rattle.prta_mass.specs.declared.support.Support.{Support}
use Rattle.prta_sheet.specs.declared.limits.TheConstants.{NAME_LIMIT, SHEET_LIMIT}
use Rattle.prta_sheet.specs.declared.settings.Settings.{Settings}
use Rattle.prta_sheet.specs.Sheet.{Task, Sheet}
use Rattle.prta_sheet.specs.Accepted.{is_good_name, is_name_byte, IsTask, IsAccepted}
use Rattle.prta_sheet.specs.Canonical.{number_line, support_line, support_text, settings_text, name_line, pair_text, next_pair_text, pairs_text, times_line, table_text, next_table_text, cycle_line, tables_line, allow_line, task_text, canonical_format, canonical_text, IsTomlNumber, IsTomlPair, IsTomlSupport, AreStatable, IsStatableTask}
use Rattle.prta_sheet.proofs.CanonicalLines.{format_small}
use Rattle.prta_sheet.proofs.Statable.{accepted_are_statable}

-- a text of at most so many bytes
record IsWithin (limit : ℕ) (text : List ℕ) : Type 0 where
  bytes : length text ≤ limit

infixl 10 ◌>>◌
◌>>◌ : {m n : ℕ} {t u : List ℕ} → IsWithin m t → IsWithin n u → IsWithin (m + n) (t ++ u)
◌>>◌ {m} {n} {t} {u} a b = let first = a.bytes in let second = b.bytes in record { bytes = omega (arith, length-append t u) }

wider : {m : ℕ} {text : List ℕ} (n : ℕ) → IsWithin m text → m ≤ n → IsWithin n text
wider n is more = let bytes = is.bytes in record { bytes = omega arith }

nothing : IsWithin 0 []
nothing = record { bytes = le_refl 0 }

literal : (text : List ℕ) → IsWithin (length text) text
literal text = record { bytes = le_refl (length text) }

number : (n : ℕ) → IsTomlNumber n → IsWithin 19 (decimal n)
number n small = record { bytes = length-decimal-le 19 n (omega arith) (omega arith) (omega arith) }

-- one text for each element
for_each : {X : Type 0} (f : X → List ℕ) (limit : ℕ) (xs : List X) → All (λ x. IsWithin limit (f x)) xs → IsWithin (limit * length xs) (flat_map f xs)
for_each f limit [] each = record { bytes = omega arith }
for_each f limit (x ∷ xs) each =
    let first = All-head (λ x. IsWithin limit (f x)) x xs each in
    let rest = for_each f limit xs (All-tail (λ x. IsWithin limit (f x)) x xs each) in
    wider (limit * length (x ∷ xs)) (first >> rest) (omega arith)

-- ---- the parts of the text

in_number_line : (key : List ℕ) (n : ℕ) → IsTomlNumber n → IsWithin (length key + 23) (number_line key n)
unfolding number_line
in_number_line key n small = wider _ (literal key >> literal (codes " = ") >> number n small >> literal (codes "\n")) (omega arith)

in_support : (support : Option Support) → IsTomlSupport support → IsWithin 100 (support_text support)
unfolding support_line
in_support None small = wider _ nothing (omega arith)
in_support (Some support) small =
    let first = literal (codes "support = { fine = ") >> number support.fine small.first in
    let whole = first >> literal (codes ", step = ") >> number support.step small.second >> literal (codes " }\n") in
    wider _ whole (omega arith)

in_settings : (format : ℕ) (settings : Settings) → IsTomlNumber format → AreStatable settings → IsWithin 300 (settings_text format settings)
unfolding settings_text
in_settings format settings known small =
    let whole =
    in_number_line (codes "format") format known
    >> in_number_line (codes "cap") settings.cap small.cap
    >> in_number_line (codes "hyperperiods") settings.hyperperiods small.hyperperiods
    >> in_number_line (codes "turns") settings.turns small.turns
    >> in_support settings.support small.support
    in
    wider _ whole (omega arith)

in_pair : (pair : ℕ × ℕ) → IsTomlPair pair → IsWithin 42 (pair_text pair)
unfolding pair_text
in_pair pair small =
    wider _ (literal (codes "[") >> number pair.0 small.first >> literal (codes ", ") >> number pair.1 small.second >> literal (codes "]")) (omega arith)

in_pairs : (pairs : Table) → All IsTomlPair pairs → IsWithin (44 * length pairs) (pairs_text pairs)
in_pairs [] small = wider _ nothing (omega arith)
in_pairs (pair ∷ pairs) small =
    let first = in_pair pair (All-head IsTomlPair pair pairs small) in
    let later = All-tail IsTomlPair pair pairs small in
    let rest = for_each next_pair_text 44 pairs (λ k d low. literal (codes ", ") >> in_pair _ (later k d low)) in
    wider _ (first >> rest) (omega arith)

in_name : (name : List ℕ) → is_good_name name ≡ true → IsWithin 34 (name_line name)
unfolding name_line
in_name name good =
    let (size, bytes) = and_parts _ (list_all is_name_byte name) good in
    let (some, few) = and_parts (nat_le 1 (length name)) (nat_le (length name) NAME_LIMIT) size in
    let short : length name ≤ NAME_LIMIT = leb-true _ _ few in
    wider _ (literal (codes "name = \"") >> literal name >> literal (codes "\"\n")) (omega arith)

in_times : (times : Table) → All IsTomlPair times → IsWithin (44 * length times + 11) (times_line times)
unfolding times_line
in_times times small = wider _ (literal (codes "times = [") >> in_pairs times small >> literal (codes "]\n")) (omega arith)

abbrev AreTomlPairs : Table → Type 0
AreTomlPairs times = All IsTomlPair times

in_table : (times : Table) → length times ≤ 32 → AreTomlPairs times → IsWithin 1410 (table_text times)
unfolding table_text
in_table times few small = wider _ (literal (codes "[") >> in_pairs times small >> literal (codes "]")) (omega arith)

in_cycle : (first : Table) (rest : List Table) → length (first ∷ rest) ≤ 16 → All (λ times. length times ≤ 32) (first ∷ rest) → All AreTomlPairs (first ∷ rest) → IsWithin 23000 (cycle_line first rest)
unfolding cycle_line
in_cycle first rest many few small =
    let short = All-tail (λ (times : Table). length times ≤ 32) first rest few in
    let later = All-tail AreTomlPairs first rest small in
    let start = in_table first (All-head (λ (times : Table). length times ≤ 32) first rest few) (All-head AreTomlPairs first rest small) in
    let tables = for_each next_table_text 1412 rest (λ k d low. literal (codes ", ") >> in_table _ (short k d low) (later k d low)) in
    wider _ (literal (codes "cycle = [") >> start >> tables >> literal (codes "]\n")) (omega arith)

in_tables : (cycle : List Table) → length cycle ≤ 16 → All (λ times. length times ≤ 32) cycle → All AreTomlPairs cycle → IsWithin 23000 (tables_line cycle)
in_tables [] many few small = wider _ nothing (omega arith)
in_tables (times ∷ []) many few small =
    let short = All-head (λ (times : Table). length times ≤ 32) times [] few in
    wider _ (in_times times (All-head AreTomlPairs times [] small)) (omega arith)
in_tables (first ∷ second ∷ rest) many few small = in_cycle first (second ∷ rest) many few small

in_allow : (allow : ℕ × ℕ) → IsTomlPair allow → IsWithin 51 (allow_line allow)
unfolding allow_line
in_allow allow small = wider _ (literal (codes "allow = ") >> in_pair allow small >> literal (codes "\n")) (omega arith)

-- ---- the whole text

in_task : (cap : ℕ) (task : Task) → IsTask cap task → IsStatableTask task → IsWithin 24000 (task_text task)
unfolding task_text
in_task cap task is small =
    let few : All (λ (times : Table). length times ≤ 32) task.cycle = λ k d low. (is.tables k d low).few in
    let whole =
    literal (codes "\n[[task]]\n")
    >> in_name task.name small.name
    >> in_number_line (codes "offset") task.offset small.offset
    >> in_number_line (codes "period") task.period small.period
    >> in_number_line (codes "deadline") task.deadline small.deadline
    >> in_tables task.cycle is.cycle_high few small.tables
    >> in_allow task.allow small.allow
    in
    wider _ whole (omega arith)

pub canonical_is_short : (sheet : Sheet) → IsAccepted sheet → length (canonical_text sheet) ≤ SHEET_LIMIT
canonical_is_short sheet is =
    let small = accepted_are_statable sheet is in
    let few = is.few in
    let tasks = for_each task_text 24000 sheet.tasks (λ k d low. in_task sheet.settings.cap _ (is.tasks k d low) (small.tasks k d low)) in
    let whole = wider SHEET_LIMIT (in_settings (canonical_format sheet.tasks) sheet.settings (format_small sheet.tasks) small.settings >> tasks) (omega arith) in
    whole.bytes
