-- The canonical text is TOML's text of one expression after another.
use Rattle.std.proofs.Common.{◌≡◌, ℕ, ◌≤◌, Bool, true, false, if◌then◌else◌, nat_eq, length, Some, None, Option, List, [], ◌∷◌, ◌++◌, flat_map, codes, decimal, All, refl, sym, arith, append_assoc, append-nil}
use Rattle.std.proofs.lemmas.Bool.{and_parts, and_from}
use Rattle.std.proofs.lemmas.Bool.Decides.{nat_tests}
use Rattle.std.proofs.lemmas.List.Elements.{All-head, All-tail}
use Rattle.std.specs.List.{list_all}
use Rattle.toml_writer.specs.Text.{key_text}
use Rattle.toml.specs.Data.{Data, string, array, items_depth, items_have_valid_dates, depth, has_valid_dates}
use Rattle.toml.specs.Tables.{Expression, key_value, array_table}
use Rattle.toml.specs.Text.{IsValueText, IsLineText, IsLinesText}
use Rattle.toml.proofs.ReadLines.{IsPrinted, AllPrinted}
use Rattle.toml.proofs.Lines.{after, IsLinesText-append}
use Rattle.prta_mass.specs.Table.{Table}
use Rattle.prta_mass.specs.declared.support.Support.{Support}
use Rattle.prta_sheet.specs.declared.settings.Settings.{Settings}
use Rattle.prta_sheet.specs.Sheet.{Task, Sheet}
use Rattle.prta_sheet.specs.Accepted.{is_good_name, is_name_byte}
use Rattle.prta_sheet.specs.Canonical.{number_line, support_line, support_text, settings_text, name_line, pair_text, pairs_text, times_line, table_text, next_table_text, cycle_line, tables_line, allow_line, task_text, canonical_format, number_data, pair_data, pairs_data, tables_data, support_data, IsTomlNumber, IsTomlPair, IsTomlSupport, AreStatable, IsStatableTask, IsStatable, canonical_text}
use Rattle.prta_sheet.proofs.CanonicalValues.{string_text-name, number_value, pair_value, all_pairs, on_one_line, all_tables}

-- ---- the expressions

-- a line with a key and a value
abbrev pub key_line : List ℕ → Data → Expression
key_line key d = (([], key), key_value d)

abbrev pub support_lines : Option Support → List Expression
support_lines None = []
support_lines (Some support) = key_line (codes "support") (support_data support) ∷ []

abbrev pub settings_lines : ℕ → Settings → List Expression
settings_lines format settings =
    key_line (codes "format") (number_data format)
    ∷ key_line (codes "cap") (number_data settings.cap)
    ∷ key_line (codes "hyperperiods") (number_data settings.hyperperiods)
    ∷ key_line (codes "turns") (number_data settings.turns)
    ∷ support_lines settings.support

abbrev pub tables_lines : List Table → List Expression
tables_lines [] = []
tables_lines (times ∷ []) = key_line (codes "times") (array (pairs_data times)) ∷ []
tables_lines (first ∷ second ∷ rest) = key_line (codes "cycle") (array (tables_data (first ∷ second ∷ rest))) ∷ []

-- the lines after the header of a task
abbrev pub key_lines : Task → List Expression
key_lines task =
    key_line (codes "name") (string task.name)
    ∷ key_line (codes "offset") (number_data task.offset)
    ∷ key_line (codes "period") (number_data task.period)
    ∷ key_line (codes "deadline") (number_data task.deadline)
    ∷ (tables_lines task.cycle ++ key_line (codes "allow") (pair_data task.allow) ∷ [])

abbrev pub task_lines : Task → List Expression
task_lines task = (([], codes "task"), array_table) ∷ key_lines task

-- ---- lines

-- the text is that of the expressions, which the reader takes; where it has started, a header comes after an empty line
pub record AreWritten (started : Bool) (es : List Expression) (text : List ℕ) : Type 0 where
  pub lines : IsLinesText false started es text
  pub printed : AllPrinted es

all_printed : (es fs : List Expression) → AllPrinted es → AllPrinted fs → AllPrinted (es ++ fs)
all_printed [] fs a b = b
all_printed (e ∷ es) fs a b = (a.0, all_printed es fs a.1 b)

-- one after another
infixl 10 ◌>>◌
◌>>◌ : {started : Bool} {e : Expression} {es fs : List Expression} {t u : List ℕ} → AreWritten started (e ∷ es) t → AreWritten true fs u → AreWritten started (e ∷ (es ++ fs)) (t ++ u)
◌>>◌ {started} {e} {es} {fs} {t} {u} a b =
    let begun : after started (e ∷ es) ≡ true = grind (arith, nat_tests) in
    record {
      lines = IsLinesText-append false started (e ∷ es) fs t u a.lines (rw begun b.lines);
      printed = all_printed (e ∷ es) fs a.printed b.printed;
    }

none : AreWritten true [] []
none = record { lines = refl; printed = tt }

one : (started : Bool) (e : Expression) (text : List ℕ) → IsLineText false started e.0 e.1 text → IsPrinted e.0 e.1 → AreWritten started (e ∷ []) text
one started e text line printed = record { lines = (text, [], sym (append-nil text), line, refl); printed = (printed, tt) }

module _ (started : Bool) where
  -- a line with a value
  value_line : (key : List ℕ) (d : Data) (value text : List ℕ) → text ≡ key_text key ++ (codes " = " ++ (value ++ codes "\n")) → IsValueText false d value
      → depth d ≤ 80 → has_valid_dates d ≡ true → AreWritten started (key_line key d ∷ []) text
  value_line key d value text whole is_value deep valid = one started (key_line key d) text (value, whole, is_value) (refl, deep, valid)

  number_written : (key : List ℕ) (n : ℕ) → key_text key ≡ key → IsTomlNumber n → AreWritten started (key_line key (number_data n) ∷ []) (number_line key n)
  unfolding number_line
  number_written key n bare small =
      value_line key (number_data n) (decimal n) _ (rw bare (simp append_assoc)) (number_value n small) (omega arith) refl

support_written : (support : Support) → IsTomlSupport (Some support) → AreWritten true (support_lines (Some support)) (support_line support)
unfolding support_line key_text
support_written support small =
    let fine = decimal support.fine in
    let step = decimal support.step in
    value_line true (codes "support") (support_data support) (codes "{ fine = " ++ (fine ++ (codes ", step = " ++ (step ++ codes " }")))) _ (simp append_assoc) (
      codes " fine = " ++ (fine ++ (codes ", step = " ++ (step ++ codes " }"))),
      refl,
      (
        fine,
        codes ", step = " ++ (step ++ codes " }"),
        refl,
        number_value support.fine small.first,
        (step, codes " }", refl, number_value support.step small.second, refl, refl),
        refl,
      ),
    )
    (omega arith) refl

name_written : (name : List ℕ) → is_good_name name ≡ true → AreWritten true (key_line (codes "name") (string name) ∷ []) (name_line name)
unfolding name_line key_text
name_written name good =
    let (size, bytes) = and_parts _ (list_all is_name_byte name) good in
    value_line true (codes "name") (string name) (34 ∷ name ++ 34 ∷ []) _ (simp append_assoc) (sym (string_text-name name bytes)) (omega arith) refl

allow_written : (allow : ℕ × ℕ) → IsTomlPair allow → AreWritten true (key_line (codes "allow") (pair_data allow) ∷ []) (allow_line allow)
unfolding allow_line key_text
allow_written allow small =
    value_line true (codes "allow") (pair_data allow) (pair_text allow) _ (simp append_assoc) (pair_value allow small) (omega arith) refl

-- ---- the tables

pairs_depth : (pairs : Table) → items_depth (pairs_data pairs) ≤ 1
pairs_depth [] = omega arith
pairs_depth (pair ∷ pairs) = omega (arith, pairs_depth pairs)

pairs_dates : (pairs : Table) → items_have_valid_dates (pairs_data pairs) ≡ true
pairs_dates [] = refl
pairs_dates (pair ∷ pairs) = pairs_dates pairs

times_written : (times : Table) → All IsTomlPair times → AreWritten true (key_line (codes "times") (array (pairs_data times)) ∷ []) (times_line times)
unfolding times_line key_text
times_written times small =
    value_line true (codes "times") (array (pairs_data times)) (codes "[" ++ (pairs_text times ++ codes "]")) _ (simp append_assoc)
    (pairs_text times ++ codes "]", refl, rw (on_one_line (pairs_data times)) (all_pairs times small))
    (omega (arith, pairs_depth times)) (pairs_dates times)

tables_depth : (tables : List Table) → items_depth (tables_data tables) ≤ 2
tables_depth [] = omega arith
tables_depth (times ∷ tables) = omega (arith, pairs_depth times, tables_depth tables)

tables_dates : (tables : List Table) → items_have_valid_dates (tables_data tables) ≡ true
tables_dates [] = refl
tables_dates (times ∷ tables) = and_from _ _ (pairs_dates times) (tables_dates tables)

abbrev AreTomlPairs : Table → Type 0
AreTomlPairs times = All IsTomlPair times

cycle_written : (first : Table) (rest : List Table) → All AreTomlPairs (first ∷ rest) → AreWritten true (key_line (codes "cycle") (array (tables_data (first ∷ rest))) ∷ []) (cycle_line first rest)
unfolding cycle_line key_text
cycle_written first rest small =
    let text = table_text first ++ (flat_map next_table_text rest ++ codes "]") in
    value_line true (codes "cycle") (array (tables_data (first ∷ rest))) (codes "[" ++ text) _ (simp append_assoc)
    (text, refl, rw (on_one_line (tables_data (first ∷ rest))) (all_tables first rest small))
    (omega (arith, tables_depth (first ∷ rest))) (tables_dates (first ∷ rest))

tables_written : (cycle : List Table) → All AreTomlPairs cycle → AreWritten true (tables_lines cycle) (tables_line cycle)
tables_written [] small = none
tables_written (times ∷ []) small = times_written times (All-head AreTomlPairs times [] small)
tables_written (first ∷ second ∷ rest) small = cycle_written first (second ∷ rest) small

-- ---- the whole text

support_lines_written : (support : Option Support) → IsTomlSupport support → AreWritten true (support_lines support) (support_text support)
support_lines_written None small = none
support_lines_written (Some support) small = support_written support small

settings_written : (format : ℕ) (settings : Settings) → IsTomlNumber format → AreStatable settings → AreWritten false (settings_lines format settings) (settings_text format settings)
unfolding settings_text key_text
settings_written format settings known small =
    number_written false (codes "format") format refl known
    >> number_written true (codes "cap") settings.cap refl small.cap
    >> number_written true (codes "hyperperiods") settings.hyperperiods refl small.hyperperiods
    >> number_written true (codes "turns") settings.turns refl small.turns
    >> support_lines_written settings.support small.support

header_written : AreWritten true ((([], codes "task"), array_table) ∷ []) (codes "\n[[task]]\n")
unfolding key_text
header_written = one true (([], codes "task"), array_table) _ refl (omega arith)

task_written : (task : Task) → IsStatableTask task → AreWritten true (task_lines task) (task_text task)
unfolding task_text key_text
task_written task small =
    header_written
    >> name_written task.name small.name
    >> number_written true (codes "offset") task.offset refl small.offset
    >> number_written true (codes "period") task.period refl small.period
    >> number_written true (codes "deadline") task.deadline refl small.deadline
    >> tables_written task.cycle small.tables
    >> allow_written task.allow small.allow

tasks_written : (tasks : List Task) → All IsStatableTask tasks → AreWritten true (flat_map task_lines tasks) (flat_map task_text tasks)
tasks_written [] small = none
tasks_written (task ∷ tasks) small =
    task_written task (All-head IsStatableTask task tasks small) >> tasks_written tasks (All-tail IsStatableTask task tasks small)

-- the number of the format is 1 or 2
pub format_small : (tasks : List Task) → IsTomlNumber (canonical_format tasks)
format_small tasks = elim (list_all (λ task. nat_eq (length task.cycle) 1) tasks) as (λ b. IsTomlNumber (if b then 1 else 2)) [ true ↦ omega arith | false ↦ omega arith ]

abbrev pub sheet_lines : Sheet → List Expression
sheet_lines sheet = settings_lines (canonical_format sheet.tasks) sheet.settings ++ flat_map task_lines sheet.tasks

pub sheet_written : (sheet : Sheet) → IsStatable sheet → AreWritten false (sheet_lines sheet) (canonical_text sheet)
sheet_written sheet small = settings_written (canonical_format sheet.tasks) sheet.settings (format_small sheet.tasks) small.settings >> tasks_written sheet.tasks small.tasks
