-- The file of choices: one number a line.
use Rattle.std.specs.Prelude.{◌≡◌, ℕ, ◌+◌, Bool, not, Option, Some, None, Result, Ok, Err, List, map, position, option_map}
use Rattle.std.specs.Str.Lines.{lines}
use Rattle.prta_number.specs.Decimal.{value_of, is_number_within, number_within}
use Rattle.prta_sheet.specs.declared.limits.TheConstants.{TIME_LIMIT}
use Rattle.prta_ticksim.specs.declared.choices.ChoicesFault.{ChoicesFault}
use Rattle.prta_ticksim.specs.declared.choices.ChoicesFault.TheVariants.{BadLine, NoMemory}

-- a number from 1 to 1,000,000
abbrev pub is_number : List ℕ → Bool
is_number text = is_number_within 1 TIME_LIMIT text

-- that number
abbrev pub number_of : List ℕ → Option ℕ
number_of text = number_within 1 TIME_LIMIT text

-- the first line, counted from 1, that isn't such a number. A line ends with a line feed, with or without a carriage return before it;
-- the last may lack its end, and nothing at all is no line
abbrev pub bad_line : List ℕ → Option ℕ
bad_line bytes = option_map (λ k. k + 1) (position (λ line. not (is_number line)) (lines bytes))

-- the numbers of all lines, or the first bad line; want of memory is free
abbrev pub IsChoicesAnswer : List ℕ → Result (List ℕ) ChoicesFault → Type 0
IsChoicesAnswer bytes (Ok numbers) = (bad_line bytes ≡ None) × (numbers ≡ map value_of (lines bytes))
IsChoicesAnswer bytes (Err (BadLine n)) = bad_line bytes ≡ Some n
IsChoicesAnswer bytes (Err NoMemory) = Unit {0}
