-- The text of a certificate is read as its levels.
use Rattle.std.proofs.Common.{◌≡◌, ℕ, ◌+◌, ◌≤◌, true, not, nat_lt, bytes_eq, Option, Some, None, List, [], ◌∷◌, ◌++◌, length, codes, option_map, All, refl, ap, ◌∙◌, arith, append_assoc, length-append, le-ltb}
use Rattle.std.specs.Option.{unwrap_or}
use Rattle.std.proofs.lemmas.List.Elements.{All-head, All-tail}
use Rattle.prta_mass.specs.Table.{or_else, when}
use Rattle.prta_sheet.specs.Sheet.{Task}
use Rattle.prta_sheet.specs.Accepted.{is_good_name}
use Rattle.prta_certfile.specs.declared.level.CertLevel.{CertLevel}
use Rattle.prta_certfile.specs.declared.level.CertLevel.TheVariants.{Steps}
use Rattle.prta_certfile.specs.declared.fault.CertFault.TheVariants.{TooLong, WrongTask}
use Rattle.prta_certfile.specs.declared.limits.TheConstants.{CERT_LIMIT}
use Rattle.prta_certfile.specs.Text.{title, level_text, level_lines, cert_text}
use Rattle.prta_certfile.specs.Reading.{cut, level_fault, said_fault, line_fault, in_line, lines_fault, title_fault, level_of, levels_in}
use Rattle.prta_certfile.specs.Laws.{IsLevel, CertificatesAreRead}
use Rattle.prta_certfile.proofs.Cuts.{lacks_literal, cut_at}
use Rattle.prta_certfile.proofs.Faults.{both_none, no_fault, bytes_same, faultless_level}
use Rattle.prta_certfile.proofs.Lines.{IsLine, line}
use Rattle.prta_certfile.proofs.Lengths.{lines_short}

record AreRead (cap n : ℕ) (tasks : List Task) (bytes : List ℕ) (levels : List CertLevel) : Type 0 where
  faultless : lines_fault cap tasks n bytes ≡ None
  stated : levels_in tasks bytes ≡ levels

abbrev HaveGoodNames : List Task → Type 0
HaveGoodNames tasks = All (λ (task : Task). is_good_name task.name ≡ true) tasks

lines_read : (cap n : ℕ) (tasks : List Task) (levels : List CertLevel) → cap ≤ 16384 → HaveGoodNames tasks → length levels ≡ length tasks → All (IsLevel cap) levels → AreRead cap n tasks (level_lines tasks levels ++ codes "end\n") levels
lines_read cap n [] [] small good each is = record { faultless = refl; stated = refl }
lines_read cap n [] (level ∷ levels) small good each is = absurd (omega arith)
lines_read cap n (task ∷ tasks) [] small good each is = absurd (omega arith)
lines_read cap n (task ∷ tasks) (level ∷ levels) small good each is =
    let text : List ℕ = level_text task.name level in
    let end : List ℕ = codes "end\n" in
    let lines : List ℕ = level_lines tasks levels in
    let rest : List ℕ = lines ++ end in
    let bytes : List ℕ = level_lines (task ∷ tasks) (level ∷ levels) ++ end in
    let good_level : IsLevel cap level = All-head (IsLevel cap) level levels is in
    let one : IsLine task.name level = line cap task.name level (omega arith) (All-head (λ (task : Task). is_good_name task.name ≡ true) task tasks good) good_level in
    let found : cut 10 bytes ≡ Some (text, rest) = ap (cut 10) (append_assoc (text ++ codes "\n") lines end ∙ append_assoc text (codes "\n") rest) ∙ cut_at 10 text rest one.lacks in
    let later : AreRead cap (n + 1) tasks rest levels = lines_read cap (n + 1) tasks levels small (All-tail (λ (task : Task). is_good_name task.name ≡ true) task tasks good) (omega arith) (All-tail (IsLevel cap) level levels is) in
    let no_line_fault : line_fault cap task.name n text ≡ None =
    ap (said_fault cap task.name n) one.said ∙ both_none (when (not (bytes_eq task.name task.name)) (WrongTask n)) (level_fault cap n level) (no_fault (bytes_eq task.name task.name) (WrongTask n) (bytes_same task.name)) (faultless_level cap n level good_level) in
    record {
      faultless =
          ap (in_line n (λ parts. or_else (line_fault cap task.name n parts.0) (lines_fault cap tasks (n + 1) parts.1))) found
          ∙ both_none (line_fault cap task.name n text) (lines_fault cap tasks (n + 1) rest) no_line_fault later.faultless;
      stated =
          ap (λ (o : Option (List ℕ × List ℕ)). level_of (unwrap_or o ([], [])).0 ∷ levels_in tasks (unwrap_or o ([], [])).1) found
          ∙ ap (λ (said : Option (List ℕ × CertLevel)). unwrap_or (option_map (λ said. said.1) said) (Steps []) ∷ levels_in tasks rest) one.said
          ∙ ap (λ (ls : List CertLevel). level ∷ ls) later.stated;
    }

pub certificates_are_read : CertificatesAreRead
certificates_are_read sheet levels accepted are =
    let tasks : List Task = sheet.tasks in
    let cap : ℕ = sheet.settings.cap in
    let small : cap ≤ 16384 = accepted.settings.cap_high in
    let few : length tasks ≤ 12 = accepted.few in
    let good : HaveGoodNames tasks = λ k d low. (accepted.tasks k d low).name in
    let end : List ℕ = codes "end\n" in
    let lines : List ℕ = level_lines tasks levels in
    let rest : List ℕ = lines ++ end in
    let bytes : List ℕ = cert_text tasks levels in
    let read : AreRead cap 2 tasks rest levels = lines_read cap 2 tasks levels small good are.count are.each in
    let short : length bytes ≤ CERT_LIMIT =
    let lines_are = lines_short cap tasks levels small good are.each in
    omega (arith, length-append (title ++ codes "\n" ++ lines) end, length-append (title ++ codes "\n") lines) in
    let found : cut 10 bytes ≡ Some (title, rest) = ap (cut 10) (append_assoc (title ++ codes "\n") lines end) ∙ cut_at 10 title rest (lacks_literal 10 title refl) in
    record {
      faultless =
          both_none (when (nat_lt CERT_LIMIT (length bytes)) TooLong) (in_line 1 (title_fault tasks cap) (cut 10 bytes))
          (rw (le-ltb CERT_LIMIT (length bytes) short) refl)
          (ap (in_line 1 (title_fault tasks cap)) found ∙ read.faultless);
      stated = ap (λ (o : Option (List ℕ × List ℕ)). levels_in tasks (unwrap_or o ([], [])).1) found ∙ read.stated;
    }
