-- The answers and endings of commands.
use Rattle.std.proofs.Common.{◌≡◌, ◌≢◌, ℕ, ◌<◌, Bool, true, false, not, nat_lt, Option, Some, None, is_some, is_none, option_and_then, IfSome, IsSomeAnd, List, [], ◌∷◌, ◌++◌, length, refl, sym, ap, subst, inl, inr, arith}
use Rattle.std.specs.Option.{option_map_or}
use Rattle.std.proofs.lemmas.Bool.Decides.{nat_tests}
use Rattle.prta_outside.specs.Shelf.{count_of, count_of_failed}
use Rattle.prta_sheet.specs.declared.limits.TheConstants.{SHEET_LIMIT}
use Rattle.prta_sheet.specs.declared.fault.SheetFault.TheVariants.{TooLong}
use Rattle.prta_sheet.specs.Sheet.{Sheet}
use Rattle.prta_sheet.specs.Stated.{sheet_stated}
use Rattle.prta_report.specs.Trace.{simulate_text}
use Rattle.prta_dual.specs.Failing.{failing_job}
use Rattle.prta_report.specs.Analysis.{check_text}
use Rattle.prta_report.specs.Certificates.{verify_text, broken_task}
use Rattle.prta_report.specs.Assignment.{assign_text}
use Rattle.prta_report.specs.Slacks.{slack_text}
use Rattle.prta_audsley.specs.Verdict.{verdict}
use Rattle.prta_writer.specs.Assigning.{is_found}
use Rattle.prta_session.specs.declared.fault.ScriptFault.{ScriptFault}
use Rattle.prta_session.specs.declared.fault.ScriptFault.TheVariants as script
use Rattle.prta_session.specs.declared.script.TheConstants.{SCRIPT_LIMIT}
use Rattle.prta_session.specs.declared.script.Line.{Line}
use Rattle.prta_session.specs.Script.{script_fault, script_lines}
use Rattle.prta_writer.specs.Playing.{session_text, AreAroundAtPrints}
use Rattle.prta_writer.specs.Meaning.{NumbersHold}
use Rattle.prta_cli.specs.declared.status.Status.{Status}
use Rattle.prta_cli.specs.declared.status.Status.TheVariants as status
use Rattle.prta_cli.specs.declared.ending.Ending.{Ending}
use Rattle.prta_cli.specs.declared.ending.Ending.TheVariants.{Done, No, Usage, SheetRefused, InputRefused, ReadFault, WriteFault, NoMemory}
use Rattle.prta_certfile.specs.declared.limits.TheConstants.{CERT_LIMIT}
use Rattle.prta_certfile.specs.declared.level.CertLevel.{CertLevel}
use Rattle.prta_certfile.specs.declared.fault.CertFault.{CertFault}
use Rattle.prta_certfile.specs.declared.fault.CertFault.TheVariants as certificate
use Rattle.prta_certfile.specs.Reading.{fault_of, levels_of}
use Rattle.prta_cli.specs.declared.input.InputFault.TheVariants.{Times, Certificate, Counts, Script}
use Rattle.prta_sheet.specs.Accepted.{IsAccepted}
use Rattle.prta_sheet.specs.Canonical.{canonical_text}
use Rattle.prta_times.specs.Laws.{CountedAreAccepted, ReducedAreAccepted, ReducedAreSafe}
use Rattle.prta_times.specs.declared.limits.TheConstants.{COUNTS_LIMIT}
use Rattle.prta_times.specs.declared.fault.CountsFault.{CountsFault}
use Rattle.prta_times.specs.declared.fault.CountsFault.TheVariants as counts
use Rattle.prta_cli.specs.declared.words.Kept.{Kept}
use Rattle.prta_cli.specs.declared.words.Kept.TheVariants.{AllTimes, AtMost}
use Rattle.prta_cli.specs.declared.words.SheetCommand.{SheetCommand}
use Rattle.prta_cli.specs.declared.words.SheetCommand.TheVariants.{Analyse, AnalyseCsv, Ledger, Check, Certify, Tail, Assign, Slack}
use Rattle.prta_cli.specs.declared.words.FilesCommand.{FilesCommand}
use Rattle.prta_cli.specs.declared.words.FilesCommand.TheVariants.{Verify, Simulate, Session, Import}
use Rattle.prta_cli.specs.declared.times.TheConstants.{TIMES_LIMIT}
use Rattle.prta_cli.specs.declared.times.TimesFault.{TimesFault}
use Rattle.prta_cli.specs.declared.times.TimesFault.TheVariants as times
use Rattle.prta_cli.specs.Words.{IsInRange, Command, command, of_sheet, of_files, of_seed, sheet_name, second_name}
use Rattle.prta_cli.specs.Answer.{Answer, Files, answer, answer_to, answer_to_file, answer_to_sheet, answer_to_files, judged, judgement, verification, simulation, playing, counting, kept_fault, sheet_keeping, told, told_no, plain, refused, input_refused, IsSheetOf, IsCertificateOf, IsScriptOf, IsSheetWith, IsAcceptedFile, sheet_under}
use Rattle.prta_cli.specs.Times.{times_in, times_fault}
use Rattle.prta_cli.specs.Ending.{status_of, IsServed, EndsBy}
use Rattle.prta_writer.specs.Writing.{Took, TookPart}
use Rattle.prta_cli.specs.Causes.{HoldsFor, IsShownBy, HasFailed, SheetFailed, ReadFailed, IsNoted, IsReadFault, IsSafeKeeping, IsOrNoMemory, IsAfterWords}

-- what holds for every shelf's files holds for those of one, where it tells them
pub each_file : (held : Option Files) (P : Files → Type 0) → ((files : Files) → P files) → IfSome held P
each_file None P h = tt
each_file (Some files) P h = h files

-- a file past the limit is refused by that
pub too_long : (answers : Sheet → Answer) (held : Option (List ℕ)) → IsSomeAnd held (λ bytes. SHEET_LIMIT < length bytes) → answer_to_file answers held ≡ refused TooLong
too_long answers None h = absurd h
too_long answers (Some bytes) h = let long : nat_lt SHEET_LIMIT (length bytes) ≡ true = grind (arith, nat_tests) in rw long refl

pub times_too_long : (sheet : Sheet) (held : Option (List ℕ)) → IsSomeAnd held (λ bytes. TIMES_LIMIT < length bytes) → simulation sheet held ≡ input_refused (Times times.TooLong)
times_too_long sheet None h = absurd h
times_too_long sheet (Some bytes) h = let long : nat_lt TIMES_LIMIT (length bytes) ≡ true = grind (arith, nat_tests) in rw long refl

pub certificate_too_long : (sheet : Sheet) (held : Option (List ℕ)) → IsSomeAnd held (λ bytes. CERT_LIMIT < length bytes) → verification sheet held ≡ input_refused (Certificate certificate.TooLong)
certificate_too_long sheet None h = absurd h
certificate_too_long sheet (Some bytes) h = let long : nat_lt CERT_LIMIT (length bytes) ≡ true = grind (arith, nat_tests) in rw long refl

pub counts_too_long : (kept : Kept) (sheet : Sheet) (held : Option (List ℕ)) → IsSomeAnd held (λ bytes. COUNTS_LIMIT < length bytes) → counting kept sheet held ≡ input_refused (Counts counts.TooLong)
counts_too_long kept sheet None h = absurd h
counts_too_long AllTimes sheet (Some bytes) h = let long : nat_lt COUNTS_LIMIT (length bytes) ≡ true = grind (arith, nat_tests) in rw long refl
counts_too_long (AtMost k) sheet (Some bytes) h = let long : nat_lt COUNTS_LIMIT (length bytes) ≡ true = grind (arith, nat_tests) in rw long refl

pub script_too_long : (sheet : Sheet) (held : Option (List ℕ)) → IsSomeAnd held (λ bytes. SCRIPT_LIMIT < length bytes) → playing sheet held ≡ input_refused (Script script.TooLong)
script_too_long sheet None h = absurd h
script_too_long sheet (Some bytes) h = let long : nat_lt SCRIPT_LIMIT (length bytes) ≡ true = grind (arith, nat_tests) in rw long refl

-- the answer to a script by its lines, or by the first fault
pub of_script : (sheet : Sheet) (held : Option (List ℕ)) (lines : List Line) → IsScriptOf sheet held lines → playing sheet held ≡ told (session_text sheet lines)
of_script sheet None lines h = absurd h
of_script sheet (Some bytes) lines h = rw h.0 (ap (λ ls. told (session_text sheet ls)) (sym h.1))

pub of_script_fault : (sheet : Sheet) (bytes : List ℕ) (fault : ScriptFault) → script_fault sheet bytes ≡ Some fault → playing sheet (Some bytes) ≡ input_refused (Script fault)
of_script_fault sheet bytes fault e = rw e refl

-- what holds at the prints of the lines that are read holds of the held script
pub held_prints : (sheet : Sheet) (held : Option (List ℕ)) (lines : List Line) → IsScriptOf sheet held lines → AreAroundAtPrints sheet lines → IsShownBy sheet held
held_prints sheet None lines h hold = absurd h
held_prints sheet (Some bytes) lines h hold = subst (AreAroundAtPrints sheet) h.1 hold

-- the answer to counts by the sheet that they make, or by the first fault
pub of_counts : (kept : Kept) (sheet : Sheet) (held : Option (List ℕ)) (made : Sheet) → IsSheetWith kept sheet held made → counting kept sheet held ≡ told (canonical_text made)
of_counts kept sheet None made h = absurd h
of_counts kept sheet (Some bytes) made h = rw h.0 (ap (λ m. told (canonical_text m)) (sym h.1))

pub of_counts_fault : (kept : Kept) (sheet : Sheet) (bytes : List ℕ) (fault : CountsFault) → kept_fault kept sheet bytes ≡ Some fault → counting kept sheet (Some bytes) ≡ input_refused (Counts fault)
of_counts_fault kept sheet bytes fault e = rw e refl

-- what is made of counts without a fault is on the safe side
pub safe_keeping : CountedAreAccepted → ReducedAreAccepted → ReducedAreSafe → (kept : Kept) → IsInRange kept → (sheet : Sheet) → IsAccepted sheet → (bytes : List ℕ) → kept_fault kept sheet bytes ≡ None → IsSafeKeeping kept sheet bytes
safe_keeping accepts reduces safe AllTimes asked sheet is bytes none = accepts sheet bytes is none
safe_keeping accepts reduces safe (AtMost k) asked sheet is bytes none = (reduces k sheet bytes asked.0 asked.1 is none, safe k sheet bytes asked.0 asked.1 is none)

-- the answer to a certificate by the levels that it states, or by its first fault
pub of_certificate : (sheet : Sheet) (held : Option (List ℕ)) (levels : List CertLevel) → IsCertificateOf sheet held levels → verification sheet held ≡ judgement sheet levels
of_certificate sheet None levels h = absurd h
of_certificate sheet (Some bytes) levels h = rw h.0 (ap (judgement sheet) (sym h.1))

pub of_fault : (sheet : Sheet) (bytes : List ℕ) (fault : CertFault) → fault_of sheet.tasks sheet.settings.cap bytes ≡ Some fault → verification sheet (Some bytes) ≡ input_refused (Certificate fault)
of_fault sheet bytes fault e = rw e refl

-- what holds of the levels that a certificate states holds of those that are read
pub held_levels : (sheet : Sheet) (held : Option (List ℕ)) (levels : List CertLevel) → IsCertificateOf sheet held levels → NumbersHold sheet levels → HoldsFor sheet held
held_levels sheet None levels h hold = absurd h
held_levels sheet (Some bytes) levels h hold = subst (NumbersHold sheet) h.1 hold

-- the answer to the file of an accepted sheet is the one to that sheet
pub of_sheet_file : (answers : Sheet → Answer) (held : Option (List ℕ)) (sheet : Sheet) → IsSheetOf held sheet → answer_to_file answers held ≡ answers sheet
of_sheet_file answers None sheet h = absurd h
of_sheet_file answers (Some bytes) sheet h = rw (h.0, h.1) refl

-- what holds of an accepted sheet holds of the one that is stated
pub shown : (P : Sheet → Type 0) (files : Files) (name : List ℕ) (sheet : Sheet) → IsSheetOf (files name) sheet → P sheet → IsSomeAnd (sheet_under files name) P
shown P files name sheet is holds = of_held (files name) is
  where
    of_held : (held : Option (List ℕ)) → IsSheetOf held sheet → IsSomeAnd (option_and_then sheet_stated held) P
    of_held None h = absurd h
    of_held (Some bytes) h = rw h.1 holds

pub accepted : (held : Option (List ℕ)) (sheet : Sheet) → IsSheetOf held sheet → IsAcceptedFile held
accepted None sheet h = absurd h
accepted (Some bytes) sheet h = h.0

-- what answers and endings say together
module _ (first last : Option (List ℕ)) where
  pub ends_done : (text : List ℕ) → Took first last text → EndsBy Done (told text) first last
  ends_done text took = record { status_is = λ _. refl; text = λ _. took; served = λ e. cc; part = λ e. cc; tells = tt }

  pub ends_no : (text : List ℕ) → Took first last text → EndsBy No (told_no text) first last
  ends_no text took = record { status_is = λ _. refl; text = λ _. took; served = λ e. cc; part = λ e. cc; tells = tt }

  pub ends_cut : (a : Answer) → IsServed a.status → TookPart first last a.out → EndsBy WriteFault a first last
  ends_cut a served part = record { status_is = λ e. absurd e; text = λ e. absurd e; served = λ _. served; part = λ _. part; tells = tt }

  -- to a command whose sheet is accepted
  pub ends_by_sheet : (held : Option Files) (name : List ℕ) (answers : Files → Sheet → Answer) (sheet : Sheet) (ending : Ending) → IfSome held (λ files. IsSheetOf (files name) sheet) →
      IfSome held (λ files. EndsBy ending (answers files sheet) first last) → IfSome held (λ files. EndsBy ending (answer_to_file (answers files) (files name)) first last)
  ends_by_sheet None name answers sheet ending is ends = tt
  ends_by_sheet (Some files) name answers sheet ending is ends =
      subst (λ a. EndsBy ending a first last) (sym (of_sheet_file (answers files) (files name) sheet is)) ends

-- ---- a text that says yes or no

-- it doesn't refuse the sheet
judged_accepts : (failed : Bool) (text : List ℕ) → (judged failed text).status ≢ status.SheetRefused
judged_accepts true text = λ e. cc
judged_accepts false text = λ e. cc

-- yes where nothing was found
pub yes_is : {A : Type 0} (found : Option A) (text : List ℕ) → true ≡ is_none found → judged (is_some found) text ≡ told text
yes_is None text e = refl
yes_is (Some x) text e = cc

pub no_is : {A : Type 0} (found : Option A) (text : List ℕ) → false ≡ is_none found → judged (is_some found) text ≡ told_no text
no_is None text e = cc
no_is (Some x) text e = refl

pub none_found : {A : Type 0} (found : Option A) → true ≡ is_none found → found ≡ None
none_found None e = refl
none_found (Some x) e = cc

-- the same where yes stands for something that was found
pub found_is : (found : Bool) (text : List ℕ) → found ≡ true → judged (not found) text ≡ told text
found_is found text e = rw e refl

pub not_found_is : (found : Bool) (text : List ℕ) → found ≡ false → judged (not found) text ≡ told_no text
not_found_is found text e = rw e refl

pub judged_serves : (failed : Bool) (text : List ℕ) → IsServed (judged failed text).status × ((judged failed text).out ≡ text)
judged_serves true text = (tt, refl)
judged_serves false text = (tt, refl)

-- ---- the answer to an accepted sheet doesn't refuse it

verification_accepts : (sheet : Sheet) (held : Option (List ℕ)) → (verification sheet held).status ≢ status.SheetRefused
verification_accepts sheet None = λ e. cc
verification_accepts sheet (Some bytes) = by_fault (fault_of sheet.tasks sheet.settings.cap bytes)
  where
    levels : List CertLevel
    levels = levels_of sheet.tasks bytes

    by_fault : (fault : Option CertFault) → (option_map_or (λ fault. input_refused (Certificate fault)) fault (judgement sheet levels)).status ≢ status.SheetRefused
    by_fault None = judged_accepts (is_some (broken_task sheet levels)) (verify_text sheet levels)
    by_fault (Some fault) = λ e. cc

simulation_accepts : (sheet : Sheet) (held : Option (List ℕ)) → (simulation sheet held).status ≢ status.SheetRefused
simulation_accepts sheet None = λ e. cc
simulation_accepts sheet (Some bytes) = by_fault (times_fault sheet bytes)
  where
    by_fault : (fault : Option TimesFault) → (option_map_or (λ fault. input_refused (Times fault)) fault (told (simulate_text sheet (times_in bytes)))).status ≢ status.SheetRefused
    by_fault None = λ e. cc
    by_fault (Some fault) = λ e. cc

playing_accepts : (sheet : Sheet) (held : Option (List ℕ)) → (playing sheet held).status ≢ status.SheetRefused
playing_accepts sheet None = λ e. cc
playing_accepts sheet (Some bytes) = by_fault (script_fault sheet bytes)
  where
    by_fault : (fault : Option ScriptFault) → (option_map_or (λ fault. input_refused (Script fault)) fault (told (session_text sheet (script_lines sheet bytes)))).status ≢ status.SheetRefused
    by_fault None = λ e. cc
    by_fault (Some fault) = λ e. cc

counting_accepts : (kept : Kept) (sheet : Sheet) (held : Option (List ℕ)) → (counting kept sheet held).status ≢ status.SheetRefused
counting_accepts kept sheet None = λ e. cc
counting_accepts kept sheet (Some bytes) = by_fault (kept_fault kept sheet bytes)
  where
    by_fault : (fault : Option CountsFault) → (option_map_or (λ fault. input_refused (Counts fault)) fault (told (canonical_text (sheet_keeping kept sheet bytes)))).status ≢ status.SheetRefused
    by_fault None = λ e. cc
    by_fault (Some fault) = λ e. cc

sheet_accepts : (asked : SheetCommand) (sheet : Sheet) → (answer_to_sheet asked sheet).status ≢ status.SheetRefused
sheet_accepts Analyse sheet = λ e. cc
sheet_accepts AnalyseCsv sheet = λ e. cc
sheet_accepts Ledger sheet = λ e. cc
sheet_accepts Check sheet = judged_accepts (is_some (failing_job sheet)) (check_text sheet)
sheet_accepts Certify sheet = λ e. cc
sheet_accepts Tail sheet = λ e. cc
sheet_accepts Assign sheet = judged_accepts (not (is_found (verdict sheet))) (assign_text sheet)
sheet_accepts Slack sheet = judged_accepts (is_some (failing_job sheet)) (slack_text sheet)

files_accepts : (asked : FilesCommand) (held : Option (List ℕ)) (sheet : Sheet) → (answer_to_files asked sheet held).status ≢ status.SheetRefused
files_accepts Verify held sheet = verification_accepts sheet held
files_accepts Simulate held sheet = simulation_accepts sheet held
files_accepts Session held sheet = playing_accepts sheet held
files_accepts (Import kept) held sheet = counting_accepts kept sheet held

file_accepts : (answers : Sheet → Answer) → ((sheet : Sheet) → (answers sheet).status ≢ status.SheetRefused) → (held : Option (List ℕ)) → IsAcceptedFile held →
    (answer_to_file answers held).status ≢ status.SheetRefused
file_accepts answers accepts None is = absurd is
file_accepts answers accepts (Some bytes) is = rw is (by_sheet (sheet_stated bytes))
  where
    by_sheet : (sheet : Option Sheet) → (option_map_or answers sheet (plain status.ReadFault)).status ≢ status.SheetRefused
    by_sheet None = λ e. cc
    by_sheet (Some sheet) = accepts sheet

-- a command whose sheet, where it reads one, is accepted doesn't refuse it
answer_accepts : (files : Files) (c : Command) → IsSomeAnd (sheet_name c) (λ name. IsAcceptedFile (files name)) → (answer_to files c).status ≢ status.SheetRefused
answer_accepts files (of_sheet name asked) is = file_accepts (answer_to_sheet asked) (sheet_accepts asked) (files name) is
answer_accepts files (of_files name second asked) is = file_accepts (λ sheet. answer_to_files asked sheet (files second)) (files_accepts asked (files second)) (files name) is
answer_accepts files (of_seed seed tasks asked) is = absurd is

module _ (before now : List (List ℕ)) where
  -- a name that was noted has failed
  failed_read : (name : List ℕ) → now ≡ before ++ name ∷ [] → HasFailed before now name
  failed_read name e = rw (e, count_of_failed before name) (omega arith)

  named : (name : Option (List ℕ)) → IsNoted before now name → IsSomeAnd name (HasFailed before now)
  named None h = h
  named (Some name) h = failed_read name h

  -- where no name was noted, none has failed
  none_failed : now ≡ before → (name : Option (List ℕ)) → ¬ IsSomeAnd name (HasFailed before now)
  none_failed e None h = absurd h
  none_failed e (Some name) h = absurd (omega (arith, h, ap (λ names. count_of names name) e))

module _ (words : List (List ℕ)) (c : Command) (given : command words ≡ Some c) (before now : List (List ℕ)) where
  read_failed : (held : Option Files) → IsReadFault held c before now → ReadFailed words before now
  read_failed held (inl sheet) = rw given (inl (named before now (sheet_name c) sheet))
  read_failed held (inr second) = rw given (inr (named before now (second_name c) second.0))

  -- it is one of the words' command
  pub read_fault : (held : Option Files) → IsReadFault held c before now → IsSomeAnd (command words) (λ (d : Command). IsReadFault held d before now)
  read_fault held fault = rw given fault

  -- where the read of the sheet didn't fail, the sheet is accepted
  accepted_before : (files : Files) → IsReadFault (Some files) c before now → ¬ SheetFailed words before now → IsSomeAnd (sheet_name c) (λ name. IsAcceptedFile (files name))
  accepted_before files (inl sheet) unread = absurd (unread (rw given (named before now (sheet_name c) sheet)))
  accepted_before files (inr second) unread = second.1

  -- no name was noted, so no read failed
  pub nothing_failed : now ≡ before → ¬ ReadFailed words before now
  nothing_failed e failed = elim failed [ inl h ↦ none_failed before now e (sheet_name c) (rw given at h) | inr h ↦ none_failed before now e (second_name c) (rw given at h) ]

  module _ (first last : Option (List ℕ)) where
    -- an ending, against the answer to the words
    pub ends : (held : Option Files) (ending : Ending) → IfSome held (λ files. EndsBy ending (answer_to files c) first last) → IfSome held (λ files. EndsBy ending (answer files words) first last)
    ends None ending h = tt
    ends (Some files) ending h = rw given h

    -- where no read failed, an ending without a text has the status of the answer, or it is want of memory
    unserved : (a : Answer) (ending : Ending) → IsAfterWords (status_of ending) → status_of ending ≢ status.ReadFault → EndsBy ending a first last →
        (IsServed a.status → ⊥) → IsOrNoMemory (status_of ending) a.status
    unserved a Done r f e free = let is : a.status ≡ status.Done = e.status_is tt in absurd (free (rw is tt))
    unserved a No r f e free = let is : a.status ≡ status.No = e.status_is tt in absurd (free (rw is tt))
    unserved a Usage r f e free = absurd r
    unserved a (SheetRefused page) r f e free = rw e.tells (inl refl)
    unserved a (InputRefused page) r f e free = rw e.tells (inl refl)
    unserved a ReadFault r f e free = absurd (f refl)
    unserved a WriteFault r f e free = absurd (free (e.served refl))
    unserved a NoMemory r f e free = inr refl

    -- and where out didn't fail either, each ending has
    answered : (a : Answer) (ending : Ending) → IsAfterWords (status_of ending) → status_of ending ≢ status.ReadFault → status_of ending ≢ status.WriteFault → EndsBy ending a first last →
        IsOrNoMemory (status_of ending) a.status
    answered a Done r f w e = inl (sym (e.status_is tt))
    answered a No r f w e = inl (sym (e.status_is tt))
    answered a Usage r f w e = absurd r
    answered a (SheetRefused page) r f w e = rw e.tells (inl refl)
    answered a (InputRefused page) r f w e = rw e.tells (inl refl)
    answered a ReadFault r f w e = absurd (f refl)
    answered a WriteFault r f w e = absurd (w refl)
    answered a NoMemory r f w e = inr refl

    -- a sheet that the answer refuses is refused, where its own read didn't fail
    refused_so : (a : Answer) (ending : Ending) → IsAfterWords (status_of ending) → (status_of ending ≡ status.ReadFault → a.status ≢ status.SheetRefused) → EndsBy ending a first last →
        a.status ≡ status.SheetRefused → IsOrNoMemory (status_of ending) status.SheetRefused
    refused_so a Done r f e is = let other = e.status_is tt in cc
    refused_so a No r f e is = let other = e.status_is tt in cc
    refused_so a Usage r f e is = absurd r
    refused_so a (SheetRefused page) r f e is = inl refl
    refused_so a (InputRefused page) r f e is = let other = e.tells in cc
    refused_so a ReadFault r f e is = absurd (f refl is)
    refused_so a WriteFault r f e is = absurd (rw is at (e.served refl))
    refused_so a NoMemory r f e is = inr refl

    pub refused_as_told : (held : Option Files) (ending : Ending) → IsAfterWords (status_of ending) → (status_of ending ≡ status.ReadFault → IsReadFault held c before now) → ¬ SheetFailed words before now →
        IfSome held (λ files. EndsBy ending (answer_to files c) first last) →
        IfSome held (λ files. (answer files words).status ≡ status.SheetRefused → IsOrNoMemory (status_of ending) status.SheetRefused)
    refused_as_told None ending r f unread e = tt
    refused_as_told (Some files) ending r f unread e =
        rw given (refused_so (answer_to files c) ending r (λ is. answer_accepts files c (accepted_before files (f is) unread)) e)

    pub unserved_as_told : (held : Option Files) (ending : Ending) → IsAfterWords (status_of ending) → (status_of ending ≡ status.ReadFault → IsReadFault held c before now) → ¬ ReadFailed words before now →
        IfSome held (λ files. EndsBy ending (answer_to files c) first last) →
        IfSome held (λ files. (IsServed (answer files words).status → ⊥) → IsOrNoMemory (status_of ending) (answer files words).status)
    unserved_as_told None ending r f unread e = tt
    unserved_as_told (Some files) ending r f unread e = rw given (unserved (answer_to files c) ending r (λ is. unread (read_failed (Some files) (f is))) e)

    pub as_told : (held : Option Files) (ending : Ending) → IsAfterWords (status_of ending) → (status_of ending ≡ status.ReadFault → IsReadFault held c before now) → ¬ ReadFailed words before now →
        status_of ending ≢ status.WriteFault → IfSome held (λ files. EndsBy ending (answer_to files c) first last) →
        IfSome held (λ files. IsOrNoMemory (status_of ending) (answer files words).status)
    as_told None ending r f unread w e = tt
    as_told (Some files) ending r f unread w e = rw given (answered (answer_to files c) ending r (λ is. unread (read_failed (Some files) (f is))) w e)

-- where an ending without a text has the status of the answer, so has the one for a refused second file
pub input_as_told : (words : List (List ℕ)) (held : Option Files) (ending : Status) →
    IfSome held (λ files. (IsServed (answer files words).status → ⊥) → IsOrNoMemory ending (answer files words).status) →
    IfSome held (λ files. (answer files words).status ≡ status.InputRefused → IsOrNoMemory ending status.InputRefused)
input_as_told words None ending h = tt
input_as_told words (Some files) ending h = λ is. subst (IsOrNoMemory ending) is (h (λ served. rw is at served))
