-- Scripts that are played line by line.
use Rattle.std.proofs.Common.{◌≡◌, ℕ, suc, ◌+◌, ◌*◌, ◌≤◌, ◌++◌, Option, List, [], ◌∷◌, length, append_assoc, refl, ap, sym, subst, ◌∙◌, arith}
use Rattle.prta_sheet.specs.Sheet.{Sheet}
use Rattle.prta_session.specs.declared.script.Line.{Line}
use Rattle.prta_session.specs.declared.script.Line.TheVariants.{Print, Change}
use Rattle.prta_session.specs.State.{SessionState}
use Rattle.prta_session.specs.Workers.{lengthened, lengthened-nil, lengthened-append}
use Rattle.prta_session.specs.Playing.{AreAccepted, tasks_analysed, print_count}
use Rattle.prta_session.specs.Laws.{ScriptsGoByLines}
use Rattle.prta_writer.specs.Playing.{session_text, AreAroundAtPrints, IsGoodLine, session_after, text_of, tasks_of, ShownBy}
use Rattle.prta_writer.specs.Writing.{TookPart, TookAllBut}
use Rattle.prta_writer.proofs.Taking.{page_alone, more_put, longer, part_then, part_of_more}

-- ---- a line and the lines after it

pub text_next : (session : SessionState) (line : Line) (rest : List Line) → session_text session.sheet (line ∷ rest) ≡ text_of line session ++ session_text (session_after line session).sheet rest
text_next session Print rest = refl
text_next session (Change edit) rest = refl

pub tasks_next : (session : SessionState) (line : Line) (rest : List Line) → tasks_analysed session (line ∷ rest) ≡ tasks_of line session ++ tasks_analysed (session_after line session) rest
tasks_next session Print rest = refl
tasks_next session (Change edit) rest = refl

pub around_next : (session : SessionState) (line : Line) (rest : List Line) → ShownBy line session.sheet → AreAroundAtPrints (session_after line session).sheet rest → AreAroundAtPrints session.sheet (line ∷ rest)
around_next session Print rest shown after = (shown, after)
around_next session (Change edit) rest shown after = after

pub good_next : (sheet : Sheet) (line : Line) (rest : List Line) → AreAccepted sheet (line ∷ rest) → IsGoodLine line sheet
good_next sheet Print rest all = tt
good_next sheet (Change edit) rest all = all.0

pub accepted_next : (session : SessionState) (line : Line) (rest : List Line) → AreAccepted session.sheet (line ∷ rest) → AreAccepted (session_after line session).sheet rest
accepted_next session Print rest all = all
accepted_next session (Change edit) rest all = all.1

-- an edit changes no setting
pub same_cap : (session : SessionState) (line : Line) → (session_after line session).sheet.settings.cap ≡ session.sheet.settings.cap
same_cap session Print = refl
same_cap session (Change edit) = refl

module _ (laws : ScriptsGoByLines) where
  -- nor the number of tasks
  pub same_count : (session : SessionState) (line : Line) → length (session_after line session).sheet.tasks ≡ length session.sheet.tasks
  same_count session Print = refl
  same_count session (Change edit) = laws.tasks edit session.sheet

  -- there is room for the tasks of the line, and for those of the lines after it
  pub room_now : (session : SessionState) (line : Line) (rest : List Line) (room : ℕ) → length session.sheet.tasks * print_count (line ∷ rest) ≤ room → length (tasks_of line session) ≤ room
  room_now session Print rest room enough = omega (arith, laws.few session, enough, one_more (length session.sheet.tasks) (print_count rest))
    where
      one_more : (n m : ℕ) → n * suc m ≡ n + n * m
      one_more n m = omega arith
  room_now session (Change edit) rest room enough = omega arith

  pub room_next : (session : SessionState) (line : Line) (rest : List Line) (room now : ℕ) → length session.sheet.tasks * print_count (line ∷ rest) ≤ room → room ≤ now + length (tasks_of line session) →
      length (session_after line session).sheet.tasks * print_count rest ≤ now
  room_next session Print rest room now enough less = omega (arith, laws.few session, enough, less, one_more (length session.sheet.tasks) (print_count rest))
    where
      one_more : (n m : ℕ) → n * suc m ≡ n + n * m
      one_more n m = omega arith
  room_next session (Change edit) rest room now enough less =
      subst (λ n. n * print_count rest ≤ now) (sym (laws.tasks edit session.sheet)) (omega (arith, enough, less))

-- ---- the lines so far

pub record IsPlayed (start : SessionState) (lines : List Line) (now : SessionState) (left : List Line) (a b : Option (List ℕ)) (page : List ℕ) (told tells : Option (List ℕ)) : Type 0 where
  pub text : List ℕ
  pub text_is : session_text start.sheet lines ≡ text ++ session_text now.sheet left
  pub took : TookAllBut a b text page
  pub tasks : List ℕ
  pub tasks_are : tasks_analysed start lines ≡ tasks ++ tasks_analysed now left
  pub analysed : tells ≡ lengthened told tasks
  pub around : AreAroundAtPrints now.sheet left → AreAroundAtPrints start.sheet lines

pub none_played : (session : SessionState) (lines : List Line) (a told : Option (List ℕ)) (page : List ℕ) → page ≡ [] → IsPlayed session lines session lines a a page told told
none_played session lines a told page empty = record {
  text = [];
  text_is = refl;
  took = subst (λ p. TookAllBut a a [] p) (sym empty) (page_alone a []);
  tasks = [];
  tasks_are = refl;
  analysed = sym (lengthened-nil told);
  around = λ h. h;
}

module _ (start : SessionState) (lines : List Line) (session : SessionState) (line : Line) (rest left : List Line) (a b c : Option (List ℕ)) (page : List ℕ) (told tells : Option (List ℕ))
    (so_far : IsPlayed start lines session left a b page told tells) (next : left ≡ line ∷ rest) where
  -- one more line was played
  pub line_played : (after : SessionState) (now : List ℕ) (tells' : Option (List ℕ)) → after ≡ session_after line session → ShownBy line session.sheet →
      TookAllBut b c (page ++ text_of line session) now → tells' ≡ lengthened tells (tasks_of line session) → IsPlayed start lines after rest a c now told tells'
  line_played after now tells' is shown put tell =
      subst (λ s. IsPlayed start lines s rest a c now told tells') (sym is) record {
        text = so_far.text ++ text_of line session;
        text_is = so_far.text_is ∙ ap (λ ls. so_far.text ++ session_text session.sheet ls) next ∙ ap (λ t. so_far.text ++ t) (text_next session line rest)
            ∙ sym (append_assoc so_far.text (text_of line session) (session_text (session_after line session).sheet rest));
        took = more_put a b c _ (page ++ text_of line session) now (longer a b so_far.text page (text_of line session) so_far.took) put;
        tasks = so_far.tasks ++ tasks_of line session;
        tasks_are = so_far.tasks_are ∙ ap (λ ls. so_far.tasks ++ tasks_analysed session ls) next ∙ ap (λ t. so_far.tasks ++ t) (tasks_next session line rest)
            ∙ sym (append_assoc so_far.tasks (tasks_of line session) (tasks_analysed (session_after line session) rest));
        analysed = tell ∙ ap (λ t. lengthened t (tasks_of line session)) so_far.analysed ∙ lengthened-append told so_far.tasks (tasks_of line session);
        around = λ h. so_far.around (subst (λ ls. AreAroundAtPrints session.sheet ls) (sym next) (around_next session line rest shown h));
      }

  -- or out failed in it
  pub line_cut : TookPart b c (page ++ text_of line session) → TookPart a c (session_text start.sheet lines)
  line_cut part =
      let more : List ℕ = session_text (session_after line session).sheet rest in
      subst (λ t. TookPart a c t)
      (append_assoc so_far.text (text_of line session) more
      ∙ sym (so_far.text_is ∙ ap (λ ls. so_far.text ++ session_text session.sheet ls) next ∙ ap (λ t. so_far.text ++ t) (text_next session line rest)))
      (part_of_more a c (so_far.text ++ text_of line session) more
      (part_then a b c _ (page ++ text_of line session) (longer a b so_far.text page (text_of line session) so_far.took) part))
