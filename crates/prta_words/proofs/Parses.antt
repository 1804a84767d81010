-- What a parse by a known command says of its words.
use Rattle.std.proofs.Common.{◌≡◌, ◌∙◌, inl, inr, true, false, Bool, List, [], Option, Some, None, ap, sym, subst, codes}
use Rattle.std.specs.Prelude.{MatchBool}
use Rattle.std.specs.Option.{option_map}
use Rattle.clap.specs.Kinds.{HasKind, Kinds}
use Rattle.clap.specs.Matches.{first_value, found_of, one_text}
use Rattle.clap.specs.Simple.{App, HasMatchesOf, is_simple, matches_of}
use Rattle.clap.specs.Faults.{fault_of, is_simple_and_free}
use Rattle.clap.specs.Values.{kind_of}
use Rattle.clap.specs.Walk.{Text, first_of, one_of}
use Rattle.clap.specs.declared.error.Error.{Error}
use Rattle.clap.specs.declared.error.kind.ErrorKind.TheVariants.{OutOfMemory}
use Rattle.clap.specs.declared.parser.matches.ArgMatches.{ArgMatches}
use Rattle.clap.proofs.WalkLemmas.{first_value-rows, one_text-rows}
use Rattle.prta_words.proofs.Walks.{IsFault}

-- where no fault is due, an error is want of memory
pub only-memory : (a app : App) (words : List Text) (e : Error) → a ≡ app → is_simple_and_free app ≡ true → fault_of app words ≡ []
    → (is_simple_and_free a ≡ true → HasKind (fault_of a words) e) → kind_of e ≡ OutOfMemory
only-memory a app words e is free none kinds =
    by (subst (λ (k : Kinds). HasKind k e) (ap (λ x. fault_of x words) is ∙ none) (kinds (ap is_simple_and_free is ∙ free)))
  where
    by : HasKind [] e → kind_of e ≡ OutOfMemory
    by (inl h) = h
    by (inr h) = absurd h

-- where a fault is due, no parse passes
pub never-passes : (a app : App) (words : List Text) → a ≡ app → is_simple_and_free app ≡ true → IsFault (fault_of app words)
    → (is_simple_and_free a ≡ true → fault_of a words ≡ []) → ⊥
never-passes a app words is free f kinds =
    let none = sym (ap (λ x. fault_of x words) is) ∙ kinds (ap is_simple_and_free is ∙ free) in
    let fault = f.2 in
    cc

-- the first value, and the text that a flag reads, by the matches of the command
pub value-by : (a app : App) (words : List Text) (m : ArgMatches) (id : Text) → a ≡ app → is_simple app ≡ true → HasMatchesOf a words m
    → first_value (found_of m) id ≡ first_of id (matches_of app words)
value-by a app words m id is simple h =
    first_value-rows (found_of m) id ∙ ap (first_of id) ((h (ap is_simple is ∙ simple)).0 ∙ ap (λ x. matches_of x words) is)

pub text-by : (a app : App) (words : List Text) (m : ArgMatches) (id : Text) → a ≡ app → is_simple app ≡ true → HasMatchesOf a words m
    → one_text (found_of m) id ≡ one_of id (matches_of app words)
text-by a app words m id is simple h =
    one_text-rows (found_of m) id ∙ ap (one_of id) ((h (ap is_simple is ∙ simple)).0 ∙ ap (λ x. matches_of x words) is)

-- the value of an option of references, by what it says of their texts
pub some-text : {X : Type 0} (f : X → Text) (o : Option X) (x : X) (v : Option Text) (text : Text) → option_map f o ≡ v → v ≡ Some text → o ≡ Some x → f x ≡ text
some-text f o x v text e is some =
    let got : Some (f x) ≡ Some text = ap (option_map f) (sym some) ∙ e ∙ is in
    cc

pub none-text : {X : Type 0} (f : X → Text) (o : Option X) (v : Option Text) (text : Text) → option_map f o ≡ v → v ≡ Some text → o ≡ None → ⊥
none-text f o v text e is none =
    let got : None ≡ Some text = ap (option_map f) (sym none) ∙ e ∙ is in
    cc

-- a flag, by the text that it reads
pub flag-by : (r b : Bool) (o rows : Option Text) → o ≡ rows → (o ≡ Some (codes "true") → r ≡ true) → (o ≡ Some (codes "false") → r ≡ false)
    → MatchBool b (rows ≡ Some (codes "true")) (rows ≡ Some (codes "false")) → r ≡ b
flag-by r true o rows e set unset h = set (e ∙ h)
flag-by r false o rows e set unset h = unset (e ∙ h)
