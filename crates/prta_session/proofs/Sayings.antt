-- What words say of which some are left in a text.
use Rattle.std.proofs.Common.{◌≡◌, ℕ, ◌<◌, Bool, true, false, cond, Option, Some, None, is_some, option_map, List, [], ◌∷◌, length, bytes_eq, codes, refl, ap, sym, ◌∙◌}
use denote.Ref.{Bor}
use Rattle.std.proofs.lemmas.List.Quantifiers.{position-Some}
use Rattle.prta_sheet.specs.Sheet.{Task, task_at}
use Rattle.prta_sheet.specs.Accepted.{is_good_name}
use Rattle.prta_sheet.specs.Document.{◌>>=◌}
use Rattle.prta_session.specs.declared.said.Part.{Part}
use Rattle.prta_session.specs.declared.said.Part.TheVariants.{Table}
use Rattle.prta_session.specs.declared.said.Said.{Said}
use Rattle.prta_session.specs.declared.said.Said.TheVariants.{Print, Change}
use Rattle.prta_session.specs.Text.{parts, parts_left}
use Rattle.prta_session.specs.Saying.{short_number, two_in, pairs_in, table_in, deadline_in, allow_in, part_said, task_named, said_by, line_said}
use Rattle.prta_session.proofs.Parts.{parts_have_first}

-- ---- where more words are left than the form has

deadline_more : (value text : List ℕ) → deadline_in (value ∷ parts 32 text) ≡ None
deadline_more value text = ap (λ words. deadline_in (value ∷ words)) (parts_have_first 32 text).is

two_more : (most byte : ℕ) (first second text : List ℕ) → two_in most (first ∷ second ∷ parts byte text) ≡ None
two_more most byte first second text = ap (λ words. two_in most (first ∷ second ∷ words)) (parts_have_first byte text).is

-- the same, for what may be left
pub deadline_left : (value : List ℕ) (rest : Option (Bor (List ℕ))) → is_some rest ≡ true → deadline_in (value ∷ parts_left 32 rest) ≡ None
deadline_left value None some = cc
deadline_left value (Some rest) some = deadline_more value rest.now

pub two_left : (most byte : ℕ) (first second : List ℕ) (rest : Option (Bor (List ℕ))) → is_some rest ≡ true → two_in most (first ∷ second ∷ parts_left byte rest) ≡ None
two_left most byte first second None some = cc
two_left most byte first second (Some rest) some = two_more most byte first second rest.now

-- pairs are left
table_more : (index text : List ℕ) → table_in (index ∷ parts 32 text) ≡ short_number index >>= (λ i. option_map (Table i) (pairs_in (parts 32 text)))
table_more index text =
    let first = parts_have_first 32 text in
    ap (λ words. table_in (index ∷ words)) first.is ∙ sym (ap (λ words. short_number index >>= (λ i. option_map (Table i) (pairs_in words))) first.is)

pub table_is : (index text : List ℕ) (i : ℕ) (pairs : List (ℕ × ℕ)) → short_number index ≡ Some i → pairs_in (parts 32 text) ≡ Some pairs → table_in (index ∷ parts 32 text) ≡ Some (Table i pairs)
table_is index text i pairs number list =
    table_more index text
    ∙ ap (λ o. o >>= (λ i. option_map (Table i) (pairs_in (parts 32 text)))) number
    ∙ ap (option_map (Table i)) list

-- no word after the name
pub no_part : (kind : List ℕ) → part_said kind [] ≡ None
no_part kind = none (bytes_eq kind (codes "table")) (bytes_eq kind (codes "deadline")) (bytes_eq kind (codes "allow"))
  where
    none : (a b c : Bool) → cond a (table_in []) (cond b (deadline_in []) (cond c (allow_in []) None)) ≡ None
    none true b c = refl
    none false true c = refl
    none false false true = refl
    none false false false = refl

-- ---- a task that is named is on the sheet

same_some : {X : Type 0} (a b : X) → Some a ≡ Some b → a ≡ b
same_some a b e = cc

none_some : {X : Type 0} (a : X) → None ≡ Some a → ⊥
none_some a e = cc

pub named_is_listed : (tasks : List Task) (name : List ℕ) (task : ℕ) → task_named tasks name ≡ Some task → task < length tasks
named_is_listed tasks name task e = (position-Some (λ (task : Task). bytes_eq task.name name) tasks task (task_at [] 0) e).0

change_is : (tasks : List Task) (name : List ℕ) (o : Option Part) (task : ℕ) (part : Part) → option_map (Change (task_named tasks name)) o ≡ Some (Change (Some task) part) → task < length tasks
change_is tasks name None task part e = absurd (none_some (Change (Some task) part) e)
change_is tasks name (Some said) task part e =
    let same : Change (task_named tasks name) said ≡ Change (Some task) part = same_some _ _ e in
    named_is_listed tasks name task (cc)

print_is_none : (b : Bool) (task : Option ℕ) (part : Part) → cond b (Some Print) None ≡ Some (Change task part) → ⊥
print_is_none true task part e = cc
print_is_none false task part e = cc

change_if : (b : Bool) (tasks : List Task) (name : List ℕ) (o : Option Part) (task : ℕ) (part : Part) → cond b (option_map (Change (task_named tasks name)) o) None ≡ Some (Change (Some task) part) → task < length tasks
change_if true tasks name o task part e = change_is tasks name o task part e
change_if false tasks name o task part e = absurd (none_some (Change (Some task) part) e)

said_is_listed : (tasks : List Task) (words : List (List ℕ)) (task : ℕ) (part : Part) → said_by tasks words ≡ Some (Change (Some task) part) → task < length tasks
said_is_listed tasks [] task part e = absurd (none_some (Change (Some task) part) e)
said_is_listed tasks (kind ∷ []) task part e = absurd (print_is_none (bytes_eq kind (codes "print")) (Some task) part e)
said_is_listed tasks (kind ∷ name ∷ rest) task part e = change_if (is_good_name name) tasks name (part_said kind rest) task part e

pub line_is_listed : (tasks : List Task) (line : List ℕ) (task : ℕ) (part : Part) → line_said tasks line ≡ Some (Change (Some task) part) → task < length tasks
line_is_listed tasks line task part e = said_is_listed tasks (parts 32 line) task part e

-- the same of a line that is taken apart
pub part_is_listed : (tasks : List Task) (line : List ℕ) (o : Option Said) (said : Said) (t : Option ℕ) (task : ℕ) (part : Part) →
    o ≡ line_said tasks line → o ≡ Some said → said ≡ Change t part → t ≡ Some task → task < length tasks
part_is_listed tasks line o said t task part e f g h = line_is_listed tasks line task part (sym e ∙ f ∙ ap Some (g ∙ ap (λ t. Change t part) h))
