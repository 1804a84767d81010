-- How long the text of a certificate is.
use Rattle.std.proofs.Common.{◌≡◌, ℕ, ◌+◌, ◌*◌, ◌^◌, ◌<◌, ◌≤◌, true, nat_le, List, [], ◌∷◌, ◌++◌, length, flat_map, codes, decimal, All, arith, length-append}
use Rattle.std.specs.List.{list_all}
use Rattle.std.proofs.lemmas.Bool.{and_parts, leb-true}
use Rattle.std.proofs.lemmas.Fmt.{length-decimal-le}
use Rattle.std.proofs.lemmas.List.Elements.{All-head, All-tail}
use Rattle.prta_mass.specs.Unit.{unit}
use Rattle.prta_sheet.specs.Sheet.{Task}
use Rattle.prta_sheet.specs.Accepted.{is_good_name, is_name_byte}
use Rattle.prta_sheet.specs.declared.limits.TheConstants.{NAME_LIMIT}
use Rattle.prta_certfile.specs.declared.level.CertLevel.{CertLevel}
use Rattle.prta_certfile.specs.declared.level.CertLevel.TheVariants.{Steps, OverFull, BeyondCap}
use Rattle.prta_certfile.specs.Steps.{AreBelow}
use Rattle.prta_certfile.specs.Text.{level_head, pair_text, overfull_text, beyond_text, level_text, level_lines}
use Rattle.prta_certfile.specs.Laws.{IsLevel}
use Rattle.prta_certfile.proofs.StepLists.{Climbs, climbs_from_steps}

-- places that rise below a cap are at most as many as the cap
steps_few : (cap from value : ℕ) (steps : List (ℕ × ℕ)) → from ≤ cap → Climbs from value steps → AreBelow cap steps → from + length steps ≤ cap
steps_few cap from value [] low climbs below = omega arith
steps_few cap from value (step ∷ steps) low climbs below =
    let here : step.0 < cap = All-head (λ (s : ℕ × ℕ). s.0 < cap) step steps below in
    omega (arith, climbs.0, steps_few cap (step.0 + 1) step.1 steps (omega arith) climbs.2 (All-tail (λ (s : ℕ × ℕ). s.0 < cap) step steps below))

pair_short : (step : ℕ × ℕ) → step.0 < 16384 → step.1 ≤ unit → length (pair_text step) ≤ 26
unfolding pair_text
pair_short step place value =
    omega (
      arith,
      length-append (codes " ") (decimal step.0),
      length-append (codes " " ++ decimal step.0) (codes ":"),
      length-append (codes " " ++ decimal step.0 ++ codes ":") (decimal step.1),
      length-decimal-le 5 step.0 (omega arith) (omega arith) (omega arith),
      length-decimal-le 19 step.1 (omega arith) (omega arith) (omega arith),
    )

pairs_short : (steps : List (ℕ × ℕ)) → AreBelow 16384 steps → All (λ step. step.1 ≤ unit) steps → length (flat_map pair_text steps) ≤ 26 * length steps
pairs_short [] below limited = omega arith
pairs_short (step ∷ steps) below limited =
    let first = pair_short step (All-head (λ (s : ℕ × ℕ). s.0 < 16384) step steps below) (All-head (λ (s : ℕ × ℕ). s.1 ≤ unit) step steps limited) in
    let rest = pairs_short steps (All-tail (λ (s : ℕ × ℕ). s.0 < 16384) step steps below) (All-tail (λ (s : ℕ × ℕ). s.1 ≤ unit) step steps limited) in
    omega (arith, length-append (pair_text step) (flat_map pair_text steps))

name_short : (name : List ℕ) → is_good_name name ≡ true → length name ≤ 24
name_short name good =
    let (size, bytes) = and_parts _ (list_all is_name_byte name) good in
    let (some, few) = and_parts (nat_le 1 (length name)) (nat_le (length name) NAME_LIMIT) size in
    leb-true _ _ few

level_short : (cap : ℕ) (name : List ℕ) (level : CertLevel) → cap ≤ 16384 → is_good_name name ≡ true → IsLevel cap level → length (level_text name level) ≤ 427000
unfolding level_head overfull_text beyond_text
level_short cap name (Steps steps) small good is =
    let short = name_short name good in
    let below : AreBelow cap steps = is.1 in
    let few = steps_few cap 0 0 steps (omega arith) (climbs_from_steps steps is.0) below in
    let pairs = pairs_short steps (λ k d low. let place = below k d low in omega arith) is.0.limited in
    omega (arith, length-append (codes "level ") name, length-append (level_head name) (flat_map pair_text steps))
level_short cap name (OverFull work hyperperiod) small good is =
    let short = name_short name good in
    let w : work < 2 ^ 64 = is.0 in
    let h : hyperperiod < 2 ^ 64 = is.1 in
    let a = codes "none " ++ name in
    let b = a ++ codes " overfull " in
    let d = b ++ decimal work in
    omega (
      arith,
      length-append (codes "none ") name,
      length-append a (codes " overfull "),
      length-append b (decimal work),
      length-append d (codes " "),
      length-append (d ++ codes " ") (decimal hyperperiod),
      length-decimal-le 20 work (omega arith) (omega arith) w,
      length-decimal-le 20 hyperperiod (omega arith) (omega arith) h,
    )
level_short cap name (BeyondCap peak) small good is =
    let short = name_short name good in
    let p : peak < 2 ^ 64 = is in
    let a = codes "none " ++ name in
    let b = a ++ codes " beyondcap " in
    omega (arith, length-append (codes "none ") name, length-append a (codes " beyondcap "), length-append b (decimal peak), length-decimal-le 20 peak (omega arith) (omega arith) p)

pub lines_short : (cap : ℕ) (tasks : List Task) (levels : List CertLevel) → cap ≤ 16384 → All (λ task. is_good_name task.name ≡ true) tasks → All (IsLevel cap) levels → length (level_lines tasks levels) ≤ 427001 * length tasks
lines_short cap [] levels small good is = omega arith
lines_short cap (task ∷ tasks) [] small good is = omega arith
lines_short cap (task ∷ tasks) (level ∷ levels) small good is =
    let one = level_text task.name level in
    let first = level_short cap task.name level small (All-head (λ (task : Task). is_good_name task.name ≡ true) task tasks good) (All-head (IsLevel cap) level levels is) in
    let rest = lines_short cap tasks levels small (All-tail (λ (task : Task). is_good_name task.name ≡ true) task tasks good) (All-tail (IsLevel cap) level levels is) in
    omega (arith, length-append one (codes "\n"), length-append (one ++ codes "\n") (level_lines tasks levels))
