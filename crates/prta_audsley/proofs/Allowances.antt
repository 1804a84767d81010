-- Numbers and exact chances against an allowance.
use Rattle.std.proofs.Common.{◌≡◌, ℕ, ◌*◌, ◌≤◌, ◌<◌, false, nat_le, List, [], ◌∷◌, arith, mul-le-mul_left, mul-le-mul_right}
use Rattle.std.proofs.Math.Nat.{le_of_mul-le-mul_left, lt_of_mul-lt-mul_left, mul-lt-mul_of_pos_left, mul-lt-mul_of_pos_right}
use Rattle.std.specs.List.{AllByRecursion as Each}
use Rattle.std.proofs.lemmas.Bool.Decides.{nat_tests}
use Rattle.prta_mass.specs.Table.{Table, total}
use Rattle.prta_sheet.specs.Job.{Job}
use Rattle.prta_sheet.specs.Assignment.{total_of}

-- an upper number that passes: the exact chance passes
pub chance_from_upper : (unit u m t p q : ℕ) → 0 < unit → unit * m ≤ u * t → u * q ≤ p * unit → m * q ≤ p * t
chance_from_upper unit u m t p q pos above passes =
    let one : unit * m * q ≤ u * t * q = mul-le-mul_right q above in
    let two : u * q * t ≤ p * unit * t = mul-le-mul_right t passes in
    let all : unit * (m * q) ≤ unit * (p * t) = omega (arith, one, two) in
    le_of_mul-le-mul_left all pos

-- a lower number that fails: the exact chance fails, and so does a greater one
pub chance_from_lower : (unit l m more t p q : ℕ) → 0 < t → l * t ≤ unit * m → m ≤ more → p * unit < l * q → p * t < more * q
chance_from_lower unit l m more t p q pos below le fails =
    let one : l * t * q ≤ unit * m * q = mul-le-mul_right q below in
    let two : unit * q * m ≤ unit * q * more = mul-le-mul_left (unit * q) le in
    let three : p * unit * t < l * q * t = mul-lt-mul_of_pos_right fails pos in
    let all : unit * (p * t) < unit * (more * q) = omega (arith, one, two, three) in
    lt_of_mul-lt-mul_left unit all

pub some_total : (table : Job → Table) (jobs : List Job) → Each (λ job. 0 < total (table job)) jobs → 0 < total_of table jobs
some_total table [] h = omega arith
some_total table (job ∷ jobs) h =
    let rest : 0 < total_of table jobs = some_total table jobs h.1 in
    let some : total (table job) * 0 < total (table job) * total_of table jobs = mul-lt-mul_of_pos_left rest h.0 in
    omega (arith, some)

pub not_passing : (a b : ℕ) → nat_le a b ≡ false → b < a
not_passing a b e = grind (arith, nat_tests)
