-- Lists that are split and merged cell by cell.
use Rattle.std.proofs.Common.{◌≡◌, ℕ, ◌+◌, ◌-◌, ◌<◌, ◌≤◌, nat_le, if◌then◌else◌, List, length, get_or, ◌∙◌, arith, ⊎_elim}
use Rattle.std.proofs.lemmas.Bool.{cases_lt, le-leb, lt-leb}
use Rattle.std.proofs.lemmas.List.FromFn.{fill_by_all}
use Rattle.prta_mass.specs.Chances.{at}
use Rattle.prta_dist.proofs.Cells.{at_cell}
use Rattle.prta_preempt.specs.Delay.{tail_above, merged}

pub is_tail : (d : ℕ) (cells tail : List ℕ) → length tail ≡ length cells → d < length cells → ((i : ℕ) → i ≤ d → get_or tail i 0 ≡ 0) →
    ((i : ℕ) → d < i → i < length cells → get_or tail i 0 ≡ get_or cells i 0 - get_or cells d 0) → tail ≡ tail_above d cells
is_tail d cells tail size place early late =
    fill_by_all (λ k. if nat_le k d then 0 else at cells k - at cells d) tail (length cells) 0 size (λ k h. ⊎_elim
    (λ (l : d < k). rw (lt-leb k d l) (omega (arith, late k l h, at_cell cells k 0 h, at_cell cells d 0 place)))
    (λ (l : k ≤ d). rw (le-leb k d l) (early k l))
    (cases_lt d k))

pub is_merged : (d : ℕ) (old cells tail : List ℕ) → length cells ≡ length old → length tail ≡ length old → d < length old → ((i : ℕ) → i ≤ d → get_or cells i 0 ≡ get_or old i 0) →
    ((i : ℕ) → d < i → i < length old → get_or cells i 0 ≡ get_or old d 0 + get_or tail i 0) → cells ≡ merged d old tail
is_merged d old cells tail size same place early late =
    fill_by_all (λ k. if nat_le k d then at old k else at old d + at tail k) cells (length old) 0 size (λ k h. ⊎_elim
    (λ (l : d < k). rw (lt-leb k d l) (omega (arith, late k l h, at_cell old d 0 place, at_cell tail k 0 (omega arith))))
    (λ (l : k ≤ d). rw (le-leb k d l) (early k l ∙ at_cell old k 0 h))
    (cases_lt d k))
