-- What a curve that keeps its cells holds after a call wrote them all.
use Rattle.std.proofs.Common.{◌≡◌, ℕ, nat_lt, if◌then◌else◌, List, ◌++◌, length, take, drop, replicate, subst, sym, ◌∙◌, ap, arith}
use Rattle.std.proofs.lemmas.List.{take_at, length-replicate, get_or-replicate}
use Rattle.std.proofs.lemmas.List.FromFn.{fill_by_all}
use Rattle.std.proofs.lemmas.Bool.{le-ltb}
use Rattle.prta_mass.specs.Unit.{unit}
use Rattle.prta_mass.specs.Chances.{point, IsChances}
use Rattle.prta_dist.specs.Window.{IsWindow}
use Rattle.prta_dist.specs.Dense.{IsDense}

-- the cells of a vector whose slice was written
abbrev pub stored : ℕ → List ℕ → List ℕ → List ℕ
stored n old new = take n (new ++ drop (length new) old)

pub stored_all : (n : ℕ) (old new : List ℕ) → length new ≡ n → stored n old new ≡ new
stored_all n old new size = take_at new (drop (length new) old) n size

-- the slice that was written held the old cells; afterwards the cells are the new ones
module _ (n : ℕ) (old new slice now : List ℕ) (value : slice ≡ old) (len : length slice ≡ n) (size : length new ≡ length slice) (is : now ≡ stored n old new) where
  pub chances_stored : IsChances new → IsChances now
  chances_stored chances = subst IsChances (sym (is ∙ stored_all n old new (size ∙ len))) chances

  pub dense_stored : (spare : List ℕ) (lo hi from to : ℕ) → IsDense old spare lo hi → IsChances new → IsWindow now from to → IsDense (stored n old new) spare from to
  dense_stored spare lo hi from to before chances window =
      let all : length (stored n old new) ≡ length new = ap length (stored_all n old new (size ∙ len)) in
      let kept : length slice ≡ length old = ap length value in
      record {
        chances = subst IsChances (sym (stored_all n old new (size ∙ len))) chances;
        least = omega (arith, before.least);
        most = omega (arith, before.most);
        room = omega (arith, before.room);
        window = subst (λ (cells : List ℕ). IsWindow cells from to) is window;
      }

pub filled_is_point : (n : ℕ) → replicate n unit ≡ point n 0
filled_is_point n = fill_by_all (λ k. if nat_lt k 0 then 0 else unit) (replicate n unit) n 0 (length-replicate n unit) (λ k h. rw (le-ltb k 0 (omega arith)) (get_or-replicate n k unit 0 h))
