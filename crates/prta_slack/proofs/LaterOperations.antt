-- An operation in Up with a table whose weights stand at later times: no cell is above the one that the earlier table makes.
use Rattle.std.proofs.Common.{◌≡◌, ℕ, ◌-◌, ◌*◌, ◌<◌, ◌≤◌, max, true, false, nat_le, if◌then◌else◌, List, [], ◌∷◌, sum_by, length, ◌∙◌, sym, subst, arith, inl, inr, le_trans, mul-le-mul_left}
use Rattle.std.specs.List.{AllByRecursion as Each}
use Rattle.std.proofs.lemmas.Bool.{cases_lt}
use Rattle.std.proofs.lemmas.List.Elements.{recursion_from_All}
use Rattle.std.proofs.lemmas.List.Sums.{sum_by-cons}
use Rattle.prta_mass.specs.declared.direction.Dir.TheVariants.{Up}
use Rattle.prta_mass.specs.Table.{Table, total, IsTable}
use Rattle.prta_mass.specs.Chances.{at, before, cells_of, IsChances, Dominates}
use Rattle.prta_mass.specs.Direction.{divided}
use Rattle.prta_fewpoints.specs.Laws.{IsMovedUp}
use Rattle.prta_times.proofs.LaterTasks.{total_later}
use Rattle.prta_dist.specs.Addition.{cell_added, added}
use Rattle.prta_dist.proofs.Cells.{at_past, at_rises, length-cells_of, at-cells_of, last-cells_of}
use Rattle.prta_dist.proofs.Sums.{before_near, before_both}
use Rattle.prta_dist.proofs.Chances.{divided_rises, keep_chances}
use Rattle.prta_preempt.specs.Delay.{delayed_sum, delayed}
use Rattle.prta_preempt.specs.Laws.{KeptByDelay}
use Rattle.prta_preempt.proofs.Tails.{keep_chances as delay_keeps}
use Rattle.prta_backlog.proofs.Chances.{length-added}
use Rattle.prta_audsley.proofs.UpOperations.{Under}

-- cells made from two functions of which the first is nowhere above the second
cells_under : (n : ℕ) (f g : ℕ → ℕ) → 0 < n → ((k : ℕ) → f k ≤ g k) → Dominates (cells_of n f) (cells_of n g)
cells_under n f g some h k =
    elim (cases_lt k n) [
      | inl low ↦ omega (arith, at-cells_of n f k low, at-cells_of n g k low, h k)
      | inr past ↦
          omega (
            arith,
            at_past (cells_of n f) k (omega (arith, length-cells_of n f)),
            at_past (cells_of n g) k (omega (arith, length-cells_of n g)),
            last-cells_of n f some,
            last-cells_of n g some,
            h (n - 1),
          )
    ]

pub under_both : (n : ℕ) (E F G : List ℕ) → Under n E F → Under n F G → Under n E G
under_both n E F G p q = record { low_size = p.low_size; high_size = q.high_size; low = p.low; high = q.high; dominates = λ k. le_trans (p.dominates k) (q.dominates k) }

module _ (early late : Table) (moved : IsMovedUp early late) where
  -- of a worth that doesn't rise with the time the later table weighs no more
  weighs_less : (worth : ℕ → ℕ) → ((c d : ℕ) → c ≤ d → worth d ≤ worth c) → sum_by (λ pair. pair.1 * worth pair.0) late ≤ sum_by (λ pair. pair.1 * worth pair.0) early
  weighs_less worth falls =
      subst (λ s. s ≤ sum_by (λ pair. pair.1 * worth pair.0) early) (sym (moved.weights worth)) (each early (recursion_from_All (λ (pair : ℕ × ℕ). pair.0 ≤ moved.to pair.0) early moved.up))
    where
      each : (pairs : Table) → Each (λ pair. pair.0 ≤ moved.to pair.0) pairs → sum_by (λ pair. pair.1 * worth (moved.to pair.0)) pairs ≤ sum_by (λ pair. pair.1 * worth pair.0) pairs
      each [] h = omega arith
      each (pair ∷ pairs) h =
          omega (
            arith,
            sum_by-cons (λ (p : ℕ × ℕ). p.1 * worth (moved.to p.0)) pair pairs,
            sum_by-cons (λ (p : ℕ × ℕ). p.1 * worth p.0) pair pairs,
            each pairs h.1,
            mul-le-mul_left pair.1 (falls pair.0 (moved.to pair.0) h.0),
          )

  -- and so the quotient by its total, which is the same
  quotient_less : (worth : ℕ → ℕ) → ((c d : ℕ) → c ≤ d → worth d ≤ worth c) → 0 < total early →
      divided Up (sum_by (λ pair. pair.1 * worth pair.0) late) (total late) ≤ divided Up (sum_by (λ pair. pair.1 * worth pair.0) early) (total early)
  quotient_less worth falls some =
      subst (λ w. divided Up (sum_by (λ pair. pair.1 * worth pair.0) late) w ≤ divided Up (sum_by (λ pair. pair.1 * worth pair.0) early) (total early)) (total_later early late moved)
      (divided_rises Up (sum_by (λ pair. pair.1 * worth pair.0) late) (sum_by (λ pair. pair.1 * worth pair.0) early) (total early) some (weighs_less worth falls))

  module _ (is_early : IsTable early) (is_late : IsTable late) (n : ℕ) (cells : List ℕ) (size : length cells ≡ n) (chances : IsChances cells) where
    -- the cells are read further down
    earlier_reads : (k c d : ℕ) → c ≤ d → before (at cells) k d ≤ before (at cells) k c
    earlier_reads k c d le =
        before_both (λ x. x ≤ before (at cells) k c) (at cells) k d
        (λ near. omega (arith, before_near (at cells) k c (omega arith), at_rises cells (k - d) (k - c) chances.rising (omega arith)))
        (λ far. omega arith)

    pub adds_later : 0 < n → Under n (added Up late cells) (added Up early cells)
    adds_later some = record {
      low_size = length-added Up late cells ∙ size;
      high_size = length-added Up early cells ∙ size;
      low = (keep_chances Up late cells is_late chances).1;
      high = (keep_chances Up early cells is_early chances).1;
      dominates = cells_under (length cells) (cell_added Up late cells) (cell_added Up early cells) (omega (arith, size))
          (λ k. quotient_less (before (at cells) k) (earlier_reads k) is_early.weighs);
    }

    pub delays_later : (d : ℕ) → d < n → Under n (delayed Up late d cells) (delayed Up early d cells)
    delays_later d place =
        let by_late : KeptByDelay d cells (delayed Up late d cells) = delay_keeps Up late d cells is_late chances (omega (arith, size)) in
        let by_early : KeptByDelay d cells (delayed Up early d cells) = delay_keeps Up early d cells is_early chances (omega (arith, size)) in
        record {
          low_size = by_late.size ∙ size;
          high_size = by_early.size ∙ size;
          low = by_late.chances;
          high = by_early.chances;
          dominates = cells_under (length cells) (cell late) (cell early) (omega (arith, size)) below;
        }
      where
        cell : Table → ℕ → ℕ
        cell table k = if nat_le k d then at cells k else divided Up (delayed_sum table d cells k) (total table)

        below : (k : ℕ) → cell late k ≤ cell early k
        below k = elim (nat_le k d) as (λ b. (if b then at cells k else divided Up (delayed_sum late d cells k) (total late)) ≤ (if b then at cells k else divided Up (delayed_sum early d cells k) (total early))) [
          | true ↦ omega arith
          | false ↦ quotient_less (λ c. at cells (max (k - c) d)) (λ c e le. at_rises cells (max (k - e) d) (max (k - c) d) chances.rising (omega arith)) is_early.weighs
        ]
