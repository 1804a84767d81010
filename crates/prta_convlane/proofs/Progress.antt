-- An addition that is done up to a place: its start, one cell more, and its end.
use Rattle.std.proofs.Common.{◌≡◌, ℕ, ◌+◌, ◌%◌, ◌<◌, ◌||◌, Bool, false, not, nat_eq, List, length, take, get_or, set, ap, sym, ◌∙◌, refl, arith}
use Rattle.std.specs.List.{range_with_len, list_any}
use Rattle.std.proofs.lemmas.List.{take_all}
use Rattle.std.proofs.lemmas.List.Edits.{fill_by_more}
use Rattle.std.proofs.lemmas.List.Folds.{list_any_more}
use Rattle.std.proofs.lemmas.List.FromFn.{fill_by_all, length-range_with_len, get_or-range_with_len}
use Rattle.prta_mass.specs.Table.{Table, total}
use Rattle.prta_mass.specs.Direction.{divided}
use Rattle.prta_mass.specs.declared.direction.Dir.{Dir}
use Rattle.prta_dist.specs.Addition.{weighted, cell_added, cells_added, leaves_rest, is_rounded}
use Rattle.prta_convlane.specs.Progress.{IsDone}

pub done_start : (dir : Dir) (table : Table) (from to : List ℕ) → IsDone dir table from to 0 false
done_start dir table from to = record { cells = λ k h. absurd (omega arith); rests = refl }

-- the cell and the flag of place k, written down
pub done_more : (dir : Dir) (table : Table) (from to : List ℕ) (k next cell : ℕ) (rounded rest : Bool) → k < length from → length to ≡ length from → next ≡ k + 1 →
    cell ≡ cell_added dir table from k → rest ≡ leaves_rest table from k → IsDone dir table from to k rounded → IsDone dir table from (set to k cell) next (rounded || rest)
done_more dir table from to k next cell rounded rest inside same step value left done =
    let places : List ℕ = range_with_len 0 (length from) in
    let place : get_or places k 0 ≡ k = get_or-range_with_len 0 (length from) k 0 inside ∙ omega arith in
    let cells : (j : ℕ) → j < k + 1 → get_or (set to k (cell_added dir table from k)) j 0 ≡ cell_added dir table from j =
    fill_by_more (cell_added dir table from) to k 0 (omega arith) done.cells in
    record {
      cells = λ j h. ap (λ x. get_or (set to k x) j 0) value ∙ cells j (omega arith);
      rests = ap (λ b. b || rest) done.rests
          ∙ ap (λ b. list_any (leaves_rest table from) (take k places) || b) (left ∙ ap (leaves_rest table from) (sym place))
          ∙ sym (list_any_more (leaves_rest table from) places k 0 (omega (arith, length-range_with_len 0 (length from))))
          ∙ ap (λ m. list_any (leaves_rest table from) (take m places)) (sym step);
    }

pub done_cells : (dir : Dir) (table : Table) (from to : List ℕ) (rounded : Bool) → length to ≡ length from → IsDone dir table from to (length from) rounded → to ≡ cells_added dir table from
done_cells dir table from to rounded same done = fill_by_all (cell_added dir table from) to (length from) 0 same done.cells

pub done_rests : (dir : Dir) (table : Table) (from to : List ℕ) (rounded : Bool) → IsDone dir table from to (length from) rounded → rounded ≡ is_rounded table from
done_rests dir table from to rounded done =
    done.rests ∙ ap (list_any (leaves_rest table from)) (take_all (length from) (range_with_len 0 (length from)) (omega (arith, length-range_with_len 0 (length from))))

-- the same of a rounded quotient: of a sum that is the weighted sum, by the total
pub done_quotient : (dir : Dir) (table : Table) (from to : List ℕ) (k next cell sum w : ℕ) (rounded rest : Bool) → k < length from → length to ≡ length from → next ≡ k + 1 →
    sum ≡ weighted table from k → w ≡ total table → cell ≡ divided dir sum w → rest ≡ not (nat_eq (sum % w) 0) →
    IsDone dir table from to k rounded → IsDone dir table from (set to k cell) next (rounded || rest)
done_quotient dir table from to k next cell sum w rounded rest inside same step sum_is total_is value left done =
    done_more dir table from to k next cell rounded rest inside same step
    (value ∙ ap (λ s. divided dir s w) sum_is ∙ ap (divided dir (weighted table from k)) total_is)
    (left ∙ ap (λ s. not (nat_eq (s % w) 0)) sum_is ∙ ap (λ v. not (nat_eq (weighted table from k % v) 0)) total_is)
    done
