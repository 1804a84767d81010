-- What a re-sampled list keeps.
use Rattle.std.proofs.Common.{◌≡◌, ℕ, ◌-◌, ◌<◌, List, length, get_or, refl, ap, ◌∙◌, arith}
use Rattle.std.specs.List.Sorted.{IsNonDecreasing}
use Rattle.std.proofs.lemmas.List.{get_or_default}
use Rattle.std.proofs.lemmas.List.FromFn.{length-map-range_with_len, get_or-map-range_with_len}
use Rattle.std.proofs.lemmas.List.Sorted.{IsNonDecreasingBy-from_default}
use Rattle.prta_mass.specs.declared.direction.Dir.{Dir}
use Rattle.prta_mass.specs.declared.direction.Dir.TheVariants.{Up, Down}
use Rattle.prta_mass.specs.declared.support.Support.{Support}
use Rattle.prta_mass.specs.Direction.{IsSafe}
use Rattle.prta_mass.specs.Chances.{at, last}
use Rattle.prta_resample.specs.Resample.{read_place, resampled}
use Rattle.prta_resample.specs.Laws.{ResamplingsKeepChances}
use Rattle.prta_resample.proofs.Places.{read_last, read_low, read_safe, read_rises}

pub length-resampled : (dir : Dir) (s : Support) (cells : List ℕ) → length (resampled dir s cells) ≡ length cells
length-resampled dir s cells = length-map-range_with_len (λ k. at cells (read_place dir s (length cells) k)) 0 (length cells)

pub cell_resampled : (dir : Dir) (s : Support) (cells : List ℕ) (k d : ℕ) → k < length cells → get_or (resampled dir s cells) k d ≡ at cells (read_place dir s (length cells) k)
cell_resampled dir s cells k d h = get_or-map-range_with_len (λ k. at cells (read_place dir s (length cells) k)) 0 (length cells) k k d h (omega arith)

-- values at safe places are safe
pub value_safe : (dir : Dir) (cells : List ℕ) (i k : ℕ) → IsNonDecreasing cells → i < length cells → k < length cells → IsSafe dir i k → IsSafe dir (at cells i) (at cells k)
value_safe Up cells i k rising l m safe = rising i k (last cells) safe m
value_safe Down cells i k rising l m safe = rising k i (last cells) safe l

pub resamplings_keep : ResamplingsKeepChances
resamplings_keep dir s cells some is =
    let n = length cells in
    let size = length-resampled dir s cells in
    record {
      chances = record {
        rising = IsNonDecreasingBy-from_default (λ x. x) (resampled dir s cells) 0 (λ i j le low.
            let short : j < length cells = omega (arith, size) in
            let a = cell_resampled dir s cells i 0 (omega arith) in
            let b = cell_resampled dir s cells j 0 short in
            rw (a, b) (is.rising (read_place dir s n i) (read_place dir s n j) (last cells) (read_rises s n dir i j le short) (read_low s n dir j short)));
        limited = λ k d low.
            let short : k < length cells = omega (arith, size) in
            rw (cell_resampled dir s cells k d short) (is.limited (read_place dir s n k) (last cells) (read_low s n dir k short));
      };
      size = size;
      ending =
          ap (λ m. get_or (resampled dir s cells) (m - 1) 0) size
          ∙ cell_resampled dir s cells (n - 1) 0 (omega arith)
          ∙ ap (at cells) (read_last s n dir (n - 1) refl)
          ∙ get_or_default cells (n - 1) (last cells) 0 (omega arith);
      safe = λ k low.
          rw (cell_resampled dir s cells k (last (resampled dir s cells)) low) (value_safe dir cells (read_place dir s n k) k is.rising (read_low s n dir k low) low (read_safe s n dir k));
    }
