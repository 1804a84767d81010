-- Lines of the numbers below a limit, one after the other.
use Rattle.std.proofs.Common.{◌≡◌, ℕ, zero, suc, ◌+◌, List, ◌++◌, flat_map, ap, sym, ◌∙◌, append_assoc, append-nil, arith}
use Rattle.std.specs.List.{range_with_len}

lines_from : (line : ℕ → List ℕ) (a n j : ℕ) → a + n ≡ j → flat_map line (range_with_len a (suc n)) ≡ flat_map line (range_with_len a n) ++ line j
lines_from line a zero j e = let same : a ≡ j = omega (arith, e) in append-nil (line a) ∙ ap line same
lines_from line a (suc n) j e =
    ap (λ (rest : List ℕ). line a ++ rest) (lines_from line (a + 1) n j (omega (arith, e)))
    ∙ sym (append_assoc (line a) (flat_map line (range_with_len (a + 1) n)) (line j))

-- the lines of one number more
pub lines_more : (line : ℕ → List ℕ) (n : ℕ) → flat_map line (range_with_len 0 (n + 1)) ≡ flat_map line (range_with_len 0 n) ++ line n
lines_more line n =
    let next : n + 1 ≡ suc n = omega arith in
    ap (λ (count : ℕ). flat_map line (range_with_len 0 count)) next ∙ lines_from line 0 n n (omega arith)
