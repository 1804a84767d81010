-- A product with the reciprocal of a total is the quotient or one less.
use Rattle.std.proofs.Common.{◌≡◌, ℕ, ◌<◌, ◌≤◌, ◌+◌, ◌*◌, ◌/◌, ◌%◌, ◌^◌, ◌∙◌, sym, ap, arith}
use Rattle.std.proofs.Math.Nat.{mul-le-mul_left, mul-le-mul_right, div-mul-le_self, lt-div-mul-add}
use Rattle.std.proofs.lemmas.Nat.{mod-mul-add}

low_fact : (S B v W q top : ℕ) → top * B ≤ S → v * W ≤ 2 ^ 65 * B → q * 2 ^ 65 ≤ top * v → q * W ≤ S
low_fact S B v W q top h0 h1 h2 =
    let a : q * 2 ^ 65 * W ≤ top * v * W = mul-le-mul_right W h2 in
    let b : top * (v * W) ≤ top * (2 ^ 65 * B) = mul-le-mul_left top h1 in
    omega (arith, a, b, h0)

high_fact : (S B v W q top : ℕ) → S < top * B + B → 2 ^ 65 * B ≤ v * W + W → top * v ≤ q * 2 ^ 65 + 2 ^ 65 → top ≤ 2 ^ 63 → 4 * B ≤ W → S < (q + 2) * W
high_fact S B v W q top h0 h1 h2 h3 h4 =
    let a : top * (2 ^ 65 * B) ≤ top * (v * W + W) = mul-le-mul_left top h1 in
    let b : top * v * W ≤ (q * 2 ^ 65 + 2 ^ 65) * W = mul-le-mul_right W h2 in
    let c : top * W ≤ 2 ^ 63 * W = mul-le-mul_right W h3 in
    omega (arith, a, b, c, h0, h4)

pub near_low : (S B W : ℕ) → (S / B * (2 ^ 65 * B / W) / 2 ^ 65) * W ≤ S
near_low S B W =
    low_fact S B (2 ^ 65 * B / W) W (S / B * (2 ^ 65 * B / W) / 2 ^ 65) (S / B) (div-mul-le_self S B) (div-mul-le_self (2 ^ 65 * B) W) (div-mul-le_self (S / B * (2 ^ 65 * B / W)) (2 ^ 65))

pub near_high : (S B W : ℕ) → 0 < B → 0 < W → S / B ≤ 2 ^ 63 → 4 * B ≤ W → S < (S / B * (2 ^ 65 * B / W) / 2 ^ 65 + 2) * W
near_high S B W b w top four =
    let v = 2 ^ 65 * B / W in
    let p : 0 < 2 ^ 65 = omega arith in
    let h1 : 2 ^ 65 * B < v * W + W = lt-div-mul-add w in
    let h2 : S / B * v < S / B * v / 2 ^ 65 * 2 ^ 65 + 2 ^ 65 = lt-div-mul-add p in
    high_fact S B v W (S / B * v / 2 ^ 65) (S / B) (lt-div-mul-add b) (omega (arith, h1)) (omega (arith, h2)) top four

pub rest_is : (S q r W : ℕ) → q * W + r ≡ S → r < W → r ≡ S % W
rest_is S q r W e lt = sym (mod-mul-add q W r lt) ∙ ap (λ n. n % W) e

pub top_small : (S B W : ℕ) → 0 < B → S ≤ W * 2 ^ 60 → W < 8 * B → S / B ≤ 2 ^ 63
top_small S B W b le eight =
    let a : S / B * B ≤ S = div-mul-le_self S B in
    grind (arith, a, le, eight)
