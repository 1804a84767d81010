-- A list that is re-sampled in place, cell by cell, with the largest difference so far.
use Rattle.std.proofs.Common.{◌≡◌, ℕ, zero, suc, ◌+◌, ◌-◌, ◌%◌, ◌<◌, ◌≤◌, max, ◌⊎◌, List, length, get_or, set, refl, ap, sym, ◌∙◌, arith, ⊎_elim}
use Rattle.std.proofs.lemmas.List.{get_or_default, get_or-set_same, get_or-set_other}
use Rattle.std.proofs.lemmas.List.FromFn.{fill_by_all}
use Rattle.std.proofs.lemmas.Bool.{cases_lt}
use Rattle.std.proofs.Math.Nat.{mod-add-mod, add-mod_right}
use Rattle.prta_mass.specs.Chances.{at, last, cells_of}
use Rattle.prta_resample.specs.Resample.{difference, largest, moved_amount}

-- the largest of some values is the least number that none is above
pub below_largest : (n : ℕ) (F : ℕ → ℕ) (k : ℕ) → k < n → F k ≤ largest n F
below_largest zero F k h = absurd (omega arith)
below_largest (suc n) F k h = ⊎_elim
    (λ (l : k < n). omega (arith, below_largest n F k l))
    (λ (l : n ≤ k). let e : k ≡ n = omega arith in rw e (omega arith))
    (cases_lt k n)

pub largest_below : (n : ℕ) (F : ℕ → ℕ) (m : ℕ) → ((k : ℕ) → k < n → F k ≤ m) → largest n F ≤ m
largest_below zero F m h = omega arith
largest_below (suc n) F m h = omega (arith, largest_below n F m (λ k l. h k (omega arith)), h n (omega arith))

largest_same : (n : ℕ) (F G : ℕ → ℕ) → ((k : ℕ) → k < n → F k ≡ G k) → largest n F ≡ largest n G
largest_same zero F G h = refl
largest_same (suc n) F G h = let e = largest_same n F G (λ k l. h k (omega arith)) in let f = h n (omega arith) in rw (e, f) refl

-- how far cell i moves where it gets the value at place p i
abbrev pub moves : (ℕ → ℕ) → List ℕ → ℕ → ℕ
moves p old i = difference (at old i) (at old (p i))

-- where the re-sampling stands: the cells in `Done` have their value, those in `Left` still have the old one, and `moved` is the largest difference of those done
pub record Stand (p : ℕ → ℕ) (old cells : List ℕ) (moved : ℕ) (Done Left : ℕ → Type 0) : Type 0 where
  pub made : (i : ℕ) → i < length old → Done i → get_or cells i 0 ≡ at old (p i)
  pub kept : (i : ℕ) → i < length old → Left i → get_or cells i 0 ≡ at old i
  pub most : (i : ℕ) → i < length old → Done i → moves p old i ≤ moved
  pub least : moved ≤ largest (length old) (moves p old)

no_difference : (a b : ℕ) → a ≡ b → difference a b ≡ 0
no_difference a b e = omega arith

module _ (p : ℕ → ℕ) (old : List ℕ) (Done Left : ℕ → Type 0) where
  -- at first only cells that stay are done
  pub stand_first : ((i : ℕ) → i < length old → Done i → p i ≡ i) → Stand p old old 0 Done Left
  stand_first stays = record {
    made = λ i l d. get_or_default old i 0 (last old) l ∙ ap (at old) (sym (stays i l d));
    kept = λ i l d. get_or_default old i 0 (last old) l;
    most = λ i l d. let e = no_difference (at old i) (at old (p i)) (ap (at old) (sym (stays i l d))) in omega (arith, e);
    least = omega arith;
  }

  module _ (cells : List ℕ) (moved : ℕ) (stand : Stand p old cells moved Done Left) where
    -- cell k is done next
    module _ (Next Rest : ℕ → Type 0) (k : ℕ) (next : (i : ℕ) → Next i → (Done i) ⊎ (i ≡ k)) (rest : (i : ℕ) → Rest i → (Left i) × (i ≡ k → ⊥)) where
      -- it stays
      pub stand_stays : p k ≡ k → Left k → Stand p old cells moved Next Rest
      stand_stays e left = record {
        made = λ i l d. ⊎_elim (λ (f : Done i). stand.made i l f) (λ (f : i ≡ k). let g : p i ≡ i = rw f e in rw g (stand.kept i l (rw f left))) (next i d);
        kept = λ i l d. stand.kept i l ((rest i d).0);
        most = λ i l d. ⊎_elim (λ (f : Done i). stand.most i l f)
            (λ (f : i ≡ k). let g : p i ≡ i = rw f e in let h = no_difference (at old i) (at old (p i)) (ap (at old) (sym g)) in omega (arith, h)) (next i d);
        least = stand.least;
      }

      -- it gets its value
      pub stand_moves : (v m : ℕ) → length cells ≡ length old → k < length old → v ≡ at old (p k) → m ≡ max moved (difference (at old k) v) → Stand p old (set cells k v) m Next Rest
      stand_moves v m size low e f =
          let there : k < length cells = omega arith in
          let same : difference (at old k) v ≡ moves p old k = ap (difference (at old k)) e in
          record {
            made = λ i l d. ⊎_elim
                (λ (g : Done i). ⊎_elim (λ (a : i < k). get_or-set_other cells k i v 0 (omega arith) ∙ stand.made i l g)
                (λ (a : k ≤ i). ⊎_elim (λ (b : k < i). get_or-set_other cells k i v 0 (omega arith) ∙ stand.made i l g)
                (λ (b : i ≤ k). let h : i ≡ k = omega arith in rw h (get_or-set_same cells k v 0 there ∙ e)) (cases_lt k i)) (cases_lt i k))
                (λ (h : i ≡ k). rw h (get_or-set_same cells k v 0 there ∙ e)) (next i d);
            kept = λ i l d. let r = rest i d in get_or-set_other cells k i v 0 (λ h. r.1 (omega arith)) ∙ stand.kept i l r.0;
            most = λ i l d. ⊎_elim (λ (g : Done i). let a = stand.most i l g in omega (arith, a, f)) (λ (h : i ≡ k). rw h (omega (arith, same, f))) (next i d);
            least = let a = below_largest (length old) (moves p old) k low in let b = stand.least in omega (arith, a, b, same, f);
          }

    -- at the end each cell is done, or stays
    pub stand_last : length cells ≡ length old → ((i : ℕ) → i < length old → (Done i) ⊎ ((Left i) × (p i ≡ i))) →
        (cells ≡ cells_of (length old) (λ k. at old (p k))) × (moved ≡ moved_amount old cells)
    stand_last size all =
        let cell : (i : ℕ) → i < length old → get_or cells i 0 ≡ at old (p i) = λ i l. ⊎_elim (λ (d : Done i). stand.made i l d)
        (λ (d : (Left i) × (p i ≡ i)). stand.kept i l d.0 ∙ ap (at old) (sym d.1)) (all i l) in
        let same : largest (length old) (moves p old) ≡ moved_amount old cells = largest_same (length old) (moves p old) (λ k. difference (at old k) (at cells k))
        (λ k l. ap (difference (at old k)) (sym (cell k l) ∙ get_or_default cells k 0 (last cells) (omega arith))) in
        let most : (i : ℕ) → i < length old → moves p old i ≤ moved = λ i l. ⊎_elim (λ (d : Done i). stand.most i l d)
        (λ (d : (Left i) × (p i ≡ i)). let h = no_difference (at old i) (at old (p i)) (ap (at old) (sym d.1)) in omega (arith, h)) (all i l) in
        let a = largest_below (length old) (moves p old) moved most in
        let b = stand.least in
        (fill_by_all (λ k. at old (p k)) cells (length old) 0 size cell, omega (arith, a, b, same))

-- how far the places beside k are past a multiple of w
pub next_past : (k w past : ℕ) → past ≡ k % w → (past + 1) % w ≡ (k + 1) % w
next_past k w past e = ap (λ n. (n + 1) % w) e ∙ mod-add-mod k w 1

pub before_past : (k w past : ℕ) → 0 < k → 0 < w → past ≡ k % w → (past + (w - 1)) % w ≡ (k - 1) % w
before_past k w past some whole e =
    let f : k + (w - 1) ≡ (k - 1) + w = omega arith in
    ap (λ n. (n + (w - 1)) % w) e ∙ mod-add-mod k w (w - 1) ∙ ap (λ n. n % w) f ∙ add-mod_right (k - 1) w
