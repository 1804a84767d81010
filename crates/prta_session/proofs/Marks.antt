-- Marks of fresh tasks, and the numbers that are kept beside them.
use Rattle.std.proofs.Common.{◌≡◌, ◌≢◌, ℕ, zero, suc, ◌+◌, ◌-◌, ◌<◌, ◌≤◌, Bool, true, false, cond, not, ◌&&◌, List, [], ◌∷◌, ◌++◌, Vec, filter, length, get_or, set, ap, ap₂, sym, ◌∙◌, subst, arith, ⊎_elim, append-nil}
use Rattle.std.specs.declared.alloc.Global.{Global}
use Rattle.std.specs.List.{range_with_len}
use Rattle.std.proofs.lemmas.Bool.{cases_eq}
use Rattle.std.proofs.lemmas.List.{map-id, length-set, length-append, get_or-set_same, get_or-set_other}
use Rattle.std.proofs.lemmas.List.FromFn.{filter_of_map_range_with_len_more, fill_by_all, length-map-range_with_len}
use Rattle.prta_sheet.specs.declared.edit.Edit.{Edit}
use Rattle.prta_sheet.specs.Sheet.{Sheet}
use Rattle.prta_sheet.specs.Edits.{edited}
use Rattle.prta_sheet.specs.Counts.{job_count}
use Rattle.prta_backlog.specs.Level.{sheet_level}
use Rattle.prta_dual.specs.declared.bounds.Bounds.{Bounds}
use Rattle.prta_dual.specs.Numbers.{bounds_of, all_bounds}
use Rattle.prta_session.specs.State.{SessionState, flags, is_fresh, makes_stale, session_edited, refreshed}
use Rattle.prta_session.specs.Kept.{is_marked, unmarked, IsPlace, AreKept}

-- marks are known by each of them
pub marks_are : (fresh : List Bool) (n : ℕ) (f : ℕ → Bool) → length fresh ≡ n → ((i : ℕ) → i < n → is_marked fresh i ≡ f i) → fresh ≡ flags n f
marks_are fresh n f size each = fill_by_all f fresh n false size each

-- the state of a session whose sheet and marks are these; `written` is how a list of marks is seen after a write
pub edited_state : (e : Edit) (s t : SessionState) (sheet : Sheet) (written fresh : List Bool) → s ≡ t → sheet ≡ edited e s.sheet → written ≡ fresh →
    length fresh ≡ length s.sheet.tasks → ((i : ℕ) → i < length s.sheet.tasks → is_marked fresh i ≡ (is_fresh s i && not (makes_stale e i))) →
    record { sheet = sheet; fresh = written } ≡ session_edited e t
edited_state e s t sheet written fresh same made seen size each =
    ap₂ (λ (sheet : Sheet) (fresh : List Bool). record { sheet = sheet; fresh = fresh }) made (seen ∙ marks_are fresh (length s.sheet.tasks) _ size each)
    ∙ ap (session_edited e) same

pub refreshed_state : (s t : SessionState) (written fresh : List Bool) → s ≡ t → written ≡ fresh →
    length fresh ≡ length s.sheet.tasks → ((i : ℕ) → i < length s.sheet.tasks → is_marked fresh i ≡ true) →
    record { sheet = s.sheet; fresh = written } ≡ refreshed t
refreshed_state s t written fresh same seen size each =
    ap (λ (fresh : List Bool). record { sheet = s.sheet; fresh = fresh }) (seen ∙ marks_are fresh (length s.sheet.tasks) _ size each) ∙ ap refreshed same

-- ---- the tasks that aren't marked

pub unmarked_more : (fresh : List Bool) (n : ℕ) → unmarked fresh (n + 1) ≡ unmarked fresh n ++ cond (not (is_marked fresh n)) (n ∷ []) []
unmarked_more fresh n =
    let p : ℕ → Bool = λ task. not (is_marked fresh task) in
    sym (ap (filter p) (map-id (range_with_len 0 (n + 1))))
    ∙ filter_of_map_range_with_len_more p (λ (task : ℕ). task) 0 n n (omega arith)
    ∙ ap (λ (tasks : List ℕ). filter p tasks ++ cond (p n) (n ∷ []) []) (map-id (range_with_len 0 n))

unmarked_grow : (fresh : List Bool) (n k : ℕ) → length (unmarked fresh n) ≤ length (unmarked fresh (n + k))
unmarked_grow fresh n zero = subst (λ m. length (unmarked fresh n) ≤ length (unmarked fresh m)) (let e : n ≡ n + 0 = omega arith in e) (omega arith)
unmarked_grow fresh n (suc k) =
    let more : unmarked fresh (n + k + 1) ≡ unmarked fresh (n + k) ++ cond (not (is_marked fresh (n + k))) ((n + k) ∷ []) [] = unmarked_more fresh (n + k) in
    let same : n + k + 1 ≡ n + suc k = omega arith in
    subst (λ m. length (unmarked fresh n) ≤ length (unmarked fresh m)) same
    (omega (arith, unmarked_grow fresh n k, ap length more, length-append (unmarked fresh (n + k)) (cond (not (is_marked fresh (n + k))) ((n + k) ∷ []) [])))

pub unmarked_low : (fresh : List Bool) (n m : ℕ) → n ≤ m → length (unmarked fresh n) ≤ length (unmarked fresh m)
unmarked_low fresh n m low =
    let same : n + (m - n) ≡ m = omega arith in
    subst (λ k. length (unmarked fresh n) ≤ length (unmarked fresh k)) same (unmarked_grow fresh n (m - n))

-- a task that isn't marked is one of them
pub unmarked_with : (fresh : List Bool) (n : ℕ) → is_marked fresh n ≡ false → unmarked fresh (n + 1) ≡ unmarked fresh n ++ n ∷ []
unmarked_with fresh n e = unmarked_more fresh n ∙ ap (λ b. unmarked fresh n ++ cond (not b) (n ∷ []) []) e

pub unmarked_without : (fresh : List Bool) (n : ℕ) → is_marked fresh n ≡ true → unmarked fresh (n + 1) ≡ unmarked fresh n
unmarked_without fresh n e = unmarked_more fresh n ∙ ap (λ b. unmarked fresh n ++ cond (not b) (n ∷ []) []) e ∙ append-nil (unmarked fresh n)

-- ---- a task is analysed and marked

pub marked_so_far : (fresh : List Bool) (n : ℕ) → n < length fresh → ((i : ℕ) → i < n → is_marked fresh i ≡ true) → (i : ℕ) → i < n + 1 → is_marked (set fresh n true) i ≡ true
marked_so_far fresh n low marked i within =
    ⊎_elim
    (λ (same : i ≡ n). ap (is_marked (set fresh n true)) same ∙ get_or-set_same fresh n true false low)
    (λ (other : i ≡ n → ⊥). get_or-set_other fresh n i true false other ∙ marked i (omega (arith, other)))
    (cases_eq i n)

pub marked_with : (fresh : List Bool) (n : ℕ) → is_marked fresh n ≡ true → ((i : ℕ) → i < n → is_marked fresh i ≡ true) → (i : ℕ) → i < n + 1 → is_marked fresh i ≡ true
marked_with fresh n last marked i within =
    ⊎_elim (λ (same : i ≡ n). ap (is_marked fresh) same ∙ last) (λ (other : i ≡ n → ⊥). marked i (omega (arith, other))) (cases_eq i n)

pub marked_later : (fresh : List Bool) (n i : ℕ) → n + 1 ≤ i → is_marked (set fresh n true) i ≡ is_marked fresh i
marked_later fresh n i later = get_or-set_other fresh n i true false (λ e. absurd (omega arith))

module _ (sheet : Sheet) where
  pub count_of_all : (task : ℕ) → length (all_bounds sheet (sheet_level task)) ≡ job_count sheet task
  count_of_all task = length-map-range_with_len (bounds_of sheet (sheet_level task)) 0 (job_count sheet task)

  pub kept_with : (fresh : List Bool) (found : List (Vec Bounds Global)) (n : ℕ) (bounds : Vec Bounds Global) → AreKept sheet fresh found → n < length found →
      bounds.items ≡ all_bounds sheet (sheet_level n) → AreKept sheet (set fresh n true) (set found n bounds)
  kept_with fresh found n bounds kept low new = record {
    marks = length-set fresh n true ∙ kept.marks;
    count = length-set found n bounds ∙ kept.count;
    each = λ i d within. ⊎_elim
        (λ (same : i ≡ n). subst (λ i. IsPlace sheet i (is_marked (set fresh n true) i) (get_or (set found n bounds) i d).items) (sym same) (here d))
        (λ (other : i ≡ n → ⊥). elsewhere i d other (omega (arith, within, length-set found n bounds)))
        (cases_eq i n);
  }
    where
      here : (d : Vec Bounds Global) → IsPlace sheet n (is_marked (set fresh n true) n) (get_or (set found n bounds) n d).items
      here d =
          let is : get_or (set found n bounds) n d ≡ bounds = get_or-set_same found n bounds d low in
          rw is (record { size = ap length new ∙ count_of_all n; numbers = λ e. new })

      elsewhere : (i : ℕ) (d : Vec Bounds Global) → i ≢ n → i < length found → IsPlace sheet i (is_marked (set fresh n true) i) (get_or (set found n bounds) i d).items
      elsewhere i d other within =
          let place : IsPlace sheet i (is_marked fresh i) (get_or found i d).items = kept.each i d within in
          rw (get_or-set_other fresh n i true false other, get_or-set_other found n i bounds d other) place
