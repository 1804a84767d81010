-- The rows of a task, by the numbers of its jobs.
use Rattle.std.proofs.Common.{◌≡◌, ℕ, Option, ◌+◌, ◌≤◌, ◌<◌, ◌++◌, List, [], ◌∷◌, length, map, take, drop, flat_map, get_or, refl, ap, sym, ◌∙◌, subst, append_assoc, arith}
use Rattle.std.specs.List.{range_with_len}
use Rattle.std.proofs.lemmas.List.{take-append-drop, map-id}
use Rattle.std.proofs.lemmas.Grind.{flat_map-append}
use Rattle.std.proofs.lemmas.List.FromFn.{get_or-map-range_with_len, length-map-range_with_len, take-map-range_with_len}
use Rattle.prta_mass.specs.Unit.{unit}
use Rattle.prta_sheet.specs.Sheet.{Sheet}
use Rattle.prta_sheet.specs.Job.{Job, nth_job}
use Rattle.prta_sheet.specs.Counts.{job_count}
use Rattle.prta_backlog.specs.Level.{Level}
use Rattle.prta_backlog.specs.Room.{own_jobs}
use Rattle.prta_dual.specs.declared.bounds.Bounds.{Bounds}
use Rattle.prta_dual.specs.Numbers.{bounds_of, all_bounds}
use Rattle.prta_writer.specs.declared.rows.JobLine.{JobLine}
use Rattle.prta_writer.specs.Rows.{line_at}
use Rattle.prta_writer.specs.Writing.{TookPart, TookAllBut}
use Rattle.prta_writer.proofs.Taking.{more_put, longer, part_then, part_of_more}
use Rattle.prta_report.proofs.Lines.{lines_more}

-- the line of a job, by its number
abbrev pub job_row : JobLine → Sheet → ℕ → ℕ → List ℕ
job_row line sheet i n = line_at line sheet (nth_job sheet.tasks i n)

flat_map-of-map : {X Y : Type 0} (f : Y → List ℕ) (g : X → Y) (xs : List X) → flat_map f (map g xs) ≡ flat_map (λ x. f (g x)) xs
flat_map-of-map f g [] = refl
flat_map-of-map f g (x ∷ xs) = ap (λ rest. f (g x) ++ rest) (flat_map-of-map f g xs)

-- a task's jobs in turn, and their rows
abbrev pub InTurn : Sheet → ℕ → Type 0
InTurn sheet i = own_jobs sheet i ≡ map (nth_job sheet.tasks i) (range_with_len 0 (job_count sheet i))

pub rows_in_turn : (f : Job → List ℕ) (sheet : Sheet) (i : ℕ) → InTurn sheet i →
    flat_map f (own_jobs sheet i) ≡ flat_map (λ n. f (nth_job sheet.tasks i n)) (range_with_len 0 (job_count sheet i))
rows_in_turn f sheet i e = ap (flat_map f) e ∙ flat_map-of-map f (nth_job sheet.tasks i) (range_with_len 0 (job_count sheet i))

-- ---- the numbers that were found

pub count_found : (sheet : Sheet) (level : Level) (found : List Bounds) → found ≡ all_bounds sheet level → length found ≡ job_count sheet level.own
count_found sheet level found e = ap length e ∙ length-map-range_with_len (bounds_of sheet level) 0 (job_count sheet level.own)

-- none is more than the unit
pub low_bounds : (sheet : Sheet) (level : Level) (n : ℕ) → ((bounds_of sheet level n).lower ≤ unit) × ((bounds_of sheet level n).upper ≤ unit)
low_bounds sheet level n = (omega arith, omega arith)

-- those of a job
pub bounds_at : (sheet : Sheet) (level : Level) (found : List Bounds) (n : ℕ) (d : Bounds) → found ≡ all_bounds sheet level → n < job_count sheet level.own → get_or found n d ≡ bounds_of sheet level n
bounds_at sheet level found n d e l = ap (λ xs. get_or xs n d) e ∙ get_or-map-range_with_len (bounds_of sheet level) 0 (job_count sheet level.own) n n d l (omega arith)

-- ---- writing them

-- the rows of the numbers from one on
rows_from : (row : ℕ → List ℕ) (n N : ℕ) → n ≤ N → flat_map row (range_with_len 0 N) ≡ flat_map row (range_with_len 0 n) ++ flat_map row (drop n (range_with_len 0 N))
rows_from row n N l =
    ap (flat_map row) (sym (take-append-drop n (range_with_len 0 N))) ∙ flat_map-append row (take n (range_with_len 0 N)) (drop n (range_with_len 0 N))
    ∙ ap (λ xs. flat_map row xs ++ flat_map row (drop n (range_with_len 0 N))) (take_range n N l)
  where
    take_range : (n N : ℕ) → n ≤ N → take n (range_with_len 0 N) ≡ range_with_len 0 n
    take_range n N l = ap (take n) (sym (map-id (range_with_len 0 N))) ∙ take-map-range_with_len (λ k. k) 0 N n l ∙ map-id (range_with_len 0 n)

-- where the page fails, a part of the text was put, whatever comes after it
pub cut_short : (a b c : Option (List ℕ)) (t rest p : List ℕ) → TookAllBut a b t p → TookPart b c p → TookPart a c (t ++ rest)
cut_short a b c t rest p h k = part_of_more a c t rest (part_then a b c t p h k)

module _ (a b c : Option (List ℕ)) (start : List ℕ) (row : ℕ → List ℕ) (n : ℕ) (p : List ℕ) (so_far : TookAllBut a b (start ++ flat_map row (range_with_len 0 n)) p) where
  one_more : (start ++ flat_map row (range_with_len 0 n)) ++ row n ≡ start ++ flat_map row (range_with_len 0 (n + 1))
  one_more = append_assoc start (flat_map row (range_with_len 0 n)) (row n) ∙ ap (λ t. start ++ t) (sym (lines_more row n))

  -- the next row was written
  pub row_more : (q : List ℕ) → TookAllBut b c (p ++ row n) q → TookAllBut a c (start ++ flat_map row (range_with_len 0 (n + 1))) q
  row_more q k = subst (λ t. TookAllBut a c t q) one_more (more_put a b c _ (p ++ row n) q (longer a b _ p (row n) so_far) k)

  -- room was made for it, and it was pushed
  pub row_pushed : (q r : List ℕ) → TookAllBut b c p q → r ≡ q ++ row n → TookAllBut a c (start ++ flat_map row (range_with_len 0 (n + 1))) r
  row_pushed q r k e = row_more r (subst (λ x. TookAllBut b c (p ++ row n) x) (sym e) (longer b c p q (row n) k))

  -- it was not
  pub row_cut : (N : ℕ) → n ≤ N → TookPart b c p → TookPart a c (start ++ flat_map row (range_with_len 0 N))
  row_cut N l k =
      subst (λ t. TookPart a c t) (append_assoc start (flat_map row (range_with_len 0 n)) _ ∙ ap (λ t. start ++ t) (sym (rows_from row n N l)))
      (cut_short a b c (start ++ flat_map row (range_with_len 0 n)) (flat_map row (drop n (range_with_len 0 N))) p so_far k)

  -- it was in part
  pub row_in_part : (N : ℕ) → n < N → TookPart b c (p ++ row n) → TookPart a c (start ++ flat_map row (range_with_len 0 N))
  row_in_part N l k =
      subst (λ t. TookPart a c t) (append_assoc start (flat_map row (range_with_len 0 (n + 1))) _ ∙ ap (λ t. start ++ t) (sym (rows_from row (n + 1) N (omega (arith, l)))))
      (part_of_more a c (start ++ flat_map row (range_with_len 0 (n + 1))) (flat_map row (drop (n + 1) (range_with_len 0 N)))
      (subst (λ t. TookPart a c t) one_more (part_then a b c _ (p ++ row n) (longer a b _ p (row n) so_far) k)))
