-- States, and what is drawn one by one.
use Rattle.std.proofs.Common.{◌≡◌, ℕ, suc, ◌+◌, ◌-◌, ◌*◌, ◌/◌, ◌<◌, List, [], ◌∷◌, ◌++◌, ap, ap₂, sym, ◌∙◌, append_assoc, arith}
use Rattle.std.proofs.Math.Nat.{mod-lt}
use Rattle.prta_mass.specs.Table.{Table}
use Rattle.prta_sheet.specs.Sheet.{Task}
use Rattle.prta_gen.specs.Generator.{next_state, drawn, state_after, points_from, drawn_count, drawn_task, after_task, drawn_tasks}

pub drawn_below : (n x : ℕ) → 0 < n → drawn n x < n
drawn_below n x some = mod-lt (x / 65536) some

-- one point more: what is left from the states x, y and z on
module _ (count i x y z : ℕ) (low : i < count) (first : y ≡ next_state x) (second : z ≡ next_state y) where
  pub state_step : state_after (2 * (count - (i + 1))) z ≡ state_after (2 * (count - i)) x
  state_step =
      let more : 2 * (count - i) ≡ suc (suc (2 * (count - (i + 1)))) = omega arith in
      ap (state_after (2 * (count - (i + 1)))) (second ∙ ap next_state first) ∙ sym (ap (λ k. state_after k x) more)

  pub points_step : (items new : Table) (time step weight : ℕ) → step ≡ drawn 3 y → weight ≡ drawn 100 z → new ≡ items ++ (time + (step + 1), weight + 1) ∷ [] →
      new ++ points_from (count - (i + 1)) (time + (step + 1)) z ≡ items ++ points_from (count - i) time x
  points_step items new time step weight s w e =
      let more : count - i ≡ suc (count - (i + 1)) = omega arith in
      rw (e, s, w, second, first, more) (append_assoc items _ _)

-- the state after a task: x before it, y after its period, z after its offset, v after its number of points, w after these
pub task_state : (x y z v w count : ℕ) → y ≡ next_state x → z ≡ next_state y → v ≡ next_state z → count ≡ drawn 19 v → w ≡ state_after (2 * (count + 2)) v → w ≡ after_task x
task_state x y z v w count first second third points last =
    let all : 3 + 2 * drawn_count x ≡ suc (suc (suc (2 * drawn_count x))) = omega arith in
    let before : v ≡ state_after 3 x = third ∙ ap next_state (second ∙ ap next_state first) in
    let size : count + 2 ≡ drawn_count x = ap (λ n. n + 2) (points ∙ ap (drawn 19) before) in
    last ∙ ap₂ (λ n s. state_after (2 * n) s) size before ∙ sym (ap (λ k. state_after k x) all)

-- one task of those that are left
pub tasks_step : (tasks new : List Task) (count i x y : ℕ) (task : Task) → i < count → task ≡ drawn_task i x → y ≡ after_task x → new ≡ tasks ++ task ∷ [] →
    new ++ drawn_tasks (i + 1) (count - (i + 1)) y ≡ tasks ++ drawn_tasks i (count - i) x
tasks_step tasks new count i x y task low here next e =
    let more : count - i ≡ suc (count - (i + 1)) = omega arith in
    rw (e, here, next, more) (append_assoc tasks _ _)
