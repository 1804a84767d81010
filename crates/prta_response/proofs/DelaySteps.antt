-- The delays of a response run, job by job.
use Rattle.std.proofs.Common.{◌≡◌, ℕ, ◌+◌, ◌-◌, ◌≤◌, Option, List, [], ◌∷◌, ◌++◌, length, length-append, append-nil, append_assoc, refl, ap, ap₂, sym, ◌∙◌, subst, arith}
use Rattle.std.proofs.lemmas.List.Sums.{fold-append, sum_by-cons}
use Rattle.prta_mass.specs.Table.{Table}
use Rattle.prta_mass.specs.declared.direction.Dir.{Dir}
use Rattle.prta_sheet.specs.Job.{Job}
use Rattle.prta_preempt.specs.Delay.{delayed}
use Rattle.prta_ledger.specs.declared.entry.Entry.{Entry}
use Rattle.prta_ledger.specs.Noted.{appended}
use Rattle.prta_backlog.specs.Entries.{Operation, entries_of}
use Rattle.prta_backlog.specs.AreNoted.{AreNoted}
use Rattle.prta_backlog.proofs.Notes.{amount_count, length-noted}
use Rattle.prta_backlog.proofs.Additions.{noted_none, noted_one, noted_then}
use Rattle.prta_response.specs.Response.{all_delayed}
use Rattle.prta_response.specs.Delays.{delay_operation, delays}

-- the cells were delayed by some jobs, as operations from one more than made on
pub record AreDelayed (dir : Dir) (task number made : ℕ) (table : Job → Table) (r : ℕ) (jobs : List Job) (cells_before : List ℕ) (noted_before : Option (List Entry)) (room_before : ℕ)
    (cells_now : List ℕ) (noted_now : Option (List Entry)) (room_now op : ℕ) : Type 0 where
  pub cells : cells_now ≡ all_delayed dir table r jobs cells_before
  pub count : op ≡ made + length jobs
  pub notes : AreNoted dir task number (1 + made) (delays dir table r jobs cells_before) noted_before room_before noted_now room_now

module _ (dir : Dir) (table : Job → Table) (r : ℕ) where
  delays-append : (jobs others : List Job) (cells : List ℕ) → delays dir table r (jobs ++ others) cells ≡ delays dir table r jobs cells ++ delays dir table r others (all_delayed dir table r jobs cells)
  delays-append [] others cells = refl
  delays-append (job ∷ jobs) others cells =
      ap (λ ops. delay_operation (table job) (job.release - r) cells ∷ ops) (delays-append jobs others (delayed dir (table job) (job.release - r) cells))

  length-delays : (jobs : List Job) (cells : List ℕ) → length (delays dir table r jobs cells) ≡ length jobs
  length-delays [] cells = refl
  length-delays (job ∷ jobs) cells = omega (arith, length-delays jobs (delayed dir (table job) (job.release - r) cells))

  -- one entry for each at most
  count_delays : (jobs : List Job) (cells : List ℕ) → amount_count (delays dir table r jobs cells) ≡ length jobs
  count_delays [] cells = refl
  count_delays (job ∷ jobs) cells =
      let rest : List Operation = delays dir table r jobs (delayed dir (table job) (job.release - r) cells) in
      omega (arith, sum_by-cons (λ (op : Operation). length op) (delay_operation (table job) (job.release - r) cells) rest, count_delays jobs (delayed dir (table job) (job.release - r) cells))

module _ {dir : Dir} {table : Job → Table} {r task number made : ℕ} {before : List ℕ} {noted_before : Option (List Entry)} {room_before : ℕ} where
  pub delayed_none : AreDelayed dir task number made table r [] before noted_before room_before before noted_before room_before made
  delayed_none = record { cells = refl; count = omega arith; notes = noted_none dir task number (1 + made) noted_before room_before }

  -- some, and then others
  pub delayed_then : {jobs others all : List Job} {cells cells' : List ℕ} {now now' : Option (List Entry)} {room room' op op' : ℕ} → all ≡ jobs ++ others →
      AreDelayed dir task number made table r jobs before noted_before room_before cells now room op →
      AreDelayed dir task number op table r others cells now room cells' now' room' op' →
      AreDelayed dir task number made table r all before noted_before room_before cells' now' room' op'
  delayed_then {jobs} {others} {all} {cells} {cells'} {now} {now'} {room} {room'} {op} {op'} both first second =
      let ops : List Operation = delays dir table r jobs before in
      let here : 1 + op ≡ 1 + made + length ops = omega (arith, first.count, length-delays dir table r jobs before) in
      let notes : AreNoted dir task number (1 + made) (ops ++ delays dir table r others cells) noted_before room_before now' room' =
      noted_then dir task number (1 + made) ops (delays dir table r others cells) noted_before room_before now room now' room' (1 + op) first.notes here second.notes in
      let joined : ops ++ delays dir table r others cells ≡ delays dir table r all before =
      ap (λ c. ops ++ delays dir table r others c) first.cells ∙ sym (delays-append dir table r jobs others before) ∙ ap (λ js. delays dir table r js before) (sym both) in
      record {
        cells = second.cells ∙ ap (all_delayed dir table r others) first.cells ∙ sym (fold-append (λ c (job : Job). delayed dir (table job) (job.release - r) c) before jobs others)
            ∙ ap (λ js. all_delayed dir table r js before) (sym both);
        count = omega (arith, first.count, second.count, ap length both, length-append jobs others);
        notes = subst (λ os. AreNoted dir task number (1 + made) os noted_before room_before now' room') joined notes;
      }

  -- one, with its table and its release
  pub delayed_one : {job : Job} {times : Table} {cells : List ℕ} {now : Option (List Entry)} {room at : ℕ} → times ≡ table job → at ≡ job.release →
      cells ≡ delayed dir times (at - r) before →
      now ≡ appended noted_before (entries_of dir task number (made + 1) (delay_operation times (at - r) before)) →
      room_before ≤ room + length (entries_of dir task number (made + 1) (delay_operation times (at - r) before)) →
      AreDelayed dir task number made table r (job ∷ []) before noted_before room_before cells now room (made + 1)
  delayed_one {job} {times} {cells} {now} {room} {at} own then cells_are entries_are room_is =
      let op : Operation = delay_operation times (at - r) before in
      let next : made + 1 ≡ 1 + made = omega arith in
      let one : AreNoted dir task number (1 + made) (op ∷ []) noted_before room_before now room =
      subst (λ n. AreNoted dir task number n (op ∷ []) noted_before room_before now room) next (noted_one dir task number (made + 1) op noted_before room_before now room entries_are room_is) in
      record {
        cells = cells_are ∙ ap₂ (λ t n. delayed dir t (n - r) before) own then;
        count = omega arith;
        notes = subst (λ (o : Operation). AreNoted dir task number (1 + made) (o ∷ []) noted_before room_before now room) (ap₂ (λ t n. delay_operation t (n - r) before) own then) one;
      }

  -- with equal parts
  pub delayed_same : {jobs jobs' : List Job} {cells cells' : List ℕ} {now now' : Option (List Entry)} {room room' op op' : ℕ} →
      jobs' ≡ jobs → cells' ≡ cells → now' ≡ now → room' ≡ room → op' ≡ op →
      AreDelayed dir task number made table r jobs before noted_before room_before cells now room op →
      AreDelayed dir task number made table r jobs' before noted_before room_before cells' now' room' op'
  delayed_same {jobs} {jobs'} {cells} {cells'} {now} {now'} {room} {room'} {op} {op'} a b c d e is = record {
    cells = b ∙ is.cells ∙ ap (λ js. all_delayed dir table r js before) (sym a);
    count = omega (arith, e, is.count, ap length a);
    notes = subst (λ js. AreNoted dir task number (1 + made) (delays dir table r js before) noted_before room_before now' room') (sym a)
        (record { entries = c ∙ is.notes.entries; room = omega (arith, d, is.notes.room) });
  }

  pub delayed_room : {jobs : List Job} {cells : List ℕ} {now : Option (List Entry)} {room op : ℕ} → AreDelayed dir task number made table r jobs before noted_before room_before cells now room op →
      room_before ≤ room + length jobs
  delayed_room {jobs} is = omega (arith, is.notes.room, length-noted dir task number (1 + made) (delays dir table r jobs before), count_delays dir table r jobs before)

-- there is room for one more where there was for all, and its number is among theirs
pub record HasNext (count room_before room op : ℕ) : Type 0 where
  pub free : count ≤ room_before → 1 ≤ room
  pub listed : op + 1 ≤ count

-- of all delays some are made, and the others are still to come
pub record AreDelayedFirst (dir : Dir) (task number : ℕ) (table : Job → Table) (r : ℕ) (all rest : List Job) (cells_before : List ℕ) (noted_before : Option (List Entry)) (room_before : ℕ)
    (cells_now : List ℕ) (noted_now : Option (List Entry)) (room_now op : ℕ) : Type 0 where
  pub done : List Job
  pub split : all ≡ done ++ rest
  pub steps : AreDelayed dir task number 0 table r done cells_before noted_before room_before cells_now noted_now room_now op

module _ {dir : Dir} {task number : ℕ} {table : Job → Table} {r : ℕ} {all : List Job} {before : List ℕ} {noted_before : Option (List Entry)} {room_before : ℕ} where
  pub first_none : {rest : List Job} → rest ≡ all → AreDelayedFirst dir task number table r all rest before noted_before room_before before noted_before room_before 0
  first_none same = record { done = []; split = sym same; steps = delayed_none }

  pub first_more : {job : Job} {jobs rest : List Job} {cells cells' : List ℕ} {now now' : Option (List Entry)} {room room' op op' : ℕ} → rest ≡ job ∷ jobs →
      AreDelayed dir task number op table r (job ∷ []) cells now room cells' now' room' op' →
      AreDelayedFirst dir task number table r all rest before noted_before room_before cells now room op →
      AreDelayedFirst dir task number table r all jobs before noted_before room_before cells' now' room' op'
  first_more {job} {jobs} next step so_far = record {
    done = so_far.done ++ job ∷ [];
    split = so_far.split ∙ ap (λ js. so_far.done ++ js) next ∙ sym (append_assoc so_far.done (job ∷ []) jobs);
    steps = delayed_then refl so_far.steps step;
  }

  pub first_all : {rest : List Job} {cells : List ℕ} {now : Option (List Entry)} {room op : ℕ} → rest ≡ [] →
      AreDelayedFirst dir task number table r all rest before noted_before room_before cells now room op →
      AreDelayed dir task number 0 table r all before noted_before room_before cells now room op
  first_all none so_far = delayed_same (so_far.split ∙ ap (λ js. so_far.done ++ js) none ∙ append-nil so_far.done) refl refl refl refl so_far.steps

  pub first_next : {job : Job} {jobs rest : List Job} {cells : List ℕ} {now : Option (List Entry)} {room op : ℕ} → rest ≡ job ∷ jobs →
      AreDelayedFirst dir task number table r all rest before noted_before room_before cells now room op → HasNext (length all) room_before room op
  first_next {job} {jobs} {rest} next so_far =
      let parts : length all ≡ length so_far.done + length rest = ap length so_far.split ∙ length-append so_far.done rest in
      let more : length rest ≡ length jobs + 1 = ap length next ∙ omega arith in
      record {
        free = λ enough. omega (arith, parts, more, delayed_room so_far.steps);
        listed = omega (arith, parts, more, so_far.steps.count);
      }
