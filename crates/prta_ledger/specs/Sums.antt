-- What a list of entries adds up to for a job.
use Rattle.std.specs.Prelude.{ℕ, Bool, ◌&&◌, nat_le, nat_eq, if◌then◌else◌, List, sum_by}
use Rattle.prta_ledger.specs.declared.entry.Entry.{Entry}
use Rattle.prta_ledger.specs.declared.entry.Kind.{Kind}
use Rattle.prta_ledger.specs.declared.entry.Kind.TheVariants.{Round, Cut, Resample, Delay}

-- by its kind and the job that it names: an entry of a level run counts for that job and the later ones, one of a delay for that job alone
abbrev pub reaches : Kind → ℕ → ℕ → Bool
reaches Round named job = nat_le named job
reaches Cut named job = nat_le named job
reaches Resample named job = nat_le named job
reaches Delay named job = nat_eq named job

-- an entry counts for a job of a task
abbrev pub counts_for : ℕ → ℕ → Entry → Bool
counts_for task job entry = nat_eq entry.task task && reaches entry.kind entry.job job

-- what an entry adds to the sum for a job
abbrev pub part_for : ℕ → ℕ → Entry → ℕ
part_for task job entry = if counts_for task job entry then entry.amount else 0

-- the sum for a job
abbrev pub sum_for : ℕ → ℕ → List Entry → ℕ
sum_for task job entries = sum_by (part_for task job) entries
