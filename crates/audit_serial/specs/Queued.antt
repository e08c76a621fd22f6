-- What is kept of the pending sequences.
use Rattle.std.specs.Prelude.{ℕ, ◌≤◌, List, if◌then◌else◌}
use Rattle.spi_machine.specs.Pending.{Pending, is_of, starts, cancels, goes_to_next}
use Rattle.audit_serial.specs.declared.queue.Change.{Change}
use Rattle.audit_serial.specs.declared.queue.Change.TheVariants as code

-- The entries, how many requests there were, and how many times they changed.
pub record QueueKept : Type 0 where
  pub entries : List Pending
  pub requests : ℕ
  pub events : ℕ

-- the place of its job is within the changes
abbrev pub IsWithin : (events : ℕ) → Pending → Type 0
IsWithin events p = p.next ≤ events

abbrev pub change_as : Change → Pending → Pending
change_as code.Starts p = starts p
change_as code.Cancels p = cancels p
change_as code.GoesOn p = goes_to_next p

-- an entry after something happened to a sequence
abbrev pub changed_by : (sequence : ℕ) → Change → Pending → Pending
changed_by q by p = if is_of q p then change_as by p else p
