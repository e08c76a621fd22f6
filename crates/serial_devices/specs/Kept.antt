-- Devices in memory: what they answer, and what an exchange leaves of them.
use Rattle.std.specs.Prelude.{ℕ, ◌-◌, Bool, if◌then◌else◌, List, [], ◌∷◌, ◌++◌, Some}
use Rattle.mcal_base.specs.Faults.{Filling, sink_faults, write_fails, after_write}
use Rattle.serial_devices.specs.Lines.{Line}

-- What a device answers by: whether it is an echo, and the word that was sent before.
pub record Answering : Type 0 where
  pub echo : Bool
  pub before : ℕ

-- the answer to a word: its complement, or an echo's word before
abbrev pub answer_by : (echo : Bool) → (before out : ℕ) → ℕ
answer_by echo before out = if echo then before else 65535 - out

-- One that keeps its pairs, and the calls that it counted: a sink counts them, and takes a byte for each pair.
pub record Keeping : Type 0 where
  pub echo : Bool
  pub before : ℕ
  pub pairs : List (ℕ × ℕ)
  pub calls : Filling

-- its count of faults is the sink's, and it tells its pairs
abbrev pub device_line : Keeping → Line
device_line d = record { faults = sink_faults d.calls; pairs = Some d.pairs }

-- a new one, with this room, whose calls with these numbers fail
abbrev pub kept_new : (echo : Bool) → (room : ℕ) → (failing : List ℕ) → Keeping
kept_new echo room failing = record { echo = echo; before = 0; pairs = []; calls = record { taken = []; most = 1; room = room; failing = failing; calls = 0; full = 0 } }

-- what it answers to a word
abbrev pub answer_of : Keeping → (out : ℕ) → ℕ
answer_of d out = answer_by d.echo d.before out

-- it after an exchange of a word: the call is counted, and one that fails leaves the rest
abbrev pub after_exchange : Keeping → (out : ℕ) → Keeping
after_exchange d out = record {
  echo = d.echo;
  before = if write_fails d.calls then d.before else out;
  pairs = if write_fails d.calls then d.pairs else d.pairs ++ (out, answer_of d out) ∷ [];
  calls = after_write d.calls (0 ∷ []);
}
