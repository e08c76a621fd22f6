-- A call of the bench as it is seen from outside: what its words ask for, what became of its source, of its sink and of the
-- devices, and how it came out.
use Rattle.std.specs.Prelude.{ℕ, List, Option}
use Rattle.std.specs.Io.KnownBytes.{Appends}
use Rattle.mcal_base.specs.Causes.{Rose}
use Rattle.serial_devices.specs.Lines.{Line}
use Rattle.bench_top.specs.declared.top.Outcome.{Outcome}
use Rattle.bench_top.specs.declared.words.Form.{Form}

-- A source or a sink, before the call and after it: the bytes that it has left or has taken, where it tells them, and how
-- many faults it has met.
pub record Stream : Type 0 where
  pub before : Option (List ℕ)
  pub after : Option (List ℕ)
  pub faults_before : ℕ
  pub faults_after : ℕ

-- a source or a sink, by what tells its bytes and its faults
abbrev pub stream_of : {A : Type 0} → (A → Option (List ℕ)) → (A → ℕ) → (old new : A) → Stream
stream_of bytes faults old new = record { before = bytes old; after = bytes new; faults_before = faults old; faults_after = faults new }

-- it met a fault
abbrev pub MeetsFault : Stream → Type 0
MeetsFault stream = Rose stream.faults_before stream.faults_after

-- a text was written, and no more
abbrev pub Writes : Stream → List ℕ → Type 0
Writes sink text = Appends sink.before sink.after text

-- A call: each device has a line in the order of the rack.
pub record Call : Type 0 where
  pub form : Option Form
  pub source : Stream
  pub sink : Stream
  pub devices : ℕ
  pub lines_before : List Line
  pub lines_after : List Line
  pub outcome : Outcome
