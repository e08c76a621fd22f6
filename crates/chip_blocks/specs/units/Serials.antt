-- The serial block: what each access, each word and the passing of time leave, and what each read gives.
use Rattle.std.specs.Prelude.{ℕ, ◌+◌, ◌-◌, ◌*◌, ◌%◌, ◌^◌, ◌≤◌, min, Bool, true, false, ◌&&◌, not, ◌==◌, nat_le, if◌then◌else◌, Option, Some, None, List, [], ◌∷◌, slice_index_or, slice_set}
use Rattle.mcal_base.specs.Bits.{bit_of}
use Rattle.mcal_base.specs.declared.register.Reg.{Reg}
use Rattle.mcal_base.specs.declared.register.Reg.TheVariants.{SerialSelect, SerialWidth, SerialReceived, SerialState, SerialWait, SerialAck}
use Rattle.chip_blocks.specs.declared.units.serial.Word.{Word}
use Rattle.chip_blocks.specs.declared.units.serial.Serial.{Serial}

-- The units by number, and the peripheral time.
pub record Serials : Type 0 where
  pub time : ℕ
  pub units : List Serial

-- ---- words

-- an incoming word that says that the device refused the exchange
abbrev pub refused : ℕ
refused = 65536

-- a word, masked by a width; a width above 16 counts as 16
abbrev pub masked : (width word : ℕ) → ℕ
masked width word = word % 2 ^ min width 16

-- a word takes 8 peripheral ticks
abbrev pub is_done_at : Word → ℕ → Bool
is_done_at w now = nat_le 8 (now - w.start)

-- ---- one unit

-- as after a reset
abbrev pub idle : Serial
idle = record { select = 0; width = 0; received = 0; word = None }

-- a word is in transfer
abbrev pub in_transfer : Option Word → ℕ → Bool
in_transfer None now = false
in_transfer (Some w) now = not (is_done_at w now)

abbrev pub is_busy : Serial → ℕ → Bool
is_busy s now = in_transfer s.word now

-- the peripheral ticks that the word in transfer still needs
abbrev pub left_at : Option Word → ℕ → ℕ
left_at None now = 0
left_at (Some w) now = 8 - (now - w.start)

abbrev pub left : Serial → ℕ → ℕ
left s now = left_at s.word now

-- a word has ended, and wasn't acknowledged
abbrev pub has_ended : Option Word → ℕ → Bool
has_ended None now = false
has_ended (Some w) now = is_done_at w now

abbrev pub is_done : Serial → ℕ → Bool
is_done s now = has_ended s.word now

-- and it failed
abbrev pub ended_failed : Option Word → ℕ → Bool
ended_failed None now = false
ended_failed (Some w) now = is_done_at w now && w.failed

abbrev pub is_failed : Serial → ℕ → Bool
is_failed s now = ended_failed s.word now

-- the last word that ended without failing: this one, or else an earlier one
abbrev pub last_received : Option Word → (earlier now : ℕ) → ℕ
last_received None earlier now = earlier
last_received (Some w) earlier now = if is_done_at w now && not w.failed then w.incoming else earlier

abbrev pub received : Serial → ℕ → ℕ
received s now = last_received s.word s.received now

-- busy, done and failed
abbrev pub state : Serial → ℕ → ℕ
state s now = bit_of (is_busy s now) + 2 * bit_of (is_done s now) + 4 * bit_of (is_failed s now)

-- a word begins; one that is still in transfer is dropped
abbrev pub begun : (incoming now : ℕ) → Serial → Serial
begun incoming now s =
    record s { received = received s now; word = Some (record { start = now; incoming = masked s.width incoming; failed = incoming == refused }) }

-- a word in transfer will end as failed
abbrev pub failing : Option Word → Option Word
failing None = None
failing (Some w) = Some (record w { failed = true })

abbrev pub faulted : ℕ → Serial → Serial
faulted now s = if is_busy s now then record s { word = failing s.word } else s

-- an acknowledgement clears done and failed
abbrev pub acknowledged : ℕ → Serial → Serial
acknowledged now s = if is_done s now then record s { received = received s now; word = None } else s

-- the word that is sent
abbrev pub outgoing : Serial → (sent : ℕ) → ℕ
outgoing s sent = masked s.width sent

-- its word began by now
abbrev pub HasBegun : (now : ℕ) → Option Word → Type 0
HasBegun now None = Unit {0}
HasBegun now (Some w) = w.start ≤ now

abbrev pub AreBegun : (now : ℕ) → List Serial → Type 0
AreBegun now [] = Unit {0}
AreBegun now (s ∷ us) = HasBegun now s.word × AreBegun now us

-- ---- the block

-- as after a reset at that time
abbrev pub fresh : ℕ → Serials
fresh time = record { time = time; units = idle ∷ idle ∷ [] }

-- a unit; one that isn't there is idle
abbrev pub unit_at : Serials → ℕ → Serial
unit_at b u = slice_index_or b.units u idle

-- the block with this unit
abbrev pub with_unit : Serials → ℕ → Serial → Serials
with_unit b u s = record b { units = slice_set b.units u s }

-- the flags of lines 26 and 27: a unit's word is done
abbrev pub flags_of : Serials → ℕ
flags_of b = bit_of (is_done (unit_at b 0) b.time) * 2 ^ 26 + bit_of (is_done (unit_at b 1) b.time) * 2 ^ 27

-- what a read gives; a register without a stated read gives 0
abbrev pub read_of : Serials → Reg → ℕ
read_of b (SerialReceived u) = received (unit_at b u) b.time
read_of b (SerialState u) = state (unit_at b u) b.time
read_of b (SerialWait u) = state (unit_at b u) b.time
read_of b _ = 0

-- what a write leaves; a register without a stated write ignores it
abbrev pub after_write : Serials → Reg → ℕ → Serials
after_write b (SerialSelect u) value = with_unit b u (record (unit_at b u) { select = value })
after_write b (SerialWidth u) value = with_unit b u (record (unit_at b u) { width = value })
after_write b (SerialAck u) value = with_unit b u (acknowledged b.time (unit_at b u))
after_write b _ value = b

-- what a write to S<u>.DATA leaves, with the word that comes in
abbrev pub after_word : Serials → (u incoming : ℕ) → Serials
after_word b u incoming = with_unit b u (begun incoming b.time (unit_at b u))

-- what a fault on the wire leaves: without a word in transfer nothing
abbrev pub after_fault : Serials → ℕ → Serials
after_fault b u = with_unit b u (faulted b.time (unit_at b u))

-- what the passing of time leaves: every word is known by the time alone
abbrev pub ticked : Serials → ℕ → Serials
ticked b n = record b { time = b.time + n }
