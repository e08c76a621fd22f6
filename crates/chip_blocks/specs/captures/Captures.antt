-- The capture block: what each access, each edge and the passing of time leave, and what each read gives.
use Rattle.std.specs.Prelude.{ℕ, ◌+◌, ◌*◌, ◌/◌, ◌%◌, ◌^◌, Bool, true, false, not, ◌&&◌, ◌==◌, nat_lt, if◌then◌else◌, Option, Some, None, List, [], ◌∷◌, ◌++◌, length, drop, slice_index_or, slice_set}
use Rattle.mcal_base.specs.Bits.{bit_of, bits_of, at_bits}
use Rattle.mcal_base.specs.declared.config.icu.IcuChannel.{IcuChannel}
use Rattle.mcal_base.specs.declared.register.Reg.{Reg}
use Rattle.mcal_base.specs.declared.register.Reg.TheVariants.{CaptureCondition, CaptureMode, CaptureGateSet, CaptureGateClear, CaptureCountLow, CaptureCountHigh, CaptureZero, CaptureTimeLow, CaptureTimeHigh, CaptureInfo, CapturePop, CaptureFlush}
use Rattle.chip_blocks.specs.declared.captures.capture.Edge.{Edge}
use Rattle.chip_blocks.specs.declared.captures.capture.Condition.{Condition}
use Rattle.chip_blocks.specs.declared.captures.capture.Condition.TheVariants.{Neither, Rising, Falling, Both}
use Rattle.chip_blocks.specs.declared.captures.capture.Mode.{Mode}
use Rattle.chip_blocks.specs.declared.captures.capture.Mode.TheVariants.{Keeps, Counts}
use Rattle.chip_blocks.specs.declared.captures.capture.Act.{Act}
use Rattle.chip_blocks.specs.declared.captures.capture.Act.TheVariants.{Open, Close, Catch}
use Rattle.chip_blocks.specs.declared.captures.capture.Capture.{Capture}

-- The channels' pins, the channels by number, the peripheral time and the latch of all channels.
pub record Captures : Type 0 where
  pub pins : List (Option ℕ)
  pub time : ℕ
  pub captures : List Capture
  pub latch : ℕ

-- ---- one channel

-- the kinds of edges that a condition chooses
abbrev pub chooses : Condition → (rising : Bool) → Bool
chooses Neither rising = false
chooses Rising rising = rising
chooses Falling rising = not rising
chooses Both rising = true

-- a chosen edge is counted, or waits in the queue of four; one that finds the queue full is lost, and the next one kept
-- is marked as after a gap
abbrev pub take_edge : Mode → (now : ℕ) (rising : Bool) → Capture → Capture
take_edge Counts now rising c = record c { count = (c.count + 1) % 2 ^ 32 }
take_edge Keeps now rising c =
    if nat_lt (length c.queue) 4
    then record c { queue = c.queue ++ record { time = now % 2 ^ 32; rising = rising; gap = c.lost } ∷ []; lost = false }
    else record c { lost = true }

-- an edge reaches a channel; it is taken where the gate is open and its kind is chosen
abbrev pub caught : (now : ℕ) (rising : Bool) → Capture → Capture
caught now rising c = if c.gate && chooses c.condition rising then take_edge c.mode now rising c else c

-- what a one at a channel's bit does to the channel
abbrev pub acting : Act → ℕ → Capture → Capture
acting Open now c = record c { gate = true }
acting Close now c = record c { gate = false }
acting (Catch rising) now c = caught now rising c

-- C<c>.COND and C<c>.MODE, which ignore a value that isn't listed
abbrev pub with_condition : ℕ → Capture → Capture
with_condition value c =
    if value == 0 then record c { condition = Neither }
    else if value == 1 then record c { condition = Rising }
    else if value == 2 then record c { condition = Falling }
    else if value == 3 then record c { condition = Both }
    else c

abbrev pub with_mode : ℕ → Capture → Capture
with_mode value c =
    if value == 0 then record c { mode = Keeps }
    else if value == 1 then record c { mode = Counts }
    else c

-- C<c>.POP drops the oldest edge, C<c>.FLUSH all and the gap mark, C<c>.ZERO makes the count 0
abbrev pub popped : Capture → Capture
popped c = record c { queue = drop 1 c.queue }

abbrev pub flushed : Capture → Capture
flushed c = record c { queue = []; lost = false }

abbrev pub zeroed : Capture → Capture
zeroed c = record c { count = 0 }

-- the time of the oldest edge, 0 where none waits
abbrev pub oldest_time : List Edge → ℕ
oldest_time [] = 0
oldest_time (e ∷ es) = e.time

-- C<c>.INFO: the direction and the gap mark of the oldest edge, and how many wait; 0 where none waits
abbrev pub info_of : List Edge → ℕ
info_of [] = 0
info_of (e ∷ es) = bit_of e.rising + bit_of e.gap * 2 + length (e ∷ es) * 4

-- as after a reset
abbrev pub closed : Capture
closed = record { gate = false; condition = Neither; mode = Keeps; queue = []; lost = false; count = 0 }

-- ---- the block

-- the pin of a configured channel
abbrev pub pin_in : List IcuChannel → ℕ → Option ℕ
pin_in [] c = None
pin_in (x ∷ xs) c = if x.id == c then Some x.pin else pin_in xs c

abbrev pub pins_in : List IcuChannel → List (Option ℕ)
pins_in xs = pin_in xs 0 ∷ pin_in xs 1 ∷ pin_in xs 2 ∷ pin_in xs 3 ∷ pin_in xs 4 ∷ pin_in xs 5 ∷ pin_in xs 6 ∷ pin_in xs 7 ∷ []

-- as after a reset at that time
abbrev pub captures_fresh : List (Option ℕ) → ℕ → Captures
captures_fresh pins time = record { pins = pins; time = time; captures = closed ∷ closed ∷ closed ∷ closed ∷ closed ∷ closed ∷ closed ∷ closed ∷ []; latch = 0 }

-- a channel; one that isn't there is closed
abbrev pub capture_at : Captures → ℕ → Capture
capture_at b c = slice_index_or b.captures c closed

-- the block with this channel
abbrev pub with_capture : Captures → ℕ → Capture → Captures
with_capture b c x = record b { captures = slice_set b.captures c x }

-- ones act, and zeros do nothing
abbrev pub acted : Act → Captures → ℕ → Captures
acted act b bits = record b { captures = at_bits (λ c. acting act b.time) bits b.captures }

-- the pin of a channel, if it has one
abbrev pub pin_of : Captures → ℕ → Option ℕ
pin_of b c = slice_index_or b.pins c None

abbrev pub is_pin : Option ℕ → ℕ → Bool
is_pin None pin = false
is_pin (Some p) pin = p == pin

-- the channels whose pin this is, a bit a channel
abbrev pub channels_at : Captures → ℕ → ℕ
channels_at b pin = bits_of (λ c. is_pin (pin_of b c) pin) 8

-- an edge waits
abbrev pub is_waiting : Capture → Bool
is_waiting c = nat_lt 0 (length c.queue)

abbrev pub waiting_channels : Captures → ℕ
waiting_channels b = bits_of (λ c. is_waiting (capture_at b c)) 8

-- the flags of lines 16 to 23, each at its line's bit
abbrev pub lines_of : Captures → ℕ
lines_of b = waiting_channels b * 2 ^ 16

-- what a read gives; a register without a stated read gives 0
abbrev pub read_of : Captures → Reg → ℕ
read_of b (CaptureCountLow c) = (capture_at b c).count % 65536
read_of b (CaptureCountHigh c) = b.latch
read_of b (CaptureTimeLow c) = oldest_time (capture_at b c).queue % 65536
read_of b (CaptureTimeHigh c) = b.latch
read_of b (CaptureInfo c) = info_of (capture_at b c).queue
read_of b _ = 0

-- what a read leaves: a read of a low half keeps the high half in the latch
abbrev pub after_read : Captures → Reg → Captures
after_read b (CaptureCountLow c) = record b { latch = (capture_at b c).count / 65536 }
after_read b (CaptureTimeLow c) = record b { latch = oldest_time (capture_at b c).queue / 65536 }
after_read b _ = b

-- what a write leaves; a register without a stated write ignores it
abbrev pub after_write : Captures → Reg → ℕ → Captures
after_write b (CaptureCondition c) value = with_capture b c (with_condition value (capture_at b c))
after_write b (CaptureMode c) value = with_capture b c (with_mode value (capture_at b c))
after_write b CaptureGateSet value = acted Open b value
after_write b CaptureGateClear value = acted Close b value
after_write b (CaptureZero c) value = with_capture b c (zeroed (capture_at b c))
after_write b (CapturePop c) value = with_capture b c (popped (capture_at b c))
after_write b (CaptureFlush c) value = with_capture b c (flushed (capture_at b c))
after_write b _ value = b

-- what an edge of a pin leaves: it reaches each channel whose pin it is
abbrev pub after_edge : Captures → (pin : ℕ) (rising : Bool) → Captures
after_edge b pin rising = acted (Catch rising) b (channels_at b pin)

-- what the passing of time leaves
abbrev pub ticked : Captures → ℕ → Captures
ticked b n = record b { time = b.time + n }
