-- How words and registers stand for the machine's state.
use Rattle.std.specs.Prelude.{◌≡◌, ◌≢◌, ℕ, ◌+◌, ◌-◌, ◌%◌, ◌^◌, ◌<◌, ◌≤◌, ◌==◌, nat_lt, Bool, true, false, ◌&&◌, ◌||◌, not, List, [], ◌∷◌, ◌++◌, map, length, Option, Some, None, is_some, if◌then◌else◌}
use Rattle.std.specs.List.{AllByRecursion}
use Rattle.chip_blocks.specs.captures.Captures.{Captures, capture_at as chip_capture, pin_of}
use Rattle.chip_blocks.specs.declared.captures.capture.Capture as chips
use Rattle.chip_blocks.specs.declared.captures.capture.Condition.{Condition}
use Rattle.chip_blocks.specs.declared.captures.capture.Condition.TheVariants as conditions
use Rattle.chip_blocks.specs.declared.captures.capture.Edge as chip_edges
use Rattle.chip_blocks.specs.declared.captures.capture.Mode.{Mode}
use Rattle.chip_blocks.specs.declared.captures.capture.Mode.TheVariants.{Keeps, Counts}
use Rattle.chip_model.specs.Chip.{Chip, word_of}
use Rattle.mcal_base.specs.Bits.{has_bit, bit_of}
use Rattle.mcal_base.specs.Layout.{place_of}
use Rattle.mcal_base.specs.declared.layout.Array.TheVariants.{Stamps}
use Rattle.mcal_base.specs.declared.config.icu.IcuMeasurementMode.{IcuMeasurementMode}
use Rattle.mcal_base.specs.declared.config.icu.IcuMeasurementMode.TheVariants.{SignalEdgeDetect, EdgeCounter, Timestamp, SignalMeasurement}
use Rattle.mcal_base.specs.declared.config.icu.IcuSignalMeasurementProperty.{IcuSignalMeasurementProperty}
use Rattle.mcal_base.specs.declared.config.icu.IcuSignalMeasurementProperty.TheVariants.{HighTime, LowTime, PeriodTime, DutyCycle}
use Rattle.mcal_base.specs.declared.config.icu.IcuStartEdge.{IcuStartEdge}
use Rattle.mcal_base.specs.declared.config.icu.IcuStartEdge.TheVariants as edges
use Rattle.mcal_base.specs.declared.moves.Move.{Move}
use Rattle.mcal_base.specs.declared.moves.Move.TheVariants.{Read, Write, Load, Store}
use Rattle.mcal_base.specs.declared.register.Reg.{Reg}
use Rattle.mcal_base.specs.declared.register.Reg.TheVariants.{EnableSet, EnableClear}
use Rattle.run_model.specs.World.{World}
use Rattle.run_model.specs.Outside.{StandsIn}
use Rattle.service_outline.specs.Outline.{Refinement}
use Rattle.module_machines.specs.icu.Bounds.{is_capture, is_own_word, is_stamp, icu_setting}
use Rattle.module_machines.specs.icu.Edges.{Edge, is_same, begins_rising, values, newest}
use Rattle.module_machines.specs.icu.Machine.{IcuState, Capture, Start, capture_at, index, is_full, stamp_in, moved}
use Rattle.module_machines.specs.icu.Table.{channel_of, is_counter, is_timestamp, is_measurement}
use Rattle.icu_driver.specs.Words.{word}
use Rattle.module_machines.specs.declared.icu.call.Call.{Call}
use Rattle.module_machines.specs.declared.icu.table.Channel.{Channel}
use Rattle.module_machines.specs.declared.icu.table.IcuTable.{IcuTable}
use Rattle.icu_driver.specs.declared.words.TheConstants.{STATE, SWITCHES, MARKS, SIZES, INTERVALS, PLACES, VALUES, TIMES}

-- what the configuration has to be: numbers stand at their places, pins are there, and a measurement has a property
pub record FitsIcu (d : IcuTable) : Type 0 where
  pub number : (c : ℕ) (k : Channel) → channel_of d c ≡ Some k → k.number ≡ c
  pub pin : (c : ℕ) (k : Channel) → channel_of d c ≡ Some k → k.pin < 64
  pub property : (c : ℕ) (k : Channel) → channel_of d c ≡ Some k → is_measurement k.mode ≡ true → is_some k.measured ≡ true

-- ---- what the module owns

-- the value has a bit of a capture line, or one past those of a register
abbrev pub has_lines : ℕ → Bool
has_lines v = not (nat_lt (v % 16777216) 65536) || not (nat_lt v 4294967296)

abbrev pub owns_written : Reg → ℕ → Bool
owns_written EnableSet v = has_lines v
owns_written EnableClear v = has_lines v
owns_written r v = is_capture r

abbrev pub icu_owns : IcuTable → Move → Bool
icu_owns d (Read r) = is_capture r
icu_owns d (Write r v) = owns_written r v
icu_owns d (Load k) = is_own_word d k || is_stamp d k
icu_owns d (Store k v) = is_own_word d k || is_stamp d k
icu_owns d _ = false

-- ---- what the top frame may have under work

-- what is not yet, or no longer, as the machine has it: by channel gates, queues and counts; words by number; whether modes are as configured though the module isn't initialised; what all enable bits are, where that isn't what they are to be; and a place of the stamps, which are behind where it is
pub record Lag : Type 0 where
  pub gates : ℕ → Bool
  pub queues : ℕ → Bool
  pub counts : ℕ → Bool
  pub words : ℕ → Bool
  pub stamps : ℕ → ℕ → Bool
  pub moded : Bool
  pub lines : Option Bool

abbrev pub none : ℕ → Bool
none k = false

abbrev pub only : ℕ → ℕ → Bool
only j k = k == j

-- nothing is under work; a channel is to be switched on; it was switched off, and what waits is still to be dropped
abbrev pub settled : Lag
settled = record { gates = none; queues = none; counts = none; words = none; stamps = λ c i. false; moded = false; lines = None }

abbrev pub opening : ℕ → Lag
opening c = record settled { gates = only c; queues = only c }

abbrev pub emptying : ℕ → Lag
emptying c = record settled { queues = only c }

abbrev pub behind : ℕ → Lag
behind j = record settled { words = only j }

-- ---- a channel of the block

-- an edge that waits, as the block keeps it
abbrev pub kept : Edge → chip_edges.Edge
kept e = record { time = e.time; rising = e.rising; gap = e.after_gap }

abbrev pub condition_by : IcuStartEdge → Condition
condition_by edges.Rising = conditions.Rising
condition_by edges.Falling = conditions.Falling
condition_by edges.Both = conditions.Both

-- the edges that a channel chooses: a measurement each one
abbrev pub chosen : Channel → Capture → Condition
chosen k x = if is_measurement k.mode then conditions.Both else condition_by x.activation

abbrev pub mode_by : Bool → Mode
mode_by false = Keeps
mode_by true = Counts

abbrev pub counts_edges : Option Channel → Bool
counts_edges None = false
counts_edges (Some k) = is_counter k.mode

abbrev pub pin_by : Option Channel → Option ℕ
pin_by None = None
pin_by (Some k) = Some k.pin

abbrev pub ChoosesAs : Option Channel → chips.Capture → Capture → Type 0
ChoosesAs None b x = Unit {0}
ChoosesAs (Some k) b x = b.condition ≡ chosen k x

-- The gate is open exactly where the channel is on, queue and gap mark are the machine's, and so is the count, but for what is free. Where the module is on, the condition is the activation; where modes are known, an edge counter counts and any other channel keeps. Where the gate is free, the mode says that what isn't free stays.
pub record CaptureAgrees (k : Option Channel) (gate_free queue_free count_free on moded : Bool) (b : chips.Capture) (x : Capture) : Type 0 where
  pub gate : gate_free ≡ false → b.gate ≡ x.on
  pub queue : queue_free ≡ false → b.queue ≡ map kept x.waiting
  pub lost : queue_free ≡ false → b.lost ≡ x.lost
  pub count : count_free ≡ false → b.count ≡ x.count
  pub condition : on ≡ true → ChoosesAs k b x
  pub mode : moded ≡ true → b.mode ≡ mode_by (counts_edges k)
  pub starts : x.on ≡ true → (on ≡ true) × (is_some k ≡ true)
  pub known : on ≡ true → moded ≡ true
  pub free_known : gate_free ≡ true → moded ≡ true
  pub free_queue : gate_free ≡ true → queue_free ≡ false → counts_edges k ≡ true
  pub free_count : gate_free ≡ true → count_free ≡ false → counts_edges k ≡ false

abbrev pub BlockAgrees : IcuTable → Lag → Captures → IcuState → Type 0
BlockAgrees d gap b s = (c : ℕ) → c < 8 → CaptureAgrees (channel_of d c) (gap.gates c) (gap.queues c) (gap.counts c) s.initialised (s.initialised || gap.moded) (chip_capture b c) (capture_at s c)

-- each channel has its pin
abbrev pub WiredAs : IcuTable → Captures → Type 0
WiredAs d b = (c : ℕ) → c < 8 → pin_of b c ≡ pin_by (channel_of d c)

-- ---- what is measured, as a driver follows it: over served edges, the first one first

-- what was seen since the last value: nothing, a start edge at a time, or one with an opposite edge behind it, without a gap
pub data MeasureHistory : Type 0 where
  Nothing_seen : MeasureHistory
  Start_seen : (start : ℕ) → MeasureHistory
  Opposite_seen : (start opposite : ℕ) → MeasureHistory

-- the edge is one at which a measure starts
abbrev pub starts_at : (first : Bool) → Edge → Bool
starts_at first e = is_same e.rising first

-- an edge after a gap forgets what was seen
abbrev pub unbroken : Edge → MeasureHistory → MeasureHistory
unbroken e s = if e.after_gap then Nothing_seen else s

abbrev pub opposed : ℕ → MeasureHistory → MeasureHistory
opposed t (Start_seen a) = Opposite_seen a t
opposed t _ = Nothing_seen

abbrev pub seen_with : (first : Bool) → Edge → MeasureHistory → MeasureHistory
seen_with first e s = if starts_at first e then Start_seen e.time else opposed e.time (unbroken e s)

abbrev pub seen_from : (first : Bool) → MeasureHistory → List Edge → MeasureHistory
seen_from first s [] = s
seen_from first s (e ∷ es) = seen_from first (seen_with first e s) es

abbrev pub seen_number : MeasureHistory → ℕ
seen_number Nothing_seen = 0
seen_number (Start_seen a) = 1
seen_number (Opposite_seen a b) = 2

-- from one time to another, modulo 2^32
abbrev pub since : (start now : ℕ) → ℕ
since a b = (b + 2 ^ 32 - a) % 2 ^ 32

-- the value that an edge completes, by whether a measure starts at it and by what was seen: a time, a period, or active time and period
abbrev pub half_told : (starts : Bool) → Edge → MeasureHistory → List (List ℕ)
half_told false e (Start_seen a) = (since a e.time ∷ []) ∷ []
half_told false e Nothing_seen = []
half_told false e (Opposite_seen a b) = []
half_told true e s = []

abbrev pub whole_told : (starts duty : Bool) → Edge → MeasureHistory → List (List ℕ)
whole_told true false e (Opposite_seen a b) = (since a e.time ∷ []) ∷ []
whole_told true true e (Opposite_seen a b) = (since a b ∷ since a e.time ∷ []) ∷ []
whole_told true duty e Nothing_seen = []
whole_told true duty e (Start_seen a) = []
whole_told false duty e s = []

abbrev pub measures_told : IcuSignalMeasurementProperty → (starts : Bool) → Edge → MeasureHistory → List (List ℕ)
measures_told HighTime starts e s = half_told starts e s
measures_told LowTime starts e s = half_told starts e s
measures_told PeriodTime starts e s = whole_told starts false e s
measures_told DutyCycle starts e s = whole_told starts true e s

abbrev pub told_with : IcuSignalMeasurementProperty → Channel → Edge → MeasureHistory → List (List ℕ)
told_with p k e s = measures_told p (starts_at (begins_rising p k) e) e (unbroken e s)

-- the edge at which a channel's measures start
abbrev pub first_of : Option IcuSignalMeasurementProperty → Channel → Bool
first_of None k = true
first_of (Some p) k = begins_rising p k

abbrev pub seen_by : Channel → Capture → MeasureHistory
seen_by k x = seen_from (first_of k.measured k) Nothing_seen x.served

-- ---- the words of a channel, by its mode

abbrev pub StartIs : (at : ℕ) → MeasureHistory → Type 0
StartIs v Nothing_seen = Unit {0}
StartIs v (Start_seen a) = v ≡ a
StartIs v (Opposite_seen a b) = v ≡ a

abbrev pub OppositeIs : (at : ℕ) → MeasureHistory → Type 0
OppositeIs v Nothing_seen = Unit {0}
OppositeIs v (Start_seen a) = Unit {0}
OppositeIs v (Opposite_seen a b) = v ≡ b

-- a value waits to be handed out
abbrev pub waiting_value : Channel → Capture → Option (List ℕ)
waiting_value k x = if x.handed_out then None else newest (values k x.served)

-- a period or a time; and an active time before it
abbrev pub ValueIs : (value : ℕ) → Option (List ℕ) → Type 0
ValueIs v (Some (n ∷ [])) = v ≡ n
ValueIs v (Some (a ∷ n ∷ [])) = v ≡ n
ValueIs v _ = Unit {0}

abbrev pub ActiveIs : (time : ℕ) → Option (List ℕ) → Type 0
ActiveIs t (Some (a ∷ n ∷ [])) = t ≡ a
ActiveIs t _ = Unit {0}

abbrev pub size_word : Option Start → ℕ
size_word None = 0
size_word (Some a) = a.size

-- stamps are on, or they were stopped, or were never started since Icu_Init, with nothing stamped
pub data Stamped (x : Capture) : ℕ → Type 0 where
  Is_on : x.on ≡ true → Stamped x 1
  Is_stopped : x.on ≡ false → is_some x.start ≡ true → Stamped x 2
  Is_fresh : x.on ≡ false → x.served ≡ [] → Stamped x 0

-- how many stamps are left until the next notice
abbrev pub left_by : Option Start → ℕ → ℕ
left_by None stamps = 0
left_by (Some a) stamps = a.interval - stamps % a.interval

abbrev pub interval_by : Option Start → ℕ
interval_by None = 0
interval_by (Some a) = a.interval

-- each word that isn't behind
pub record DetectWords (at : ℕ → ℕ) (behind : ℕ → Bool) (c : ℕ) (x : Capture) : Type 0 where
  pub switch : behind (word SWITCHES c) ≡ false → at (word SWITCHES c) ≡ bit_of x.notification
  pub mark : behind (word MARKS c) ≡ false → at (word MARKS c) ≡ bit_of x.active

pub record StampWords (at : ℕ → ℕ) (behind : ℕ → Bool) (c : ℕ) (k : Channel) (x : Capture) : Type 0 where
  pub switch : behind (word SWITCHES c) ≡ false → at (word SWITCHES c) ≡ bit_of x.notification
  pub mark : behind (word MARKS c) ≡ false → Stamped x (at (word MARKS c))
  pub size : behind (word SIZES c) ≡ false → at (word SIZES c) ≡ size_word x.start
  pub interval : behind (word INTERVALS c) ≡ false → x.on ≡ true → at (word INTERVALS c) ≡ interval_by x.start
  pub place : behind (word PLACES c) ≡ false → (behind (word MARKS c) ≡ false → at (word MARKS c) ≢ 0) → at (word PLACES c) ≡ index k x
  pub left : behind (word VALUES c) ≡ false → x.on ≡ true → at (word VALUES c) ≡ left_by x.start (length x.served)

pub record MeasureWords (at : ℕ → ℕ) (behind : ℕ → Bool) (c : ℕ) (k : Channel) (x : Capture) : Type 0 where
  pub waits : behind (word SWITCHES c) ≡ false → at (word SWITCHES c) ≡ bit_of (is_some (waiting_value k x))
  pub mark : behind (word MARKS c) ≡ false → at (word MARKS c) ≡ bit_of x.active
  pub seen : behind (word SIZES c) ≡ false → x.on ≡ true → at (word SIZES c) ≡ seen_number (seen_by k x)
  pub start : behind (word INTERVALS c) ≡ false → x.on ≡ true → StartIs (at (word INTERVALS c)) (seen_by k x)
  pub opposite : behind (word PLACES c) ≡ false → x.on ≡ true → OppositeIs (at (word PLACES c)) (seen_by k x)
  pub value : behind (word VALUES c) ≡ false → ValueIs (at (word VALUES c)) (waiting_value k x)
  pub time : behind (word TIMES c) ≡ false → ActiveIs (at (word TIMES c)) (waiting_value k x)

abbrev pub ModeWords : IcuMeasurementMode → (at : ℕ → ℕ) (behind : ℕ → Bool) (c : ℕ) → Channel → Capture → Type 0
ModeWords SignalEdgeDetect at behind c k x = DetectWords at behind c x
ModeWords EdgeCounter at behind c k x = Unit {0}
ModeWords Timestamp at behind c k x = StampWords at behind c k x
ModeWords SignalMeasurement at behind c k x = MeasureWords at behind c k x

abbrev pub ChannelWords : Option Channel → (at : ℕ → ℕ) (behind : ℕ → Bool) (c : ℕ) → Capture → Type 0
ChannelWords None at behind c x = Unit {0}
ChannelWords (Some k) at behind c x = ModeWords k.mode at behind c k x

-- ---- what holds of a channel in itself

-- edges turn, but where others were lost between them
abbrev pub Alternate : List Edge → Type 0
Alternate [] = Unit {0}
Alternate (x ∷ []) = Unit {0}
Alternate (x ∷ y ∷ ys) = (y.after_gap ≡ false → is_same y.rising (not x.rising) ≡ true) × Alternate (y ∷ ys)

-- the last of edges that were kept was the last change of the pin, unless one was lost since
abbrev pub EndsAt : (lost level : Bool) → List Edge → Type 0
EndsAt lost level [] = Unit {0}
EndsAt lost level (x ∷ []) = lost ≡ false → x.rising ≡ level
EndsAt lost level (x ∷ y ∷ ys) = EndsAt lost level (y ∷ ys)

-- the edges of a measurement that is on: those that were served, and those that wait behind them
abbrev pub HasTurns : Option Channel → World → Capture → Type 0
HasTurns None w x = Unit {0}
HasTurns (Some k) w x = is_measurement k.mode ≡ true → x.on ≡ true → Alternate (x.served ++ x.waiting) × EndsAt x.lost (w.levels k.pin) (x.served ++ x.waiting)

-- a start that stands has places and an interval
abbrev pub IsStart : Option Start → Type 0
IsStart None = Unit {0}
IsStart (Some a) = (0 < a.size) × (a.size ≤ 64) × (0 < a.interval) × (a.interval < 2 ^ 32)

abbrev pub stamps_edges : Option Channel → Bool
stamps_edges None = false
stamps_edges (Some k) = is_timestamp k.mode

-- few edges wait, at times that fit a register, and none on a counter or on a channel that is off, where none was lost either; a start has places and an interval, and the count fits a register; only stamps are started, and only edges of a counter are counted
pub record IsCourse (k : Option Channel) (x : Capture) : Type 0 where
  pub room : length x.waiting ≤ 4
  pub times : AllByRecursion (λ (e : Edge). e.time < 2 ^ 32) x.waiting
  pub counter : counts_edges k ≡ true → (x.waiting ≡ []) × (x.lost ≡ false)
  pub off : x.on ≡ false → (x.waiting ≡ []) × (x.lost ≡ false)
  pub start : IsStart x.start
  pub count : x.count < 2 ^ 32
  pub unstarted : stamps_edges k ≡ false → x.start ≡ None
  pub uncounted : counts_edges k ≡ false → x.count ≡ 0

-- nothing is on, notified, marked, counted or served
pub record IsClean (x : Capture) : Type 0 where
  pub off : x.on ≡ false
  pub quiet : x.notification ≡ false
  pub unmarked : x.active ≡ false
  pub uncounted : x.count ≡ 0
  pub unserved : x.served ≡ []

-- stamps that are on were started, and there is room for one more
abbrev pub HasPlace : Option Channel → Capture → Type 0
HasPlace None x = Unit {0}
HasPlace (Some k) x = k.mode ≡ Timestamp → x.on ≡ true → (is_some x.start ≡ true) × (is_full k x.start (length x.served) ≡ false) × (index k x < size_word x.start)

-- ---- the agreement

abbrev pub state_word : Bool → ℕ
state_word on = bit_of on

abbrev pub all_are : Option Bool → Bool → Bool
all_are None on = on
all_are (Some b) on = b

-- the words and registers agree with the state, but for what is under work; while the module is uninitialised, nothing is marked, counted or notified on a configured channel
pub record IcuRepresents (d : IcuTable) (gap : Lag) (chip : Chip) (w : World) (s : IcuState) : Type 0 where
  pub outside : StandsIn chip w
  pub size : length chip.captures.captures ≡ 8
  pub wired : WiredAs d chip.captures
  pub block : BlockAgrees d gap chip.captures s
  pub state : gap.words STATE ≡ false → word_of chip STATE ≡ state_word s.initialised
  pub words : (c : ℕ) → c < 8 → ChannelWords (channel_of d c) (λ k. word_of chip k) gap.words c (capture_at s c)
  pub course : (c : ℕ) → c < 8 → IsCourse (channel_of d c) (capture_at s c) × HasPlace (channel_of d c) (capture_at s c)
  pub turns : (c : ℕ) → c < 8 → HasTurns (channel_of d c) w (capture_at s c)
  pub lines : (c : ℕ) → c < 8 → has_bit chip.control.enabled (16 + c) ≡ all_are gap.lines s.initialised
  pub stamps : (c : ℕ) → c < 8 → is_some (channel_of d c) ≡ true → (i : ℕ) → i < 64 → gap.stamps c i ≡ false → word_of chip (place_of (Stamps c) i) ≡ stamp_in (capture_at s c).stored i
  pub clean : s.initialised ≡ false → (c : ℕ) → c < 8 → is_some (channel_of d c) ≡ true → IsClean (capture_at s c)

-- what hardware leaves of a channel, and of the block
abbrev pub bare : chips.Capture → chips.Capture
bare b = record b { queue = []; lost = false; count = 0 }

abbrev pub bare_block : Captures → Captures
bare_block b = record b { time = 0; captures = map bare b.captures }

-- how far each channel came with its stamps
abbrev pub marks_of : Chip → List ℕ
marks_of chip = word_of chip (word MARKS 0) ∷ word_of chip (word MARKS 1) ∷ word_of chip (word MARKS 2) ∷ word_of chip (word MARKS 3) ∷ word_of chip (word MARKS 4) ∷ word_of chip (word MARKS 5) ∷ word_of chip (word MARKS 6) ∷ word_of chip (word MARKS 7) ∷ []

-- what all services of the driver stand on
abbrev pub icu_ground : IcuTable → Refinement IcuState Call
icu_ground d = record {
  setting = icu_setting d;
  wired = λ chip. WiredAs d chip.captures;
  lines = λ l. not (nat_lt l 16) && nat_lt l 24;
  watches = false;
  owns = λ o made. icu_owns d made;
  count = λ s. 0;
  later = λ w s order. moved d w s order;
  Lag = Lag;
  settled = settled;
  represents = IcuRepresents d;
  Footprint = Captures × List ℕ;
  foot = λ chip. (bare_block chip.captures, marks_of chip);
}
