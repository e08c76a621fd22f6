-- Histories of the capture block: which edges come to a channel, and what leaves its queue, its count and the latch alone.
use Rattle.std.specs.Prelude.{◌≡◌, ◌≢◌, ℕ, ◌+◌, ◌%◌, ◌^◌, ◌<◌, Bool, true, false, not, ◌&&◌, ◌==◌, nat_lt, min, if◌then◌else◌, List, [], ◌∷◌, ◌++◌, length}
use Rattle.mcal_base.specs.Bits.{bit_of}
use Rattle.mcal_base.specs.declared.register.Reg.{Reg}
use Rattle.mcal_base.specs.declared.register.Reg.TheVariants.{CaptureZero, CapturePop, CaptureFlush, CaptureCountLow, CaptureTimeLow}
use Rattle.chip_blocks.specs.captures.Captures.{Captures, capture_at, pin_of, is_pin, chooses, after_read, after_write, after_edge, ticked}
use Rattle.chip_blocks.specs.declared.captures.capture.Edge.{Edge}
use Rattle.chip_blocks.specs.declared.captures.capture.Mode.{Mode}
use Rattle.chip_blocks.specs.declared.captures.capture.Mode.TheVariants.{Keeps, Counts}

-- An access of the block, an edge of a pin, or the passing of so many ticks.
pub data Access : Type 0 where
  Reads : Reg → Access
  Writes : Reg → ℕ → Access
  Edges : ℕ → Bool → Access
  Passes : ℕ → Access

abbrev pub after : Captures → Access → Captures
after b (Reads r) = after_read b r
after b (Writes r value) = after_write b r value
after b (Edges pin rising) = after_edge b pin rising
after b (Passes n) = ticked b n

-- the block after a history, the first access first
abbrev pub after_all : Captures → List Access → Captures
after_all b [] = b
after_all b (x ∷ xs) = after_all (after b x) xs

-- the block has all its channels, and this is one of them
pub record HasChannel (b : Captures) (c : ℕ) : Type 0 where
  pub all : length b.captures ≡ 8
  pub within : c < 8

-- an edge comes to a channel: its pin is the channel's, the gate is open, and its kind is chosen
abbrev pub comes : ℕ → Captures → (pin : ℕ) (rising : Bool) → Bool
comes c b pin rising = is_pin (pin_of b c) pin && ((capture_at b c).gate && chooses (capture_at b c).condition rising)

abbrev pub is_keeping : Mode → Bool
is_keeping Keeps = true
is_keeping Counts = false

-- the edges that come to a channel to be kept
abbrev pub brought_by : ℕ → Captures → Access → List Edge
brought_by c b (Edges pin rising) =
    if comes c b pin rising && is_keeping (capture_at b c).mode
    then record { time = b.time % 2 ^ 32; rising = rising; gap = false } ∷ []
    else []
brought_by c b _ = []

abbrev pub brought : ℕ → Captures → List Access → List Edge
brought c b [] = []
brought c b (x ∷ xs) = brought_by c b x ++ brought c (after b x) xs

-- how many edges come to it to be counted
abbrev pub counted_by : ℕ → Captures → Access → ℕ
counted_by c b (Edges pin rising) = bit_of (comes c b pin rising && not (is_keeping (capture_at b c).mode))
counted_by c b _ = 0

abbrev pub counted : ℕ → Captures → List Access → ℕ
counted c b [] = 0
counted c b (x ∷ xs) = counted_by c b x + counted c (after b x) xs

-- the edges of them that find room: each is marked where one was lost since the last that did
abbrev pub kept_by : ℕ → Captures → Access → List Edge
kept_by c b (Edges pin rising) =
    if comes c b pin rising && (is_keeping (capture_at b c).mode && nat_lt (length (capture_at b c).queue) 4)
    then record { time = b.time % 2 ^ 32; rising = rising; gap = (capture_at b c).lost } ∷ []
    else []
kept_by c b _ = []

abbrev pub kept : ℕ → Captures → List Access → List Edge
kept c b [] = []
kept c b (x ∷ xs) = kept_by c b x ++ kept c (after b x) xs

-- how many edges are dropped one by one, where one waits
abbrev pub popped_by : ℕ → Captures → Access → ℕ
popped_by c b (Writes (CapturePop k) value) = if k == c then min 1 (length (capture_at b c).queue) else 0
popped_by c b _ = 0

abbrev pub popped : ℕ → Captures → List Access → ℕ
popped c b [] = 0
popped c b (x ∷ xs) = popped_by c b x + popped c (after b x) xs

-- drops all edges of other channels only
abbrev pub LeavesWaiting : ℕ → Access → Type 0
LeavesWaiting c (Writes (CaptureFlush k) value) = k ≢ c
LeavesWaiting c _ = Unit {0}

-- drops edges of other channels only
abbrev pub LeavesQueue : ℕ → Access → Type 0
LeavesQueue c (Writes (CapturePop k) value) = k ≢ c
LeavesQueue c (Writes (CaptureFlush k) value) = k ≢ c
LeavesQueue c _ = Unit {0}

-- zeroes counts of other channels only
abbrev pub LeavesCount : ℕ → Access → Type 0
LeavesCount c (Writes (CaptureZero k) value) = k ≢ c
LeavesCount c _ = Unit {0}

-- reads no low half
abbrev pub LeavesLatch : Access → Type 0
LeavesLatch (Reads (CaptureCountLow k)) = ⊥
LeavesLatch (Reads (CaptureTimeLow k)) = ⊥
LeavesLatch _ = Unit {0}
