-- What the laws of capture channels say.
use Rattle.std.specs.Prelude.{◌≡◌, ◌≢◌, ℕ, ◌<◌, ◌≤◌, Bool, true, false, List, [], ◌∷◌, ◌++◌, length, if◌then◌else◌, None}
use Rattle.std.specs.List.{AllByRecursion}
use Rattle.mcal_base.specs.declared.notice.NoticeKind.{NoticeKind}
use Rattle.run_model.specs.Machine.{Told, no_answer}
use Rattle.module_machines.specs.icu.Edges.{Edge}
use Rattle.module_machines.specs.icu.Machine.{IcuState, Capture, capture_at, index, handed}
use Rattle.module_machines.specs.declared.icu.table.Channel.{Channel}
use Rattle.module_machines.specs.declared.icu.call.ChannelCall.{ChannelCall}
use Rattle.module_machines.specs.declared.icu.call.ChannelCall.TheVariants.{SetActivationCondition, GetInputState, EnableEdgeDetection, DisableEdgeDetection, ResetEdgeCount, EnableEdgeCount, DisableEdgeCount, StartTimestamp, StopTimestamp, StartSignalMeasurement, StopSignalMeasurement}

-- at most four edges wait on each channel
abbrev pub HasRoom : IcuState → Type 0
HasRoom s = (c : ℕ) → c < 8 → length (capture_at s c).waiting ≤ 4

-- the call enables, disables, starts or stops what its channel does
abbrev pub is_switch : ChannelCall → Bool
is_switch EnableEdgeDetection = true
is_switch DisableEdgeDetection = true
is_switch EnableEdgeCount = true
is_switch DisableEdgeCount = true
is_switch (StartTimestamp size interval) = true
is_switch StopTimestamp = true
is_switch StartSignalMeasurement = true
is_switch StopSignalMeasurement = true
is_switch _ = false

-- a measure over served edges: it begins at one of the first direction and ends at the next one of the last; they were served one after another, and none but the first is after a gap
pub record IsMeasure (first last : Bool) (served measure : List Edge) : Type 0 where
  pub before : List Edge
  pub begin : Edge
  pub within : List Edge
  pub end : Edge
  pub after : List Edge
  pub is : measure ≡ begin ∷ (within ++ end ∷ [])
  pub stands : served ≡ before ++ (measure ++ after)
  pub begins : begin.rising ≡ first
  pub ends : end.rising ≡ last
  pub next : AllByRecursion (λ (e : Edge). e.rising ≢ last) within
  pub unbroken : AllByRecursion (λ (e : Edge). e.after_gap ≡ false) (within ++ end ∷ [])

-- the call drops the active mark
abbrev pub drops_mark : ChannelCall → Bool
drops_mark (SetActivationCondition edge) = true
drops_mark GetInputState = true
drops_mark _ = false

-- the call makes the count 0
abbrev pub drops_count : ChannelCall → Bool
drops_count ResetEdgeCount = true
drops_count _ = false

-- The channel is off, and so is its notification. It has its default edges, no edge that waits, no mark, no count, index 0, and nothing to hand out.
pub record IsCleared (k : Channel) (x : Capture) : Type 0 where
  pub off : x.on ≡ false
  pub quiet : x.notification ≡ false
  pub default : x.activation ≡ k.start_edge
  pub empty : x.waiting ≡ []
  pub unmarked : x.active ≡ false
  pub uncounted : x.count ≡ 0
  pub begins : index k x ≡ 0
  pub nothing : (none : List ℕ) → handed none k x ≡ none

-- a serving tells nothing but a notice of this kind, where it is due
abbrev pub tells_notice : (due : Bool) → NoticeKind → (channel : ℕ) → Told
tells_notice due kind c = record { answer = no_answer; error = None; notices = if due then record { kind = kind; id = c } ∷ [] else [] }
