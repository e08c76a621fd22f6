-- What an auditor keeps of a run, and the place in a report that it stands for.
use Rattle.std.specs.Prelude.{◌≡◌, ℕ, ◌+◌, ◌<◌, ◌≤◌, ◌^◌, List, [], ◌∷◌, length, map, Option, Some, None, slice_index_or}
use Rattle.bench_report.specs.declared.frames.Purpose.{Purpose}
use Rattle.bench_report.specs.declared.frames.Purpose.TheVariants as purposes
use Rattle.bench_report.specs.declared.tally.Tally.{Tally}
use Rattle.chip_model.specs.Chip.{Chip, chip_after, incoming_at, now_of, source_length}
use Rattle.run_model.specs.Causes.{origins_of}
use Rattle.run_model.specs.Frame.{Open, Origin, state_after}
use Rattle.run_model.specs.Legal.{AreGoing}
use Rattle.run_model.specs.Moment.{Moment, Setting}
use Rattle.mcal_base.specs.declared.directive.Order.{Order}
use Rattle.mcal_base.specs.declared.directive.Order.TheVariants.{Miso}
use Rattle.mcal_base.specs.declared.moves.Event.{Event}
use Rattle.mcal_base.specs.declared.moves.Move.{Move}
use Rattle.run_model.specs.World.{World}
use Rattle.audit_base.specs.Outside.{IsThere, IsWorld}
use Rattle.audit_base.specs.declared.outside.Outside.{Outside}
use Rattle.audit_frames.specs.Kept.{Kept}
use Rattle.audit_frames.specs.StackRules.{StandAll}
use Rattle.audit_frames.specs.declared.terms.Task.{Task}
use Rattle.audit_frames.specs.declared.terms.Task.TheVariants.{Call, Line}
use Rattle.report_text.specs.reading.Blocks.{AuditState}
use Rattle.report_auditor.specs.Seeing.{Agreeing, IsSeen}
use Rattle.report_auditor.specs.declared.seen.Seen.{Seen}

-- What an auditor keeps: the chip, the machines and what stands outside, how many serial devices there are, the frames under
-- way and what they were begun for, the newest first, what the lines so far count, and what it has seen of the moment.
pub record Auditing (Parts Call : Type 0) : Type 0 where
  pub chip : Chip
  pub parts : Parts
  pub outside : Outside
  pub devices : ℕ
  pub frames : List Kept
  pub origins : List (Origin Call)
  pub tally : Tally
  pub seen : Seen

-- ---- the place

-- what a frame was begun for, as a report names it
abbrev pub purpose_by : Task → Purpose
purpose_by (Call k) = purposes.Call k.service
purpose_by (Line l) = purposes.Handler l

abbrev pub purposes_by : List Kept → List Purpose
purposes_by ks = map (λ k. purpose_by k.terms.task) ks

-- the frames below the newest one
abbrev pub below : {Call : Type 0} → List (Open Call) → List (Open Call)
below [] = []
below (o ∷ os) = os

-- It stands for a place, with machines under a configuration; the frames below the newest one can go on.
pub record Stands {Parts Table State Call : Type 0} (agrees : Agreeing Table State) (setting : Table → Setting State Call) (table : Parts → Table) (stands : Parts → State → Type 0) (t : Table) (a : Auditing Parts Call) (p : AuditState State Call) : Type 0 where
  pub kept_of : table a.parts ≡ t
  pub chip : a.chip ≡ p.moment.chip
  pub world : IsWorld a.outside p.moment.world
  pub devices : p.moment.world.devices ≡ a.chip.devices
  pub hung : a.chip.devices ≡ a.devices
  pub state : stands a.parts p.moment.state
  pub frames : StandAll (setting t) a.frames p.moment.opens
  pub origins : a.origins ≡ origins_of p.moment.opens
  pub going : AreGoing (setting t) (below p.moment.opens)
  pub purposes : p.frames ≡ purposes_by a.frames
  pub tally : a.tally ≡ p.tally
  pub seen : IsSeen agrees setting t a.seen p.moment.chip p.moment.world p.moment.state

-- with something else seen
abbrev pub seeing : {Parts Call : Type 0} → Seen → Auditing Parts Call → Auditing Parts Call
seeing seen a = record a { seen = seen }

-- the chip made a move, and all but what is seen is as it was
pub record Replayed {Parts Call : Type 0} (before after : Auditing Parts Call) (made : Move) (received : ℕ) : Type 0 where
  pub chip : after.chip ≡ chip_after before.chip made received
  pub parts : after.parts ≡ before.parts
  pub outside : after.outside ≡ before.outside
  pub devices : after.devices ≡ before.devices
  pub frames : after.frames ≡ before.frames
  pub origins : after.origins ≡ before.origins
  pub tally : after.tally ≡ before.tally

-- What was seen before a step of the newest frame, and isn't touched by it, is known of the moment after it.
abbrev pub StillSeen : {Parts Table State Call : Type 0} → Agreeing Table State → (Table → Setting State Call) → Table → (before after : Auditing Parts Call) → Move → (received : ℕ) → Option Event → Type 0
StillSeen {Parts} {Table} {State} {Call} agrees setting t before after made received event =
    (w : World) (s : State) (o : Open Call) (xs : List (Origin Call)) → before.origins ≡ o.origin ∷ xs → IsSeen agrees setting t before.seen before.chip w s
    → IsSeen agrees setting t after.seen (chip_after before.chip made received) w (state_after (setting t).machine w s o made received event)

-- the place with another moment
abbrev pub moved_to : {State Call : Type 0} → Moment State Call → AuditState State Call → AuditState State Call
moved_to m p = record { moment = m; frames = p.frames; tally = p.tally }

-- ---- what it needs to go on

-- a pin, an input, a unit or a channel that an order names is there
abbrev pub NamesThere : Order → Type 0
NamesThere (Miso unit words) = unit < 2
NamesThere order = IsThere order

-- no frame committed a pulse output later than now
abbrev pub HasCommitted : (now : ℕ) → Kept → Type 0
HasCommitted now k = (c time : ℕ) → slice_index_or k.accesses.committed c None ≡ Some time → time ≤ now

abbrev pub AllCommitted : (now : ℕ) → List Kept → Type 0
AllCommitted now [] = Unit {0}
AllCommitted now (k ∷ ks) = HasCommitted now k × AllCommitted now ks

-- The machines can be told what happens, what stands outside is that of a world, the chip's times are those outside, there are
-- eight frames at most, and there is room for the words that may still be given to come in, and for those of a fill.
pub record IsSound {Parts Call : Type 0} (fits : Parts → Outside → Type 0) (within : Parts → Type 0) (given : ℕ) (a : Auditing Parts Call) : Type 0 where
  pub can_tell : fits a.parts a.outside
  pub in_limits : within a.parts
  pub around : World
  pub world : IsWorld a.outside around
  pub osc : a.chip.clock.osc ≡ a.outside.osc
  pub time : now_of a.chip ≡ a.outside.time
  pub committed : AllCommitted a.outside.time a.frames
  pub few : length a.frames ≤ 8
  pub counted : length a.origins ≡ length a.frames
  pub room : (u : ℕ) → u < 2 → given ≤ (incoming_at a.chip u).room
  pub sources : (c : ℕ) → source_length a.chip c ≤ 64

-- and time goes on at the machines' rate
pub record IsReady {Parts Call : Type 0} (fits : Parts → Outside → Type 0) (within : Parts → Type 0) (ticks : Parts → ℕ) (given : ℕ) (a : Auditing Parts Call) : Type 0 where
  pub sound : IsSound fits within given a
  pub rate : a.chip.clock.rate ≡ ticks a.parts

-- one more happening can be told, and ticks of 32 bits at a rate of at most 16 pass no bound of the times
pub record HasTime (o : Outside) : Type 0 where
  pub told : o.told + 1 < 2 ^ 32
  pub osc : o.osc < 2 ^ 62
  pub time : o.time < 2 ^ 62
