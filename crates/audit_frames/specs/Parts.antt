-- A legal step in two parts: what the frame's own doings decide, and what chip, machine and module do.
use Rattle.std.specs.Prelude.{◌≡◌, ◌≤◌, true, false, ◌||◌, [], Option, Some, None, IsSome}
use Rattle.run_model.specs.Chip.{value_of, stall_of}
use Rattle.mcal_base.specs.Reach.{CanApply}
use Rattle.mcal_base.specs.declared.moves.Event.{Event}
use Rattle.mcal_base.specs.declared.moves.Event.TheVariants.{Act, Serve, Abort, Start}
use Rattle.run_model.specs.declared.item.Stepped.{Stepped}
use Rattle.run_model.specs.Frame.{Origin, Called, Entered, Open, outcome_at, begun_by, report_by, is_act, state_after, open_after, is_shared, is_wait, resets_chip, asks_reset}
use Rattle.run_model.specs.Legal.{IsNext, StartsUncalled, StandsAt, HalvesRight, halves_of, ErrorsRight, is_beside_act, WindowRight, ReceivedRight, SendsRight, MoveRight, ShowsRight, EndRight, StartsRight, WritesRight}
use Rattle.run_model.specs.Machine.{Machine}
use Rattle.run_model.specs.Moment.{Setting, Moment}
use Rattle.run_model.specs.World.{World}

-- the frame may have the event: a call acts once, and serves lines that it polls, in their order and with no notice owed; a
-- handler doesn't act, and serves its own line, once; units start and abort with no notice owed
abbrev pub IsHad : {State Call : Type 0} → Machine State Call → World → State → Open Call → Event → Origin Call → Type 0
IsHad mac w s o Act (Called c) = o.acted ≡ None
IsHad mac w s o Act (Entered l) = ⊥
IsHad mac w s o (Serve k) (Called c) = IsNext (mac.polls w s c) o.served k × (o.owed ≡ []) × (o.inside ≡ true)
IsHad mac w s o (Serve k) (Entered l) = (k ≡ l) × (o.served ≡ []) × (o.inside ≡ true)
IsHad mac w s o (Abort u) origin = o.owed ≡ []
IsHad mac w s o (Start u) origin = o.owed ≡ []

-- and it stands at a move that it can stand at
abbrev pub EventHad : {State Call : Type 0} → Setting State Call → Moment State Call → Open Call → Stepped → Option Event → Type 0
EventHad g m o s None = Unit {0}
EventHad g m o s (Some e) = IsHad g.machine m.world m.state o e o.origin × StandsAt e s.made s.value

-- What the frame's own doings decide of a step.
pub record FrameRight {State Call : Type 0} (g : Setting State Call) (m : Moment State Call) (o : Open Call) (s : Stepped) : Type 0 where
  pub event : EventHad g m o s s.event
  pub waits_open : is_wait s.made ≡ true → o.inside ≡ false
  pub halves : let o1 = open_after g.machine m.world m.state o s.made s.received s.event in HalvesRight (halves_of g o.origin) o1.reads o1.acted_at
  pub together : WindowRight (is_beside_act g.machine o.origin) o.inside o.since (o.acts_since || is_act s.event) s.made
  pub errors : let o1 = open_after g.machine m.world m.state o s.made s.received s.event in ErrorsRight o1.wrote o1.acted_at
  pub move : MoveRight o.inside o.owed (report_by g.machine o.origin o.report s.event (outcome_at g.machine m.world m.state o s.made s.received s.event)) s.made
  pub reset : resets_chip s.made ≡ asks_reset g.machine o.origin s.event (outcome_at g.machine m.world m.state o s.made s.received s.event)
  pub stays : resets_chip s.made ≡ true → s.ended ≡ None
  pub ends : EndRight (open_after g.machine m.world m.state o s.made s.received s.event) s.ended
  pub writes : WritesRight g (open_after g.machine m.world m.state o s.made s.received s.event) s.ended
  pub starts : StartsRight g.machine m.world (state_after g.machine m.world m.state o s.made s.received s.event) (open_after g.machine m.world m.state o s.made s.received s.event) s.ended
  pub steps : (open_after g.machine m.world m.state o s.made s.received s.event).steps ≤ g.steps_of o.origin
  pub window : (open_after g.machine m.world m.state o s.made s.received s.event).window ≤ g.window_of o.origin

-- the machine allows the event, and a start of a frame that has acted for no call
abbrev pub IsAllowed : {State Call : Type 0} → Setting State Call → Moment State Call → Open Call → Stepped → Option Event → Type 0
IsAllowed g m o s None = Unit {0}
IsAllowed g m o s (Some Act) = IsSome (outcome_at g.machine m.world m.state o s.made s.received (Some Act))
IsAllowed g m o s (Some (Serve k)) = IsSome (outcome_at g.machine m.world m.state o s.made s.received (Some (Serve k)))
IsAllowed g m o s (Some (Abort u)) = IsSome (outcome_at g.machine m.world m.state o s.made s.received (Some (Abort u)))
IsAllowed g m o s (Some (Start u)) = IsSome (outcome_at g.machine m.world m.state o s.made s.received (Some (Start u))) × StartsUncalled g.machine m.world m.state u o.acted

-- What chip, machine and module decide of it.
pub record OutsideRight {State Call : Type 0} (g : Setting State Call) (m : Moment State Call) (o : Open Call) (s : Stepped) : Type 0 where
  pub waits : stall_of m.chip s.made ≡ 0
  pub value : s.value ≡ value_of m.chip s.made
  pub received : ReceivedRight m.chip m.world s.made s.received
  pub event : IsAllowed g m o s s.event
  pub sends : SendsRight m.chip (begun_by (outcome_at g.machine m.world m.state o s.made s.received s.event)) s.made
  pub shows : ShowsRight g m.chip m.state o.origin o.owed s.made
  pub there : CanApply s.made
  pub own : is_shared s.made || g.may o.origin s.made ≡ true
