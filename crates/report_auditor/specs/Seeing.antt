-- What a checker has seen chip and machines to agree in, and what of it stays known.
use Rattle.std.specs.Prelude.{◌≡◌, ℕ, Bool, true, false, ◌&&◌, Option, Some, None}
use Rattle.std.specs.Bool.{OnTrue}
use Rattle.std.specs.Option.{IfSome}
use Rattle.chip_model.specs.Chip.{Chip}
use Rattle.mcal_base.specs.Bits.{bits_of}
use Rattle.mcal_base.specs.declared.directive.Order.{Order}
use Rattle.mcal_base.specs.declared.directive.Order.TheVariants.{Tick}
use Rattle.mcal_base.specs.declared.moves.Event.{Event}
use Rattle.mcal_base.specs.declared.moves.Move.{Move}
use Rattle.mcal_base.specs.declared.moves.Unit.{Unit}
use Rattle.run_model.specs.Frame.{Origin}
use Rattle.run_model.specs.Moment.{Setting}
use Rattle.run_model.specs.World.{World}
use Rattle.audit_whole.specs.Touching.{by_move, by_event, by_order}
use Rattle.audit_whole.specs.declared.aspects.Aspect.{Aspect}
use Rattle.audit_whole.specs.declared.aspects.Aspect.TheVariants.{Outputs, Pins, Ram, Stamps, Results, Arrays}
use Rattle.audit_whole.specs.declared.aspects.Touched.{Touched}
use Rattle.audit_whole.specs.declared.aspects.Touched.TheVariants.{Nothing, One, Words}
use Rattle.report_auditor.specs.declared.seen.Seen.{Seen}

-- ---- what is seen

-- what chip and machines agree in, part by part
abbrev pub Agreeing : (Table State : Type 0) → Type 1
Agreeing Table State = Aspect → Table → Chip → World → State → Type 0

-- chip and machines were seen to agree in it
abbrev pub saw : Seen → Aspect → Bool
saw seen Outputs = seen.outputs
saw seen Pins = seen.pins
saw seen Ram = seen.ram
saw seen Stamps = seen.stamps
saw seen Results = seen.results
saw seen Arrays = seen.arrays

-- What is kept of a moment is so, of its chip, world and state: the lines that are used, those that are due, that
-- no unit may start or abort, and each aspect that was seen.
pub record IsSeen {Table State Call : Type 0} (agrees : Agreeing Table State) (setting : Table → Setting State Call) (t : Table) (seen : Seen) (chip : Chip) (w : World) (s : State) : Type 0 where
  pub used : seen.used ≡ bits_of (setting t).used 32
  pub due : IfSome seen.due (λ mask. mask ≡ bits_of ((setting t).machine.due w s) 32)
  pub units : OnTrue seen.units ((u : Unit) → (setting t).machine.startable w s u ≡ false)
  pub each : (a : Aspect) → OnTrue (saw seen a) (agrees a t chip w s)

-- nothing but the lines that are used
abbrev pub nothing : (used : ℕ) → Seen
nothing used = record { used = used; due = None; units = false; outputs = false; pins = false; ram = false; stamps = false; results = false; arrays = false }

-- that is known which is so wherever the mask is open, and that which is so with no frame under way
abbrev pub is_open_seen : Seen → Bool
is_open_seen seen = seen.outputs && seen.pins && seen.arrays

abbrev pub is_rest_seen : Seen → Bool
is_rest_seen seen = seen.ram && seen.pins && seen.stamps && seen.results && seen.arrays

-- ---- what stays known

-- what is known after it was touched
abbrev pub touched_in : Touched → Seen → Seen
touched_in Nothing seen = seen
touched_in (One Outputs) seen = record seen { outputs = false }
touched_in (One Pins) seen = record seen { pins = false }
touched_in (One Ram) seen = record seen { ram = false }
touched_in (One Stamps) seen = record seen { stamps = false }
touched_in (One Results) seen = record seen { results = false }
touched_in (One Arrays) seen = record seen { arrays = false }
touched_in Words seen = record seen { stamps = false; results = false; arrays = false }

-- and where the machines were told something as well
abbrev pub told_in : Touched → Seen → Seen
told_in touched seen = touched_in touched (record seen { due = None; units = false })

-- units that may neither start nor abort stay so through ticks
abbrev pub keeps_units : Order → Bool
keeps_units (Tick n) = true
keeps_units order = false

-- what is known after the hardware moved
abbrev pub moved_in : Order → Seen → Seen
moved_in order seen = touched_in (by_order order) (record seen { due = None; units = seen.units && keeps_units order })

-- what is known after a move, at which an event may have stood that touched this
abbrev pub stepped_in : Move → (told : Option Touched) → Seen → Seen
stepped_in made None seen = touched_in (by_move made) seen
stepped_in made (Some touched) seen = told_in touched (touched_in (by_move made) seen)

-- what an event touches, where one stands at a move
abbrev pub touched_if_told : {State Call : Type 0} → Setting State Call → Origin Call → Option Event → Option Touched
touched_if_told g x None = None
touched_if_told g x (Some e) = Some (by_event g x e)
