-- What is asked of the machines of a step, beside its event.
use Rattle.std.specs.Prelude.{◌≡◌, Bool, true, false, Option, Some, None}
use Rattle.chip_model.specs.Chip.{Chip}
use Rattle.mcal_base.specs.declared.answer.Answer.{Answer}
use Rattle.mcal_base.specs.declared.moves.Event.{Event}
use Rattle.mcal_base.specs.declared.moves.Event.TheVariants.{Act, Serve, Abort, Start}
use Rattle.mcal_base.specs.declared.moves.Move.{Move}
use Rattle.mcal_base.specs.declared.moves.Move.TheVariants.{Note}
use Rattle.mcal_base.specs.declared.moves.Unit as units
use Rattle.mcal_base.specs.declared.notice.Notice.{Notice}
use Rattle.run_model.specs.Legal.{StartsUncalled}
use Rattle.run_model.specs.Machine.{Machine}
use Rattle.run_model.specs.World.{World}
use Rattle.audit_frames.specs.declared.owing.Owing.{Owing}

-- a start of a frame that has acted is one that is allowed for no call
abbrev pub StartRight : {State Call : Type 0} → Machine State Call → World → State → (acted : Option Answer) → Option Event → Type 0
StartRight mac w s acted (Some (Start u)) = StartsUncalled mac w s u acted
StartRight mac w s acted (Some Act) = Unit {0}
StartRight mac w s acted (Some (Serve l)) = Unit {0}
StartRight mac w s acted (Some (Abort u)) = Unit {0}
StartRight mac w s acted None = Unit {0}

-- the unit that an event starts
abbrev pub started : Option Event → Option units.Unit
started (Some (Start u)) = Some u
started event = None

abbrev pub is_note : Move → Bool
is_note (Note n) = true
is_note made = false

-- what the next notice that is owed shows, where a serving owes it
abbrev pub ShowsNext : {State : Type 0} → (Notice → Chip → State → Type 0) → Chip → State → Option Owing → Type 0
ShowsNext shows chip s None = Unit {0}
ShowsNext shows chip s (Some k) = k.served ≡ true → shows k.notice chip s
