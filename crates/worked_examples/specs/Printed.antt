-- A small script and a journal of it, written out, and what is printed of them.
use Rattle.std.specs.Prelude.{ℕ, List, [], ◌∷◌, Some, None, codes}
use Rattle.irq_control.specs.declared.held.Held.TheVariants.{Idle}
use Rattle.mcal_base.specs.declared.directive.Argument.TheVariants.{Number}
use Rattle.mcal_base.specs.declared.directive.Directive.{Directive}
use Rattle.mcal_base.specs.declared.directive.Order.TheVariants.{Call, Finish, Tick, Serve}
use Rattle.mcal_base.specs.declared.moves.Event.TheVariants.{Act}
use Rattle.mcal_base.specs.declared.moves.Move.TheVariants.{Read, Unmask}
use Rattle.mcal_base.specs.declared.register.Reg.TheVariants.{TimerLow}
use Rattle.mcal_base.specs.declared.service.Service.TheVariants.{GptGetTimeElapsed}
use Rattle.run_model.specs.Entry.{Entry, Happens, Begins, Stays, Steps}
use Rattle.run_model.specs.Machine.{number}

-- a timer is asked, time goes on, and a line is served that isn't pending
abbrev pub small_script : List Directive
small_script =
    record { line = 1; order = Call 0 (record { service = GptGetTimeElapsed; arguments = Number 0 ∷ [] }) }
    ∷ record { line = 2; order = Finish }
    ∷ record { line = 4; order = Tick 30 }
    ∷ record { line = 5; order = Serve 0 }
    ∷ []

abbrev pub small_journal : List Entry
small_journal =
    record { line = 1; depth = 0; said = Begins }
    ∷ record { line = 2; depth = 1; said = Steps (record { made = Read (TimerLow 0); value = 30; received = 0; event = Some Act; ended = None }) }
    ∷ record { line = 2; depth = 1; said = Steps (record { made = Unmask; value = 0; received = 0; event = None; ended = Some (number 30) }) }
    ∷ record { line = 4; depth = 0; said = Happens (Tick 30) }
    ∷ record { line = 5; depth = 0; said = Stays Idle }
    ∷ []

-- the report
abbrev pub small_report : List ℕ
small_report = codes "1 ok\n2 return Gpt_GetTimeElapsed 30\n4 ok\n5 held idle\nend calls 1 handlers 0 held 1 errors 0 notes 0\n"

-- the report with a line for each step
abbrev pub small_trace : List ℕ
small_trace =
    codes "1 ok\n2 step 1 read T0.LOW 30 act\n2 step 1 unmask\n2 return Gpt_GetTimeElapsed 30\n4 ok\n5 held idle\nend calls 1 handlers 0 held 1 errors 0 notes 0\n"
