-- The numbers of a journal's items, as far as a report prints them: 32 bits each, but for those of two registers.
use Rattle.std.specs.Prelude.{ℕ, ◌<◌, List, [], ◌∷◌, Option, Some, None}
use Rattle.mcal_base.specs.declared.answer.Answer.{Answer}
use Rattle.mcal_base.specs.declared.directive.Order.{Order}
use Rattle.mcal_base.specs.declared.directive.Order.TheVariants as orders
use Rattle.mcal_base.specs.declared.moves.Event.{Event}
use Rattle.mcal_base.specs.declared.moves.Event.TheVariants as events
use Rattle.mcal_base.specs.declared.moves.Move.{Move}
use Rattle.mcal_base.specs.declared.moves.Move.TheVariants as moves
use Rattle.mcal_base.specs.declared.register.Reg.{Reg}
use Rattle.mcal_base.specs.declared.register.Reg.TheVariants as regs
use Rattle.run_model.specs.Entry.{Entry, Said, Happens, Begins, Stays, Steps, Resets}
use Rattle.run_model.specs.declared.item.Stepped.{Stepped}

-- a number of 32 bits
abbrev pub IsNumber : ℕ → Type 0
IsNumber n = n < 4294967296

-- the numbers of a register
abbrev pub HasNumbers : Reg → Type 0
HasNumbers (regs.TimerTarget c) = IsNumber c
HasNumbers (regs.TimerPrescaler c) = IsNumber c
HasNumbers (regs.TimerLow c) = IsNumber c
HasNumbers (regs.TimerHigh c) = IsNumber c
HasNumbers (regs.PulsePeriod c) = IsNumber c
HasNumbers (regs.PulseDuty c) = IsNumber c
HasNumbers (regs.PulsePolarity c) = IsNumber c
HasNumbers (regs.PulseCommit c) = IsNumber c
HasNumbers (regs.PulseIdle c) = IsNumber c
HasNumbers (regs.PulseOut c) = IsNumber c
HasNumbers (regs.CaptureCondition c) = IsNumber c
HasNumbers (regs.CaptureMode c) = IsNumber c
HasNumbers (regs.CaptureCountLow c) = IsNumber c
HasNumbers (regs.CaptureCountHigh c) = IsNumber c
HasNumbers (regs.CaptureZero c) = IsNumber c
HasNumbers (regs.CaptureTimeLow c) = IsNumber c
HasNumbers (regs.CaptureTimeHigh c) = IsNumber c
HasNumbers (regs.CaptureInfo c) = IsNumber c
HasNumbers (regs.CapturePop c) = IsNumber c
HasNumbers (regs.CaptureFlush c) = IsNumber c
HasNumbers (regs.ConverterList u k) = (u < 256) × (k < 256)
HasNumbers (regs.ConverterGo u) = IsNumber u
HasNumbers (regs.ConverterState u) = IsNumber u
HasNumbers (regs.ConverterResult u k) = (u < 256) × (k < 256)
HasNumbers (regs.ConverterDone u) = IsNumber u
HasNumbers (regs.ConverterAbort u) = IsNumber u
HasNumbers (regs.ConverterAck u) = IsNumber u
HasNumbers (regs.SerialSelect u) = IsNumber u
HasNumbers (regs.SerialWidth u) = IsNumber u
HasNumbers (regs.SerialData u) = IsNumber u
HasNumbers (regs.SerialReceived u) = IsNumber u
HasNumbers (regs.SerialState u) = IsNumber u
HasNumbers (regs.SerialWait u) = IsNumber u
HasNumbers (regs.SerialAck u) = IsNumber u
HasNumbers (regs.PinDirectionSet h) = IsNumber h
HasNumbers (regs.PinDirectionClear h) = IsNumber h
HasNumbers (regs.PinOutSet h) = IsNumber h
HasNumbers (regs.PinOutClear h) = IsNumber h
HasNumbers (regs.PinMode p) = IsNumber p
HasNumbers (regs.PortPut q) = IsNumber q
HasNumbers (regs.PortLevels q) = IsNumber q
HasNumbers (regs.PinFlip p) = IsNumber p
HasNumbers (regs.Ram k) = IsNumber k
HasNumbers _ = Unit {0}

-- the numbers of a move
abbrev pub HasMoveNumbers : Move → Type 0
HasMoveNumbers (moves.Read reg) = HasNumbers reg
HasMoveNumbers (moves.Write reg written) = HasNumbers reg × IsNumber written
HasMoveNumbers (moves.Load word) = IsNumber word
HasMoveNumbers (moves.Store word stored) = IsNumber word × IsNumber stored
HasMoveNumbers (moves.Note notice) = IsNumber notice.id
HasMoveNumbers _ = Unit {0}

-- the number of an event
abbrev pub HasEventNumber : Option Event → Type 0
HasEventNumber (Some (events.Serve line)) = IsNumber line
HasEventNumber _ = Unit {0}

-- each is such
abbrev pub Each : {T : Type 0} → (T → Type 0) → List T → Type 0
Each P [] = Unit {0}
Each P (x ∷ xs) = P x × Each P xs

-- ---- items

-- the numbers of the answer with which a frame ended
abbrev pub AnswerFits : Option Answer → Type 0
AnswerFits None = Unit {0}
AnswerFits (Some answer) = Each IsNumber answer.words

-- of a step
abbrev pub StepFits : Stepped → Type 0
StepFits s = HasMoveNumbers s.made × IsNumber s.value × IsNumber s.received × HasEventNumber s.event × AnswerFits s.ended

-- of what happened: its ticks
abbrev pub HappensFits : Order → Type 0
HappensFits (orders.Tick ticks) = IsNumber ticks
HappensFits _ = Unit {0}

-- of an item; what it shows has its rows elsewhere
abbrev pub SaidFits : Said → Type 0
SaidFits (Happens what) = HappensFits what
SaidFits Begins = Unit {0}
SaidFits (Stays cause) = Unit {0}
SaidFits (Steps step) = StepFits step
SaidFits (Resets reason dropped) = IsNumber dropped

abbrev pub EntryFits : Entry → Type 0
EntryFits e = IsNumber e.line × IsNumber e.depth × SaidFits e.said
