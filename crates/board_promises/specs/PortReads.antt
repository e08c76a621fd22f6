-- Reads of channels, ports and channel groups in a journal: each is of one moment.
use Rattle.std.specs.Prelude.{◌≡◌, ℕ, ◌+◌, ◌*◌, Bool, List, [], ◌∷◌, Option, Some, None}
use Rattle.mcal_base.specs.Bits.{bits_of}
use Rattle.mcal_base.specs.declared.answer.Answer.{Answer}
use Rattle.mcal_base.specs.declared.config.whole.Config.{Config}
use Rattle.mcal_base.specs.declared.moves.Event.{Event}
use Rattle.mcal_base.specs.declared.moves.Event.TheVariants.{Act}
use Rattle.run_model.specs.declared.item.Stepped.{Stepped}
use Rattle.run_model.specs.Frame.{Origin, Called, Open, open_after, state_after}
use Rattle.run_model.specs.Moment.{Moment, Transition, Steps, after}
use Rattle.run_model.specs.Machine.{number}
use Rattle.step_runner.specs.declared.either.Either.TheVariants.{Right}
use Rattle.module_machines.specs.dio.Values.{level_answer, moved_down}
use Rattle.module_machines.specs.dio.Table.{table_of, pins_of}
use Rattle.module_machines.specs.declared.dio.table.PortPins.{PortPins}
use Rattle.module_machines.specs.declared.dio.call.Call.{Call}
use Rattle.module_machines.specs.declared.dio.call.Call.TheVariants.{ReadChannel, FlipChannel, ReadPort, ReadChannelGroup}
use Rattle.mcal_drivers.specs.Setting.{SystemState, SystemCall, system_setting}
use Rattle.mcal_drivers.specs.Shows.{level_at}

-- the value of some pins of a port, by the levels of all its pins
abbrev pub value_by : PortPins → (level : ℕ → Bool) → ℕ
value_by pins level = moved_down pins (bits_of (λ k. level (8 * pins.port + k)) 8)

-- what a call about these pins answers, where it reads: by the levels before its act, which a read leaves, and a flip by the level after it
abbrev pub read_by : Call → PortPins → (before after : ℕ → Bool) → Option Answer
read_by (ReadChannel p) pins before after = Some (level_answer (before p))
read_by (FlipChannel p) pins before after = Some (level_answer (after p))
read_by (ReadPort q) pins before after = Some (number (value_by pins before))
read_by (ReadChannelGroup g) pins before after = Some (number (value_by pins before))
read_by _ pins before after = None

-- an act answered so, where something is read
abbrev pub Answers : (read acted : Option Answer) → Type 0
Answers None acted = Unit {0}
Answers (Some a) acted = acted ≡ Some a

-- a call that finds its channel, port or group answered by these levels
abbrev pub AnswersBy : Call → Option PortPins → (before after : ℕ → Bool) → (acted : Option Answer) → Type 0
AnswersBy call None before after acted = Unit {0}
AnswersBy call (Some pins) before after acted = Answers (read_by call pins before after) acted

-- an act of such a call, of this answer, is by the levels of all pins in this world: in the state before it, and after it
abbrev pub ActReads : Config → Moment SystemState SystemCall → Origin SystemCall → Option Event → (later : SystemState) → (acted : Option Answer) → Type 0
ActReads c m (Called (Right call)) (Some Act) later acted = AnswersBy call (pins_of (table_of c.port c.dio) call) (λ p. level_at c m.world m.state p) (λ p. level_at c m.world later p) acted
ActReads c m origin event later acted = Unit {0}

-- a step of the top frame
abbrev pub StepReads : Config → Moment SystemState SystemCall → List (Open SystemCall) → Stepped → Type 0
StepReads c m [] s = Unit {0}
StepReads c m (o ∷ os) s =
    ActReads c m o.origin s.event
    (state_after (system_setting c).machine m.world m.state o s.made s.received s.event)
    (open_after (system_setting c).machine m.world m.state o s.made s.received s.event).acted

-- each deed is so: what a read answers are the levels of all its pins at one moment, that of its act
abbrev pub DeedReads : Config → Moment SystemState SystemCall → Transition SystemCall → Type 0
DeedReads c m (Steps s) = StepReads c m m.opens s
DeedReads c m d = Unit {0}

abbrev pub ReadAtOnce : Config → Moment SystemState SystemCall → List (Transition SystemCall) → Type 0
ReadAtOnce c m [] = Unit {0}
ReadAtOnce c m (d ∷ ds) = DeedReads c m d × ReadAtOnce c (after (system_setting c) m d) ds
