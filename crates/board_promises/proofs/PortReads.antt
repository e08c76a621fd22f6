-- What a read of a channel, a port or a group answers are the levels of all its pins at one moment.
use Rattle.std.proofs.Common.{◌≡◌, ℕ, ◌+◌, ◌*◌, Bool, List, [], ◌∷◌, Option, Some, None, ap}
use Rattle.std.proofs.Math.Path.{fun_ext}
use Rattle.chip_model.specs.Wiring.{wiring_of}
use Rattle.config_facts.specs.Valid.{IsValid}
use Rattle.mcal_base.specs.Bits.{bits_of}
use Rattle.mcal_base.specs.declared.answer.Answer.{Answer}
use Rattle.mcal_base.specs.declared.config.whole.Config.{Config}
use Rattle.mcal_base.specs.declared.moves.Event.{Event}
use Rattle.mcal_base.specs.declared.moves.Event.TheVariants.{Act, Serve, Abort, Start}
use Rattle.run_model.specs.declared.item.Stepped.{Stepped}
use Rattle.run_model.specs.Frame.{Origin, Called, Entered, Open, Brought, brought_by, happening_at, outcome_of, state_by, acted_by}
use Rattle.run_model.specs.Machine.{Outcome, number}
use Rattle.run_model.specs.Moment.{Moment, Transition, Begins, Enters, Steps, Happens, Resets, after}
use Rattle.run_model.specs.World.{World}
use Rattle.step_runner.specs.declared.either.Either.TheVariants.{Left, Right}
use Rattle.module_machines.specs.dio.Values.{level_answer, moved_down}
use Rattle.module_machines.specs.dio.Machine.{does_by}
use Rattle.module_machines.specs.dio.Table.{table_of, pins_of}
use Rattle.module_machines.specs.declared.dio.table.PortPins.{PortPins}
use Rattle.module_machines.specs.declared.dio.call.Call.{Call}
use Rattle.module_machines.specs.declared.dio.call.Call.TheVariants.{ReadChannel, WriteChannel, FlipChannel, ReadPort, WritePort, ReadChannelGroup, WriteChannelGroup}
use Rattle.module_machines.specs.pwm.Table as pulse_table
use Rattle.mcal_drivers.specs.Setting.{SystemState, SystemCall, host_pins, system_setting}
use Rattle.mcal_drivers.specs.Shows.{level_at}
use Rattle.mcal_drivers.proofs.Levels.{same_level}
use Rattle.board_promises.specs.PortReads.{AnswersBy, ActReads, StepReads, DeedReads, ReadAtOnce}

module _ (c : Config) (v : IsValid c) where
  -- what such a call does to these states, and what it answers
  abbrev done : World → SystemState → Call → Option PortPins → Outcome SystemState
  done w s call pins = does_by (host_pins (pulse_table.table_of c.pwm) (wiring_of c).outputs) w s call pins

  -- a port's value by the levels
  value_same : (w : World) (s : SystemState) (pins : PortPins) → Some (number (moved_down pins (bits_of (λ k. (host_pins (pulse_table.table_of c.pwm) (wiring_of c).outputs).level w s (8 * pins.port + k)) 8))) ≡ Some (number (moved_down pins (bits_of (λ k. level_at c w s (8 * pins.port + k)) 8)))
  value_same w s pins = ap (λ (f : ℕ → Bool). Some (number (moved_down pins (bits_of f 8)))) (fun_ext (λ k. same_level c v.pwm w s (8 * pins.port + k)))

  by_levels : (w : World) (s : SystemState) (call : Call) (pins : Option PortPins) → AnswersBy call pins (λ p. level_at c w s p) (λ p. level_at c w (done w s call pins).state p) (Some (done w s call pins).told.answer)
  by_levels w s call None = tt
  by_levels w s (ReadChannel p) (Some pins) = ap (λ b. Some (level_answer b)) (same_level c v.pwm w s p)
  by_levels w s (FlipChannel p) (Some pins) = ap (λ b. Some (level_answer b)) (same_level c v.pwm w (done w s (FlipChannel p) (Some pins)).state p)
  by_levels w s (ReadPort q) (Some pins) = value_same w s pins
  by_levels w s (ReadChannelGroup g) (Some pins) = value_same w s pins
  by_levels w s (WriteChannel p high) (Some pins) = tt
  by_levels w s (WritePort q value) (Some pins) = tt
  by_levels w s (WriteChannelGroup g value) (Some pins) = tt

  -- an act by what it brings; nothing else reads
  act_reads : (m : Moment SystemState SystemCall) (b : Brought) (before : Option Answer) (origin : Origin SystemCall) (event : Option Event) → let out = outcome_of (system_setting c).machine m.world m.state (happening_at origin b event) in ActReads c m origin event (state_by m.state out) (acted_by before event out)
  unfolding system_setting
  act_reads m b before (Called (Right call)) (Some Act) = by_levels m.world m.state call (pins_of (table_of c.port c.dio) call)
  act_reads m b before (Called (Right call)) (Some (Serve l)) = tt
  act_reads m b before (Called (Right call)) (Some (Abort u)) = tt
  act_reads m b before (Called (Right call)) (Some (Start u)) = tt
  act_reads m b before (Called (Right call)) None = tt
  act_reads m b before (Called (Left call)) event = tt
  act_reads m b before (Entered l) event = tt

  step_reads : (m : Moment SystemState SystemCall) (os : List (Open SystemCall)) (s : Stepped) → StepReads c m os s
  step_reads m [] s = tt
  step_reads m (o ∷ os) s = act_reads m (brought_by m.world o.committed s.made s.received) o.acted o.origin s.event

  deed_reads : (m : Moment SystemState SystemCall) (d : Transition SystemCall) → DeedReads c m d
  deed_reads m (Begins call level) = tt
  deed_reads m (Enters line) = tt
  deed_reads m (Steps s) = step_reads m m.opens s
  deed_reads m (Happens order) = tt
  deed_reads m (Resets reason) = tt

  pub all_read : (m : Moment SystemState SystemCall) (ds : List (Transition SystemCall)) → ReadAtOnce c m ds
  all_read m [] = tt
  all_read m (d ∷ ds) = (deed_reads m d, all_read (after (system_setting c) m d) ds)
