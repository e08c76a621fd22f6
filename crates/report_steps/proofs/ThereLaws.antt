-- What a legal step names passes the test of what is there.
use Rattle.std.proofs.Common.{◌≡◌, nat_lt, true, refl}
use Rattle.mcal_base.specs.Reach.{IsThere, CanApply}
use Rattle.mcal_base.specs.There.{is_there, names_there}
use Rattle.mcal_base.specs.declared.TheConstants.{WORDS}
use Rattle.mcal_base.specs.declared.moves.Move.{Move}
use Rattle.mcal_base.specs.declared.moves.Move.TheVariants.{Read, Write, Load, Store}
use Rattle.mcal_base.specs.declared.register.Reg.{Reg}
use Rattle.mcal_base.specs.declared.register.Reg.TheVariants.{TimerTarget, TimerPrescaler, TimerLow, TimerHigh, PulsePeriod, PulseDuty, PulsePolarity, PulseCommit, PulseIdle, PulseOut, CaptureCondition, CaptureMode, CaptureCountLow, CaptureCountHigh, CaptureZero, CaptureTimeLow, CaptureTimeHigh, CaptureInfo, CapturePop, CaptureFlush, ConverterList, ConverterResult, ConverterGo, ConverterState, ConverterDone, ConverterAbort, ConverterAck, SerialSelect, SerialWidth, SerialData, SerialReceived, SerialState, SerialWait, SerialAck, PinDirectionSet, PinDirectionClear, PinOutSet, PinOutClear, PinMode, PortPut, PortLevels, PinFlip, Ram}
use Rattle.mcal_base.specs.facts.Numbers.{lt_from}
use Rattle.audit_frames.proofs.Deciding.{and_join}

register_passes : (r : Reg) → IsThere r → is_there r ≡ true
register_passes (TimerTarget c) h = lt_from c 8 h
register_passes (TimerPrescaler c) h = lt_from c 8 h
register_passes (TimerLow c) h = lt_from c 8 h
register_passes (TimerHigh c) h = lt_from c 8 h
register_passes (PulsePeriod c) h = lt_from c 8 h
register_passes (PulseDuty c) h = lt_from c 8 h
register_passes (PulsePolarity c) h = lt_from c 8 h
register_passes (PulseCommit c) h = lt_from c 8 h
register_passes (PulseIdle c) h = lt_from c 8 h
register_passes (PulseOut c) h = lt_from c 8 h
register_passes (CaptureCondition c) h = lt_from c 8 h
register_passes (CaptureMode c) h = lt_from c 8 h
register_passes (CaptureCountLow c) h = lt_from c 8 h
register_passes (CaptureCountHigh c) h = lt_from c 8 h
register_passes (CaptureZero c) h = lt_from c 8 h
register_passes (CaptureTimeLow c) h = lt_from c 8 h
register_passes (CaptureTimeHigh c) h = lt_from c 8 h
register_passes (CaptureInfo c) h = lt_from c 8 h
register_passes (CapturePop c) h = lt_from c 8 h
register_passes (CaptureFlush c) h = lt_from c 8 h
register_passes (ConverterList u place) h = and_join (nat_lt u 2) (nat_lt place 8) (lt_from u 2 h.0) (lt_from place 8 h.1)
register_passes (ConverterResult u place) h = and_join (nat_lt u 2) (nat_lt place 32) (lt_from u 2 h.0) (lt_from place 32 h.1)
register_passes (ConverterGo u) h = lt_from u 2 h
register_passes (ConverterState u) h = lt_from u 2 h
register_passes (ConverterDone u) h = lt_from u 2 h
register_passes (ConverterAbort u) h = lt_from u 2 h
register_passes (ConverterAck u) h = lt_from u 2 h
register_passes (SerialSelect u) h = lt_from u 2 h
register_passes (SerialWidth u) h = lt_from u 2 h
register_passes (SerialData u) h = lt_from u 2 h
register_passes (SerialReceived u) h = lt_from u 2 h
register_passes (SerialState u) h = lt_from u 2 h
register_passes (SerialWait u) h = lt_from u 2 h
register_passes (SerialAck u) h = lt_from u 2 h
register_passes (PinDirectionSet half) h = lt_from half 2 h
register_passes (PinDirectionClear half) h = lt_from half 2 h
register_passes (PinOutSet half) h = lt_from half 2 h
register_passes (PinOutClear half) h = lt_from half 2 h
register_passes (PinMode p) h = lt_from p 64 h
register_passes (PortPut q) h = lt_from q 8 h
register_passes (PortLevels q) h = lt_from q 8 h
register_passes (PinFlip p) h = lt_from p 64 h
register_passes (Ram k) h = lt_from k 512 h
register_passes _ h = refl

pub passes : (made : Move) → CanApply made → names_there made ≡ true
passes (Read r) h = register_passes r h
passes (Write r v) h = register_passes r h
passes (Load k) h = lt_from k WORDS h
passes (Store k v) h = lt_from k WORDS h
passes _ h = refl
