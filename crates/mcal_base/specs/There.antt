-- Whether the register or the driver word that a move names is there.
use Rattle.std.specs.Prelude.{nat_lt, Bool, true, ◌&&◌}
use Rattle.mcal_base.specs.declared.TheConstants.{WORDS}
use Rattle.mcal_base.specs.declared.register.Reg.{Reg}
use Rattle.mcal_base.specs.declared.register.Reg.TheVariants.{TimerTarget, TimerPrescaler, TimerLow, TimerHigh, PulsePeriod, PulseDuty, PulsePolarity, PulseCommit, PulseIdle, PulseOut, CaptureCondition, CaptureMode, CaptureCountLow, CaptureCountHigh, CaptureZero, CaptureTimeLow, CaptureTimeHigh, CaptureInfo, CapturePop, CaptureFlush, ConverterList, ConverterGo, ConverterState, ConverterResult, ConverterDone, ConverterAbort, ConverterAck, SerialSelect, SerialWidth, SerialData, SerialReceived, SerialState, SerialWait, SerialAck, PinDirectionSet, PinDirectionClear, PinOutSet, PinOutClear, PinMode, PortPut, PortLevels, PinFlip, Ram}
use Rattle.mcal_base.specs.declared.moves.Move.{Move}
use Rattle.mcal_base.specs.declared.moves.Move.TheVariants.{Read, Write, Load, Store}

abbrev pub is_there : Reg → Bool
is_there (TimerTarget c) = nat_lt c 8
is_there (TimerPrescaler c) = nat_lt c 8
is_there (TimerLow c) = nat_lt c 8
is_there (TimerHigh c) = nat_lt c 8
is_there (PulsePeriod c) = nat_lt c 8
is_there (PulseDuty c) = nat_lt c 8
is_there (PulsePolarity c) = nat_lt c 8
is_there (PulseCommit c) = nat_lt c 8
is_there (PulseIdle c) = nat_lt c 8
is_there (PulseOut c) = nat_lt c 8
is_there (CaptureCondition c) = nat_lt c 8
is_there (CaptureMode c) = nat_lt c 8
is_there (CaptureCountLow c) = nat_lt c 8
is_there (CaptureCountHigh c) = nat_lt c 8
is_there (CaptureZero c) = nat_lt c 8
is_there (CaptureTimeLow c) = nat_lt c 8
is_there (CaptureTimeHigh c) = nat_lt c 8
is_there (CaptureInfo c) = nat_lt c 8
is_there (CapturePop c) = nat_lt c 8
is_there (CaptureFlush c) = nat_lt c 8
is_there (ConverterList u place) = nat_lt u 2 && nat_lt place 8
is_there (ConverterResult u place) = nat_lt u 2 && nat_lt place 32
is_there (ConverterGo u) = nat_lt u 2
is_there (ConverterState u) = nat_lt u 2
is_there (ConverterDone u) = nat_lt u 2
is_there (ConverterAbort u) = nat_lt u 2
is_there (ConverterAck u) = nat_lt u 2
is_there (SerialSelect u) = nat_lt u 2
is_there (SerialWidth u) = nat_lt u 2
is_there (SerialData u) = nat_lt u 2
is_there (SerialReceived u) = nat_lt u 2
is_there (SerialState u) = nat_lt u 2
is_there (SerialWait u) = nat_lt u 2
is_there (SerialAck u) = nat_lt u 2
is_there (PinDirectionSet half) = nat_lt half 2
is_there (PinDirectionClear half) = nat_lt half 2
is_there (PinOutSet half) = nat_lt half 2
is_there (PinOutClear half) = nat_lt half 2
is_there (PinMode p) = nat_lt p 64
is_there (PortPut q) = nat_lt q 8
is_there (PortLevels q) = nat_lt q 8
is_there (PinFlip p) = nat_lt p 64
is_there (Ram k) = nat_lt k 512
is_there _ = true

abbrev pub names_there : Move → Bool
names_there (Read r) = is_there r
names_there (Write r v) = is_there r
names_there (Load k) = nat_lt k WORDS
names_there (Store k v) = nat_lt k WORDS
names_there _ = true
