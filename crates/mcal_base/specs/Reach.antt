-- Which registers and driver words there are.
use Rattle.std.specs.Prelude.{◌<◌}
use Rattle.mcal_base.specs.declared.TheConstants.{WORDS}
use Rattle.mcal_base.specs.declared.register.Reg.{Reg}
use Rattle.mcal_base.specs.declared.register.Reg.TheVariants.{TimerTarget, TimerPrescaler, TimerLow, TimerHigh, PulsePeriod, PulseDuty, PulsePolarity, PulseCommit, PulseIdle, PulseOut, CaptureCondition, CaptureMode, CaptureCountLow, CaptureCountHigh, CaptureZero, CaptureTimeLow, CaptureTimeHigh, CaptureInfo, CapturePop, CaptureFlush, ConverterList, ConverterGo, ConverterState, ConverterResult, ConverterDone, ConverterAbort, ConverterAck, SerialSelect, SerialWidth, SerialData, SerialReceived, SerialState, SerialWait, SerialAck, PinDirectionSet, PinDirectionClear, PinOutSet, PinOutClear, PinMode, PortPut, PortLevels, PinFlip, Ram}
use Rattle.mcal_base.specs.declared.moves.Move.{Move}
use Rattle.mcal_base.specs.declared.moves.Move.TheVariants.{Read, Write, Load, Store}

-- the register is there: 8 channels of each kind, 2 units, 2 halves of the pins, 8 ports, 64 pins, 512 RAM words
abbrev pub IsThere : Reg → Type 0
IsThere (TimerTarget c) = c < 8
IsThere (TimerPrescaler c) = c < 8
IsThere (TimerLow c) = c < 8
IsThere (TimerHigh c) = c < 8
IsThere (PulsePeriod c) = c < 8
IsThere (PulseDuty c) = c < 8
IsThere (PulsePolarity c) = c < 8
IsThere (PulseCommit c) = c < 8
IsThere (PulseIdle c) = c < 8
IsThere (PulseOut c) = c < 8
IsThere (CaptureCondition c) = c < 8
IsThere (CaptureMode c) = c < 8
IsThere (CaptureCountLow c) = c < 8
IsThere (CaptureCountHigh c) = c < 8
IsThere (CaptureZero c) = c < 8
IsThere (CaptureTimeLow c) = c < 8
IsThere (CaptureTimeHigh c) = c < 8
IsThere (CaptureInfo c) = c < 8
IsThere (CapturePop c) = c < 8
IsThere (CaptureFlush c) = c < 8
IsThere (ConverterList u place) = (u < 2) × (place < 8)
IsThere (ConverterResult u place) = (u < 2) × (place < 32)
IsThere (ConverterGo u) = u < 2
IsThere (ConverterState u) = u < 2
IsThere (ConverterDone u) = u < 2
IsThere (ConverterAbort u) = u < 2
IsThere (ConverterAck u) = u < 2
IsThere (SerialSelect u) = u < 2
IsThere (SerialWidth u) = u < 2
IsThere (SerialData u) = u < 2
IsThere (SerialReceived u) = u < 2
IsThere (SerialState u) = u < 2
IsThere (SerialWait u) = u < 2
IsThere (SerialAck u) = u < 2
IsThere (PinDirectionSet half) = half < 2
IsThere (PinDirectionClear half) = half < 2
IsThere (PinOutSet half) = half < 2
IsThere (PinOutClear half) = half < 2
IsThere (PinMode p) = p < 64
IsThere (PortPut q) = q < 8
IsThere (PortLevels q) = q < 8
IsThere (PinFlip p) = p < 64
IsThere (Ram k) = k < 512
IsThere _ = Unit {0}

-- the move names a register or a driver word that is there
abbrev pub CanApply : Move → Type 0
CanApply (Read r) = IsThere r
CanApply (Write r value) = IsThere r
CanApply (Load k) = k < WORDS
CanApply (Store k value) = k < WORDS
CanApply _ = Unit {0}
