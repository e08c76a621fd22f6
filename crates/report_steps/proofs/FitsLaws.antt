-- The numbers of a move that names what is there have 32 bits, where what it writes has.
use Rattle.std.proofs.Common.{ℕ, ◌<◌, ◌≤◌, arith}
use Rattle.bench_report.specs.Numbers.{HasNumbers, IsNumber}
use Rattle.mcal_base.specs.Reach.{IsThere}
use Rattle.mcal_base.specs.declared.TheConstants.{WORDS}
use Rattle.mcal_base.specs.declared.register.Reg.{Reg}
use Rattle.mcal_base.specs.declared.register.Reg.TheVariants.{TimerTarget, TimerPrescaler, TimerLow, TimerHigh, PulsePeriod, PulseDuty, PulsePolarity, PulseCommit, PulseIdle, PulseOut, CaptureCondition, CaptureMode, CaptureCountLow, CaptureCountHigh, CaptureZero, CaptureTimeLow, CaptureTimeHigh, CaptureInfo, CapturePop, CaptureFlush, ConverterList, ConverterGo, ConverterState, ConverterResult, ConverterDone, ConverterAbort, ConverterAck, SerialSelect, SerialWidth, SerialData, SerialReceived, SerialState, SerialWait, SerialAck, PinDirectionSet, PinDirectionClear, PinOutSet, PinOutClear, PinMode, PortPut, PortLevels, PinFlip, Ram}

below : (n k : ℕ) → n < k → k ≤ 4294967296 → n < 4294967296
below n k lt le = omega (arith, lt, le)

below_byte : (n k : ℕ) → n < k → k ≤ 256 → n < 256
below_byte n k lt le = omega (arith, lt, le)

pub register_fits : (r : Reg) → IsThere r → HasNumbers r
register_fits (TimerTarget c) h = below c 8 h (omega arith)
register_fits (TimerPrescaler c) h = below c 8 h (omega arith)
register_fits (TimerLow c) h = below c 8 h (omega arith)
register_fits (TimerHigh c) h = below c 8 h (omega arith)
register_fits (PulsePeriod c) h = below c 8 h (omega arith)
register_fits (PulseDuty c) h = below c 8 h (omega arith)
register_fits (PulsePolarity c) h = below c 8 h (omega arith)
register_fits (PulseCommit c) h = below c 8 h (omega arith)
register_fits (PulseIdle c) h = below c 8 h (omega arith)
register_fits (PulseOut c) h = below c 8 h (omega arith)
register_fits (CaptureCondition c) h = below c 8 h (omega arith)
register_fits (CaptureMode c) h = below c 8 h (omega arith)
register_fits (CaptureCountLow c) h = below c 8 h (omega arith)
register_fits (CaptureCountHigh c) h = below c 8 h (omega arith)
register_fits (CaptureZero c) h = below c 8 h (omega arith)
register_fits (CaptureTimeLow c) h = below c 8 h (omega arith)
register_fits (CaptureTimeHigh c) h = below c 8 h (omega arith)
register_fits (CaptureInfo c) h = below c 8 h (omega arith)
register_fits (CapturePop c) h = below c 8 h (omega arith)
register_fits (CaptureFlush c) h = below c 8 h (omega arith)
register_fits (ConverterList u place) h = (below_byte u 2 h.0 (omega arith), below_byte place 8 h.1 (omega arith))
register_fits (ConverterResult u place) h = (below_byte u 2 h.0 (omega arith), below_byte place 32 h.1 (omega arith))
register_fits (ConverterGo u) h = below u 2 h (omega arith)
register_fits (ConverterState u) h = below u 2 h (omega arith)
register_fits (ConverterDone u) h = below u 2 h (omega arith)
register_fits (ConverterAbort u) h = below u 2 h (omega arith)
register_fits (ConverterAck u) h = below u 2 h (omega arith)
register_fits (SerialSelect u) h = below u 2 h (omega arith)
register_fits (SerialWidth u) h = below u 2 h (omega arith)
register_fits (SerialData u) h = below u 2 h (omega arith)
register_fits (SerialReceived u) h = below u 2 h (omega arith)
register_fits (SerialState u) h = below u 2 h (omega arith)
register_fits (SerialWait u) h = below u 2 h (omega arith)
register_fits (SerialAck u) h = below u 2 h (omega arith)
register_fits (PinDirectionSet half) h = below half 2 h (omega arith)
register_fits (PinDirectionClear half) h = below half 2 h (omega arith)
register_fits (PinOutSet half) h = below half 2 h (omega arith)
register_fits (PinOutClear half) h = below half 2 h (omega arith)
register_fits (PinMode p) h = below p 64 h (omega arith)
register_fits (PortPut q) h = below q 8 h (omega arith)
register_fits (PortLevels q) h = below q 8 h (omega arith)
register_fits (PinFlip p) h = below p 64 h (omega arith)
register_fits (Ram k) h = below k 512 h (omega arith)
register_fits _ h = tt

pub word_fits : (word : ℕ) → word < WORDS → IsNumber word
word_fits word h = below word WORDS h (omega arith)
