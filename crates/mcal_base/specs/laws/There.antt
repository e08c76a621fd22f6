-- The tests of what is there are right.
-- Used by wdg_driver: Ground, icu_driver: RefinementRight, gpt_driver: RefinementRight.
use Rattle.std.proofs.Common.{◌≡◌, ℕ, ◌<◌, nat_lt, true, ◌&&◌, arith}
use Rattle.std.proofs.lemmas.Bool.Decides.{nat_tests}
use Rattle.mcal_base.specs.facts.Numbers.{lt_is}
use Rattle.mcal_base.specs.Reach.{IsThere, CanApply}
use Rattle.mcal_base.specs.declared.TheConstants.{WORDS}
use Rattle.mcal_base.specs.declared.register.Reg.{Reg}
use Rattle.mcal_base.specs.declared.register.Reg.TheVariants.{TimerTarget, TimerPrescaler, TimerLow, TimerHigh, PulsePeriod, PulseDuty, PulsePolarity, PulseCommit, PulseIdle, PulseOut, CaptureCondition, CaptureMode, CaptureCountLow, CaptureCountHigh, CaptureZero, CaptureTimeLow, CaptureTimeHigh, CaptureInfo, CapturePop, CaptureFlush, ConverterList, ConverterGo, ConverterState, ConverterResult, ConverterDone, ConverterAbort, ConverterAck, SerialSelect, SerialWidth, SerialData, SerialReceived, SerialState, SerialWait, SerialAck, PinDirectionSet, PinDirectionClear, PinOutSet, PinOutClear, PinMode, PortPut, PortLevels, PinFlip, Ram}
use Rattle.mcal_base.specs.declared.moves.Move.{Move}
use Rattle.mcal_base.specs.declared.moves.Move.TheVariants.{Read, Write, Load, Store}
use Rattle.mcal_base.specs.There.{is_there, names_there}

both_below : (j m k n : ℕ) → nat_lt j m && nat_lt k n ≡ true → (j < m) × (k < n)
both_below j m k n e = (grind (arith, nat_tests), grind (arith, nat_tests))

register_there : (r : Reg) → is_there r ≡ true → IsThere r
register_there (TimerTarget c) e = lt_is c 8 e
register_there (TimerPrescaler c) e = lt_is c 8 e
register_there (TimerLow c) e = lt_is c 8 e
register_there (TimerHigh c) e = lt_is c 8 e
register_there (PulsePeriod c) e = lt_is c 8 e
register_there (PulseDuty c) e = lt_is c 8 e
register_there (PulsePolarity c) e = lt_is c 8 e
register_there (PulseCommit c) e = lt_is c 8 e
register_there (PulseIdle c) e = lt_is c 8 e
register_there (PulseOut c) e = lt_is c 8 e
register_there (CaptureCondition c) e = lt_is c 8 e
register_there (CaptureMode c) e = lt_is c 8 e
register_there (CaptureCountLow c) e = lt_is c 8 e
register_there (CaptureCountHigh c) e = lt_is c 8 e
register_there (CaptureZero c) e = lt_is c 8 e
register_there (CaptureTimeLow c) e = lt_is c 8 e
register_there (CaptureTimeHigh c) e = lt_is c 8 e
register_there (CaptureInfo c) e = lt_is c 8 e
register_there (CapturePop c) e = lt_is c 8 e
register_there (CaptureFlush c) e = lt_is c 8 e
register_there (ConverterList u place) e = both_below u 2 place 8 e
register_there (ConverterResult u place) e = both_below u 2 place 32 e
register_there (ConverterGo u) e = lt_is u 2 e
register_there (ConverterState u) e = lt_is u 2 e
register_there (ConverterDone u) e = lt_is u 2 e
register_there (ConverterAbort u) e = lt_is u 2 e
register_there (ConverterAck u) e = lt_is u 2 e
register_there (SerialSelect u) e = lt_is u 2 e
register_there (SerialWidth u) e = lt_is u 2 e
register_there (SerialData u) e = lt_is u 2 e
register_there (SerialReceived u) e = lt_is u 2 e
register_there (SerialState u) e = lt_is u 2 e
register_there (SerialWait u) e = lt_is u 2 e
register_there (SerialAck u) e = lt_is u 2 e
register_there (PinDirectionSet half) e = lt_is half 2 e
register_there (PinDirectionClear half) e = lt_is half 2 e
register_there (PinOutSet half) e = lt_is half 2 e
register_there (PinOutClear half) e = lt_is half 2 e
register_there (PinMode p) e = lt_is p 64 e
register_there (PortPut q) e = lt_is q 8 e
register_there (PortLevels q) e = lt_is q 8 e
register_there (PinFlip p) e = lt_is p 64 e
register_there (Ram k) e = lt_is k 512 e
register_there _ e = tt

-- a move that passes the test names what is there
pub move_there : (made : Move) → names_there made ≡ true → CanApply made
move_there (Read r) e = register_there r e
move_there (Write r v) e = register_there r e
move_there (Load k) e = lt_is k WORDS e
move_there (Store k v) e = lt_is k WORDS e
move_there _ e = tt
