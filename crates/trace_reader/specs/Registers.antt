-- The register that a word may be: its letters before a number, the letters after it, and the numbers.
use Rattle.std.specs.Prelude.{ℕ, ◌&&◌, Bool, List, [], ◌∷◌, ◌++◌, Option, min, option_map, codes, bytes_eq}
use Rattle.std.specs.List.{find}
use Rattle.mcal_base.specs.declared.register.Reg.{Reg}
use Rattle.mcal_base.specs.declared.register.Reg.TheVariants as regs
use Rattle.trace_reader.specs.declared.registers.Row as code
use Rattle.trace_reader.specs.declared.registers.Row.TheVariants as ways

-- a register by the letters before its number and those after it
pub record Row : Type 0 where
  pub letter : List ℕ
  pub name : List ℕ
  pub reg : Reg

abbrev pub row : List ℕ → List ℕ → Reg → Row
row letter name reg = record { letter = letter; name = name; reg = reg }

abbrev pub row_of : code.Row → Row
row_of (ways.Letters letters reg) = row letters.now (codes "") reg
row_of (ways.Named letter name reg) = row (letter ∷ []) name.now reg

-- the registers of enable bits and timers, with a number
abbrev pub timers : ℕ → List Row
timers n =
    row (codes "IE.SET") (codes "") regs.EnableSet ∷
    row (codes "IE.CLR") (codes "") regs.EnableClear ∷
    row (codes "T") (codes ".TARGET") (regs.TimerTarget n) ∷
    row (codes "T") (codes ".PRE") (regs.TimerPrescaler n) ∷
    row (codes "T.ONESHOT") (codes "") regs.TimerOneShot ∷
    row (codes "T.GATESET") (codes "") regs.TimerGateSet ∷
    row (codes "T.GATECLR") (codes "") regs.TimerGateClear ∷
    row (codes "T.RUN") (codes "") regs.TimerRun ∷
    row (codes "T.FLAGS") (codes "") regs.TimerFlags ∷
    row (codes "T.ZERO") (codes "") regs.TimerZero ∷
    row (codes "T") (codes ".LOW") (regs.TimerLow n) ∷
    row (codes "T") (codes ".HIGH") (regs.TimerHigh n) ∷
    []

-- of pulse outputs
abbrev pub pulses : ℕ → List Row
pulses n =
    row (codes "P") (codes ".PERIOD") (regs.PulsePeriod n) ∷
    row (codes "P") (codes ".DUTY") (regs.PulseDuty n) ∷
    row (codes "P") (codes ".POL") (regs.PulsePolarity n) ∷
    row (codes "P") (codes ".COMMIT") (regs.PulseCommit n) ∷
    row (codes "P") (codes ".IDLE") (regs.PulseIdle n) ∷
    row (codes "P") (codes ".OUT") (regs.PulseOut n) ∷
    row (codes "P.EDGES") (codes "") regs.PulseEdges ∷
    row (codes "P.FLAGS") (codes "") regs.PulseFlags ∷
    []

-- of capture channels
abbrev pub captures : ℕ → List Row
captures n =
    row (codes "C") (codes ".COND") (regs.CaptureCondition n) ∷
    row (codes "C") (codes ".MODE") (regs.CaptureMode n) ∷
    row (codes "C.GATESET") (codes "") regs.CaptureGateSet ∷
    row (codes "C.GATECLR") (codes "") regs.CaptureGateClear ∷
    row (codes "C") (codes ".COUNTLOW") (regs.CaptureCountLow n) ∷
    row (codes "C") (codes ".COUNTHIGH") (regs.CaptureCountHigh n) ∷
    row (codes "C") (codes ".ZERO") (regs.CaptureZero n) ∷
    row (codes "C") (codes ".TIMELOW") (regs.CaptureTimeLow n) ∷
    row (codes "C") (codes ".TIMEHIGH") (regs.CaptureTimeHigh n) ∷
    row (codes "C") (codes ".INFO") (regs.CaptureInfo n) ∷
    row (codes "C") (codes ".POP") (regs.CapturePop n) ∷
    row (codes "C") (codes ".FLUSH") (regs.CaptureFlush n) ∷
    []

-- of converters and triggers, with a second number behind the name
abbrev pub converters : ℕ → ℕ → List Row
converters n k =
    row (codes "A") (codes ".LIST") (regs.ConverterList (min n 255) (min k 255)) ∷
    row (codes "A") (codes ".GO") (regs.ConverterGo n) ∷
    row (codes "A") (codes ".STATE") (regs.ConverterState n) ∷
    row (codes "A") (codes ".RESULT") (regs.ConverterResult (min n 255) (min k 255)) ∷
    row (codes "A") (codes ".DONE") (regs.ConverterDone n) ∷
    row (codes "A") (codes ".ABORT") (regs.ConverterAbort n) ∷
    row (codes "A") (codes ".ACK") (regs.ConverterAck n) ∷
    row (codes "A.TRIGSET") (codes "") regs.TriggerSet ∷
    row (codes "A.TRIGCLR") (codes "") regs.TriggerClear ∷
    row (codes "A.TRIGFLAGS") (codes "") regs.TriggerFlags ∷
    []

-- of serial units
abbrev pub serials : ℕ → List Row
serials n =
    row (codes "S") (codes ".SELECT") (regs.SerialSelect n) ∷
    row (codes "S") (codes ".WIDTH") (regs.SerialWidth n) ∷
    row (codes "S") (codes ".DATA") (regs.SerialData n) ∷
    row (codes "S") (codes ".RX") (regs.SerialReceived n) ∷
    row (codes "S") (codes ".STATE") (regs.SerialState n) ∷
    row (codes "S") (codes ".WAIT") (regs.SerialWait n) ∷
    row (codes "S") (codes ".ACK") (regs.SerialAck n) ∷
    []

-- of pins
abbrev pub pins : ℕ → List Row
pins n =
    row (codes "D.DIRSET") (codes "") (regs.PinDirectionSet n) ∷
    row (codes "D.DIRCLR") (codes "") (regs.PinDirectionClear n) ∷
    row (codes "D.OUTSET") (codes "") (regs.PinOutSet n) ∷
    row (codes "D.OUTCLR") (codes "") (regs.PinOutClear n) ∷
    row (codes "D") (codes ".MODE") (regs.PinMode n) ∷
    row (codes "Q") (codes ".PUT") (regs.PortPut n) ∷
    row (codes "Q") (codes ".IN") (regs.PortLevels n) ∷
    row (codes "F") (codes ".FLIP") (regs.PinFlip n) ∷
    []

-- of the clock, of resets, of the watchdog and of RAM
abbrev pub clocks : ℕ → List Row
clocks n =
    row (codes "M.PLL") (codes "") regs.ClockPll ∷
    row (codes "M.LOCK") (codes "") regs.ClockLock ∷
    row (codes "M.RATE") (codes "") regs.ClockRate ∷
    row (codes "M.REASON") (codes "") regs.ResetReason ∷
    row (codes "M.RESET") (codes "") regs.ResetRequest ∷
    row (codes "W.LOAD") (codes "") regs.WatchdogLoad ∷
    row (codes "R") (codes "") (regs.Ram n) ∷
    []

-- all registers
abbrev pub rows : ℕ → ℕ → List Row
rows n k = (((((timers n ++ pulses n) ++ captures n) ++ converters n k) ++ serials n) ++ pins n) ++ clocks n

-- whether these letters stand before its number and after it
abbrev pub is_spelled : List ℕ → List ℕ → Row → Bool
is_spelled letter name r = bytes_eq r.name name && bytes_eq r.letter letter

-- the first of some registers with these letters
abbrev pub chosen : List Row → List ℕ → List ℕ → Option Reg
chosen rows letter name = option_map (λ r. r.reg) (find (is_spelled letter name) rows)
