-- Whose registers, lines, driver words and units are, and what a driver of some modules keeps to.
use Rattle.std.specs.Prelude.{◌≡◌, ℕ, ◌<◌, ◌^◌, ◌==◌, nat_lt, if◌then◌else◌, Bool, true, false, not, ◌&&◌, ◌||◌, Option, Some, None, IsSome}
use Rattle.std.specs.List.{list_all}
use Rattle.mcal_base.specs.Bits.{has_bit}
use Rattle.mcal_base.specs.Names.{module_number}
use Rattle.mcal_base.specs.declared.TheConstants.{WORDS}
use Rattle.mcal_base.specs.declared.layout.TheConstants.{USERS, STAMPS, SOURCES}
use Rattle.mcal_base.specs.declared.module_name.ModuleName.{ModuleName}
use Rattle.mcal_base.specs.declared.module_name.ModuleName.TheVariants.{Mcu, Port, Gpt, Pwm, Icu, Adc, Spi, Dio, Wdg}
use Rattle.mcal_base.specs.declared.moves.Move.{Move}
use Rattle.mcal_base.specs.declared.moves.Move.TheVariants.{Read, Write, Load, Store}
use Rattle.mcal_base.specs.declared.moves.Unit as units
use Rattle.mcal_base.specs.declared.moves.Unit.TheVariants.{Adc0, Adc1, Spi0, Spi1}
use Rattle.mcal_base.specs.declared.register.Reg.{Reg}
use Rattle.mcal_base.specs.declared.register.Reg.TheVariants.{EnableSet, EnableClear, TimerTarget, TimerPrescaler, TimerOneShot, TimerGateSet, TimerGateClear, TimerRun, TimerFlags, TimerZero, TimerLow, TimerHigh, PulsePeriod, PulseDuty, PulsePolarity, PulseCommit, PulseIdle, PulseOut, PulseEdges, PulseFlags, CaptureCondition, CaptureMode, CaptureGateSet, CaptureGateClear, CaptureCountLow, CaptureCountHigh, CaptureZero, CaptureTimeLow, CaptureTimeHigh, CaptureInfo, CapturePop, CaptureFlush, ConverterList, ConverterGo, ConverterState, ConverterResult, ConverterDone, ConverterAbort, ConverterAck, TriggerSet, TriggerClear, TriggerFlags, SerialSelect, SerialWidth, SerialData, SerialReceived, SerialState, SerialWait, SerialAck, PinDirectionSet, PinDirectionClear, PinOutSet, PinOutClear, PinMode, PortPut, PortLevels, PinFlip, ClockPll, ClockLock, ClockRate, ResetReason, ResetRequest, WatchdogLoad, Ram}
use Rattle.run_model.specs.World.{World}
use Rattle.run_model.specs.Machine.{Starts, Aborts}
use Rattle.run_model.specs.Frame.{Origin}
use Rattle.step_runner.specs.Driver.{Driver}
use Rattle.step_runner.specs.Union.{has_handler}

-- ---- whose each is

-- the module whose block has the register; the enable bits are nobody's alone
abbrev pub module_of_register : Reg → Option ModuleName
module_of_register EnableSet = None
module_of_register EnableClear = None
module_of_register (TimerTarget c) = Some Gpt
module_of_register (TimerPrescaler c) = Some Gpt
module_of_register TimerOneShot = Some Gpt
module_of_register TimerGateSet = Some Gpt
module_of_register TimerGateClear = Some Gpt
module_of_register TimerRun = Some Gpt
module_of_register TimerFlags = Some Gpt
module_of_register TimerZero = Some Gpt
module_of_register (TimerLow c) = Some Gpt
module_of_register (TimerHigh c) = Some Gpt
module_of_register (PulsePeriod c) = Some Pwm
module_of_register (PulseDuty c) = Some Pwm
module_of_register (PulsePolarity c) = Some Pwm
module_of_register (PulseCommit c) = Some Pwm
module_of_register (PulseIdle c) = Some Pwm
module_of_register (PulseOut c) = Some Pwm
module_of_register PulseEdges = Some Pwm
module_of_register PulseFlags = Some Pwm
module_of_register (CaptureCondition c) = Some Icu
module_of_register (CaptureMode c) = Some Icu
module_of_register CaptureGateSet = Some Icu
module_of_register CaptureGateClear = Some Icu
module_of_register (CaptureCountLow c) = Some Icu
module_of_register (CaptureCountHigh c) = Some Icu
module_of_register (CaptureZero c) = Some Icu
module_of_register (CaptureTimeLow c) = Some Icu
module_of_register (CaptureTimeHigh c) = Some Icu
module_of_register (CaptureInfo c) = Some Icu
module_of_register (CapturePop c) = Some Icu
module_of_register (CaptureFlush c) = Some Icu
module_of_register (ConverterList u place) = Some Adc
module_of_register (ConverterGo u) = Some Adc
module_of_register (ConverterState u) = Some Adc
module_of_register (ConverterResult u place) = Some Adc
module_of_register (ConverterDone u) = Some Adc
module_of_register (ConverterAbort u) = Some Adc
module_of_register (ConverterAck u) = Some Adc
module_of_register TriggerSet = Some Adc
module_of_register TriggerClear = Some Adc
module_of_register TriggerFlags = Some Adc
module_of_register (SerialSelect u) = Some Spi
module_of_register (SerialWidth u) = Some Spi
module_of_register (SerialData u) = Some Spi
module_of_register (SerialReceived u) = Some Spi
module_of_register (SerialState u) = Some Spi
module_of_register (SerialWait u) = Some Spi
module_of_register (SerialAck u) = Some Spi
module_of_register (PinDirectionSet half) = Some Port
module_of_register (PinDirectionClear half) = Some Port
module_of_register (PinOutSet half) = Some Port
module_of_register (PinOutClear half) = Some Port
module_of_register (PinMode p) = Some Port
module_of_register (PortPut q) = Some Port
module_of_register (PortLevels q) = Some Port
module_of_register (PinFlip p) = Some Port
module_of_register ClockPll = Some Mcu
module_of_register ClockLock = Some Mcu
module_of_register ClockRate = Some Mcu
module_of_register ResetReason = Some Mcu
module_of_register ResetRequest = Some Mcu
module_of_register WatchdogLoad = Some Wdg
module_of_register (Ram k) = Some Mcu

-- the module whose handlers serve the line
abbrev pub module_of_line : ℕ → Option ModuleName
module_of_line l = if nat_lt l 8 then Some Gpt else if nat_lt l 16 then Some Pwm else if nat_lt l 24 then Some Icu else if nat_lt l 26 then Some Adc else if nat_lt l 28 then Some Spi else if nat_lt l 32 then Some Adc else None

-- the module that has the driver word: of its 8,192, or of a user's array of its objects
abbrev pub module_of_word : ℕ → Option ModuleName
module_of_word k = if nat_lt k 8192 then Some Mcu else if nat_lt k 16384 then Some Port else if nat_lt k 24576 then Some Gpt else if nat_lt k 32768 then Some Pwm else if nat_lt k 40960 then Some Icu else if nat_lt k 49152 then Some Adc else if nat_lt k 57344 then Some Spi else if nat_lt k 65536 then Some Dio else if nat_lt k USERS then Some Wdg else if nat_lt k STAMPS then Some Adc else if nat_lt k SOURCES then Some Icu else if nat_lt k WORDS then Some Spi else None

abbrev pub module_of_unit : units.Unit → ModuleName
module_of_unit Adc0 = Adc
module_of_unit Adc1 = Adc
module_of_unit Spi0 = Spi
module_of_unit Spi1 = Spi

-- ---- modules

-- this module alone
abbrev pub only : ModuleName → ModuleName → Bool
only m n = module_number m == module_number n

-- those of the one and those of the other
abbrev pub all_of : (ModuleName → Bool) → (ModuleName → Bool) → ModuleName → Bool
all_of p q m = p m || q m

-- no module is of both
abbrev pub are_disjoint : (ModuleName → Bool) → (ModuleName → Bool) → Bool
are_disjoint p q = not (p Mcu && q Mcu) && not (p Port && q Port) && not (p Gpt && q Gpt) && not (p Pwm && q Pwm) && not (p Icu && q Icu) && not (p Adc && q Adc) && not (p Spi && q Spi) && not (p Dio && q Dio) && not (p Wdg && q Wdg)

-- it is one of these modules'
abbrev pub is_of : (ModuleName → Bool) → Option ModuleName → Bool
is_of mine None = false
is_of mine (Some m) = mine m

-- the line is one of these modules'
abbrev pub is_line_of : (ModuleName → Bool) → ℕ → Bool
is_line_of mine l = is_of mine (module_of_line l)

-- ---- moves

-- the enable bits are for lines of these modules alone
pub record EnablesWithin (mine : ModuleName → Bool) (bits : ℕ) : Type 0 where
  pub fits : bits < 2 ^ 32
  pub lines : (l : ℕ) → has_bit bits l ≡ true → is_of mine (module_of_line l) ≡ true

abbrev pub WritesWithin : (ModuleName → Bool) → Reg → ℕ → Type 0
WritesWithin mine EnableSet v = EnablesWithin mine v
WritesWithin mine EnableClear v = EnablesWithin mine v
WritesWithin mine r v = is_of mine (module_of_register r) ≡ true

-- the move names a register, a word or lines of these modules alone
abbrev pub NamesWithin : (ModuleName → Bool) → Move → Type 0
NamesWithin mine (Read r) = is_of mine (module_of_register r) ≡ true
NamesWithin mine (Write r v) = WritesWithin mine r v
NamesWithin mine (Load k) = is_of mine (module_of_word k) ≡ true
NamesWithin mine (Store k v) = is_of mine (module_of_word k) ≡ true
NamesWithin mine _ = ⊥

-- none of the enable bits is for a line of these modules
pub record EnablesOthers (mine : ModuleName → Bool) (bits : ℕ) : Type 0 where
  pub fits : bits < 2 ^ 32
  pub lines : (l : ℕ) → is_of mine (module_of_line l) ≡ true → has_bit bits l ≡ false

abbrev pub WritesOthers : (ModuleName → Bool) → Reg → ℕ → Type 0
WritesOthers mine EnableSet v = EnablesOthers mine v
WritesOthers mine EnableClear v = EnablesOthers mine v
WritesOthers mine r v = is_of mine (module_of_register r) ≡ false

-- the move names nothing of these modules
abbrev pub NamesOthers : (ModuleName → Bool) → Move → Type 0
NamesOthers mine (Read r) = is_of mine (module_of_register r) ≡ false
NamesOthers mine (Write r v) = WritesOthers mine r v
NamesOthers mine (Load k) = is_of mine (module_of_word k) ≡ false
NamesOthers mine (Store k v) = is_of mine (module_of_word k) ≡ false
NamesOthers mine _ = Unit {0}

-- ---- drivers

-- A driver of these modules: its frames name what is theirs alone, what it owns is theirs, and so are the lines that it
-- has and polls, and the units that it starts and aborts.
pub record KeepsTo {S C F : Type 0} (mine : ModuleName → Bool) (d : Driver S C F) : Type 0 where
  pub may : (o : Origin C) (made : Move) → d.setting.may o made ≡ true → NamesWithin mine made
  pub owns : (o : Origin C) (made : Move) → NamesOthers mine made → d.owns o made ≡ false
  pub handlers : (l : ℕ) → has_handler d l ≡ true → is_line_of mine l ≡ true
  pub polls : (w : World) (s : S) (c : C) → list_all (is_line_of mine) (d.setting.machine.polls w s c) ≡ true
  pub starts : (w : World) (s : S) (u : units.Unit) (by : Option C) (r : ℕ) → IsSome (d.setting.machine.happens w s (Starts u by r)) → mine (module_of_unit u) ≡ true
  pub aborts : (w : World) (s : S) (u : units.Unit) → IsSome (d.setting.machine.happens w s (Aborts u)) → mine (module_of_unit u) ≡ true
