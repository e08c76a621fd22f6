-- The numbers of the modules' states that are shown, and those of a configuration and of a journal on which they rest:
-- 32 bits each.
use Rattle.std.specs.Prelude.{ℕ, ◌≤◌, List, length, Option, Some, None}
use Rattle.mcal_base.specs.declared.config.mcu.McuRamSection.{McuRamSection}
use Rattle.mcal_base.specs.declared.config.spi.SpiChannel.{SpiChannel}
use Rattle.mcal_base.specs.declared.config.whole.Config.{Config}
use Rattle.run_model.specs.Entry.{Entry, Said, Happens, Steps}
use Rattle.run_model.specs.declared.item.Hardware.{Hardware}
use Rattle.run_model.specs.declared.item.Hardware.TheVariants.{Analog}
use Rattle.run_model.specs.declared.item.Item.{Item}
use Rattle.run_model.specs.declared.item.What.{What}
use Rattle.run_model.specs.declared.item.What.TheVariants.{Happened}
use Rattle.module_machines.specs.mcu.Machine as clock
use Rattle.module_machines.specs.declared.mcu.table.Section.{Section}
use Rattle.module_machines.specs.icu.Edges.{Edge}
use Rattle.module_machines.specs.icu.Machine as captures
use Rattle.adc_machine.specs.Groups.{GroupState, Request, Round, StoredRound}
use Rattle.adc_machine.specs.Turns.{AdcState}
use Rattle.spi_machine.specs.Channels.{ChannelState}
use Rattle.spi_machine.specs.State.{Carrying, SpiState}
use Rattle.spi_machine.specs.Transfers.{JobWord, Run}
use Rattle.mcal_drivers.specs.Setting.{SystemState}
use Rattle.bench_report.specs.Numbers.{IsNumber, Each}
use Rattle.trace_promises.specs.Keeping.{OrderBrings}

-- of a configuration: its RAM sections are numbered, and filled, with such numbers, and its serial channels send such
-- ones by default
abbrev pub SectionFits : McuRamSection → Type 0
SectionFits x = IsNumber x.default_value

abbrev pub DefaultFits : SpiChannel → Type 0
DefaultFits x = IsNumber x.default_data

pub record ConfigFits (c : Config) : Type 0 where
  pub few : length c.mcu.ram_sections ≤ 8
  pub small : Each SectionFits c.mcu.ram_sections
  pub defaults : Each DefaultFits c.spi.channels

-- of a journal: its items bring such numbers, the level or the words of an order and the word that a step receives
abbrev pub SaidBrings : Said → Type 0
SaidBrings (Happens order) = OrderBrings order
SaidBrings (Steps step) = IsNumber step.received
SaidBrings _ = Unit {0}

abbrev pub BringsNumbers : Entry → Type 0
BringsNumbers e = SaidBrings e.said

-- the same of items as a journal holds them, with their words elsewhere: the level of an analog input
abbrev pub HardwareBrings : Hardware → Type 0
HardwareBrings (Analog input level) = IsNumber level
HardwareBrings _ = Unit {0}

abbrev pub WhatBrings : What → Type 0
WhatBrings (Happened h) = HardwareBrings h
WhatBrings _ = Unit {0}

abbrev pub ItemBrings : Item → Type 0
ItemBrings item = WhatBrings item.what

-- ---- of the states

-- those with which RAM sections were filled
abbrev pub FillFits : Section → Type 0
FillFits x = IsNumber x.default_value

abbrev pub ClockFits : clock.McuState → Type 0
ClockFits s = Each FillFits s.fills

-- the times of edges that wait, and of stamps that were stored
abbrev pub EdgeFits : Edge → Type 0
EdgeFits e = IsNumber e.time

abbrev pub StampFits : captures.Stamp → Type 0
StampFits x = IsNumber x.time

abbrev pub CaptureFits : captures.Capture → Type 0
CaptureFits x = Each EdgeFits x.waiting × Each StampFits x.stored

abbrev pub CapturesFit : captures.IcuState → Type 0
CapturesFit s = (c : ℕ) → CaptureFits (captures.capture_at s c)

-- the values that the requests of converter groups have kept, those that the rounds of units took over, and those that were stored
abbrev pub RequestFits : Option Request → Type 0
RequestFits None = Unit {0}
RequestFits (Some q) = Each IsNumber q.kept

abbrev pub GroupFits : GroupState → Type 0
GroupFits x = RequestFits x.waiting

abbrev pub RoundFits : Option Round → Type 0
RoundFits None = Unit {0}
RoundFits (Some r) = Each IsNumber r.request.kept

abbrev pub StoredFits : StoredRound → Type 0
StoredFits x = Each IsNumber x.values

abbrev pub ConverterFits : AdcState → Type 0
ConverterFits s = Each GroupFits s.groups × Each RoundFits s.units × Each StoredFits s.results

-- the words of serial channels, those of a running job, and the pairs on a wire
abbrev pub ChannelFits : ChannelState → Type 0
ChannelFits x = Each IsNumber x.source × Each IsNumber x.destination × Each IsNumber x.written × Each IsNumber x.received

abbrev pub SentFits : JobWord → Type 0
SentFits x = IsNumber x.sent

abbrev pub RunFits : Option Run → Type 0
RunFits None = Unit {0}
RunFits (Some r) = Each SentFits r.words × Each IsNumber r.received × IsNumber r.transfer.incoming

-- those of the job that a unit carries out for a call
abbrev pub CarryingFits : Option Carrying → Type 0
CarryingFits None = Unit {0}
CarryingFits (Some x) = RunFits (Some x.run)

abbrev pub PairFits : ℕ × ℕ → Type 0
PairFits p = IsNumber p.0 × IsNumber p.1

abbrev pub WireFits : List (ℕ × ℕ) → Type 0
WireFits pairs = Each PairFits pairs

abbrev pub SerialFits : SpiState → Type 0
SerialFits s = Each ChannelFits s.channels × Each RunFits s.units × Each WireFits s.wires × Each CarryingFits s.carried

abbrev pub StateFits : SystemState → Type 0
StateFits s = ClockFits s.0.0.0 × CapturesFit s.1.0.1 × ConverterFits s.1.1.0 × SerialFits s.1.1.1
