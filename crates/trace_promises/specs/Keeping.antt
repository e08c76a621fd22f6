-- What holds of a machine's state at first, and stays whatever happens that brings numbers of 32 bits.
use Rattle.mcal_base.specs.declared.directive.Order.{Order}
use Rattle.mcal_base.specs.declared.directive.Order.TheVariants.{Analog}
use Rattle.run_model.specs.Entry.{words_of_order}
use Rattle.run_model.specs.Frame.{state_by}
use Rattle.run_model.specs.Machine.{Happening, Acts, Serves, Starts, Aborts, Moves, Restarts}
use Rattle.run_model.specs.Moment.{Setting}
use Rattle.run_model.specs.World.{World, Sample}
use Rattle.bench_report.specs.Numbers.{IsNumber, Each}

-- what an order brings: the level of an analog input, or words
abbrev pub OrderBrings : Order → Type 0
OrderBrings (Analog input level) = IsNumber level
OrderBrings order = Each IsNumber (words_of_order order)

-- the levels that analog inputs took
abbrev pub SampleFits : Sample → Type 0
SampleFits x = IsNumber x.value

abbrev pub WorldFits : World → Type 0
WorldFits w = Each SampleFits w.samples

-- what a happening brings: what an order brings, or the word that comes in
abbrev pub HappeningFits : {Call : Type 0} → Happening Call → Type 0
HappeningFits (Acts call times) = Unit {0}
HappeningFits (Serves line received) = IsNumber received
HappeningFits (Starts u made_by received) = IsNumber received
HappeningFits (Aborts u) = Unit {0}
HappeningFits (Moves order) = OrderBrings order
HappeningFits (Restarts reason) = Unit {0}

-- It holds after power on, and stays whatever happens that brings such numbers, be it allowed or not, where analog inputs took such levels.
pub record Keeps {State Call : Type 0} (g : Setting State Call) (P : State → Type 0) : Type 0 where
  pub first : P g.first
  pub stays : (w : World) (s : State) (h : Happening Call) → WorldFits w → HappeningFits h → P s → P (state_by s (g.machine.happens w s h))
