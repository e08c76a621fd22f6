-- The numbers that a script and the shows of a run hold, and those of items as a journal holds them, as far as a report prints them.
use Rattle.std.specs.Prelude.{List}
use Rattle.mcal_base.specs.declared.directive.Directive.{Directive}
use Rattle.mcal_base.specs.declared.directive.Order.{Order}
use Rattle.mcal_base.specs.declared.directive.Order.TheVariants as orders
use Rattle.run_model.specs.declared.item.Hardware.{Hardware}
use Rattle.run_model.specs.declared.item.Hardware.TheVariants as hardware
use Rattle.run_model.specs.declared.item.Item.{Item}
use Rattle.run_model.specs.declared.item.What.{What}
use Rattle.run_model.specs.declared.item.What.TheVariants as whats
use Rattle.bench_report.specs.Numbers.{IsNumber, HasMoveNumbers, HasEventNumber, Each}
use Rattle.bench_report.specs.Rows.{Row}
use Rattle.trace_reader.specs.Trace.{HasNameNumbers, HasValueNumbers}

-- of a directive: its line, and the line whose handler it begins
abbrev pub OrderFits : Order → Type 0
OrderFits (orders.Enter line) = IsNumber line
OrderFits (orders.Serve line) = IsNumber line
OrderFits _ = Unit {0}

abbrev pub DirectiveFits : Directive → Type 0
DirectiveFits d = IsNumber d.line × OrderFits d.order

-- of the rows of a show
abbrev pub RowFits : Row → Type 0
RowFits row = HasNameNumbers row.name × Each HasValueNumbers row.values

abbrev pub RowsFit : List Row → Type 0
RowsFit rows = Each RowFits rows

-- ---- items as a journal holds them, with their words elsewhere

abbrev pub HardwareFits : Hardware → Type 0
HardwareFits (hardware.Tick ticks) = IsNumber ticks
HardwareFits _ = Unit {0}

abbrev pub WhatFits : What → Type 0
WhatFits (whats.Happened what) = HardwareFits what
WhatFits whats.Begun = Unit {0}
WhatFits (whats.Held cause) = Unit {0}
WhatFits (whats.Stepped step) = HasMoveNumbers step.made × IsNumber step.value × IsNumber step.received × HasEventNumber step.event
WhatFits (whats.Reset reason dropped) = IsNumber dropped

abbrev pub ItemFits : Item → Type 0
ItemFits item = IsNumber item.line × IsNumber item.depth × WhatFits item.what
