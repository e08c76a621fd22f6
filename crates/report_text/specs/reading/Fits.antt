-- The numbers of a script and of the frames that it begins, as far as a report prints them.
use Rattle.bench_report.specs.Numbers.{IsNumber}
use Rattle.bench_report.specs.declared.frames.Purpose.{Purpose}
use Rattle.bench_report.specs.declared.frames.Purpose.TheVariants as purposes
use Rattle.mcal_base.specs.declared.directive.Directive.{Directive}
use Rattle.mcal_base.specs.declared.directive.Order.{Order}
use Rattle.mcal_base.specs.declared.directive.Order.TheVariants as orders

-- the line whose handler an order begins has 32 bits
abbrev pub OrderFits : Order → Type 0
OrderFits (orders.Enter line) = IsNumber line
OrderFits (orders.Serve line) = IsNumber line
OrderFits _ = Unit {0}

-- and so has the line of a directive
abbrev pub DirectiveFits : Directive → Type 0
DirectiveFits d = IsNumber d.line × OrderFits d.order

-- what a frame was begun for: the line of a handler
abbrev pub PurposeFits : Purpose → Type 0
PurposeFits (purposes.Call service) = Unit {0}
PurposeFits (purposes.Handler line) = IsNumber line
