-- The items of a journal bring numbers of 32 bits, since its words and the levels of its items are such.
use Rattle.std.proofs.Common.{ℕ, List, [], ◌∷◌}
use Rattle.std.specs.Prelude.{drop}
use Rattle.run_model.specs.Entry.{words_at, order_at, said_at, entries}
use Rattle.run_model.specs.declared.item.Hardware.{Hardware}
use Rattle.run_model.specs.declared.item.Hardware.TheVariants as hardware
use Rattle.run_model.specs.declared.item.Item.{Item}
use Rattle.run_model.specs.declared.item.Span.{Span}
use Rattle.run_model.specs.declared.item.What.{What}
use Rattle.run_model.specs.declared.item.What.TheVariants as whats
use Rattle.bench_report.specs.Numbers.{IsNumber, Each, SaidFits, EntryFits}
use Rattle.trace_promises.proofs.Within.{each_take, each_drop}
use Rattle.trace_promises.specs.Keeping.{OrderBrings}
use Rattle.trace_promises.specs.Numbers.{SaidBrings, BringsNumbers, HardwareBrings, WhatBrings, ItemBrings}

module _ (words : List ℕ) (fit : Each IsNumber words) where
  stretch_fits : (s : Span) → Each IsNumber (words_at words s)
  stretch_fits s = each_take IsNumber s.count (drop s.at words) (each_drop IsNumber s.at words fit)

  order_brings : (h : Hardware) → HardwareBrings h → OrderBrings (order_at words h)
  order_brings (hardware.Tick n) b = tt
  order_brings (hardware.Level p v) b = tt
  order_brings (hardware.Analog i v) b = b
  order_brings (hardware.Trigger i) b = tt
  order_brings (hardware.Miso u s) b = stretch_fits s
  order_brings (hardware.SpiFault u) b = tt
  order_brings hardware.Detach b = tt
  order_brings (hardware.Fill c s) b = stretch_fits s
  order_brings (hardware.Show s) b = tt

  said_brings : (what : What) → SaidFits (said_at words what) → WhatBrings what → SaidBrings (said_at words what)
  said_brings (whats.Happened h) k b = order_brings h b
  said_brings whats.Begun k b = tt
  said_brings (whats.Held cause) k b = tt
  said_brings (whats.Stepped step) k b = k.2
  said_brings (whats.Reset reason dropped) k b = tt

  pub items_bring : (items : List Item) → Each EntryFits (entries words items) → Each ItemBrings items → Each BringsNumbers (entries words items)
  items_bring [] k b = tt
  items_bring (item ∷ items) k b = (said_brings item.what k.0.2 b.0, items_bring items k.1 b.1)
