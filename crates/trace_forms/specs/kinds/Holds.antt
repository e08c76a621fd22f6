-- Which directives that were held wait.
use Rattle.std.specs.Prelude.{Bool, true, false}
use Rattle.irq_control.specs.declared.held.Held.{Held}
use Rattle.irq_control.specs.declared.held.Held.TheVariants as causes

-- a frame that is held for such a cause may begin later
abbrev pub may_begin : Held → Bool
may_begin causes.Idle = false
may_begin causes.Unknown = false
may_begin _ = true
