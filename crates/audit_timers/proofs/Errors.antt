-- A call without an error has what it takes.
use Rattle.std.proofs.Common.{◌≡◌, Bool, None, arith, zero, suc}
use Rattle.module_machines.specs.gpt.Checks.{error_by}
use Rattle.audit_timers.specs.Stands.{CallTakes}
use Rattle.module_machines.specs.declared.gpt.call.Call.{Call}
use Rattle.module_machines.specs.declared.gpt.call.Call.TheVariants.{Init, DeInit, SetMode, Channel}
use Rattle.module_machines.specs.declared.gpt.call.ChannelCall.TheVariants.{GetTimeElapsed, GetTimeRemaining, StartTimer, StopTimer, Change}
use Rattle.module_machines.specs.declared.gpt.table.GptTable.{GptTable}

pub takes-what : (d : GptTable) (call : Call) (u a b : Bool) → error_by d call u a b ≡ None → CallTakes call
takes-what d Init u a b e = record {}
takes-what d DeInit u a b e = record {}
takes-what d (SetMode m) u a b e = record {}
takes-what d (Channel c GetTimeElapsed) u a b e = record {}
takes-what d (Channel c GetTimeRemaining) u a b e = record {}
takes-what d (Channel c StopTimer) u a b e = record {}
takes-what d (Channel c (Change by)) u a b e = record {}
takes-what d (Channel c (StartTimer (suc n))) u a b e = omega arith
takes-what d (Channel c (StartTimer zero)) u a b e = grind (arith, e)
