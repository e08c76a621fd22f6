-- Reads that go on behind their first fault.
use Rattle.std.specs.Prelude.{Option, Some, None, Result, Ok, Err}
use Rattle.config_keys.specs.declared.fault.ConfigFault.{ConfigFault}

-- the first fault, after one more read
abbrev pub kept : {T : Type 0} → Option ConfigFault → Result T ConfigFault → Option ConfigFault
kept (Some f) r = Some f
kept None (Ok x) = None
kept None (Err e) = Some e

-- the value, unless there was a fault
abbrev pub finished : {T : Type 0} → Option ConfigFault → T → Result T ConfigFault
finished None x = Ok x
finished (Some f) x = Err f
