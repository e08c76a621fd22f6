-- How a report spells the causes for which a directive is held.
use Rattle.std.specs.Prelude.{ℕ, List, codes}
use Rattle.irq_control.specs.declared.held.Held.{Held}
use Rattle.irq_control.specs.declared.held.Held.TheVariants.{Masked, Level, Reentry, Idle, Full, Empty, Busy, Unknown, Frames}

-- a cause, as it is printed
abbrev pub held_text : Held → List ℕ
held_text Masked = codes "masked"
held_text Level = codes "level"
held_text Reentry = codes "reentry"
held_text Idle = codes "idle"
held_text Full = codes "full"
held_text Empty = codes "empty"
held_text Busy = codes "busy"
held_text Unknown = codes "unknown"
held_text Frames = codes "open"
