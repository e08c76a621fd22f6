-- A channel that fits one time fits each later one.
use Rattle.std.proofs.Common.{ℕ, ◌≤◌, List, [], ◌∷◌, arith}
use Rattle.std.specs.List.{AllByRecursion}
use Rattle.module_machines.specs.pwm.Output.{Output, Idle, Runs, GivesWay}
use Rattle.module_machines.specs.pwm.Units.{IsBegun}
use Rattle.audit_pulses.specs.Stands.{PulseFits}
use Rattle.audit_pulses.specs.declared.pulse.Pulse.{Pulse}

pub begun-later : (o : Output) (since now : ℕ) → since ≤ now → IsBegun o since → IsBegun o now
begun-later (Idle high) since now le b = tt
begun-later (Runs r) since now le b = omega (arith, b, le)
begun-later (GivesWay r n) since now le b = let start = b.0 in (omega (arith, start, le), b.1, b.2)

pub fits-later : (before now : ℕ) (p : Pulse) → before ≤ now → PulseFits before p → PulseFits now p
fits-later before now p le h = let past : p.since ≤ before = h.1 in (h.0, omega (arith, past, le))

pub all-later : (before now : ℕ) (ps : List Pulse) → before ≤ now → AllByRecursion (PulseFits before) ps → AllByRecursion (PulseFits now) ps
all-later before now [] le h = tt
all-later before now (p ∷ ps) le h = (fits-later before now p le h.0, all-later before now ps le h.1)
