-- The words on a serial unit's wire.
use Rattle.std.specs.Prelude.{ℕ, List, map}
use Rattle.shown_rows.specs.declared.shown.Exchange.{Exchange}

-- exchanges as a machine's wire has them
abbrev pub pairs : List Exchange → List (ℕ × ℕ)
pairs xs = map (λ (x : Exchange). (x.sent, x.received)) xs
