-- The stamps, which users see.
use Rattle.std.specs.Prelude.{ℕ, Option, Some, None}
use Rattle.module_machines.specs.icu.Machine.{IcuState, Start, capture_at, stamp_in}

-- the time at a place of a channel's stamps
abbrev pub stamp_at : IcuState → (channel place : ℕ) → ℕ
stamp_at s c i = stamp_in (capture_at s c).stored i

-- how many places are shown: the size of the last start, none without one since the reset
abbrev pub size_by : Option Start → Option ℕ
size_by None = None
size_by (Some a) = Some a.size

abbrev pub size_of : IcuState → (channel : ℕ) → Option ℕ
size_of s c = size_by (capture_at s c).start
