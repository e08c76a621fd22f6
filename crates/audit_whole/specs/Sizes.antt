-- How many stamps are shown.
use Rattle.std.specs.Prelude.{ℕ, ◌<◌, ◌≤◌, nat_le, Option, Some, None, if◌then◌else◌}
use Rattle.std.specs.Option.{IfSome}
use Rattle.module_machines.specs.icu.Machine.{IcuState}
use Rattle.module_machines.specs.icu.Shown.{size_of}
use Rattle.mcal_base.specs.Layout.{length_of}
use Rattle.mcal_base.specs.declared.config.whole.Config.{Config}
use Rattle.mcal_base.specs.declared.layout.Array.TheVariants.{Stamps}

-- a size, where it is at most so large
abbrev pub up_to : (size most : ℕ) → Option ℕ
up_to size most = if nat_le size most then Some size else None

-- there are so many places of the stamps of a channel
abbrev pub SizeFits : Config → IcuState → (channel : ℕ) → Type 0
SizeFits c s n = IfSome (size_of s n) (λ k. k ≤ length_of c (Stamps n))

abbrev pub SizesFit : Config → IcuState → Type 0
SizesFit c s = (n : ℕ) → n < 8 → SizeFits c s n
