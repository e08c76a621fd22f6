-- What a handle that was lent ends as.
use Rattle.std.specs.Borrow.{Lends, MutBor, Fml}
use Rattle.mcal_c.specs.declared.handle.Handle.{Handle}
use Rattle.mcal_c.specs.declared.handle.Bench.{Bench}
use Rattle.mcal_c.specs.contracts.handle.Handle as holder
use Rattle.mcal_c.specs.contracts.handle.Bench as bench

-- a handle whose value is another
abbrev pub with_value : Handle → Bench → Handle
with_value h w = record h { value = w }

-- it ends with the last value behind r
abbrev pub HandleLends : MutBor Handle → MutBor Bench → Fml
HandleLends s r = Lends holder.the_row bench.the_row s r (with_value s.now)
