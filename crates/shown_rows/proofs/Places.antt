-- Where so many places are there, fewer are.
use Rattle.std.proofs.Common.{ℕ, ◌≤◌, arith}
use Rattle.mcal_base.specs.declared.config.whole.Config.{Config}
use Rattle.shown_rows.specs.Places.{HasPlaces}
use Rattle.shown_rows.specs.declared.shown.Words.{Words}
use Rattle.shown_rows.specs.declared.shown.Words.TheVariants.{Ram, User, Sent, Received}

pub fewer_places : (c : Config) (of : Words) (fewer size : ℕ) → fewer ≤ size → HasPlaces c of size → HasPlaces c of fewer
fewer_places c Ram fewer size less there = omega (arith, less, there)
fewer_places c (User array) fewer size less there = omega (arith, less, there)
fewer_places c (Sent channel) fewer size less there = let few = there.0 in (omega (arith, less, few), there.1)
fewer_places c (Received channel) fewer size less there = let few = there.0 in (omega (arith, less, few), there.1)
