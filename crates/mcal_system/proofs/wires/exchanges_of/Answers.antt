use Rattle.std.proofs.Common.{◌∙◌}
use Rattle.mcal_system.proofs.WireTold.{first_told}
use Rattle.mcal_system.proofs.wires.exchanges_of.Goals as goal

pub loop-rest-preserved : goal.loop-rest-preserved
loop-rest-preserved c =
    let lists = c.lists-lists.result in
    first_told c.args.unit lists c.loop-rest.rest.now _ c.loop-rest.told c.take.new.self (rw c.says.ensures at (c.in_ok-take.ensures lists.words.now)) c.in-len1-up.len_at_least ∙ c.loop-rest.invariant
