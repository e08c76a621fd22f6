use Rattle.std.proofs.Common.{rules, ◌≡◌, ◌∷◌, []}
use Rattle.config_tables.proofs.Levels.{ones}
use Rattle.config_tables.proofs.spi.both_at_one.Goals as goal

pub returns-clause-list : goal.returns-clause-list
returns-clause-list c = let e : c.push-2.new.self ≡ 1 ∷ 1 ∷ [] = search rules in rw e ones
