use Rattle.std.proofs.Common.{refl}
use Rattle.module_machines.specs.icu.Table.{channel_of}
use Rattle.audit_captures.proofs.ModuleLaws.{blank-stands, no-stamps, none-few}
use Rattle.audit_captures.proofs.captures.Captures.new.Goals as goal

pub returns-clause-is : goal.returns-clause-is
returns-clause-is c = record { initialised = refl; few = none-few; channels = λ n lt. blank-stands (channel_of c.args.driver n) n; stamps = λ n i lt small. no-stamps n i }
