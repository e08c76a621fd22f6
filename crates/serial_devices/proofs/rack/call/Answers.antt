use Rattle.std.proofs.Common.{arith}
use Rattle.serial_devices.proofs.Calls.{one_called}
use Rattle.serial_devices.proofs.rack.call.Goals as goal

pub returns-clause-one : goal.returns-clause-one
returns-clause-one g c = one_called _ c.args.rack.now.items c.args.place _ _ _ _ (omega arith) c.index_mut.ensures.value c.exchange_one.ensures.one
