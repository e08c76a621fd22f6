use Rattle.std.proofs.Common.{◌≡◌, false, map, vec_len}
use Rattle.std.specs.Bool.{OnFalse}
use Rattle.mcal_system.specs.Runs.{moment_of}
use Rattle.bench_top.specs.Runs.{IsKept}
use Rattle.bench_top.proofs.Calling.{AreCalled}
use Rattle.bench_top.proofs.run.run.Given as goal

abbrev pub invariant-loop-at : goal.invariant-loop-at
invariant-loop-at g l =
    let lines = map (λ d. (goal.SerialDevice-dyn g (d.vtable, d.value)).line d.value) in
    record {
      goes : l.system.too_long ≡ false;
      obeyed : l.system.obeyed ≡ l.at;
      config : l.system.config ≡ l.fn.config;
      script : l.system.script ≡ l.script;
      devices : l.system.devices ≡ vec_len l.fn.rack;
      hung : vec_len l.rack ≡ (moment_of l.system).world.devices;
      called : AreCalled l.system (lines l.fn.rack.items) (lines l.rack.items);
      kept : OnFalse l.lost (IsKept l.system l.shown);
    }
