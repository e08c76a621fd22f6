use Rattle.std.proofs.Common.{◌≡◌, take}
use Rattle.std.specs.List.{filter_map}
use Rattle.run_model.specs.Packing.{item_of}
use Rattle.sweep_top.specs.Reported as spec
use Rattle.sweep_top.proofs.seeing.steps_among.Given as goal

abbrev pub invariant-loop-kept : goal.invariant-loop-kept
invariant-loop-kept l = l.steps.items ≡ filter_map (λ k. spec.step_on (item_of l.lists.rests.now k)) (take l.kept-index l.lists.items.now)
