use Rattle.std.proofs.Common.{◌≡◌, map, take}
use Rattle.std.specs.Prelude.{string_bytes}
use Rattle.std.specs.List.{filter_map}
use Rattle.run_model.specs.Packing.{item_of}
use Rattle.sweep_top.specs.Reported as spec
use Rattle.sweep_top.proofs.seeing.moves_among.Given as goal

abbrev pub invariant-loop-kept : goal.invariant-loop-kept
invariant-loop-kept l = map string_bytes l.moves.items ≡ filter_map (λ k. spec.move_on (item_of l.lists.rests.now k)) (take l.kept-index l.lists.items.now)
