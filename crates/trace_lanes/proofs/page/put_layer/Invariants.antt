use Rattle.std.proofs.Common.{◌≡◌, ◌++◌, take, string_bytes}
use Rattle.std.specs.Prelude.{flat_map}
use Rattle.trace_lanes.specs.Page.{layer_part}
use Rattle.trace_lanes.proofs.page.put_layer.Given as goal

abbrev pub invariant-loop-shape : goal.invariant-loop-shape
invariant-loop-shape l = string_bytes l.text ≡ string_bytes l.initial.text ++ flat_map (layer_part l.used l.wanted) (take l.shape-index l.shapes)
