use Rattle.std.proofs.Common.{◌≡◌, ◌++◌, take, string_bytes}
use Rattle.std.specs.Prelude.{flat_map}
use Rattle.trace_lanes.specs.Page.{label_text}
use Rattle.trace_lanes.proofs.page.put_labels.Given as goal

abbrev pub invariant-loop-label : goal.invariant-loop-label
invariant-loop-label l = string_bytes l.text ≡ string_bytes l.initial.text ++ flat_map (label_text l.used) (take l.label-index l.labels)
