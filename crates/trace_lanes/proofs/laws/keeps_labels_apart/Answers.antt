use Rattle.trace_lanes.proofs.LabelLaws.{clear_labels}
use Rattle.trace_lanes.proofs.laws.keeps_labels_apart.Goals as goal

pub returns : goal.returns
returns c = clear_labels
