use Rattle.serde_json.specs.View.{view}
use Rattle.sweep_report.specs.Table.{table_of}
use Rattle.sweep_report.proofs.Floats.{plain_line}
use Rattle.sweep_report.proofs.json.sweep_json.Goals as goal

pub returns : goal.returns
returns c = plain_line (view c.in_ok-value.value) (table_of c.args.shown) c.line_of.result c.in_ok-value.ensures c.line_of.ensures
