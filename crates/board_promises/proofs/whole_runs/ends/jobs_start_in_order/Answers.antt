-- The law is proved over the definitions.
use Rattle.board_promises.proofs.JobOrder.{all_in_order}
use Rattle.board_promises.proofs.whole_runs.ends.jobs_start_in_order.Goals as goal

pub returns : goal.returns
returns c = all_in_order
