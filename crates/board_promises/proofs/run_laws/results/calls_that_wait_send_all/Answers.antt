use Rattle.board_promises.proofs.SentCalls.{all_sent_so}
use Rattle.board_promises.proofs.run_laws.results.calls_that_wait_send_all.Goals as goal

pub returns : goal.returns
returns _ = all_sent_so
