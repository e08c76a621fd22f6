use Rattle.machine_laws.proofs.SentWords.{sent_failed_exactly}
use Rattle.machine_laws.proofs.Words.{failed_exactly}
use Rattle.machine_laws.proofs.serial.faults.words_fail_by_faults.Goals as goal

pub returns-clause-started : goal.returns-clause-started
returns-clause-started _ = failed_exactly

pub returns-clause-sent : goal.returns-clause-sent
returns-clause-sent _ = sent_failed_exactly
