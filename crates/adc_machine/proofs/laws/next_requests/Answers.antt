use Rattle.adc_machine.proofs.Next.{next_is, none_is}
use Rattle.adc_machine.proofs.laws.next_requests.Goals as goal

pub returns-clause-next : goal.returns-clause-next
returns-clause-next c = next_is

pub returns-clause-none : goal.returns-clause-none
returns-clause-none c = none_is
