use Rattle.adc_machine.proofs.Kept.{makes_none}
use Rattle.adc_machine.proofs.Numbers.{numbered_first, numbered_after}
use Rattle.adc_machine.proofs.Requests.{start_requests, trigger_requests, trigger_drops, requests_grow}
use Rattle.adc_machine.proofs.laws.requests_get_greater_numbers.Goals as goal

pub returns-clause-start : goal.returns-clause-start
returns-clause-start c = start_requests

pub returns-clause-trigger : goal.returns-clause-trigger
returns-clause-trigger c = trigger_requests

pub returns-clause-mark : goal.returns-clause-mark
returns-clause-mark c = trigger_drops

pub returns-clause-first : goal.returns-clause-first
returns-clause-first c = numbered_first

pub returns-clause-known : goal.returns-clause-known
returns-clause-known c = numbered_after

pub returns-clause-kept : goal.returns-clause-kept
returns-clause-kept c = makes_none

pub returns-clause-grows : goal.returns-clause-grows
returns-clause-grows c = requests_grow
