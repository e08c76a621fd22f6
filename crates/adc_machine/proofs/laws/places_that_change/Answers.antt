use Rattle.adc_machine.proofs.Places.{serving_stores, leaves_results}
use Rattle.adc_machine.proofs.Served.{serving_adds}
use Rattle.adc_machine.proofs.laws.places_that_change.Goals as goal

pub returns-clause-serving : goal.returns-clause-serving
returns-clause-serving c = serving_stores

pub returns-clause-others : goal.returns-clause-others
returns-clause-others c = leaves_results

pub returns-clause-newest : goal.returns-clause-newest
returns-clause-newest c = serving_adds
