use Rattle.step_runner.specs.UnionLaws.{outside-split}
use Rattle.service_outline.specs.guests.Guest.{every}
use Rattle.service_outline.proofs.guests.hosted.HostedModule.source_use.Goals as goal

pub returns-clause-used : goal.returns-clause-used
returns-clause-used g c w ps s fits out h = c.source_use.ensures.used w h.hosts s fits.0 (outside-split every ps h.hosts h.guests h.splits out).0 h.host
