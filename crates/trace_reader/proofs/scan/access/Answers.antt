use Rattle.trace_reader.proofs.Scanning.{access_is}
use Rattle.trace_reader.proofs.scan.access.Goals as goal

pub returns : goal.returns
returns c = access_is c.args.text.now c.in_ok-register.rest.now c.in_ok-rest.rest.now c.in_ok-value.rest.now c.in_ok-register.register c.in_ok-value.value c.in_ok-register.ensures c.in_ok-rest.ensures c.in_ok-value.ensures
