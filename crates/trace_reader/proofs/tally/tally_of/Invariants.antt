use Rattle.std.proofs.Common.{◌≡◌, ◌≤◌, take}
use Rattle.trace_reader.specs.Reading.{tally_of}
use Rattle.trace_reader.proofs.tally.tally_of.Given as goal

abbrev pub invariant-loop-line : goal.invariant-loop-line
invariant-loop-line l = record {
  told : l.tally ≡ tally_of (take l.line-index l.lines);
  calls : l.tally.calls ≤ l.line-index;
  handlers : l.tally.handlers ≤ l.line-index;
  held : l.tally.held ≤ l.line-index;
  errors : l.tally.errors ≤ l.line-index;
  notes : l.tally.notes ≤ l.line-index;
}
