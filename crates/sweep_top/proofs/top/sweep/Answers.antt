use Rattle.std.proofs.Common.{◌≡◌, map}
use Rattle.std.specs.Prelude.{string_bytes}
use Rattle.mcal_base.specs.Causes.{Rose}
use Rattle.sweep_top.specs.Wishes.{asked_by}
use Rattle.sweep_top.proofs.Printing.{sink_spared, written_exact, written_nothing, written_read, written_still}
use Rattle.sweep_top.proofs.top.sweep.Goals as goal

pub written-requires : goal.written-requires
written-requires g c = sink_spared (g.S.Source.left c.args.input.now) (asked_by (map string_bytes c.args.words.now)) (Rose (g.S.Source.faults c.args.input.now) (g.S.Source.faults c.printed_by-printed.new.input)) c.printed_by-printed.result c.printed_by-printed.ensures.printed

pub returns : goal.returns
returns g c =
    let left = g.S.Source.left c.args.input.now in
    let form = asked_by (map string_bytes c.args.words.now) in
    let rose = Rose (g.S.Source.faults c.args.input.now) (g.S.Source.faults c.printed_by-printed.new.input) in
    let before = g.K.Sink.taken c.args.out.now in
    let after = g.K.Sink.taken c.written.new.out in
    let printed = c.printed_by-printed in
    record {
      exact = written_exact left form rose c.written.result before after printed.result printed.ensures.printed c.written.ensures.written c.written.ensures.memory;
      read = written_read left form rose c.written.result before after printed.result printed.ensures.printed c.written.ensures.written c.written.ensures.memory;
      write = c.written.ensures.fault;
      write_only = c.written.ensures.still;
      read_only = written_still c.written.result before after printed.result (g.S.Source.faults c.printed_by-printed.new.input ≡ g.S.Source.faults c.args.input.now) printed.ensures.still c.written.ensures.written c.written.ensures.memory;
      nothing = written_nothing left form rose c.written.result before after printed.result printed.ensures.printed c.written.ensures.written c.written.ensures.memory;
    }
