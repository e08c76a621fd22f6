use Rattle.std.proofs.Common.{◌≡◌, ◌+◌, ◌∙◌, ap, sym, arith, length, vec_len}
use Rattle.std.proofs.lemmas.Bool.{OnFalse_at}
use Rattle.bench_top.proofs.Calling.{called_first, called_more, hung_so, told_run}
use Rattle.mcal_system.specs.Runs.{SystemRun, moment_of}
use Rattle.bench_top.proofs.Keeping.{at_err, at_ok, kept_first, kept_so, kept_up, on_false, shown_of, stopped_run, whole_run}
use Rattle.bench_top.proofs.run.run.Goals as goal
use Rattle.bench_top.proofs.run.run.Goals.{then-not-lost+then-is_err-2, else-not-lost, else-not-lost-via-then-not-lost+else-is_err-2, else-not-lost-via-else-not-lost}

pub loop-at-init : goal.loop-at-init
loop-at-init g c =
    let is = c.in_ok-system.ensures in
    let none = ap (λ (r : SystemRun). r.journal.entries) is in
    record {
      goes = ap (λ (r : SystemRun). r.too_long) is;
      obeyed = ap (λ (r : SystemRun). r.obeyed) is;
      config = ap (λ (r : SystemRun). r.config) is;
      script = ap (λ (r : SystemRun). r.script) is;
      devices = ap (λ (r : SystemRun). r.devices) is ∙ c.len.ensures;
      hung = sym (ap (λ (r : SystemRun). (moment_of r).world.devices) is ∙ c.len.ensures);
      called = called_first c.in_ok-system.system _ none;
      kept = kept_first c.in_ok-system.system c.new-shown.result none c.new-shown.ensures;
    }

pub returns-then-is_err-clause-stopped : goal.returns-then-is_err-clause-stopped
returns-then-is_err-clause-stopped g c =
    stopped_run c.obey.new.self (vec_len c.args.rack.now) c.args.config c.args.script.now c.into_journal.result.entries (c.obey.ensures.same.devices ∙ c.loop-at.invariant.devices) (c.obey.ensures.same.config ∙ c.loop-at.invariant.config) (c.obey.ensures.same.script ∙ c.loop-at.invariant.script)
    (at_err c.obey.result c.is_err.result c.is_err.ensures.value c.if-is_err.true c.obey.ensures.stopped).0 c.into_journal.ensures.stopped c.into_journal.ensures.within

pub returns-then-is_err-clause-told : goal.returns-then-is_err-clause-told
returns-then-is_err-clause-told g c =
    let stopped = stopped_run c.obey.new.self (vec_len c.args.rack.now) c.args.config c.args.script.now c.into_journal.result.entries (c.obey.ensures.same.devices ∙ c.loop-at.invariant.devices) (c.obey.ensures.same.config ∙ c.loop-at.invariant.config) (c.obey.ensures.same.script ∙ c.loop-at.invariant.script)
    (at_err c.obey.result c.is_err.result c.is_err.ensures.value c.if-is_err.true c.obey.ensures.stopped).0 c.into_journal.ensures.stopped c.into_journal.ensures.within in
    told_run c.obey.new.self (vec_len c.args.rack.now) c.args.config c.args.script.now c.into_journal.result.entries _ _ (c.obey.ensures.same.devices ∙ c.loop-at.invariant.devices) (c.obey.ensures.same.config ∙ c.loop-at.invariant.config) (c.obey.ensures.same.script ∙ c.loop-at.invariant.script)
    (ap (λ w. w.entries) c.into_journal.ensures.journal) (hung_so _ c.args.rack.now.items (vec_len c.args.rack.now) (omega arith)) stopped.run.legal (called_more c.loop-at.system c.obey.new.self _ _ _ c.obey.ensures.same c.obey.ensures.calls c.loop-at.invariant.called)

pub loop-at-preserved : goal.loop-at-preserved
loop-at-preserved g c =
    let went = at_ok c.obey.result c.is_err.result c.is_err.ensures.value c.if-is_err.false c.obey.ensures.obeyed in
    let adds = at_ok c.obey.result c.is_err.result c.is_err.ensures.value c.if-is_err.false c.obey.ensures.adds in
    record {
      goes = went.0;
      obeyed = went.1 ∙ ap (λ n. n + 1) c.loop-at.invariant.obeyed;
      config = c.obey.ensures.same.config ∙ c.loop-at.invariant.config;
      script = c.obey.ensures.same.script ∙ c.loop-at.invariant.script;
      devices = c.obey.ensures.same.devices ∙ c.loop-at.invariant.devices;
      hung = c.obey.ensures.hung;
      called = called_more c.loop-at.system c.obey.new.self _ _ _ c.obey.ensures.same c.obey.ensures.calls c.loop-at.invariant.called;
      kept = elim c.if-not-lost.branch [
        | then-not-lost+then-is_err-2 w ↦ kept_up c.obey.new.self c.if-not-lost.lost c.if-not-lost.shown w.lost-is
        | else-not-lost w ↦ elim w.else-not-lost.branch [
          | else-not-lost-via-then-not-lost+else-is_err-2 v ↦ kept_so c.obey.new.self c.if-not-lost.lost v.keep_shown.new.shown c.if-not-lost.shown (w.shown-is ∙ v.shown-is)
              (at_ok v.keep_shown.result v.is_err-then-not-lost.result v.is_err-then-not-lost.ensures.value v.if-is_err-2.false
              (v.keep_shown.ensures c.loop-at.system c.obey.ensures.same adds (OnFalse_at v.if-not-lost.true c.loop-at.invariant.kept)))
          | else-not-lost-via-else-not-lost v ↦ kept_up c.obey.new.self c.if-not-lost.lost c.if-not-lost.shown (w.lost-is ∙ v.if-not-lost.false)
        ]
      ];
    }

pub returns-clause-whole : goal.returns-clause-whole
returns-clause-whole g c =
    let end : c.loop-at.system.obeyed ≡ length c.loop-at.system.script = c.loop-at.invariant.obeyed ∙ (let e : c.loop-at.at ≡ length c.args.script.now = omega (arith, c.loop-at.auto.at-end, c.loop-at-test.false) in e) ∙ ap (λ ss. length ss) (sym c.loop-at.invariant.script) in
    whole_run c.loop-at.system (vec_len c.args.rack.now) c.args.config c.args.script.now c.into_journal-2.result.entries c.loop-at.invariant.devices c.loop-at.invariant.config c.loop-at.invariant.script (c.into_journal-2.ensures.whole c.loop-at.invariant.goes end) c.into_journal-2.ensures.few

pub returns-clause-told : goal.returns-clause-told
returns-clause-told g c =
    let end : c.loop-at.system.obeyed ≡ length c.loop-at.system.script = c.loop-at.invariant.obeyed ∙ (let e : c.loop-at.at ≡ length c.args.script.now = omega (arith, c.loop-at.auto.at-end, c.loop-at-test.false) in e) ∙ ap (λ ss. length ss) (sym c.loop-at.invariant.script) in
    let whole = whole_run c.loop-at.system (vec_len c.args.rack.now) c.args.config c.args.script.now c.into_journal-2.result.entries c.loop-at.invariant.devices c.loop-at.invariant.config c.loop-at.invariant.script (c.into_journal-2.ensures.whole c.loop-at.invariant.goes end) c.into_journal-2.ensures.few in
    told_run c.loop-at.system (vec_len c.args.rack.now) c.args.config c.args.script.now c.into_journal-2.result.entries _ _ c.loop-at.invariant.devices c.loop-at.invariant.config c.loop-at.invariant.script (ap (λ w. w.entries) c.into_journal-2.ensures.journal) (hung_so _ c.args.rack.now.items (vec_len c.args.rack.now) (omega arith))
    whole.run.legal c.loop-at.invariant.called

pub returns-clause-shown : goal.returns-clause-shown
returns-clause-shown g c = on_false c.loop-at.lost
    (shown_of c.loop-at.system (vec_len c.args.rack.now) c.args.config c.args.script.now c.into_journal-2.result.entries c.loop-at.shown c.loop-at.invariant.devices c.loop-at.invariant.config c.loop-at.invariant.script (ap (λ w. w.entries) c.into_journal-2.ensures.journal))
    c.loop-at.invariant.kept
