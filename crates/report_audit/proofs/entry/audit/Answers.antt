-- A bench at power on is judged from its first moment.
use Rattle.std.proofs.Common.{ℕ, List, map, ap, subst}
use Rattle.std.specs.Prelude.{IfOk}
use Rattle.std.proofs.lemmas.Result.{IfOk-weaker}
use Rattle.chip_model.specs.Chip.{hung}
use Rattle.run_model.specs.Moment.{start_moment}
use Rattle.script_runner.specs.Scripts.{words_given}
use Rattle.audit_subject.specs.Origins.{origin_of}
use Rattle.report_text.specs.reading.Audits.{AuditsReport}
use Rattle.report_text.specs.reading.Blocks.{place_from}
use Rattle.report_text.specs.Unread.{Unread}
use Rattle.report_audit.proofs.FirstLaws.{first_somewhere, first_sound, first_stands, none_counted, used_are}
use Rattle.report_audit.proofs.VerdictLaws.{audited, passed}
use Rattle.report_audit.proofs.entry.audit.Goals as goal

pub judges-requires-clause-sound : goal.judges-requires-clause-sound
judges-requires-clause-sound g c = first_sound g.P.Whole.agrees g.P.Subject.setting g.P.Part.table g.P.Part.stands g.P.Part.fits g.P.Whole.within (g.P.Whole.table_of c.args.configuration.now) (record { chip = c.hang.new.self; parts = c.args.bench.parts; outside = c.args.bench.outside; devices = c.args.bench.devices; frames = c.new-frames.result; origins = map origin_of c.new-origins.result.items; tally = c.default-tally.result; seen = c.nothing-seen.result }) c.args.bench.bus c.requires.modules c.hang.ensures c.new-frames.ensures (ap (λ xs. map origin_of xs) c.new-origins.ensures.items) (words_given c.args.script.now) c.requires.chip

pub judges-requires-clause-stands : goal.judges-requires-clause-stands
judges-requires-clause-stands g c = first_somewhere g.P.Whole.agrees g.P.Subject.setting g.P.Part.table g.P.Part.stands g.P.Part.fits g.P.Whole.within (g.P.Whole.table_of c.args.configuration.now) (record { chip = c.hang.new.self; parts = c.args.bench.parts; outside = c.args.bench.outside; devices = c.args.bench.devices; frames = c.new-frames.result; origins = map origin_of c.new-origins.result.items; tally = c.default-tally.result; seen = c.nothing-seen.result }) c.args.bench.bus c.requires.modules c.hang.ensures c.new-frames.ensures (ap (λ xs. map origin_of xs) c.new-origins.ensures.items) (none_counted c.default-tally.result c.default-tally.ensures) c.used_lines.result (used_are g.P.Subject.setting g.P.Part.member g.met.P.Subject.member_is (g.P.Part.table c.args.bench.parts) (g.P.Whole.table_of c.args.configuration.now) c.used_lines.result c.requires.modules.kept_of c.used_lines.ensures) c.nothing-seen.ensures

pub judges-requires-clause-can : goal.judges-requires-clause-can
judges-requires-clause-can g c = c.requires.script.can

pub judges-requires-clause-first : goal.judges-requires-clause-first
judges-requires-clause-first g c = ap (λ (r : Unread). r.read) c.in-Ok.ensures

pub returns-clause-audits : goal.returns-clause-audits
returns-clause-audits g c = subst (λ (bs : List ℕ). IfOk c.judges.result (λ verdict. AuditsReport (g.P.Subject.setting (g.P.Whole.table_of c.args.configuration.now)) g.P.Whole.call_of (g.P.Whole.showing c.args.configuration.now) (hung c.args.bench.devices c.args.bench.bus) c.args.script.now bs verdict)) (ap (λ (r : Unread). r.left) c.in-Ok.ensures) (c.judges.ensures (place_from (start_moment (g.P.Subject.setting (g.P.Whole.table_of c.args.configuration.now)) (hung c.args.bench.devices c.args.bench.bus))) (first_stands g.P.Whole.agrees g.P.Subject.setting g.P.Part.table g.P.Part.stands g.P.Part.fits g.P.Whole.within (g.P.Whole.table_of c.args.configuration.now) (record { chip = c.hang.new.self; parts = c.args.bench.parts; outside = c.args.bench.outside; devices = c.args.bench.devices; frames = c.new-frames.result; origins = map origin_of c.new-origins.result.items; tally = c.default-tally.result; seen = c.nothing-seen.result }) c.args.bench.bus c.requires.modules c.hang.ensures c.new-frames.ensures (ap (λ xs. map origin_of xs) c.new-origins.ensures.items) (none_counted c.default-tally.result c.default-tally.ensures) c.used_lines.result (used_are g.P.Subject.setting g.P.Part.member g.met.P.Subject.member_is (g.P.Part.table c.args.bench.parts) (g.P.Whole.table_of c.args.configuration.now) c.used_lines.result c.requires.modules.kept_of c.used_lines.ensures) c.nothing-seen.ensures))

pub returns-clause-passed : goal.returns-clause-passed
returns-clause-passed g c =
    IfOk-weaker c.judges.result _ _ (λ verdict h. audited (g.P.Subject.setting (g.P.Whole.table_of c.args.configuration.now)) g.P.Whole.call_of (g.P.Whole.showing c.args.configuration.now) (hung c.args.bench.devices c.args.bench.bus) c.args.script.now c.args.report.now c.requires.script.lines c.requires.script.fits verdict h)
    (subst (λ (bs : List ℕ). IfOk c.judges.result (λ verdict. AuditsReport (g.P.Subject.setting (g.P.Whole.table_of c.args.configuration.now)) g.P.Whole.call_of (g.P.Whole.showing c.args.configuration.now) (hung c.args.bench.devices c.args.bench.bus) c.args.script.now bs verdict)) (ap (λ (r : Unread). r.left) c.in-Ok.ensures) (c.judges.ensures (place_from (start_moment (g.P.Subject.setting (g.P.Whole.table_of c.args.configuration.now)) (hung c.args.bench.devices c.args.bench.bus))) (first_stands g.P.Whole.agrees g.P.Subject.setting g.P.Part.table g.P.Part.stands g.P.Part.fits g.P.Whole.within (g.P.Whole.table_of c.args.configuration.now) (record { chip = c.hang.new.self; parts = c.args.bench.parts; outside = c.args.bench.outside; devices = c.args.bench.devices; frames = c.new-frames.result; origins = map origin_of c.new-origins.result.items; tally = c.default-tally.result; seen = c.nothing-seen.result }) c.args.bench.bus c.requires.modules c.hang.ensures c.new-frames.ensures (ap (λ xs. map origin_of xs) c.new-origins.ensures.items) (none_counted c.default-tally.result c.default-tally.ensures) c.used_lines.result (used_are g.P.Subject.setting g.P.Part.member g.met.P.Subject.member_is (g.P.Part.table c.args.bench.parts) (g.P.Whole.table_of c.args.configuration.now) c.used_lines.result c.requires.modules.kept_of c.used_lines.ensures) c.nothing-seen.ensures)))

pub returns-clause-runs : goal.returns-clause-runs
returns-clause-runs g c journal is =
    IfOk-weaker c.judges.result _ _ (λ verdict h. passed (g.P.Subject.setting (g.P.Whole.table_of c.args.configuration.now)) g.P.Whole.call_of (g.P.Whole.showing c.args.configuration.now) (hung c.args.bench.devices c.args.bench.bus) c.args.script.now c.args.report.now c.requires.script.lines c.requires.script.fits verdict h journal is)
    (subst (λ (bs : List ℕ). IfOk c.judges.result (λ verdict. AuditsReport (g.P.Subject.setting (g.P.Whole.table_of c.args.configuration.now)) g.P.Whole.call_of (g.P.Whole.showing c.args.configuration.now) (hung c.args.bench.devices c.args.bench.bus) c.args.script.now bs verdict)) (ap (λ (r : Unread). r.left) c.in-Ok.ensures) (c.judges.ensures (place_from (start_moment (g.P.Subject.setting (g.P.Whole.table_of c.args.configuration.now)) (hung c.args.bench.devices c.args.bench.bus))) (first_stands g.P.Whole.agrees g.P.Subject.setting g.P.Part.table g.P.Part.stands g.P.Part.fits g.P.Whole.within (g.P.Whole.table_of c.args.configuration.now) (record { chip = c.hang.new.self; parts = c.args.bench.parts; outside = c.args.bench.outside; devices = c.args.bench.devices; frames = c.new-frames.result; origins = map origin_of c.new-origins.result.items; tally = c.default-tally.result; seen = c.nothing-seen.result }) c.args.bench.bus c.requires.modules c.hang.ensures c.new-frames.ensures (ap (λ xs. map origin_of xs) c.new-origins.ensures.items) (none_counted c.default-tally.result c.default-tally.ensures) c.used_lines.result (used_are g.P.Subject.setting g.P.Part.member g.met.P.Subject.member_is (g.P.Part.table c.args.bench.parts) (g.P.Whole.table_of c.args.configuration.now) c.used_lines.result c.requires.modules.kept_of c.used_lines.ensures) c.nothing-seen.ensures)))
