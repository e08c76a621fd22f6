use Rattle.std.proofs.Common.{◌≡◌, ◌<◌, [], length, Option, ◌∙◌, refl, sym, subst}
use Rattle.std.specs.Prelude.{MatchOption, string_bytes}
use Rattle.std.specs.Option.{IfSome}
use Rattle.std.proofs.lemmas.Result.{on_ok_weaker}
use Rattle.bench_report.specs.Shown.{rows_text}
use Rattle.mcal_system.specs.Runs.{RestingRun, moment_at, moment_of, resting}
use Rattle.shown_rows.specs.Shows.{show_rows}
use Rattle.bench_top.proofs.Keeping.{kept_quiet, kept_held, kept_full, kept_shown}
use Rattle.bench_top.proofs.run.keep_shown.Goals as goal

pub returns-in_default : goal.returns-in_default
returns-in_default c = λ before same adds kept. kept_quiet before c.args.system.now c.args.directive.now c.args.shown.now same adds (sym c.shown_by.ensures ∙ c.in_default.is) kept

pub returns-in_default-at_rest : goal.returns-in_default-at_rest
returns-in_default-at_rest c =
    let run = c.args.system.now in
    let held = subst (λ (o : Option RestingRun). MatchOption o (0 < length (moment_of run).opens) (λ rest. rest ≡ resting run)) c.in_default-at_rest.is c.at_rest.ensures.is in
    λ before same adds kept. kept_held before run c.args.directive.now c.in-Some.what c.args.shown.now same adds (sym c.shown_by.ensures ∙ c.in-Some.is) held kept

pub returns-then-is_full : goal.returns-then-is_full
returns-then-is_full c =
    let run = c.args.system.now in
    let alone = subst (λ (o : Option RestingRun). IfSome o (λ rest. (moment_of run).opens ≡ [])) c.in-Some-at_rest.is c.at_rest.ensures.alone in
    λ before same adds kept. kept_full before run c.args.directive.now c.in-Some.what c.args.shown.now c.is_full.result same adds (sym c.shown_by.ensures ∙ c.in-Some.is) alone c.is_full.ensures c.if-is_full.true kept

pub returns : goal.returns
returns c =
    let run = c.args.system.now in
    let alone = subst (λ (o : Option RestingRun). IfSome o (λ rest. (moment_of run).opens ≡ [])) c.in-Some-at_rest.is c.at_rest.ensures.alone in
    let rests = subst (λ (o : Option RestingRun). MatchOption o (0 < length (moment_of run).opens) (λ rest. rest ≡ resting run)) c.in-Some-at_rest.is c.at_rest.ensures.is in
    let text = string_bytes c.in_ok-shown_text.field-0 in
    let told = subst (λ (x : RestingRun). text ≡ rows_text c.args.directive.now.line (show_rows x.config (moment_at x).world (moment_at x).state c.in-Some.what)) rests (c.in_ok-shown_text.ensures (moment_at c.in-Some-at_rest.rest).world (moment_at c.in-Some-at_rest.rest).state refl) in
    λ before same adds kept.
    on_ok_weaker c.push.result (λ put. kept_shown before run c.args.directive.now c.in-Some.what c.args.shown.now c.push.new.self text same adds (sym c.shown_by.ensures ∙ c.in-Some.is)
    alone told put kept) c.push.ensures.put
