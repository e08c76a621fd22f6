use Rattle.std.proofs.Common.{sym, ◌∙◌, arith, Vec, Global}
use Rattle.std.proofs.lemmas.Result.{err_from_is_err_and}
use Rattle.mcal_base.specs.declared.directive.Directive.{Directive}
use Rattle.bench_script.specs.Scanned.{first_line}
use Rattle.bench_script.proofs.Rest.{line_kept, script_refused, script_amiss, kept_by}
use Rattle.bench_script.proofs.Scanned.{some_lines, line_shorter, line_read, line_amiss}
use Rattle.bench_script.proofs.script.read_script.Goals as goal

pub returns-in_err-keep_words-in-Some : goal.returns-in_err-keep_words-in-Some
returns-in_err-keep_words-in-Some c =
    let p = err_from_is_err_and c.from_residual-in_err-keep_words-in-Some.result c.from_residual-in_err-keep_words-in-Some.ensures.1 in
    let e = sym c.is_empty.ensures ∙ c.loop-rest-test.true in
    let there = rw c.in-Some.is at c.in_ok-after.ensures in
    let kept = rw (c.as_slice.ensures.value, sym (line_read (first_line c.loop-rest.rest.now) _ there.0)) at c.in_err-keep_words-in-Some.ensures.keeps in
    rw (p.1, p.2) (script_refused (Unit {0}) {V = Vec Directive Global} (λ v. v.items) c.in_err-keep_words-in-Some.field-0.0 c.args.text.now c.loop-rest.directives.items c.keep_words.new.directives.items c.loop-rest.number _ (first_line c.loop-rest.rest.now) _ c.loop-rest.invariant.read (some_lines c.loop-rest.rest.now e) kept)

pub loop-rest-smaller : goal.loop-rest-smaller
loop-rest-smaller c =
    let e = sym c.is_empty.ensures ∙ c.loop-rest-test.true in
    let there = rw c.in-Some.is at c.in_ok-after.ensures in
    rw there.1 (omega (arith, line_shorter c.loop-rest.rest.now e))

pub loop-rest-preserved : goal.loop-rest-preserved
loop-rest-preserved c =
    let e = sym c.is_empty.ensures ∙ c.loop-rest-test.true in
    let there = rw c.in-Some.is at c.in_ok-after.ensures in
    let kept = rw c.as_slice.ensures.value at c.in_ok-keep_words-in-Some.ensures.keeps in
    record {
      read = rw there.1 (line_kept _ c.loop-rest.directives.items c.keep_words.new.directives.items c.loop-rest.number _ (first_line c.loop-rest.rest.now) _ c.loop-rest.invariant.read (some_lines c.loop-rest.rest.now e) (kept_by _ _ _ _ _ (line_read (first_line c.loop-rest.rest.now) _ there.0) kept));
      few = c.keep_words.ensures.few;
      within = rw there.1 (omega (arith, c.loop-rest.invariant.within, line_shorter c.loop-rest.rest.now e));
    }

pub returns-in-None : goal.returns-in-None
returns-in-None c =
    let e = sym c.is_empty.ensures ∙ c.loop-rest-test.true in
    let amiss = line_amiss (first_line c.loop-rest.rest.now) (rw c.in-None.is at c.in_ok-after.ensures) in
    rw c.at.ensures (script_amiss {V = Vec Directive Global} (λ v. v.items) c.args.text.now c.loop-rest.directives.items c.loop-rest.number _ (first_line c.loop-rest.rest.now) _ c.loop-rest.invariant.read (some_lines c.loop-rest.rest.now e) amiss)
