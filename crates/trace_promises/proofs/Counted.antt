-- What an audit passes has as many lines as it says.
use Rattle.std.proofs.Common.{◌≡◌, ℕ, ◌+◌, ◌==◌, Bool, true, false, List, [], ◌∷◌, ◌++◌, length, refl, ◌∙◌, ap, arith, cond}
use Rattle.std.specs.Prelude.{codes, decimal, if◌then◌else◌}
use Rattle.std.proofs.lemmas.List.Splits.{length-slice_split}
use Rattle.std.proofs.lemmas.List.Sums.{sum_by-append, sum_by-cons}
use Rattle.bench_report.specs.Lines.{end_text}
use Rattle.bench_report.specs.Showing.{Showing}
use Rattle.bench_report.specs.declared.tally.Tally.{Tally}
use Rattle.chip_model.specs.Chip.{Chip}
use Rattle.mcal_base.specs.declared.directive.Directive.{Directive}
use Rattle.mcal_base.specs.declared.directive.Request.{Request}
use Rattle.run_model.specs.Moment.{Setting}
use Rattle.report_text.specs.reading.Audits.{Audits, AuditsReport, Ends, Unended, Unserved, Next, Refused}
use Rattle.report_text.specs.reading.Blocks.{AuditState, begins_with, behind, own_lines}
use Rattle.report_text.specs.declared.reading.verdict.Verdict.{Verdict}
use Rattle.report_text.specs.declared.reading.verdict.Verdict.TheVariants.{Passed}
use Rattle.report_text.proofs.RowLaws.{feedless}
use Rattle.trace_reader.specs.Reading.{parts_of}
use Rattle.trace_reader.proofs.Digits.{none}
use Rattle.trace_reader.proofs.FeedLaws.{nl}
use Rattle.trace_promises.specs.audits.Input.{lines_in}

-- ---- the last line has one line feed

none_counted : (b : ℕ) (bs : List ℕ) (test : Bool) → (b == 10) ≡ test → (if test then false else none nl bs) ≡ true → (none nl bs ≡ true → lines_in bs ≡ 0) → lines_in (b ∷ bs) ≡ 0
none_counted b bs true e h ih = cc
none_counted b bs false e h ih = sum_by-cons (λ (x : ℕ). cond (x == 10) 1 0) b bs ∙ rw (e, ih h) refl

no_lines : (bs : List ℕ) → none nl bs ≡ true → lines_in bs ≡ 0
no_lines [] h = refl
no_lines (b ∷ bs) h = none_counted b bs (b == 10) refl h (no_lines bs)

behind_words : (front rest : List ℕ) → lines_in front ≡ 0 → lines_in (front ++ rest) ≡ lines_in rest
behind_words front rest h = let e = sum_by-append (λ (x : ℕ). cond (x == 10) 1 0) front rest in omega (arith, e, h)

behind_number : (n : ℕ) (rest : List ℕ) → lines_in (decimal n ++ rest) ≡ lines_in rest
behind_number n rest = behind_words (decimal n) rest (no_lines (decimal n) (feedless n))

end_lines : (t : Tally) → lines_in (end_text t) ≡ 1
end_lines t =
    let notes = decimal t.notes ++ codes "\n" in
    let errors = decimal t.errors ++ (codes " notes " ++ notes) in
    let held = decimal t.held ++ (codes " errors " ++ errors) in
    let handlers = decimal t.handlers ++ (codes " held " ++ held) in
    let calls = decimal t.calls ++ (codes " handlers " ++ handlers) in
    behind_words (codes "end calls ") calls refl ∙ (behind_number t.calls (codes " handlers " ++ handlers)
    ∙ (behind_words (codes " handlers ") handlers refl ∙ (behind_number t.handlers (codes " held " ++ held)
    ∙ (behind_words (codes " held ") held refl ∙ (behind_number t.held (codes " errors " ++ errors)
    ∙ (behind_words (codes " errors ") errors refl ∙ (behind_number t.errors (codes " notes " ++ notes)
    ∙ (behind_words (codes " notes ") notes refl ∙ behind_number t.notes (codes "\n")))))))))

-- ---- the lines of a block, and those behind it

own_more : (test : Bool) (part : List ℕ) (own more next : List (List ℕ)) → length next ≡ length own + length more →
    length (part ∷ next) ≡ length (if test then part ∷ own else []) + length (if test then more else part ∷ next)
own_more true part own more next h = omega (arith, h)
own_more false part own more next h = omega arith

all_lines : (n : ℕ) (left : List (List ℕ)) → length left ≡ length (own_lines n left) + length (behind n left)
all_lines n [] = refl
all_lines n (part ∷ []) = refl
all_lines n (part ∷ next ∷ parts) = own_more (begins_with n part) part (own_lines n (next ∷ parts)) (behind n (next ∷ parts)) (next ∷ parts) (all_lines n (next ∷ parts))

-- ---- from the front of a report to its end

ended_lines : (line two n : ℕ) → two ≡ 1 + 1 → Passed line ≡ Passed n → line + two ≡ n + 2
ended_lines line two n e h = let same : line ≡ n = cc in omega (arith, e, same)

module _ {State Call : Type 0} (g : Setting State Call) (call_of : Request → Call) (showing : Showing State) where
  passed_lines : (script : List Directive) (p : AuditState State Call) (line : ℕ) (left : List (List ℕ)) (n : ℕ) {verdict : Verdict} → verdict ≡ Passed n → Audits g call_of showing p script line left verdict → line + length left ≡ n + 2
  passed_lines [] p line left n e (Ends served end) =
      let two : length left ≡ 1 + 1 = ap length end ∙ (length-slice_split (λ b. b == 10) (end_text p.tally) ∙ ap (λ (k : ℕ). k + 1) (end_lines p.tally)) in
      ended_lines line (length left) n two e
  passed_lines [] p line left n e (Unended served other) = cc
  passed_lines [] p line left n e (Unserved other) = cc
  passed_lines (d ∷ ds) p line left n e (Next b rest) =
      let all = all_lines d.line left in
      let ih = passed_lines ds _ (line + length (own_lines d.line left)) (behind d.line left) n e rest in
      omega (arith, all, ih)
  passed_lines (d ∷ ds) p line left n e (Refused other) = cc

  pub counts_lines : (first : Chip) (script : List Directive) (text : List ℕ) (n : ℕ) → AuditsReport g call_of showing first script text (Passed n) → n ≡ lines_in text
  counts_lines first script text n audits =
      let all = passed_lines script _ 1 (parts_of text) n refl audits in
      let parts = length-slice_split (λ b. b == 10) text in
      omega (arith, all, parts)
