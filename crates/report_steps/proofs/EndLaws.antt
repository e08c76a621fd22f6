-- The line of a move, and that of a frame's end: where it comes it is taken, and counted.
use Rattle.std.proofs.Common.{◌≡◌, ℕ, ◌+◌, Bool, true, false, List, [], ◌∷◌, ◌++◌, Option, Some, None, refl, sym, ◌∙◌, ap, subst, append_assoc, arith}
use Rattle.std.proofs.lemmas.List.Sums.{sum_by-cons}
use Rattle.std.specs.Prelude.{cond, count_by, option_map, slice_get, IsSome, MatchOption}
use Rattle.bench_report.specs.Lines.{Line, Notes, Errs, Returns, Leaves, numbered}
use Rattle.bench_report.specs.Numbers.{AnswerFits}
use Rattle.bench_report.specs.Report.{end_lines, is_error, is_hold, is_leave, is_note, is_return}
use Rattle.bench_report.specs.declared.frames.Purpose.{Purpose}
use Rattle.bench_report.specs.declared.frames.Purpose.TheVariants as purposes
use Rattle.bench_report.specs.declared.tally.Tally.{Tally}
use Rattle.mcal_base.specs.declared.answer.Answer.{Answer}
use Rattle.mcal_base.specs.declared.answer.Head.{Head}
use Rattle.mcal_base.specs.declared.moves.DevError.{DevError}
use Rattle.mcal_base.specs.declared.moves.Event.{Event}
use Rattle.mcal_base.specs.declared.moves.Event.TheVariants.{Act, Serve, Abort, Start}
use Rattle.mcal_base.specs.declared.notice.Notice.{Notice}
use Rattle.mcal_base.specs.declared.service.Service.{Service}
use Rattle.mcal_base.specs.facts.Truths.{off_on, on_off}
use Rattle.run_model.specs.Frame.{is_act}
use Rattle.run_model.specs.Machine.{Told}
use Rattle.audit_frames.specs.FrameRules.{answer_after}
use Rattle.audit_frames.specs.Kept.{Kept}
use Rattle.audit_frames.specs.Told.{answer_of}
use Rattle.audit_frames.specs.declared.terms.Task.{Task}
use Rattle.audit_frames.specs.declared.terms.Task.TheVariants as tasks
use Rattle.report_text.specs.reading.Blocks.{counted, printed}
use Rattle.report_text.specs.Unread.{Unread, own_text}
use Rattle.report_auditor.specs.Auditing.{Auditing, purpose_by, purposes_by}
use Rattle.report_steps.specs.Lines.{Past, TakesLine, TakesLines}
use Rattle.report_steps.specs.StepParts.{TakesEnd, counting, end_answer, end_by, with_end}
use Rattle.report_steps.proofs.ComeLaws.{same_some, some_none}
use Rattle.report_steps.proofs.GoingLaws.{counted_none, not_counted}
use Rattle.report_steps.proofs.LinesLaws.{advances_none}
use Rattle.report_steps.proofs.StepMade.{same_tally}

-- ---- one line is counted

is_counted : (p : Line → Bool) (l : Line) → p l ≡ true → count_by p (l ∷ []) ≡ 1
is_counted p l e = sum_by-cons (λ (x : Line). cond (p x) 1 0) l [] ∙ ap (λ (b : Bool). cond b 1 0 + 0) e

same_count : (n c : ℕ) → c ≡ 0 → n ≡ n + c
same_count n c e = omega (arith, e)

more_count : (n c : ℕ) → c ≡ 1 → n + 1 ≡ n + c
more_count n c e = omega (arith, e)

-- it isn't of a kind, and it is of one
others : (n : ℕ) (p : Line → Bool) (l : Line) → p l ≡ false → n ≡ n + count_by p (l ∷ [])
others n p l e = same_count n (count_by p (l ∷ [])) (not_counted p l [] e)

its : (n : ℕ) (p : Line → Bool) (l : Line) → p l ≡ true → n + 1 ≡ n + count_by p (l ∷ [])
its n p l e = more_count n (count_by p (l ∷ [])) (is_counted p l e)

pub one_note : (t : Tally) (n : Notice) → record { calls = t.calls; handlers = t.handlers; held = t.held; errors = t.errors; notes = t.notes + 1 } ≡ counted t (Notes n ∷ [])
one_note t n =
    same_tally (record { calls = t.calls; handlers = t.handlers; held = t.held; errors = t.errors; notes = t.notes + 1 }) _ _ _ _ _
    (others t.calls is_return (Notes n) refl) (others t.handlers is_leave (Notes n) refl) (others t.held is_hold (Notes n) refl) (others t.errors is_error (Notes n) refl) (its t.notes is_note (Notes n) refl)

pub one_error : (t : Tally) (x : DevError) → record { calls = t.calls; handlers = t.handlers; held = t.held; errors = t.errors + 1; notes = t.notes } ≡ counted t (Errs x ∷ [])
one_error t x =
    same_tally (record { calls = t.calls; handlers = t.handlers; held = t.held; errors = t.errors + 1; notes = t.notes }) _ _ _ _ _
    (others t.calls is_return (Errs x) refl) (others t.handlers is_leave (Errs x) refl) (others t.held is_hold (Errs x) refl) (its t.errors is_error (Errs x) refl) (others t.notes is_note (Errs x) refl)

pub one_call : (t : Tally) (service : Service) (head : Head) (words : List ℕ) → record { calls = t.calls + 1; handlers = t.handlers; held = t.held; errors = t.errors; notes = t.notes } ≡ counted t (Returns service head words ∷ [])
one_call t service head words =
    let l = Returns service head words in
    same_tally (record { calls = t.calls + 1; handlers = t.handlers; held = t.held; errors = t.errors; notes = t.notes }) _ _ _ _ _
    (its t.calls is_return l refl) (others t.handlers is_leave l refl) (others t.held is_hold l refl) (others t.errors is_error l refl) (others t.notes is_note l refl)

pub one_handler : (t : Tally) (line : ℕ) → record { calls = t.calls; handlers = t.handlers + 1; held = t.held; errors = t.errors; notes = t.notes } ≡ counted t (Leaves line ∷ [])
one_handler t line =
    same_tally (record { calls = t.calls; handlers = t.handlers + 1; held = t.held; errors = t.errors; notes = t.notes }) _ _ _ _ _
    (others t.calls is_return (Leaves line) refl) (its t.handlers is_leave (Leaves line) refl) (others t.held is_hold (Leaves line) refl) (others t.errors is_error (Leaves line) refl) (others t.notes is_note (Leaves line) refl)

pub one_end : (task : Task) (frames : List Purpose) (x : Option Answer) (t : Tally) → IsSome x → with_end task t ≡ counted t (end_lines (purpose_by task ∷ frames) x)
one_end task frames None t some = off_on some
one_end (tasks.Call k) frames (Some a) t some = one_call t k.service a.head a.words
one_end (tasks.Line l) frames (Some a) t some = one_handler t l

-- ---- the answer behind a step

-- what is had of a reference, where there is one
pub copied_is : {R A : Type 0} (now : R → A) (r : Option R) (a : Option A) → MatchOption r (a ≡ None) (λ x. a ≡ Some (now x)) → option_map now r ≡ a
copied_is now None a h = sym h
copied_is now (Some x) a h = sym h

pub acts_answer : (a : Option Answer) (e : Option Event) (x : Answer) → is_act e ≡ true → answer_after a e x ≡ Some x
acts_answer a (Some Act) x on = refl
acts_answer a (Some (Serve l)) x on = off_on on
acts_answer a (Some (Abort u)) x on = off_on on
acts_answer a (Some (Start u)) x on = off_on on
acts_answer a None x on = off_on on

pub keeps_answer : (a : Option Answer) (e : Option Event) (x : Answer) → is_act e ≡ false → answer_after a e x ≡ a
keeps_answer a (Some Act) x off = on_off off
keeps_answer a (Some (Serve l)) x off = refl
keeps_answer a (Some (Abort u)) x off = refl
keeps_answer a (Some (Start u)) x off = refl
keeps_answer a None x off = refl

-- ---- a line or none

-- what doesn't come as a line doesn't as lines
not_lines : (n : ℕ) (line : Line) (text : List ℕ) → ((rest : List ℕ) → text ≡ numbered n line ++ rest → ⊥) → (rest : List ℕ) → text ≡ printed n (line ∷ []) ++ rest → ⊥
not_lines n line text none rest e = none rest (e ∙ append_assoc (numbered n line) [] rest)

pub as_lines : (right : Bool) (line : Line) (before after : Unread) → TakesLine right line before after → TakesLines right (line ∷ []) before after
as_lines true line before after h = h
as_lines false line before after h = not_lines before.number line (own_text before) h.1

pub no_lines : (r : Unread) → TakesLines true [] r r
no_lines r = record { on = advances_none r; text = refl }

-- ---- the end of a frame

pub some_end : (line : Line) (frames : List Purpose) (x : Option Answer) → line ∷ [] ≡ end_lines frames x → IsSome x
some_end line frames None e = absurd (cc)
some_end line frames (Some a) e = refl

none_end : (purpose : Purpose) (frames : List Purpose) (x : Option Answer) → [] ≡ end_lines (purpose ∷ frames) x → IsSome x → ⊥
none_end purpose frames None e some = off_on some
none_end (purposes.Call service) frames (Some a) e some = absurd (cc)
none_end (purposes.Handler line) frames (Some a) e some = absurd (cc)

module _ (e : Option Event) (t : Told) where
  pub took_end : (ks : List Kept) (line : Line) (right : Bool) (before after : Unread) → line ∷ [] ≡ end_by ks e t → TakesLine right line before after → TakesEnd ks e t right before after
  took_end ks line true before after same h = (some_end line (purposes_by ks) (end_answer ks e t) same, subst (λ ls. Past ls before after) same h)
  took_end ks line false before after same h =
      (h.0, λ some rest is. not_lines before.number line (own_text before) h.1 rest (is ∙ ap (λ ls. printed before.number ls ++ rest) (sym same)))

  -- no frame ends so
  pub no_frame : (r : Unread) → TakesEnd [] e t false r r
  no_frame r = (refl, λ some. off_on some)

  pub no_line : (k : Kept) (ks : List Kept) (r : Unread) → [] ≡ end_by (k ∷ ks) e t → TakesEnd (k ∷ ks) e t false r r
  no_line k ks r same = (refl, λ some. absurd (none_end (purpose_by k.terms.task) (purposes_by ks) (end_answer (k ∷ ks) e t) same some))

  -- ---- by the newest frame that is kept

  pub no_top : (ks : List Kept) (r : Unread) → slice_get ks 0 ≡ None → TakesEnd ks e t false r r
  no_top [] r none = no_frame r
  no_top (k ∷ ks) r none = absurd (some_none k none)

  pub no_answer : (ks : List Kept) → slice_get ks 0 ≡ None → AnswerFits (end_answer ks e t)
  no_answer [] none = tt
  no_answer (k ∷ ks) none = absurd (some_none k none)

  answer_top : (ks : List Kept) (k : Kept) → slice_get ks 0 ≡ Some k → answer_of k.terms.task (answer_after k.answer e t.answer) ≡ end_answer ks e t
  answer_top [] k top = absurd (cc)
  answer_top (j ∷ ks) k top = ap (λ (y : Kept). answer_of y.terms.task (answer_after y.answer e t.answer)) (sym (same_some j k top))

  lines_top : (ks : List Kept) (k : Kept) → slice_get ks 0 ≡ Some k → (ls : List Line)
      → ((frames : List Purpose) → ls ≡ end_lines (purpose_by k.terms.task ∷ frames) (answer_of k.terms.task (answer_after k.answer e t.answer))) → ls ≡ end_by ks e t
  lines_top [] k top ls h = absurd (cc)
  lines_top (j ∷ ks) k top ls h = h (purposes_by ks) ∙ ap (λ (y : Kept). end_lines (purpose_by y.terms.task ∷ purposes_by ks) (answer_of y.terms.task (answer_after y.answer e t.answer))) (sym (same_some j k top))

  no_line_top : (ks : List Kept) (k : Kept) → slice_get ks 0 ≡ Some k → (r : Unread) → [] ≡ end_by ks e t → TakesEnd ks e t false r r
  no_line_top [] k top r same = absurd (cc)
  no_line_top (j ∷ ks) k top r same = no_line j ks r same

  module _ (ks : List Kept) (k : Kept) (top : slice_get ks 0 ≡ Some k) (task : Task) (own : task ≡ k.terms.task) (x : Option Answer) (is : x ≡ answer_after k.answer e t.answer) where
    answer_is : answer_of task x ≡ end_answer ks e t
    answer_is = ap (λ y. answer_of y x) own ∙ (ap (λ y. answer_of k.terms.task y) is ∙ answer_top ks k top)

    pub answer_fits : AnswerFits (answer_of task x) → AnswerFits (end_answer ks e t)
    answer_fits h = subst AnswerFits answer_is h

    module _ (ls : List Line) (says : (frames : List Purpose) → ls ≡ end_lines (purpose_by task ∷ frames) (answer_of task x)) where
      pub lines_are : ls ≡ end_by ks e t
      lines_are = lines_top ks k top ls (λ frames. says frames ∙ (ap (λ y. end_lines (purpose_by y ∷ frames) (answer_of y x)) own ∙ ap (λ y. end_lines (purpose_by k.terms.task ∷ frames) (answer_of k.terms.task y)) is))

      pub no_line_by : ls ≡ [] → (r : Unread) → TakesEnd ks e t false r r
      no_line_by none r = no_line_top ks k top r (sym none ∙ lines_are)

    module _ (line : Line) (says : (frames : List Purpose) → line ∷ [] ≡ end_lines (purpose_by task ∷ frames) (answer_of task x)) where
      pub end_counted : (y before : Tally) → y ≡ with_end task before → y ≡ counted before (end_by ks e t)
      end_counted y before e = e ∙ (one_end task [] (answer_of task x) before (some_end line (purpose_by task ∷ []) (answer_of task x) (says [])) ∙ ap (λ l. counted before l) (sym (says []) ∙ lines_are (line ∷ []) says))

-- ---- what an auditor keeps counts them

module _ {Parts Call : Type 0} (a b : Auditing Parts Call) (same : a ≡ b) where
  abbrev tallied : Tally → Auditing Parts Call
  tallied t = record { chip = a.chip; parts = a.parts; outside = a.outside; devices = a.devices; frames = a.frames; origins = a.origins; tally = t; seen = a.seen }

  pub lines_counted : (lines : List Line) (t : Tally) → t ≡ counted a.tally lines → tallied t ≡ counting lines b
  lines_counted lines t e = ap tallied e ∙ ap (λ y. counting lines y) same

  pub note_counted : (n : Notice) (notes : ℕ) → notes ≡ a.tally.notes + 1
      → tallied (record { calls = a.tally.calls; handlers = a.tally.handlers; held = a.tally.held; errors = a.tally.errors; notes = notes }) ≡ counting (Notes n ∷ []) b
  note_counted n notes e = ap (λ (k : ℕ). tallied (record { calls = a.tally.calls; handlers = a.tally.handlers; held = a.tally.held; errors = a.tally.errors; notes = k })) e ∙ lines_counted (Notes n ∷ []) _ (one_note a.tally n)

  pub error_counted : (x : DevError) (errors : ℕ) → errors ≡ a.tally.errors + 1
      → tallied (record { calls = a.tally.calls; handlers = a.tally.handlers; held = a.tally.held; errors = errors; notes = a.tally.notes }) ≡ counting (Errs x ∷ []) b
  error_counted x errors e = ap (λ (k : ℕ). tallied (record { calls = a.tally.calls; handlers = a.tally.handlers; held = a.tally.held; errors = k; notes = a.tally.notes })) e ∙ lines_counted (Errs x ∷ []) _ (one_error a.tally x)

pub none_counted : {Parts Call : Type 0} (a : Auditing Parts Call) → a ≡ counting [] a
none_counted a = lines_counted a a refl [] a.tally (counted_none a.tally)
