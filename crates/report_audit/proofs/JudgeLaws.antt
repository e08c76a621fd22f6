-- An audit goes through a script block by block: what it answers from where it has come it answers of the whole.
use Rattle.std.proofs.Common.{◌≡◌, ℕ, zero, suc, ◌+◌, ◌<◌, ◌≤◌, Bool, true, false, List, [], ◌∷◌, length, drop, refl, sym, ◌∙◌, ap, subst, arith}
use Rattle.std.specs.Prelude.{slice_index_or}
use Rattle.std.proofs.lemmas.List.Sums.{sum_by-cons}
use Rattle.bench_report.specs.Showing.{Showing}
use Rattle.bench_report.specs.declared.tally.Tally.{Tally}
use Rattle.mcal_base.specs.declared.directive.Directive.{Directive}
use Rattle.mcal_base.specs.declared.directive.Request.{Request}
use Rattle.mcal_base.specs.declared.service.Service.{Service}
use Rattle.mcal_base.specs.facts.Truths.{off_on, on_off}
use Rattle.run_model.specs.Follows.{deeds_in}
use Rattle.run_model.specs.Legal.{IsServed}
use Rattle.run_model.specs.Moment.{Setting}
use Rattle.run_model.proofs.LegalLaws.{served-first, served-last}
use Rattle.script_runner.specs.Scripts.{words_given}
use Rattle.script_runner.specs.Standing.{words_by}
use Rattle.report_text.specs.reading.Audits.{Audits, Ends, Unended, Unserved, Next, Refused}
use Rattle.report_text.specs.reading.Blocks.{AuditState, IsBlock, behind, own_lines, place_after, text_of}
use Rattle.report_text.specs.declared.reading.verdict.Verdict.{Verdict}
use Rattle.report_text.specs.declared.reading.verdict.Verdict.TheVariants.{Passed, Fault}
use Rattle.report_text.specs.Unread as unread
use Rattle.report_text.specs.Unread.{Unread}
use Rattle.report_text.specs.declared.ending.Ending.{Ending}
use Rattle.report_text.specs.declared.ending.Ending.TheVariants.{Alone, Followed, Missing}
use Rattle.report_text.proofs.Lasts as lasts
use Rattle.trace_reader.specs.Reading.{parts_of}
use Rattle.report_audit.specs.Obeying.{BlockRight, BlockTaken, CanObey, CanObeyAll, ComesTo, verdict_at}

-- ---- the directives that are left

drop_suc : (script : List Directive) (k : ℕ) (d : Directive) → k < length script → d ≡ slice_index_or script k d → drop k script ≡ d ∷ drop (suc k) script
drop_suc [] k d lt e = absurd (omega (arith, lt))
drop_suc (x ∷ xs) zero d lt e = ap (λ (y : Directive). y ∷ xs) (sym e)
drop_suc (x ∷ xs) (suc k) d lt e = drop_suc xs k d (omega (arith, lt)) e

one_on : (k : ℕ) → suc k ≡ k + 1
one_on k = omega arith

pub drop_next : (script : List Directive) (k : ℕ) (d : Directive) → k < length script → d ≡ slice_index_or script k d → drop k script ≡ d ∷ drop (k + 1) script
drop_next script k d lt e = drop_suc script k d lt e ∙ ap (λ (n : ℕ). d ∷ drop n script) (one_on k)

pub none_left : (script : List Directive) (k : ℕ) → length script ≤ k → drop k script ≡ []
none_left [] zero h = refl
none_left [] (suc k) h = refl
none_left (x ∷ xs) zero h = absurd (omega (arith, h))
none_left (x ∷ xs) (suc k) h = none_left xs k (omega (arith, h))

pub words_next : (left more : List Directive) (d : Directive) → left ≡ d ∷ more → words_given left ≡ words_by d.order + words_given more
words_next left more d e = ap words_given e ∙ sum_by-cons (λ (x : Directive). words_by x.order) d more

pub can_next : (has_service : Service → Bool) (left more : List Directive) (d : Directive) → left ≡ d ∷ more → CanObeyAll has_service left → CanObey has_service d × CanObeyAll has_service more
can_next has_service left more d e h = subst (CanObeyAll has_service) e h

line_after : (after before n : ℕ) → after ≡ before + n → after + 1 ≡ (before + 1) + n
line_after after before n e = omega (arith, e)

module _ {State Call : Type 0} (g : Setting State Call) (call_of : Request → Call) (showing : Showing State) where
  -- ---- from a moment that isn't served

  pub unserved : (first : AuditState State Call) (script : List Directive) (line : ℕ) (left : List (List ℕ)) → (IsServed g first.moment → ⊥) → Audits g call_of showing first script line left (Fault line)
  unserved first [] line left none = Unserved none
  unserved first (d ∷ ds) line left none = Refused (λ b. none (served-first g first.moment (deeds_in call_of d.order b.items) b.legal))

  module _ (first : AuditState State Call) (script : List Directive) (whole : Unread) where
    pub starts : (Stands : AuditState State Call → Type 0) → Stands first → IsServed g first.moment → ComesTo g call_of showing Stands first script whole script whole
    starts Stands stands served = record { place = first; stands = stands; served = served; on = λ verdict h. h }

    -- what is left, in other words
    pub comes_as : (Stands : AuditState State Call → Type 0) (left more : List Directive) (now : Unread) → left ≡ more → ComesTo g call_of showing Stands first script whole left now → ComesTo g call_of showing Stands first script whole more now
    comes_as Stands left more now e h = subst (λ (ds : List Directive). ComesTo g call_of showing Stands first script whole ds now) e h

    -- the block of the next directive was taken
    pub goes_on : (Stands Later : AuditState State Call → Type 0) (d : Directive) (ds : List Directive) (before after : Unread) (c : ComesTo g call_of showing Stands first script whole (d ∷ ds) before)
        → BlockTaken g call_of showing c.place d Later before after → ComesTo g call_of showing Later first script whole ds after
    goes_on Stands Later d ds before after c h =
        let there = place_after g call_of showing c.place d h.block.items in
        let lines = length (own_lines d.line (parts_of before.left)) in
        record {
          place = there;
          stands = h.stands;
          served = served-last g c.place.moment (deeds_in call_of d.order h.block.items) h.block.legal;
          on = λ verdict k. c.on verdict
              (Next h.block
              (subst (λ (n : ℕ). Audits g call_of showing there ds n (behind d.line (parts_of before.left)) verdict) (line_after after.read before.read lines h.read)
              (subst (λ (parts : List (List ℕ)). Audits g call_of showing there ds (after.read + 1) parts verdict) h.left k)));
        }

    -- it is refused
    pub refused : (Stands : AuditState State Call → Type 0) (d : Directive) (ds : List Directive) (now : Unread) (c : ComesTo g call_of showing Stands first script whole (d ∷ ds) now)
        → (IsBlock g call_of showing c.place d (text_of (own_lines d.line (parts_of now.left))) → ⊥) → Audits g call_of showing first script (whole.read + 1) (parts_of whole.left) (Fault (now.read + 1))
    refused Stands d ds now c none = c.on (Fault (now.read + 1)) (Refused none)

    -- by what was answered of it
    pub goes_on_right : (Stands Later : AuditState State Call → Type 0) (d : Directive) (ds : List Directive) (before after : Unread) (c : ComesTo g call_of showing Stands first script whole (d ∷ ds) before) (right : Bool) → right ≡ true
        → BlockRight g call_of showing c.place d Later before after right → ComesTo g call_of showing Later first script whole ds after
    goes_on_right Stands Later d ds before after c true e h = goes_on Stands Later d ds before after c h
    goes_on_right Stands Later d ds before after c false e h = off_on e

    pub refused_at : (Stands Later : AuditState State Call → Type 0) (d : Directive) (ds : List Directive) (before after : Unread) (c : ComesTo g call_of showing Stands first script whole (d ∷ ds) before) (right : Bool) → right ≡ false
        → BlockRight g call_of showing c.place d Later before after right → (line : ℕ) → line ≡ before.read + 1 → Audits g call_of showing first script (whole.read + 1) (parts_of whole.left) (Fault line)
    refused_at Stands Later d ds before after c true e h line is = on_off e
    refused_at Stands Later d ds before after c false e h line is =
        subst (λ (n : ℕ). Audits g call_of showing first script (whole.read + 1) (parts_of whole.left) (Fault n)) (sym is) (refused Stands d ds before c h)

    -- ---- the last line

    module _ (Stands : AuditState State Call → Type 0) (now : Unread) (c : ComesTo g call_of showing Stands first script whole [] now) where
      pub alone : unread.Ends c.place.tally now.left Alone → Audits g call_of showing first script (whole.read + 1) (parts_of whole.left) (Passed (now.read + 1))
      alone e = c.on (Passed (now.read + 1)) (Ends c.served (lasts.alone c.place.tally now.left e))

      pub followed : unread.Ends c.place.tally now.left Followed → Audits g call_of showing first script (whole.read + 1) (parts_of whole.left) (Fault ((now.read + 1) + 1))
      followed e =
          let h = lasts.followed c.place.tally (now.read + 1) now.left e in
          c.on (Fault ((now.read + 1) + 1)) (subst (λ (n : ℕ). Audits g call_of showing c.place [] (now.read + 1) (parts_of now.left) (Fault n)) h.1 (Unended c.served h.0))

      pub missing : unread.Ends c.place.tally now.left Missing → Audits g call_of showing first script (whole.read + 1) (parts_of whole.left) (Fault (now.read + 1))
      missing e =
          let h = lasts.missing c.place.tally (now.read + 1) now.left e in
          c.on (Fault (now.read + 1)) (subst (λ (n : ℕ). Audits g call_of showing c.place [] (now.read + 1) (parts_of now.left) (Fault n)) h.1 (Unended c.served h.0))

      -- by what was found there
      judged_as : (verdict said : Verdict) → verdict ≡ said → Audits g call_of showing first script (whole.read + 1) (parts_of whole.left) said → Audits g call_of showing first script (whole.read + 1) (parts_of whole.left) verdict
      judged_as verdict said e h = subst (λ (x : Verdict). Audits g call_of showing first script (whole.read + 1) (parts_of whole.left) x) (sym e) h

      -- what is left decides, with the lines that were counted and the number of the next one
      pub ended : (ending : Ending) (verdict : Verdict) (tally : Tally) (line : ℕ) → verdict ≡ verdict_at line ending → tally ≡ c.place.tally → unread.Ends tally now.left ending → line ≡ now.read + 1 → Audits g call_of showing first script (whole.read + 1) (parts_of whole.left) verdict
      ended Alone verdict tally line v same h at = judged_as verdict (Passed (now.read + 1)) (v ∙ ap Passed at) (alone (subst (λ (t : Tally). unread.Ends t now.left Alone) same h))
      ended Followed verdict tally line v same h at = judged_as verdict (Fault ((now.read + 1) + 1)) (v ∙ ap (λ (n : ℕ). Fault (n + 1)) at) (followed (subst (λ (t : Tally). unread.Ends t now.left Followed) same h))
      ended Missing verdict tally line v same h at = judged_as verdict (Fault (now.read + 1)) (v ∙ ap Fault at) (missing (subst (λ (t : Tally). unread.Ends t now.left Missing) same h))
