-- A directive that gives one item prints the lines of that item, and leads where it leads.
use Rattle.std.proofs.Common.{◌≡◌, ℕ, false, List, [], ◌∷◌, length, Option, Some, None, refl, sym, ◌∙◌, ap, subst}
use Rattle.bench_report.specs.Lines.{Line, Restarts, Done}
use Rattle.bench_report.specs.Numbers.{Each, EntryFits, IsNumber, SaidFits}
use Rattle.bench_report.specs.Report.{chapter_frames}
use Rattle.bench_report.specs.Showing.{Showing}
use Rattle.bench_report.specs.declared.frames.Purpose.{Purpose}
use Rattle.bench_report.specs.declared.tally.Tally.{Tally}
use Rattle.irq_control.specs.declared.held.Held.{Held}
use Rattle.mcal_base.specs.declared.directive.Directive.{Directive}
use Rattle.mcal_base.specs.declared.directive.Order.{Order}
use Rattle.mcal_base.specs.declared.directive.Reason.{Reason}
use Rattle.mcal_base.specs.declared.directive.Request.{Request}
use Rattle.run_model.specs.Entry as entry
use Rattle.run_model.specs.Entry.{Entry, Said}
use Rattle.run_model.specs.Follows.{BeginsOnly, Gives, HappensOnly, IsOne, deeds_in}
use Rattle.run_model.specs.Frame.{Origin}
use Rattle.run_model.specs.Legal.{IsLegal, IsServed}
use Rattle.run_model.specs.Moment.{Moment, Setting, Transition, Happens, Resets, after, after_all}
use Rattle.report_text.specs.reading.Blocks.{AuditState, block_lines, counted, place_after}
use Rattle.report_text.specs.reading.Steps.{Comes}
use Rattle.report_auditor.specs.Auditing.{moved_to}
use Rattle.report_audit.specs.Directives.{PrintsBeginning, PrintsDeed, PrintsHappening, PrintsHeld, begun_to}
use Rattle.report_steps.specs.Going.{PrintsReset}
use Rattle.report_auditor.specs.Deeds.{beginning, restarted}
use Rattle.report_audit.specs.Obeying.{PrintsItems}
use Rattle.report_steps.proofs.GoingLaws.{counted_none, counted_ok, makes_uncounted}

-- a place by its parts
abbrev pub placed : {State Call : Type 0} → Moment State Call → List Purpose → Tally → AuditState State Call
placed m frames tally = record { moment = m; frames = frames; tally = tally }

-- a deed that comes is a legal run of itself
pub legal_one : {State Call : Type 0} (g : Setting State Call) (m : Moment State Call) (d : Transition Call) → IsServed g m → Comes g m d → IsLegal g m (d ∷ [])
legal_one g m d served comes = (served, comes.time, comes.legal, comes.served)

pub comes_one : {State Call : Type 0} (g : Setting State Call) (m : Moment State Call) (d : Transition Call) → IsLegal g m (d ∷ []) → Comes g m d
comes_one g m d h = record { time = h.1; legal = h.2; served = h.3 }

module _ {State Call : Type 0} (g : Setting State Call) (call_of : Request → Call) (showing : Showing State) (p : AuditState State Call) (d : Directive) where
  -- an item of the directive here
  abbrev pub one : Said → List Entry
  one said = (record { line = d.line; depth = length p.moment.opens; said = said }) ∷ []

  -- items that are that one alone
  pub of_one : (said : Said) → IsNumber d.line → IsNumber (length p.moment.opens) → SaidFits said → Gives g call_of p.moment d.line d.order (one said) → IsLegal g p.moment (deeds_in call_of d.order (one said))
      → (lines : List Line) (there : AuditState State Call) → block_lines g call_of showing p d (one said) ≡ lines → place_after g call_of showing p d (one said) ≡ there → PrintsItems g call_of showing p d lines there
  of_one said line depth fits gives legal lines there prints leads = record { items = one said; fits = ((line, depth, fits), tt); gives = gives; legal = legal; prints = prints; leads = leads }

  -- what such items say
  pub record SaysOne (said : Said) (lines : List Line) (there : AuditState State Call) : Type 0 where
    pub fits : SaidFits said
    pub legal : IsLegal g p.moment (deeds_in call_of d.order (one said))
    pub prints : block_lines g call_of showing p d (one said) ≡ lines
    pub leads : place_after g call_of showing p d (one said) ≡ there

  pub says_one : (said : Said) (lines : List Line) (there : AuditState State Call) (x : PrintsItems g call_of showing p d lines there) → IsOne p.moment d.line said x.items → SaysOne said lines there
  says_one said lines there x is =
      let fits : Each EntryFits (one said) = subst (Each EntryFits) is x.fits in
      record {
        fits = fits.0.2;
        legal = subst (λ (es : List Entry). IsLegal g p.moment (deeds_in call_of d.order es)) is x.legal;
        prints = subst (λ (es : List Entry). block_lines g call_of showing p d es ≡ lines) is x.prints;
        leads = subst (λ (es : List Entry). place_after g call_of showing p d es ≡ there) is x.leads;
      }

  -- ---- a directive that is held

  pub held_prints : (cause : Held) (lines : List Line) (there : AuditState State Call) → IsNumber d.line → IsNumber (length p.moment.opens) → IsServed g p.moment
      → Gives g call_of p.moment d.line d.order (one (entry.Stays cause)) → PrintsHeld p cause lines there → PrintsItems g call_of showing p d lines there
  held_prints cause lines there line depth served gives h = of_one (entry.Stays cause) line depth tt gives served lines there (sym h.lines_are) (sym h.leads)

  pub prints_held : (cause : Held) (lines : List Line) (there : AuditState State Call) (x : PrintsItems g call_of showing p d lines there) → IsOne p.moment d.line (entry.Stays cause) x.items → PrintsHeld p cause lines there
  prints_held cause lines there x is = let h = says_one (entry.Stays cause) lines there x is in record { lines_are = sym h.prints; leads = sym h.leads }

  -- ---- the hardware, which prints ok

  module _ (order : Order) (deeds : deeds_in call_of d.order (one (entry.Happens order)) ≡ Happens order ∷ []) (prints : block_lines g call_of showing p d (one (entry.Happens order)) ≡ Done ∷ [])
      (frames : chapter_frames d.order p.frames (one (entry.Happens order)) ≡ p.frames) (fits : SaidFits (entry.Happens order)) where
    -- where its item leads
    leads_on : place_after g call_of showing p d (one (entry.Happens order)) ≡ moved_to (after g p.moment (Happens order)) p
    leads_on =
        ap (λ (ds : List (Transition Call)). placed (after_all g p.moment ds) (chapter_frames d.order p.frames (one (entry.Happens order))) (counted p.tally (block_lines g call_of showing p d (one (entry.Happens order))))) deeds
        ∙ (ap (λ (fs : List Purpose). placed (after g p.moment (Happens order)) fs (counted p.tally (block_lines g call_of showing p d (one (entry.Happens order))))) frames
        ∙ (ap (λ (ls : List Line). placed (after g p.moment (Happens order)) p.frames (counted p.tally ls)) prints
        ∙ ap (λ (t : Tally). placed (after g p.moment (Happens order)) p.frames t) (sym (counted_ok p.tally))))

    pub deed_prints : (lines : List Line) (there : AuditState State Call) → IsNumber d.line → IsNumber (length p.moment.opens) → IsServed g p.moment
        → Gives g call_of p.moment d.line d.order (one (entry.Happens order))
        → PrintsDeed (Comes g p.moment (Happens order)) (moved_to (after g p.moment (Happens order)) p) lines there → PrintsItems g call_of showing p d lines there
    deed_prints lines there line depth served gives h =
        of_one (entry.Happens order) line depth fits gives (subst (IsLegal g p.moment) (sym deeds) (legal_one g p.moment (Happens order) served h.comes)) lines there (prints ∙ sym h.lines_are) (leads_on ∙ sym h.leads)

    pub prints_deed : (lines : List Line) (there : AuditState State Call) (x : PrintsItems g call_of showing p d lines there) → IsOne p.moment d.line (entry.Happens order) x.items
        → PrintsDeed (Comes g p.moment (Happens order)) (moved_to (after g p.moment (Happens order)) p) lines there
    prints_deed lines there x is =
        let h = says_one (entry.Happens order) lines there x is in
        record { comes = comes_one g p.moment (Happens order) (subst (IsLegal g p.moment) deeds h.legal); lines_are = sym h.prints ∙ prints; leads = sym h.leads ∙ leads_on }

    -- where it may be held
    pub happening_prints : (held : Option Held) (lines : List Line) (there : AuditState State Call) → IsNumber d.line → IsNumber (length p.moment.opens) → IsServed g p.moment
        → ((items : List Entry) → HappensOnly p.moment d.line order held items → Gives g call_of p.moment d.line d.order items)
        → PrintsHappening g p order held lines there → PrintsItems g call_of showing p d lines there
    happening_prints (Some cause) lines there line depth served gives h = held_prints cause lines there line depth served (gives (one (entry.Stays cause)) refl) h
    happening_prints None lines there line depth served gives h = deed_prints lines there line depth served (gives (one (entry.Happens order)) refl) h

    pub prints_happening : (held : Option Held) (lines : List Line) (there : AuditState State Call) (x : PrintsItems g call_of showing p d lines there)
        → HappensOnly p.moment d.line order held x.items → PrintsHappening g p order held lines there
    prints_happening (Some cause) lines there x h = prints_held cause lines there x h
    prints_happening None lines there x h = prints_deed lines there x h

  -- ---- a reset

  reset_leads : (reason : Reason) → place_after g call_of showing p d (one (entry.Resets reason (length p.moment.opens))) ≡ restarted g p reason
  reset_leads reason = ap (λ (t : Tally). placed (after g p.moment (Resets reason)) [] t) (makes_uncounted p.tally (Restarts reason (length p.moment.opens)) [] refl refl refl refl refl ∙ sym (counted_none p.tally))

  pub reset_prints : (reason : Reason) (lines : List Line) (there : AuditState State Call) → IsNumber d.line → IsNumber (length p.moment.opens) → IsServed g p.moment
      → Gives g call_of p.moment d.line d.order (one (entry.Resets reason (length p.moment.opens))) → PrintsReset g p reason lines there → PrintsItems g call_of showing p d lines there
  reset_prints reason lines there line depth served gives h =
      of_one (entry.Resets reason (length p.moment.opens)) line depth depth gives (legal_one g p.moment (Resets reason) served h.comes) lines there (sym h.lines_are) (reset_leads reason ∙ sym h.leads)

  pub prints_reset : (reason : Reason) (lines : List Line) (there : AuditState State Call) (x : PrintsItems g call_of showing p d lines there) → IsOne p.moment d.line (entry.Resets reason (length p.moment.opens)) x.items → PrintsReset g p reason lines there
  prints_reset reason lines there x is =
      let h = says_one (entry.Resets reason (length p.moment.opens)) lines there x is in
      record { comes = comes_one g p.moment (Resets reason) h.legal; lines_are = sym h.prints; leads = sym h.leads ∙ reset_leads reason }

  -- ---- a frame that begins, and no more

  module _ (x : Origin Call) (level : ℕ) (purpose : Purpose) (deeds : deeds_in call_of d.order (one entry.Begins) ≡ beginning x level ∷ []) (frames : chapter_frames d.order p.frames (one entry.Begins) ≡ purpose ∷ p.frames) where
    begun_leads : place_after g call_of showing p d (one entry.Begins) ≡ begun_to g p x level purpose
    begun_leads =
        ap (λ (ds : List (Transition Call)). placed (after_all g p.moment ds) (chapter_frames d.order p.frames (one entry.Begins)) (counted p.tally (Done ∷ []))) deeds
        ∙ (ap (λ (fs : List Purpose). placed (after g p.moment (beginning x level)) fs (counted p.tally (Done ∷ []))) frames
        ∙ ap (λ (t : Tally). placed (after g p.moment (beginning x level)) (purpose ∷ p.frames) t) (sym (counted_ok p.tally)))

    -- it prints ok
    pub only_prints : (held : Option Held) (lines : List Line) (there : AuditState State Call) → IsNumber d.line → IsNumber (length p.moment.opens) → IsServed g p.moment
        → ((items : List Entry) → BeginsOnly p.moment d.line held items → Gives g call_of p.moment d.line d.order items)
        → PrintsBeginning g false p x level purpose held lines there → PrintsItems g call_of showing p d lines there
    only_prints (Some cause) lines there line depth served gives h = held_prints cause lines there line depth served (gives (one (entry.Stays cause)) refl) h
    only_prints None lines there line depth served gives h =
        of_one entry.Begins line depth tt (gives (one entry.Begins) refl) (subst (IsLegal g p.moment) (sym deeds) (legal_one g p.moment (beginning x level) served h.0)) lines there (sym h.1.0) (begun_leads ∙ sym h.1.1)

    pub prints_only : (held : Option Held) (lines : List Line) (there : AuditState State Call) (y : PrintsItems g call_of showing p d lines there)
        → BeginsOnly p.moment d.line held y.items → PrintsBeginning g false p x level purpose held lines there
    prints_only (Some cause) lines there y h = prints_held cause lines there y h
    prints_only None lines there y is =
        let h = says_one entry.Begins lines there y is in
        (comes_one g p.moment (beginning x level) (subst (IsLegal g p.moment) deeds h.legal), (sym h.prints, sym h.leads ∙ begun_leads))
