-- A block is printed by one list of items alone, which leads to a place where an audit may have come.
use Rattle.std.proofs.Common.{◌≡◌, ℕ, List, [], ◌∷◌, ◌++◌, map, ◌∙◌, ap, sym, append-nil}
use Rattle.bench_report.specs.Showing.{Showing, shows_from}
use Rattle.mcal_base.specs.declared.directive.Directive.{Directive}
use Rattle.mcal_base.specs.declared.directive.Request.{Request}
use Rattle.report_text.specs.reading.Blocks.{AuditState, IsBlock, place_after, block_lines, own_lines, printed}
use Rattle.report_text.specs.reading.Fits.{DirectiveFits}
use Rattle.report_text.specs.reading.Reading.{items_of, told_in, IsPlace}
use Rattle.report_text.proofs.LinesBack.{lines_back}
use Rattle.report_text.proofs.Places.{lines_printed, frames_left, frames_count}
use Rattle.report_text.proofs.Texts.{block_own, stops_nowhere}
use Rattle.run_model.specs.Moment.{Setting}
use Rattle.trace_reader.specs.Reading.{line_with, parts_of}

module _ {State Call : Type 0} (g : Setting State Call) (call_of : Request → Call) (showing : Showing State) where
  module _ (p : AuditState State Call) (d : Directive) (block : List ℕ) where
    read_back : (b : IsBlock g call_of showing p d block) → IsPlace p → DirectiveFits d → b.items ≡ items_of g call_of p.moment d (told_in (own_lines d.line (parts_of block)))
    read_back b place fits =
        let shows = shows_from g call_of showing (d ∷ []) p.moment b.items in
        let lines = block_lines g call_of showing p d b.items in
        let own : own_lines d.line (parts_of (printed d.line lines ++ [])) ≡ map (λ line. line_with d.line line) lines = block_own d.line lines [] fits.0 (lines_printed d.order p.frames shows b.items fits.1 place.fit b.fits) (stops_nowhere d.line) in
        sym (lines_back g call_of p.moment p.frames shows d.line fits.0 d.order b.items fits.1 place.fit b.fits place.begun b.gives b.legal)
        ∙ (ap (λ (ls : List (List ℕ)). items_of g call_of p.moment d (told_in ls)) (sym own)
        ∙ ap (λ (text : List ℕ). items_of g call_of p.moment d (told_in (own_lines d.line (parts_of text)))) (append-nil (printed d.line lines) ∙ b.prints))

    pub reads_once : (one other : IsBlock g call_of showing p d block) → IsPlace p → DirectiveFits d → (one.items ≡ other.items) × IsPlace (place_after g call_of showing p d one.items)
    reads_once one other place fits = (
      read_back one place fits ∙ sym (read_back other place fits),
      record { begun = frames_count g call_of d.order one.items p.frames p.moment place.begun one.legal; fit = frames_left d.order p.frames one.items fits.1 place.fit },
    )
