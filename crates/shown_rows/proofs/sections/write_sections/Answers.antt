use Rattle.std.proofs.Common.{◌∙◌}
use Rattle.shown_rows.proofs.Rows.{sections_more}
use Rattle.shown_rows.proofs.sections.write_sections.Goals as goal

pub loop-number-preserved : goal.loop-number-preserved
loop-number-preserved g c w s h =
    c.in_ok-write_section.ensures w s h ∙ sections_more _ _ c.args.line s c.args.sections.now c.section_at-section.result.now c.loop-number.number c.section_at-section.ensures.section (c.loop-number.invariant w s h)
