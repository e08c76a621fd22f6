-- No unit may start or abort where none of four may.
use Rattle.audit_frames.proofs.Deciding.{valued}
use Rattle.report_auditor.proofs.ServedLaws.{all_rest}
use Rattle.report_auditor.proofs.served.units_rest.Goals as goal

pub returns : goal.returns
returns g c w s at stands =
    valued c.none_is.ensures (all_rest (λ u. (g.P.Part.member (g.P.Part.table c.args.part.now)).machine.startable w s u) c.startable-one.result c.startable-two.result c.startable-three.result c.startable-four.result
    (c.startable-one.ensures w s c.requires.fits at stands) (c.startable-two.ensures w s c.requires.fits at stands) (c.startable-three.ensures w s c.requires.fits at stands) (c.startable-four.ensures w s c.requires.fits at stands))
