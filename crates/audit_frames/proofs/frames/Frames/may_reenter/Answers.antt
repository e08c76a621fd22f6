-- A call may begin over all frames where it may over their tags.
use Rattle.std.proofs.Common.{◌∙◌, ap, not}
use Rattle.std.specs.List.{list_all}
use Rattle.run_model.specs.Causes.{blocks}
use Rattle.audit_frames.specs.Kept.{Kept}
use Rattle.audit_frames.proofs.StackLaws.{reenters}
use Rattle.audit_frames.proofs.frames.Frames.may_reenter.Goals as goal

pub returns : goal.returns
returns c =
    c.none_blocks.ensures
    ∙ (ap (list_all (λ (k : Kept). not (blocks c.args.class.now k.terms.tag))) (c.as_slice.ensures.value ∙ c.self.view_is)
    ∙ reenters c.args.class.now c.args.self.now)
