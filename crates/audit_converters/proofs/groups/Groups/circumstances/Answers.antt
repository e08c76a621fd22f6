use Rattle.audit_converters.proofs.Terms.{ap, circumstances, sym, ◌∙◌}
use Rattle.audit_converters.proofs.groups.Groups.circumstances.Goals as goal

pub returns-in-Group : goal.returns-in-Group
returns-in-Group c s h = c.group_circumstances.ensures s h ∙ ap (circumstances c.args.table.now s) (sym c.in-Group.is)

pub returns-in-Init : goal.returns-in-Init
returns-in-Init c s h = c.whole_circumstances.ensures s h ∙ ap (circumstances c.args.table.now s) (sym c.in-Init.is)

pub returns-in-DeInit : goal.returns-in-DeInit
returns-in-DeInit c s h = c.whole_circumstances-in-DeInit.ensures s h ∙ ap (circumstances c.args.table.now s) (sym c.in-DeInit.is)
