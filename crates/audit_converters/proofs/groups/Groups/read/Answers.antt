use Rattle.audit_converters.proofs.Terms.{answers, ap, EOk, Gives, group_at, GroupKept, is_busy, named_with, reads_busy, reads_other, refl, Stands, subst, sym, ◌∙◌}
use Rattle.audit_converters.proofs.groups.Groups.read.Goals as goal

pub returns-then-is_busy-clause-is : goal.returns-then-is_busy-clause-is
returns-then-is_busy-clause-is c s h =
    let g = c.args.group in
    let known = sym (c.is_busy.ensures ∙ ap (λ (y : GroupKept). is_busy y.status) (c.at-found.ensures.is s h)) ∙ c.if-is_busy.true in
    subst (λ out. Gives (Stands c.args.self.now) c.with_answer.result out) (reads_busy c.args.table.now s g (group_at s g).status known)
    (record { told = c.with_answer.ensures ∙ ap answers c.named.ensures; wordless = refl; kept = h })

pub returns-else-is_busy-clause-is : goal.returns-else-is_busy-clause-is
returns-else-is_busy-clause-is c s h =
    let g = c.args.group in
    let fresh = c.at-found.ensures.is s h in
    let known = sym (c.is_busy.ensures ∙ ap (λ (y : GroupKept). is_busy y.status) fresh) ∙ c.if-is_busy.false in
    subst (λ out. Gives (Stands c.read_from.new.self) c.with_answer-else-is_busy.result out) (reads_other c.args.table.now s g (group_at s g).status known)
    (record {
      told = c.with_answer-else-is_busy.ensures ∙ ap answers (c.values_answer.ensures ∙ ap (named_with EOk) (c.words.ensures ∙ ap (λ (y : GroupKept). y.newest) fresh));
      wordless = refl;
      kept = c.read_from.ensures.is s h;
    })
