use Rattle.audit_converters.proofs.Terms.{after_round, false, group_of, is_continuous, Stands, subst, sym, ◌∙◌}
use Rattle.audit_converters.proofs.groups.Groups.after_round.Goals as goal

pub returns-then-full-clause-is : goal.returns-then-full-clause-is
returns-then-full-clause-is c s h =
    subst (λ b. Stands c.switch_off.new.self (after_round c.args.table.now s c.args.group c.args.number b (is_continuous (group_of c.args.table.now c.args.group)))) (sym c.if-full.true) (c.switch_off.ensures.is s h)

pub returns-then-is_continuous-clause-is : goal.returns-then-is_continuous-clause-is
returns-then-is_continuous-clause-is c s h =
    subst (λ b. Stands c.set_waiting.new.self (after_round c.args.table.now s c.args.group c.args.number b (is_continuous (group_of c.args.table.now c.args.group)))) (sym c.if-full.false)
    (subst (λ b. Stands c.set_waiting.new.self (after_round c.args.table.now s c.args.group c.args.number false b)) (sym c.if-is_continuous.true ∙ c.is_continuous.ensures)
    (c.set_waiting.ensures.is s h))

pub returns-else-is_continuous-clause-is : goal.returns-else-is_continuous-clause-is
returns-else-is_continuous-clause-is c s h =
    subst (λ b. Stands c.args.self.now (after_round c.args.table.now s c.args.group c.args.number b (is_continuous (group_of c.args.table.now c.args.group)))) (sym c.if-full.false)
    (subst (λ b. Stands c.args.self.now (after_round c.args.table.now s c.args.group c.args.number false b)) (sym c.if-is_continuous.false ∙ c.is_continuous.ensures) h)
