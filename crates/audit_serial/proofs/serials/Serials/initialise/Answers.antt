use Rattle.audit_serial.proofs.Terms.{ap, initialised_in, Polling, same_parts, SpiTable, ◌∙◌}
use Rattle.audit_serial.proofs.serials.Serials.initialise.Goals as goal

pub returns-clause-state : goal.returns-clause-state
returns-clause-state c =
    same_parts Polling _ _ _ _ _ _ _ _ _ _ (c.in_ok-initialise.ensures ∙ ap (λ (d : SpiTable). initialised_in d c.args.self.now.channels) c.table.ensures) c.clear.ensures.items c.clear-2.ensures.items c.clear-3.ensures c.clear-4.ensures
