use Rattle.std.proofs.Common.{ap, ◌∙◌, ◌+◌, slice_index_or}
use Rattle.std.specs.Prelude.{if◌then◌else◌}
use Rattle.module_machines.specs.mcu.Table.{is_within}
use Rattle.audit_clock.specs.ClockStands.{ClockKept, is_between}
use Rattle.audit_clock.proofs.Fills.{within_room}
use Rattle.audit_clock.proofs.clock.Clock.fill_section.Goals as goal

pub returns-clause-is : goal.returns-clause-is
returns-clause-is c s h =
    let x = c.args.section in
    let o = c.fill.ensures.others in
    record {
      initialised = ap (λ (k : ClockKept). k.initialised) o ∙ h.initialised;
      rate = ap (λ (k : ClockKept). k.rate) o ∙ h.rate;
      pll = ap (λ (k : ClockKept). k.pll) o ∙ h.pll;
      reason = ap (λ (k : ClockKept). k.reason) o ∙ h.reason;
      mode = ap (λ (k : ClockKept). k.mode) o ∙ h.mode;
      ram = λ k lt.
          c.fill.ensures.ram k lt
          ∙ (ap (λ q. if q then x.default_value else slice_index_or c.args.self.now.ram k 0) (ap (λ e. is_between x.base e k) c.end_of.ensures ∙ within_room x.base (x.base + x.size) k lt)
          ∙ ap (λ v. if is_within x k then x.default_value else v) (h.ram k lt));
    }
