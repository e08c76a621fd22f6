use Rattle.audit_converters.proofs.Terms.{answers, ap, begun_stream, false, Gives, group_work, GroupKept, name_of, named, refl, Stands, subst, sym, ◌∙◌}
use Rattle.audit_converters.proofs.groups.Groups.work_on.Goals as goal

pub returns-in-SetupResultBuffer-clause-is : goal.returns-in-SetupResultBuffer-clause-is
returns-in-SetupResultBuffer-clause-is c s h =
    subst (λ call. Gives (Stands c.choose.new.self) c.with_answer.result (group_work c.args.table.now s c.args.group call)) (sym c.in-SetupResultBuffer.is)
    (record { told = c.with_answer.ensures ∙ ap answers c.named.ensures; wordless = refl; kept = c.choose.ensures.is s h })

pub returns-in-StartGroupConversion-clause-is : goal.returns-in-StartGroupConversion-clause-is
returns-in-StartGroupConversion-clause-is c s h =
    subst (λ call. Gives (Stands c.request.new.self) c.nothing.result (group_work c.args.table.now s c.args.group call)) (sym c.in-StartGroupConversion.is)
    (record { told = c.nothing.ensures; wordless = refl; kept = c.request.ensures.is (begun_stream s c.args.group false) (c.begin_stream.ensures.is s h) })

pub returns-in-EnableHardwareTrigger-clause-is : goal.returns-in-EnableHardwareTrigger-clause-is
returns-in-EnableHardwareTrigger-clause-is c s h =
    subst (λ call. Gives (Stands c.begin_stream-in-EnableHardwareTrigger.new.self) c.nothing-in-EnableHardwareTrigger.result (group_work c.args.table.now s c.args.group call)) (sym c.in-EnableHardwareTrigger.is)
    (record { told = c.nothing-in-EnableHardwareTrigger.ensures; wordless = refl; kept = c.begin_stream-in-EnableHardwareTrigger.ensures.is s h })

pub returns-in-StopGroupConversion-clause-is : goal.returns-in-StopGroupConversion-clause-is
returns-in-StopGroupConversion-clause-is c s h =
    subst (λ call. Gives (Stands c.stop.new.self) c.nothing-in-StopGroupConversion.result (group_work c.args.table.now s c.args.group call)) (sym c.in-StopGroupConversion.is)
    (record { told = c.nothing-in-StopGroupConversion.ensures; wordless = refl; kept = c.stop.ensures.is s h })

pub returns-in-DisableHardwareTrigger-clause-is : goal.returns-in-DisableHardwareTrigger-clause-is
returns-in-DisableHardwareTrigger-clause-is c s h =
    subst (λ call. Gives (Stands c.stop-in-DisableHardwareTrigger.new.self) c.nothing-in-DisableHardwareTrigger.result (group_work c.args.table.now s c.args.group call)) (sym c.in-DisableHardwareTrigger.is)
    (record { told = c.nothing-in-DisableHardwareTrigger.ensures; wordless = refl; kept = c.stop-in-DisableHardwareTrigger.ensures.is s h })

pub returns-in-Notification-clause-is : goal.returns-in-Notification-clause-is
returns-in-Notification-clause-is c s h =
    subst (λ call. Gives (Stands c.notify.new.self) c.nothing-in-Notification.result (group_work c.args.table.now s c.args.group call)) (sym c.in-Notification.is)
    (record { told = c.nothing-in-Notification.ensures; wordless = refl; kept = c.notify.ensures.is s h })

pub returns-in-GetGroupStatus-clause-is : goal.returns-in-GetGroupStatus-clause-is
returns-in-GetGroupStatus-clause-is c s h =
    subst (λ call. Gives (Stands c.args.self.now) c.with_answer-in-GetGroupStatus.result (group_work c.args.table.now s c.args.group call)) (sym c.in-GetGroupStatus.is)
    (record { told = c.with_answer-in-GetGroupStatus.ensures ∙ ap answers (c.named-in-GetGroupStatus.ensures ∙ ap named (c.name.ensures ∙ ap (λ (y : GroupKept). name_of y.status) (c.at.ensures.is s h))); wordless = refl; kept = h })

pub returns-in-ReadGroup-clause-is : goal.returns-in-ReadGroup-clause-is
returns-in-ReadGroup-clause-is c s h = subst (λ call. Gives (Stands c.read.new.self) c.read.result (group_work c.args.table.now s c.args.group call)) (sym c.in-ReadGroup.is) (c.read.ensures.is s h)

pub returns-in-GetStreamLastPointer-clause-is : goal.returns-in-GetStreamLastPointer-clause-is
returns-in-GetStreamLastPointer-clause-is c s h = subst (λ call. Gives (Stands c.point.new.self) c.point.result (group_work c.args.table.now s c.args.group call)) (sym c.in-GetStreamLastPointer.is) (c.point.ensures.is s h)
