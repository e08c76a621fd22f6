use Rattle.std.proofs.Common.{◌≡◌, ap, subst, sym, false, [], Some, ◌∙◌, ⊎_elim}
use Rattle.module_machines.specs.icu.Machine.{Capture, channel_work}
use Rattle.module_machines.specs.declared.icu.call.ChannelCall.{ChannelCall}
use Rattle.audit_captures.specs.Stands.{capture_of, left_served, restarts}
use Rattle.audit_captures.specs.declared.capture.Capture as kept
use Rattle.audit_captures.proofs.capture.Capture.worked.Goals as goal

pub returns-in-EnableEdgeDetection-clause-is : goal.returns-in-EnableEdgeDetection-clause-is
returns-in-EnableEdgeDetection-clause-is c es stored =
    let Works : ChannelCall → Type 0 = λ call. capture_of c.switched.result (left_served (restarts call) es) stored ≡ channel_work call (capture_of c.args.self es stored) in
    let is = c.switched.ensures.is es stored in
    ⊎_elim (λ e. subst Works (sym e) is) (λ e. subst Works (sym e) is) c.in-EnableEdgeDetection.is

pub returns-in-DisableEdgeDetection-clause-is : goal.returns-in-DisableEdgeDetection-clause-is
returns-in-DisableEdgeDetection-clause-is c es stored =
    let Works : ChannelCall → Type 0 = λ call. capture_of c.switched-in-DisableEdgeDetection.result (left_served (restarts call) es) stored ≡ channel_work call (capture_of c.args.self es stored) in
    let is = c.switched-in-DisableEdgeDetection.ensures.is es stored in
    ⊎_elim (λ e. subst Works (sym e) is) (⊎_elim (λ e. subst Works (sym e) is) (⊎_elim (λ e. subst Works (sym e) is) (λ e. subst Works (sym e) is))) c.in-DisableEdgeDetection.is

pub returns-in-StartTimestamp-clause-is : goal.returns-in-StartTimestamp-clause-is
returns-in-StartTimestamp-clause-is c es stored =
    let started : kept.Capture = record c.unserved.result { start = Some (record { size = c.in-StartTimestamp.size; interval = c.in-StartTimestamp.interval }) } in
    subst (λ call. capture_of started (left_served (restarts call) es) stored ≡ channel_work call (capture_of c.args.self es stored)) (sym c.in-StartTimestamp.is)
    (ap (λ (x : Capture). record x { start = Some (record { size = c.in-StartTimestamp.size; interval = c.in-StartTimestamp.interval }) })
    (c.unserved.ensures.is es stored ∙ ap (λ (x : Capture). record x { served = []; handed_out = false }) (c.switched-in-StartTimestamp.ensures.is es stored)))

pub returns-in-StartSignalMeasurement-clause-is : goal.returns-in-StartSignalMeasurement-clause-is
returns-in-StartSignalMeasurement-clause-is c es stored =
    subst (λ call. capture_of c.unserved-in-StartSignalMeasurement.result (left_served (restarts call) es) stored ≡ channel_work call (capture_of c.args.self es stored)) (sym c.in-StartSignalMeasurement.is)
    (c.unserved-in-StartSignalMeasurement.ensures.is es stored ∙ ap (λ (x : Capture). record x { served = []; handed_out = false }) (c.switched-in-StartSignalMeasurement.ensures.is es stored))
