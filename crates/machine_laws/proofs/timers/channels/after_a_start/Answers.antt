use Rattle.std.proofs.Common.{ℕ, sym, ◌∙◌, ap}
use Rattle.mcal_base.specs.Expiry.{runs_on}
use Rattle.module_machines.specs.gpt.Machine.{GptState, Course, Running, acts}
use Rattle.module_machines.specs.declared.gpt.call.Call.TheVariants as calls
use Rattle.module_machines.specs.declared.gpt.call.ChannelCall.TheVariants.{StartTimer}
use Rattle.machine_laws.specs.timers.Channels.{after_all}
use Rattle.machine_laws.proofs.ChannelMarks.{mark_is, after_start, runs_is, elapsed_answer, remaining_answer}
use Rattle.machine_laws.proofs.CountLaws.{runs_until}
use Rattle.machine_laws.proofs.timers.channels.after_a_start.Goals as goal

pub returns-clause-mark : goal.returns-clause-mark
returns-clause-mark _ d w later s c target k history told there left =
    let first = after_start d w s c target k history told there left in
    mark_is d later (after_all d (acts d w s (calls.Channel c (StartTimer target))).state history) c w.now target w.now k there first.0

pub returns-clause-elapsed : goal.returns-clause-elapsed
returns-clause-elapsed _ d w later s c target k history told there left =
    let first = after_start d w s c target k history told there left in
    let end : GptState = after_all d (acts d w s (calls.Channel c (StartTimer target))).state history in
    elapsed_answer d later end c k (Running w.now target) first.1 there (ap (λ (p : Course × ℕ). p.0) first.0)

pub returns-clause-remaining : goal.returns-clause-remaining
returns-clause-remaining _ d w later s c target k history told there left =
    let first = after_start d w s c target k history told there left in
    let end : GptState = after_all d (acts d w s (calls.Channel c (StartTimer target))).state history in
    remaining_answer d later end c k (Running w.now target) first.1 there (ap (λ (p : Course × ℕ). p.0) first.0)

pub returns-clause-one_shot : goal.returns-clause-one_shot
returns-clause-one_shot _ d w later s c target k history told there left once some counts =
    let first = after_start d w s c target k history told there left in
    let end : GptState = after_all d (acts d w s (calls.Channel c (StartTimer target))).state history in
    let is = runs_is d later end c k (Running w.now target) there (ap (λ (p : Course × ℕ). p.0) first.0) ∙ ap (λ q. runs_on q w.now target k.prescaler later.now) once in
    let times = runs_until w.now target k.prescaler later.now some counts in
    (λ e. times.0 (sym is ∙ e), λ e. is ∙ times.1 e)

pub returns-clause-continuous : goal.returns-clause-continuous
returns-clause-continuous _ d w later s c target k history told there left always =
    let first = after_start d w s c target k history told there left in
    let end : GptState = after_all d (acts d w s (calls.Channel c (StartTimer target))).state history in
    runs_is d later end c k (Running w.now target) there (ap (λ (p : Course × ℕ). p.0) first.0) ∙ ap (λ q. runs_on q w.now target k.prescaler later.now) always
