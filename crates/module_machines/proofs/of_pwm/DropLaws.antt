-- Switching a notification and a serving drop the mark.
use Rattle.std.proofs.Common.{◌≡◌, ℕ, ◌+◌, ◌-◌, nat_lt, Bool, true, false, not, ◌||◌, Option, Some, None, refl, sym, ◌∙◌, ap, subst, arith}
use Rattle.std.specs.Prelude.{if◌then◌else◌}
use Rattle.std.proofs.lemmas.Bool.Decides.{nat_tests}
use Rattle.std.proofs.lemmas.Bool.{and_right}
use Rattle.mcal_base.specs.declared.error_name.ErrorName.{ErrorName}
use Rattle.run_model.specs.World.{World}
use Rattle.run_model.specs.Machine.{Outcome}
use Rattle.module_machines.specs.pwm.Checks.{error_by}
use Rattle.module_machines.specs.pwm.Output.{level_of, turns_within, turns_between}
use Rattle.module_machines.specs.pwm.Machine.{PwmState, Pulse, pulse_at, with_pulse, forgotten, switched, is_marked, is_marked_by, channel_work, acts_by, acts, ready_by, ready, served}
use Rattle.module_machines.specs.pwm.Table.{channel_of, channel_number, channel_of_line, polarity_of}
use Rattle.module_machines.specs.declared.pwm.call.Call.TheVariants as calls
use Rattle.module_machines.specs.declared.pwm.call.ChannelCall.{ChannelCall}
use Rattle.module_machines.specs.declared.pwm.call.ChannelCall.TheVariants.{EnableNotification, DisableNotification}
use Rattle.module_machines.specs.declared.pwm.call.PwmEdge.{PwmEdge}
use Rattle.module_machines.specs.declared.pwm.table.Channel.{Channel}
use Rattle.module_machines.specs.declared.pwm.table.PwmTable.{PwmTable}
use Rattle.module_machines.specs.pwm.laws.Channels.{channel_same, known_within}

-- ---- marks

-- nothing has changed since now
pub none_since : (edge : PwmEdge) (level : ℕ → Bool) (now : ℕ) → turns_between edge level now now ≡ false
none_since edge level now = ap (λ n. turns_within edge level now n) (no_time now)
  where
    no_time : (n : ℕ) → n - n ≡ 0
    no_time n = omega arith

unmarked_by : (edge : Option PwmEdge) (polarity : Bool) (now : ℕ) (p : Pulse) → p.since ≡ now → p.turned ≡ false → is_marked_by edge polarity now p ≡ false
unmarked_by None polarity now p e f = refl
unmarked_by (Some edge) polarity now p e f =
    ap (λ q. q || turns_between edge (level_of polarity p.output) p.since now) f ∙ (ap (λ t. turns_between edge (level_of polarity p.output) t now) e ∙ none_since edge (level_of polarity p.output) now)

-- a channel whose past is forgotten isn't ready
module _ (d : PwmTable) (w : World) (s : PwmState) (c : ℕ) (p : Pulse) (since : p.since ≡ w.now) (turned : p.turned ≡ false) where
  dropped_by : (k : Option Channel) → channel_of d c ≡ k → ready_by k w (with_pulse s c p) c ≡ false
  dropped_by None e = refl
  dropped_by (Some k) e =
      and_right s.initialised (is_marked (Some k) w.now (pulse_at (with_pulse s c p) c))
      (ap (λ (x : Pulse). is_marked (Some k) w.now x) (channel_same s c p (known_within d c k e)) ∙ unmarked_by p.notified (polarity_of (Some k)) w.now p since turned)

  pub dropped : ready_by (channel_of d c) w (with_pulse s c p) c ≡ false
  dropped = dropped_by (channel_of d c) refl

pub line_of : (d : PwmTable) (c : ℕ) → channel_of_line d (c + 8) ≡ channel_of d c
line_of d c = ap (λ q. if q then None else channel_of d (c + 8 - 8)) (isnt_below c) ∙ ap (λ n. channel_of d n) (back c)
  where
    isnt_below : (c : ℕ) → nat_lt (c + 8) 8 ≡ false
    isnt_below c = grind (arith, nat_tests)

    back : (c : ℕ) → c + 8 - 8 ≡ c
    back c = omega arith

pub number_of : (c : ℕ) → c + 8 - 8 ≡ c
number_of c = omega arith

-- a channel's line
pub ready_at : (d : PwmTable) (w : World) (s : PwmState) (c : ℕ) → ready_by (channel_of d c) w s c ≡ false → ready d w s (c + 8) ≡ false
ready_at d w s c e = ap (λ n. ready_by (channel_of_line d (c + 8)) w s n) (number_of c) ∙ (ap (λ k. ready_by k w s c) (line_of d c) ∙ e)

-- ---- calls and servings

-- the call switches the notification of a channel that is configured
switches_by : (d : PwmTable) (w : World) (s : PwmState) (c : ℕ) (edge : Option PwmEdge) (call : ChannelCall) → ((k : Channel) → channel_work (Some k) w.now call (pulse_at s c) ≡ switched w.now edge (pulse_at s c))
    → (k : Option Channel) → channel_of d c ≡ k → ready_by k w (with_pulse s c (channel_work k w.now call (pulse_at s c))) c ≡ false
switches_by d w s c edge call is None e = refl
switches_by d w s c edge call is (Some k) e =
    subst (λ (p : Pulse). ready_by (Some k) w (with_pulse s c p) c ≡ false) (sym (is k))
    (subst (λ (x : Option Channel). ready_by x w (with_pulse s c (switched w.now edge (pulse_at s c))) c ≡ false) e (dropped d w s c (switched w.now edge (pulse_at s c)) refl refl))

acts_drop : (d : PwmTable) (w : World) (s : PwmState) (c : ℕ) (edge : Option PwmEdge) (call : ChannelCall) (committed : ℕ → ℕ) (e : Option ErrorName)
    → ((k : Channel) → channel_work (Some k) w.now call (pulse_at s c) ≡ switched w.now edge (pulse_at s c))
    → (acts_by d w s (calls.Channel c call) committed e).told.error ≡ None → ready d w (acts_by d w s (calls.Channel c call) committed e).state (c + 8) ≡ false
acts_drop d w s c edge call committed None is f = ready_at d w (with_pulse s c (channel_work (channel_of d c) w.now call (pulse_at s c))) c (switches_by d w s c edge call is (channel_of d c) refl)
acts_drop d w s c edge call committed (Some e) is f = absurd (cc)

pub enabling_drops : (d : PwmTable) (w : World) (s : PwmState) (c : ℕ) (edge : PwmEdge) (committed : ℕ → ℕ)
    → (acts d w s (calls.Channel c (EnableNotification edge)) committed).told.error ≡ None → ready d w (acts d w s (calls.Channel c (EnableNotification edge)) committed).state (c + 8) ≡ false
enabling_drops d w s c edge committed =
    acts_drop d w s c (Some edge) (EnableNotification edge) committed (error_by d (calls.Channel c (EnableNotification edge)) (not s.initialised)) (λ k. refl)

pub disabling_drops : (d : PwmTable) (w : World) (s : PwmState) (c : ℕ) (committed : ℕ → ℕ)
    → (acts d w s (calls.Channel c DisableNotification) committed).told.error ≡ None → ready d w (acts d w s (calls.Channel c DisableNotification) committed).state (c + 8) ≡ false
disabling_drops d w s c committed = acts_drop d w s c None DisableNotification committed (error_by d (calls.Channel c DisableNotification) (not s.initialised)) (λ k. refl)

-- a line's channel is that of its number, where it has one
line_drops : (d : PwmTable) (w : World) (s t : PwmState) (l : ℕ) (q : Bool) → nat_lt l 8 ≡ q → ready_by (channel_of d (channel_number l)) w t (channel_number l) ≡ false → ready d w t l ≡ false
line_drops d w s t l true e f = ap (λ q. ready_by (if q then None else channel_of d (channel_number l)) w t (channel_number l)) e
line_drops d w s t l false e f = ap (λ q. ready_by (if q then None else channel_of d (channel_number l)) w t (channel_number l)) e ∙ f

serves_by : (d : PwmTable) (w : World) (s : PwmState) (l : ℕ) (out : Outcome PwmState) (q : Bool) → (if q then Some (served w s (channel_number l)) else None) ≡ Some out → ready d w out.state l ≡ false
serves_by d w s l out true e =
    let at : served w s (channel_number l) ≡ out = cc in
    subst (λ (o : Outcome PwmState). ready d w o.state l ≡ false) at
    (line_drops d w s (served w s (channel_number l)).state l (nat_lt l 8) refl
    (dropped d w s (channel_number l) (forgotten w.now (pulse_at s (channel_number l))) refl refl))
serves_by d w s l out false e = absurd (cc)

pub serving_drops : (d : PwmTable) (w : World) (s : PwmState) (l received : ℕ) (out : Outcome PwmState) → (if ready d w s l then Some (served w s (channel_number l)) else None) ≡ Some out → ready d w out.state l ≡ false
serving_drops d w s l received out e = serves_by d w s l out (ready d w s l) e
