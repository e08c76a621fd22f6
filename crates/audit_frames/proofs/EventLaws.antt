-- Which events a frame may have is decided by what is kept of it.
use Rattle.std.proofs.Common.{◌≡◌, ℕ, ◌+◌, ◌<◌, ◌≤◌, Bool, true, false, not, List, map, Option, Some, refl, sym, ◌∙◌, ap, subst, arith}
use Rattle.std.specs.Prelude.{is_some, nat_lt, nat_le}
use Rattle.mcal_base.specs.declared.answer.Answer.{Answer}
use Rattle.mcal_base.specs.declared.moves.Event.{Event}
use Rattle.mcal_base.specs.declared.moves.Event.TheVariants.{Act, Serve, Abort, Start}
use Rattle.mcal_base.specs.declared.moves.Move.{Move}
use Rattle.mcal_base.specs.declared.moves.Move.TheVariants.{Read, Write}
use Rattle.mcal_base.specs.declared.moves.Unit as units
use Rattle.mcal_base.specs.declared.moves.Unit.TheVariants.{Adc0, Adc1, Spi0, Spi1}
use Rattle.mcal_base.specs.declared.register.Reg.TheVariants.{ConverterGo, ConverterAbort, SerialData}
use Rattle.mcal_base.specs.facts.Truths.{off_on, on_off}
use Rattle.run_model.specs.Frame.{Origin, Called, Entered, Open, is_wait, window_after}
use Rattle.run_model.specs.Legal as legal
use Rattle.run_model.specs.Legal.{IsNext, StandsAt, unit_number}
use Rattle.run_model.specs.Moment.{Setting}
use Rattle.run_model.specs.World.{World}
use Rattle.audit_frames.specs.Decides.{Decides}
use Rattle.audit_frames.specs.EventRules.{is_converter_of, is_serial_of, starts, aborts, stands_at, may_have, waits_open}
use Rattle.audit_frames.specs.OwingRules.{is_empty}
use Rattle.audit_frames.specs.LineRules.{is_next}
use Rattle.audit_frames.specs.PaceRules.{has_room, is_going}
use Rattle.audit_frames.specs.Parts.{IsHad}
use Rattle.audit_frames.specs.StandsFor.{IsTask, LinesStand, PaceStands, owing_of}
use Rattle.audit_frames.specs.Told.{ArePolled}
use Rattle.audit_frames.specs.declared.lines.Lines.{Lines}
use Rattle.audit_frames.specs.declared.owing.Owing.{Owing}
use Rattle.audit_frames.specs.declared.pace.Pace.{Pace}
use Rattle.audit_frames.specs.declared.terms.Task.{Task}
use Rattle.audit_frames.specs.declared.terms.Task.TheVariants.{Call, Line}
use Rattle.audit_frames.specs.declared.terms.Terms.{Terms}
use Rattle.audit_frames.proofs.Deciding.{at_most, both, clear, equal, implies, itself, less, missing, no, three, valued, worded, yes}
use Rattle.audit_frames.proofs.LineLaws.{next, none_served}
use Rattle.audit_frames.proofs.OwingLaws.{owes_some}

-- ---- the move of an event

converter : (u : units.Unit) (k : ℕ) → Decides (is_converter_of u k) ((legal.is_converter u ≡ true) × (k ≡ unit_number u))
converter Adc0 k = worded (λ e. (refl, e)) (λ h. h.1) (equal k 0)
converter Adc1 k = worded (λ e. (refl, e)) (λ h. h.1) (equal k 1)
converter Spi0 k = no (λ h. off_on h.0)
converter Spi1 k = no (λ h. off_on h.0)

serial : (u : units.Unit) (k : ℕ) → Decides (is_serial_of u k) ((legal.is_converter u ≡ false) × (k ≡ unit_number u))
serial Adc0 k = no (λ h. on_off h.0)
serial Adc1 k = no (λ h. on_off h.0)
serial Spi0 k = worded (λ e. (refl, e)) (λ h. h.1) (equal k 0)
serial Spi1 k = worded (λ e. (refl, e)) (λ h. h.1) (equal k 1)

start_at : (u : units.Unit) (made : Move) (value : ℕ) → Decides (starts u made) (StandsAt (Start u) made value)
start_at u (Write (ConverterGo k) v) value = converter u k
start_at u (Write (SerialData k) v) value = serial u k
start_at u _ value = no (λ h. h)

abort_at : (u : units.Unit) (made : Move) (value : ℕ) → Decides (aborts u made value) (StandsAt (Abort u) made value)
abort_at u (Read (ConverterAbort k)) value = worded (λ h. (h.0.0, h.0.1, h.1)) (λ h. ((h.0, h.1), h.2)) (both (converter u k) (equal value 1))
abort_at u _ value = no (λ h. h)

pub event_at : (e : Event) (made : Move) (value : ℕ) → Decides (stands_at (Some e) made value) (StandsAt e made value)
event_at Act made value = yes tt
event_at (Serve l) made value = yes tt
event_at (Start u) made value = start_at u made value
event_at (Abort u) made value = abort_at u made value

pub wait_open : (inside q : Bool) (made : Move) → inside ≡ q → Decides (waits_open inside made) (is_wait made ≡ true → q ≡ false)
wait_open inside q made e = implies (itself (is_wait made)) (valued (ap (λ b. not b) e) (clear q))

-- ---- the event

module _ {State C : Type 0} (g : Setting State C) (w : World) (s : State) (asked : ℕ) (k : Lines) (answer : Option Answer) (owed : List Owing) (inside : Bool) (polls : List ℕ) (o : Open C) where
  serves_next : (c : C) (l : ℕ) → LinesStand asked k o → polls ≡ g.machine.polls w s c → Decides (is_next polls k.served l) (IsNext (g.machine.polls w s c) o.served l)
  serves_next c l lines same = subst (λ ps. Decides (is_next polls k.served l) (IsNext ps o.served l)) same (next polls o.served k.served l lines.served)

  pub had : (task : Task) (origin : Origin C) (e : Event) → IsTask g asked task origin → LinesStand asked k o → answer ≡ o.acted → map owing_of owed ≡ o.owed → inside ≡ o.inside → ArePolled g.machine w s polls origin
      → Decides (may_have task k (is_some answer) (not (is_empty owed)) inside polls (Some e)) (IsHad g.machine w s o e origin)
  had (Call x) (Called c) Act is lines a ns i same = valued (ap (λ y. not (is_some y)) a) (missing o.acted)
  had (Line x) (Entered d) Act is lines a ns i same = no (λ h. h)
  had (Call x) (Called c) (Serve l) is lines a ns i same = three (serves_next c l lines same) (owes_some owed o.owed ns) (valued i (itself o.inside))
  had (Line x) (Entered d) (Serve l) is lines a ns i same = three (worded (λ e. e ∙ is.0) (λ e. e ∙ sym is.0) (equal l x)) (none_served o.served k.has_served lines.has_served) (valued i (itself o.inside))
  had (Call x) (Called c) (Abort u) is lines a ns i same = owes_some owed o.owed ns
  had (Line x) (Entered d) (Abort u) is lines a ns i same = owes_some owed o.owed ns
  had (Call x) (Called c) (Start u) is lines a ns i same = owes_some owed o.owed ns
  had (Line x) (Entered d) (Start u) is lines a ns i same = owes_some owed o.owed ns
  had (Call x) (Entered d) e is lines a ns i same = absurd is
  had (Line x) (Called c) e is lines a ns i same = absurd is

-- ---- room

lt_le : (a b : ℕ) → a < b → a + 1 ≤ b
lt_le a b h = omega (arith, h)

le_lt : (a b : ℕ) → a + 1 ≤ b → a < b
le_lt a b h = omega (arith, h)

pub room : {Call : Type 0} (p : Pace) (terms : Terms) (o : Open Call) (steps window : ℕ) (made : Move) → PaceStands p o → terms.steps ≡ steps → terms.window ≡ window
    → Decides (has_room p terms made) ((o.steps + 1 ≤ steps) × (window_after o.inside o.window made ≤ window))
room p terms o steps window made pace s w =
    both
    (worded (lt_le o.steps steps) (le_lt o.steps steps) (valued (ap (λ n. nat_lt n terms.steps) pace.steps ∙ ap (λ n. nat_lt o.steps n) s) (less o.steps steps)))
    (valued (ap (λ b. nat_le (window_after b p.window made) terms.window) pace.inside ∙ (ap (λ n. nat_le (window_after o.inside n made) terms.window) pace.window ∙ ap (λ n. nat_le (window_after o.inside o.window made) n) w)) (at_most (window_after o.inside o.window made) window))

pub going : {Call : Type 0} (p : Pace) (terms : Terms) (o : Open Call) (steps window : ℕ) → PaceStands p o → terms.steps ≡ steps → terms.window ≡ window
    → Decides (is_going p terms) ((o.steps < steps) × (o.inside ≡ true → o.window < window))
going p terms o steps window pace s w =
    both
    (valued (ap (λ n. nat_lt n terms.steps) pace.steps ∙ ap (λ n. nat_lt o.steps n) s) (less o.steps steps))
    (implies (valued pace.inside (itself o.inside)) (valued (ap (λ n. nat_lt n terms.window) pace.window ∙ ap (λ n. nat_lt o.window n) w) (less o.window window)))
