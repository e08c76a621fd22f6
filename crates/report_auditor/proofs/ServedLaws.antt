-- A moment is served where each part of it is right.
use Rattle.std.proofs.Common.{◌≡◌, ℕ, Bool, true, false, not, ◌||◌, sym, ◌∙◌, List, [], ◌∷◌, Some, None, slice_get}
use Rattle.chip_model.specs.Chip.{is_pending}
use Rattle.mcal_base.specs.declared.moves.Unit as units
use Rattle.mcal_base.specs.declared.moves.Unit.TheVariants.{Adc0, Adc1, Spi0, Spi1}
use Rattle.run_model.specs.Frame.{Open}
use Rattle.run_model.specs.Legal.{AreGoing, IsQuiet, IsServed, QuietAtRest}
use Rattle.run_model.specs.Moment.{Moment, Setting}
use Rattle.audit_frames.specs.Decides.{Decides}
use Rattle.audit_frames.specs.Kept.{Kept}
use Rattle.audit_frames.specs.StackRules.{StandAll}
use Rattle.audit_frames.proofs.Deciding.{no, worded, yes}
use Rattle.mcal_base.specs.facts.Truths.{off_on}
use Rattle.report_auditor.specs.Serving.{KeepsTime, OpenRight}

-- of four units none may start or abort
at_each : (startable : units.Unit → Bool) → (startable Adc0 ≡ false) → (startable Adc1 ≡ false) → (startable Spi0 ≡ false) → (startable Spi1 ≡ false) → (u : units.Unit) → startable u ≡ false
at_each startable a b c d Adc0 = a
at_each startable a b c d Adc1 = b
at_each startable a b c d Spi0 = c
at_each startable a b c d Spi1 = d

pub all_rest : (startable : units.Unit → Bool) (b c d e : Bool) → b ≡ startable Adc0 → c ≡ startable Adc1 → d ≡ startable Spi0 → e ≡ startable Spi1 → Decides (not (b || c || d || e)) ((u : units.Unit) → startable u ≡ false)
all_rest startable true c d e f g h i = no (λ x. off_on (sym (x Adc0) ∙ sym f))
all_rest startable false true d e f g h i = no (λ x. off_on (sym (x Adc1) ∙ sym g))
all_rest startable false false true e f g h i = no (λ x. off_on (sym (x Spi0) ∙ sym h))
all_rest startable false false false true f g h i = no (λ x. off_on (sym (x Spi1) ∙ sym i))
all_rest startable false false false false f g h i = yes (at_each startable (sym f) (sym g) (sym h) (sym i))

module _ {State Call : Type 0} (g : Setting State Call) (m : Moment State Call) where
  pub time_of : IsServed g m → KeepsTime g m
  time_of h = record { rate = h.rate; expiry = h.expiry }

  pub open_of : IsServed g m → OpenRight g m
  open_of h = λ off. record { lines = record { due = h.due off; unused = h.unused off }; outputs = h.outputs off }

  pub served : {b : Bool} → KeepsTime g m → AreGoing g m.opens → OpenRight g m → Decides b (QuietAtRest g m m.opens) → Decides b (IsServed g m)
  served time going opened quiet =
      worded
      (λ h. record {
        due = λ off. (opened off).lines.due;
        unused = λ off. (opened off).lines.unused;
        outputs = λ off. (opened off).outputs;
        quiet = h;
        rate = time.rate;
        expiry = time.expiry;
        going = going;
      })
      (λ h. h.quiet)
      quiet

  -- what is asked with no frame under way, where there are as many that are kept
  at_rest : {b : Bool} (opens : List (Open Call)) → StandAll g [] opens → Decides b (IsQuiet g m) → Decides b (QuietAtRest g m opens)
  at_rest [] h d = d
  at_rest (o ∷ os) h d = absurd h

  at_work : (k : Kept) (ks : List Kept) (opens : List (Open Call)) → StandAll g (k ∷ ks) opens → Decides true (QuietAtRest g m opens)
  at_work k ks [] h = absurd h
  at_work k ks (o ∷ os) h = yes tt

  pub rests : {b : Bool} (ks : List Kept) (opens : List (Open Call)) → None ≡ slice_get ks 0 → StandAll g ks opens → Decides b (IsQuiet g m) → Decides b (QuietAtRest g m opens)
  rests [] opens e h d = at_rest opens h d
  rests (k ∷ ks) opens e h d = absurd (cc)

  pub works : (ks : List Kept) (k : Kept) (opens : List (Open Call)) → Some k ≡ slice_get ks 0 → StandAll g ks opens → Decides true (QuietAtRest g m opens)
  works [] k opens e h = absurd (cc)
  works (first ∷ ks) k opens e h = at_work first ks opens h

  -- ---- with no frame under way

  pub quiet : {b : Bool} → ((u : units.Unit) → g.machine.startable m.world m.state u ≡ false) → ((l : ℕ) → is_pending m.chip l ≡ g.machine.due m.world m.state l) → Decides b (g.rest m.chip m.world m.state) → Decides b (IsQuiet g m)
  quiet units lines d = worded (λ h. record { units = units; lines = lines; rest = h }) (λ h. h.rest) d
