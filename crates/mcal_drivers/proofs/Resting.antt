-- What is known where no frame is under way.
use Rattle.std.proofs.Common.{◌≡◌, ℕ, ◌<◌, Bool, false, List, [], ◌∷◌, length, refl, sym, ◌∙◌, subst, arith}
use Rattle.chip_model.specs.Chip.{Chip, is_masked}
use Rattle.chip_model.specs.Histories.{Made, Hardware}
use Rattle.chip_model.proofs.HistoryLaws.{wiring-left}
use Rattle.run_model.specs.declared.item.Stepped.{Stepped}
use Rattle.run_model.specs.Frame.{Open}
use Rattle.run_model.specs.Legal.{IsQuiet, QuietAtRest, IsServed}
use Rattle.run_model.specs.Moment.{Setting, Moment, Transition, Begins, Enters, Steps, Happens, Resets, start_moment, after_step, after, after_all}
use Rattle.run_model.specs.Outside.{StandsIn}
use Rattle.run_model.specs.World.{World}
use Rattle.step_runner.specs.Driver.{Driver}
use Rattle.step_runner.specs.Stands.{paired, AreFramesOf, IsGuarded, Stands}
use Rattle.step_runner.specs.declared.stack.Under.{Under}
use Rattle.step_runner.specs.Union.{Splits, Nothing_open, UnionRelates, has_handler, union_of}
use Rattle.service_outline.specs.guests.Guest.{Guest, guest_of}
use Rattle.service_outline.specs.guests.Frames.{no-hosts}
use Rattle.run_model.proofs.LegalLaws.{served-last}

-- ---- the wiring, which stays

module _ {State Call : Type 0} (g : Setting State Call) where
  step-wiring : (m : Moment State Call) (os : List (Open Call)) (s : Stepped) → (after_step g m os s).chip.wiring ≡ m.chip.wiring
  step-wiring m [] s = refl
  step-wiring m (o ∷ os) s = wiring-left m.chip (Made s.made s.received)

  deed-wiring : (m : Moment State Call) (x : Transition Call) → (after g m x).chip.wiring ≡ m.chip.wiring
  deed-wiring m (Begins c level) = refl
  deed-wiring m (Enters l) = refl
  deed-wiring m (Steps s) = step-wiring m m.opens s
  deed-wiring m (Happens order) = wiring-left m.chip (Hardware order)
  deed-wiring m (Resets reason) = refl

  all-wiring : (m : Moment State Call) (xs : List (Transition Call)) → (after_all g m xs).chip.wiring ≡ m.chip.wiring
  all-wiring m [] = refl
  all-wiring m (x ∷ xs) = all-wiring (after g m x) xs ∙ deed-wiring m x

-- ---- at rest

-- the chip is the moment's, which stands in its world with the mask open, and is the machine's in all that may be seen
pub record Rests {State Call : Type 0} (g : Setting State Call) (first chip : Chip) (m : Moment State Call) : Type 0 where
  pub chip_is : chip ≡ m.chip
  pub outside : StandsIn m.chip m.world
  pub unmasked : is_masked m.chip ≡ false
  pub served : IsServed g m
  pub quiet : IsQuiet g m
  pub wiring : m.chip.wiring ≡ first.wiring

no_pairs : {Call Frame : Type 0} (us : List (Under Frame)) (os : List (Open Call)) → os ≡ [] → paired us os ≡ []
no_pairs [] os e = refl
no_pairs (u ∷ us) [] e = refl
no_pairs (u ∷ us) (o ∷ os) e = cc

module _ {State Call Frame : Type 0} (d : Driver State Call Frame) (first chip : Chip) (us : List (Under Frame)) (h : List (Transition Call)) (stands : Stands d first chip us h) where
  abbrev there : Moment State Call
  there = after_all d.setting (start_moment d.setting first) h

  pub rests : there.opens ≡ [] → Rests d.setting first chip there
  rests none =
      let served = served-last d.setting (start_moment d.setting first) h stands.legal in
      record {
        chip_is = stands.matches.chip_is;
        outside = stands.matches.outside;
        unmasked = subst (λ os. IsGuarded (is_masked there.chip) os) none stands.matches.guarded;
        served = served;
        quiet = subst (λ os. QuietAtRest d.setting there os) none served.quiet;
        wiring = all-wiring d.setting (start_moment d.setting first) h;
      }

  -- the relation of the driver, where no frame is there
  pub related : there.opens ≡ [] → d.relates chip there.world [] there.state
  related none =
      let alone = subst (λ ps. d.relates there.chip there.world ps there.state) (no_pairs us there.opens none) stands.matches.relates in
      subst (λ x. d.relates x there.world [] there.state) (sym stands.matches.chip_is) alone

  some-open : (us : List (Under Frame)) (os : List (Open Call)) → AreFramesOf d us os → 0 < length us → 0 < length os
  some-open [] os frames some = absurd (omega (arith, some))
  some-open (u ∷ us) [] frames some = absurd frames
  some-open (u ∷ us) (o ∷ os) frames some = omega arith

  -- a frame on the stack is one that is under way
  pub opens-some : 0 < length us → 0 < length there.opens
  opens-some some = some-open us there.opens stands.matches.frames some

-- ---- the members of a union, where no frame is there

first_alone : {S T C D F G : Type 0} (ours : ℕ → Bool) (First : Chip → World → List (F × Open C) → S → Type 0) (Second : Chip → World → List (G × Open D) → T → Type 0) (chip : Chip) (w : World) (s : S × T) → UnionRelates ours First Second chip w [] s → First chip w [] s.0
first_alone {C = C} {D = D} {F = F} {G = G} ours First Second chip w s h = by h.firsts h.seconds h.splits h.first
  where
    by : (fs : List (F × Open C)) (gs : List (G × Open D)) → Splits ours [] fs gs → First chip w fs s.0 → First chip w [] s.0
    by fs gs Nothing_open k = k

second_alone : {S T C D F G : Type 0} (ours : ℕ → Bool) (First : Chip → World → List (F × Open C) → S → Type 0) (Second : Chip → World → List (G × Open D) → T → Type 0) (chip : Chip) (w : World) (s : S × T) → UnionRelates ours First Second chip w [] s → Second chip w [] s.1
second_alone {C = C} {D = D} {F = F} {G = G} ours First Second chip w s h = by h.firsts h.seconds h.splits h.second
  where
    by : (fs : List (F × Open C)) (gs : List (G × Open D)) → Splits ours [] fs gs → Second chip w gs s.1 → Second chip w [] s.1
    by fs gs Nothing_open k = k

-- of two, the first and the second
pub first_of : {S T C D F G : Type 0} (d : Driver S C F) (e : Driver T D G) (chip : Chip) (w : World) (s : S × T) → (union_of d e).relates chip w [] s → d.relates chip w [] s.0
first_of d e chip w s h = first_alone (has_handler d) d.relates e.relates chip w s h

pub second_of : {S T C D F G : Type 0} (d : Driver S C F) (e : Driver T D G) (chip : Chip) (w : World) (s : S × T) → (union_of d e).relates chip w [] s → e.relates chip w [] s.1
second_of d e chip w s h = second_alone (has_handler d) d.relates e.relates chip w s h

-- of a driver with its guest, the driver
pub host_of : {S C D F G : Type 0} (d : Driver S C F) (g : Guest S D G) (chip : Chip) (w : World) (s : S) → (guest_of d g).relates chip w [] s → d.relates chip w [] s
host_of d g chip w s h = subst (λ ps. d.relates chip w ps s) (no-hosts h.hosts h.guests h.splits) h.host

-- of three, of which the last two are one, the last
pub last_of : {S T U C D E F G H : Type 0} (d : Driver S C F) (e : Driver T D G) (f : Driver U E H) (chip : Chip) (w : World) (s : S × (T × U)) → (union_of d (union_of e f)).relates chip w [] s → f.relates chip w [] s.1.1
last_of d e f chip w s h = second_alone (has_handler e) e.relates f.relates chip w s.1 (second_alone (has_handler d) d.relates (union_of e f).relates chip w s h)

-- of four, of which the two in the middle are one with the last, the second of these
pub middle_of : {S T U V C D E B F G H I : Type 0} (d : Driver S C F) (e : Driver T D G) (f : Driver U E H) (g : Driver V B I) (chip : Chip) (w : World) (s : S × ((T × U) × V)) → (union_of d (union_of (union_of e f) g)).relates chip w [] s → f.relates chip w [] s.1.0.1
middle_of d e f g chip w s h =
    let seconds = second_alone (has_handler d) d.relates (union_of (union_of e f) g).relates chip w s h in
    let middle = first_alone (has_handler (union_of e f)) (union_of e f).relates g.relates chip w s.1 seconds in
    second_alone (has_handler e) e.relates f.relates chip w s.1.0 middle
