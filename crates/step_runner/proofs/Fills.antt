-- Why a fill is held, as the runner tells it and as the moment does.
use Rattle.std.proofs.Common.{◌≡◌, ℕ, ◌<◌, ◌≤◌, Bool, true, false, ◌&&◌, ◌||◌, cond, List, [], ◌∷◌, Option, Some, None, is_some, refl, sym, ◌∙◌, ap, subst}
use Rattle.std.specs.Prelude.{IfSome}
use Rattle.std.specs.List.{list_any}
use Rattle.chip_model.specs.Chip.{Chip, CanHappen, source_length, is_masked}
use Rattle.irq_control.specs.declared.held.Held.TheVariants.{Busy, Unknown}
use Rattle.mcal_base.specs.declared.directive.Order.TheVariants.{Fill}
use Rattle.run_model.specs.World.{World}
use Rattle.run_model.specs.Frame.{Origin, Called, Entered, Open}
use Rattle.run_model.specs.Causes.{reads_source, fill_cause, origins_of}
use Rattle.run_model.specs.Legal.{hardware_held}
use Rattle.run_model.specs.Moment.{reads_from, is_busy, Moment, Transition, start_moment, after_all}
use Rattle.step_runner.specs.Driver.{Driver, AllOutside}
use Rattle.step_runner.specs.Kept.{is_read, used_by, fill_by}
use Rattle.step_runner.specs.Stands.{paired, class_by, AreFramesOf, Matches, Stands}
use Rattle.step_runner.specs.declared.stack.Under.{Under}
use Rattle.step_runner.proofs.Runs.{none-inside, outside-paired}

-- ---- what two drivers tell

used-there : (q r : Option Bool) (a b : Bool) → is_some q ≡ a → is_some r ≡ b → is_some (used_by q r) ≡ a || b
used-there None r a b e f = subst (λ y. is_some r ≡ y || b) e f
used-there (Some x) None a b e f = subst (λ y. true ≡ y || b) e refl
used-there (Some x) (Some y) a b e f = subst (λ z. true ≡ z || b) e refl

pub used-few : (q r : Option Bool) (c : ℕ) → IfSome q (λ u. c < 16) → IfSome r (λ u. c < 16) → IfSome (used_by q r) (λ u. c < 16)
used-few None r c h k = k
used-few (Some x) None c h k = h
used-few (Some x) (Some y) c h k = h

or-nothing : (u : Bool) → u ≡ u || false
or-nothing true = refl
or-nothing false = refl

used-is : (q r : Option Bool) (a b u v : Bool) → is_some q ≡ a → is_some r ≡ b → IfSome q (λ x. x ≡ u) → IfSome r (λ y. y ≡ v) → IfSome (used_by q r) (λ z. z ≡ (a && u || b && v))
used-is None None a b u v e f h k = k
used-is None (Some y) a b u v e f h k = subst (λ z. y ≡ (z && u || b && v)) e (subst (λ z. y ≡ (z && v)) f k)
used-is (Some x) None a b u v e f h k = subst (λ z. x ≡ (z && u || b && v)) e (subst (λ z. x ≡ (u || z && v)) f (h ∙ or-nothing u))
used-is (Some x) (Some y) a b u v e f h k = subst (λ z. x || y ≡ (z && u || b && v)) e (subst (λ z. x || y ≡ (u || z && v)) f (ap (λ z. z || y) h ∙ ap (λ z. u || z) k))

-- the same of what was told as that
pub there-of : (x q r : Option Bool) (a b : Bool) → x ≡ used_by q r → is_some q ≡ a → is_some r ≡ b → is_some x ≡ a || b
there-of x q r a b i e f = ap (λ y. is_some y) i ∙ used-there q r a b e f

pub used-of : (x q r : Option Bool) (a b u v : Bool) → x ≡ used_by q r → is_some q ≡ a → is_some r ≡ b → IfSome q (λ y. y ≡ u) → IfSome r (λ y. y ≡ v) → IfSome x (λ z. z ≡ (a && u || b && v))
used-of x q r a b u v i e f h k = subst (λ y. IfSome y (λ z. z ≡ (a && u || b && v))) (sym i) (used-is q r a b u v e f h k)

-- ---- what the moment does

-- with the mask closed it is busy anyway
busy-same : (m u v r : Bool) → (m ≡ false → u ≡ v) → cond ((m || u) || r) (Some Busy) None ≡ fill_cause m true (v || r)
busy-same true u v r same = refl
busy-same false u v r same = ap (λ b. cond (b || r) (Some Busy) None) (same refl)

module _ {State Call Frame : Type 0} (d : Driver State Call Frame) where
  reads-by : (c : ℕ) (o : Origin Call) → reads_source c (class_by d.setting o) ≡ reads_from d.setting c o
  reads-by c (Called x) = refl
  reads-by c (Entered l) = refl

  -- what the frames of the stack read
  reads-are : (c : ℕ) (us : List (Under Frame)) (os : List (Open Call)) → AreFramesOf d us os → is_read c us ≡ list_any (reads_from d.setting c) (origins_of os)
  reads-are c [] [] a = refl
  reads-are c [] (o ∷ os) a = absurd a
  reads-are c (u ∷ us) [] a = absurd a
  reads-are c (u ∷ us) (o ∷ os) a = ap (λ b. b || is_read c us) (ap (reads_source c) a.0.class ∙ reads-by c o.origin) ∙ ap (λ b. reads_from d.setting c o.origin || b) (reads-are c us os a.1)

  -- what the driver tells of an array: whether it is there, and whether the machine uses it
  abbrev Tells : ℕ → Chip → Option Bool → Type 0
  Tells c chip q = (w : World) (ps : List (Frame × Open Call)) (s : State) → AllOutside ps → d.relates chip w ps s → IfSome q (λ used. used ≡ d.setting.in_use w s c)

  cause-by : (c : ℕ) (m : Moment State Call) (chip : Chip) (us : List (Under Frame)) (q : Option Bool) → is_some q ≡ d.setting.fills c → Tells c chip q → Matches d chip us m → fill_by q (is_masked chip) (is_read c us) ≡ fill_cause (is_masked m.chip) (d.setting.fills c) (is_busy d.setting m.world m.state (origins_of m.opens) c)
  cause-by c m chip us None there tells k = subst (λ b. Some Unknown ≡ fill_cause (is_masked m.chip) b (is_busy d.setting m.world m.state (origins_of m.opens) c)) there refl
  cause-by c m chip us (Some used) there tells k =
      let same = λ (e : is_masked m.chip ≡ false). tells m.world (paired us m.opens) m.state (outside-paired us m.opens (none-inside (is_masked m.chip) m.opens e k.guarded)) (subst (λ x. d.relates x m.world (paired us m.opens) m.state) (sym k.chip_is) k.relates) in
      subst (λ b. cond ((is_masked chip || used) || is_read c us) (Some Busy) None ≡ fill_cause (is_masked m.chip) b (is_busy d.setting m.world m.state (origins_of m.opens) c)) there
      (ap (λ x. cond ((is_masked x || used) || is_read c us) (Some Busy) None) k.chip_is
      ∙ ap (λ r. cond ((is_masked m.chip || used) || r) (Some Busy) None) (reads-are c us m.opens k.frames)
      ∙ busy-same (is_masked m.chip) used (d.setting.in_use m.world m.state c) (list_any (reads_from d.setting c) (origins_of m.opens)) same)

  pub fill-cause : (first : Chip) (h : List (Transition Call)) (c : ℕ) (ws : List ℕ) (chip : Chip) (us : List (Under Frame)) (q : Option Bool) → is_some q ≡ d.setting.fills c → Tells c chip q → Stands d first chip us h → fill_by q (is_masked chip) (is_read c us) ≡ hardware_held d.setting (after_all d.setting (start_moment d.setting first) h) (Fill c ws)
  fill-cause first h c ws chip us q there tells st = cause-by c (after_all d.setting (start_moment d.setting first) h) chip us q there tells st.matches

  free-by : (q : Option Bool) (masked read : Bool) (c : ℕ) → IfSome q (λ used. c < 16) → fill_by q masked read ≡ None → c < 16
  free-by None masked read c few e = absurd (cc)
  free-by (Some used) masked read c few e = few

  -- one that isn't held may happen
  pub fill-fits : (first : Chip) (h : List (Transition Call)) (c : ℕ) (ws : List ℕ) (chip : Chip) (us : List (Under Frame)) (q : Option Bool) → IfSome q (λ used. c < 16) → Stands d first chip us h → fill_by q (is_masked chip) (is_read c us) ≡ None → CanHappen chip (Fill c ws)
  fill-fits first h c ws chip us q few st e =
      let lt = free-by q (is_masked chip) (is_read c us) c few e in
      (lt, subst (λ x. source_length x c ≤ 64) (sym st.matches.chip_is) (st.matches.outside.all.sources c lt))
