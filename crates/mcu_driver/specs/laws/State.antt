-- Mcu_Init and Mcu_SetMode: their step, and that it is right.
-- From Base, service_outline: Words, service_outline: Acts, RefinementRight, Look.
-- Used by service/state/rt, Lawful.
use Rattle.std.proofs.Common.{◌≡◌, [], ◌∷◌, ◌∙◌}
use Rattle.mcu_driver.specs.Terms
use Terms.{Act, AllRight, AreLong, arith, BodyTaken, Bool, Call, Called, Chip, chip_after, ends, false, FrameHistory, fresh_history, Init, Initialise, Is_this_frame, IsThisFrame, Keep, LongBodies, may, mcu_basis, McuTable, McuRepresents, McuState, MODE, Move, never_clean, no_answer, Nothing, Origin, refl, Reservations, SetMode, Some, STATE, StateBody, Store, stored_other, stored_same, subst, sym, true, value_of, World, ℕ}
use Rattle.mcu_driver.specs.laws.{Base.{plain, WorksTo, plain_right, acted}, RefinementRight.{all_moved}, Look.{MayAct}}

abbrev pub state_work : StateBody → Move
state_work Initialise = Store STATE 1
state_work (Keep m) = Store MODE m

abbrev pub state_takes : StateBody → ℕ → StateBody × BodyTaken
state_takes k x = (k, ends (Some Act) no_answer Nothing)

abbrev pub state_holds : McuTable → World → McuState → StateBody → Origin Call → FrameHistory → Type 0
state_holds d w s Initialise o t = IsThisFrame (Called Init) fresh_history o t
state_holds d w s (Keep m) o t = IsThisFrame (Called (SetMode m)) fresh_history o t × MayAct d s (SetMode m)

abbrev pub state_bodies : (d : McuTable) → LongBodies (mcu_basis d) StateBody
state_bodies d = plain d state_work state_takes (λ k. 1) (λ k. false) (state_holds d)

-- what is held stays right once the module is initialised
right_on : (on : Bool) (held : Reservations) → AllRight on held → AllRight true held
right_on on [] h = tt
right_on on (x ∷ xs) h = (h.0, refl, right_on on xs h.2)

module _ (d : McuTable) where
  initialised : (held : Reservations) (chip : Chip) (w : World) (s : McuState) (y : ℕ) → McuRepresents d held chip w s → McuRepresents d held (chip_after chip (Store STATE 1) y) w (record s { initialised = true })
  initialised held chip w s y h = record {
    right = right_on s.initialised held h.right;
    all = all_moved chip (Store STATE 1) y h.all;
    clock = h.clock;
    rate = h.rate;
    pll = h.pll;
    state = stored_same chip STATE 1 y (omega arith) h.all.words;
    mode = stored_other chip STATE 1 y MODE (omega arith) ∙ h.mode;
    ram = h.ram;
  }

  kept : (held : Reservations) (chip : Chip) (w : World) (s : McuState) (m y : ℕ) → McuRepresents d held chip w s → McuRepresents d held (chip_after chip (Store MODE m) y) w (record s { mode = Some m })
  kept held chip w s m y h = record {
    right = h.right;
    all = all_moved chip (Store MODE m) y h.all;
    clock = h.clock;
    rate = h.rate;
    pll = h.pll;
    state = stored_other chip MODE m y STATE (omega arith) ∙ h.state;
    mode = stored_same chip MODE m y (omega arith) h.all.words;
    ram = h.ram;
  }

  steps : (below : Reservations) (chip : Chip) (w : World) (s : McuState) (k : StateBody) (o : Origin Call) (y : ℕ) (t : FrameHistory) (n : ℕ → Bool) → McuRepresents d below chip w s → state_holds d w s k o t → WorksTo d (state_bodies d) below chip w s k o 0 y t n (state_takes k 0)
  steps below chip w s Initialise o y t n h Is_this_frame = acted d (state_bodies d) below chip _ w s (record s { initialised = true }) Init (Store STATE 1) false 0 y n Initialise no_answer (λ q. refl) refl tt refl (initialised below chip w s y h)
  steps below chip w s (Keep m) o y t n h (Is_this_frame, pass) = acted d (state_bodies d) below chip _ w s (record s { mode = Some m }) (SetMode m) (Store MODE m) false 0 y n (Keep m) no_answer pass refl tt refl (kept below chip w s m y h)

  own : (w : World) (s : McuState) (k : StateBody) (o : Origin Call) (t : FrameHistory) → state_holds d w s k o t → may (state_work k) ≡ true
  own w s Initialise o t h = refl
  own w s (Keep m) o t h = refl

  later : (w w1 : World) (s : McuState) (k : StateBody) (o : Origin Call) (t : FrameHistory) → state_holds d w s k o t → state_holds d w1 s k o t
  later w w1 s Initialise o t h = h
  later w w1 s (Keep m) o t h = h

  values : (chip : Chip) (k : StateBody) → value_of chip (state_work k) ≡ 0
  values chip Initialise = refl
  values chip (Keep m) = refl

  pub state_right : AreLong (mcu_basis d) (state_bodies d)
  state_right = plain_right d state_work state_takes (λ k. 1) (λ k. false) (state_holds d) (record {
    own = own;
    steps = λ below chip w s k o y t m h i. subst (λ x. WorksTo d (state_bodies d) below chip w s k o x y t m (state_takes k x)) (sym (values chip k)) (steps below chip w s k o y t m h i);
    later = λ w w1 s k o t le h. later w w1 s k o t h;
    calm = λ k x e. absurd (cc);
    shortens = λ k x. omega arith;
    cleans = λ k x. never_clean (state_work k) k (state_takes k x);
  })
