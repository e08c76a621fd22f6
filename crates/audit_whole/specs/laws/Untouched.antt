-- A part of the state of modules is as it was after each event of a frame that doesn't touch its aspect.
use Rattle.std.proofs.Common.{◌≡◌, ℕ, Bool, true, false, Option, Some, None, sym, ◌∙◌, ap}
use Rattle.std.specs.Prelude.{cond}
use Rattle.module_machines.specs.dio.Machine.{HostPins, does_by, work}
use Rattle.module_machines.specs.dio.Table.{pins_of}
use Rattle.module_machines.specs.declared.dio.table.PortPins.{PortPins}
use Rattle.module_machines.specs.declared.dio.call.Call as ports
use Rattle.module_machines.specs.declared.dio.call.Call.TheVariants.{ReadChannel, WriteChannel, FlipChannel, ReadPort, WritePort, ReadChannelGroup, WriteChannelGroup}
use Rattle.module_machines.specs.declared.dio.table.DioTable.{DioTable}
use Rattle.mcal_base.specs.declared.module_name.ModuleName.{ModuleName}
use Rattle.mcal_base.specs.declared.module_name.ModuleName.TheVariants.{Port}
use Rattle.mcal_base.specs.declared.moves.Event.{Event}
use Rattle.mcal_base.specs.declared.moves.Event.TheVariants.{Act, Serve, Abort, Start}
use Rattle.mcal_base.specs.declared.moves.Move.{Move}
use Rattle.mcal_base.specs.declared.moves.Unit.{Unit}
use Rattle.mcal_base.specs.facts.Truths.{on_off}
use Rattle.run_model.specs.Frame.{Open, Origin, Called, Entered, brought_by, outcome_of, happening_of, state_after, state_by}
use Rattle.run_model.specs.Machine.{Acts, Serves, Starts, Aborts, Outcome}
use Rattle.run_model.specs.Moment.{Setting}
use Rattle.run_model.specs.World.{World}
use Rattle.audit_base.specs.Product.{in_first, lifted}
use Rattle.audit_base.specs.declared.either.Either.{Either}
use Rattle.audit_base.specs.declared.either.Either.TheVariants.{Left, Right}
use Rattle.audit_machines.specs.Hosting.{hosted_setting}
use Rattle.audit_subject.specs.Product.{joined}
use Rattle.audit_whole.specs.Touching.{by_event, by_module, by_unit, is_touched}
use Rattle.audit_whole.specs.declared.aspects.Aspect.{Aspect}
use Rattle.audit_whole.specs.declared.aspects.Touched.TheVariants.{One}

-- it is so after each call, serving, start and abort that doesn't touch the aspect
pub record Keeps {S C : Type 0} (a : Aspect) (g : Setting S C) (F : S → Type 0) : Type 0 where
  pub acts : (w : World) (s : S) (c : C) (times : ℕ → ℕ) → is_touched a (by_module (g.class_of c).«module») ≡ false → F s → F (state_by s (g.machine.happens w s (Acts c times)))
  pub serves : (w : World) (s : S) (l r : ℕ) → is_touched a (by_module (g.owner_of l)) ≡ false → F s → F (state_by s (g.machine.happens w s (Serves l r)))
  pub starts : (w : World) (s : S) (u : Unit) (by : Option C) (r : ℕ) → is_touched a (One (by_unit u)) ≡ false → F s → F (state_by s (g.machine.happens w s (Starts u by r)))
  pub aborts : (w : World) (s : S) (u : Unit) → is_touched a (One (by_unit u)) ≡ false → F s → F (state_by s (g.machine.happens w s (Aborts u)))

-- ---- a module

-- each call and serving of it touches the aspect
pub module_keeps : {S C : Type 0} (a : Aspect) (g : Setting S C) (F : S → Type 0) (name : ModuleName) → is_touched a (by_module name) ≡ true → ((c : C) → (g.class_of c).«module» ≡ name) → ((l : ℕ) → g.owner_of l ≡ name)
    → ((w : World) (s : S) (u : Unit) (by : Option C) (r : ℕ) → is_touched a (One (by_unit u)) ≡ false → F s → F (state_by s (g.machine.happens w s (Starts u by r))))
    → ((w : World) (s : S) (u : Unit) → is_touched a (One (by_unit u)) ≡ false → F s → F (state_by s (g.machine.happens w s (Aborts u))))
    → Keeps a g F
module_keeps a g F name touched classes owners starts aborts = record {
  acts = λ w s c times e f. on_off (sym touched ∙ (sym (ap (λ m. is_touched a (by_module m)) (classes c)) ∙ e));
  serves = λ w s l r e f. on_off (sym touched ∙ (sym (ap (λ m. is_touched a (by_module m)) (owners l)) ∙ e));
  starts = starts;
  aborts = aborts;
}

-- ---- two of them

module _ {S T : Type 0} (F : S → Type 0) (s : S × T) where
  first_moved : (x : Option (Outcome S)) → F (state_by s.0 x) → F (state_by s (lifted (λ q. (q, s.1)) x)).0
  first_moved None f = f
  first_moved (Some out) f = f

  first_stays : (y : Option (Outcome T)) → F s.0 → F (state_by s (lifted (λ q. (s.0, q)) y)).0
  first_stays None f = f
  first_stays (Some out) f = f

  first_asked : (x : Option (Outcome S)) (y : Option (Outcome T)) → F (state_by s.0 x) → F (state_by s (in_first s.0 s.1 x y)).0
  first_asked (Some out) y f = f
  first_asked None None f = f
  first_asked None (Some out) f = f

  first_by : (a : Aspect) (b : Bool) (m n : ModuleName) (x : Option (Outcome S)) (y : Option (Outcome T)) → is_touched a (by_module (cond b m n)) ≡ false → (is_touched a (by_module m) ≡ false → F (state_by s.0 x)) → F s.0
      → F (state_by s (cond b (lifted (λ q. (q, s.1)) x) (lifted (λ q. (s.0, q)) y))).0
  first_by a true m n x y e k f = first_moved x (k e)
  first_by a false m n x y e k f = first_stays y f

module _ {S T : Type 0} (F : T → Type 0) (s : S × T) where
  second_moved : (y : Option (Outcome T)) → F (state_by s.1 y) → F (state_by s (lifted (λ q. (s.0, q)) y)).1
  second_moved None f = f
  second_moved (Some out) f = f

  second_stays : (x : Option (Outcome S)) → F s.1 → F (state_by s (lifted (λ q. (q, s.1)) x)).1
  second_stays None f = f
  second_stays (Some out) f = f

  second_asked : (x : Option (Outcome S)) (y : Option (Outcome T)) → F s.1 → F (state_by s.1 y) → F (state_by s (in_first s.0 s.1 x y)).1
  second_asked (Some out) y same f = same
  second_asked None None same f = f
  second_asked None (Some out) same f = f

  second_by : (a : Aspect) (b : Bool) (m n : ModuleName) (x : Option (Outcome S)) (y : Option (Outcome T)) → is_touched a (by_module (cond b m n)) ≡ false → (is_touched a (by_module n) ≡ false → F (state_by s.1 y)) → F s.1
      → F (state_by s (cond b (lifted (λ q. (q, s.1)) x) (lifted (λ q. (s.0, q)) y))).1
  second_by a true m n x y e k f = second_stays x f
  second_by a false m n x y e k f = second_moved y (k e)

module _ {S T C D : Type 0} (a : Aspect) (g : Setting S C) (h : Setting T D) where
  module _ (F : S → Type 0) (k : Keeps a g F) where
    first_acts : (w : World) (s : S × T) (c : Either C D) (times : ℕ → ℕ) → is_touched a (by_module ((joined g h).class_of c).«module») ≡ false → F s.0 → F (state_by s ((joined g h).machine.happens w s (Acts c times))).0
    first_acts w s (Left c) times e f = first_moved F s (g.machine.happens w s.0 (Acts c times)) (k.acts w s.0 c times e f)
    first_acts w s (Right d) times e f = first_stays F s (h.machine.happens w s.1 (Acts d times)) f

    -- the state of the first
    pub keeps_first : Keeps a (joined g h) (λ s. F s.0)
    keeps_first = record {
      acts = first_acts;
      serves = λ w s l r e f. first_by F s a (g.used l) (g.owner_of l) (h.owner_of l) (g.machine.happens w s.0 (Serves l r)) (h.machine.happens w s.1 (Serves l r)) e (λ off. k.serves w s.0 l r off f) f;
      starts = λ w s u by r e f. first_asked F s (g.machine.happens w s.0 (Starts u _ r)) (h.machine.happens w s.1 (Starts u _ r)) (k.starts w s.0 u _ r e f);
      aborts = λ w s u e f. first_asked F s (g.machine.happens w s.0 (Aborts u)) (h.machine.happens w s.1 (Aborts u)) (k.aborts w s.0 u e f);
    }

  module _ (F : T → Type 0) (k : Keeps a h F) where
    second_acts : (w : World) (s : S × T) (c : Either C D) (times : ℕ → ℕ) → is_touched a (by_module ((joined g h).class_of c).«module») ≡ false → F s.1 → F (state_by s ((joined g h).machine.happens w s (Acts c times))).1
    second_acts w s (Left c) times e f = second_stays F s (g.machine.happens w s.0 (Acts c times)) f
    second_acts w s (Right d) times e f = second_moved F s (h.machine.happens w s.1 (Acts d times)) (k.acts w s.1 d times e f)

    -- the state of the second
    pub keeps_second : Keeps a (joined g h) (λ s. F s.1)
    keeps_second = record {
      acts = second_acts;
      serves = λ w s l r e f. second_by F s a (g.used l) (g.owner_of l) (h.owner_of l) (g.machine.happens w s.0 (Serves l r)) (h.machine.happens w s.1 (Serves l r)) e (λ off. k.serves w s.1 l r off f) f;
      starts = λ w s u by r e f. second_asked F s (g.machine.happens w s.0 (Starts u _ r)) (h.machine.happens w s.1 (Starts u _ r)) f (k.starts w s.1 u _ r e f);
      aborts = λ w s u e f. second_asked F s (g.machine.happens w s.0 (Aborts u)) (h.machine.happens w s.1 (Aborts u)) f (k.aborts w s.1 u e f);
    }

-- ---- a host with channels and ports

module _ {S C : Type 0} (a : Aspect) (h : Setting S C) (F : S → Type 0) (pins : HostPins S) (d : DioTable) (k : Keeps a h F)
    (puts : is_touched a (by_module Port) ≡ false → (q word : ℕ) (s : S) → F s → F (pins.put q word s)) (flips : is_touched a (by_module Port) ≡ false → (p : ℕ) (s : S) → F s → F (pins.flip p s)) where
  works : (w : World) (s : S) (c : ports.Call) (x : PortPins) → is_touched a (by_module Port) ≡ false → F s → F (work pins w s c x).state
  works w s (ReadChannel p) x e f = f
  works w s (FlipChannel p) x e f = flips e p s f
  works w s (WriteChannel p high) x e f = puts e _ _ s f
  works w s (ReadPort q) x e f = f
  works w s (ReadChannelGroup g) x e f = f
  works w s (WritePort q value) x e f = puts e _ _ s f
  works w s (WriteChannelGroup g value) x e f = puts e _ _ s f

  does_so : (w : World) (s : S) (c : ports.Call) (x : Option PortPins) → is_touched a (by_module Port) ≡ false → F s → F (does_by pins w s c x).state
  does_so w s c None e f = f
  does_so w s c (Some x) e f = works w s c x e f

  hosted_acts : (w : World) (s : S) (c : Either C ports.Call) (times : ℕ → ℕ) → is_touched a (by_module ((hosted_setting h pins d).class_of c).«module») ≡ false → F s → F (state_by s ((hosted_setting h pins d).machine.happens w s (Acts c times)))
  hosted_acts w s (Left c) times e f = k.acts w s c times e f
  hosted_acts w s (Right c) times e f = does_so w s c (pins_of d c) e f

  pub keeps_hosted : Keeps a (hosted_setting h pins d) F
  keeps_hosted = record {
    acts = hosted_acts;
    serves = λ w s l r e f. k.serves w s l r e f;
    starts = λ w s u by r e f. k.starts w s u _ r e f;
    aborts = λ w s u e f. k.aborts w s u e f;
  }

-- ---- an event of a frame

module _ {S C : Type 0} (a : Aspect) (g : Setting S C) (F : S → Type 0) (k : Keeps a g F) where
  happened : (w : World) (s : S) (x : Origin C) (committed : ℕ → ℕ) (received : ℕ) (e : Event) → is_touched a (by_event g x e) ≡ false → F s → F (state_by s (outcome_of g.machine w s (happening_of x (record { received = received; committed = committed }) e)))
  happened w s (Called c) committed received Act off f = k.acts w s c committed off f
  happened w s (Entered l) committed received Act off f = f
  happened w s (Called c) committed received (Serve l) off f = k.serves w s l received off f
  happened w s (Entered m) committed received (Serve l) off f = k.serves w s l received off f
  happened w s (Called c) committed received (Abort u) off f = k.aborts w s u off f
  happened w s (Entered l) committed received (Abort u) off f = k.aborts w s u off f
  happened w s (Called c) committed received (Start u) off f = k.starts w s u (Some c) received off f
  happened w s (Entered l) committed received (Start u) off f = k.starts w s u None received off f

  pub kept_at : (w : World) (s : S) (o : Open C) (made : Move) (received : ℕ) (e : Event) → is_touched a (by_event g o.origin e) ≡ false → F s → F (state_after g.machine w s o made received (Some e))
  kept_at w s o made received e off f = happened w s o.origin (brought_by w o.committed made received).committed received e off f
