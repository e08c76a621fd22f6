-- Where words begin in the product of machines, one of which alone begins any, and how its wires grow there.
use Rattle.std.proofs.Common.{◌≡◌, ℕ, Bool, true, false, cond, List, [], ◌++◌, Option, Some, None, refl, sym, ◌∙◌, ap, subst}
use Rattle.std.proofs.lemmas.List.{append-nil}
use Rattle.std.specs.Option.{IfSome}
use Rattle.mcal_base.specs.facts.Options.{some_is}
use Rattle.mcal_base.specs.declared.moves.Event.{Event}
use Rattle.mcal_base.specs.declared.moves.Event.TheVariants as events
use Rattle.mcal_base.specs.declared.moves.Move.{Move}
use Rattle.run_model.specs.Frame.{Origin, Called, Entered, Open, Brought, brought_by, happening_at, outcome_of, outcome_at, state_by, begun_by}
use Rattle.run_model.specs.Machine.{Happening, Acts, Serves, Starts, Aborts, Moves, Restarts, Outcome, Machine, outcome, outcome_with, tells_nothing}
use Rattle.run_model.specs.World.{World}
use Rattle.step_runner.specs.Union.{first_call, second_call, lift_out, in_both, in_first, union_machine}
use Rattle.step_runner.specs.declared.either.Either.TheVariants.{Left, Right}
use Rattle.service_outline.specs.guests.Guest.{Guest, guest_machine}
use Rattle.spi_machine.specs.Promised.{shown_on}

-- ---- machines that begin no word

abbrev pub IsWordless : {S C : Type 0} → Machine S C → Type 0
IsWordless {S = S} {C = C} mac = (w : World) (s : S) (h : Happening C) (out : Outcome S) → mac.happens w s h ≡ Some out → out.begins ≡ None

lifted : {S U : Type 0} (put : S → U) (o : Option (Outcome S)) (out : Outcome U) → ((x : Outcome S) → o ≡ Some x → x.begins ≡ None) → lift_out put o ≡ Some out → out.begins ≡ None
lifted put None out none e = absurd (cc e)
lifted put (Some x) out none e = ap (λ y. y.begins) (sym (some_is (outcome_with (put x.state) x.told x.begins) out e)) ∙ none x refl

firsts : {S T : Type 0} (s : S) (t : T) (x : Option (Outcome S)) (y : Option (Outcome T)) (out : Outcome (S × T)) → ((a : Outcome S) → x ≡ Some a → a.begins ≡ None)
    → ((b : Outcome T) → y ≡ Some b → b.begins ≡ None) → in_first s t x y ≡ Some out → out.begins ≡ None
firsts s t None y out none_x none_y e = lifted (λ b. (s, b)) y out none_y e
firsts s t (Some a) y out none_x none_y e = ap (λ z. z.begins) (sym (some_is (outcome_with (a.state, t) a.told a.begins) out e)) ∙ none_x a refl

boths : {S T : Type 0} (x : Option (Outcome S)) (y : Option (Outcome T)) (out : Outcome (S × T)) → in_both x y ≡ Some out → out.begins ≡ None
boths None y out e = absurd (cc e)
boths (Some a) None out e = absurd (cc e)
boths (Some a) (Some b) out e = ap (λ z. z.begins) (sym (some_is (outcome (a.state, b.state) tells_nothing) out e))

module _ {S T C D : Type 0} (ours : ℕ → Bool) (f : Machine S C) (g : Machine T D) where
  pub wordless_both : IsWordless f → IsWordless g → IsWordless (union_machine ours f g)
  wordless_both a b w s (Acts (Left c) times) out e = lifted (λ x. (x, s.1)) (f.happens w s.0 (Acts c times)) out (a w s.0 (Acts c times)) e
  wordless_both a b w s (Acts (Right d) times) out e = lifted (λ y. (s.0, y)) (g.happens w s.1 (Acts d times)) out (b w s.1 (Acts d times)) e
  wordless_both a b w s (Serves l r) out e = by (ours l) e
    where
      by : (q : Bool) → cond q (lift_out (λ x. (x, s.1)) (f.happens w s.0 (Serves l r))) (lift_out (λ y. (s.0, y)) (g.happens w s.1 (Serves l r))) ≡ Some out → out.begins ≡ None
      by true e = lifted (λ x. (x, s.1)) (f.happens w s.0 (Serves l r)) out (a w s.0 (Serves l r)) e
      by false e = lifted (λ y. (s.0, y)) (g.happens w s.1 (Serves l r)) out (b w s.1 (Serves l r)) e
  wordless_both a b w s (Starts u made_by r) out e = firsts s.0 s.1 (f.happens w s.0 (Starts u (first_call made_by) r)) (g.happens w s.1 (Starts u (second_call made_by) r)) out (a w s.0 (Starts u (first_call made_by) r)) (b w s.1 (Starts u (second_call made_by) r)) e
  wordless_both a b w s (Aborts u) out e = firsts s.0 s.1 (f.happens w s.0 (Aborts u)) (g.happens w s.1 (Aborts u)) out (a w s.0 (Aborts u)) (b w s.1 (Aborts u)) e
  wordless_both a b w s (Moves order) out e = boths (f.happens w s.0 (Moves order)) (g.happens w s.1 (Moves order)) out e
  wordless_both a b w s (Restarts reason) out e = boths (f.happens w s.0 (Restarts reason)) (g.happens w s.1 (Restarts reason)) out e

-- ---- a machine with a wire

-- no word begins, and the wire is as before
abbrev pub Stays : {S : Type 0} → (S → List (ℕ × ℕ)) → S → Outcome S → Type 0
Stays wire s out = (out.begins ≡ None) × (wire out.state ≡ wire s)

-- what a happening leaves of the wire of a unit: it shows one word more where a word begins there, and after a reset none
abbrev pub Leaves : {S C : Type 0} → (S → List (ℕ × ℕ)) → (unit : ℕ) → Happening C → S → Outcome S → Type 0
Leaves wire u (Acts c times) s out = Stays wire s out
Leaves wire u (Serves l received) s out = wire out.state ≡ wire s ++ shown_on u received out.begins
Leaves wire u (Starts k made_by received) s out = wire out.state ≡ wire s ++ shown_on u received out.begins
Leaves wire u (Aborts k) s out = Stays wire s out
Leaves wire u (Moves order) s out = Stays wire s out
Leaves wire u (Restarts reason) s out = wire out.state ≡ []

abbrev pub IsWired : {S C : Type 0} → (S → List (ℕ × ℕ)) → (unit : ℕ) → Machine S C → Type 0
IsWired {S = S} {C = C} wire u mac = (w : World) (s : S) (h : Happening C) (out : Outcome S) → mac.happens w s h ≡ Some out → Leaves wire u h s out

module _ {S T C D : Type 0} (ours : ℕ → Bool) (f : Machine S C) (g : Machine T D) (wire : T → List (ℕ × ℕ)) (u : ℕ) where
  -- the wire of the second, seen in both
  abbrev Wire : S × T → List (ℕ × ℕ)
  Wire s = wire s.1

  abbrev Grows : S × T → (received : ℕ) → Outcome (S × T) → Type 0
  Grows s received out = Wire out.state ≡ Wire s ++ shown_on u received out.begins

  still : (s : S × T) (received : ℕ) (x : Outcome S) → x.begins ≡ None → wire s.1 ≡ wire s.1 ++ shown_on u received x.begins
  still s received x none = sym (append-nil (wire s.1)) ∙ ap (λ o. wire s.1 ++ shown_on u received o) (sym none)

  of_first : (P : Outcome (S × T) → Type 0) (s : S × T) (o : Option (Outcome S)) (out : Outcome (S × T)) → ((x : Outcome S) → o ≡ Some x → P (outcome_with (x.state, s.1) x.told x.begins)) → lift_out (λ a. (a, s.1)) o ≡ Some out → P out
  of_first P s None out makes e = absurd (cc e)
  of_first P s (Some x) out makes e = subst P (some_is (outcome_with (x.state, s.1) x.told x.begins) out e) (makes x refl)

  of_second : (P : Outcome (S × T) → Type 0) (s : S × T) (o : Option (Outcome T)) (out : Outcome (S × T)) → ((y : Outcome T) → o ≡ Some y → P (outcome_with (s.0, y.state) y.told y.begins)) → lift_out (λ b. (s.0, b)) o ≡ Some out → P out
  of_second P s None out makes e = absurd (cc e)
  of_second P s (Some y) out makes e = subst P (some_is (outcome_with (s.0, y.state) y.told y.begins) out e) (makes y refl)

  of_either : (P : Outcome (S × T) → Type 0) (s : S × T) (x : Option (Outcome S)) (y : Option (Outcome T)) (out : Outcome (S × T)) → ((a : Outcome S) → x ≡ Some a → P (outcome_with (a.state, s.1) a.told a.begins))
      → ((b : Outcome T) → y ≡ Some b → P (outcome_with (s.0, b.state) b.told b.begins)) → in_first s.0 s.1 x y ≡ Some out → P out
  of_either P s None y out makes makes_y e = of_second P s y out makes_y e
  of_either P s (Some a) y out makes makes_y e = subst P (some_is (outcome_with (a.state, s.1) a.told a.begins) out e) (makes a refl)

  of_both : (P : Outcome (S × T) → Type 0) (x : Option (Outcome S)) (y : Option (Outcome T)) (out : Outcome (S × T)) → ((a : Outcome S) (b : Outcome T) → y ≡ Some b → P (outcome (a.state, b.state) tells_nothing)) → in_both x y ≡ Some out → P out
  of_both P None y out makes e = absurd (cc e)
  of_both P (Some a) None out makes e = absurd (cc e)
  of_both P (Some a) (Some b) out makes e = subst P (some_is (outcome (a.state, b.state) tells_nothing) out e) (makes a b refl)

  -- with a first machine that begins no word the wire is the second's
  pub wired_second : IsWordless f → IsWired wire u g → IsWired Wire u (union_machine ours f g)
  wired_second none wired w s (Acts (Left c) times) out e = of_first (Stays Wire s) s (f.happens w s.0 (Acts c times)) out (λ x is. (none w s.0 (Acts c times) x is, refl)) e
  wired_second none wired w s (Acts (Right d) times) out e = of_second (Stays Wire s) s (g.happens w s.1 (Acts d times)) out (λ y is. wired w s.1 (Acts d times) y is) e
  wired_second none wired w s (Serves l r) out e = by (ours l) e
    where
      by : (q : Bool) → cond q (lift_out (λ a. (a, s.1)) (f.happens w s.0 (Serves l r))) (lift_out (λ b. (s.0, b)) (g.happens w s.1 (Serves l r))) ≡ Some out → Grows s r out
      by true e = of_first (Grows s r) s (f.happens w s.0 (Serves l r)) out (λ x is. still s r x (none w s.0 (Serves l r) x is)) e
      by false e = of_second (Grows s r) s (g.happens w s.1 (Serves l r)) out (λ y is. wired w s.1 (Serves l r) y is) e
  wired_second none wired w s (Starts k made_by r) out e =
      of_either (Grows s r) s (f.happens w s.0 (Starts k (first_call made_by) r)) (g.happens w s.1 (Starts k (second_call made_by) r)) out (λ x is. still s r x (none w s.0 (Starts k (first_call made_by) r) x is)) (λ y is. wired w s.1 (Starts k (second_call made_by) r) y is) e
  wired_second none wired w s (Aborts k) out e = of_either (Stays Wire s) s (f.happens w s.0 (Aborts k)) (g.happens w s.1 (Aborts k)) out (λ x is. (none w s.0 (Aborts k) x is, refl)) (λ y is. wired w s.1 (Aborts k) y is) e
  wired_second none wired w s (Moves order) out e = of_both (Stays Wire s) (f.happens w s.0 (Moves order)) (g.happens w s.1 (Moves order)) out (λ x y is. (refl, (wired w s.1 (Moves order) y is).1)) e
  wired_second none wired w s (Restarts reason) out e = of_both (λ z. Wire z.state ≡ []) (f.happens w s.0 (Restarts reason)) (g.happens w s.1 (Restarts reason)) out (λ x y is. wired w s.1 (Restarts reason) y is) e

-- with a guest whose calls begin no word and leave the wire, the wire is the host's
module _ {S C D G : Type 0} (f : Machine S C) (g : Guest S D G) (wire : S → List (ℕ × ℕ)) (u : ℕ) where
  pub wired_guest : ((w : World) (s : S) (c : D) → Stays wire s (g.does w s c)) → IsWired wire u f → IsWired wire u (guest_machine f g)
  wired_guest still wired w s (Acts (Left c) times) out e = wired w s (Acts c times) out e
  wired_guest still wired w s (Acts (Right c) times) out e = subst (Stays wire s) (some_is (g.does w s c) out e) (still w s c)
  wired_guest still wired w s (Serves l r) out e = wired w s (Serves l r) out e
  wired_guest still wired w s (Starts k made_by r) out e = wired w s (Starts k (first_call made_by) r) out e
  wired_guest still wired w s (Aborts k) out e = wired w s (Aborts k) out e
  wired_guest still wired w s (Moves order) out e = wired w s (Moves order) out e
  wired_guest still wired w s (Restarts reason) out e = wired w s (Restarts reason) out e

-- ---- a step of a frame

-- no reset, and with a word that begins this comes in
abbrev Brings : {C : Type 0} → (received : ℕ) → Happening C → Type 0
Brings received (Acts c times) = Unit {0}
Brings received (Serves l r) = r ≡ received
Brings received (Starts k made_by r) = r ≡ received
Brings received (Aborts k) = Unit {0}
Brings received (Moves order) = Unit {0}
Brings received (Restarts reason) = ⊥

brings : {C : Type 0} (origin : Origin C) (b : Brought) (e : Option Event) → IfSome (happening_at origin b e) (Brings b.received)
brings origin b None = tt
brings (Called c) b (Some events.Act) = tt
brings (Entered l) b (Some events.Act) = tt
brings (Called c) b (Some (events.Serve k)) = refl
brings (Entered l) b (Some (events.Serve k)) = refl
brings (Called c) b (Some (events.Abort k)) = tt
brings (Entered l) b (Some (events.Abort k)) = tt
brings (Called c) b (Some (events.Start k)) = refl
brings (Entered l) b (Some (events.Start k)) = refl

module _ {S C : Type 0} (mac : Machine S C) (wire : S → List (ℕ × ℕ)) (u : ℕ) (wired : IsWired wire u mac) (w : World) (s : S) where
  abbrev GrowsBy : (received : ℕ) → Option (Outcome S) → Type 0
  GrowsBy received o = wire (state_by s o) ≡ wire s ++ shown_on u received (begun_by o)

  stays_grows : (received : ℕ) (out : Outcome S) → Stays wire s out → GrowsBy received (Some out)
  stays_grows received out h = h.1 ∙ sym (append-nil (wire s)) ∙ ap (λ o. wire s ++ shown_on u received o) (sym h.0)

  leaves_grows : (received : ℕ) (h : Happening C) (out : Outcome S) → Brings received h → Leaves wire u h s out → GrowsBy received (Some out)
  leaves_grows received (Acts c times) out b h = stays_grows received out h
  leaves_grows received (Serves l r) out b h = h ∙ ap (λ n. wire s ++ shown_on u n out.begins) b
  leaves_grows received (Starts k made_by r) out b h = h ∙ ap (λ n. wire s ++ shown_on u n out.begins) b
  leaves_grows received (Aborts k) out b h = stays_grows received out h
  leaves_grows received (Moves order) out b h = stays_grows received out h
  leaves_grows received (Restarts reason) out b h = absurd b

  happening_grows : (received : ℕ) (h : Option (Happening C)) → IfSome h (Brings received) → GrowsBy received (outcome_of mac w s h)
  happening_grows received None b = sym (append-nil (wire s))
  happening_grows received (Some h) b = by (mac.happens w s h) refl
    where
      by : (o : Option (Outcome S)) → mac.happens w s h ≡ o → GrowsBy received o
      by None e = sym (append-nil (wire s))
      by (Some out) e = leaves_grows received h out b (wired w s h out e)

  -- the wire grows by the word that begins at the step
  pub step_grows : (o : Open C) (made : Move) (received : ℕ) (e : Option Event) → GrowsBy received (outcome_at mac w s o made received e)
  step_grows o made received e = happening_grows received (happening_at o.origin (brought_by w o.committed made received) e) (brings o.origin (brought_by w o.committed made received) e)
