-- A run of a larger machine has a run of each part in it.
use Rattle.std.proofs.Common.{◌≡◌, ℕ, Bool, true, false, cond, List, [], ◌∷◌, Option, Some, None, refl, sym, ◌∙◌, ap, subst}
use Rattle.std.specs.Prelude.{is_some, IsSome}
use Rattle.mcal_base.specs.facts.Options.{some_same}
use Rattle.run_model.specs.Frame.{state_by}
use Rattle.run_model.specs.World.{World}
use Rattle.run_model.specs.Machine.{Happening, Acts, Serves, Starts, Aborts, Moves, Restarts, Outcome, Machine, outcome, outcome_with, tells_nothing}
use Rattle.step_runner.specs.Union.{first_call, second_call, union_machine, union_happens, lift_out, in_both, in_first}
use Rattle.step_runner.specs.declared.either.Either.{Either}
use Rattle.step_runner.specs.declared.either.Either.TheVariants.{Left, Right}
use Rattle.board_promises.specs.whole_runs.Runs.{Event, state_after, AreAllowed}
use Rattle.board_promises.specs.whole_runs.Members.{Embedding, IsPart, own_event, joined, own_events, whole_place, own_through, within, first_own, second_own, first_place, second_place, IsMute}

module _ {S C U E : Type 0} (small : Machine S C) (big : Machine U E) (first : U) (p : Embedding S C U E) (is : IsPart small big p) where
  -- the part's state and events after one more event
  abbrev After : Event E → List (Event E) → Option (Outcome U) → Option (Happening C) → Type 0
  After e past o x = let own : List (Event C) = joined e.world x (own_events big first p past) in
      (p.part (state_by (state_after big first past) o) ≡ state_after small (p.part first) own) × AreAllowed small (p.part first) own

  one_event : (e : Event E) (past : List (Event E)) (o : Option (Outcome U)) (x : Option (Happening C)) → big.happens e.world (state_after big first past) e.what ≡ o → IsSome o
      → own_event p e (state_after big first past) ≡ x → p.part (state_after big first past) ≡ state_after small (p.part first) (own_events big first p past)
      → AreAllowed small (p.part first) (own_events big first p past) → After e past o x
  one_event e past None x at some own same allowed = absurd (cc some)
  one_event e past (Some out) None at some own same allowed = (is.leaves e.world (state_after big first past) e.what out at own ∙ same, allowed)
  one_event e past (Some out) (Some x) at some own same allowed =
      let does : small.happens e.world (state_after small (p.part first) (own_events big first p past)) x ≡ Some (outcome_with (p.part out.state) out.told out.begins) =
      ap (λ s. small.happens e.world s x) (sym same) ∙ is.does e.world (state_after big first past) e.what x out at own in
      (sym (ap (λ y. state_by (state_after small (p.part first) (own_events big first p past)) y) does), (ap (λ y. is_some y) does, allowed))

  pub part_runs : (past : List (Event E)) → AreAllowed big first past
      → (p.part (state_after big first past) ≡ state_after small (p.part first) (own_events big first p past)) × AreAllowed small (p.part first) (own_events big first p past)
  part_runs [] allowed = (refl, tt)
  part_runs (e ∷ past) allowed =
      let before = part_runs past allowed.1 in
      one_event e past (big.happens e.world (state_after big first past) e.what) (own_event p e (state_after big first past)) refl allowed.0 refl before.0 before.1

-- ---- places

pub whole_part : {S C : Type 0} (mac : Machine S C) → IsPart mac mac whole_place
whole_part mac = record { leaves = λ w u h out at none. absurd (cc none); does = λ w u h x out at is. ap (λ k. mac.happens w u k) (some_same (sym is)) ∙ at }

module _ {S C T D U E : Type 0} (small : Machine S C) (mid : Machine T D) (big : Machine U E) (inner : Embedding S C T D) (outer : Embedding T D U E) (a : IsPart small mid inner) (b : IsPart mid big outer) where
  leaves_by : (w : World) (u : U) (h : Happening E) (out : Outcome U) (x : Option (Happening D)) → big.happens w u h ≡ Some out → outer.own w u h ≡ x → own_through inner w (outer.part u) x ≡ None
      → inner.part (outer.part out.state) ≡ inner.part (outer.part u)
  leaves_by w u h out None at own none = ap inner.part (b.leaves w u h out at own)
  leaves_by w u h out (Some x) at own none = a.leaves w (outer.part u) x (outcome_with (outer.part out.state) out.told out.begins) (b.does w u h x out at own) none

  does_by : (w : World) (u : U) (h : Happening E) (y : Happening C) (out : Outcome U) (x : Option (Happening D)) → big.happens w u h ≡ Some out → outer.own w u h ≡ x → own_through inner w (outer.part u) x ≡ Some y
      → small.happens w (inner.part (outer.part u)) y ≡ Some (outcome_with (inner.part (outer.part out.state)) out.told out.begins)
  does_by w u h y out None at own is = absurd (cc is)
  does_by w u h y out (Some x) at own is = a.does w (outer.part u) x y (outcome_with (outer.part out.state) out.told out.begins) (b.does w u h x out at own) is

  pub part_within : IsPart small big (within inner outer)
  part_within = record {
    leaves = λ w u h out at none. leaves_by w u h out (outer.own w u h) at refl none;
    does = λ w u h y out at is. does_by w u h y out (outer.own w u h) at refl is;
  }

-- ---- unions

module _ {S T C D : Type 0} (ours : ℕ → Bool) (f : Machine S C) (g : Machine T D) (mute_f : IsMute f) (mute_g : IsMute g) where
  -- what a lifted outcome comes from
  lifted : {X : Type 0} (put : X → S × T) (o : Option (Outcome X)) (out : Outcome (S × T)) → lift_out put o ≡ Some out
      → (x : Outcome X) × (o ≡ Some x) × (outcome_with (put x.state) x.told x.begins ≡ out)
  lifted put None out e = absurd (cc e)
  lifted put (Some x) out e = (x, refl, some_same e)

  -- the outcomes of both
  both_came : (o : Option (Outcome S)) (k : Option (Outcome T)) (out : Outcome (S × T)) → in_both o k ≡ Some out
      → (x : Outcome S) × (y : Outcome T) × (o ≡ Some x) × (k ≡ Some y) × (outcome (x.state, y.state) tells_nothing ≡ out)
  both_came None k out e = absurd (cc e)
  both_came (Some x) None out e = absurd (cc e)
  both_came (Some x) (Some y) out e = (x, y, refl, refl, some_same e)

  -- an own outcome of the first that was lifted, and one of the second
  abbrev First : Option (Outcome S) → Outcome (S × T) → Type 0
  First o out = o ≡ Some (outcome_with out.state.0 out.told out.begins)

  abbrev Second : Option (Outcome T) → Outcome (S × T) → Type 0
  Second o out = o ≡ Some (outcome_with out.state.1 out.told out.begins)

  first_lifted : (t : T) (o : Option (Outcome S)) (out : Outcome (S × T)) → lift_out (λ a. (a, t)) o ≡ Some out → First o out × (out.state.1 ≡ t)
  first_lifted t None out e = absurd (cc e)
  first_lifted t (Some x) out e =
      let same : outcome_with (x.state, t) x.told x.begins ≡ out = some_same e in
      (ap (λ (y : Outcome (S × T)). Some (outcome_with y.state.0 y.told y.begins)) same, ap (λ (y : Outcome (S × T)). y.state.1) (sym same))

  second_lifted : (s : S) (o : Option (Outcome T)) (out : Outcome (S × T)) → lift_out (λ b. (s, b)) o ≡ Some out → Second o out × (out.state.0 ≡ s)
  second_lifted s None out e = absurd (cc e)
  second_lifted s (Some x) out e =
      let same : outcome_with (s, x.state) x.told x.begins ≡ out = some_same e in
      (ap (λ (y : Outcome (S × T)). Some (outcome_with y.state.1 y.told y.begins)) same, ap (λ (y : Outcome (S × T)). y.state.0) (sym same))

  -- a line, by whose it is
  abbrev Line : World → S × T → (l r : ℕ) → Bool → Option (Outcome (S × T))
  Line w s l r b = cond b (lift_out (λ a. (a, s.1)) (f.happens w s.0 (Serves l r))) (lift_out (λ b. (s.0, b)) (g.happens w s.1 (Serves l r)))

  -- a start or an abort, by whether the first allows it
  from_first : (s : S) (t : T) (o : Option (Outcome S)) (k : Option (Outcome T)) (out : Outcome (S × T)) → in_first s t o k ≡ Some out → is_some o ≡ true → First o out × (out.state.1 ≡ t)
  from_first s t None k out e some = absurd (cc some)
  from_first s t (Some x) k out e some =
      let same : outcome_with (x.state, t) x.told x.begins ≡ out = some_same e in
      (ap (λ (y : Outcome (S × T)). Some (outcome_with y.state.0 y.told y.begins)) same, ap (λ (y : Outcome (S × T)). y.state.1) (sym same))

  from_second : (s : S) (t : T) (o : Option (Outcome S)) (k : Option (Outcome T)) (out : Outcome (S × T)) → in_first s t o k ≡ Some out → is_some o ≡ false → Second k out × (out.state.0 ≡ s)
  from_second s t None k out e none = second_lifted s k out e
  from_second s t (Some x) k out e none = absurd (cc none)

  -- ---- the first

  chosen_none : {X : Type 0} (b : Bool) (x : X) → cond b (Some x) None ≡ None → b ≡ false
  chosen_none true x e = absurd (cc e)
  chosen_none false x e = refl

  chosen_some : {X : Type 0} (b : Bool) (x y : X) → cond b (Some x) None ≡ Some y → (b ≡ true) × (x ≡ y)
  chosen_some true x y e = (refl, some_same e)
  chosen_some false x y e = absurd (cc e)

  first_leaves : (w : World) (s : S × T) (h : Happening (Either C D)) (out : Outcome (S × T)) → union_happens ours f g w s h ≡ Some out → first_own ours f w s h ≡ None → out.state.0 ≡ s.0
  first_leaves w s (Acts (Left c) times) out at none = absurd (cc none)
  first_leaves w s (Acts (Right d) times) out at none = (second_lifted s.0 (g.happens w s.1 (Acts d times)) out at).1
  first_leaves w s (Serves l r) out at none =
      (second_lifted s.0 (g.happens w s.1 (Serves l r)) out (ap (λ b. Line w s l r b) (sym (chosen_none (ours l) (Serves l r) none)) ∙ at)).1
  first_leaves w s (Starts u made_by r) out at none = (from_second s.0 s.1 (f.happens w s.0 (Starts u (first_call made_by) r)) (g.happens w s.1 (Starts u (second_call made_by) r)) out at (chosen_none _ (Starts u (first_call made_by) r) none)).1
  first_leaves w s (Aborts u) out at none = (from_second s.0 s.1 (f.happens w s.0 (Aborts u)) (g.happens w s.1 (Aborts u)) out at (chosen_none _ (Aborts u) none)).1
  first_leaves w s (Moves order) out at none = absurd (cc none)
  first_leaves w s (Restarts reason) out at none = absurd (cc none)

  mute_first : (o : Option (Outcome S)) (k : Option (Outcome T)) (out : Outcome (S × T)) → in_both o k ≡ Some out → ((x : Outcome S) → o ≡ Some x → x ≡ outcome_with x.state tells_nothing None) → First o out
  mute_first None k out e mute = absurd (cc e)
  mute_first (Some x) None out e mute = absurd (cc e)
  mute_first (Some x) (Some y) out e mute =
      let same : outcome (x.state, y.state) tells_nothing ≡ out = some_same e in
      ap (λ z. Some z) (mute x refl) ∙ ap (λ (z : Outcome (S × T)). Some (outcome_with z.state.0 z.told z.begins)) same

  first_does : (w : World) (s : S × T) (h : Happening (Either C D)) (x : Happening C) (out : Outcome (S × T)) → union_happens ours f g w s h ≡ Some out → first_own ours f w s h ≡ Some x → First (f.happens w s.0 x) out
  first_does w s (Acts (Left c) times) x out at is = subst (λ y. First (f.happens w s.0 y) out) (some_same is) (first_lifted s.1 (f.happens w s.0 (Acts c times)) out at).0
  first_does w s (Acts (Right d) times) x out at is = absurd (cc is)
  first_does w s (Serves l r) x out at is =
      let own = chosen_some (ours l) (Serves l r) x is in
      subst (λ y. First (f.happens w s.0 y) out) own.1 (first_lifted s.1 (f.happens w s.0 (Serves l r)) out (ap (λ b. Line w s l r b) (sym own.0) ∙ at)).0
  first_does w s (Starts u made_by r) x out at is =
      let own = chosen_some (is_some (f.happens w s.0 (Starts u (first_call made_by) r))) (Starts u (first_call made_by) r) x is in
      subst (λ y. First (f.happens w s.0 y) out) own.1 (from_first s.0 s.1 (f.happens w s.0 (Starts u (first_call made_by) r)) (g.happens w s.1 (Starts u (second_call made_by) r)) out at own.0).0
  first_does w s (Aborts u) x out at is =
      let own = chosen_some (is_some (f.happens w s.0 (Aborts u))) (Aborts u) x is in
      subst (λ y. First (f.happens w s.0 y) out) own.1 (from_first s.0 s.1 (f.happens w s.0 (Aborts u)) (g.happens w s.1 (Aborts u)) out at own.0).0
  first_does w s (Moves order) x out at is =
      subst (λ y. First (f.happens w s.0 y) out) (some_same is) (mute_first (f.happens w s.0 (Moves order)) (g.happens w s.1 (Moves order)) out at (λ z e. mute_f.moves w s.0 order z e))
  first_does w s (Restarts reason) x out at is =
      subst (λ y. First (f.happens w s.0 y) out) (some_same is) (mute_first (f.happens w s.0 (Restarts reason)) (g.happens w s.1 (Restarts reason)) out at (λ z e. mute_f.restarts w s.0 reason z e))

  pub first_part : IsPart f (union_machine ours f g) (first_place ours f)
  first_part = record { leaves = first_leaves; does = first_does }

  -- ---- the second

  other_none : {X : Type 0} (b : Bool) (x : X) → cond b None (Some x) ≡ None → b ≡ true
  other_none true x e = refl
  other_none false x e = absurd (cc e)

  other_some : {X : Type 0} (b : Bool) (x y : X) → cond b None (Some x) ≡ Some y → (b ≡ false) × (x ≡ y)
  other_some true x y e = absurd (cc e)
  other_some false x y e = (refl, some_same e)

  second_leaves : (w : World) (s : S × T) (h : Happening (Either C D)) (out : Outcome (S × T)) → union_happens ours f g w s h ≡ Some out → second_own ours f w s h ≡ None → out.state.1 ≡ s.1
  second_leaves w s (Acts (Left c) times) out at none = (first_lifted s.1 (f.happens w s.0 (Acts c times)) out at).1
  second_leaves w s (Acts (Right d) times) out at none = absurd (cc none)
  second_leaves w s (Serves l r) out at none =
      (first_lifted s.1 (f.happens w s.0 (Serves l r)) out (ap (λ b. Line w s l r b) (sym (other_none (ours l) (Serves l r) none)) ∙ at)).1
  second_leaves w s (Starts u made_by r) out at none = (from_first s.0 s.1 (f.happens w s.0 (Starts u (first_call made_by) r)) (g.happens w s.1 (Starts u (second_call made_by) r)) out at (other_none _ (Starts u (second_call made_by) r) none)).1
  second_leaves w s (Aborts u) out at none = (from_first s.0 s.1 (f.happens w s.0 (Aborts u)) (g.happens w s.1 (Aborts u)) out at (other_none _ (Aborts u) none)).1
  second_leaves w s (Moves order) out at none = absurd (cc none)
  second_leaves w s (Restarts reason) out at none = absurd (cc none)

  mute_second : (o : Option (Outcome S)) (k : Option (Outcome T)) (out : Outcome (S × T)) → in_both o k ≡ Some out → ((y : Outcome T) → k ≡ Some y → y ≡ outcome_with y.state tells_nothing None) → Second k out
  mute_second None k out e mute = absurd (cc e)
  mute_second (Some x) None out e mute = absurd (cc e)
  mute_second (Some x) (Some y) out e mute =
      let same : outcome (x.state, y.state) tells_nothing ≡ out = some_same e in
      ap (λ z. Some z) (mute y refl) ∙ ap (λ (z : Outcome (S × T)). Some (outcome_with z.state.1 z.told z.begins)) same

  second_does : (w : World) (s : S × T) (h : Happening (Either C D)) (x : Happening D) (out : Outcome (S × T)) → union_happens ours f g w s h ≡ Some out → second_own ours f w s h ≡ Some x → Second (g.happens w s.1 x) out
  second_does w s (Acts (Left c) times) x out at is = absurd (cc is)
  second_does w s (Acts (Right d) times) x out at is = subst (λ y. Second (g.happens w s.1 y) out) (some_same is) (second_lifted s.0 (g.happens w s.1 (Acts d times)) out at).0
  second_does w s (Serves l r) x out at is =
      let own = other_some (ours l) (Serves l r) x is in
      subst (λ y. Second (g.happens w s.1 y) out) own.1 (second_lifted s.0 (g.happens w s.1 (Serves l r)) out (ap (λ b. Line w s l r b) (sym own.0) ∙ at)).0
  second_does w s (Starts u made_by r) x out at is =
      let own = other_some (is_some (f.happens w s.0 (Starts u (first_call made_by) r))) (Starts u (second_call made_by) r) x is in
      subst (λ y. Second (g.happens w s.1 y) out) own.1 (from_second s.0 s.1 (f.happens w s.0 (Starts u (first_call made_by) r)) (g.happens w s.1 (Starts u (second_call made_by) r)) out at own.0).0
  second_does w s (Aborts u) x out at is =
      let own = other_some (is_some (f.happens w s.0 (Aborts u))) (Aborts u) x is in
      subst (λ y. Second (g.happens w s.1 y) out) own.1 (from_second s.0 s.1 (f.happens w s.0 (Aborts u)) (g.happens w s.1 (Aborts u)) out at own.0).0
  second_does w s (Moves order) x out at is =
      subst (λ y. Second (g.happens w s.1 y) out) (some_same is) (mute_second (f.happens w s.0 (Moves order)) (g.happens w s.1 (Moves order)) out at (λ z e. mute_g.moves w s.1 order z e))
  second_does w s (Restarts reason) x out at is =
      subst (λ y. Second (g.happens w s.1 y) out) (some_same is) (mute_second (f.happens w s.0 (Restarts reason)) (g.happens w s.1 (Restarts reason)) out at (λ z e. mute_g.restarts w s.1 reason z e))

  pub second_part : IsPart g (union_machine ours f g) (second_place ours f)
  second_part = record { leaves = second_leaves; does = second_does }

  -- ---- a union is mute too

  both_mute : (o : Option (Outcome S)) (k : Option (Outcome T)) (out : Outcome (S × T)) → in_both o k ≡ Some out → out ≡ outcome_with out.state tells_nothing None
  both_mute None k out e = absurd (cc e)
  both_mute (Some x) None out e = absurd (cc e)
  both_mute (Some x) (Some y) out e =
      let same : outcome (x.state, y.state) tells_nothing ≡ out = some_same e in
      sym same ∙ ap (λ (z : Outcome (S × T)). outcome_with z.state tells_nothing None) same

  pub union_mute : IsMute (union_machine ours f g)
  union_mute = record {
    moves = λ w s order out e. both_mute (f.happens w s.0 (Moves order)) (g.happens w s.1 (Moves order)) out e;
    restarts = λ w s reason out e. both_mute (f.happens w s.0 (Restarts reason)) (g.happens w s.1 (Restarts reason)) out e;
  }
