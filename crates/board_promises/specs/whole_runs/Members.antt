-- A machine as part of a larger one: a run of the larger one has a run of the part in it.
use Rattle.std.specs.Prelude.{◌≡◌, ℕ, Bool, cond, List, [], ◌∷◌, Option, Some, None, is_some}
use Rattle.mcal_base.specs.declared.directive.Order.{Order}
use Rattle.mcal_base.specs.declared.directive.Reason.{Reason}
use Rattle.run_model.specs.World.{World}
use Rattle.run_model.specs.Machine.{Happening, Acts, Serves, Starts, Aborts, Moves, Restarts, Outcome, Machine, outcome_with, tells_nothing}
use Rattle.step_runner.specs.Union.{first_call, second_call}
use Rattle.step_runner.specs.declared.either.Either.{Either}
use Rattle.step_runner.specs.declared.either.Either.TheVariants.{Left, Right}
use Rattle.board_promises.specs.whole_runs.Runs.{Event, state_after}

-- The part's state in that of the whole, and what a happening of the whole is to the part, if anything.
pub record Embedding (S C U E : Type 0) : Type 0 where
  pub part : U → S
  pub own : World → U → Happening E → Option (Happening C)

-- A machine has its place in a larger one: what isn't its own leaves its state, and what is its own the part allows too, with the same state, the same that is told and the same word that begins.
pub record IsPart {S C U E : Type 0} (small : Machine S C) (big : Machine U E) (p : Embedding S C U E) : Type 0 where
  pub leaves : (w : World) (u : U) (h : Happening E) (out : Outcome U) → big.happens w u h ≡ Some out → p.own w u h ≡ None → p.part out.state ≡ p.part u
  pub does : (w : World) (u : U) (h : Happening E) (x : Happening C) (out : Outcome U) → big.happens w u h ≡ Some out → p.own w u h ≡ Some x
      → small.happens w (p.part u) x ≡ Some (outcome_with (p.part out.state) out.told out.begins)

-- the part's event of an event
abbrev pub own_event : {S C U E : Type 0} → Embedding S C U E → Event E → U → Option (Happening C)
own_event p e u = p.own e.world u e.what

abbrev pub joined : {C : Type 0} → World → Option (Happening C) → List (Event C) → List (Event C)
joined w None past = past
joined w (Some x) past = record { world = w; what = x } ∷ past

-- the part's events of a run
abbrev pub own_events : {S C U E : Type 0} → Machine U E → U → Embedding S C U E → List (Event E) → List (Event C)
own_events big first p [] = []
own_events big first p (e ∷ past) = joined e.world (own_event p e (state_after big first past)) (own_events big first p past)

-- ---- places

-- a machine in itself
abbrev pub whole_place : {S C : Type 0} → Embedding S C S C
whole_place = record { part = λ s. s; own = λ w s h. Some h }

-- a place within a place
abbrev pub own_through : {S C U E : Type 0} → Embedding S C U E → World → U → Option (Happening E) → Option (Happening C)
own_through p w u None = None
own_through p w u (Some h) = p.own w u h

abbrev pub within : {S C T D U E : Type 0} → Embedding S C T D → Embedding T D U E → Embedding S C U E
within inner outer = record { part = λ u. inner.part (outer.part u); own = λ w u h. own_through inner w (outer.part u) (outer.own w u h) }

-- what is the first's of two drivers, whose lines ours tells
abbrev pub first_own : {S T C D : Type 0} → (ℕ → Bool) → Machine S C → World → S × T → Happening (Either C D) → Option (Happening C)
first_own ours f w s (Acts (Left c) times) = Some (Acts c times)
first_own ours f w s (Acts (Right d) times) = None
first_own ours f w s (Serves l r) = cond (ours l) (Some (Serves l r)) None
first_own ours f w s (Starts u made_by r) = cond (is_some (f.happens w s.0 (Starts u (first_call made_by) r))) (Some (Starts u (first_call made_by) r)) None
first_own ours f w s (Aborts u) = cond (is_some (f.happens w s.0 (Aborts u))) (Some (Aborts u)) None
first_own ours f w s (Moves order) = Some (Moves order)
first_own ours f w s (Restarts reason) = Some (Restarts reason)

-- and what is the second's
abbrev pub second_own : {S T C D : Type 0} → (ℕ → Bool) → Machine S C → World → S × T → Happening (Either C D) → Option (Happening D)
second_own ours f w s (Acts (Left c) times) = None
second_own ours f w s (Acts (Right d) times) = Some (Acts d times)
second_own ours f w s (Serves l r) = cond (ours l) None (Some (Serves l r))
second_own ours f w s (Starts u made_by r) = cond (is_some (f.happens w s.0 (Starts u (first_call made_by) r))) None (Some (Starts u (second_call made_by) r))
second_own ours f w s (Aborts u) = cond (is_some (f.happens w s.0 (Aborts u))) None (Some (Aborts u))
second_own ours f w s (Moves order) = Some (Moves order)
second_own ours f w s (Restarts reason) = Some (Restarts reason)

abbrev pub first_place : {S T C D : Type 0} → (ℕ → Bool) → Machine S C → Embedding S C (S × T) (Either C D)
first_place ours f = record { part = λ s. s.0; own = first_own ours f }

abbrev pub second_place : {S T C D : Type 0} → (ℕ → Bool) → Machine S C → Embedding T D (S × T) (Either C D)
second_place ours f = record { part = λ s. s.1; own = second_own ours f }

-- hardware and resets tell a machine's user nothing, and begin no word
pub record IsMute {S C : Type 0} (mac : Machine S C) : Type 0 where
  pub moves : (w : World) (s : S) (order : Order) (out : Outcome S) → mac.happens w s (Moves order) ≡ Some out → out ≡ outcome_with out.state tells_nothing None
  pub restarts : (w : World) (s : S) (reason : Reason) (out : Outcome S) → mac.happens w s (Restarts reason) ≡ Some out → out ≡ outcome_with out.state tells_nothing None
