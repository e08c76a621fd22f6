-- Two machines as one.
use Rattle.std.specs.Prelude.{ℕ, min, cond, ◌||◌, Option, Some, None}
use Rattle.run_model.specs.Machine.{Happening, Acts, Serves, Starts, Aborts, Moves, Restarts, Outcome, Machine, outcome, outcome_with, tells_nothing}
use Rattle.run_model.specs.World.{World}
use Rattle.audit_base.specs.Deeds.{Member}
use Rattle.audit_base.specs.declared.either.Either.{Either}
use Rattle.audit_base.specs.declared.either.Either.TheVariants.{Left, Right}

-- what the one or the other says
abbrev pub either : {X Y Z : Type 0} → (X → Z) → (Y → Z) → Either X Y → Z
either f g (Left x) = f x
either f g (Right y) = g y

-- a call of the first, and of the second
abbrev pub first_call : {C D : Type 0} → Option (Either C D) → Option C
first_call None = None
first_call (Some (Left c)) = Some c
first_call (Some (Right d)) = None

abbrev pub second_call : {C D : Type 0} → Option (Either C D) → Option D
second_call None = None
second_call (Some (Left c)) = None
second_call (Some (Right d)) = Some d

-- what the machine of one gives, in the state of both
abbrev pub lifted : {S U : Type 0} → (S → U) → Option (Outcome S) → Option (Outcome U)
lifted put None = None
lifted put (Some out) = Some (outcome_with (put out.state) out.told out.begins)

-- what both allow
abbrev pub in_both : {S T : Type 0} → Option (Outcome S) → Option (Outcome T) → Option (Outcome (S × T))
in_both None y = None
in_both (Some x) None = None
in_both (Some x) (Some y) = Some (outcome (x.state, y.state) tells_nothing)

-- what the first allows, and else what the second does
abbrev pub in_first : {S T : Type 0} → S → T → Option (Outcome S) → Option (Outcome T) → Option (Outcome (S × T))
in_first s t (Some x) y = Some (outcome_with (x.state, t) x.told x.begins)
in_first s t None y = lifted (λ b. (s, b)) y

-- calls and lines go to the one that has them, a unit to the one that allows it, and all else to both
abbrev pub happens : {S T C D : Type 0} → Member S C → Member T D → World → S × T → Happening (Either C D) → Option (Outcome (S × T))
happens f g w s (Acts (Left c) times) = lifted (λ a. (a, s.1)) (f.machine.happens w s.0 (Acts c times))
happens f g w s (Acts (Right d) times) = lifted (λ b. (s.0, b)) (g.machine.happens w s.1 (Acts d times))
happens f g w s (Serves l r) = cond (f.lines l) (lifted (λ a. (a, s.1)) (f.machine.happens w s.0 (Serves l r))) (lifted (λ b. (s.0, b)) (g.machine.happens w s.1 (Serves l r)))
happens f g w s (Starts u by r) = in_first s.0 s.1 (f.machine.happens w s.0 (Starts u (first_call by) r)) (g.machine.happens w s.1 (Starts u (second_call by) r))
happens f g w s (Aborts u) = in_first s.0 s.1 (f.machine.happens w s.0 (Aborts u)) (g.machine.happens w s.1 (Aborts u))
happens f g w s (Moves order) = in_both (f.machine.happens w s.0 (Moves order)) (g.machine.happens w s.1 (Moves order))
happens f g w s (Restarts reason) = in_both (f.machine.happens w s.0 (Restarts reason)) (g.machine.happens w s.1 (Restarts reason))

-- the sooner one of two times that may run
abbrev pub sooner : Option ℕ → Option ℕ → Option ℕ
sooner None y = y
sooner (Some m) None = Some m
sooner (Some m) (Some n) = Some (min m n)

-- the first sets the rate
abbrev pub both_machine : {S T C D : Type 0} → Member S C → Member T D → Machine (S × T) (Either C D)
both_machine f g = record {
  happens = happens f g;
  ready = λ w s l. cond (f.lines l) (f.machine.ready w s.0 l) (g.machine.ready w s.1 l);
  due = λ w s l. cond (f.lines l) (f.machine.due w s.0 l) (g.machine.due w s.1 l);
  line_waits = λ w s l. cond (f.lines l) (f.machine.line_waits w s.0 l) (g.machine.line_waits w s.1 l);
  startable = λ w s u. f.machine.startable w s.0 u || g.machine.startable w s.1 u;
  rate = λ s. f.machine.rate s.0;
  expires = λ w s. sooner (f.machine.expires w s.0) (g.machine.expires w s.1);
  service_of = either f.machine.service_of g.machine.service_of;
  reporting = either f.machine.reporting g.machine.reporting;
  polls = λ w s c. either (λ x. f.machine.polls w s.0 x) (λ y. g.machine.polls w s.1 y) c;
}

-- and the lines are those of both
abbrev pub both : {S T C D : Type 0} → Member S C → Member T D → Member (S × T) (Either C D)
both f g = record { machine = both_machine f g; lines = λ l. f.lines l || g.lines l }
