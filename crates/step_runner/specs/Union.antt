-- Two drivers as one: the product of their machines, with the frames of both.
use Rattle.std.specs.Prelude.{◌≡◌, ℕ, ◌+◌, min, Bool, true, false, cond, not, ◌&&◌, ◌||◌, List, [], ◌∷◌, Option, Some, None, IsSome, is_some, MatchBool}
use Rattle.std.specs.List.{list_all}
use Rattle.chip_model.specs.Chip.{Chip, chip_after}
use Rattle.mcal_base.specs.declared.moves.Move.{Move}
use Rattle.mcal_base.specs.declared.moves.Unit as units
use Rattle.mcal_base.specs.declared.notice.Notice.{Notice}
use Rattle.mcal_base.specs.declared.routine.Taken.{Taken}
use Rattle.run_model.specs.World.{World}
use Rattle.run_model.specs.Machine.{Happening, Acts, Serves, Starts, Aborts, Moves, Restarts, Outcome, Machine, outcome, outcome_with, tells_nothing}
use Rattle.run_model.specs.Frame.{Origin, Called, Entered, Open}
use Rattle.run_model.specs.Moment.{Setting}
use Rattle.step_runner.specs.Driver.{Driver}
use Rattle.step_runner.specs.declared.either.Either.{Either}
use Rattle.step_runner.specs.declared.either.Either.TheVariants.{Left, Right}

-- ---- one or the other

abbrev pub either : {X Y Z : Type 0} → (X → Z) → (Y → Z) → Either X Y → Z
either f g (Left x) = f x
either f g (Right y) = g y

-- a fact of the one or of the other
abbrev pub EitherFits : {X Y : Type 0} → (X → Type 0) → (Y → Type 0) → Either X Y → Type 0
EitherFits P Q (Left x) = P x
EitherFits P Q (Right y) = Q y

abbrev pub either_left : {F G : Type 0} → (F → ℕ → F) → (G → ℕ → G) → Either F G → ℕ → Either F G
either_left left_f left_g (Left f) x = Left (left_f f x)
either_left left_f left_g (Right g) x = Right (left_g g x)

abbrev pub either_gave : {F G : Type 0} → (F → ℕ → Taken) → (G → ℕ → Taken) → Either F G → ℕ → Taken
either_gave gave_f gave_g (Left f) x = gave_f f x
either_gave gave_f gave_g (Right g) x = gave_g g x

-- the frame of the one that has a handler, of the first if both have
abbrev pub either_handler : {F G : Type 0} → Option F → Option G → Option (Either F G)
either_handler (Some f) y = Some (Left f)
either_handler None (Some g) = Some (Right g)
either_handler None None = None

-- ---- the machine

-- what a member's machine gives, in the state of both
abbrev pub lift_out : {S U : Type 0} → (S → U) → Option (Outcome S) → Option (Outcome U)
lift_out put None = None
lift_out put (Some out) = Some (outcome_with (put out.state) out.told out.begins)

-- what both allow
abbrev pub in_both : {S T : Type 0} → Option (Outcome S) → Option (Outcome T) → Option (Outcome (S × T))
in_both None y = None
in_both (Some x) None = None
in_both (Some x) (Some y) = Some (outcome (x.state, y.state) tells_nothing)

-- what the first allows, and else what the second does
abbrev pub in_first : {S T : Type 0} → S → T → Option (Outcome S) → Option (Outcome T) → Option (Outcome (S × T))
in_first s t (Some x) y = Some (outcome_with (x.state, t) x.told x.begins)
in_first s t None y = lift_out (λ b. (s, b)) y

-- a call of the first, and of the second
abbrev pub first_call : {C D : Type 0} → Option (Either C D) → Option C
first_call None = None
first_call (Some (Left c)) = Some c
first_call (Some (Right d)) = None

abbrev pub second_call : {C D : Type 0} → Option (Either C D) → Option D
second_call None = None
second_call (Some (Left c)) = None
second_call (Some (Right d)) = Some d

-- calls and lines go to the member that has them, a unit to the one that allows it, and all else to both; ours tells the lines of the first
abbrev pub union_happens : {S T C D : Type 0} → (ℕ → Bool) → Machine S C → Machine T D → World → S × T → Happening (Either C D) → Option (Outcome (S × T))
union_happens ours f g w s (Acts (Left c) times) = lift_out (λ a. (a, s.1)) (f.happens w s.0 (Acts c times))
union_happens ours f g w s (Acts (Right d) times) = lift_out (λ b. (s.0, b)) (g.happens w s.1 (Acts d times))
union_happens ours f g w s (Serves l r) = cond (ours l) (lift_out (λ a. (a, s.1)) (f.happens w s.0 (Serves l r))) (lift_out (λ b. (s.0, b)) (g.happens w s.1 (Serves l r)))
union_happens ours f g w s (Starts u by r) = in_first s.0 s.1 (f.happens w s.0 (Starts u (first_call by) r)) (g.happens w s.1 (Starts u (second_call by) r))
union_happens ours f g w s (Aborts u) = in_first s.0 s.1 (f.happens w s.0 (Aborts u)) (g.happens w s.1 (Aborts u))
union_happens ours f g w s (Moves order) = in_both (f.happens w s.0 (Moves order)) (g.happens w s.1 (Moves order))
union_happens ours f g w s (Restarts reason) = in_both (f.happens w s.0 (Restarts reason)) (g.happens w s.1 (Restarts reason))

-- the sooner one of two times that may run
abbrev pub sooner : Option ℕ → Option ℕ → Option ℕ
sooner None y = y
sooner (Some m) None = Some m
sooner (Some m) (Some n) = Some (min m n)

-- the first sets the rate
abbrev pub union_machine : {S T C D : Type 0} → (ℕ → Bool) → Machine S C → Machine T D → Machine (S × T) (Either C D)
union_machine ours f g = record {
  happens = union_happens ours f g;
  ready = λ w s l. cond (ours l) (f.ready w s.0 l) (g.ready w s.1 l);
  due = λ w s l. cond (ours l) (f.due w s.0 l) (g.due w s.1 l);
  line_waits = λ w s l. cond (ours l) (f.line_waits w s.0 l) (g.line_waits w s.1 l);
  startable = λ w s u. f.startable w s.0 u || g.startable w s.1 u;
  rate = λ s. f.rate s.0;
  expires = λ w s. sooner (f.expires w s.0) (g.expires w s.1);
  service_of = either f.service_of g.service_of;
  reporting = either f.reporting g.reporting;
  polls = λ w s c. either (λ x. f.polls w s.0 x) (λ y. g.polls w s.1 y) c;
}

-- ---- the frames

-- what the member of an origin says of it
abbrev pub by_origin : {C D Z : Type 0} → (ℕ → Bool) → (Origin C → Z) → (Origin D → Z) → Origin (Either C D) → Z
by_origin ours p q (Called (Left c)) = p (Called c)
by_origin ours p q (Called (Right d)) = q (Called d)
by_origin ours p q (Entered l) = cond (ours l) (p (Entered l)) (q (Entered l))

abbrev pub lift_origin : {C E : Type 0} → (C → E) → Origin C → Origin E
lift_origin k (Called c) = Called (k c)
lift_origin k (Entered l) = Entered l

-- the origins of the first, and of the second
abbrev pub first_origins : {C D : Type 0} → (ℕ → Bool) → List (Origin (Either C D)) → List (Origin C)
first_origins ours [] = []
first_origins ours (Called (Left c) ∷ os) = Called c ∷ first_origins ours os
first_origins ours (Called (Right d) ∷ os) = first_origins ours os
first_origins ours (Entered l ∷ os) = cond (ours l) (Entered l ∷ first_origins ours os) (first_origins ours os)

abbrev pub second_origins : {C D : Type 0} → (ℕ → Bool) → List (Origin (Either C D)) → List (Origin D)
second_origins ours [] = []
second_origins ours (Called (Left c) ∷ os) = second_origins ours os
second_origins ours (Called (Right d) ∷ os) = Called d ∷ second_origins ours os
second_origins ours (Entered l ∷ os) = cond (ours l) (second_origins ours os) (Entered l ∷ second_origins ours os)

-- a member's frame as one of the union, which misses other lines
abbrev pub lift_open : {C E : Type 0} → (C → E) → (ℕ → Bool) → Open C → Open E
lift_open k missed o = record { origin = lift_origin k o.origin; tag = o.tag; acted = o.acted; acted_at = o.acted_at; polled = o.polled; served = o.served; missed = missed; committed = o.committed; reads = o.reads; wrote = o.wrote; writes = o.writes; owed = o.owed; report = o.report; inside = o.inside; since = o.since; acts_since = o.acts_since; steps = o.steps; window = o.window; noted = o.noted }

-- the line that was entered is one of these
abbrev pub IsMine : {C : Type 0} → (ℕ → Bool) → Origin C → Type 0
IsMine mine (Called c) = Unit {0}
IsMine mine (Entered l) = mine l ≡ true

-- the same of these lines
abbrev pub SameOn : (ℕ → Bool) → (ℕ → Bool) → (ℕ → Bool) → Type 0
SameOn mine p q = (l : ℕ) → mine l ≡ true → p l ≡ q l

-- the lines that aren't the first's
abbrev pub others : (ℕ → Bool) → ℕ → Bool
others ours l = not (ours l)

-- the frames of the union are those of the first and those of the second, each in their order
pub data Splits {C D F G : Type 0} (ours : ℕ → Bool) : List (Either F G × Open (Either C D)) → List (F × Open C) → List (G × Open D) → Type 0 where
  Nothing_open : Splits ours [] [] []
  Left_open : (f : F) (o : Open C) (missed : ℕ → Bool) (ps : List (Either F G × Open (Either C D))) (fs : List (F × Open C)) (gs : List (G × Open D)) → IsMine ours o.origin → list_all ours o.polled ≡ true → SameOn ours missed o.missed → Splits ours ps fs gs → Splits ours ((Left f, lift_open Left missed o) ∷ ps) ((f, o) ∷ fs) gs
  Right_open : (g : G) (o : Open D) (missed : ℕ → Bool) (ps : List (Either F G × Open (Either C D))) (fs : List (F × Open C)) (gs : List (G × Open D)) → IsMine (others ours) o.origin → list_all (others ours) o.polled ≡ true → SameOn (others ours) missed o.missed → Splits ours ps fs gs → Splits ours ((Right g, lift_open Right missed o) ∷ ps) fs ((g, o) ∷ gs)

-- chip and frames stand for both states
pub record UnionRelates {S T C D F G : Type 0} (ours : ℕ → Bool) (First : Chip → World → List (F × Open C) → S → Type 0) (Second : Chip → World → List (G × Open D) → T → Type 0) (chip : Chip) (w : World) (ps : List (Either F G × Open (Either C D))) (s : S × T) : Type 0 where
  pub firsts : List (F × Open C)
  pub seconds : List (G × Open D)
  pub splits : Splits ours ps firsts seconds
  pub first : First chip w firsts s.0
  pub second : Second chip w seconds s.1

-- ---- the drivers

-- what the member of a frame shows
abbrev pub UnionShows : {S T C D : Type 0} → (ℕ → Bool) → (Origin C → Notice → Chip → S → Type 0) → (Origin D → Notice → Chip → T → Type 0) → Origin (Either C D) → Notice → Chip → S × T → Type 0
UnionShows ours p q (Called (Left c)) n chip s = p (Called c) n chip s.0
UnionShows ours p q (Called (Right d)) n chip s = q (Called d) n chip s.1
UnionShows ours p q (Entered l) n chip s = MatchBool (ours l) (p (Entered l) n chip s.0) (q (Entered l) n chip s.1)

-- the lines that a driver has
abbrev pub has_handler : {S C F : Type 0} → Driver S C F → ℕ → Bool
has_handler d l = is_some (d.handler_of l)

-- What two drivers have to be so that they make one: apart in what they may do, in the lines that they poll and in their units, and the second never sets the rate.
pub record AreApart {S T C D F G : Type 0} (d : Driver S C F) (e : Driver T D G) : Type 0 where
  -- what a frame of the one may do is nothing that the other owns
  pub may : (p : Origin C) (q : Origin D) (made : Move) → d.setting.may p made ≡ true → e.owns q made ≡ false
  pub may_other : (p : Origin C) (q : Origin D) (made : Move) → e.setting.may q made ≡ true → d.owns p made ≡ false
  -- a call of the first polls lines that it handles, and one of the second none of those
  pub polls : (w : World) (s : S) (c : C) → list_all (has_handler d) (d.setting.machine.polls w s c) ≡ true
  pub polls_other : (w : World) (t : T) (c : D) → list_all (others (has_handler d)) (e.setting.machine.polls w t c) ≡ true
  -- the first allows no start and no abort that the second does
  pub starts : (w : World) (s : S) (t : T) (u : units.Unit) (by : Option C) (other : Option D) (r : ℕ) → IsSome (e.setting.machine.happens w t (Starts u other r)) → d.setting.machine.happens w s (Starts u by r) ≡ None
  pub aborts : (w : World) (s : S) (t : T) (u : units.Unit) → IsSome (e.setting.machine.happens w t (Aborts u)) → d.setting.machine.happens w s (Aborts u) ≡ None
  -- what the second may do leaves the rate
  pub steady : (chip : Chip) (q : Origin D) (made : Move) (received : ℕ) → e.setting.may q made ≡ true → (chip_after chip made received).clock.rate ≡ chip.clock.rate

-- the members' settings as one; ours tells the lines of the first
abbrev pub union_setting : {S T C D : Type 0} → (ℕ → Bool) → Setting S C → Setting T D → Setting (S × T) (Either C D)
union_setting ours g h = record {
  machine = union_machine ours g.machine h.machine;
  first = (g.first, h.first);
  class_of = either g.class_of h.class_of;
  level_of = λ l. cond (ours l) (g.level_of l) (h.level_of l);
  owner_of = λ l. cond (ours l) (g.owner_of l) (h.owner_of l);
  used = λ l. g.used l || h.used l;
  steps_of = by_origin ours g.steps_of h.steps_of;
  window_of = by_origin ours g.window_of h.window_of;
  may = by_origin ours g.may h.may;
  halves = either g.halves h.halves;
  must = either g.must h.must;
  fills = λ c. g.fills c || h.fills c;
  in_use = λ w s c. g.fills c && g.in_use w s.0 c || h.fills c && h.in_use w s.1 c;
  rest = λ chip w s. g.rest chip w s.0 × h.rest chip w s.1;
  unmasked = λ chip w s origins. g.unmasked chip w s.0 (first_origins ours origins) × h.unmasked chip w s.1 (second_origins ours origins);
  shows = UnionShows ours g.shows h.shows;
}

abbrev pub union_of : {S T C D F G : Type 0} → Driver S C F → Driver T D G → Driver (S × T) (Either C D) (Either F G)
union_of d e = record {
  fits = d.fits × e.fits × AreApart d e;
  can_call = EitherFits d.can_call e.can_call;
  setting = union_setting (has_handler d) d.setting e.setting;
  frame_of = λ c. either (λ x. Left (d.frame_of x)) (λ y. Right (e.frame_of y)) c;
  handler_of = λ l. either_handler (d.handler_of l) (e.handler_of l);
  wired = λ chip. d.wired chip × e.wired chip;
  relates = UnionRelates (has_handler d) d.relates e.relates;
  fuel = either d.fuel e.fuel;
  room = either d.room e.room;
  lines = λ l. d.lines l || e.lines l;
  watches = d.watches || e.watches;
  count = λ s. d.count s.0 + e.count s.1;
  owns = by_origin (has_handler d) d.owns e.owns;
}
