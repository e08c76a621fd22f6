-- The laws of two drivers as one, from those of the members.
use Rattle.std.proofs.Common.{◌≡◌, ℕ, ◌+◌, ◌<◌, ◌≤◌, min, nat_lt, nat_le, Bool, true, false, cond, not, ◌&&◌, ◌||◌, List, [], ◌∷◌, Option, Some, None, is_some, refl, sym, ◌∙◌, ap, subst, arith}
use Rattle.std.proofs.Math.Nat.{min-le_left, min-le_right, min-eq_left}
use Rattle.std.specs.Prelude.{IsSome, option_map}
use Rattle.std.specs.List.{list_any, list_all}
use Rattle.std.proofs.lemmas.Bool.{and_from, false_from_ne_true, not-true, or_from, or_left, or_parts, or_right}
use Rattle.mcal_base.specs.facts.Truths.{and_first, and_second}
use Rattle.mcal_base.specs.facts.Options.{some_same}
use Rattle.chip_model.specs.Chip.{Chip, value_of, chip_after, expiry_of, happened, reset_chip, is_masked, is_pending}
use Rattle.mcal_base.specs.Bits.{has_bit}
use Rattle.mcal_base.specs.Reach.{CanApply}
use Rattle.mcal_base.specs.declared.answer.Answer.{Answer}
use Rattle.mcal_base.specs.declared.directive.Order.{Order}
use Rattle.mcal_base.specs.declared.directive.Reason.{Reason}
use Rattle.mcal_base.specs.declared.moves.Move.{Move}
use Rattle.mcal_base.specs.declared.register.Reg.TheVariants.{EnableSet, WatchdogLoad}
use Rattle.mcal_base.specs.declared.moves.Move.TheVariants.{Read, Write, Load, Store, Mask, Unmask, Note, Report}
use Rattle.mcal_base.specs.declared.moves.Unit as units
use Rattle.mcal_base.specs.declared.notice.Notice.{Notice}
use Rattle.mcal_base.specs.declared.directive.Order.TheVariants as orders
use Rattle.mcal_base.specs.declared.routine.Taken.{Taken}
use Rattle.run_model.specs.declared.class.Tag.{Tag}
use Rattle.run_model.specs.World.{World, world_after}
use Rattle.run_model.specs.Machine.{Happening, Acts, Serves, Starts, Aborts, Moves, Restarts, Outcome, outcome, tells_nothing, ErrorLeaves}
use Rattle.run_model.specs.Frame.{Origin, Called, Entered, Open, opened, outcome_at, state_by, state_after, top_after, is_shared, is_wait}
use Rattle.run_model.specs.Causes.{may_reenter, blocks, none_above, all_below}
use Rattle.run_model.specs.Moment.{Setting, reads_from, call_tag, line_tag}
use Rattle.step_runner.specs.Driver.{Driver, most_steps, IsLawful, AllOutside, tags_in, origins_in, TicksFit, IsFree, ComesRight, KeepsStep, stepped}
use Rattle.step_runner.specs.Lifts.{LiesIn, lift-keeps, out-at, same-state}
use Rattle.step_runner.specs.Union.{sooner, either, EitherFits, either_left, either_gave, either_handler, lift_out, in_both, in_first, first_call, second_call, by_origin, lift_origin, lift_open, first_origins, second_origins, IsMine, SameOn, others, Splits, Nothing_open, Left_open, Right_open, UnionRelates, has_handler, AreApart, union_setting, union_of}
use Rattle.step_runner.specs.declared.either.Either.{Either}
use Rattle.step_runner.specs.declared.either.Either.TheVariants.{Left, Right}

-- ---- tests

-- what is shared, or what the one may do, isn't the other's
foreign : (shared x y : Bool) → (y ≡ true → shared ≡ false) → (x ≡ true → y ≡ false) → shared || x ≡ true → y ≡ false
foreign true x true plain apart h = let e = plain refl in cc
foreign false x true plain apart h = apart h
foreign shared x false plain apart h = refl

one-of : {X : Type 0} (a b : Bool) → a || b ≡ true → (a ≡ true → X) → (b ≡ true → X) → X
one-of true b e f g = f refl
one-of false b e f g = g e

free-first : (m a b u v x y : Bool) → m || ((a || b) && ((a && u || b && v) || (x || y))) ≡ false → m || (a && (u || x)) ≡ false
free-first true a b u v x y e = cc
free-first false false b u v x y e = refl
free-first false true b true v x y e = cc
free-first false true b false v x y e = (or_parts x y (or_parts (b && v) (x || y) e).1).0

free-second : (m a b u v x y : Bool) → m || ((a || b) && ((a && u || b && v) || (x || y))) ≡ false → m || (b && (v || y)) ≡ false
free-second true a b u v x y e = cc
free-second false a false u v x y e = refl
free-second false true true u v x y e = let k = or_parts (u || v) (x || y) e in rw ((or_parts u v k.0).1, (or_parts x y k.1).1) refl
free-second false false true u v x y e = let k = or_parts v (x || y) e in rw (k.0, (or_parts x y k.1).1) refl

or-onto : (r x y : Bool) → r || (x || y) ≡ (r || x) || y
or-onto true x y = refl
or-onto false x y = refl

or-into : (r x y : Bool) → r || (x || y) ≡ x || (r || y)
or-into true true y = refl
or-into true false y = refl
or-into false x y = refl

-- ticks within both times
ticks-split : (n : ℕ) (x y : Option ℕ) → TicksFit n (sooner x y) → TicksFit n x × TicksFit n y
ticks-split n None y h = (tt, h)
ticks-split n (Some a) None h = (h, tt)
ticks-split n (Some a) (Some b) h = let k = min-le_left a b in let l = min-le_right a b in (omega (arith, h, k), omega (arith, h, l))

either-true : (a b c d : Bool) → (a ≡ true → c ≡ true) → (b ≡ true → d ≡ true) → a || b ≡ true → c || d ≡ true
either-true true b c d f g h = or_left c d (f refl)
either-true false b c d f g h = or_right c d (g h)

-- by the member that has the line: x and y tell what is due
due-by : (b x y z : Bool) → cond b x y ≡ true → (x ≡ true → z ≡ true) → (y ≡ true → z ≡ true) → z ≡ true
due-by true x y z h f g = f h
due-by false x y z h f g = g h

-- the lines of the members are i and j, and a member has no line due that isn't used, which u and v tell
rests-by : (b u v i j x y z : Bool) → b ≡ u → (u ≡ true → i ≡ true) → (v ≡ true → j ≡ true) → (x ≡ true → u ≡ true) → (y ≡ true → v ≡ true) → (i ≡ true → z ≡ x) → (j ≡ true → z ≡ y) → i || j ≡ true → z ≡ cond b x y
rests-by true u v i j x y z e in_i in_j of_x of_y at_x at_y h = at_x (in_i (sym e))
rests-by false u v i true x y z e in_i in_j of_x of_y at_x at_y h = at_y refl
rests-by false u v true false x y z e in_i in_j of_x of_y at_x at_y h =
    let no_x : x ≡ false = false_from_ne_true x (λ k. let f = of_x k in cc) in
    let no_y : y ≡ false = false_from_ne_true y (λ k. let f = in_j (of_y k) in cc) in
    at_x refl ∙ (no_x ∙ sym no_y)
rests-by false u v false false x y z e in_i in_j of_x of_y at_x at_y h = cc

may-by : (b : Bool) (p q r s : Move → Bool) (made : Move) → cond b p q made ≡ true → (p made ≡ true → r made ≡ true) → (q made ≡ true → s made ≡ true) → cond b r s made ≡ true
may-by true p q r s made e f g = f e
may-by false p q r s made e f g = g e

owned-by : {X : Type 0} (b : Bool) (p q : Move → Bool) (made : Move) → cond b p q made ≡ true → (p made ≡ true → X) → (q made ≡ true → X) → X
owned-by true p q made e f g = f e
owned-by false p q made e f g = g e

min-same : (n : ℕ) → min n n ≡ n
min-same n = min-eq_left (omega arith)

-- the sooner of two times, of which each is this one or none
sooner-same : (x : Option ℕ) → sooner x x ≡ x
sooner-same None = refl
sooner-same (Some n) = ap Some (min-same n)

sooner-none : (x : Option ℕ) → sooner x None ≡ x
sooner-none None = refl
sooner-none (Some n) = refl

sooner-is : (a b : Bool) (t x y : Option ℕ) → a || b ≡ true → (a ≡ true → x ≡ t) → (a ≡ false → x ≡ None) → (b ≡ true → y ≡ t) → (b ≡ false → y ≡ None) → sooner x y ≡ t
sooner-is true true t x y has one none other lack = rw (one refl, other refl) (sooner-same t)
sooner-is true false t x y has one none other lack = rw (one refl, lack refl) (sooner-none t)
sooner-is false true t x y has one none other lack = rw (none refl, other refl) refl
sooner-is false false t x y has one none other lack = cc

-- ---- outcomes

first-some : {S T : Type 0} (s : S) (t : T) (x : Option (Outcome S)) (y : Option (Outcome T)) → IsSome x → in_first s t x y ≡ lift_out (λ a. (a, t)) x
first-some s t (Some x) y h = refl
first-some s t None y h = cc

first-none : {S T : Type 0} (s : S) (t : T) (x : Option (Outcome S)) (y : Option (Outcome T)) → x ≡ None → in_first s t x y ≡ lift_out (λ b. (s, b)) y
first-none s t x y e = ap (λ o. in_first s t o y) e

both-some : {S T : Type 0} (x : Option (Outcome S)) (y : Option (Outcome T)) (p : Outcome S) (q : Outcome T) → x ≡ Some p → y ≡ Some q → in_both x y ≡ Some (outcome (p.state, q.state) tells_nothing)
both-some x y p q e f = rw (e, f)

both-first : {S T : Type 0} (x : Option (Outcome S)) (y : Option (Outcome T)) (out : Outcome (S × T)) → in_both x y ≡ Some out → (p : Outcome S) × (x ≡ Some p) × (p.state ≡ out.state.0)
both-first None y out e = cc
both-first (Some p) None out e = cc
both-first (Some p) (Some q) out e = (p, refl, ap (λ o. o.state.0) (some_same e))

both-each : {S T : Type 0} (x : Option (Outcome S)) (y : Option (Outcome T)) (out : Outcome (S × T)) → in_both x y ≡ Some out → (p : Outcome S) × (q : Outcome T) × (x ≡ Some p) × (y ≡ Some q) × ((p.state, q.state) ≡ out.state)
both-each None y out e = cc
both-each (Some p) None out e = cc
both-each (Some p) (Some q) out e = (p, q, refl, refl, ap (λ o. o.state) (some_same e))

lift-each : {S U : Type 0} (put : S → U) (x : Option (Outcome S)) (out : Outcome U) → lift_out put x ≡ Some out → (p : Outcome S) × (x ≡ Some p) × (put p.state ≡ out.state)
lift-each put None out e = cc
lift-each put (Some p) out e = (p, refl, ap (λ o. o.state) (some_same e))

-- what leaves a member's state leaves that of both
leaves-lifted : {S U : Type 0} (put : S → U) (s : S) (x : Option (Outcome S)) (out : Outcome U) → ((p : Outcome S) → x ≡ Some p → ErrorLeaves s p) → lift_out put x ≡ Some out → ErrorLeaves (put s) out
leaves-lifted put s None out h e = absurd (cc)
leaves-lifted put s (Some p) out h e = subst (λ o. ErrorLeaves (put s) o) (some_same e) (λ some. let k = h p refl some in (ap put k.0, k.1))

-- ---- frames

handler-some : {F G : Type 0} (x : Option F) (y : Option G) → is_some (either_handler x y) ≡ is_some x || is_some y
handler-some (Some f) y = refl
handler-some None (Some g) = refl
handler-some None None = refl

fuel-by : {F G : Type 0} (fuel_f : F → ℕ) (fuel_g : G → ℕ) (x : Option F) (y : Option G) (u : Either F G) (m n : ℕ) → either_handler x y ≡ Some u → ((f : F) → x ≡ Some f → fuel_f f ≤ m) → ((g : G) → y ≡ Some g → fuel_g g ≤ n) → either fuel_f fuel_g u ≤ cond (is_some x) m n
fuel-by fuel_f fuel_g (Some f) y u m n e h k = subst (λ z. either fuel_f fuel_g z ≤ m) (some_same e) (h f refl)
fuel-by fuel_f fuel_g None (Some g) u m n e h k = subst (λ z. either fuel_f fuel_g z ≤ n) (some_same e) (k g refl)
fuel-by fuel_f fuel_g None None u m n e h k = cc

origin-left : {C D Z : Type 0} (ours : ℕ → Bool) (p : Origin C → Z) (q : Origin D → Z) (o : Origin C) → IsMine ours o → by_origin ours p q (lift_origin Left o) ≡ p o
origin-left ours p q (Called c) m = refl
origin-left ours p q (Entered l) m = rw m

origin-right : {C D Z : Type 0} (ours : ℕ → Bool) (p : Origin C → Z) (q : Origin D → Z) (o : Origin D) → IsMine (others ours) o → by_origin ours p q (lift_origin Right o) ≡ q o
origin-right ours p q (Called c) m = refl
origin-right ours p q (Entered l) m = let e = not-true (ours l) m in rw e

mine-same : {C : Type 0} (mine : ℕ → Bool) (p q : Origin C) → q ≡ p → IsMine mine p → IsMine mine q
mine-same mine p q e m = subst (λ o. IsMine mine o) (sym e) m

shared-rate : (chip : Chip) (made : Move) (received : ℕ) → is_shared made ≡ true → (chip_after chip made received).clock.rate ≡ chip.clock.rate
shared-rate chip Mask received e = refl
shared-rate chip Unmask received e = refl
shared-rate chip (Note n) received e = refl
shared-rate chip (Report x) received e = refl
shared-rate chip (Read r) received e = cc
shared-rate chip (Write r v) received e = cc
shared-rate chip (Load k) received e = cc
shared-rate chip (Store k v) received e = cc

steady-by : (chip : Chip) (made : Move) (received : ℕ) (shared x : Bool) → is_shared made ≡ shared → shared || x ≡ true → (x ≡ true → (chip_after chip made received).clock.rate ≡ chip.clock.rate) → (chip_after chip made received).clock.rate ≡ chip.clock.rate
steady-by chip made received true x is e h = shared-rate chip made received is
steady-by chip made received false x is e h = h e

first-left : {C D : Type 0} (ours : ℕ → Bool) (p : Origin C) (os : List (Origin (Either C D))) → IsMine ours p → first_origins ours (lift_origin Left p ∷ os) ≡ p ∷ first_origins ours os
first-left ours (Called c) os m = refl
first-left ours (Entered l) os m = rw m refl

first-right : {C D : Type 0} (ours : ℕ → Bool) (p : Origin D) (os : List (Origin (Either C D))) → IsMine (others ours) p → first_origins ours (lift_origin Right p ∷ os) ≡ first_origins ours os
first-right ours (Called c) os m = refl
first-right ours (Entered l) os m = let x = not-true (ours l) m in rw x refl

second-left : {C D : Type 0} (ours : ℕ → Bool) (p : Origin C) (os : List (Origin (Either C D))) → IsMine ours p → second_origins ours (lift_origin Left p ∷ os) ≡ second_origins ours os
second-left ours (Called c) os m = refl
second-left ours (Entered l) os m = rw m refl

second-right : {C D : Type 0} (ours : ℕ → Bool) (p : Origin D) (os : List (Origin (Either C D))) → IsMine (others ours) p → second_origins ours (lift_origin Right p ∷ os) ≡ p ∷ second_origins ours os
second-right ours (Called c) os m = refl
second-right ours (Entered l) os m = let x = not-true (ours l) m in rw x refl

module _ {C D F G : Type 0} (ours : ℕ → Bool) where
  pub outside-split : (ps : List (Either F G × Open (Either C D))) (fs : List (F × Open C)) (gs : List (G × Open D)) → Splits ours ps fs gs → AllOutside ps → AllOutside fs × AllOutside gs
  outside-split ps fs gs Nothing_open h = (tt, tt)
  outside-split ps fs gs (Left_open f o missed qs fs1 gs1 m all same sp) h = let k = outside-split qs fs1 gs1 sp h.1 in ((h.0, k.0), k.1)
  outside-split ps fs gs (Right_open g o missed qs fs1 gs1 m all same sp) h = let k = outside-split qs fs1 gs1 sp h.1 in (k.0, (h.0, k.1))

  -- what holds of all tags holds of a member's
  tags-split : (p : Tag → Bool) (ps : List (Either F G × Open (Either C D))) (fs : List (F × Open C)) (gs : List (G × Open D)) → Splits ours ps fs gs → list_all p (tags_in ps) ≡ true → (list_all p (tags_in fs) ≡ true) × (list_all p (tags_in gs) ≡ true)
  tags-split p ps fs gs Nothing_open h = (refl, refl)
  tags-split p ps fs gs (Left_open f o missed qs fs1 gs1 m all same sp) h =
      let k = tags-split p qs fs1 gs1 sp (and_second (p o.tag) (list_all p (tags_in qs)) h) in
      (and_from (p o.tag) (list_all p (tags_in fs1)) (and_first (p o.tag) (list_all p (tags_in qs)) h) k.0, k.1)
  tags-split p ps fs gs (Right_open g o missed qs fs1 gs1 m all same sp) h =
      let k = tags-split p qs fs1 gs1 sp (and_second (p o.tag) (list_all p (tags_in qs)) h) in
      (k.0, and_from (p o.tag) (list_all p (tags_in gs1)) (and_first (p o.tag) (list_all p (tags_in qs)) h) k.1)

  -- the origins of the members
  first-same : (ps : List (Either F G × Open (Either C D))) (fs : List (F × Open C)) (gs : List (G × Open D)) → Splits ours ps fs gs → first_origins ours (origins_in ps) ≡ origins_in fs
  first-same ps fs gs Nothing_open = refl
  first-same ps fs gs (Left_open f o missed qs fs1 gs1 m all same sp) = first-left ours o.origin (origins_in qs) m ∙ ap (λ x. o.origin ∷ x) (first-same qs fs1 gs1 sp)
  first-same ps fs gs (Right_open g o missed qs fs1 gs1 m all same sp) = first-right ours o.origin (origins_in qs) m ∙ first-same qs fs1 gs1 sp

  second-same : (ps : List (Either F G × Open (Either C D))) (fs : List (F × Open C)) (gs : List (G × Open D)) → Splits ours ps fs gs → second_origins ours (origins_in ps) ≡ origins_in gs
  second-same ps fs gs Nothing_open = refl
  second-same ps fs gs (Left_open f o missed qs fs1 gs1 m all same sp) = second-left ours o.origin (origins_in qs) m ∙ second-same qs fs1 gs1 sp
  second-same ps fs gs (Right_open g o missed qs fs1 gs1 m all same sp) = second-right ours o.origin (origins_in qs) m ∙ ap (λ x. o.origin ∷ x) (second-same qs fs1 gs1 sp)

  empty-split : (fs : List (F × Open C)) (gs : List (G × Open D)) → Splits ours [] fs gs → (fs ≡ []) × (gs ≡ [])
  empty-split fs gs Nothing_open = (refl, refl)

-- ---- the laws

module _ {S T C D F G : Type 0} (d : Driver S C F) (e : Driver T D G) (move_a : F → Move) (left_a : F → ℕ → F) (gave_a : F → ℕ → Taken) (move_b : G → Move) (left_b : G → ℕ → G) (gave_b : G → ℕ → Taken) (la : IsLawful d move_a left_a gave_a) (lb : IsLawful e move_b left_b gave_b) (apart : AreApart d e) where
  abbrev ours : ℕ → Bool
  ours = has_handler d

  abbrev URelates : Chip → World → List (Either F G × Open (Either C D)) → S × T → Type 0
  URelates = UnionRelates ours d.relates e.relates

  abbrev g : Setting (S × T) (Either C D)
  g = union_setting ours d.setting e.setting

  shows-left : (p : Origin C) (n : Notice) (chip : Chip) (s : S) (t : T) → IsMine ours p → d.setting.shows p n chip s → g.shows (lift_origin Left p) n chip (s, t)
  shows-left (Called c) n chip s t m h = h
  shows-left (Entered l) n chip s t m h = rw m h

  shows-right : (p : Origin D) (n : Notice) (chip : Chip) (s : S) (t : T) → IsMine (others ours) p → e.setting.shows p n chip t → g.shows (lift_origin Right p) n chip (s, t)
  shows-right (Called c) n chip s t m h = h
  shows-right (Entered l) n chip s t m h = let x = not-true (ours l) m in rw x h

  -- a start by a call of a member is the member's
  starts-left : (w : World) (s : S) (t : T) (u : units.Unit) (by : Option C) (r : ℕ) → IsSome (d.setting.machine.happens w s (Starts u by r)) → g.machine.happens w (s, t) (Starts u (option_map Left by) r) ≡ lift_out (λ a. (a, t)) (d.setting.machine.happens w s (Starts u by r))
  starts-left w s t u None r some = first-some s t (d.setting.machine.happens w s (Starts u None r)) (e.setting.machine.happens w t (Starts u None r)) some
  starts-left w s t u (Some c) r some = first-some s t (d.setting.machine.happens w s (Starts u (Some c) r)) (e.setting.machine.happens w t (Starts u None r)) some

  starts-right : (w : World) (s : S) (t : T) (u : units.Unit) (by : Option D) (r : ℕ) → IsSome (e.setting.machine.happens w t (Starts u by r)) → g.machine.happens w (s, t) (Starts u (option_map Right by) r) ≡ lift_out (λ b. (s, b)) (e.setting.machine.happens w t (Starts u by r))
  starts-right w s t u None r some = first-none s t (d.setting.machine.happens w s (Starts u None r)) (e.setting.machine.happens w t (Starts u None r)) (apart.starts w s t u None None r some)
  starts-right w s t u (Some c) r some = first-none s t (d.setting.machine.happens w s (Starts u None r)) (e.setting.machine.happens w t (Starts u (Some c) r)) (apart.starts w s t u None (Some c) r some)

  lies-left : (w : World) (s : S) (t : T) → LiesIn d.setting g (λ a. (a, t)) Left ours w s
  lies-left w s t = record {
    acts = λ c times. refl;
    serves = λ l r m. rw m;
    starts = λ u by r some. starts-left w s t u by r some;
    aborts = λ u some. first-some s t (d.setting.machine.happens w s (Aborts u)) (e.setting.machine.happens w t (Aborts u)) some;
    ready = λ l m. rw m;
    services = λ c. refl;
    reporting = λ c. refl;
    polls = λ c. refl;
    polled = λ c. apart.polls w s c;
    shows = λ p n chip m h. shows-left p n chip s t m h;
    halves = λ c. refl;
    must = λ c. refl;
    may = λ p made m. ap (λ f. f made) (origin-left ours d.setting.may e.setting.may p m);
    window = λ p m. origin-left ours d.setting.window_of e.setting.window_of p m;
  }

  lies-right : (w : World) (s : S) (t : T) → LiesIn e.setting g (λ b. (s, b)) Right (others ours) w t
  lies-right w s t = record {
    acts = λ c times. refl;
    serves = λ l r m. let x = not-true (ours l) m in rw x;
    starts = λ u by r some. starts-right w s t u by r some;
    aborts = λ u some. first-none s t (d.setting.machine.happens w s (Aborts u)) (e.setting.machine.happens w t (Aborts u)) (apart.aborts w s t u some);
    ready = λ l m. let x = not-true (ours l) m in rw x;
    services = λ c. refl;
    reporting = λ c. refl;
    polls = λ c. refl;
    polled = λ c. apart.polls_other w t c;
    shows = λ p n chip m h. shows-right p n chip s t m h;
    halves = λ c. refl;
    must = λ c. refl;
    may = λ p made m. ap (λ f. f made) (origin-right ours d.setting.may e.setting.may p m);
    window = λ p m. origin-right ours d.setting.window_of e.setting.window_of p m;
  }

  grow-left : (chip : Chip) (w : World) (f : F) (o : Open C) (missed : ℕ → Bool) (ended : Option Answer) (qs : List (Either F G × Open (Either C D))) (fs : List (F × Open C)) (gs : List (G × Open D)) (s : S) (t : T) → IsMine ours o.origin → list_all ours o.polled ≡ true → SameOn ours missed o.missed → Splits ours qs fs gs → d.relates chip w (top_after (f, o) ended fs) s → e.relates chip w gs t → URelates chip w (top_after (Left f, lift_open Left missed o) ended qs) (s, t)
  grow-left chip w f o missed None qs fs gs s t m all same sp a b = record { firsts = (f, o) ∷ fs; seconds = gs; splits = Left_open f o missed qs fs gs m all same sp; first = a; second = b }
  grow-left chip w f o missed (Some x) qs fs gs s t m all same sp a b = record { firsts = fs; seconds = gs; splits = sp; first = a; second = b }

  grow-right : (chip : Chip) (w : World) (y : G) (o : Open D) (missed : ℕ → Bool) (ended : Option Answer) (qs : List (Either F G × Open (Either C D))) (fs : List (F × Open C)) (gs : List (G × Open D)) (s : S) (t : T) → IsMine (others ours) o.origin → list_all (others ours) o.polled ≡ true → SameOn (others ours) missed o.missed → Splits ours qs fs gs → d.relates chip w fs s → e.relates chip w (top_after (y, o) ended gs) t → URelates chip w (top_after (Right y, lift_open Right missed o) ended qs) (s, t)
  grow-right chip w y o missed None qs fs gs s t m all same sp a b = record { firsts = fs; seconds = (y, o) ∷ gs; splits = Right_open y o missed qs fs gs m all same sp; first = a; second = b }
  grow-right chip w y o missed (Some x) qs fs gs s t m all same sp a b = record { firsts = fs; seconds = gs; splits = sp; first = a; second = b }

  -- a member's move is none of the other's
  not-second : (p : Origin C) (made : Move) → is_shared made || d.setting.may p made ≡ true → (q : Origin D) → e.owns q made ≡ false
  not-second p made h q = foreign (is_shared made) (d.setting.may p made) (e.owns q made) (lb.owns_plain q made) (apart.may p q made) h

  not-first : (q : Origin D) (made : Move) → is_shared made || e.setting.may q made ≡ true → (p : Origin C) → d.owns p made ≡ false
  not-first q made h p = foreign (is_shared made) (e.setting.may q made) (d.owns p made) (la.owns_plain p made) (apart.may_other p q made) h

  abbrev UKeeps : Chip → World → ℕ → Either F G → Open (Either C D) → List (Either F G × Open (Either C D)) → S × T → Type 0
  UKeeps chip w received u o ps s = let made = either move_a move_b u in let value = value_of chip made in let taken = either_gave gave_a gave_b u value in KeepsStep (union_of d e) (record { chip = chip; world = w; state = s; opens = []; steps = 0 }) u o (either_left left_a left_b u value) (stepped made value received taken) (λ s1 o1. URelates (chip_after chip made received) w (top_after (either_left left_a left_b u value, o1) taken.ended ps) s1)

  step-split : (chip : Chip) (w : World) (u : Either F G) (o : Open (Either C D)) (ps : List (Either F G × Open (Either C D))) (s : S) (t : T) (fs : List (F × Open C)) (gs : List (G × Open D)) → Splits ours ((u, o) ∷ ps) fs gs → is_masked chip ≡ o.inside → AllOutside ps → d.relates chip w fs s → e.relates chip w gs t → (received : ℕ) → ComesRight chip w (either move_a move_b u) received → d.count s < most_steps → e.count t < most_steps → UKeeps chip w received u o ps (s, t)
  step-split chip w u o ps s t fs gs (Left_open f o1 missed qs fs1 gs1 m all same sp) masked out x y received come few_a few_b =
      let made = move_a f in
      let value = value_of chip made in
      let taken = gave_a f value in
      let k = la.steps chip w f o1 fs1 s received come few_a masked (outside-split ours qs fs1 gs1 sp out).0 x in
      lift-keeps d (union_of d e) (λ a. (a, t)) Left (λ z. Left z) ours chip w s f (left_a f value) o1 missed (stepped made value received taken)
      (λ s1 o2. d.relates (chip_after chip made received) w (top_after (left_a f value, o2) taken.ended fs1) s1)
      (λ s1 o2. URelates (chip_after chip made received) w (top_after (Left (left_a f value), o2) taken.ended qs) s1)
      (lies-left w s t) (λ z. refl) (λ z. refl) m all same (λ s1 l i. rw i)
      (λ s1 o2 missed1 is all1 same1 kept. grow-left (chip_after chip made received) w (left_a f value) o2 missed1 taken.ended qs fs1 gs1 s1 t (mine-same ours o1.origin o2.origin is m) all1 same1 sp kept (lb.undisturbed chip w gs1 t made received (not-second o1.origin made k.own) (outside-split ours qs fs1 gs1 sp out).1 y))
      k
  step-split chip w u o ps s t fs gs (Right_open f o1 missed qs fs1 gs1 m all same sp) masked out x y received come few_a few_b =
      let made = move_b f in
      let value = value_of chip made in
      let taken = gave_b f value in
      let k = lb.steps chip w f o1 gs1 t received come few_b masked (outside-split ours qs fs1 gs1 sp out).1 y in
      lift-keeps e (union_of d e) (λ b. (s, b)) Right (λ z. Right z) (others ours) chip w t f (left_b f value) o1 missed (stepped made value received taken)
      (λ s1 o2. e.relates (chip_after chip made received) w (top_after (left_b f value, o2) taken.ended gs1) s1)
      (λ s1 o2. URelates (chip_after chip made received) w (top_after (Right (left_b f value), o2) taken.ended qs) s1)
      (lies-right w s t) (λ z. refl) (λ z. refl) m all same (λ s1 l i. let x = not-true (ours l) i in rw x)
      (λ s1 o2 missed1 is all1 same1 kept. grow-right (chip_after chip made received) w (left_b f value) o2 missed1 taken.ended qs fs1 gs1 s s1 (mine-same (others ours) o1.origin o2.origin is m) all1 same1 sp (la.undisturbed chip w fs1 s made received (not-first o1.origin made k.own) (outside-split ours qs fs1 gs1 sp out).0 x) kept)
      k

  there-split : (chip : Chip) (w : World) (u : Either F G) (o : Open (Either C D)) (ps : List (Either F G × Open (Either C D))) (s : S) (t : T) (fs : List (F × Open C)) (gs : List (G × Open D)) → Splits ours ((u, o) ∷ ps) fs gs → d.relates chip w fs s → e.relates chip w gs t → CanApply (either move_a move_b u)
  there-split chip w u o ps s t fs gs (Left_open f o1 missed qs fs1 gs1 m all same sp) x y = la.there chip w f o1 fs1 s x
  there-split chip w u o ps s t fs gs (Right_open f o1 missed qs fs1 gs1 m all same sp) x y = lb.there chip w f o1 gs1 t y

  own-split : (chip : Chip) (w : World) (u : Either F G) (o : Open (Either C D)) (ps : List (Either F G × Open (Either C D))) (s : S) (t : T) (fs : List (F × Open C)) (gs : List (G × Open D)) → Splits ours ((u, o) ∷ ps) fs gs → d.relates chip w fs s → e.relates chip w gs t → is_shared (either move_a move_b u) || g.may o.origin (either move_a move_b u) ≡ true
  own-split chip w u o ps s t fs gs (Left_open f o1 missed qs fs1 gs1 m all same sp) x y = subst (λ q. is_shared (move_a f) || q ≡ true) (sym (ap (λ h. h (move_a f)) (origin-left ours d.setting.may e.setting.may o1.origin m))) (la.own chip w f o1 fs1 s x)
  own-split chip w u o ps s t fs gs (Right_open f o1 missed qs fs1 gs1 m all same sp) x y = subst (λ q. is_shared (move_b f) || q ≡ true) (sym (ap (λ h. h (move_b f)) (origin-right ours d.setting.may e.setting.may o1.origin m))) (lb.own chip w f o1 gs1 t y)

  opens-split : (chip : Chip) (w : World) (u : Either F G) (o : Open (Either C D)) (ps : List (Either F G × Open (Either C D))) (s : S) (t : T) (fs : List (F × Open C)) (gs : List (G × Open D)) → Splits ours ((u, o) ∷ ps) fs gs → d.relates chip w fs s → e.relates chip w gs t → is_wait (either move_a move_b u) ≡ true → o.inside ≡ false
  opens-split chip w u o ps s t fs gs (Left_open f o1 missed qs fs1 gs1 m all same sp) x y waits = la.opens chip w f o1 fs1 s x waits
  opens-split chip w u o ps s t fs gs (Right_open f o1 missed qs fs1 gs1 m all same sp) x y waits = lb.opens chip w f o1 gs1 t y waits

  lasts-either : (u : Either F G) → 0 < either d.fuel e.fuel u
  lasts-either (Left f) = la.lasts f
  lasts-either (Right f) = lb.lasts f

  roomy-split : (chip : Chip) (w : World) (u : Either F G) (o : Open (Either C D)) (ps : List (Either F G × Open (Either C D))) (s : S) (t : T) (fs : List (F × Open C)) (gs : List (G × Open D)) → Splits ours ((u, o) ∷ ps) fs gs → d.relates chip w fs s → e.relates chip w gs t → o.inside ≡ true → 0 < either d.room e.room u
  roomy-split chip w u o ps s t fs gs (Left_open f o1 missed qs fs1 gs1 m all same sp) x y closed = la.roomy chip w f o1 fs1 s x closed
  roomy-split chip w u o ps s t fs gs (Right_open f o1 missed qs fs1 gs1 m all same sp) x y closed = lb.roomy chip w f o1 gs1 t y closed

  rate-split : (chip : Chip) (w : World) (u : Either F G) (o : Open (Either C D)) (ps : List (Either F G × Open (Either C D))) (s : S) (t : T) (fs : List (F × Open C)) (gs : List (G × Open D)) → Splits ours ((u, o) ∷ ps) fs gs → is_masked chip ≡ o.inside → AllOutside ps → d.relates chip w fs s → e.relates chip w gs t → (received : ℕ) → ComesRight chip w (either move_a move_b u) received → d.count s < most_steps → e.count t < most_steps → chip.clock.rate ≡ d.setting.machine.rate s → (chip_after chip (either move_a move_b u) received).clock.rate ≡ g.machine.rate (state_after g.machine w (s, t) o (either move_a move_b u) received (either_gave gave_a gave_b u (value_of chip (either move_a move_b u))).event)
  rate-split chip w u o ps s t fs gs (Left_open f o1 missed qs fs1 gs1 m all same sp) masked out x y received come few_a few_b is =
      let made = move_a f in
      let value = value_of chip made in
      let taken = gave_a f value in
      let st = stepped made value received taken in
      let in1 = (outside-split ours qs fs1 gs1 sp out).0 in
      let k = la.steps chip w f o1 fs1 s received come few_a masked in1 x in
      let same_out = out-at d.setting g (λ a. (a, t)) Left ours w s (lies-left w s t) o1 chip st taken.event m k.event in
      la.rate chip w f o1 fs1 s received come few_a masked in1 x is ∙ sym (ap (λ o. g.machine.rate (state_by (s, t) o)) same_out ∙ ap g.machine.rate (same-state (λ a. (a, t)) s (outcome_at d.setting.machine w s o1 made received taken.event)))
  rate-split chip w u o ps s t fs gs (Right_open f o1 missed qs fs1 gs1 m all same sp) masked out x y received come few_a few_b is =
      let made = move_b f in
      let value = value_of chip made in
      let taken = gave_b f value in
      let st = stepped made value received taken in
      let k = lb.steps chip w f o1 gs1 t received come few_b masked (outside-split ours qs fs1 gs1 sp out).1 y in
      let same_out = out-at e.setting g (λ b. (s, b)) Right (others ours) w t (lies-right w s t) o1 chip st taken.event m k.event in
      steady-by chip made received (is_shared made) (e.setting.may o1.origin made) refl k.own (apart.steady chip o1.origin made received) ∙ (is ∙ sym (ap (λ o. g.machine.rate (state_by (s, t) o)) same_out ∙ ap g.machine.rate (same-state (λ b. (s, b)) t (outcome_at e.setting.machine w t o1 made received taken.event))))

  u-begins : (chip : Chip) (w : World) (ps : List (Either F G × Open (Either C D))) (s : S × T) (c : Either C D) (level : ℕ) → EitherFits d.can_call e.can_call c → is_masked chip ≡ false → AllOutside ps → may_reenter (g.class_of c) (tags_in ps) ≡ true → none_above (tags_in ps) level ≡ true → URelates chip w ps s → URelates chip w ((either (λ x. Left (d.frame_of x)) (λ y. Right (e.frame_of y)) c, opened (Called c) (call_tag g c level)) ∷ ps) s
  u-begins chip w ps s (Left c) level can masked out enters above h =
      let tags = tags-split ours (λ x. not (blocks (d.setting.class_of c) x)) ps h.firsts h.seconds h.splits enters in
      let levels = tags-split ours (λ x. nat_le x.level level) ps h.firsts h.seconds h.splits above in
      let outs = outside-split ours ps h.firsts h.seconds h.splits out in
      record {
        firsts = (d.frame_of c, opened (Called c) (call_tag d.setting c level)) ∷ h.firsts;
        seconds = h.seconds;
        splits = Left_open (d.frame_of c) (opened (Called c) (call_tag d.setting c level)) (λ l. false) ps h.firsts h.seconds tt refl (λ l m. refl) h.splits;
        first = la.begins chip w h.firsts s.0 c level can masked outs.0 tags.0 levels.0 h.first;
        second = h.second;
      }
  u-begins chip w ps s (Right c) level can masked out enters above h =
      let tags = tags-split ours (λ x. not (blocks (e.setting.class_of c) x)) ps h.firsts h.seconds h.splits enters in
      let levels = tags-split ours (λ x. nat_le x.level level) ps h.firsts h.seconds h.splits above in
      let outs = outside-split ours ps h.firsts h.seconds h.splits out in
      record {
        firsts = h.firsts;
        seconds = (e.frame_of c, opened (Called c) (call_tag e.setting c level)) ∷ h.seconds;
        splits = Right_open (e.frame_of c) (opened (Called c) (call_tag e.setting c level)) (λ l. false) ps h.firsts h.seconds tt refl (λ l m. refl) h.splits;
        first = h.first;
        second = lb.begins chip w h.seconds s.1 c level can masked outs.1 tags.1 levels.1 h.second;
      }

  abbrev tag-by : Bool → ℕ → Tag
  tag-by b line = record { level = cond b (d.setting.level_of line) (e.setting.level_of line); owner = cond b (d.setting.owner_of line) (e.setting.owner_of line); class = None }

  u-enters : (chip : Chip) (w : World) (ps : List (Either F G × Open (Either C D))) (s : S × T) (line : ℕ) (u : Either F G) (x : Option F) (y : Option G) → d.handler_of line ≡ x → e.handler_of line ≡ y → either_handler x y ≡ Some u → is_masked chip ≡ false → is_pending chip line ≡ true → AllOutside ps → all_below (tags_in ps) (g.level_of line) ≡ true → URelates chip w ps s → URelates chip w ((u, opened (Entered line) (line_tag g line)) ∷ ps) s
  u-enters chip w ps s line u (Some f) y is_x is_y is masked pending out under h =
      let m : ours line ≡ true = ap is_some is_x in
      let level_is : g.level_of line ≡ d.setting.level_of line = rw m refl in
      let levels = tags-split ours (λ x. nat_lt x.level (d.setting.level_of line)) ps h.firsts h.seconds h.splits (subst (λ n. all_below (tags_in ps) n ≡ true) level_is under) in
      let outs = outside-split ours ps h.firsts h.seconds h.splits out in
      subst (λ z. URelates chip w ((z, opened (Entered line) (line_tag g line)) ∷ ps) s) (some_same is)
      (subst (λ b. URelates chip w ((Left f, opened (Entered line) (tag-by b line)) ∷ ps) s) (sym m)
      (record {
        firsts = (f, opened (Entered line) (line_tag d.setting line)) ∷ h.firsts;
        seconds = h.seconds;
        splits = Left_open f (opened (Entered line) (line_tag d.setting line)) (λ l. false) ps h.firsts h.seconds m refl (λ l k. refl) h.splits;
        first = la.enters chip w h.firsts s.0 line f is_x masked pending outs.0 levels.0 h.first;
        second = h.second;
      }))
  u-enters chip w ps s line u None (Some f) is_x is_y is masked pending out under h =
      let m : ours line ≡ false = ap is_some is_x in
      let level_is : g.level_of line ≡ e.setting.level_of line = rw m refl in
      let levels = tags-split ours (λ x. nat_lt x.level (e.setting.level_of line)) ps h.firsts h.seconds h.splits (subst (λ n. all_below (tags_in ps) n ≡ true) level_is under) in
      let outs = outside-split ours ps h.firsts h.seconds h.splits out in
      subst (λ z. URelates chip w ((z, opened (Entered line) (line_tag g line)) ∷ ps) s) (some_same is)
      (subst (λ b. URelates chip w ((Right f, opened (Entered line) (tag-by b line)) ∷ ps) s) (sym m)
      (record {
        firsts = h.firsts;
        seconds = (f, opened (Entered line) (line_tag e.setting line)) ∷ h.seconds;
        splits = Right_open f (opened (Entered line) (line_tag e.setting line)) (λ l. false) ps h.firsts h.seconds (ap not m) refl (λ l k. refl) h.splits;
        first = h.first;
        second = lb.enters chip w h.seconds s.1 line f is_y masked pending outs.1 levels.1 h.second;
      }))
  u-enters chip w ps s line u None None is_x is_y is masked pending out under h = cc

  reads-left : (c : ℕ) (p : Origin C) → reads_from g c (lift_origin Left p) ≡ reads_from d.setting c p
  reads-left c (Called x) = refl
  reads-left c (Entered l) = refl

  reads-right : (c : ℕ) (p : Origin D) → reads_from g c (lift_origin Right p) ≡ reads_from e.setting c p
  reads-right c (Called x) = refl
  reads-right c (Entered l) = refl

  -- a call under way that reads an array is a member's
  reads-split : (c : ℕ) (ps : List (Either F G × Open (Either C D))) (fs : List (F × Open C)) (gs : List (G × Open D)) → Splits ours ps fs gs → list_any (reads_from g c) (origins_in ps) ≡ (list_any (reads_from d.setting c) (origins_in fs) || list_any (reads_from e.setting c) (origins_in gs))
  reads-split c ps fs gs Nothing_open = refl
  reads-split c ps fs gs (Left_open f o missed qs fs1 gs1 m all same sp) =
      ap (λ r. r || list_any (reads_from g c) (origins_in qs)) (reads-left c o.origin)
      ∙ ap (λ r. reads_from d.setting c o.origin || r) (reads-split c qs fs1 gs1 sp)
      ∙ or-onto (reads_from d.setting c o.origin) (list_any (reads_from d.setting c) (origins_in fs1)) (list_any (reads_from e.setting c) (origins_in gs1))
  reads-split c ps fs gs (Right_open y o missed qs fs1 gs1 m all same sp) =
      ap (λ r. r || list_any (reads_from g c) (origins_in qs)) (reads-right c o.origin)
      ∙ ap (λ r. reads_from e.setting c o.origin || r) (reads-split c qs fs1 gs1 sp)
      ∙ or-into (reads_from e.setting c o.origin) (list_any (reads_from d.setting c) (origins_in fs1)) (list_any (reads_from e.setting c) (origins_in gs1))

  free-split : (masked : Bool) (w : World) (ps : List (Either F G × Open (Either C D))) (s : S) (t : T) (fs : List (F × Open C)) (gs : List (G × Open D)) (order : Order) → Splits ours ps fs gs → IsFree g masked w (s, t) (origins_in ps) order → IsFree d.setting masked w s (origins_in fs) order × IsFree e.setting masked w t (origins_in gs) order
  free-split masked w ps s t fs gs (orders.Fill c ws) sp h =
      let x = list_any (reads_from d.setting c) (origins_in fs) in
      let y = list_any (reads_from e.setting c) (origins_in gs) in
      let a = d.setting.fills c in
      let b = e.setting.fills c in
      let u = d.setting.in_use w s c in
      let v = e.setting.in_use w t c in
      let k = subst (λ r. masked || ((a || b) && ((a && u || b && v) || r)) ≡ false) (reads-split c ps fs gs sp) h.0 in
      ((free-first masked a b u v x y k, h.1), (free-second masked a b u v x y k, h.1))
  free-split masked w ps s t fs gs (orders.Tick n) sp h = ticks-split n (d.setting.machine.expires w s) (e.setting.machine.expires w t) h
  free-split masked w ps s t fs gs _ sp h = (tt, tt)

  u-moves : (chip : Chip) (w : World) (ps : List (Either F G × Open (Either C D))) (s : S × T) (order : Order) → IsFree g (is_masked chip) w s (origins_in ps) order → (is_masked chip ≡ false → AllOutside ps) → URelates chip w ps s → (out : Outcome (S × T)) × (g.machine.happens w s (Moves order) ≡ Some out) × URelates (happened chip order) (world_after w chip.clock.rate order) ps out.state
  u-moves chip w ps s order free out h =
      let frees = free-split (is_masked chip) w ps s.0 s.1 h.firsts h.seconds order h.splits free in
      let x = la.moves chip w h.firsts s.0 order frees.0 (λ e. (outside-split ours ps h.firsts h.seconds h.splits (out e)).0) h.first in
      let y = lb.moves chip w h.seconds s.1 order frees.1 (λ e. (outside-split ours ps h.firsts h.seconds h.splits (out e)).1) h.second in
      (outcome (x.0.state, y.0.state) tells_nothing, both-some (d.setting.machine.happens w s.0 (Moves order)) (e.setting.machine.happens w s.1 (Moves order)) x.0 y.0 x.1 y.1, record { firsts = h.firsts; seconds = h.seconds; splits = h.splits; first = x.2; second = y.2 })

  u-resets : (chip : Chip) (w : World) (ps : List (Either F G × Open (Either C D))) (s : S × T) (reason : Reason) → URelates chip w ps s → (out : Outcome (S × T)) × (g.machine.happens w s (Restarts reason) ≡ Some out) × URelates (reset_chip chip reason) w [] out.state
  u-resets chip w ps s reason h =
      let x = la.resets chip w h.firsts s.0 reason h.first in
      let y = lb.resets chip w h.seconds s.1 reason h.second in
      (outcome (x.0.state, y.0.state) tells_nothing, both-some (d.setting.machine.happens w s.0 (Restarts reason)) (e.setting.machine.happens w s.1 (Restarts reason)) x.0 y.0 x.1 y.1, record { firsts = []; seconds = []; splits = Nothing_open; first = x.2; second = y.2 })

  -- a move that is none of the union's is none of a member's
  none-first : (made : Move) → ((origin : Origin (Either C D)) → (union_of d e).owns origin made ≡ false) → (p : Origin C) → d.owns p made ≡ false
  none-first made none (Called c) = none (Called (Left c))
  none-first made none (Entered l) = false_from_ne_true (d.owns (Entered l) made) (λ h. let k = la.owns_called l made h in let f = none (Called (Left k.0)) in let t = k.1 in cc)

  none-second : (made : Move) → ((origin : Origin (Either C D)) → (union_of d e).owns origin made ≡ false) → (p : Origin D) → e.owns p made ≡ false
  none-second made none (Called c) = none (Called (Right c))
  none-second made none (Entered l) = false_from_ne_true (e.owns (Entered l) made) (λ h. let k = lb.owns_called l made h in let f = none (Called (Right k.0)) in let t = k.1 in cc)

  u-may : (origin : Origin (Either C D)) (made : Move) → g.may origin made ≡ true → (union_of d e).owns origin made ≡ true
  u-may (Called (Left c)) made h = la.may_owns (Called c) made h
  u-may (Called (Right c)) made h = lb.may_owns (Called c) made h
  u-may (Entered l) made h = may-by (ours l) (d.setting.may (Entered l)) (e.setting.may (Entered l)) (d.owns (Entered l)) (e.owns (Entered l)) made h (la.may_owns (Entered l) made) (lb.may_owns (Entered l) made)

  u-plain : (origin : Origin (Either C D)) (made : Move) → (union_of d e).owns origin made ≡ true → is_shared made ≡ false
  u-plain (Called (Left c)) made h = la.owns_plain (Called c) made h
  u-plain (Called (Right c)) made h = lb.owns_plain (Called c) made h
  u-plain (Entered l) made h = owned-by (ours l) (d.owns (Entered l)) (e.owns (Entered l)) made h (la.owns_plain (Entered l) made) (lb.owns_plain (Entered l) made)

  u-called : (line : ℕ) (made : Move) → (union_of d e).owns (Entered line) made ≡ true → (c : Either C D) × ((union_of d e).owns (Called c) made ≡ true)
  u-called line made h = owned-by (ours line) (d.owns (Entered line)) (e.owns (Entered line)) made h (λ k. let c = la.owns_called line made k in (Left c.0, c.1)) (λ k. let c = lb.owns_called line made k in (Right c.0, c.1))

  -- a line that is neither's no frame enables
  u-enables : (origin : Origin (Either C D)) (bits line : ℕ) → g.may origin (Write EnableSet bits) ≡ true → (union_of d e).lines line ≡ false → has_bit bits line ≡ false
  u-enables (Called (Left c)) bits line h out = la.enables (Called c) bits line h (or_parts (d.lines line) (e.lines line) out).0
  u-enables (Called (Right c)) bits line h out = lb.enables (Called c) bits line h (or_parts (d.lines line) (e.lines line) out).1
  u-enables (Entered l) bits line h out =
      let none = or_parts (d.lines line) (e.lines line) out in
      owned-by (ours l) (d.setting.may (Entered l)) (e.setting.may (Entered l)) (Write EnableSet bits) h (λ k. la.enables (Entered l) bits line k none.0) (λ k. lb.enables (Entered l) bits line k none.1)

  -- ---- the watchdog

  u-loads : (origin : Origin (Either C D)) (value : ℕ) → g.may origin (Write WatchdogLoad value) ≡ true → d.watches || e.watches ≡ true
  u-loads (Called (Left c)) value h = or_left d.watches e.watches (la.loads (Called c) value h)
  u-loads (Called (Right c)) value h = or_right d.watches e.watches (lb.loads (Called c) value h)
  u-loads (Entered l) value h = owned-by (ours l) (d.setting.may (Entered l)) (e.setting.may (Entered l)) (Write WatchdogLoad value) h (λ k. or_left d.watches e.watches (la.loads (Entered l) value k)) (λ k. or_right d.watches e.watches (lb.loads (Entered l) value k))

  u-expiry : (chip : Chip) (w : World) (ps : List (Either F G × Open (Either C D))) (s : S × T) → d.watches || e.watches ≡ true → chip.clock.osc ≡ w.osc → URelates chip w ps s → sooner (d.setting.machine.expires w s.0) (e.setting.machine.expires w s.1) ≡ expiry_of chip
  u-expiry chip w ps s has osc h = sooner-is d.watches e.watches (expiry_of chip) (d.setting.machine.expires w s.0) (e.setting.machine.expires w s.1) has
      (λ k. la.expiry chip w h.firsts s.0 k osc h.first) (λ k. la.unwatched w s.0 k) (λ k. lb.expiry chip w h.seconds s.1 k osc h.second) (λ k. lb.unwatched w s.1 k)

  u-unwatched : (w : World) (s : S × T) → d.watches || e.watches ≡ false → sooner (d.setting.machine.expires w s.0) (e.setting.machine.expires w s.1) ≡ None
  u-unwatched w s none = let k = or_parts d.watches e.watches none in rw (la.unwatched w s.0 k.0, lb.unwatched w s.1 k.1)

  u-call-fuel : (c : Either C D) → EitherFits d.can_call e.can_call c → either d.fuel e.fuel (either (λ x. Left (d.frame_of x)) (λ y. Right (e.frame_of y)) c) ≤ g.steps_of (Called c)
  u-call-fuel (Left c) can = la.call_fuel c can
  u-call-fuel (Right c) can = lb.call_fuel c can

  rests-at : (chip : Chip) (w : World) (s : S × T) (line : ℕ) (fs : List (F × Open C)) (gs : List (G × Open D)) → fs ≡ [] → gs ≡ [] → (union_of d e).lines line ≡ true → d.relates chip w fs s.0 → e.relates chip w gs s.1 → is_pending chip line ≡ g.machine.due w s line
  rests-at chip w s line fs gs no_fs no_gs there x y =
      let x1 = subst (λ z. d.relates chip w z s.0) no_fs x in
      let y1 = subst (λ z. e.relates chip w z s.1) no_gs y in
      rests-by (ours line) (d.setting.used line) (e.setting.used line) (d.lines line) (e.lines line) (d.setting.machine.due w s.0 line) (e.setting.machine.due w s.1 line) (is_pending chip line) (la.handled line)
      (la.used_lines line) (lb.used_lines line)
      (λ k. la.due_used chip w [] s.0 line tt x1 k) (λ k. lb.due_used chip w [] s.1 line tt y1 k)
      (λ k. la.rests chip w s.0 line k x1) (λ k. lb.rests chip w s.1 line k y1)
      there

  waits-at : (chip : Chip) (w : World) (s : S × T) (u : units.Unit) (fs : List (F × Open C)) (gs : List (G × Open D)) → fs ≡ [] → gs ≡ [] → d.relates chip w fs s.0 → e.relates chip w gs s.1 → g.machine.startable w s u ≡ false
  waits-at chip w s u fs gs no_fs no_gs x y = or_from (d.setting.machine.startable w s.0 u) (e.setting.machine.startable w s.1 u) (la.waits chip w s.0 u (subst (λ z. d.relates chip w z s.0) no_fs x)) (lb.waits chip w s.1 u (subst (λ z. e.relates chip w z s.1) no_gs y))

  u-lines : (line : ℕ) → g.used line ≡ true → (union_of d e).lines line ≡ true
  u-lines line h = either-true (d.setting.used line) (e.setting.used line) (d.lines line) (e.lines line) (la.used_lines line) (lb.used_lines line) h

  u-due-used : (chip : Chip) (w : World) (ps : List (Either F G × Open (Either C D))) (s : S × T) (line : ℕ) → AllOutside ps → URelates chip w ps s → g.machine.due w s line ≡ true → g.used line ≡ true
  u-due-used chip w ps s line out h due =
      let outs = outside-split ours ps h.firsts h.seconds h.splits out in
      due-by (ours line) (d.setting.machine.due w s.0 line) (e.setting.machine.due w s.1 line) (g.used line) due
      (λ k. or_left (d.setting.used line) (e.setting.used line) (la.due_used chip w h.firsts s.0 line outs.0 h.first k))
      (λ k. or_right (d.setting.used line) (e.setting.used line) (lb.due_used chip w h.seconds s.1 line outs.1 h.second k))

  u-due : (chip : Chip) (w : World) (ps : List (Either F G × Open (Either C D))) (s : S × T) (line : ℕ) → is_masked chip ≡ false → AllOutside ps → URelates chip w ps s → g.machine.due w s line ≡ true → is_pending chip line ≡ true
  u-due chip w ps s line masked out h due =
      let outs = outside-split ours ps h.firsts h.seconds h.splits out in
      due-by (ours line) (d.setting.machine.due w s.0 line) (e.setting.machine.due w s.1 line) (is_pending chip line) due
      (λ k. la.due chip w h.firsts s.0 line masked outs.0 h.first k)
      (λ k. lb.due chip w h.seconds s.1 line masked outs.1 h.second k)

  u-unused : (chip : Chip) (w : World) (ps : List (Either F G × Open (Either C D))) (s : S × T) (line : ℕ) → is_masked chip ≡ false → AllOutside ps → URelates chip w ps s → (union_of d e).lines line ≡ true → g.used line ≡ false → is_pending chip line ≡ false
  u-unused chip w ps s line masked out h there free =
      let outs = outside-split ours ps h.firsts h.seconds h.splits out in
      let none = or_parts (d.setting.used line) (e.setting.used line) free in
      one-of (d.lines line) (e.lines line) there
      (λ k. la.unused chip w h.firsts s.0 line masked outs.0 h.first k none.0)
      (λ k. lb.unused chip w h.seconds s.1 line masked outs.1 h.second k none.1)

  u-unmasked : (chip : Chip) (w : World) (ps : List (Either F G × Open (Either C D))) (s : S × T) → is_masked chip ≡ false → AllOutside ps → URelates chip w ps s → g.unmasked chip w s (origins_in ps)
  u-unmasked chip w ps s masked out h =
      let outs = outside-split ours ps h.firsts h.seconds h.splits out in (
        subst (λ os. d.setting.unmasked chip w s.0 os) (sym (first-same ours ps h.firsts h.seconds h.splits)) (la.unmasked chip w h.firsts s.0 masked outs.0 h.first),
        subst (λ os. e.setting.unmasked chip w s.1 os) (sym (second-same ours ps h.firsts h.seconds h.splits)) (lb.unmasked chip w h.seconds s.1 masked outs.1 h.second),
      )

  u-error-leaves : (w : World) (s : S × T) (c : Either C D) (times : ℕ → ℕ) (out : Outcome (S × T)) → g.machine.happens w s (Acts c times) ≡ Some out → ErrorLeaves s out
  u-error-leaves w s (Left c) times out is = leaves-lifted (λ a. (a, s.1)) s.0 (d.setting.machine.happens w s.0 (Acts c times)) out (λ p e. la.error_leaves w s.0 c times p e) is
  u-error-leaves w s (Right c) times out is = leaves-lifted (λ b. (s.0, b)) s.1 (e.setting.machine.happens w s.1 (Acts c times)) out (λ p e. lb.error_leaves w s.1 c times p e) is

  -- numbers that are given out

  abbrev both-count : S × T → ℕ
  both-count s = d.count s.0 + e.count s.1

  count-left : (w : World) (s : S × T) (h : Happening C) (out : Outcome (S × T)) → lift_out (λ a. (a, s.1)) (d.setting.machine.happens w s.0 h) ≡ Some out → both-count out.state ≤ both-count s + 1
  count-left w s h out is =
      let k = lift-each (λ a. (a, s.1)) (d.setting.machine.happens w s.0 h) out is in
      let more = la.count_happens w s.0 h k.0 k.1 in
      subst (λ x. both-count x ≤ both-count s + 1) k.2 (omega (arith, more))

  count-right : (w : World) (s : S × T) (h : Happening D) (out : Outcome (S × T)) → lift_out (λ b. (s.0, b)) (e.setting.machine.happens w s.1 h) ≡ Some out → both-count out.state ≤ both-count s + 1
  count-right w s h out is =
      let k = lift-each (λ b. (s.0, b)) (e.setting.machine.happens w s.1 h) out is in
      let more = lb.count_happens w s.1 h k.0 k.1 in
      subst (λ x. both-count x ≤ both-count s + 1) k.2 (omega (arith, more))

  count-line : (w : World) (s : S × T) (l r : ℕ) (out : Outcome (S × T)) (q : Bool) → cond q (lift_out (λ a. (a, s.1)) (d.setting.machine.happens w s.0 (Serves l r))) (lift_out (λ b. (s.0, b)) (e.setting.machine.happens w s.1 (Serves l r))) ≡ Some out → both-count out.state ≤ both-count s + 1
  count-line w s l r out true is = count-left w s (Serves l r) out is
  count-line w s l r out false is = count-right w s (Serves l r) out is

  count-unit : (w : World) (s : S × T) (h : Happening C) (h1 : Happening D) (out : Outcome (S × T)) (x : Option (Outcome S)) → d.setting.machine.happens w s.0 h ≡ x → in_first s.0 s.1 x (e.setting.machine.happens w s.1 h1) ≡ Some out → both-count out.state ≤ both-count s + 1
  count-unit w s h h1 out (Some p) at is = count-left w s h out (ap (lift_out (λ a. (a, s.1))) at ∙ is)
  count-unit w s h h1 out None at is = count-right w s h1 out is

  count-moves : (w : World) (s : S × T) (order : Order) (out : Outcome (S × T)) → g.machine.happens w s (Moves order) ≡ Some out → both-count out.state ≤ both-count s
  count-moves w s order out is =
      let k = both-each (d.setting.machine.happens w s.0 (Moves order)) (e.setting.machine.happens w s.1 (Moves order)) out is in
      let one = la.count_moves w s.0 order k.0 k.2 in
      let two = lb.count_moves w s.1 order k.1 k.3 in
      subst (λ x. both-count x ≤ both-count s) k.4 (omega (arith, one, two))

  count-resets : (w : World) (s : S × T) (reason : Reason) (out : Outcome (S × T)) → g.machine.happens w s (Restarts reason) ≡ Some out → both-count out.state ≤ both-count s
  count-resets w s reason out is =
      let k = both-each (d.setting.machine.happens w s.0 (Restarts reason)) (e.setting.machine.happens w s.1 (Restarts reason)) out is in
      let one = la.count_resets w s.0 reason k.0 k.2 in
      let two = lb.count_resets w s.1 reason k.1 k.3 in
      subst (λ x. both-count x ≤ both-count s) k.4 (omega (arith, one, two))

  count-happens : (w : World) (s : S × T) (h : Happening (Either C D)) (out : Outcome (S × T)) → g.machine.happens w s h ≡ Some out → both-count out.state ≤ both-count s + 1
  count-happens w s (Acts (Left c) times) out is = count-left w s (Acts c times) out is
  count-happens w s (Acts (Right c) times) out is = count-right w s (Acts c times) out is
  count-happens w s (Serves l r) out is = count-line w s l r out (ours l) is
  count-happens w s (Starts u by r) out is = count-unit w s (Starts u (first_call by) r) (Starts u (second_call by) r) out (d.setting.machine.happens w s.0 (Starts u (first_call by) r)) refl is
  count-happens w s (Aborts u) out is = count-unit w s (Aborts u) (Aborts u) out (d.setting.machine.happens w s.0 (Aborts u)) refl is
  count-happens w s (Moves order) out is = let k = count-moves w s order out is in omega (arith, k)
  count-happens w s (Restarts reason) out is = let k = count-resets w s reason out is in omega (arith, k)

  -- two lawful drivers that are apart are a lawful one
  pub union-lawful : IsLawful (union_of d e) (either move_a move_b) (either_left left_a left_b) (either_gave gave_a gave_b)
  union-lawful = record {
    starts = λ chip w wired outside. record { firsts = []; seconds = []; splits = Nothing_open; first = la.starts chip w wired.0 outside; second = lb.starts chip w wired.1 outside };
    begins = u-begins;
    enters = λ chip w ps s line f is masked pending out under h. u-enters chip w ps s line f (d.handler_of line) (e.handler_of line) refl refl is masked pending out under h;
    steps = λ chip w f o ps s received come few masked out h. step-split chip w f o ps s.0 s.1 h.firsts h.seconds h.splits masked out h.first h.second received come (omega (arith, few)) (omega (arith, few));
    there = λ chip w f o ps s h. there-split chip w f o ps s.0 s.1 h.firsts h.seconds h.splits h.first h.second;
    own = λ chip w f o ps s h. own-split chip w f o ps s.0 s.1 h.firsts h.seconds h.splits h.first h.second;
    opens = λ chip w f o ps s h. opens-split chip w f o ps s.0 s.1 h.firsts h.seconds h.splits h.first h.second;
    lasts = lasts-either;
    roomy = λ chip w f o ps s h. roomy-split chip w f o ps s.0 s.1 h.firsts h.seconds h.splits h.first h.second;
    moves = u-moves;
    resets = u-resets;
    undisturbed = λ chip w ps s made received none out h. record { firsts = h.firsts; seconds = h.seconds; splits = h.splits; first = la.undisturbed chip w h.firsts s.0 made received (none-first made none) (outside-split ours ps h.firsts h.seconds h.splits out).0 h.first; second = lb.undisturbed chip w h.seconds s.1 made received (none-second made none) (outside-split ours ps h.firsts h.seconds h.splits out).1 h.second };
    may_owns = u-may;
    owns_plain = u-plain;
    owns_called = u-called;
    enables = u-enables;
    used_lines = u-lines;
    due_used = u-due-used;
    due = λ chip w ps s line masked out h due. u-due chip w ps s line masked out h due;
    unused = u-unused;
    rests = λ chip w s line there h. let k = empty-split ours h.firsts h.seconds h.splits in rests-at chip w s line h.firsts h.seconds k.0 k.1 there h.first h.second;
    unmasked = λ chip w ps s masked out h. u-unmasked chip w ps s masked out h;
    rest = λ chip w s h. let k = empty-split ours h.firsts h.seconds h.splits in (la.rest chip w s.0 (subst (λ z. d.relates chip w z s.0) k.0 h.first), lb.rest chip w s.1 (subst (λ z. e.relates chip w z s.1) k.1 h.second));
    waits = λ chip w s u h. let k = empty-split ours h.firsts h.seconds h.splits in waits-at chip w s u h.firsts h.seconds k.0 k.1 h.first h.second;
    error_leaves = u-error-leaves;
    count_first = let one = la.count_first in let two = lb.count_first in omega (arith, one, two);
    count_happens = count-happens;
    count_moves = count-moves;
    count_resets = count-resets;
    rate_starts = la.rate_starts;
    rate = λ chip w f o ps s received come few masked out h is. rate-split chip w f o ps s.0 s.1 h.firsts h.seconds h.splits masked out h.first h.second received come (omega (arith, few)) (omega (arith, few)) is;
    rate_moves = λ w s order out is. let k = both-first (d.setting.machine.happens w s.0 (Moves order)) (e.setting.machine.happens w s.1 (Moves order)) out is in subst (λ x. d.setting.machine.rate x ≡ d.setting.machine.rate s.0) k.2 (la.rate_moves w s.0 order k.0 k.1);
    rate_resets = λ chip w s reason out is. let k = both-first (d.setting.machine.happens w s.0 (Restarts reason)) (e.setting.machine.happens w s.1 (Restarts reason)) out is in subst (λ x. (reset_chip chip reason).clock.rate ≡ d.setting.machine.rate x) k.2 (la.rate_resets chip w s.0 reason k.0 k.1);
    loads = u-loads;
    expiry = λ chip w ps s has osc h. u-expiry chip w ps s has osc h;
    unwatched = u-unwatched;
    handled = λ line. handler-some (d.handler_of line) (e.handler_of line) ∙ (ap (λ x. x || is_some (e.handler_of line)) (la.handled line) ∙ ap (λ x. d.setting.used line || x) (lb.handled line));
    call_fuel = u-call-fuel;
    line_fuel = λ line f is. fuel-by d.fuel e.fuel (d.handler_of line) (e.handler_of line) f (d.setting.steps_of (Entered line)) (e.setting.steps_of (Entered line)) is (λ x k. la.line_fuel line x k) (λ y k. lb.line_fuel line y k);
  }
