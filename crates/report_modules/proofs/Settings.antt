-- Two settings as one are the drivers' union, and a setting with channels and ports is the drivers' with their guest.
use mathlib.Core.Path.{fun_ext}
use Rattle.std.proofs.Common.{◌≡◌, ℕ, Bool, true, false, cond, refl, sym, ◌∙◌, ap, List, [], ◌∷◌, map}
use Rattle.std.specs.Prelude.{◌||◌, ◌&&◌, MatchBool}
use Rattle.chip_model.specs.Chip.{Chip}
use Rattle.chip_model.specs.declared.wiring.Wiring.{Wiring}
use Rattle.mcal_base.specs.declared.moves.Move.{Move}
use Rattle.mcal_base.specs.declared.notice.Notice.{Notice}
use Rattle.run_model.specs.Frame.{Origin, Called, Entered}
use Rattle.run_model.specs.Moment.{Setting}
use Rattle.step_runner.specs.Union as drivers
use Rattle.step_runner.specs.Union.{union_setting}
use Rattle.service_outline.specs.guests.Guest as guests
use Rattle.service_outline.specs.guests.Guest.{guest_setting}
use Rattle.dio_driver.specs.Guest.{dio}
use Rattle.module_machines.specs.dio.Machine.{HostPins}
use Rattle.module_machines.specs.declared.dio.call.Call.{Call}
use Rattle.module_machines.specs.declared.dio.table.DioTable.{DioTable}
use Rattle.audit_base.specs.declared.either.Either as ours
use Rattle.audit_base.specs.declared.either.Either.TheVariants as ones
use Rattle.audit_subject.specs.Hosting.{every}
use Rattle.audit_subject.specs.Product as checker
use Rattle.audit_subject.specs.Product.{joined, member_of}
use Rattle.audit_machines.specs.Hosting.{hosted_setting}
use Rattle.report_modules.specs.machines.Bench.{as_origin, IsOne}
use Rattle.report_modules.specs.machines.Calls.{kept, named}
use Rattle.report_modules.proofs.Guests.{is_guest}
use Rattle.report_modules.proofs.Products.{is_kept, is_union}
use Rattle.report_modules.proofs.Renaming.{origin_kept, origins_kept}

-- ---- a setting is itself

pub kept_one : {S C : Type 0} (g : Setting S C) → IsOne kept g g
kept_one g = record {
  machine = is_kept (member_of g);
  first = refl;
  class = λ c. refl;
  level = λ l. refl;
  owner = λ l. refl;
  steps = λ o. ap g.steps_of (sym (origin_kept o));
  window = λ o. ap g.window_of (sym (origin_kept o));
  may = λ o made. ap (λ p. g.may p made) (sym (origin_kept o));
  halves = λ c. refl;
  must = λ c. refl;
  fills = λ c. refl;
  in_use = λ w s c. refl;
  rest = λ chip w s. refl;
  unmasked = λ chip w s os. ap (g.unmasked chip w s) (sym (origins_kept os));
  shows = λ o n chip s. ap (λ p. g.shows p n chip s) (sym (origin_kept o));
}

-- ---- two as one

module _ {A B C D : Type 0} (f : A → C) (k : B → D) (firsts ours_are : ℕ → Bool) (lines : (l : ℕ) → firsts l ≡ ours_are l) where
  -- what the one of an origin says
  by_same : {Z : Type 0} (p : Origin A → Z) (q : Origin B → Z) (u : Origin C → Z) (v : Origin D → Z) → ((o : Origin A) → p o ≡ u (as_origin f o)) → ((o : Origin B) → q o ≡ v (as_origin k o)) → (o : Origin (ours.Either A B)) → checker.by_origin firsts p q o ≡ drivers.by_origin ours_are u v (as_origin (named f k) o)
  by_same p q u v one two (Called (ones.Left c)) = one (Called c)
  by_same p q u v one two (Called (ones.Right d)) = two (Called d)
  by_same p q u v one two (Entered l) = ap (λ b. cond b (p (Entered l)) (q (Entered l))) (lines l) ∙ (ap (λ x. cond (ours_are l) x (q (Entered l))) (one (Entered l)) ∙ ap (λ x. cond (ours_are l) (u (Entered l)) x) (two (Entered l)))

  -- the origins of the first, and of the second
  entered : {X Y : Type 0} (there : List X → List Y) (b c : Bool) (one other : List X) (theirs rest : List Y) → b ≡ c → there one ≡ theirs → there other ≡ rest → there (cond b one other) ≡ cond c theirs rest
  entered there b true one other theirs rest e here there_else = ap (λ x. there (cond x one other)) e ∙ here
  entered there b false one other theirs rest e here there_else = ap (λ x. there (cond x one other)) e ∙ there_else

  firsts_same : (os : List (Origin (ours.Either A B))) → map (as_origin f) (checker.first_origins firsts os) ≡ drivers.first_origins ours_are (map (as_origin (named f k)) os)
  firsts_same [] = refl
  firsts_same (Called (ones.Left c) ∷ os) = ap (λ ps. Called (f c) ∷ ps) (firsts_same os)
  firsts_same (Called (ones.Right d) ∷ os) = firsts_same os
  firsts_same (Entered l ∷ os) =
      entered (map (as_origin f)) (firsts l) (ours_are l) (Entered l ∷ checker.first_origins firsts os) (checker.first_origins firsts os) (Entered l ∷ drivers.first_origins ours_are (map (as_origin (named f k)) os)) (drivers.first_origins ours_are (map (as_origin (named f k)) os))
      (lines l) (ap (λ ps. Entered l ∷ ps) (firsts_same os)) (firsts_same os)

  seconds_same : (os : List (Origin (ours.Either A B))) → map (as_origin k) (checker.second_origins firsts os) ≡ drivers.second_origins ours_are (map (as_origin (named f k)) os)
  seconds_same [] = refl
  seconds_same (Called (ones.Left c) ∷ os) = seconds_same os
  seconds_same (Called (ones.Right d) ∷ os) = ap (λ ps. Called (k d) ∷ ps) (seconds_same os)
  seconds_same (Entered l ∷ os) =
      entered (map (as_origin k)) (firsts l) (ours_are l) (checker.second_origins firsts os) (Entered l ∷ checker.second_origins firsts os) (drivers.second_origins ours_are (map (as_origin (named f k)) os)) (Entered l ∷ drivers.second_origins ours_are (map (as_origin (named f k)) os))
      (lines l) (seconds_same os) (ap (λ ps. Entered l ∷ ps) (seconds_same os))

  -- what is shown at a notice
  shows_same : {S T : Type 0} (p : Origin A → Notice → Chip → S → Type 0) (q : Origin B → Notice → Chip → T → Type 0) (u : Origin C → Notice → Chip → S → Type 0) (v : Origin D → Notice → Chip → T → Type 0) → ((o : Origin A) (n : Notice) (chip : Chip) (s : S) → p o n chip s ≡ u (as_origin f o) n chip s) → ((o : Origin B) (n : Notice) (chip : Chip) (s : T) → q o n chip s ≡ v (as_origin k o) n chip s) → (o : Origin (ours.Either A B)) (n : Notice) (chip : Chip) (s : S × T) → checker.Shows firsts p q o n chip s ≡ drivers.UnionShows ours_are u v (as_origin (named f k) o) n chip s
  shows_same p q u v one two (Called (ones.Left c)) n chip s = one (Called c) n chip s.0
  shows_same p q u v one two (Called (ones.Right d)) n chip s = two (Called d) n chip s.1
  shows_same p q u v one two (Entered l) n chip s = ap (λ b. MatchBool b (p (Entered l) n chip s.0) (q (Entered l) n chip s.1)) (lines l) ∙ (ap (λ x. MatchBool (ours_are l) x (q (Entered l) n chip s.1)) (one (Entered l) n chip s.0) ∙ ap (λ x. MatchBool (ours_are l) (u (Entered l) n chip s.0) x) (two (Entered l) n chip s.1))

module _ {S T A B C D : Type 0} (f : A → C) (k : B → D) (g : Setting S A) (h : Setting T B) (x : Setting S C) (y : Setting T D) (one : IsOne f g x) (two : IsOne k h y) where
  either_class : (c : ours.Either A B) → (joined g h).class_of c ≡ (union_setting x.used x y).class_of (named f k c)
  either_class (ones.Left c) = one.class c
  either_class (ones.Right d) = two.class d

  either_halves : (c : ours.Either A B) → (joined g h).halves c ≡ (union_setting x.used x y).halves (named f k c)
  either_halves (ones.Left c) = one.halves c
  either_halves (ones.Right d) = two.halves d

  either_must : (c : ours.Either A B) → (joined g h).must c ≡ (union_setting x.used x y).must (named f k c)
  either_must (ones.Left c) = one.must c
  either_must (ones.Right d) = two.must d

  pub union_one : IsOne (named f k) (joined g h) (union_setting x.used x y)
  union_one = record {
    machine = is_union f k (member_of g) (member_of h) x.machine y.machine x.used y.used one.machine two.machine;
    first = λ i. (one.first i, two.first i);
    class = either_class;
    level = λ l. λ i. cond (one.machine.lines l i) (one.level l i) (two.level l i);
    owner = λ l. λ i. cond (one.machine.lines l i) (one.owner l i) (two.owner l i);
    steps = by_same f k g.used x.used one.machine.lines g.steps_of h.steps_of x.steps_of y.steps_of one.steps two.steps;
    window = by_same f k g.used x.used one.machine.lines g.window_of h.window_of x.window_of y.window_of one.window two.window;
    may = λ o made. ap (λ (may : Move → Bool). may made) (by_same f k g.used x.used one.machine.lines g.may h.may x.may y.may (λ p. fun_ext (λ m. one.may p m)) (λ p. fun_ext (λ m. two.may p m)) o);
    halves = either_halves;
    must = either_must;
    fills = λ c. λ i. one.fills c i || two.fills c i;
    in_use = λ w s c. λ i. one.fills c i && one.in_use w s.0 c i || two.fills c i && two.in_use w s.1 c i;
    rest = λ chip w s. λ i. one.rest chip w s.0 i × two.rest chip w s.1 i;
    unmasked = λ chip w s os. λ i. (one.unmasked chip w s.0 (checker.first_origins g.used os) ∙ ap (x.unmasked chip w s.0) (firsts_same f k g.used x.used one.machine.lines os)) i × (two.unmasked chip w s.1 (checker.second_origins g.used os) ∙ ap (y.unmasked chip w s.1) (seconds_same f k g.used x.used one.machine.lines os)) i;
    shows = shows_same f k g.used x.used one.machine.lines g.shows h.shows x.shows y.shows one.shows two.shows;
  }

-- ---- with channels and ports

module _ {S A C : Type 0} (f : A → C) (h : Setting S A) (x : Setting S C) (one : IsOne f h x) (pins : HostPins S) (d : DioTable) (wired : Wiring → Type 0) where
  guest_class : (c : ours.Either A Call) → (hosted_setting h pins d).class_of c ≡ (guest_setting x (dio d pins wired)).class_of (named f kept c)
  guest_class (ones.Left c) = one.class c
  guest_class (ones.Right c) = refl

  guest_halves : (c : ours.Either A Call) → (hosted_setting h pins d).halves c ≡ (guest_setting x (dio d pins wired)).halves (named f kept c)
  guest_halves (ones.Left c) = one.halves c
  guest_halves (ones.Right c) = refl

  guest_must : (c : ours.Either A Call) → (hosted_setting h pins d).must c ≡ (guest_setting x (dio d pins wired)).must (named f kept c)
  guest_must (ones.Left c) = one.must c
  guest_must (ones.Right c) = refl

  guest_shows : (o : Origin (ours.Either A Call)) (n : Notice) (chip : Chip) (s : S) → (hosted_setting h pins d).shows o n chip s ≡ (guest_setting x (dio d pins wired)).shows (as_origin (named f kept) o) n chip s
  guest_shows (Called (ones.Left c)) n chip s = one.shows (Called c) n chip s
  guest_shows (Called (ones.Right c)) n chip s = refl
  guest_shows (Entered l) n chip s = one.shows (Entered l) n chip s

  guest_steps : (o : Origin (ours.Either A Call)) → (hosted_setting h pins d).steps_of o ≡ (guest_setting x (dio d pins wired)).steps_of (as_origin (named f kept) o)
  guest_steps (Called (ones.Left c)) = one.steps (Called c)
  guest_steps (Called (ones.Right c)) = refl
  guest_steps (Entered l) = one.steps (Entered l)

  guest_window : (o : Origin (ours.Either A Call)) → (hosted_setting h pins d).window_of o ≡ (guest_setting x (dio d pins wired)).window_of (as_origin (named f kept) o)
  guest_window (Called (ones.Left c)) = one.window (Called c)
  guest_window (Called (ones.Right c)) = refl
  guest_window (Entered l) = one.window (Entered l)

  guest_may : (o : Origin (ours.Either A Call)) (made : Move) → (hosted_setting h pins d).may o made ≡ (guest_setting x (dio d pins wired)).may (as_origin (named f kept) o) made
  guest_may (Called (ones.Left c)) made = one.may (Called c) made
  guest_may (Called (ones.Right c)) made = refl
  guest_may (Entered l) made = one.may (Entered l) made

  pub guest_one : IsOne (named f kept) (hosted_setting h pins d) (guest_setting x (dio d pins wired))
  guest_one = record {
    machine = is_guest f (member_of h) x.machine x.used one.machine pins d wired;
    first = one.first;
    class = guest_class;
    level = one.level;
    owner = one.owner;
    steps = guest_steps;
    window = guest_window;
    may = guest_may;
    halves = guest_halves;
    must = guest_must;
    fills = one.fills;
    in_use = one.in_use;
    rest = one.rest;
    unmasked = λ chip w s os. one.unmasked chip w s (checker.first_origins every os) ∙ ap (x.unmasked chip w s) (firsts_same f kept every guests.every (λ l. refl) os);
    shows = guest_shows;
  }
