-- Drivers that are apart from each of two are apart from both as one, so that drivers are joined one after another.
use Rattle.std.proofs.Common.{◌≡◌, ℕ, Bool, true, false, cond, not, ◌&&◌, List, [], ◌∷◌, Option, Some, None, is_some, refl}
use Rattle.std.specs.Prelude.{IsSome}
use Rattle.std.specs.List.{list_all}
use Rattle.std.proofs.lemmas.Bool.{and_from}
use Rattle.mcal_base.specs.facts.Truths.{and_first, and_second}
use Rattle.mcal_base.specs.declared.moves.Move.{Move}
use Rattle.run_model.specs.World.{World}
use Rattle.run_model.specs.Machine.{Starts, Aborts, Outcome}
use Rattle.run_model.specs.Frame.{Origin, Called, Entered}
use Rattle.step_runner.specs.Driver.{Driver}
use Rattle.step_runner.specs.Union.{either_handler, by_origin, in_first, first_call, second_call, others, has_handler, AreApart, union_of}
use Rattle.step_runner.specs.declared.either.Either.{Either}
use Rattle.step_runner.specs.declared.either.Either.TheVariants.{Left, Right}

-- ---- what a member may do and owns

by-line : (b : Bool) (p q : Move → Bool) (made : Move) → p made ≡ false → q made ≡ false → cond b p q made ≡ false
by-line true p q made e f = e
by-line false p q made e f = f

-- what neither owns both as one don't own
pub owns-neither : {C D : Type 0} (ours : ℕ → Bool) (p : Origin C → Move → Bool) (q : Origin D → Move → Bool) (o : Origin (Either C D)) (made : Move) → ((x : Origin C) → p x made ≡ false) → ((y : Origin D) → q y made ≡ false) → by_origin ours p q o made ≡ false
owns-neither ours p q (Called (Left c)) made e f = e (Called c)
owns-neither ours p q (Called (Right d)) made e f = f (Called d)
owns-neither ours p q (Entered l) made e f = by-line (ours l) (p (Entered l)) (q (Entered l)) made (e (Entered l)) (f (Entered l))

line-may : {X : Type 0} (b : Bool) (p q : Move → Bool) (made : Move) → cond b p q made ≡ true → (p made ≡ true → X) → (q made ≡ true → X) → X
line-may true p q made h f g = f h
line-may false p q made h f g = g h

-- what both as one may do one of them may do
pub may-either : {C D X : Type 0} (ours : ℕ → Bool) (p : Origin C → Move → Bool) (q : Origin D → Move → Bool) (o : Origin (Either C D)) (made : Move) → by_origin ours p q o made ≡ true → ((x : Origin C) → p x made ≡ true → X) → ((y : Origin D) → q y made ≡ true → X) → X
may-either ours p q (Called (Left c)) made h f g = f (Called c) h
may-either ours p q (Called (Right d)) made h f g = g (Called d) h
may-either ours p q (Entered l) made h f g = line-may (ours l) (p (Entered l)) (q (Entered l)) made h (f (Entered l)) (g (Entered l))

-- ---- what a member allows

pub some-either : {S T X : Type 0} (s : S) (t : T) (x : Option (Outcome S)) (y : Option (Outcome T)) → IsSome (in_first s t x y) → (IsSome x → X) → (IsSome y → X) → X
some-either s t (Some a) y h f g = f refl
some-either s t None (Some b) h f g = g refl
some-either s t None None h f g = cc

none-neither : {S T : Type 0} (s : S) (t : T) (x : Option (Outcome S)) (y : Option (Outcome T)) → x ≡ None → y ≡ None → in_first s t x y ≡ None
none-neither s t x y e f = rw (e, f)

-- ---- lines

pub all-into : (p q : ℕ → Bool) (ls : List ℕ) → ((l : ℕ) → p l ≡ true → q l ≡ true) → list_all p ls ≡ true → list_all q ls ≡ true
all-into p q [] into h = refl
all-into p q (l ∷ ls) into h = and_from (q l) (list_all q ls) (into l (and_first (p l) (list_all p ls) h)) (all-into p q ls into (and_second (p l) (list_all p ls) h))

all-both : (p q r : ℕ → Bool) (ls : List ℕ) → ((l : ℕ) → p l ≡ true → q l ≡ true → r l ≡ true) → list_all p ls ≡ true → list_all q ls ≡ true → list_all r ls ≡ true
all-both p q r [] into h k = refl
all-both p q r (l ∷ ls) into h k = and_from (r l) (list_all r ls) (into l (and_first (p l) (list_all p ls) h) (and_first (q l) (list_all q ls) k)) (all-both p q r ls into (and_second (p l) (list_all p ls) h) (and_second (q l) (list_all q ls) k))

pub handler-first : {F G : Type 0} (x : Option F) (y : Option G) → is_some x ≡ true → is_some (either_handler x y) ≡ true
handler-first (Some f) y h = refl
handler-first None y h = cc

pub handler-second : {F G : Type 0} (x : Option F) (y : Option G) → is_some y ≡ true → is_some (either_handler x y) ≡ true
handler-second (Some f) y h = refl
handler-second None (Some g) h = refl
handler-second None None h = cc

handler-neither : {F G : Type 0} (x : Option F) (y : Option G) → not (is_some x) ≡ true → not (is_some y) ≡ true → not (is_some (either_handler x y)) ≡ true
handler-neither (Some f) y h k = cc
handler-neither None (Some g) h k = cc
handler-neither None None h k = refl

-- ---- apart

polled-second : {S T R C D E F G H : Type 0} (d : Driver S C F) (e : Driver T D G) (f : Driver R E H) → AreApart d e → AreApart d f → (w : World) (t : T) (r : R) (c : Either D E) → list_all (others (has_handler d)) ((union_of e f).setting.machine.polls w (t, r) c) ≡ true
polled-second d e f a b w t r (Left x) = a.polls_other w t x
polled-second d e f a b w t r (Right y) = b.polls_other w r y

polled-first : {S T R C D E F G H : Type 0} (d : Driver S C F) (e : Driver T D G) (f : Driver R E H) → AreApart d f → AreApart e f → (w : World) (s : S) (t : T) (c : Either C D) → list_all (has_handler (union_of d e)) ((union_of d e).setting.machine.polls w (s, t) c) ≡ true
polled-first d e f a b w s t (Left x) = all-into (has_handler d) (has_handler (union_of d e)) (d.setting.machine.polls w s x) (λ l h. handler-first (d.handler_of l) (e.handler_of l) h) (a.polls w s x)
polled-first d e f a b w s t (Right y) = all-into (has_handler e) (has_handler (union_of d e)) (e.setting.machine.polls w t y) (λ l h. handler-second (d.handler_of l) (e.handler_of l) h) (b.polls w t y)

-- a driver that is apart from each of two is apart from both as one
pub apart-second : {S T R C D E F G H : Type 0} (d : Driver S C F) (e : Driver T D G) (f : Driver R E H) → AreApart d e → AreApart d f → AreApart d (union_of e f)
apart-second d e f a b = record {
  may = λ p q made h. owns-neither (has_handler e) e.owns f.owns q made (λ x. a.may p x made h) (λ y. b.may p y made h);
  may_other = λ p q made h. may-either (has_handler e) e.setting.may f.setting.may q made h (λ x k. a.may_other p x made k) (λ y k. b.may_other p y made k);
  polls = a.polls;
  polls_other = λ w t c. polled-second d e f a b w t.0 t.1 c;
  starts = λ w s t u by q r some. some-either t.0 t.1 (e.setting.machine.happens w t.0 (Starts u (first_call q) r)) (f.setting.machine.happens w t.1 (Starts u (second_call q) r)) some (a.starts w s t.0 u by (first_call q) r) (b.starts w s t.1 u by (second_call q) r);
  aborts = λ w s t u some. some-either t.0 t.1 (e.setting.machine.happens w t.0 (Aborts u)) (f.setting.machine.happens w t.1 (Aborts u)) some (a.aborts w s t.0 u) (b.aborts w s t.1 u);
  steady = λ chip q made received h. may-either (has_handler e) e.setting.may f.setting.may q made h (λ x k. a.steady chip x made received k) (λ y k. b.steady chip y made received k);
}

-- drivers that are each apart from a third one are so as one
pub apart-first : {S T R C D E F G H : Type 0} (d : Driver S C F) (e : Driver T D G) (f : Driver R E H) → AreApart d f → AreApart e f → AreApart (union_of d e) f
apart-first d e f a b = record {
  may = λ p q made h. may-either (has_handler d) d.setting.may e.setting.may p made h (λ x k. a.may x q made k) (λ y k. b.may y q made k);
  may_other = λ p q made h. owns-neither (has_handler d) d.owns e.owns p made (λ x. a.may_other x q made h) (λ y. b.may_other y q made h);
  polls = λ w s c. polled-first d e f a b w s.0 s.1 c;
  polls_other = λ w t c. all-both (others (has_handler d)) (others (has_handler e)) (others (has_handler (union_of d e))) (f.setting.machine.polls w t c) (λ l x y. handler-neither (d.handler_of l) (e.handler_of l) x y) (a.polls_other w t c) (b.polls_other w t c);
  starts = λ w s t u by q r some. none-neither s.0 s.1 (d.setting.machine.happens w s.0 (Starts u (first_call by) r)) (e.setting.machine.happens w s.1 (Starts u (second_call by) r)) (a.starts w s.0 t u (first_call by) q r some) (b.starts w s.1 t u (second_call by) q r some);
  aborts = λ w s t u some. none-neither s.0 s.1 (d.setting.machine.happens w s.0 (Aborts u)) (e.setting.machine.happens w s.1 (Aborts u)) (a.aborts w s.0 t u some) (b.aborts w s.1 t u some);
  steady = a.steady;
}
