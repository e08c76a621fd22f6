-- The writes that calls owe: where they owe none all are made, and a write that was made stays made.
-- Used by driver_examples: held.ToyLaws, ShortServices.
use Rattle.std.proofs.Common.{◌≡◌, ℕ, Bool, true, false, ◌&&◌, ◌||◌, ◌∙◌, ap, List, [], ◌∷◌, Option, Some, None, refl, sym, subst}
use Rattle.std.specs.List.{list_any}
use Rattle.std.proofs.lemmas.Bool.{or_left, or_right}
use Rattle.mcal_base.specs.facts.Truths.{and_false}
use Rattle.mcal_base.specs.declared.error_name.ErrorName.{ErrorName}
use Rattle.mcal_base.specs.declared.moves.Move.{Move}
use Rattle.mcal_base.specs.declared.moves.Move.TheVariants.{Read, Write, Load, Store, Mask, Unmask, Note, Report}
use Rattle.mcal_base.specs.declared.answer.Answer.{Answer}
use Rattle.chip_model.specs.Chip.{value_of}
use Rattle.run_model.specs.World.{World, world_after}
use Rattle.run_model.specs.Machine.{Machine}
use Rattle.run_model.specs.Frame.{Origin, Called, Entered, writes_after}
use Rattle.run_model.specs.Legal.{has_line, LeavesNone, AllMade, MadeUnless}
use Rattle.service_outline.specs.declared.done.Done.{Done}
use Rattle.service_outline.specs.declared.done.Epilogue.{Epilogue}
use Rattle.service_outline.specs.declared.done.Epilogue.TheVariants.{Nothing, Error, One, Two}
use Rattle.service_outline.specs.Services.{Services, Leaves, WritesOn, MakesWrites, MakesStarts}

-- one of this kind was made, and is made by this write
pub made_on : (kind : Move → Bool) (writes : List Move) (next : Move) → list_any kind writes ≡ true → list_any kind (writes_after writes next) ≡ true
made_on kind writes (Write r v) h = or_right (kind (Write r v)) (list_any kind writes) h
made_on kind writes (Read r) h = h
made_on kind writes (Load k) h = h
made_on kind writes (Store k v) h = h
made_on kind writes Mask h = h
made_on kind writes Unmask h = h
made_on kind writes (Note n) h = h
made_on kind writes (Report e) h = h

pub made_here : (kind : Move → Bool) (writes : List Move) (made : Move) → kind made ≡ true → list_any kind (made ∷ writes) ≡ true
made_here kind writes made h = or_left (kind made) (list_any kind writes) h

-- ---- where none are owed

pub none_owed : (must : List (Move → Bool)) (writes : List Move) → must ≡ [] → AllMade must writes
none_owed must writes e = subst (λ kinds. AllMade kinds writes) (sym e) refl

pub none_unless : (e : Option ErrorName) (must : List (Move → Bool)) (writes : List Move) → must ≡ [] → MadeUnless e must writes
none_unless None must writes e = none_owed must writes e
none_unless (Some x) must writes e = tt

pub none_on : {State Call Asked Body : Type 0} (d : Services State Call Asked Body) (c : Call) (writes : List Move) (k : Body) (left : Option Done) → d.written k c writes → d.basis.setting.must c ≡ [] → WritesOn d c writes k left
none_on d c writes k None h e = h
none_on d c writes k (Some n) h e = none_owed (d.basis.setting.must c) writes e

pub no_duties : {State Call Asked Body : Type 0} (d : Services State Call Asked Body) {ends_with : Body → Option Answer} → ((k : Body) (c : Call) (writes : List Move) → d.written k c writes) → ((c : Call) → d.basis.setting.must c ≡ []) → MakesWrites d ends_with
no_duties d all none = record {
  begins = λ c x k can looks. all k c [];
  refuses = λ below chip w s c n told can represents looks is. none_unless told.error (d.basis.setting.must c) [] (none c);
  steps = λ below chip w s k c past writes at has. let p = d.bodies.takes k (value_of chip (d.bodies.work_of k)) in none_on d c (writes_after writes (d.bodies.work_of k)) p.0 p.1.done (all p.0 c (writes_after writes (d.bodies.work_of k))) (none c);
  stops = λ below chip w s k c past writes a at has ends. none_owed (d.basis.setting.must c) writes (none c);
}

-- ---- where no line is a unit's

none_left : {State Call : Type 0} (mac : Machine State Call) (w : World) (s : State) → ((l : ℕ) → mac.line_waits w s l ≡ false) → (origin : Origin Call) (polled served : List ℕ) → LeavesNone mac w s origin polled served
none_left mac w s none (Called c) [] served = refl
none_left mac w s none (Called c) (l ∷ ls) served = rw (ap (λ b. has_line served l && b) (none l) ∙ and_false (has_line served l)) (none_left mac w s none (Called c) ls served)
none_left mac w s none (Entered l) polled served = ap (λ b. has_line served l && b) (none l) ∙ and_false (has_line served l)

leaves_all : {State Call : Type 0} (mac : Machine State Call) → ((w : World) (s : State) (l : ℕ) → mac.line_waits w s l ≡ false) → (w : World) (s : State) (origin : Origin Call) (polled served : List ℕ) (owed : Epilogue) → Leaves mac w s origin polled served owed
leaves_all mac none w s origin polled served Nothing = none_left mac w s (none w s) origin polled served
leaves_all mac none w s origin polled served (Error e) = λ w1 s1. none_left mac w1 s1 (none w1 s1) origin polled served
leaves_all mac none w s origin polled served (One k) = λ w1 s1. none_left mac w1 s1 (none w1 s1) origin polled served
leaves_all mac none w s origin polled served (Two k j) = λ w1 s1. none_left mac w1 s1 (none w1 s1) origin polled served

pub no_units : {State Call Asked Body : Type 0} (d : Services State Call Asked Body) {ends_with : Body → Option Answer} → ((w : World) (s : State) (l : ℕ) → d.basis.setting.machine.line_waits w s l ≡ false) → MakesStarts d ends_with
no_units d none = record {
  later = λ w s order rate l e. none (world_after w rate order) (d.basis.later w s order) l;
  done = λ below chip w s k origin received past n at e. leaves_all d.basis.setting.machine none w _ origin _ _ n.owed;
  stops = λ below chip w s k origin past a at e. none_left d.basis.setting.machine w s (none w s) origin past.polled past.served;
}
