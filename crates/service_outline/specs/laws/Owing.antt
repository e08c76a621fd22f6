-- While moves are owed, the agreement after them stays what it was: each of them leaves one less, the hardware leaves it, and a
-- reset forgets it. So a basis with moves that are owed is a basis, and bodies owe nothing more at the places that owe moves.
-- From ShortServices, StepKinds, Ending.
-- Used by driver_examples: held.ToyLaws.
use Rattle.std.proofs.Common.{◌≡◌, ℕ, zero, suc, ◌+◌, ◌<◌, Bool, true, false, ◌||◌, List, [], Option, Some, None, refl, sym, ◌∙◌, ap, subst, arith}
use Rattle.chip_model.specs.Chip.{Chip, value_of, chip_after, expiry_of, happened, reset_chip, is_masked}
use Rattle.chip_model.proofs.HistoryLaws.{osc-move}
use Rattle.mcal_base.specs.declared.answer.Answer.{Answer}
use Rattle.mcal_base.specs.declared.directive.Order.{Order}
use Rattle.mcal_base.specs.declared.directive.Order.TheVariants.{Fill}
use Rattle.mcal_base.specs.declared.directive.Reason.{Reason}
use Rattle.mcal_base.specs.declared.directive.Reason.TheVariants.{PowerOn}
use Rattle.mcal_base.specs.declared.moves.Event.{Event}
use Rattle.mcal_base.specs.declared.moves.Move.{Move}
use Rattle.mcal_base.specs.declared.moves.Move.TheVariants.{Read, Write, Load, Store, Mask, Unmask, Note, Report}
use Rattle.run_model.specs.World.{World, world_after}
use Rattle.run_model.specs.Machine.{Restarts, Outcome}
use Rattle.run_model.specs.Moment.{Setting}
use Rattle.run_model.specs.Frame.{Origin, missed_after, is_shared, resets_chip, begins_word, inside_after}
use Rattle.step_runner.proofs.ChipFacts.{mask-after}
use Rattle.step_runner.specs.Driver.{IsFree, most_steps, ComesRight}
use Rattle.service_outline.specs.Acts.{Cleans, KeepsClean}
use Rattle.service_outline.specs.Fuel.{Shortens, ShortensTo}
use Rattle.service_outline.specs.DeferredWrites.{DeferredWrites, Either, CommitsTo, Work, Under, Owes, deferring_writes, is_fill, Likeness, AreOwed, Windows, or_owed, spot_or, windows, GoesOwing, GoesFree, AreWindows, AreFree}
use Rattle.service_outline.specs.FrameHistory.{FrameHistory, past_wrote}
use Rattle.service_outline.specs.Services.{ReservedBy, SharedRefinement, IsBasis, Rates, Steady, Agreed, MayCome, LongBodies, AssertedAt, AreEnding, Continues, Works, MakesTo, Adding, RightOr, KeepsMask, TurnsMask, TurnsTo, is_closed, holds_at, gap_at, place_at, with_holds, ended_at}
use Rattle.service_outline.specs.Short.{ended_by}
use Rattle.service_outline.specs.declared.done.BodyTaken.{BodyTaken}
use Rattle.service_outline.specs.declared.done.Done.{Done}
use Rattle.service_outline.specs.laws.Ending.{goes_right}
use Rattle.service_outline.specs.laws.ShortServices.{plain_makes, plain_turns}
use Rattle.service_outline.specs.laws.StepKinds.{or_true, silent_received}

-- a move of a register or a word leaves the mask
plain_inside : (b : Bool) (made : Move) → is_shared made ≡ false → inside_after b made ≡ b
plain_inside b (Read r) e = refl
plain_inside b (Write r v) e = refl
plain_inside b (Load k) e = refl
plain_inside b (Store k v) e = refl
plain_inside b Mask e = absurd (cc)
plain_inside b Unmask e = absurd (cc)
plain_inside b (Note n) e = absurd (cc)
plain_inside b (Report x) e = absurd (cc)

-- no array is filled while the mask is closed
pub not_filled : {State Call : Type 0} (g : Setting State Call) (w : World) (s : State) (frames : List (Origin Call)) (order : Order) → IsFree g true w s frames order → is_fill order ≡ false
not_filled g w s frames (Fill c ws) free = let e = free.0 in absurd (cc)
not_filled g w s frames _ free = refl

-- ---- the moves that are owed, on the chip

module _ {State Call Owed : Type 0} (g : SharedRefinement State Call) (p : DeferredWrites Owed) (alike : Likeness Owed) (law : AreOwed g p alike) where
  abbrev AfterOne : ℕ → Chip → (Chip → Type 0) → Option Owed → Type 0
  AfterOne n chip Done q = Either q (λ y. CommitsTo p n y chip Done) (Done chip)

  -- over alike chips they come to alike ones
  settles_alike : (Done : Chip → Type 0) → ((a b : Chip) → alike None a b → Done a → Done b) → (n : ℕ) (x : Owed) (a b : Chip) → alike (Some x) a b → CommitsTo p n x a Done → CommitsTo p n x b Done
  settles_alike Done keeps zero x a b same h = absurd h
  settles_alike Done keeps (suc n) x a b same h =
      let k = law.goes x a b h.0 h.1 same in
      (h.0, k.0, subst (AfterOne n (chip_after b (p.move x) 0) Done) (sym k.1) (by (settles_alike Done keeps n) (p.left x (value_of a (p.move x))) k.2 h.2))
    where
      by : ((y : Owed) (c e : Chip) → alike (Some y) c e → CommitsTo p n y c Done → CommitsTo p n y e Done) → (q : Option Owed) → alike q (chip_after a (p.move x) 0) (chip_after b (p.move x) 0) → AfterOne n (chip_after a (p.move x) 0) Done q → AfterOne n (chip_after b (p.move x) 0) Done q
      by more None s d = keeps (chip_after a (p.move x) 0) (chip_after b (p.move x) 0) s d
      by more (Some y) s d = more y (chip_after a (p.move x) 0) (chip_after b (p.move x) 0) s d

  -- they leave the mask and the rate
  pub record Kept (chip c : Chip) : Type 0 where
    pub mask : is_masked c ≡ is_masked chip
    pub rate : c.clock.rate ≡ chip.clock.rate

  kept_one : (chip : Chip) (made : Move) → p.own made ≡ true → Kept chip (chip_after chip made 0)
  kept_one chip made e = record { mask = mask-after chip made 0 ∙ plain_inside (is_masked chip) made (law.plain made e); rate = law.steady chip made e }

  -- the hardware moves before the next of them
  settles_later : (order : Order) → is_fill order ≡ false → (Done Done1 : Chip → Type 0) → ((a b : Chip) → alike None a b → Done1 a → Done1 b) → (n : ℕ) (x : Owed) (chip : Chip) → ((c : Chip) → Kept chip c → Done c → Done1 (happened c order)) → CommitsTo p n x chip Done → CommitsTo p n x (happened chip order) Done1
  settles_later order none Done Done1 keeps zero x chip then h = absurd h
  settles_later order none Done Done1 keeps (suc n) x chip then h =
      let later = chip_after chip (p.move x) 0 in
      let k = law.commutes x chip order h.0 h.1 none in
      let one = kept_one chip (p.move x) h.0 in
      let onward = λ (c : Chip) (i : Kept later c) (d : Done c). then c (record { mask = i.mask ∙ one.mask; rate = i.rate ∙ one.rate }) d in
      (h.0, law.stays x chip order h.0 h.1 none, subst (AfterOne n (chip_after (happened chip order) (p.move x) 0) Done1) (sym k.0) (by (λ y e. settles_later order none Done Done1 keeps n y later onward e) (then later one) (p.left x (value_of chip (p.move x))) k.1 h.2))
    where
      by : ((y : Owed) → CommitsTo p n y (chip_after chip (p.move x) 0) Done → CommitsTo p n y (happened (chip_after chip (p.move x) 0) order) Done1) → (Done (chip_after chip (p.move x) 0) → Done1 (happened (chip_after chip (p.move x) 0) order)) → (q : Option Owed)
          → alike q (happened (chip_after chip (p.move x) 0) order) (chip_after (happened chip order) (p.move x) 0) → AfterOne n (chip_after chip (p.move x) 0) Done q → AfterOne n (chip_after (happened chip order) (p.move x) 0) Done1 q
      by more last None s d = keeps (happened (chip_after chip (p.move x) 0) order) (chip_after (happened chip order) (p.move x) 0) s (last d)
      by more last (Some y) s d = settles_alike Done1 keeps n y (happened (chip_after chip (p.move x) 0) order) (chip_after (happened chip order) (p.move x) 0) s (more y d)

  -- a reset forgets them
  pub record Forgotten (reason : Reason) (chip : Chip) (Done : Chip → Type 0) : Type 0 where
    pub last : Chip
    pub same : reset_chip last reason ≡ reset_chip chip reason
    pub rate : last.clock.rate ≡ chip.clock.rate
    pub osc : last.clock.osc ≡ chip.clock.osc
    pub expiry : expiry_of last ≡ expiry_of chip
    pub done : Done last

  settles_reset : (reason : Reason) (Done : Chip → Type 0) (n : ℕ) (x : Owed) (chip : Chip) → CommitsTo p n x chip Done → Forgotten reason chip Done
  settles_reset reason Done zero x chip h = absurd h
  settles_reset reason Done (suc n) x chip h = by (settles_reset reason Done n) (p.left x (value_of chip (p.move x))) h.2
    where
      by : ((y : Owed) (c : Chip) → CommitsTo p n y c Done → Forgotten reason c Done) → (q : Option Owed) → AfterOne n (chip_after chip (p.move x) 0) Done q → Forgotten reason chip Done
      by more None d = record { last = chip_after chip (p.move x) 0; same = law.resets chip (p.move x) reason h.0; rate = law.steady chip (p.move x) h.0; osc = osc-move chip (p.move x) 0; expiry = law.unwound chip (p.move x) h.0; done = d }
      by more (Some y) d = let i = more y (chip_after chip (p.move x) 0) d in record { last = i.last; same = i.same ∙ law.resets chip (p.move x) reason h.0; rate = i.rate ∙ law.steady chip (p.move x) h.0; osc = i.osc ∙ osc-move chip (p.move x) 0; expiry = i.expiry ∙ law.unwound chip (p.move x) h.0; done = i.done }

  -- ---- the basis

  module _ (basis : IsBasis g) where
    owed_later : (held : List (ReservedBy Call g.Reservation)) (x : Owed) (chip : Chip) (w : World) (s : State) (order : Order) (m : Bool) → is_masked chip ≡ m → MayCome g.setting held chip w s order → (is_masked chip ≡ false → Owes x ≡ Under g.settled) → (deferring_writes g p).represents held (Owes x) chip w s → (deferring_writes g p).represents held (Owes x) (happened chip order) (world_after w chip.clock.rate order) (g.later w s order)
    owed_later held x chip w s order false e come shut h = let i = shut e in absurd (cc)
    owed_later held x chip w s order true e come shut h =
        let none = not_filled g.setting w s come.frames order (subst (λ m. IsFree g.setting m w s come.frames order) e come.free) in
        let come_at = λ (c : Chip) (k : Kept chip c). let i : MayCome g.setting held c w s order = record { frames = come.frames; free = subst (λ m. IsFree g.setting m w s come.frames order) (sym k.mask) come.free; among = come.among } in i in (
          h.0,
          settles_later order none (λ c. g.represents held g.settled c w s) (λ c. g.represents held g.settled c (world_after w chip.clock.rate order) (g.later w s order)) (λ a b same d. law.lasts held a b (world_after w chip.clock.rate order) (g.later w s order) same d) h.0 x chip
              (λ c k d. subst (λ r. g.represents held g.settled (happened c order) (world_after w r order) (g.later w s order)) k.rate (basis.agrees_later held g.settled c w s order (come_at c k) (λ e. refl) d)) h.1,
        )

    later_by : (held : List (ReservedBy Call g.Reservation)) (gap : Work g.Lag Owed) (chip : Chip) (w : World) (s : State) (order : Order) → MayCome g.setting held chip w s order → (is_masked chip ≡ false → gap ≡ Under g.settled) → (deferring_writes g p).represents held gap chip w s → (deferring_writes g p).represents held gap (happened chip order) (world_after w chip.clock.rate order) (g.later w s order)
    later_by held (Under gap) chip w s order come shut h = basis.agrees_later held gap chip w s order come (λ e. let i = shut e in cc) h
    later_by held (Owes x) chip w s order come shut h = owed_later held x chip w s order (is_masked chip) refl come shut h

    resets_by : (held : List (ReservedBy Call g.Reservation)) (gap : Work g.Lag Owed) (chip : Chip) (w : World) (s : State) (reason : Reason) → (deferring_writes g p).represents held gap chip w s → (out : Outcome State) × (g.setting.machine.happens w s (Restarts reason) ≡ Some out) × g.represents [] g.settled (reset_chip chip reason) w out.state
    resets_by held (Under gap) chip w s reason h = basis.resets held gap chip w s reason h
    resets_by held (Owes x) chip w s reason h =
        let i = settles_reset reason (λ c. g.represents held g.settled c w s) h.0 x chip h.1 in
        let out = basis.resets held g.settled i.last w s reason i.done in
        (out.0, out.1, subst (λ c. g.represents [] g.settled c w out.0.state) i.same out.2)

    rate_by : ((held : List (ReservedBy Call g.Reservation)) (gap : g.Lag) (chip : Chip) (w : World) (s : State) → g.represents held gap chip w s → chip.clock.rate ≡ g.setting.machine.rate s) → (held : List (ReservedBy Call g.Reservation)) (gap : Work g.Lag Owed) (chip : Chip) (w : World) (s : State) → (deferring_writes g p).represents held gap chip w s → chip.clock.rate ≡ g.setting.machine.rate s
    rate_by f held (Under gap) chip w s h = f held gap chip w s h
    rate_by f held (Owes x) chip w s h = let i = settles_reset PowerOn (λ c. g.represents held g.settled c w s) h.0 x chip h.1 in sym i.rate ∙ f held g.settled i.last w s i.done

    watched_by : (held : List (ReservedBy Call g.Reservation)) (gap : Work g.Lag Owed) (chip : Chip) (w : World) (s : State) → g.watches ≡ true → chip.clock.osc ≡ w.osc → (deferring_writes g p).represents held gap chip w s → g.setting.machine.expires w s ≡ expiry_of chip
    watched_by held (Under gap) chip w s has osc h = basis.watched held gap chip w s has osc h
    watched_by held (Owes x) chip w s has osc h = let i = settles_reset PowerOn (λ c. g.represents held g.settled c w s) h.0 x chip h.1 in basis.watched held g.settled i.last w s has (i.osc ∙ osc) i.done ∙ i.expiry

    rates_by : Rates g → Rates (deferring_writes g p)
    rates_by (Steady a b) = Steady a b
    rates_by (Agreed f) = Agreed (rate_by f)

    pub owing_basis : IsBasis (deferring_writes g p)
    owing_basis = record {
      starts = basis.starts;
      moves = basis.moves;
      resets = resets_by;
      agrees_later = later_by;
      agrees_apart = basis.agrees_apart;
      may_owns = basis.may_owns;
      owns_plain = basis.owns_plain;
      may_there = basis.may_there;
      enables = basis.enables;
      loads = basis.loads;
      watched = watched_by;
      unwatched = basis.unwatched;
      owns_called = basis.owns_called;
      used_lines = basis.used_lines;
      due_used = basis.due_used;
      pends = basis.pends;
      rests = basis.rests;
      unused = basis.unused;
      unmasked = basis.unmasked;
      rest = basis.rest;
      waits = basis.waits;
      error_leaves = basis.error_leaves;
      count_first = basis.count_first;
      count_happens = basis.count_happens;
      count_moves = basis.count_moves;
      count_resets = basis.count_resets;
      rated = rates_by basis.rated;
      rate_starts = basis.rate_starts;
      rate_moves = basis.rate_moves;
      rate_resets = basis.rate_resets;
    }

-- ---- bodies

open_free : {A : Type 0} (x : A) → Some x ≡ None → ⊥
open_free x e = absurd (cc)

quiet_works : {State Call Body : Type 0} (g : SharedRefinement State Call) (b : LongBodies g Body) (below : List (ReservedBy Call g.Reservation)) (before chip : Chip) (w : World) (s : State) (origin : Origin Call) (made : Move) (clean : Bool) (x y : ℕ) (past : FrameHistory) (missed : ℕ → Bool) (k : Body) (e : Option Event) (left : Option Done) → e ≡ None → Continues g b below chip w s origin (past_wrote w made past) missed k left → Works g b below before chip w s origin made clean x y past missed k e left
quiet_works g b below before chip w s origin made clean x y past missed k e left none h = subst (λ q. Works g b below before chip w s origin made clean x y past missed k q left) (sym none) h

none_ended : (q : Option Answer) (left : Option Done) → q ≡ None → ended_by q left ≡ None
none_ended None left e = refl
none_ended (Some a) left e = absurd (cc)

module _ {State Call Owed About Body : Type 0} (g : SharedRefinement State Call) (p : DeferredWrites Owed) (alike : Likeness Owed) (law : AreOwed g p alike) (v : Windows g Owed About Body p) (ends_with : Body → Option Answer) (wins : AreWindows v ends_with) where
  -- how a frame stands, by what its body owes
  abbrev StandsBy : List (ReservedBy Call g.Reservation) → Chip → World → State → Body → Origin Call → FrameHistory → Option Owed → Type 0
  StandsBy below chip w s k o t q = let x = spot_or v q (v.bodies.assertion k) in (deferring_writes g p).represents (with_holds o t.acted (holds_at x) below) (gap_at x) chip w s × place_at x below (g.foot chip) w s o t

  module _ (below : List (ReservedBy Call g.Reservation)) (chip : Chip) (w : World) (s : State) (k : Body) (o : Origin Call) (t : FrameHistory) (x : Owed) (owes : v.owes k ≡ Some x) (h : AssertedAt (deferring_writes g p) (windows v) below chip w s k o t) where
    owed : StandsBy below chip w s k o t (Some x)
    owed = subst (StandsBy below chip w s k o t) owes h

    abbrev Agreed_on : Chip → Type 0
    Agreed_on c = g.represents (with_holds o t.acted (v.hold (v.about x)) below) g.settled c w s

    is_own : (n : ℕ) → CommitsTo p n x chip Agreed_on → p.own (p.move x) ≡ true
    is_own zero i = absurd i
    is_own (suc n) i = i.0

    named : p.own (p.move x) ≡ true
    named = is_own owed.0.0 owed.0.1

    made : v.bodies.work_of k ≡ p.move x
    made = wins.makes k x owes

    owed_own : is_shared (v.bodies.work_of k) || g.setting.may o (v.bodies.work_of k) ≡ true
    owed_own = subst (λ m. is_shared m || g.setting.may o m ≡ true) (sym made) (or_true (is_shared (p.move x)) (wins.may (v.about x) below o t (p.move x) owed.1 named))

    owed_calm : (resets_chip (v.bodies.work_of k) ≡ false) × (begins_word (v.bodies.work_of k) ≡ false)
    owed_calm = subst (λ m. (resets_chip m ≡ false) × (begins_word m ≡ false)) (sym made) (law.calm (p.move x) named)

  -- one of them leaves fewer
  abbrev fuel_by : Option Owed → Body → ℕ
  fuel_by q k = or_owed (λ x. 1 + (p.more x + v.steps_after (v.about x))) q (v.bodies.fuel k)

  abbrev room_by : Option Owed → Body → ℕ
  room_by q k = or_owed (λ x. 1 + (p.more x + v.room_after (v.about x))) q (v.bodies.room k)

  abbrev clean_by : Option Owed → Body → Bool
  clean_by q k = or_owed (λ x. false) q (v.bodies.clean k)

  free_shorter : (x : Owed) (k : Body) (left : Option Done) → GoesFree v (v.about x) k left → ShortensTo (fuel_by (Some x) k) (fuel_by (v.owes k) k) left
  free_shorter x k None i = subst (λ q. fuel_by q k < fuel_by (Some x) k) (sym i.0) (let le = i.3 in omega (arith, le))
  free_shorter x k (Some n) i = omega arith

  free_keeps : (x : Owed) (k : Body) (left : Option Done) → GoesFree v (v.about x) k left → KeepsMask true (is_closed (spot_or v (v.owes k) (v.bodies.assertion k))) (room_by (Some x) k) (room_by (v.owes k) k) None left
  free_keeps x k None i = (subst (λ q. is_closed (spot_or v q (v.bodies.assertion k)) ≡ true) (sym i.0) i.1, subst (λ q. room_by q k < room_by (Some x) k) (sym i.0) (let le = i.4 in omega (arith, le)))
  free_keeps x k (Some n) i = omega arith

  free_clean : (x : Owed) (made : Move) (k : Body) (left : Option Done) → GoesFree v (v.about x) k left → KeepsClean false made (clean_by (v.owes k) k) left
  free_clean x made k None i = λ e. let no : clean_by (v.owes k) k ≡ false = subst (λ q. clean_by q k ≡ false) (sym i.0) i.2 in absurd (cc)
  free_clean x made k (Some n) i = tt

  owing_shorter : (x y : Owed) (value : ℕ) (k : Body) (taken : BodyTaken) → p.left x value ≡ Some y → GoesOwing v x y (k, taken) → ShortensTo (1 + (p.more x + v.steps_after (v.about x))) (fuel_by (v.owes k) k) taken.done
  owing_shorter x y value k taken e i = subst (λ (b : BodyTaken). ShortensTo (1 + (p.more x + v.steps_after (v.about x))) (fuel_by (v.owes k) k) b.done) (sym i.1) (subst (λ q. fuel_by q k < 1 + (p.more x + v.steps_after (v.about x))) (sym i.0) (subst (λ a. 1 + (p.more y + v.steps_after a) < 1 + (p.more x + v.steps_after (v.about x))) (sym i.2) (let lt = law.shorter x y value e in omega (arith, lt))))

  owing_room : (x y : Owed) (value : ℕ) (k : Body) → p.left x value ≡ Some y → v.owes k ≡ Some y → v.about y ≡ v.about x → room_by (v.owes k) k < 1 + (p.more x + v.room_after (v.about x))
  owing_room x y value k e owes same = subst (λ q. room_by q k < 1 + (p.more x + v.room_after (v.about x))) (sym owes) (subst (λ a. 1 + (p.more y + v.room_after a) < 1 + (p.more x + v.room_after (v.about x))) (sym same) (let lt = law.shorter x y value e in omega (arith, lt)))

  abbrev ClosedAt : Body → Type 0
  ClosedAt k = is_closed (spot_or v (v.owes k) (v.bodies.assertion k)) ≡ true

  owing_keeps : (x y : Owed) (value : ℕ) (k : Body) (taken : BodyTaken) → p.left x value ≡ Some y → GoesOwing v x y (k, taken) → KeepsMask true (is_closed (spot_or v (v.owes k) (v.bodies.assertion k))) (1 + (p.more x + v.room_after (v.about x))) (room_by (v.owes k) k) taken.event taken.done
  owing_keeps x y value k taken e i =
      let closed : ClosedAt k = subst (λ q. is_closed (spot_or v q (v.bodies.assertion k)) ≡ true) (sym i.0) refl in
      subst (λ (b : BodyTaken). KeepsMask true (is_closed (spot_or v (v.owes k) (v.bodies.assertion k))) (1 + (p.more x + v.room_after (v.about x))) (room_by (v.owes k) k) b.event b.done) (sym i.1) (closed, owing_room x y value k e i.0 i.2)

  owing_clean : (x y : Owed) (made : Move) (k : Body) (taken : BodyTaken) → GoesOwing v x y (k, taken) → KeepsClean false made (clean_by (v.owes k) k) taken.done
  owing_clean x y made k taken i = subst (λ (b : BodyTaken). KeepsClean false made (clean_by (v.owes k) k) b.done) (sym i.1) (λ e. let no : clean_by (v.owes k) k ≡ false = subst (λ q. clean_by q k ≡ false) (sym i.0) refl in absurd (cc))

  -- what the move gave tells which is next
  after_shorter : (k : Body) (x : Owed) (value : ℕ) → v.owes k ≡ Some x → let t = v.bodies.takes k value in ShortensTo (fuel_by (Some x) k) (fuel_by (v.owes t.0) t.0) t.1.done
  after_shorter k x value owes = let t = v.bodies.takes k value in by t.0 t.1 (p.left x value) refl (λ y e. wins.on k x y value owes e) (λ e. (wins.over k x value owes e).1)
    where
      by : (k1 : Body) (taken : BodyTaken) (q : Option Owed) → p.left x value ≡ q → ((y : Owed) → p.left x value ≡ Some y → GoesOwing v x y (k1, taken)) → (p.left x value ≡ None → GoesFree v (v.about x) k1 taken.done) → ShortensTo (fuel_by (Some x) k) (fuel_by (v.owes k1) k1) taken.done
      by k1 taken None e on over = free_shorter x k1 taken.done (over e)
      by k1 taken (Some y) e on over = owing_shorter x y value k1 taken e (on y e)

  after_keeps : (k : Body) (x : Owed) (value : ℕ) → v.owes k ≡ Some x → let t = v.bodies.takes k value in KeepsMask true (is_closed (spot_or v (v.owes t.0) (v.bodies.assertion t.0))) (room_by (Some x) k) (room_by (v.owes t.0) t.0) t.1.event t.1.done
  after_keeps k x value owes = let t = v.bodies.takes k value in by t.0 t.1 (p.left x value) refl (λ y e. wins.on k x y value owes e) (λ e. wins.over k x value owes e)
    where
      by : (k1 : Body) (taken : BodyTaken) (q : Option Owed) → p.left x value ≡ q → ((y : Owed) → p.left x value ≡ Some y → GoesOwing v x y (k1, taken)) → (p.left x value ≡ None → (taken.event ≡ None) × GoesFree v (v.about x) k1 taken.done) → KeepsMask true (is_closed (spot_or v (v.owes k1) (v.bodies.assertion k1))) (room_by (Some x) k) (room_by (v.owes k1) k1) taken.event taken.done
      by k1 taken None e on over = let i = over e in subst (λ a. KeepsMask true (is_closed (spot_or v (v.owes k1) (v.bodies.assertion k1))) (room_by (Some x) k) (room_by (v.owes k1) k1) a taken.done) (sym i.0) (free_keeps x k1 taken.done i.1)
      by k1 taken (Some y) e on over = owing_keeps x y value k1 taken e (on y e)

  after_clean : (k : Body) (x : Owed) (value : ℕ) (made : Move) → v.owes k ≡ Some x → let t = v.bodies.takes k value in KeepsClean false made (clean_by (v.owes t.0) t.0) t.1.done
  after_clean k x value made owes = let t = v.bodies.takes k value in by t.0 t.1 (p.left x value) refl (λ y e. wins.on k x y value owes e) (λ e. (wins.over k x value owes e).1)
    where
      by : (k1 : Body) (taken : BodyTaken) (q : Option Owed) → p.left x value ≡ q → ((y : Owed) → p.left x value ≡ Some y → GoesOwing v x y (k1, taken)) → (p.left x value ≡ None → GoesFree v (v.about x) k1 taken.done) → KeepsClean false made (clean_by (v.owes k1) k1) taken.done
      by k1 taken None e on over = free_clean x made k1 taken.done (over e)
      by k1 taken (Some y) e on over = owing_clean x y made k1 taken (on y e)

  after_event : (k : Body) (x : Owed) (value : ℕ) → v.owes k ≡ Some x → (v.bodies.takes k value).1.event ≡ None
  after_event k x value owes = by (p.left x value) refl
    where
      by : (q : Option Owed) → p.left x value ≡ q → (v.bodies.takes k value).1.event ≡ None
      by None e = (wins.over k x value owes e).0
      by (Some y) e = ap (λ (b : BodyTaken). b.event) (wins.on k x y value owes e).1

  -- and the frame stands there
  module _ (below : List (ReservedBy Call g.Reservation)) (chip : Chip) (w : World) (s : State) (k : Body) (o : Origin Call) (t : FrameHistory) (missed : ℕ → Bool) (x : Owed) (owes : v.owes k ≡ Some x) where
    abbrev later : Chip
    later = chip_after chip (p.move x) 0

    abbrev taken : Body × BodyTaken
    taken = v.bodies.takes k (value_of chip (p.move x))

    abbrev Over : About → Chip → Type 0
    Over a c = g.represents (with_holds o t.acted (v.hold a) below) g.settled c w s

    after_stands : (n : ℕ) → CommitsTo p n x chip (Over (v.about x)) → v.place (v.about x) below o t → Continues (deferring_writes g p) (windows v) below later w s o t missed taken.0 taken.1.done
    after_stands zero i place = absurd i
    after_stands (suc n) i place = by (p.left x (value_of chip (p.move x))) refl i.2
      where
        by : (q : Option Owed) → p.left x (value_of chip (p.move x)) ≡ q → Either q (λ y. CommitsTo p n y later (Over (v.about x))) (Over (v.about x) later) → Continues (deferring_writes g p) (windows v) below later w s o t missed taken.0 taken.1.done
        by None e d = wins.stands k x (value_of chip (p.move x)) below later w s o t missed owes e place d
        by (Some y) e d =
            let next = wins.on k x y (value_of chip (p.move x)) owes e in
            let stand : StandsBy below later w s taken.0 o t (Some y) = subst (λ a. ((m : ℕ) × CommitsTo p m y later (Over a)) × v.place a below o t) (sym next.2) ((n, d), place) in
            subst (λ (b : BodyTaken). Continues (deferring_writes g p) (windows v) below later w s o t missed taken.0 b.done) (sym next.1) (subst (StandsBy below later w s taken.0 o t) (sym next.0) stand)

  owed_steps : (below : List (ReservedBy Call g.Reservation)) (chip : Chip) (w : World) (s : State) (k : Body) (o : Origin Call) (received : ℕ) (t : FrameHistory) (m : ℕ → Bool) (x : Owed) → v.owes k ≡ Some x → ComesRight chip w (v.bodies.work_of k) received → AssertedAt (deferring_writes g p) (windows v) below chip w s k o t
      → RightOr (deferring_writes g p) (windows v) below chip w s k o received t m (ended_at (windows v) ends_with k (value_of chip (v.bodies.work_of k)))
  owed_steps below chip w s k o received t m x owes come h =
      let V = windows v in
      let G = deferring_writes g p in
      let made = p.move x in
      let is = wins.makes k x owes in
      let own = named below chip w s k o t x owes h in
      let stand = owed below chip w s k o t x owes h in
      let value = value_of chip made in
      let next = v.bodies.takes k value in
      let missed = missed_after g.setting.machine w s m in
      let none = silent_received chip w made received (law.calm made own).1 (subst (λ q. ComesRight chip w q received) is come).1 in
      let same = ap (λ c. record t { committed = c }) (law.times w t.committed made own) in
      let stands = after_stands below chip w s k o t missed x owes stand.0.0 stand.0.1 stand.1 in
      let stands_at = subst (λ r. Continues G V below (chip_after chip made r) w s o (past_wrote w made t) missed next.0 next.1.done) (sym none) (subst (λ q. Continues G V below (chip_after chip made 0) w s o q missed next.0 next.1.done) (sym same) stands) in
      let works = quiet_works G V below chip (chip_after chip made received) w s o made (V.clean k) value received t missed next.0 next.1.event next.1.done (after_event k x value owes) stands_at in
      goes_right G V below chip w s k o received t m (ended_at V ends_with k (value_of chip (v.bodies.work_of k))) (none_ended (ends_with (v.bodies.takes k (value_of chip (v.bodies.work_of k))).0) (v.bodies.takes k (value_of chip (v.bodies.work_of k))).1.done (wins.unended k x (value_of chip (v.bodies.work_of k)) owes)) (
      subst (λ q. Adding (spot_or v q (v.bodies.assertion k)) (g.setting.machine.ready w s) t (λ u. MakesTo G V below chip (chip_after chip (v.bodies.work_of k) received) w s o (v.bodies.work_of k) (V.clean k) (value_of chip (v.bodies.work_of k)) received u missed (v.bodies.takes k (value_of chip (v.bodies.work_of k))))) (sym owes) (
      subst (λ q. MakesTo G V below chip (chip_after chip q received) w s o q (V.clean k) (value_of chip q) received t missed (v.bodies.takes k (value_of chip q))) (sym is) (plain_makes G V below chip (chip_after chip made received) w s o (V.clean k) value received t missed next.0 next.1.event next.1.done made (law.plain made own) works)
      ))

  owed_turns : (below : List (ReservedBy Call g.Reservation)) (chip : Chip) (w : World) (s : State) (k : Body) (o : Origin Call) (t : FrameHistory) (x : Owed) → v.owes k ≡ Some x → AssertedAt (deferring_writes g p) (windows v) below chip w s k o t → TurnsTo (windows v) (g.setting.window_of o) k (v.bodies.takes k (value_of chip (v.bodies.work_of k)))
  owed_turns below chip w s k o t x owes h =
      let made = p.move x in
      let bound = g.setting.window_of o in
      let own = named below chip w s k o t x owes h in
      let Turns = λ (q : Option Owed) (m : Move). let n = v.bodies.takes k (value_of chip m) in TurnsMask bound (is_closed (spot_or v q (v.bodies.assertion k))) (is_closed (spot_or v (v.owes n.0) (v.bodies.assertion n.0))) (room_by q k) (room_by (v.owes n.0) n.0) m n.1.event n.1.done in
      let n = v.bodies.takes k (value_of chip made) in
      let plain : Turns (Some x) made = plain_turns bound true (is_closed (spot_or v (v.owes n.0) (v.bodies.assertion n.0))) (room_by (Some x) k) (room_by (v.owes n.0) n.0) made n.1.event n.1.done (law.plain made own) (after_keeps k x (value_of chip made) owes) in
      subst (λ m. Turns (v.owes k) m) (sym (wins.makes k x owes)) (subst (λ q. Turns q made) (sym owes) plain)

  -- ---- all of them

  module _ (free : AreFree (deferring_writes g p) (windows v) v.owes ends_with) where
    abbrev G : SharedRefinement State Call
    G = deferring_writes g p

    abbrev V : LongBodies (deferring_writes g p) Body
    V = windows v

    own : (below : List (ReservedBy Call g.Reservation)) (chip : Chip) (w : World) (s : State) (k : Body) (o : Origin Call) (t : FrameHistory) (q : Option Owed) → v.owes k ≡ q → AssertedAt G V below chip w s k o t → is_shared (v.bodies.work_of k) || g.setting.may o (v.bodies.work_of k) ≡ true
    own below chip w s k o t None e h = free.own below chip w s k o t e h
    own below chip w s k o t (Some x) e h = owed_own below chip w s k o t x e h

    turns : (below : List (ReservedBy Call g.Reservation)) (chip : Chip) (w : World) (s : State) (k : Body) (o : Origin Call) (t : FrameHistory) (q : Option Owed) → v.owes k ≡ q → AssertedAt G V below chip w s k o t → TurnsTo V (g.setting.window_of o) k (v.bodies.takes k (value_of chip (v.bodies.work_of k)))
    turns below chip w s k o t None e h = free.turns below chip w s k o t e h
    turns below chip w s k o t (Some x) e h = owed_turns below chip w s k o t x e h

    steps : (below : List (ReservedBy Call g.Reservation)) (chip : Chip) (w : World) (s : State) (k : Body) (o : Origin Call) (received : ℕ) (t : FrameHistory) (m : ℕ → Bool) (q : Option Owed) → v.owes k ≡ q → ComesRight chip w (v.bodies.work_of k) received → g.count s < most_steps → AssertedAt G V below chip w s k o t → RightOr G V below chip w s k o received t m (ended_at V ends_with k (value_of chip (v.bodies.work_of k)))
    steps below chip w s k o received t m None e come few h = free.steps below chip w s k o received t m e come few h
    steps below chip w s k o received t m (Some x) e come few h = owed_steps below chip w s k o received t m x e come h

    goes_later : (below : List (ReservedBy Call g.Reservation)) (chip : Chip) (w : World) (s : State) (order : Order) (k : Body) (o : Origin Call) (t : FrameHistory) (q : Option Owed) → v.owes k ≡ q → MayCome g.setting (with_holds o t.acted (holds_at (V.assertion k)) below) chip w s order → (is_masked chip ≡ false → is_closed (V.assertion k) ≡ false) → AssertedAt G V below chip w s k o t → place_at (V.assertion k) below (g.foot (happened chip order)) (world_after w chip.clock.rate order) (g.later w s order) o t
    goes_later below chip w s order k o t None e come shut h = free.later below chip w s order k o t e come shut h
    goes_later below chip w s order k o t (Some x) e come shut h = subst (λ q. place_at (spot_or v q (v.bodies.assertion k)) below (g.foot (happened chip order)) (world_after w chip.clock.rate order) (g.later w s order) o t) (sym e) (owed below chip w s k o t x e h).1

    calm : (below : List (ReservedBy Call g.Reservation)) (chip : Chip) (w : World) (s : State) (k : Body) (o : Origin Call) (t : FrameHistory) (q : Option Owed) → v.owes k ≡ q → AssertedAt G V below chip w s k o t → (v.bodies.takes k (value_of chip (v.bodies.work_of k))).1.event ≡ None → (resets_chip (v.bodies.work_of k) ≡ false) × (begins_word (v.bodies.work_of k) ≡ false)
    calm below chip w s k o t None e h i = free.calm below chip w s k o t e h i
    calm below chip w s k o t (Some x) e h i = owed_calm below chip w s k o t x e h

    shortens : (k : Body) (value : ℕ) (q : Option Owed) → v.owes k ≡ q → Shortens V.fuel k (v.bodies.takes k value)
    shortens k value None e = free.shortens k value e
    shortens k value (Some x) e = let t = v.bodies.takes k value in subst (λ q. ShortensTo (fuel_by q k) (fuel_by (v.owes t.0) t.0) t.1.done) (sym e) (after_shorter k x value e)

    cleans : (k : Body) (value : ℕ) (q : Option Owed) → v.owes k ≡ q → Cleans V.clean (v.bodies.work_of k) k (v.bodies.takes k value)
    cleans k value None e = free.cleans k value e
    cleans k value (Some x) e = let t = v.bodies.takes k value in subst (λ q. KeepsClean (clean_by q k) (v.bodies.work_of k) (clean_by (v.owes t.0) t.0) t.1.done) (sym e) (after_clean k x value (v.bodies.work_of k) e)

    pub windows_right : AreEnding (deferring_writes g p) (windows v) ends_with
    windows_right = record {
      own = λ below chip w s k o t h. own below chip w s k o t (v.owes k) refl h;
      turns = λ below chip w s k o t h. turns below chip w s k o t (v.owes k) refl h;
      steps = λ below chip w s k o received t m come few h. steps below chip w s k o received t m (v.owes k) refl come few h;
      later = λ below chip w s order k o t come shut h. goes_later below chip w s order k o t (v.owes k) refl come shut h;
      calm = λ below chip w s k o t h e. calm below chip w s k o t (v.owes k) refl h e;
      shortens = λ k value. shortens k value (v.owes k) refl;
      cleans = λ k value. cleans k value (v.owes k) refl;
    }
