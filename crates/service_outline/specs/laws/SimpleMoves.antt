-- Moves that commute with the hardware exactly: loads and stores of driver words, while no array is filled, and writes that
-- enable or disable lines.
-- Used by driver_examples: held.ToyLaws.
use Rattle.std.proofs.Common.{◌≡◌, ℕ, ◌<◌, Bool, true, false, Option, Some, refl, sym, ap, subst}
use Rattle.std.specs.Prelude.{if◌then◌else◌, slice_index}
use Rattle.chip_model.specs.Chip.{Chip, value_of, chip_after, expiry_of, happened, reset_chip, levelled, is_other, outside_at}
use Rattle.chip_model.proofs.HistoryLaws.{edged, level_leaves}
use Rattle.mcal_base.specs.declared.directive.Order.{Order}
use Rattle.mcal_base.specs.declared.directive.Order.TheVariants.{Tick, Level, Analog, Trigger, Miso, SpiFault, Detach, Fill}
use Rattle.mcal_base.specs.declared.directive.Reason.{Reason}
use Rattle.mcal_base.specs.declared.moves.Move.{Move}
use Rattle.mcal_base.specs.declared.moves.Move.TheVariants.{Read, Write, Load, Store, Mask, Unmask, Note, Report}
use Rattle.mcal_base.specs.declared.register.Reg.{Reg}
use Rattle.mcal_base.specs.declared.register.Reg.TheVariants.{EnableSet, EnableClear}
use Rattle.run_model.specs.World.{World}
use Rattle.run_model.specs.Frame.{committed_after, is_shared, resets_chip, begins_word}
use Rattle.service_outline.specs.DeferredWrites.{DeferredWrites, is_fill, is_simple, same_chip, AreOwed}
use Rattle.service_outline.specs.Services.{SharedRefinement}

-- ---- what they are

pub simple_plain : (made : Move) → is_simple made ≡ true → is_shared made ≡ false
simple_plain (Load k) e = refl
simple_plain (Store k v) e = refl
simple_plain (Write r v) e = refl
simple_plain (Read r) e = absurd (cc)
simple_plain Mask e = absurd (cc)
simple_plain Unmask e = absurd (cc)
simple_plain (Note n) e = absurd (cc)
simple_plain (Report x) e = absurd (cc)

module _ (see : Move → Type 0) (loads : (k : ℕ) → see (Load k)) (stores : (k v : ℕ) → see (Store k v)) (sets : (v : ℕ) → see (Write EnableSet v)) (clears : (v : ℕ) → see (Write EnableClear v)) where
  written : (r : Reg) (v : ℕ) → is_simple (Write r v) ≡ true → see (Write r v)
  written EnableSet v e = sets v
  written EnableClear v e = clears v
  written _ v e = absurd (cc)

  -- what is so of each kind of them
  pub simple_by : (made : Move) → is_simple made ≡ true → see made
  simple_by (Load k) e = loads k
  simple_by (Store k v) e = stores k v
  simple_by (Write r v) e = written r v e
  simple_by (Read r) e = absurd (cc)
  simple_by Mask e = absurd (cc)
  simple_by Unmask e = absurd (cc)
  simple_by (Note n) e = absurd (cc)
  simple_by (Report x) e = absurd (cc)

pub simple_calm : (made : Move) → is_simple made ≡ true → (resets_chip made ≡ false) × (begins_word made ≡ false)
simple_calm = simple_by (λ m. (resets_chip m ≡ false) × (begins_word m ≡ false)) (λ k. (refl, refl)) (λ k v. (refl, refl)) (λ v. (refl, refl)) (λ v. (refl, refl))

pub simple_times : (w : World) (times : ℕ → Option ℕ) (made : Move) → is_simple made ≡ true → committed_after w times made ≡ times
simple_times w times = simple_by (λ m. committed_after w times m ≡ times) (λ k. refl) (λ k v. refl) (λ v. refl) (λ v. refl)

pub simple_steady : (chip : Chip) (made : Move) → is_simple made ≡ true → (chip_after chip made 0).clock.rate ≡ chip.clock.rate
simple_steady chip = simple_by (λ m. (chip_after chip m 0).clock.rate ≡ chip.clock.rate) (λ k. refl) (λ k v. refl) (λ v. refl) (λ v. refl)

pub simple_unwound : (chip : Chip) (made : Move) → is_simple made ≡ true → expiry_of (chip_after chip made 0) ≡ expiry_of chip
simple_unwound chip = simple_by (λ m. expiry_of (chip_after chip m 0) ≡ expiry_of chip) (λ k. refl) (λ k v. refl) (λ v. refl) (λ v. refl)

pub simple_reset : (chip : Chip) (made : Move) (reason : Reason) → is_simple made ≡ true → reset_chip (chip_after chip made 0) reason ≡ reset_chip chip reason
simple_reset chip made reason = simple_by (λ m. reset_chip (chip_after chip m 0) reason ≡ reset_chip chip reason) (λ k. refl) (λ k v. refl) (λ v. refl) (λ v. refl) made

-- ---- the hardware moves before them

-- no hardware but a fill moves a driver word
pub words_happened : (chip : Chip) (order : Order) → is_fill order ≡ false → (happened chip order).words ≡ chip.words
words_happened chip (Tick n) e = refl
words_happened chip (Level p v) e = level_leaves (λ c. c.words) chip p v refl
words_happened chip (Analog i v) e = refl
words_happened chip (Trigger i) e = refl
words_happened chip (Miso u ws) e = refl
words_happened chip (SpiFault u) e = refl
words_happened chip Detach e = refl
words_happened chip (Fill c ws) e = absurd (cc)
words_happened chip _ e = refl

pub simple_value : (chip : Chip) (order : Order) (made : Move) → is_simple made ≡ true → is_fill order ≡ false → value_of (happened chip order) made ≡ value_of chip made
simple_value chip order made e none = simple_by (λ m. value_of (happened chip order) m ≡ value_of chip m) (λ k. ap (λ ws. slice_index ws k) (words_happened chip order none)) (λ k v. refl) (λ v. refl) (λ v. refl) made e

if_same : (F : Chip → Chip) (q : Bool) (x y : Chip) → (if q then F x else F y) ≡ F (if q then x else y)
if_same F true x y = refl
if_same F false x y = refl

levels_same : (chip : Chip) (p : ℕ) (v : Bool) (made : Move) → is_simple made ≡ true → levelled (chip_after chip made 0) p v ≡ chip_after (levelled chip p v) made 0
levels_same chip p v = simple_by (λ m. levelled (chip_after chip m 0) p v ≡ chip_after (levelled chip p v) m 0)
    (λ k. refl)
    (λ k x. if_same (λ c. chip_after c (Store k x) 0) (is_other (outside_at chip p) v) (edged chip p v) chip)
    (λ x. if_same (λ c. chip_after c (Write EnableSet x) 0) (is_other (outside_at chip p) v) (edged chip p v) chip)
    (λ x. if_same (λ c. chip_after c (Write EnableClear x) 0) (is_other (outside_at chip p) v) (edged chip p v) chip)

pub simple_commutes : (chip : Chip) (order : Order) (made : Move) → is_simple made ≡ true → is_fill order ≡ false → happened (chip_after chip made 0) order ≡ chip_after (happened chip order) made 0
simple_commutes chip (Tick n) made e none = simple_by (λ m. happened (chip_after chip m 0) (Tick n) ≡ chip_after (happened chip (Tick n)) m 0) (λ k. refl) (λ k v. refl) (λ v. refl) (λ v. refl) made e
simple_commutes chip (Level p x) made e none = levels_same chip p x made e
simple_commutes chip (Analog i x) made e none = simple_by (λ m. happened (chip_after chip m 0) (Analog i x) ≡ chip_after (happened chip (Analog i x)) m 0) (λ k. refl) (λ k v. refl) (λ v. refl) (λ v. refl) made e
simple_commutes chip (Trigger i) made e none = simple_by (λ m. happened (chip_after chip m 0) (Trigger i) ≡ chip_after (happened chip (Trigger i)) m 0) (λ k. refl) (λ k v. refl) (λ v. refl) (λ v. refl) made e
simple_commutes chip (Miso u ws) made e none = simple_by (λ m. happened (chip_after chip m 0) (Miso u ws) ≡ chip_after (happened chip (Miso u ws)) m 0) (λ k. refl) (λ k v. refl) (λ v. refl) (λ v. refl) made e
simple_commutes chip (SpiFault u) made e none = simple_by (λ m. happened (chip_after chip m 0) (SpiFault u) ≡ chip_after (happened chip (SpiFault u)) m 0) (λ k. refl) (λ k v. refl) (λ v. refl) (λ v. refl) made e
simple_commutes chip Detach made e none = simple_by (λ m. happened (chip_after chip m 0) Detach ≡ chip_after (happened chip Detach) m 0) (λ k. refl) (λ k v. refl) (λ v. refl) (λ v. refl) made e
simple_commutes chip (Fill c ws) made e none = absurd (cc)
simple_commutes chip _ made e none = refl

-- ---- a driver that owes no others

pub simple_owed : {State Call Owed : Type 0} (g : SharedRefinement State Call) (p : DeferredWrites Owed) → ((made : Move) → p.own made ≡ true → is_simple made ≡ true) → ((x : Owed) (chip : Chip) → p.fits x chip) → ((x y : Owed) (value : ℕ) → p.left x value ≡ Some y → p.more y < p.more x) → AreOwed g p same_chip
simple_owed g p simple fits shorter = record {
  plain = λ made e. simple_plain made (simple made e);
  calm = λ made e. simple_calm made (simple made e);
  times = λ w times made e. simple_times w times made (simple made e);
  steady = λ chip made e. simple_steady chip made (simple made e);
  unwound = λ chip made e. simple_unwound chip made (simple made e);
  resets = λ chip made reason e. simple_reset chip made reason (simple made e);
  shorter = shorter;
  commutes = λ x chip order e i none. (ap (p.left x) (simple_value chip order (p.move x) (simple (p.move x) e) none), simple_commutes chip order (p.move x) (simple (p.move x) e) none);
  stays = λ x chip order e i none. fits x (happened chip order);
  goes = λ x a b e i same. (fits x b, ap (λ c. p.left x (value_of c (p.move x))) (sym same), ap (λ c. chip_after c (p.move x) 0) same);
  lasts = λ held a b w s same h. subst (λ c. g.represents held g.settled c w s) same h;
}
