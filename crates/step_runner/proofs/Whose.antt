-- Drivers of different modules are apart, and as one they are a driver of the modules of both.
use Rattle.std.proofs.Common.{◌≡◌, ℕ, Bool, true, false, not, ◌&&◌, ◌||◌, Option, Some, None, is_some, refl}
use Rattle.std.specs.Prelude.{IsSome}
use Rattle.std.specs.List.{list_all}
use Rattle.std.proofs.lemmas.Bool.{or_left, or_right}
use Rattle.chip_model.specs.Histories.{sets_rate}
use Rattle.chip_model.proofs.HistoryLaws.{rate-left}
use Rattle.mcal_base.specs.Bits.{has_bit}
use Rattle.mcal_base.specs.declared.module_name.ModuleName.{ModuleName}
use Rattle.mcal_base.specs.declared.module_name.ModuleName.TheVariants.{Mcu, Port, Gpt, Pwm, Icu, Adc, Spi, Dio, Wdg}
use Rattle.mcal_base.specs.declared.moves.Move.{Move}
use Rattle.mcal_base.specs.declared.moves.Move.TheVariants.{Read, Write, Load, Store}
use Rattle.mcal_base.specs.declared.register.Reg.{Reg}
use Rattle.mcal_base.specs.declared.register.Reg.TheVariants.{EnableSet, EnableClear, ClockPll, ClockRate}
use Rattle.run_model.specs.World.{World}
use Rattle.run_model.specs.Machine.{Starts, Aborts}
use Rattle.step_runner.specs.Driver.{Driver}
use Rattle.step_runner.specs.Union.{either_handler, first_call, second_call, others, has_handler, AreApart, union_of}
use Rattle.step_runner.specs.Whose.{module_of_register, module_of_line, module_of_word, module_of_unit, all_of, are_disjoint, is_of, is_line_of, EnablesWithin, WritesWithin, NamesWithin, WritesOthers, NamesOthers, KeepsTo}
use Rattle.step_runner.proofs.Apart.{owns-neither, may-either, some-either, all-into}
use Rattle.step_runner.specs.declared.either.Either.{Either}
use Rattle.step_runner.specs.declared.either.Either.TheVariants.{Left, Right}

-- ---- modules

not-both : (a b : Bool) → not (a && b) ≡ true → a ≡ true → b ≡ false
not-both true true e h = cc
not-both true false e h = refl
not-both false b e h = cc

-- a module of the one isn't of the other
abbrev Disjoint : (ModuleName → Bool) → (ModuleName → Bool) → Type 0
Disjoint p q = (m : ModuleName) → p m ≡ true → q m ≡ false

all-nine : (a b c d e f g h i : Bool) → a && b && c && d && e && f && g && h && i ≡ true → (a ≡ true) × (b ≡ true) × (c ≡ true) × (d ≡ true) × (e ≡ true) × (f ≡ true) × (g ≡ true) × (h ≡ true) × (i ≡ true)
all-nine true true true true true true true true true k = (refl, refl, refl, refl, refl, refl, refl, refl, refl)
all-nine false b c d e f g h i k = absurd (cc)
all-nine true false c d e f g h i k = absurd (cc)
all-nine true true false d e f g h i k = absurd (cc)
all-nine true true true false e f g h i k = absurd (cc)
all-nine true true true true false f g h i k = absurd (cc)
all-nine true true true true true false g h i k = absurd (cc)
all-nine true true true true true true false h i k = absurd (cc)
all-nine true true true true true true true false i k = absurd (cc)
all-nine true true true true true true true true false k = absurd (cc)

disjoint : (p q : ModuleName → Bool) → are_disjoint p q ≡ true → Disjoint p q
disjoint p q e m h = not-both (p m) (q m) (apart m) h
  where
    single : ModuleName → Bool
    single m = not (p m && q m)

    each : (single Mcu ≡ true) × (single Port ≡ true) × (single Gpt ≡ true) × (single Pwm ≡ true) × (single Icu ≡ true) × (single Adc ≡ true) × (single Spi ≡ true) × (single Dio ≡ true) × (single Wdg ≡ true)
    each = all-nine (single Mcu) (single Port) (single Gpt) (single Pwm) (single Icu) (single Adc) (single Spi) (single Dio) (single Wdg) e

    apart : (m : ModuleName) → single m ≡ true
    apart Mcu = each.0
    apart Port = each.1
    apart Gpt = each.2
    apart Pwm = each.3
    apart Icu = each.4
    apart Adc = each.5
    apart Spi = each.6
    apart Dio = each.7
    apart Wdg = each.8

turned : (p q : ModuleName → Bool) → Disjoint p q → Disjoint q p
turned p q apart m h = by (p m) (q m) (apart m) h
  where
    by : (a b : Bool) → (a ≡ true → b ≡ false) → b ≡ true → a ≡ false
    by true b none e = let f = none refl in cc
    by false b none e = refl

not-of : (p q : ModuleName → Bool) → Disjoint p q → (x : Option ModuleName) → is_of p x ≡ true → is_of q x ≡ false
not-of p q apart None h = cc
not-of p q apart (Some m) h = apart m h

-- what is so where something else is isn't where that isn't
pub not-unless : (a b : Bool) → (a ≡ true → b ≡ true) → b ≡ false → a ≡ false
not-unless true b must e = let f = must refl in cc
not-unless false b must e = refl

-- ---- moves

bit-off : (p q : ModuleName → Bool) → Disjoint p q → (v l : ℕ) → EnablesWithin p v → is_of q (module_of_line l) ≡ true → has_bit v l ≡ false
bit-off p q apart v l h mine = by (has_bit v l) refl
  where
    by : (b : Bool) → has_bit v l ≡ b → b ≡ false
    by true e = let f = not-of p q apart (module_of_line l) (h.lines l e) in cc
    by false e = refl

writes-others : (p q : ModuleName → Bool) → Disjoint p q → (r : Reg) (v : ℕ) → WritesWithin p r v → WritesOthers q r v
writes-others p q apart EnableSet v h = record { fits = h.fits; lines = λ l mine. bit-off p q apart v l h mine }
writes-others p q apart EnableClear v h = record { fits = h.fits; lines = λ l mine. bit-off p q apart v l h mine }
writes-others p q apart r v h = not-of p q apart (module_of_register r) h

names-others : (p q : ModuleName → Bool) → Disjoint p q → (made : Move) → NamesWithin p made → NamesOthers q made
names-others p q apart (Read r) h = not-of p q apart (module_of_register r) h
names-others p q apart (Write r v) h = writes-others p q apart r v h
names-others p q apart (Load k) h = not-of p q apart (module_of_word k) h
names-others p q apart (Store k v) h = not-of p q apart (module_of_word k) h
names-others p q apart _ h = tt

-- what isn't the clock's leaves its rate
sets-none : (p : ModuleName → Bool) (made : Move) → p Mcu ≡ false → NamesWithin p made → sets_rate made ≡ false
sets-none p (Write ClockPll v) e h = cc
sets-none p (Write ClockRate v) e h = cc
sets-none p _ e h = refl

-- ---- more modules

neither-left : (a b : Bool) → a || b ≡ false → a ≡ false
neither-left true b e = e
neither-left false b e = refl

neither-right : (a b : Bool) → a || b ≡ false → b ≡ false
neither-right true b e = cc
neither-right false b e = e

module _ (p q : ModuleName → Bool) where
  of-left : (x : Option ModuleName) → is_of p x ≡ true → is_of (all_of p q) x ≡ true
  of-left None h = h
  of-left (Some m) h = or_left (p m) (q m) h

  of-right : (x : Option ModuleName) → is_of q x ≡ true → is_of (all_of p q) x ≡ true
  of-right None h = h
  of-right (Some m) h = or_right (p m) (q m) h

  off-left : (x : Option ModuleName) → is_of (all_of p q) x ≡ false → is_of p x ≡ false
  off-left None h = h
  off-left (Some m) h = neither-left (p m) (q m) h

  off-right : (x : Option ModuleName) → is_of (all_of p q) x ≡ false → is_of q x ≡ false
  off-right None h = h
  off-right (Some m) h = neither-right (p m) (q m) h

-- modules that these are among
abbrev Among : (ModuleName → Bool) → (ModuleName → Bool) → Type 0
Among p q = (x : Option ModuleName) → is_of p x ≡ true → is_of q x ≡ true

abbrev Leaves : (ModuleName → Bool) → (ModuleName → Bool) → Type 0
Leaves p q = (x : Option ModuleName) → is_of q x ≡ false → is_of p x ≡ false

writes-wider : (p q : ModuleName → Bool) → Among p q → (r : Reg) (v : ℕ) → WritesWithin p r v → WritesWithin q r v
writes-wider p q among EnableSet v h = record { fits = h.fits; lines = λ l on. among (module_of_line l) (h.lines l on) }
writes-wider p q among EnableClear v h = record { fits = h.fits; lines = λ l on. among (module_of_line l) (h.lines l on) }
writes-wider p q among r v h = among (module_of_register r) h

names-wider : (p q : ModuleName → Bool) → Among p q → (made : Move) → NamesWithin p made → NamesWithin q made
names-wider p q among (Read r) h = among (module_of_register r) h
names-wider p q among (Write r v) h = writes-wider p q among r v h
names-wider p q among (Load k) h = among (module_of_word k) h
names-wider p q among (Store k v) h = among (module_of_word k) h
names-wider p q among _ h = h

writes-fewer : (p q : ModuleName → Bool) → Among p q → Leaves p q → (r : Reg) (v : ℕ) → WritesOthers q r v → WritesOthers p r v
writes-fewer p q among leaves EnableSet v h = record { fits = h.fits; lines = λ l mine. h.lines l (among (module_of_line l) mine) }
writes-fewer p q among leaves EnableClear v h = record { fits = h.fits; lines = λ l mine. h.lines l (among (module_of_line l) mine) }
writes-fewer p q among leaves r v h = leaves (module_of_register r) h

names-fewer : (p q : ModuleName → Bool) → Among p q → Leaves p q → (made : Move) → NamesOthers q made → NamesOthers p made
names-fewer p q among leaves (Read r) h = leaves (module_of_register r) h
names-fewer p q among leaves (Write r v) h = writes-fewer p q among leaves r v h
names-fewer p q among leaves (Load k) h = leaves (module_of_word k) h
names-fewer p q among leaves (Store k v) h = leaves (module_of_word k) h
names-fewer p q among leaves _ h = tt

-- ---- drivers

none-unless : {A : Type 0} (x : Option A) → (IsSome x → ⊥) → x ≡ None
none-unless None never = refl
none-unless (Some a) never = absurd (never refl)

some-of : {F G X : Type 0} (x : Option F) (y : Option G) → is_some (either_handler x y) ≡ true → (is_some x ≡ true → X) → (is_some y ≡ true → X) → X
some-of (Some f) y h one other = one refl
some-of None (Some g) h one other = other refl
some-of None None h one other = cc

module _ {S T C D F G : Type 0} (p q : ModuleName → Bool) (d : Driver S C F) (e : Driver T D G) (one : KeepsTo p d) (other : KeepsTo q e) where
  -- of different modules they are apart, where the second isn't the clock's, and the first polls lines that it handles
  module _ (apart : Disjoint p q) (polled : (w : World) (s : S) (c : C) → list_all (has_handler d) (d.setting.machine.polls w s c) ≡ true) where
    both-starts : (u : ModuleName) → p u ≡ true → q u ≡ true → ⊥
    both-starts u h k = let f = apart u h in cc

    no-handler : (l : ℕ) → is_line_of q l ≡ true → others (has_handler d) l ≡ true
    no-handler l h = by (has_handler d l) refl
      where
        by : (b : Bool) → has_handler d l ≡ b → not b ≡ true
        by true i = let f = not-of p q apart (module_of_line l) (one.handlers l i) in cc
        by false i = refl

    keeps-apart : q Mcu ≡ false → AreApart d e
    keeps-apart still = record {
      may = λ a b made h. other.owns b made (names-others p q apart made (one.may a made h));
      may_other = λ a b made h. one.owns a made (names-others q p (turned p q apart) made (other.may b made h));
      polls = polled;
      polls_other = λ w t c. all-into (is_line_of q) (others (has_handler d)) (e.setting.machine.polls w t c) no-handler (other.polls w t c);
      starts = λ w s t u by q r some. none-unless (d.setting.machine.happens w s (Starts u by r)) (λ i. both-starts (module_of_unit u) (one.starts w s u by r i) (other.starts w t u q r some));
      aborts = λ w s t u some. none-unless (d.setting.machine.happens w s (Aborts u)) (λ i. both-starts (module_of_unit u) (one.aborts w s u i) (other.aborts w t u some));
      steady = λ chip b made received h. rate-left chip made received (sets-none q made still (other.may b made h));
    }

  polls-both : (w : World) (s : S × T) (c : Either C D) → list_all (is_line_of (all_of p q)) ((union_of d e).setting.machine.polls w s c) ≡ true
  polls-both w s (Left c) = all-into (is_line_of p) (is_line_of (all_of p q)) (d.setting.machine.polls w s.0 c) (λ l h. of-left p q (module_of_line l) h) (one.polls w s.0 c)
  polls-both w s (Right c) = all-into (is_line_of q) (is_line_of (all_of p q)) (e.setting.machine.polls w s.1 c) (λ l h. of-right p q (module_of_line l) h) (other.polls w s.1 c)

  -- as one they are of the modules of both
  pub keeps-both : KeepsTo (all_of p q) (union_of d e)
  keeps-both = record {
    may = λ o made h. may-either (has_handler d) d.setting.may e.setting.may o made h (λ x k. names-wider p (all_of p q) (of-left p q) made (one.may x made k)) (λ y k. names-wider q (all_of p q) (of-right p q) made (other.may y made k));
    owns = λ o made h. owns-neither (has_handler d) d.owns e.owns o made (λ x. one.owns x made (names-fewer p (all_of p q) (of-left p q) (off-left p q) made h)) (λ y. other.owns y made (names-fewer q (all_of p q) (of-right p q) (off-right p q) made h));
    handlers = λ l h. some-of (d.handler_of l) (e.handler_of l) h (λ i. of-left p q (module_of_line l) (one.handlers l i)) (λ i. of-right p q (module_of_line l) (other.handlers l i));
    polls = polls-both;
    starts = λ w s u by r some. some-either s.0 s.1 (d.setting.machine.happens w s.0 (Starts u (first_call by) r)) (e.setting.machine.happens w s.1 (Starts u (second_call by) r)) some (λ i. or_left (p (module_of_unit u)) (q (module_of_unit u)) (one.starts w s.0 u (first_call by) r i)) (λ i. or_right (p (module_of_unit u)) (q (module_of_unit u)) (other.starts w s.1 u (second_call by) r i));
    aborts = λ w s u some. some-either s.0 s.1 (d.setting.machine.happens w s.0 (Aborts u)) (e.setting.machine.happens w s.1 (Aborts u)) some (λ i. or_left (p (module_of_unit u)) (q (module_of_unit u)) (one.aborts w s.0 u i)) (λ i. or_right (p (module_of_unit u)) (q (module_of_unit u)) (other.aborts w s.1 u i));
  }

-- two drivers of different modules, of which the second isn't the clock's, and the first polls lines that it handles, are apart
pub disjoint-apart : {S T C D F G : Type 0} (p q : ModuleName → Bool) (d : Driver S C F) (e : Driver T D G) → are_disjoint p q ≡ true → q Mcu ≡ false → ((w : World) (s : S) (c : C) → list_all (has_handler d) (d.setting.machine.polls w s c) ≡ true) → KeepsTo p d → KeepsTo q e → AreApart d e
disjoint-apart p q d e apart still polled one other = keeps-apart p q d e one other (disjoint p q apart) polled still
