-- A visitor is a guest, and two cells have it.
use Rattle.std.proofs.Common.{◌≡◌, ℕ, ◌<◌, ◌||◌, ◌==◌, true, false, List, [], Option, Some, None, refl, sym, ap, subst, arith}
use Rattle.std.proofs.lemmas.List.{get_or-set_same}
use Rattle.mcal_base.specs.facts.Numbers.{eq_is, eq_self}
use Rattle.chip_model.specs.Chip.{Chip, chip_after, value_of, word_of}
use Rattle.chip_model.specs.Histories.{Made}
use Rattle.chip_model.proofs.WholeLaws.{all-step}
use Rattle.mcal_base.specs.declared.layout.TheConstants.{SOURCES}
use Rattle.mcal_base.specs.declared.error_name.ErrorName.{ErrorName}
use Rattle.mcal_base.specs.declared.module_name.ModuleName.TheVariants.{Gpt}
use Rattle.mcal_base.specs.declared.moves.Event.TheVariants.{Act}
use Rattle.mcal_base.specs.declared.moves.Move.{Move}
use Rattle.mcal_base.specs.declared.moves.Move.TheVariants.{Load, Store}
use Rattle.mcal_base.specs.Reach.{CanApply}
use Rattle.run_model.specs.World.{World}
use Rattle.run_model.specs.Frame.{ActedAt, Open, Called, opened, open_after, is_shared}
use Rattle.run_model.specs.Legal.{WritesNothing, ErrorsRight, MadeUnless, HasMade}
use Rattle.run_model.specs.Machine.{ErrorLeaves}
use Rattle.step_runner.specs.Driver.{KeepsStep, stepped}
use Rattle.step_runner.specs.Union.{union_of}
use Rattle.driver_examples.specs.declared.three.cell.CellCall.{CellCall}
use Rattle.driver_examples.specs.declared.three.cell.CellCall.TheVariants.{Get}
use Rattle.driver_examples.specs.declared.three.cell.CellFrame.{CellFrame}
use Rattle.driver_examples.specs.three.Cell.{names, CellRelates, cell}
use Rattle.driver_examples.specs.three.CellLaws.{cell_lawful, cells_apart}
use Rattle.service_outline.specs.guests.Guest.{lone_machine, lone_setting, lone_driver, StandsOn, IsGuest, LetsIn, guest_of}
use Rattle.service_outline.specs.guests.LetsLaws.{lets-second}
use Rattle.driver_examples.specs.guest.Visitor.{number_answer, visitor_move, visitor_left, visitor_gave, visitor_fuel, VisitorStands, Before, Strayed, visitor_does, cell_after, visitor}
use Rattle.driver_examples.specs.declared.guest.visitor.TheConstants.{STRAYED}
use Rattle.driver_examples.specs.declared.guest.visitor.VisitorCall.{VisitorCall}
use Rattle.driver_examples.specs.declared.guest.visitor.VisitorCall.TheVariants.{Look, Leave, Stray}
use Rattle.driver_examples.specs.declared.guest.visitor.VisitorFrame.{VisitorFrame}
use Rattle.driver_examples.specs.declared.guest.visitor.VisitorFrame.TheVariants.{Access, Telling}

-- ---- the visitor

-- a frame that wrote nothing is right by whatever error it found, and owes no write
errors_right : (at : Option ActedAt) → ErrorsRight false at
errors_right None = tt
errors_right (Some at) = by at.error
  where
    by : (e : Option ErrorName) → WritesNothing false e
    by None = tt
    by (Some e) = refl

owes_none : (word : ℕ) (s : ℕ × ℕ) (c : VisitorCall) (writes : List Move) (at : Option ActedAt) → HasMade (lone_setting (visitor word) s) (Called c) writes at
owes_none word s c writes None = tt
owes_none word s c writes (Some at) = by at.error
  where
    by : (e : Option ErrorName) → MadeUnless e [] writes
    by None = refl
    by (Some e) = tt

module _ (word : ℕ) (fits : word < SOURCES) where
  abbrev Steps : Chip → World → VisitorFrame → Open VisitorCall → ℕ × ℕ → (received : ℕ) → Type 0
  Steps chip w f o s received = let made = visitor_move f in let value = value_of chip made in let taken = visitor_gave f value in KeepsStep (lone_driver (visitor word) s) (record { chip = chip; world = w; state = s; opens = []; steps = 0 }) f o (visitor_left f value) (stepped made value received taken) (λ s1 o1. (s1 ≡ (visitor word).moves_of made s) × StandsOn (visitor word) (visitor_left f value) o1 taken.ended)

  steps_of : (chip : Chip) (w : World) (f : VisitorFrame) (o : Open VisitorCall) (s : ℕ × ℕ) (received : ℕ) → VisitorStands word f o → word_of chip word ≡ s.1 → Steps chip w f o s received
  steps_of chip w f o s received (Before Look tag) is = record {
    event = (refl, tt, refl);
    sends = tt;
    halves = tt;
    together = tt;
    errors = tt;
    move = tt;
    shows = tt;
    ends = ((ap (λ x. Some (number_answer x)) (sym is), refl), refl, refl, refl, refl);
    starts = refl;
    writes = refl;
    own = eq_self word;
    reset = refl;
    stays = λ e. cc;
    fuel = omega arith;
    room = λ e. cc;
    kept = (refl, tt);
  }
  steps_of chip w f o s received (Before (Leave v) tag) is = record {
    event = (refl, tt, refl);
    sends = tt;
    halves = tt;
    together = tt;
    errors = tt;
    move = tt;
    shows = tt;
    ends = ((refl, refl), refl, refl, refl, refl);
    starts = refl;
    writes = refl;
    own = eq_self word;
    reset = refl;
    stays = λ e. cc;
    fuel = omega arith;
    room = λ e. cc;
    kept = (refl, tt);
  }
  steps_of chip w f o s received (Before Stray tag) is = record {
    event = (refl, tt, refl);
    sends = tt;
    halves = tt;
    together = tt;
    errors = refl;
    move = tt;
    shows = tt;
    ends = tt;
    starts = tt;
    writes = tt;
    own = eq_self word;
    reset = refl;
    stays = λ e. cc;
    fuel = omega arith;
    room = λ e. cc;
    kept = (refl, Strayed Stray STRAYED (open_after (lone_machine (visitor word)) w s (opened (Called Stray) tag) (Load word) received (Some Act)));
  }
  steps_of chip w f o s received (Strayed c e was) is = record {
    event = tt;
    sends = tt;
    halves = tt;
    together = tt;
    errors = errors_right was.acted_at;
    move = refl;
    shows = tt;
    ends = ((refl, refl), refl, refl, refl, refl);
    starts = refl;
    writes = owes_none word s c was.writes was.acted_at;
    own = refl;
    reset = refl;
    stays = λ e. cc;
    fuel = omega arith;
    room = λ e. cc;
    kept = (refl, tt);
  }

  there_of : (f : VisitorFrame) (o : Open VisitorCall) → VisitorStands word f o → CanApply (visitor_move f)
  there_of f o (Before Look tag) = omega (arith, fits)
  there_of f o (Before (Leave v) tag) = omega (arith, fits)
  there_of f o (Before Stray tag) = omega (arith, fits)
  there_of f o (Strayed c e was) = tt

  own_of : (f : VisitorFrame) (o : Open VisitorCall) → VisitorStands word f o → is_shared (visitor_move f) || names word (visitor_move f) ≡ true
  own_of f o (Before Look tag) = eq_self word
  own_of f o (Before (Leave v) tag) = eq_self word
  own_of f o (Before Stray tag) = eq_self word
  own_of f o (Strayed c e was) = refl

  unmasked_of : (f : VisitorFrame) (o : Open VisitorCall) → VisitorStands word f o → o.inside ≡ false
  unmasked_of f o (Before c tag) = refl
  unmasked_of f o (Strayed c e was) = refl

  lasts_of : (f : VisitorFrame) → 0 < visitor_fuel f
  lasts_of (Access k c) = omega arith
  lasts_of (Telling e) = omega arith

  plain_of : (made : Move) → names word made ≡ true → is_shared made ≡ false
  plain_of (Load k) h = refl
  plain_of (Store k v) h = refl
  plain_of _ h = cc

  steady_of : (chip : Chip) (made : Move) (received : ℕ) → names word made ≡ true → (chip_after chip made received).clock.rate ≡ chip.clock.rate
  steady_of chip (Load k) received h = refl
  steady_of chip (Store k v) received h = refl
  steady_of chip _ received h = cc

  leaves_of : (made : Move) (s : ℕ × ℕ) → is_shared made ≡ true → (visitor word).moves_of made s ≡ s
  leaves_of (Store k v) s h = cc
  leaves_of _ s h = refl

  changes_of : (w : World) (s : ℕ × ℕ) (c : VisitorCall) → (made : Move) × ((visitor_does w s c).state ≡ (visitor word).moves_of made s)
  changes_of w s Look = (Load word, refl)
  changes_of w s (Leave v) = (Store word v, refl)
  changes_of w s Stray = (Load word, refl)

  error_of : (w : World) (s : ℕ × ℕ) (c : VisitorCall) → ErrorLeaves s (visitor_does w s c)
  error_of w s Look = λ some. absurd (cc)
  error_of w s (Leave v) = λ some. absurd (cc)
  error_of w s Stray = λ some. (refl, refl)

  pub visitor_right : IsGuest (visitor word) visitor_move visitor_left visitor_gave
  visitor_right = record {
    begins = λ s c level can. Before c _;
    steps = λ chip w f o s received come stands sees. steps_of chip w f o s received stands sees;
    there = there_of;
    own = own_of;
    unmasked = unmasked_of;
    lasts = lasts_of;
    plain = plain_of;
    enables_none = λ bits. refl;
    loads_none = λ value. refl;
    steady = steady_of;
    leaves = leaves_of;
    changes = changes_of;
    error_leaves = error_of;
    call_fuel = λ c can. omega arith;
  }

-- ---- the cells

-- a cell lets a visitor in
cell_keeps : (word : ℕ) → word < SOURCES → (chip : Chip) (w : World) (ps : List (CellFrame × Open CellCall)) (s : ℕ) (made : Move) (received : ℕ) → names word made ≡ true → CellRelates word chip w ps s → CellRelates word (chip_after chip made received) w ps (cell_after made s)
cell_keeps word fits chip w ps s (Load k) received mine h = h
cell_keeps word fits chip w ps s (Store k v) received mine h =
    let at : k ≡ word = eq_is k word mine in
    let size = h.all.words in
    record {
      all = all-step chip (Made (Store k v) received) tt h.all;
      value = subst (λ j. word_of (chip_after chip (Store j v) received) word ≡ v) (sym at) (get_or-set_same chip.words word v 0 (omega (arith, fits, size)));
      frames = h.frames;
    }
cell_keeps word fits chip w ps s _ received mine h = cc

cell_lets : (word : ℕ) → word < SOURCES → LetsIn (cell word) Gpt (names word) cell_after
cell_lets word fits = record {
  keeps = λ chip w ps s made received mine masked out apart h. cell_keeps word fits chip w ps s made received mine h;
  count = λ made s. omega arith;
  rate = λ made s. refl;
}

-- two cells have a visitor in the second
pub house_fits : (0 < SOURCES) → (1 < SOURCES) → (guest_of (union_of (cell 0) (cell 1)) (visitor 1)).fits
house_fits a b =
    let apart = cells_apart 0 1 (λ e. cc) in (
      (a, b, apart),
      b,
      record {
        lets = lets-second (cell 0) (cell 1) Gpt (names 1) cell_after (cell_lawful 0 a) (λ made mine origin. apart.may_other origin (Called Get) made mine) (cell_lets 1 b);
        shows = λ chip w s origins off outside stand. stand.1;
      },
    )
