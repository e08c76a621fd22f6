-- Mcu_InitRamSection: a sweep over the section's words with the mask open, and then the act.
-- From RefinementRight, service_outline: SweepRight, Base, Look.
-- Used by service/fill/rt, Lawful.
use Rattle.std.proofs.Common.{◌≡◌, ◌≢◌, ◌+◌, ◌<◌, ◌≤◌, ◌&&◌, ◌==◌, [], ◌∷◌, ◌∙◌, if◌then◌else◌}
use Rattle.mcu_driver.specs.Terms
use Terms.{Act, AllLet, AllRight, ap, AreLong, arith, AssertedAt, blocks, BodyTaken, Bool, Call, Called, Chip}
use Terms.{chip_after, class_of, done_by, ends, EOk, eq_isnt, false, Fill, filled, fills_with, FitsMcu, FrameHistory}
use Terms.{fresh_history, get_or-set_other, get_or-set_same, if_false, if_true, InitRamSection, is_done, Is_this_frame, is_within, IsThisFrame, length, List, Load, LongBodies, mark_of, mcu_basis, mcu_setting, McuTable, McuRepresents, McuState, Move, named, nat_lt, nat_tests, None, Nothing, Option, Origin, Part, place_at, PointAssertion, Ram, ram_at, refl, Reservations, ReservedBy, Right, Section, section_of, slice_index, Some, STATE, subst, Sweep, sweep, sweep_right, Sweeping, sym, true, TurnsTo, value_of, want, Within, word_in, World, world_after, Write, ℕ}
use Rattle.mcu_driver.specs.laws.{Base.{acted}, RefinementRight.{all_moved, basis_right}, Look.{fill_passes}}
use Rattle.mcu_driver.specs.declared.service.fill.FilledBody as bodies
use Rattle.mcu_driver.specs.declared.service.fill.FilledBody.TheVariants as fills

-- ---- the sweep and what follows

abbrev pub fill_count : Fill → ℕ
fill_count r = r.size

abbrev pub fill_move : Fill → ℕ → Move
fill_move r i = Write (Ram (r.base + i)) r.value

abbrev pub fill_after : Fill → bodies.FilledBody
fill_after r = fills.Act r

abbrev pub filled_work : bodies.FilledBody → Move
filled_work k = Load STATE

abbrev pub filled_takes : bodies.FilledBody → ℕ → bodies.FilledBody × BodyTaken
filled_takes k x = (k, ends (Some Act) (named EOk) Nothing)

-- no frame below holds the section
abbrev pub Free : ℕ → Reservations → Type 0
Free n [] = Unit {0}
Free n (h ∷ hs) = (n == h.what.section ≡ false) × Free n hs

abbrev pub section_in : Fill → Section
section_in r = record { base = r.base; size = r.size; default_value = r.value }

-- the call that fills a section as it is configured, which no frame below holds
abbrev pub IsFilling : McuTable → Fill → Reservations → Origin Call → FrameHistory → Type 0
IsFilling d r below o t = IsThisFrame (Called (InitRamSection r.section)) fresh_history o t × (section_of d r.section ≡ Some (section_in r)) × Free r.section below

abbrev pub part : Fill → ℕ → List Part
part r i = record { section = r.section; upto = i } ∷ []

abbrev pub filling : (d : McuTable) → Sweeping (mcu_basis d) Fill bodies.FilledBody
filling d = record { count = fill_count; move = fill_move; after = fill_after; hold = part; place = IsFilling d }

abbrev pub filled_spot : (d : McuTable) → bodies.FilledBody → PointAssertion (mcu_basis d)
filled_spot d (fills.Act r) = Within tt (part r r.size) (λ below f w s o t. IsFilling d r below o t)

abbrev pub filled_bodies : (d : McuTable) → LongBodies (mcu_basis d) bodies.FilledBody
filled_bodies d = record { work_of = filled_work; takes = filled_takes; fuel = λ k. 1; room = λ k. 1; clean = λ k. false; assertion = filled_spot d }

abbrev pub fill_bodies : (d : McuTable) → LongBodies (mcu_basis d) (Sweep Fill bodies.FilledBody)
fill_bodies d = sweep (filling d) (filled_bodies d)

-- ---- which words are filled

-- none at first, one more with each write, and all of them at last
none_done : (x : Section) (k : ℕ) → is_done x 0 k ≡ false
none_done x k = grind (arith, nat_tests)

one_done : (x : Section) (i k : ℕ) → i < x.size → k ≡ x.base + i → is_done x (i + 1) k ≡ true
one_done x i k lt e = grind (arith, nat_tests)

others_done : (x : Section) (i k : ℕ) → k ≢ x.base + i → is_done x i k ≡ is_done x (i + 1) k
others_done x i k ne = grind (arith, nat_tests)

all_done : (x : Section) (k : ℕ) → is_done x x.size k ≡ is_within x k
all_done x k = grind (arith, nat_tests)

not_done : (x : Section) (i k : ℕ) → is_within x k ≡ false → is_done x i k ≡ false
not_done x i k e = ap (λ q. q && nat_lt k (x.base + i)) e

-- what is wanted of a word goes by what is there, and where it is one of a section that nobody holds it is that
want_same : (d : McuTable) (held : Reservations) (f g : ℕ → ℕ) (k : ℕ) → f k ≡ g k → want d held f k ≡ want d held g k
want_same d [] f g k e = e
want_same d (h ∷ hs) f g k e = ap (λ y. done_by (section_of d h.what.section) h.what.upto y k) (want_same d hs f g k e)

want_apart : (d : McuTable) → FitsMcu d → (held : Reservations) (f : ℕ → ℕ) (n k : ℕ) (x : Section) → section_of d n ≡ Some x → is_within x k ≡ true → Free n held → want d held f k ≡ f k
want_apart d fits [] f n k x e in_it free = refl
want_apart d fits (h ∷ hs) f n k x e in_it free = by (section_of d h.what.section) refl ∙ want_apart d fits hs f n k x e in_it free.1
  where
    by : (y : Option Section) → section_of d h.what.section ≡ y → done_by y h.what.upto (want d hs f k) k ≡ want d hs f k
    by None i = refl
    by (Some y) i = if_false (is_done y h.what.upto k) y.default_value (want d hs f k) (not_done y h.what.upto k (fits.apart n h.what.section k x y e i (eq_isnt n h.what.section free.0) in_it))

-- ---- the act

module _ (d : McuTable) (fits : FitsMcu d) where
  want_filled : (below : Reservations) (fs : List Section) (r : Fill) (k : ℕ) → section_of d r.section ≡ Some (section_in r) → Free r.section below → done_by (section_of d r.section) r.size (want d below (word_in fs) k) k ≡ want d below (word_in (fills_with (section_of d r.section) fs)) k
  want_filled below fs r k e free = ap (λ y. done_by y r.size (want d below (word_in fs) k) k) e ∙ (ap (λ q. if q then r.value else want d below (word_in fs) k) (all_done x k) ∙ (by (is_within x k) refl ∙ ap (λ y. want d below (word_in (fills_with y fs)) k) (sym e)))
    where
      x : Section
      x = section_in r

      by : (q : Bool) → is_within x k ≡ q → (if is_within x k then r.value else want d below (word_in fs) k) ≡ want d below (word_in (x ∷ fs)) k
      by true i = if_true (is_within x k) r.value (want d below (word_in fs) k) i ∙ sym (want_apart d fits below (word_in (x ∷ fs)) r.section k x e i free ∙ if_true (is_within x k) r.value (word_in fs k) i)
      by false i = if_false (is_within x k) r.value (want d below (word_in fs) k) i ∙ sym (want_same d below (word_in (x ∷ fs)) (word_in fs) k (if_false (is_within x k) r.value (word_in fs k) i))

  full : (held : ReservedBy Call Part) (below : Reservations) (chip : Chip) (w : World) (s : McuState) (r : Fill) → section_of d r.section ≡ Some (section_in r) → Free r.section below → McuRepresents d (record held { what = record { section = r.section; upto = r.size } } ∷ below) chip w s → McuRepresents d below chip w (filled (section_of d r.section) s)
  full held below chip w s r e free h = record {
    right = h.right.2;
    all = h.all;
    clock = h.clock;
    rate = h.rate;
    pll = h.pll;
    state = h.state;
    mode = h.mode;
    ram = λ k lt. h.ram k lt ∙ want_filled below s.fills r k e free;
  }

  filled_steps : (below : Reservations) (chip : Chip) (w : World) (s : McuState) (k : bodies.FilledBody) (o : Origin Call) (y : ℕ) (t : FrameHistory) (m : ℕ → Bool) → AssertedAt (mcu_basis d) (filled_bodies d) below chip w s k o t → Right (mcu_basis d) (filled_bodies d) below chip w s k o y t m
  filled_steps below chip w s (fills.Act r) o y t m (h, (Is_this_frame, known, free)) = acted d (filled_bodies d) below chip chip w s (filled (section_of d r.section) s) (InitRamSection r.section) (Load STATE) false (value_of chip (Load STATE)) y _ (fills.Act r) (named EOk) (fill_passes d s r.section (section_in r) known h.right.1) refl tt refl (full (record { by = o; what = record { section = 0; upto = 0 }; acted = None }) below chip w s r known free h)

  filled_right : AreLong (mcu_basis d) (filled_bodies d)
  filled_right = record {
    own = λ below chip w s k o t h. refl;
    turns = λ below chip w s k o t h. turns k (value_of chip (filled_work k));
    steps = λ below chip w s k o y t m come few h. filled_steps below chip w s k o y t m h;
    later = λ below chip w s order k o t come shut h. stays below w (world_after w chip.clock.rate order) s k o t h.1;
    calm = λ below chip w s k o t h e. (refl, refl);
    shortens = λ k x. omega arith;
    cleans = λ k x. tt;
  }
    where
      turns : (k : bodies.FilledBody) (x : ℕ) → TurnsTo (filled_bodies d) 32 k (filled_takes k x)
      turns (fills.Act r) x = omega arith

      stays : (below : Reservations) (w w1 : World) (s : McuState) (k : bodies.FilledBody) (o : Origin Call) (t : FrameHistory) → place_at (filled_spot d k) below tt w s o t → place_at (filled_spot d k) below tt w1 s o t
      stays below w w1 s (fills.Act r) o t h = h

  -- ---- the sweep

  fits_in : (r : Fill) (i : ℕ) → section_of d r.section ≡ Some (section_in r) → i < r.size → r.base + i < 512
  fits_in r i e lt = let le : r.base + r.size ≤ 512 = fits.inside r.section (section_in r) e in omega (arith, lt, le)

  -- a write leaves the other words
  grown : (held : ReservedBy Call Part) (below : Reservations) (chip : Chip) (w : World) (s : McuState) (r : Fill) (i : ℕ) → section_of d r.section ≡ Some (section_in r) → i < r.size → McuRepresents d (record held { what = record { section = r.section; upto = i } } ∷ below) chip w s → McuRepresents d (record held { what = record { section = r.section; upto = i + 1 } } ∷ below) (chip_after chip (fill_move r i) 0) w s
  grown held below chip w s r i e lt h = record {
    right = h.right;
    all = all_moved chip (fill_move r i) 0 h.all;
    clock = h.clock;
    rate = h.rate;
    pll = h.pll;
    state = h.state;
    mode = h.mode;
    ram = λ k there. by k there (k == r.base + i) refl;
  }
    where
      x : Section
      x = section_in r

      j : ℕ
      j = r.base + i

      old : ℕ → ℕ
      old k = want d below (ram_at s) k

      by : (k : ℕ) → k < 512 → (q : Bool) → (k == j) ≡ q → slice_index (chip_after chip (fill_move r i) 0).ram k ≡ done_by (section_of d r.section) (i + 1) (old k) k
      by k there true is =
          let same : k ≡ j = grind (arith, nat_tests) in
          let within : j < length chip.ram = omega (arith, h.all.ram, fits_in r i e lt) in
          ap (λ n. slice_index (chip_after chip (fill_move r i) 0).ram n) same ∙ (get_or-set_same chip.ram j r.value 0 within ∙ sym (ap (λ z. done_by z (i + 1) (old k) k) e ∙ if_true (is_done x (i + 1) k) r.value (old k) (one_done x i k lt same)))
      by k there false is =
          let ne : k ≢ j = eq_isnt k j is in
          get_or-set_other chip.ram j k r.value 0 ne ∙ (h.ram k there ∙ (ap (λ z. done_by z i (old k) k) e ∙ (ap (λ q. if q then r.value else old k) (others_done x i k ne) ∙ sym (ap (λ z. done_by z (i + 1) (old k) k) e))))

  named_there : (j : ℕ) → j < 512 → nat_lt j 512 ≡ true
  named_there j lt = grind (arith, nat_tests)

  pub fill_right : AreLong (mcu_basis d) (fill_bodies d)
  fill_right = sweep_right (mcu_basis d) (filling d) (filled_bodies d) (basis_right d) filled_right (record {
    own = λ r i below o t lt h. named_there (r.base + i) (fits_in r i h.1 lt);
    still = λ r i. (refl, refl);
    step = λ r i below chip w s o t lt h a. grown (record { by = o; what = record { section = 0; upto = 0 }; acted = t.acted }) below chip w s r i h.1 lt a;
    stays = λ r i below w o t h. h;
    follows = λ r below chip w s o t h a. (a, h);
    closed = λ r. refl;
    room = λ r below o t h. omega arith;
    unclean = λ k. refl;
  })

-- ---- the beginning

-- what lets a call of the section begin holds nothing of it
pub free_by : (d : McuTable) (on : Bool) (n : ℕ) (below : Reservations) → AllRight on below → AllLet (mcu_setting d) (class_of (InitRamSection n)) below → Free n below
free_by d on n [] right let_all = tt
free_by d on n (h ∷ hs) right let_all = (subst (λ q. blocks (class_of (InitRamSection n)) (mark_of (mcu_setting d) q) ≡ false) right.0 let_all.0, free_by d on n hs right.2 let_all.1)

pub begun : (d : McuTable) (below : Reservations) (chip : Chip) (w : World) (s : McuState) (n : ℕ) (x : Section) → section_of d n ≡ Some x → s.initialised ≡ true → McuRepresents d below chip w s → McuRepresents d (record { by = Called (InitRamSection n); what = record { section = n; upto = 0 }; acted = None } ∷ below) chip w s
begun d below chip w s n x e on h = record {
  right = (refl, on, h.right);
  all = h.all;
  clock = h.clock;
  rate = h.rate;
  pll = h.pll;
  state = h.state;
  mode = h.mode;
  ram = λ k lt. h.ram k lt ∙ sym (ap (λ z. done_by z 0 (want d below (ram_at s) k) k) e ∙ if_false (is_done x 0 k) x.default_value (want d below (ram_at s) k) (none_done x k));
}
