-- What stands of a module that is being initialised, and what the steps of Spi_Init change of it.
-- From words.SideWords, words.Cases, words.WordsOfModule, service_outline: Words, hardware.SourceFilled and 2 more.
-- Used by services.InitActRight, services.InitRight, bookkeeping.NextChosen, spi_laws: starting.words.UnitWords.
use Rattle.std.proofs.Common.{◌≡◌, ◌≢◌, ◌+◌, ◌*◌, ◌%◌, ◌/◌, ◌<◌, ◌==◌, ◌&&◌, [], ◌∷◌, ◌∙◌, ◌⊎◌, ◌++◌, if◌then◌else◌}
use Rattle.spi_sequences.specs.Terms
use Terms.{ap, arith, Banks, BanksAgree, Bool, Call, Called, carried_at, CarriesAgrees, Carrying, cases, Channel}
use Terms.{channel_of, Chip, chip_after, chooses, choosing, commits, committing, Contains, entry_carried, false}
use Terms.{filling, fills, FitsSpi, flat_map-cons, Going, HoldsArrays, Init, inl, inr, is_off, is_own_word}
use Terms.{is_sync_unit, IsSoundState, Keeps, length, LinesAgree, List, Memory, mode_word, None, not, Option, or_rest}
use Terms.{own-control, own-word, Pins, placed_of, Preparing, put_held, PutRight, Putting, readied_by, readied_in}
use Terms.{Received, refl, replicate, Reservation, Reservations, ReservedBy, run_at, run_carried, same_or_other, Sent}
use Terms.{Side, Some, some_is, some_or_none, SOURCES, SpiRepresents, SpiState, SpiTable, stands-agree, stands-move}
use Terms.{StandsIn, STATE, Store, stored_by, stored_in, stored_other, stored_same, subst, suc, sym, take_held}
use Terms.{TakeRight, Taking, trio_of, TripleBuffer, true, unit_at, UnitAgrees, view, whether, WiredAs, word_of, World}
use Terms.{zero, ℕ}
use Rattle.spi_sequences.specs.laws.{hardware.SourceFilled.{own_low}, hardware.StableUnderHardware.{none_in}}
use Rattle.spi_sequences.specs.laws.{words.JobPlaces.{none_by}, words.SideWords.{mine, not_first, not_of_other}}
use Rattle.spi_sequences.specs.laws.words.SideWords.{sides_apart, stands_by_store, trio_fits}
use Rattle.spi_sequences.specs.laws.words.WordsOfModule.{has_channel, of_banks, own_banks}
use Rattle.spi_sequences.specs.laws.words.WordsToState.{other_number, same_number}
use Rattle.word_shapes.specs.TripleBuffer as trio

-- ---- what is held

-- what Spi_Init holds: words that it has stored, sides of channels that have their first words, and a side that it
-- fills
abbrev pub prep : (stored : List (ℕ × ℕ)) → (readied : List (ℕ × Bool)) → Option (ℕ × Bool × Putting) → Reservations
prep st rd x = record { by = Called Init; what = Preparing st rd x; acted = None } ∷ []

abbrev pub is_in : Side → Bool
is_in Sent = false
is_in Received = true

-- the words of a side at first
abbrev pub first_of : Channel → Side → ℕ
first_of k Sent = k.default_data
first_of k Received = 0

abbrev pub put_at : Option (ℕ × Bool × Putting) → (channel : ℕ) → (received : Bool) → Option Putting
put_at None c r = None
put_at (Some x) c r = if x.0 == c && (if x.1 then r else not r) then Some x.2 else None

pub in_cons : {A : Type 0} (y : A) (ys : List A) (x : A) → Contains (y ∷ ys) x → (y ≡ x) ⊎ Contains ys x
in_cons y ys x (zero, lt, e) = inl (cc)
in_cons y ys x (suc i, lt, e) = inr (i, omega (arith, lt), e)

pub in_first : {A : Type 0} (y : A) (ys : List A) → Contains (y ∷ ys) y
in_first y ys = (0, omega arith, refl)

pub in_later : {A : Type 0} (y : A) (ys : List A) (x : A) → Contains ys x → Contains (y ∷ ys) x
in_later y ys x (i, lt, e) = (suc i, omega (arith, lt), e)

append_none : {A : Type 0} (xs : List A) → xs ++ [] ≡ xs
append_none [] = refl
append_none (x ∷ xs) = ap (λ ys. x ∷ ys) (append_none xs)

put_prep : (d : SpiTable) (sources : ℕ → List ℕ) (st : List (ℕ × ℕ)) (rd : List (ℕ × Bool)) (x : Option (ℕ × Bool × Putting)) (c : ℕ) (r : Bool) → put_held d sources c r (prep st rd x) ≡ put_at x c r
put_prep d sources st rd None c r = refl
put_prep d sources st rd (Some x) c r =
    elim (x.0 == c && (if x.1 then r else not r)) as (λ q. or_rest (if q then Some x.2 else None) None ≡ (if q then Some x.2 else None))
    [ true ↦ refl | false ↦ refl ]

readied_prep : (st : List (ℕ × ℕ)) (rd : List (ℕ × Bool)) (x : Option (ℕ × Bool × Putting)) → readied_in (prep st rd x) ≡ rd
readied_prep st rd x = flat_map-cons (λ (h : ReservedBy Call Reservation). readied_by h.what) (record { by = Called Init; what = Preparing st rd x; acted = None }) [] ∙ append_none rd

stored_prep : (st : List (ℕ × ℕ)) (rd : List (ℕ × Bool)) (x : Option (ℕ × Bool × Putting)) → stored_in (prep st rd x) ≡ st
stored_prep st rd x = flat_map-cons (λ (h : ReservedBy Call Reservation). stored_by h.what) (record { by = Called Init; what = Preparing st rd x; acted = None }) [] ∙ append_none st

-- ---- what stands

-- a side of a channel: its first words are the newest where it is readied, and it is filled where that is held
pub record SidePrepared (d : SpiTable) (m : Memory) (rd : List (ℕ × Bool)) (x : Option (ℕ × Bool × Putting)) (c : ℕ) (k : Channel) (side : Side) : Type 0 where
  pub banks : Banks
  pub stands : trio.Stands (trio_of (placed_of d c) side) m banks
  pub readied : Contains rd (c, is_in side) → banks.newest ≡ replicate k.length (first_of k side)
  pub none : banks.take ≡ None
  pub put : banks.put ≡ put_at x c (is_in side)

pub record Prepared (d : SpiTable) (st : List (ℕ × ℕ)) (rd : List (ℕ × Bool)) (x : Option (ℕ × Bool × Putting)) (chip : Chip) (w : World) (s : SpiState) : Type 0 where
  pub outside : StandsIn chip w
  pub wired : WiredAs d chip
  pub size : length chip.serials.units ≡ 2
  pub sound : IsSoundState d (view s)
  pub off : is_off s.mode ≡ true
  pub units : (u : ℕ) → u < 2 → (unit_at chip.serials u).word ≡ None
  pub state : word_of chip STATE ≡ mode_word s.mode
  pub sides : (c : ℕ) (k : Channel) → channel_of d c ≡ Some k → k.internal ≡ true → (side : Side) → SidePrepared d (word_of chip) rd x c k side
  pub stored : (j n : ℕ) → Contains st (j, n) → (is_own_word d j ≡ true) × (word_of chip j ≡ n)
  pub arrays : (c : ℕ) → HoldsArrays (word_of chip) d s c
  pub lines : LinesAgree d s.mode chip.control.enabled

-- an uninitialised module runs no job
no_run_carried : (o : Option Carrying) → entry_carried o ≡ None → run_carried o ≡ None
no_run_carried None e = refl
no_run_carried (Some x) e = absurd (cc)

-- the agreement says so
module _ (d : SpiTable) (held : Reservations) (chip : Chip) (w : World) (s : SpiState) (h : SpiRepresents d held chip w s) (off : is_off s.mode ≡ true) where
  free : (u : ℕ) → u < 2 → h.going u ≡ None
  free u lt = some_or_none (h.going u)
      (λ g e. absurd (whether (is_sync_unit d u)
      (λ sync. let a = subst (λ o. CarriesAgrees d (unit_at chip.serials u) (run_carried (carried_at s u)) o) e (h.sends u lt sync) in let f = sym (no_run_carried (carried_at s u) (h.sound.carries.off off u)) ∙ a.1 in cc)
      (λ async. let a = subst (λ o. UnitAgrees d (unit_at chip.serials u) (run_at s u) o) e (h.units u lt async) in let f = sym (none_by (run_at s u) ((h.sound.off off).1 u)) ∙ a.1 in cc)))
      (λ e. e)

  word_free : (u : ℕ) → u < 2 → (unit_at chip.serials u).word ≡ None
  word_free u lt = whether (is_sync_unit d u)
      (λ sync. (subst (λ g. CarriesAgrees d (unit_at chip.serials u) (run_carried (carried_at s u)) g) (free u lt) (h.sends u lt sync)).0)
      (λ async. (subst (λ g. UnitAgrees d (unit_at chip.serials u) (run_at s u) g) (free u lt) (h.units u lt async)).0)

  no_take : (c : ℕ) (o : Option Taking) → TakeRight h.going c o → o ≡ None
  no_take c None t = refl
  no_take c (Some y) t = absurd (subst (λ g. Pins g c y.kept) (free t.0 t.1) t.2)

  no_other_put : (c : ℕ) (held p : Option Putting) → PutRight h.going (word_of chip) (placed_of d c) held p → p ≡ held
  no_other_put c None None t = refl
  no_other_put c None (Some y) t = absurd (subst (λ g. Keeps g c y.filled) (free t.0 t.1) t.2)
  no_other_put c (Some y) p t = t

  module _ (st : List (ℕ × ℕ)) (rd : List (ℕ × Bool)) (x : Option (ℕ × Bool × Putting))
      (readied : (y : ℕ × Bool) → Contains rd y → Contains (readied_in held) y) (stored : (y : ℕ × ℕ) → Contains st y → Contains (stored_in held) y)
      (takes : (c : ℕ) → take_held c held ≡ None) (puts : (c : ℕ) (r : Bool) → put_held d (view s).sources c r held ≡ put_at x c r) where
    side_of : (c : ℕ) (k : Channel) (side : Side) → BanksAgree d held h.going (word_of chip) (view s) c k → SidePrepared d (word_of chip) rd x c k side
    side_of c k Sent b = record { banks = b.sent; stands = b.sends; readied = λ is. b.readied_sent (readied (c, false) is); none = no_take c b.sent.take b.pinned; put = b.writes ∙ puts c false }
    side_of c k Received b = record { banks = b.received; stands = b.receives; readied = λ is. b.readied_received (readied (c, true) is); none = b.reads ∙ takes c; put = no_other_put c (put_held d (view s).sources c true held) b.received.put b.keeps ∙ puts c true }

    prepared : Prepared d st rd x chip w s
    prepared = record {
      outside = h.outside;
      wired = h.wired;
      size = h.size;
      sound = h.sound;
      off = off;
      units = word_free;
      state = h.words.state;
      sides = λ c k e internal side. side_of c k side (h.words.banks c k e internal);
      stored = λ j n is. h.words.stored j n (stored (j, n) is);
      arrays = h.arrays;
      lines = h.lines;
    }

-- at first nothing is stored
pub prepared_first : (d : SpiTable) (chip : Chip) (w : World) (s : SpiState) → is_off s.mode ≡ true → SpiRepresents d [] chip w s → Prepared d [] [] None chip w s
prepared_first d chip w s off h = prepared d [] chip w s h off [] [] None (λ y is. absurd (none_in y is)) (λ y is. absurd (none_in y is)) (λ c. refl) (λ c r. refl)

pub prepared_by : (d : SpiTable) (st : List (ℕ × ℕ)) (rd : List (ℕ × Bool)) (x : Option (ℕ × Bool × Putting)) (chip : Chip) (w : World) (s : SpiState) → SpiRepresents d (prep st rd x) chip w s → Prepared d st rd x chip w s
prepared_by d st rd x chip w s h = prepared d (prep st rd x) chip w s h h.right.0.1 st rd x (λ y is. subst (λ ys. Contains ys y) (sym (readied_prep st rd x)) is) (λ y is. subst (λ ys. Contains ys y) (sym (stored_prep st rd x)) is) (λ c. refl) (λ c r. put_prep d (view s).sources st rd x c r)

-- and stands where that does
module _ (d : SpiTable) (st : List (ℕ × ℕ)) (rd : List (ℕ × Bool)) (x : Option (ℕ × Bool × Putting)) (chip : Chip) (w : World) (s : SpiState) (p : Prepared d st rd x chip w s) where
  abbrev none_going : ℕ → Option Going
  none_going u = None

  banks_of : (c : ℕ) (k : Channel) → SidePrepared d (word_of chip) rd x c k Sent → SidePrepared d (word_of chip) rd x c k Received → BanksAgree d (prep st rd x) none_going (word_of chip) (view s) c k
  banks_of c k a b = record {
    sent = a.banks;
    sends = a.stands;
    written = λ e. absurd (cc);
    readied_sent = λ is. a.readied (subst (λ ys. Contains ys (c, false)) (readied_prep st rd x) is);
    pinned = subst (λ o. TakeRight none_going c o) (sym a.none) (λ u lt. tt);
    writes = a.put ∙ sym (put_prep d (view s).sources st rd x c false);
    received = b.banks;
    receives = b.stands;
    readable = λ e. absurd (cc);
    readied_received = λ is. b.readied (subst (λ ys. Contains ys (c, true)) (readied_prep st rd x) is);
    reads = b.none;
    keeps = subst (λ o. PutRight none_going (word_of chip) (placed_of d c) (put_held d (view s).sources c true (prep st rd x)) o) (sym (b.put ∙ sym (put_prep d (view s).sources st rd x c true))) (same_put (put_held d (view s).sources c true (prep st rd x)));
  }
    where
      same_put : (o : Option Putting) → PutRight none_going (word_of chip) (placed_of d c) o o
      same_put None = λ u lt. tt
      same_put (Some y) = refl

  pub prepared_agrees : SpiRepresents d (prep st rd x) chip w s
  prepared_agrees = record {
    right = ((refl, p.off), tt);
    outside = p.outside;
    wired = p.wired;
    size = p.size;
    sound = p.sound;
    going = none_going;
    nexts = λ u lt. tt;
    units = λ u lt async. (p.units u lt, none_by (run_at s u) ((p.sound.off p.off).1 u));
    sends = λ u lt sync. (p.units u lt, no_run_carried (carried_at s u) (p.sound.carries.off p.off u));
    sending = (tt, tt);
    carriers = λ u y e. absurd (let no = sym e ∙ p.sound.carries.off p.off u in cc);
    words = record {
      state = p.state;
      on = λ on. absurd (let e = sym on ∙ p.off in cc);
      banks = λ c k e internal. banks_of c k (p.sides c k e internal Sent) (p.sides c k e internal Received);
      stored = λ j n is. p.stored j n (subst (λ ys. Contains ys (j, n)) (stored_prep st rd x) is);
    };
    set_ups = λ on. absurd (let e = sym on ∙ p.off in cc);
    sizes = λ on. absurd (let e = sym on ∙ p.off in cc);
    arrays = p.arrays;
    lines = p.lines;
    owed = λ u y lt going there for. absurd (none_in y (subst (λ ys. Contains ys y) (p.sound.off p.off).0 there));
  }

-- ---- what is elsewhere

pub same_side : (a b : Side) → (a ≡ b) ⊎ (is_in a ≡ not (is_in b))
same_side Sent Received = inr refl
same_side Received Sent = inr refl
same_side _ _ = inl refl

-- the put of a side is of no other one
put_here : (c : ℕ) (side : Side) (p : Putting) → put_at (Some (c, is_in side, p)) c (is_in side) ≡ Some p
put_here c Sent p = ap (λ q. if q && true then Some p else None) (same_number c)
put_here c Received p = ap (λ q. if q && true then Some p else None) (same_number c)

put_of_channel : (c n : ℕ) (r r1 : Bool) (p : Putting) → n ≢ c → put_at (Some (c, r, p)) n r1 ≡ None
put_of_channel c n r r1 p ne = ap (λ q. if q && (if r then r1 else not r1) then Some p else None) (other_number c n (λ e. ne (sym e)))

put_of_side : (c n : ℕ) (side other : Side) (p : Putting) → is_in other ≡ not (is_in side) → put_at (Some (c, is_in side, p)) n (is_in other) ≡ None
put_of_side c n Sent Received p e =
    elim (c == n) as (λ q. (if q && false then Some p else None) ≡ None)
    [ true ↦ refl | false ↦ refl ]
put_of_side c n Received Sent p e =
    elim (c == n) as (λ q. (if q && false then Some p else None) ≡ None)
    [ true ↦ refl | false ↦ refl ]
put_of_side c n _ _ p e = absurd (cc)

module _ (d : SpiTable) (fits : FitsSpi d) (c : ℕ) (k : Channel) (known : channel_of d c ≡ Some k) (internal : k.internal ≡ true) (side : Side) where
  -- another side, or one of another channel
  pub record IsElsewhere (n : ℕ) (other : Side) : Type 0 where
    pub put : (p : Putting) → put_at (Some (c, is_in side, p)) n (is_in other) ≡ None
    pub readied : (rd : List (ℕ × Bool)) → Contains ((c, is_in side) ∷ rd) (n, is_in other) → Contains rd (n, is_in other)
    pub apart : (j : ℕ) → mine d fits c k known internal side j ≡ true → trio.own_of (trio_of (placed_of d n) other) j ≡ false

  elsewhere_by : (n : ℕ) (k1 : Channel) (other : Side) → channel_of d n ≡ Some k1 → k1.internal ≡ true → (n ≡ c) ⊎ (n ≢ c) → (other ≡ side) ⊎ (is_in other ≡ not (is_in side)) → ((n ≡ c) × (other ≡ side)) ⊎ IsElsewhere n other
  elsewhere_by n k1 other e i (inl at) (inl is) = inl (at, is)
  elsewhere_by n k1 other e i (inl at) (inr ne) = inr (record {
    put = λ p. put_of_side c n side other p ne;
    readied = λ rd is. cases (in_cons (c, is_in side) rd (n, is_in other) is)
        (λ f. absurd (let g = ap (λ y. y.1) f ∙ ne in unlike (is_in side) g))
        (λ is. is);
    apart = λ j own. subst (λ m. trio.own_of (trio_of (placed_of d m) other) j ≡ false) (sym at) (by side other ne j own);
  })
    where
      unlike : (b : Bool) → b ≡ not b → ⊥
      unlike true f = absurd (cc)
      unlike false f = absurd (cc)

      by : (side other : Side) → is_in other ≡ not (is_in side) → (j : ℕ) → trio.own_of (trio_of (placed_of d c) side) j ≡ true → trio.own_of (trio_of (placed_of d c) other) j ≡ false
      by Sent Received f j own = sides_apart (placed_of d c) Received j own
      by Received Sent f j own = sides_apart (placed_of d c) Sent j own
      by _ _ f j own = absurd (cc)
  elsewhere_by n k1 other e i (inr ne) is = inr (record {
    put = λ p. put_of_channel c n (is_in side) (is_in other) p ne;
    readied = λ rd there. cases (in_cons (c, is_in side) rd (n, is_in other) there)
        (λ f. absurd (ne (sym (ap (λ y. y.0) f))))
        (λ there. there);
    apart = λ j own. not_of_other d fits n k1 e i other c k j (λ f. ne (sym f)) known (of_banks d fits c k known internal side j own);
  })

  pub elsewhere : (n : ℕ) (k1 : Channel) (other : Side) → channel_of d n ≡ Some k1 → k1.internal ≡ true → ((n ≡ c) × (other ≡ side)) ⊎ IsElsewhere n other
  elsewhere n k1 other e i = elsewhere_by n k1 other e i (same_or_other n c) (same_side other side)

-- ---- what the steps leave

module _ (d : SpiTable) (fits : FitsSpi d) (st : List (ℕ × ℕ)) (rd : List (ℕ × Bool)) (x : Option (ℕ × Bool × Putting)) (chip : Chip) (w : World) (s : SpiState) (p : Prepared d st rd x chip w s) where
  -- a side of other words than the one that is stored
  pub side_stays : (j v : ℕ) (rd1 : List (ℕ × Bool)) (x1 : Option (ℕ × Bool × Putting)) (c : ℕ) (k : Channel) (side : Side) → trio.own_of (trio_of (placed_of d c) side) j ≡ false → (Contains rd1 (c, is_in side) → Contains rd (c, is_in side))
      → put_at x1 c (is_in side) ≡ put_at x c (is_in side) → SidePrepared d (word_of chip) rd x c k side → SidePrepared d (word_of (chip_after chip (Store j v) 0)) rd1 x1 c k side
  side_stays j v rd1 x1 c k side apart readied puts a = record {
    banks = a.banks;
    stands = stands-agree (trio_of (placed_of d c) side) (word_of chip) (word_of (chip_after chip (Store j v) 0)) a.banks (λ i is. sym (stored_other chip j v 0 i (λ e. let f = sym is ∙ ap (trio.own_of (trio_of (placed_of d c) side)) e ∙ apart in absurd (cc)))) a.stands;
    readied = λ is. a.readied (readied is);
    none = a.none;
    put = a.put ∙ sym puts;
  }

  -- a store of a driver word of the module
  module _ (j v : ℕ) (own : is_own_word d j ≡ true) (ne : j ≢ STATE) where
    abbrev after_store : Chip
    after_store = chip_after chip (Store j v) 0

    low : j < SOURCES
    low = own_low d fits j own

    other : (i : ℕ) → i ≢ j → word_of after_store i ≡ word_of chip i
    other i differs = stored_other chip j v 0 i differs

    here : word_of after_store j ≡ v
    here = stored_same chip j v 0 (omega (arith, low)) p.outside.all.words

    stored_prepared : (st1 : List (ℕ × ℕ)) (rd1 : List (ℕ × Bool)) (x1 : Option (ℕ × Bool × Putting))
        → ((c : ℕ) (k : Channel) → channel_of d c ≡ Some k → k.internal ≡ true → (side : Side) → SidePrepared d (word_of after_store) rd1 x1 c k side)
        → ((i n : ℕ) → Contains st1 (i, n) → (is_own_word d i ≡ true) × (word_of after_store i ≡ n)) → Prepared d st1 rd1 x1 after_store w s
    stored_prepared st1 rd1 x1 sides stored = record {
      outside = stands-move chip w (Store j v) 0 p.outside;
      wired = p.wired;
      size = p.size;
      sound = p.sound;
      off = p.off;
      units = p.units;
      state = other STATE (λ e. ne (sym e)) ∙ p.state;
      sides = sides;
      stored = stored;
      arrays = λ c. record { source = λ i lt. other _ (λ f. omega (arith, f, low)) ∙ (p.arrays c).source i lt; destination = λ i lt. other _ (λ f. omega (arith, f, low)) ∙ (p.arrays c).destination i lt };
      lines = p.lines;
    }

  -- a word that is of no bank is cleared
  pub cleared : (j : ℕ) → is_own_word d j ≡ true → j ≢ STATE → ((c : ℕ) (k : Channel) → channel_of d c ≡ Some k → k.internal ≡ true → (side : Side) → trio.own_of (trio_of (placed_of d c) side) j ≡ false)
      → ((i n : ℕ) → Contains st (i, n) → n ≡ 0) → Prepared d ((j, 0) ∷ st) rd x (chip_after chip (Store j 0) 0) w s
  cleared j own ne apart zeros = stored_prepared j 0 own ne ((j, 0) ∷ st) rd x (λ c k e internal side. side_stays j 0 rd x c k side (apart c k e internal side) (λ is. is) refl (p.sides c k e internal side)) (λ i n is. cases (in_cons (j, 0) st (i, n) is)
      (λ e. let a : j ≡ i = ap (λ y. y.0) e in let b : 0 ≡ n = ap (λ y. y.1) e in (subst (λ m. is_own_word d m ≡ true) a own, ap (word_of (chip_after chip (Store j 0) 0)) (sym a) ∙ here j 0 own ne ∙ b))
      (λ is. ((p.stored i n is).0, still i n is (same_or_other i j))))
    where
      still : (i n : ℕ) → Contains st (i, n) → (i ≡ j) ⊎ (i ≢ j) → word_of (chip_after chip (Store j 0) 0) i ≡ n
      still i n is (inl e) = ap (word_of (chip_after chip (Store j 0) 0)) e ∙ here j 0 own ne ∙ sym (zeros i n is)
      still i n is (inr differs) = other j 0 own ne i differs ∙ (p.stored i n is).1

-- a side is filled with its first words
module _ (d : SpiTable) (fits : FitsSpi d) (c : ℕ) (k : Channel) (known : channel_of d c ≡ Some k) (internal : k.internal ≡ true) (side : Side) (st : List (ℕ × ℕ)) (rd : List (ℕ × Bool)) (chip : Chip) (w : World) (s : SpiState) where
  abbrev at : TripleBuffer
  at = trio_of (placed_of d c) side

  abbrev filling_with : ℕ → List ℕ → Option (ℕ × Bool × Putting)
  filling_with b xs = Some (c, is_in side, record { bank = b; filled = xs })

  fit : trio.Fits at
  fit = trio_fits d fits c k known internal side

  width : at.len ≡ k.length
  width =
      elim side as (λ side. (trio_of (placed_of d c) side).len ≡ k.length)
      [ Sent ↦ ap (λ x. x.length) (has_channel d fits c k known) | Received ↦ ap (λ x. x.length) (has_channel d fits c k known) ]

  -- the side itself, and those elsewhere
  sides_by : (m : Memory) (rd1 : List (ℕ × Bool)) (x1 : Option (ℕ × Bool × Putting)) → SidePrepared d m rd1 x1 c k side → ((n : ℕ) (k1 : Channel) (other : Side) → channel_of d n ≡ Some k1 → k1.internal ≡ true → IsElsewhere d fits c k known internal side n other → SidePrepared d m rd1 x1 n k1 other)
      → (n : ℕ) (k1 : Channel) → channel_of d n ≡ Some k1 → k1.internal ≡ true → (other : Side) → SidePrepared d m rd1 x1 n k1 other
  sides_by m rd1 x1 mine others n k1 e i other = cases (elsewhere d fits c k known internal side n k1 other e i)
      (λ (at, is).
      let same : k1 ≡ k = some_is k1 k (sym e ∙ ap (channel_of d) at ∙ known) in
      subst (λ i. SidePrepared d m rd1 x1 i k1 other) (sym at) (subst (λ z. SidePrepared d m rd1 x1 c z other) (sym same) (subst (λ z. SidePrepared d m rd1 x1 c k z) (sym is) mine)))
      (λ far. others n k1 other e i far)

  -- a bank is chosen
  pub chosen : Prepared d st rd None chip w s → (b : ℕ) → b ≡ trio.free (word_of chip at.control) → Prepared d st rd (filling_with b []) chip w s
  chosen p b is = record {
    outside = p.outside;
    wired = p.wired;
    size = p.size;
    sound = p.sound;
    off = p.off;
    units = p.units;
    state = p.state;
    sides = sides_by (word_of chip) rd (filling_with b []) (mine_now (p.sides c k known internal side)) (λ n k1 other e i far. let a = p.sides n k1 e i other in record { banks = a.banks; stands = a.stands; readied = a.readied; none = a.none; put = a.put ∙ sym (far.put (record { bank = b; filled = [] })) });
    stored = p.stored;
    arrays = p.arrays;
    lines = p.lines;
  }
    where
      mine_now : SidePrepared d (word_of chip) rd None c k side → SidePrepared d (word_of chip) rd (filling_with b []) c k side
      mine_now a = record { banks = choosing b a.banks; stands = subst (λ n. trio.Stands at (word_of chip) (choosing n a.banks)) (sym is) (chooses at (word_of chip) a.banks a.stands); readied = a.readied; none = a.none; put = sym (put_here c side (record { bank = b; filled = [] })) }

  module _ (b : ℕ) (xs : List ℕ) (p : Prepared d st rd (filling_with b xs) chip w s) where
    abbrev put_now : Putting
    put_now = record { bank = b; filled = xs }

    mine_was : SidePrepared d (word_of chip) rd (filling_with b xs) c k side
    mine_was = p.sides c k known internal side

    open_put : mine_was.banks.put ≡ Some put_now
    open_put = mine_was.put ∙ put_here c side put_now

    pub small : b < 3
    small = (subst (λ o. trio.PutIn at (word_of chip) mine_was.banks.bank mine_was.banks.take o) open_put mine_was.stands.put).below

    not_state : (j : ℕ) → mine d fits c k known internal side j ≡ true → j ≢ STATE
    not_state j own e = absurd (let f = sym own ∙ ap (mine d fits c k known internal side) e ∙ not_first d fits c k known internal side STATE (omega arith) in cc)

    still : (j v : ℕ) → mine d fits c k known internal side j ≡ true → ((i n : ℕ) → Contains st (i, n) → mine d fits c k known internal side i ≡ false) → (i n : ℕ) → Contains st (i, n) → (is_own_word d i ≡ true) × (word_of (chip_after chip (Store j v) 0) i ≡ n)
    still j v own apart i n is = ((p.stored i n is).0, stored_other chip j v 0 i (λ e. absurd (let f = sym own ∙ ap (mine d fits c k known internal side) (sym e) ∙ apart i n is in cc)) ∙ (p.stored i n is).1)

    -- the next word is filled in
    pub filled_on : (v : ℕ) → length xs < k.length → ((i n : ℕ) → Contains st (i, n) → mine d fits c k known internal side i ≡ false) → Prepared d st rd (filling_with b (xs ++ v ∷ [])) (chip_after chip (Store (trio.word_at at b (length xs)) v) 0) w s
    filled_on v lt apart =
        let j : ℕ = trio.word_at at b (length xs) in
        let own : mine d fits c k known internal side j ≡ true = own-word at b (length xs) small (omega (arith, lt, width)) in
        let of_module = own_banks d fits c k known internal side j own in
        let p1 : Putting = record { bank = b; filled = xs ++ v ∷ [] } in
        stored_prepared d fits st rd (filling_with b xs) chip w s p j v of_module (not_state j own) st rd (filling_with b (xs ++ v ∷ []))
        (sides_by (word_of (chip_after chip (Store j v) 0)) rd (filling_with b (xs ++ v ∷ []))
        (record {
          banks = filling v put_now mine_was.banks;
          stands = stands_by_store at chip j v (filling v put_now mine_was.banks) fit p.outside.all.words own (fills at (word_of chip) mine_was.banks put_now v fit (omega (arith, lt, width)) open_put mine_was.stands);
          readied = mine_was.readied;
          none = mine_was.none;
          put = sym (put_here c side p1);
        })
        (λ n k1 other e i far. side_stays d fits st rd (filling_with b xs) chip w s p j v rd (filling_with b (xs ++ v ∷ [])) n k1 other (far.apart j own) (λ is. is) (far.put p1 ∙ sym (far.put put_now)) (p.sides n k1 e i other)))
        (still j v own apart)

    -- the bank is the newest
    pub committed : xs ≡ replicate k.length (first_of k side) → length xs ≡ k.length → ((i n : ℕ) → Contains st (i, n) → mine d fits c k known internal side i ≡ false)
        → Prepared d st ((c, is_in side) ∷ rd) None (chip_after chip (Store at.control (b % 4 + 4 * (word_of chip at.control / 4))) 0) w s
    committed is all apart =
        let v : ℕ = b % 4 + 4 * (word_of chip at.control / 4) in
        let own : mine d fits c k known internal side at.control ≡ true = own-control at in
        let of_module = own_banks d fits c k known internal side at.control own in
        stored_prepared d fits st rd (filling_with b xs) chip w s p at.control v of_module (not_state at.control own) st ((c, is_in side) ∷ rd) None
        (sides_by (word_of (chip_after chip (Store at.control v) 0)) ((c, is_in side) ∷ rd) None
        (record {
          banks = committing put_now mine_was.banks;
          stands = stands_by_store at chip at.control v (committing put_now mine_was.banks) fit p.outside.all.words own (commits at (word_of chip) mine_was.banks put_now fit (all ∙ sym width) open_put mine_was.stands);
          readied = λ there. is;
          none = mine_was.none;
          put = refl;
        })
        (λ n k1 other e i far. side_stays d fits st rd (filling_with b xs) chip w s p at.control v ((c, is_in side) ∷ rd) None n k1 other (far.apart at.control own) (far.readied rd) (sym (far.put put_now)) (p.sides n k1 e i other)))
        (still at.control v own apart)
