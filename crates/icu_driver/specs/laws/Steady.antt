-- What a family of bodies owes: what its places rest on stays while the hardware moves.
-- From module_machines: icu.Channels, module_machines: icu.Edges, Parts, service_outline: Acts, Tables and 1 more.
-- Used by SampleRight, KeepRight, Change, DetectRight, Duty and 8 more.
use Rattle.std.proofs.Common.{◌≡◌, ◌+◌, ◌%◌, ◌<◌, ◌^◌, ◌==◌, [], ◌∷◌, ◌++◌, ◌∙◌, if◌then◌else◌}
use Rattle.icu_driver.specs.Terms
use Terms.{acting, ap, AreRight, arith, At, at_bits, bare, bare_block, Bodies, BodyTaken, Bool, by_channel}
use Terms.{by_channel_at, by_if, Call, Capture, capture_at, Captures, Catch, caught-bare, Channel, channel_of}
use Terms.{channels_at, Chip, Cleans, Edge, edge_at_pin, edge_queued, edge_taken, enumerate_from, false, Fill, happened, has_bit, icu_ground, icu_may, IcuTable, IcuState, is_counter, is_same, is_taken, Lag, length, Level, level_leaves, List, map, marks_of, Move, moved, nat_lt, never_clean, None, not, Option, Order, Origin, pin_still, refl, RightAt, same_marks, Shortens, Some, still, subst, sym, Told, true, word_later, word_of, WORDS, World, ℕ}
use Rattle.chip_blocks.specs.declared.captures.capture.Capture as chips

-- ---- the block, but for what edges change

see_if : (q : Bool) (a b v : chips.Capture) → bare a ≡ v → bare b ≡ v → bare (if q then a else b) ≡ v
see_if true a b v h i = h
see_if false a b v h i = i

bare_from : (f : ℕ → chips.Capture → chips.Capture) → ((k : ℕ) (b : chips.Capture) → bare (f k b) ≡ bare b) → (value i : ℕ) (xs : List chips.Capture) → map bare (map (λ (p : ℕ × chips.Capture). if has_bit value p.0 then f p.0 p.1 else p.1) (enumerate_from i xs)) ≡ map bare xs
bare_from f same value i [] = refl
bare_from f same value i (x ∷ xs) = ap (λ y. y ∷ map bare (map (λ (p : ℕ × chips.Capture). if has_bit value p.0 then f p.0 p.1 else p.1) (enumerate_from (i + 1) xs))) (see_if (has_bit value i) (f i x) x (bare x) (same i x) refl) ∙ ap (λ ys. bare x ∷ ys) (bare_from f same value (i + 1) xs)

bare_each : (f : ℕ → chips.Capture → chips.Capture) → ((k : ℕ) (b : chips.Capture) → bare (f k b) ≡ bare b) → (value : ℕ) (xs : List chips.Capture) → map bare (at_bits f value xs) ≡ map bare xs
unfolding at_bits
bare_each f same value xs = bare_from f same value 0 xs

foot_later : (d : IcuTable) (chip : Chip) (order : Order) → length chip.words ≡ WORDS → (icu_ground d).foot (happened chip order) ≡ (icu_ground d).foot chip
foot_later d chip (Level p v) size = level_leaves (λ c. (icu_ground d).foot c) chip p v (ap (λ xs. (record (bare_block chip.captures) { captures = xs }, marks_of chip)) (bare_each (λ k. acting (Catch v) chip.captures.time) (λ k b. caught-bare chip.captures.time v b) (channels_at chip.captures p) chip.captures.captures))
foot_later d chip (Fill channel ws) size = ap (λ ms. (bare_block chip.captures, ms)) (same_marks (λ j. word_of (happened chip (Fill channel ws)) j) (λ j. word_of chip j) (λ j low high. word_later chip (Fill channel ws) j size (omega (arith, high))))
foot_later d chip _ size = refl

-- ---- the state, but for what edges change

abbrev pub without_edges : IcuState → IcuState
without_edges s = record { initialised = s.initialised; channels = by_channel (λ c. still (capture_at s c)) }

pub calm_at : (s : IcuState) (c : ℕ) → c < 8 → capture_at (without_edges s) c ≡ still (capture_at s c)
calm_at s c lt = by_channel_at (λ i. still (capture_at s i)) c lt

-- eight channels that are the same are one table
same_table : (f g : ℕ → Capture) → ((c : ℕ) → c < 8 → f c ≡ g c) → by_channel f ≡ by_channel g
same_table f g e = rw (e 0 (omega arith), e 1 (omega arith), e 2 (omega arith), e 3 (omega arith), e 4 (omega arith), e 5 (omega arith), e 6 (omega arith), e 7 (omega arith)) refl

level_calm : (d : IcuTable) (w : World) (s : IcuState) (pin : ℕ) (v : Bool) (r : Bool) → without_edges (if r then s else record s { channels = by_channel (λ c. edge_at_pin (channel_of d c) w.now pin v (capture_at s c)) }) ≡ without_edges s
level_calm d w s pin v true = refl
level_calm d w s pin v false = ap (λ xs. record (without_edges s) { channels = xs }) (same_table (λ c. still (capture_at (record s { channels = by_channel (λ i. edge_at_pin (channel_of d i) w.now pin v (capture_at s i)) }) c)) (λ c. still (capture_at s c)) (λ c lt. ap (λ x. still x) (by_channel_at (λ i. edge_at_pin (channel_of d i) w.now pin v (capture_at s i)) c lt) ∙ pin_still (channel_of d c) w.now pin v (capture_at s c)))

pub moved_calm : (d : IcuTable) (w : World) (s : IcuState) (order : Order) → without_edges (moved d w s order) ≡ without_edges s
moved_calm d w s (Level pin v) = level_calm d w s pin v (is_same (w.levels pin) v)
moved_calm d w s _ = refl

-- ---- the oldest edge that waits

abbrev pub oldest : List Edge → Option Edge
oldest [] = None
oldest (e ∷ es) = Some e

oldest_more : (es fs : List Edge) (e : Edge) → oldest es ≡ Some e → oldest (es ++ fs) ≡ Some e
oldest_more [] fs e i = absurd (cc)
oldest_more (x ∷ xs) fs e i = i

abbrev Leads : Edge → Capture → Type 0
Leads e x = oldest x.waiting ≡ Some e

taken_leads : (k : Channel) (now : ℕ) (rising : Bool) (x : Capture) (e : Edge) → Leads e x → Leads e (edge_taken k now rising x)
taken_leads k now rising x e h =
    let new : Edge = record { time = now % 2 ^ 32; rising = rising; after_gap = x.lost } in
    by_if (Leads e) (not (is_taken k rising x)) x (if is_counter k.mode then record x { count = (x.count + 1) % 2 ^ 32 } else edge_queued now rising x) h
    (by_if (Leads e) (is_counter k.mode) (record x { count = (x.count + 1) % 2 ^ 32 }) (edge_queued now rising x) h
    (by_if (Leads e) (nat_lt (length x.waiting) 4) (record x { waiting = x.waiting ++ new ∷ []; lost = false }) (record x { lost = true }) (oldest_more x.waiting (new ∷ []) e h) h))

pin_leads : (k : Option Channel) (now pin : ℕ) (rising : Bool) (x : Capture) (e : Edge) → Leads e x → Leads e (edge_at_pin k now pin rising x)
pin_leads None now pin rising x e h = h
pin_leads (Some k) now pin rising x e h = by_if (Leads e) (k.pin == pin) (edge_taken k now rising x) x (taken_leads k now rising x e h) h

level_leads : (d : IcuTable) (w : World) (s : IcuState) (pin : ℕ) (v : Bool) (c : ℕ) (e : Edge) → c < 8 → Leads e (capture_at s c) → (r : Bool) → Leads e (capture_at (if r then s else record s { channels = by_channel (λ i. edge_at_pin (channel_of d i) w.now pin v (capture_at s i)) }) c)
level_leads d w s pin v c e lt h true = h
level_leads d w s pin v c e lt h false = subst (Leads e) (sym (by_channel_at (λ i. edge_at_pin (channel_of d i) w.now pin v (capture_at s i)) c lt)) (pin_leads (channel_of d c) w.now pin v (capture_at s c) e h)

moved_leads : (d : IcuTable) (w : World) (s : IcuState) (order : Order) (c : ℕ) (e : Edge) → c < 8 → Leads e (capture_at s c) → Leads e (capture_at (moved d w s order) c)
moved_leads d w s (Level pin v) c e lt h = level_leads d w s pin v c e lt h (is_same (w.levels pin) v)
moved_leads d w s _ c e lt h = h

-- what a handler knows of the oldest edge of its channel, until it takes it
pub record Waits (s : IcuState) (c : ℕ) (P : Edge → Type 0) : Type 0 where
  pub lt : c < 8
  pub edge : Edge
  pub leads : oldest (capture_at s c).waiting ≡ Some edge
  pub is : P edge

abbrev pub Fronts : Option ℕ → IcuState → (Edge → Type 0) → Type 0
Fronts None s P = Unit {0}
Fronts (Some c) s P = Waits s c P

fronts_later : (d : IcuTable) (w : World) (s : IcuState) (order : Order) (front : Option ℕ) (P : Edge → Type 0) → Fronts front s P → Fronts front (moved d w s order) P
fronts_later d w s order None P h = tt
fronts_later d w s order (Some c) P h = record { lt = h.lt; edge = h.edge; leads = moved_leads d w s order c h.edge h.lt h.leads; is = h.is }

-- ---- families

module _ (d : IcuTable) where
  -- what holds at a place of a body, of the block and the state, but for what edges change; and whose oldest edge it knows, and what of it
  abbrev pub fronted : {Body : Type 0} → (Body → Move) → (Body → ℕ → Body × BodyTaken) → (Body → ℕ) → (Body → Lag) → (Body → Bool) → (Captures × List ℕ → IcuState → Body → Origin Call → Option Told → Type 0) → (Body → Option ℕ) → (Captures × List ℕ → Body → Edge → Type 0) → Bodies (icu_ground d) Body
  fronted work takes fuel gap clean holds front knows = record { work_of = work; takes = takes; fuel = fuel; gap_of = gap; clean = clean; place = λ f w s k o t. holds f (without_edges s) k o t × Fronts (front k) s (knows f k) }

  -- a step at a place: a move that its frame may make, and a right one
  abbrev pub Good : {Body : Type 0} → Bodies (icu_ground d) Body → Chip → World → IcuState → Body → Origin Call → Option Told → (ℕ → Bool) → Type 0
  Good b chip w s k o t m = (icu_may d (b.work_of k) ≡ true) × RightAt (icu_ground d) b chip w s k o t m

  abbrev pub AllGood : {Body : Type 0} → Bodies (icu_ground d) Body → Type 0
  AllGood {Body} b = (chip : Chip) (w : World) (s : IcuState) (k : Body) (o : Origin Call) (t : Option Told) (m : ℕ → Bool) → At (icu_ground d) b chip w s k o t → Good b chip w s k o t m

  module _ {Body : Type 0} (work : Body → Move) (takes : Body → ℕ → Body × BodyTaken) (fuel : Body → ℕ) (gap : Body → Lag) (clean : Body → Bool) (holds : Captures × List ℕ → IcuState → Body → Origin Call → Option Told → Type 0) (front : Body → Option ℕ) (knows : Captures × List ℕ → Body → Edge → Type 0) (shortens : (k : Body) (x : ℕ) → Shortens fuel k (takes k x)) (cleans : (k : Body) (x : ℕ) → Cleans clean (work k) k (takes k x)) where
    fronted_later : (chip : Chip) (w : World) (s : IcuState) (order : Order) (k : Body) (o : Origin Call) (t : Option Told) → length chip.words ≡ WORDS → holds ((icu_ground d).foot chip) (without_edges s) k o t × Fronts (front k) s (knows ((icu_ground d).foot chip) k) → holds ((icu_ground d).foot (happened chip order)) (without_edges (moved d w s order)) k o t × Fronts (front k) (moved d w s order) (knows ((icu_ground d).foot (happened chip order)) k)
    fronted_later chip w s order k o t size h = (subst (λ x. holds ((icu_ground d).foot (happened chip order)) x k o t) (sym (moved_calm d w s order)) (subst (λ f. holds f (without_edges s) k o t) (sym (foot_later d chip order size)) h.0), fronts_later d w s order (front k) (knows ((icu_ground d).foot (happened chip order)) k) (subst (λ f. Fronts (front k) s (knows f k)) (sym (foot_later d chip order size)) h.1))

    pub fronted_right : AllGood (fronted work takes fuel gap clean holds front knows) → AreRight (icu_ground d) (fronted work takes fuel gap clean holds front knows)
    fronted_right steps = record {
      own = λ chip w s k o t h. (steps chip w s k o t (λ l. false) h).0;
      steps = λ chip w s k o t m h. (steps chip w s k o t m h).1;
      later = λ chip w s order k o t free h. fronted_later chip w s order k o t h.0.outside.all.words h.1;
      shortens = shortens;
      cleans = cleans;
    }

  -- bodies that know no edge
  abbrev pub steady : {Body : Type 0} → (Body → Move) → (Body → ℕ → Body × BodyTaken) → (Body → ℕ) → (Body → Lag) → (Captures → IcuState → Body → Origin Call → Option Told → Type 0) → Bodies (icu_ground d) Body
  steady work takes fuel gap holds = fronted work takes fuel gap (λ k. false) (λ f s k o t. holds f.0 s k o t) (λ k. None) (λ f k e. Unit {0})

  pub steady_right : {Body : Type 0} (work : Body → Move) (takes : Body → ℕ → Body × BodyTaken) (fuel : Body → ℕ) (gap : Body → Lag) (holds : Captures → IcuState → Body → Origin Call → Option Told → Type 0) → ((k : Body) (x : ℕ) → Shortens fuel k (takes k x)) → AllGood (steady work takes fuel gap holds) → AreRight (icu_ground d) (steady work takes fuel gap holds)
  steady_right work takes fuel gap holds shortens steps = fronted_right work takes fuel gap (λ k. false) (λ f s k o t. holds f.0 s k o t) (λ k. None) (λ f k e. Unit {0}) shortens (λ k x. never_clean (work k) k (takes k x)) steps
