-- An edge, and what a frame writes to gates, queues and counts: block and machine do the same.
-- From module_machines: icu.Edges.
-- Used by Steady, Later.
use Rattle.std.proofs.Common.{◌≡◌, ℕ, suc, ◌+◌, ◌%◌, ◌^◌, Bool, true, false, ◌&&◌, ◌||◌, not, nat_lt, List, [], ◌∷◌, ◌++◌, length, Some, refl, sym, ◌∙◌, ap, subst}
use Rattle.std.specs.Prelude.{if◌then◌else◌, map}
use Rattle.chip_blocks.specs.captures.Captures.{take_edge, caught, chooses as chip_chooses}
use Rattle.chip_blocks.specs.declared.captures.capture.Capture as chips
use Rattle.chip_blocks.specs.declared.captures.capture.Condition.TheVariants as conditions
use Rattle.chip_blocks.specs.declared.captures.capture.Mode.{Mode}
use Rattle.chip_blocks.specs.declared.captures.capture.Mode.TheVariants.{Keeps, Counts}
use Rattle.mcal_base.specs.declared.config.icu.IcuStartEdge.{IcuStartEdge}
use Rattle.mcal_base.specs.declared.config.icu.IcuStartEdge.TheVariants.{Rising, Falling, Both}
use Rattle.module_machines.specs.icu.Edges.{Edge}
use Rattle.icu_driver.specs.Refinement.{CaptureAgrees, kept, chosen, condition_by, mode_by, bare}
use Rattle.module_machines.specs.icu.Machine.{Capture, edge_queued, is_taken, edge_taken}
use Rattle.module_machines.specs.icu.Table.{is_counter, is_measurement, chooses}
use Rattle.module_machines.specs.declared.icu.table.Channel.{Channel}
use Rattle.module_machines.specs.icu.laws.Edges.{see_if, taken-still}

-- ---- lists of edges

pub kept-length : (es : List Edge) → length (map kept es) ≡ length es
kept-length [] = refl
kept-length (e ∷ es) = ap (λ n. suc n) (kept-length es)

pub kept-append : (es fs : List Edge) → map kept (es ++ fs) ≡ map kept es ++ map kept fs
kept-append [] fs = refl
kept-append (e ∷ es) fs = ap (λ xs. kept e ∷ xs) (kept-append es fs)

-- ---- which edges are taken

chooses_edge : (a : IcuStartEdge) (rising : Bool) → chip_chooses (condition_by a) rising ≡ chooses a rising
chooses_edge Rising rising = refl
chooses_edge Falling true = refl
chooses_edge Falling false = refl
chooses_edge Both rising = refl

chooses_by : (q : Bool) (k : Channel) (x : Capture) (rising : Bool) → is_measurement k.mode ≡ q → chip_chooses (chosen k x) rising ≡ (q || chooses x.activation rising)
chooses_by true k x rising e = ap (λ b. chip_chooses (if b then conditions.Both else condition_by x.activation) rising) e
chooses_by false k x rising e = ap (λ b. chip_chooses (if b then conditions.Both else condition_by x.activation) rising) e ∙ chooses_edge x.activation rising

pub chooses_as : (k : Channel) (x : Capture) (rising : Bool) → chip_chooses (chosen k x) rising ≡ (is_measurement k.mode || chooses x.activation rising)
chooses_as k x rising = chooses_by (is_measurement k.mode) k x rising refl

-- ---- one channel, by whether the edge is taken

-- a channel that has taken the edge or not
abbrev block_by : (taken counter : Bool) → ℕ → (rising : Bool) → chips.Capture → chips.Capture
block_by taken counter time rising b = if taken then take_edge (mode_by counter) time rising b else b

abbrev machine_by : (taken counter : Bool) → ℕ → (rising : Bool) → Capture → Capture
machine_by taken counter now rising x =
    if not taken then x
    else if counter then record x { count = (x.count + 1) % 2 ^ 32 }
    else edge_queued now rising x

abbrev Waits : chips.Capture → Capture → Type 0
Waits b x = (b.queue ≡ map kept x.waiting) × (b.lost ≡ x.lost)

-- it is queued, or lost, on both sides
queued_by : (r : Bool) (time : ℕ) (rising : Bool) (b : chips.Capture) (x : Capture) → Waits b x → Waits (if r then record b { queue = b.queue ++ record { time = time % 2 ^ 32; rising = rising; gap = b.lost } ∷ []; lost = false } else record b { lost = true }) (if r then record x { waiting = x.waiting ++ record { time = time % 2 ^ 32; rising = rising; after_gap = x.lost } ∷ []; lost = false } else record x { lost = true })
queued_by true time rising b x h = (ap (λ q. q ++ record { time = time % 2 ^ 32; rising = rising; gap = b.lost } ∷ []) h.0 ∙ ap (λ l. map kept x.waiting ++ record { time = time % 2 ^ 32; rising = rising; gap = l } ∷ []) h.1 ∙ sym (kept-append x.waiting (record { time = time % 2 ^ 32; rising = rising; after_gap = x.lost } ∷ [])), refl)
queued_by false time rising b x h = (h.0, refl)

queued_same : (time : ℕ) (rising : Bool) (b : chips.Capture) (x : Capture) → Waits b x → Waits (take_edge Keeps time rising b) (edge_queued time rising x)
queued_same time rising b x h = subst (λ r. Waits (if r then record b { queue = b.queue ++ record { time = time % 2 ^ 32; rising = rising; gap = b.lost } ∷ []; lost = false } else record b { lost = true }) (edge_queued time rising x)) (sym room) (queued_by (nat_lt (length x.waiting) 4) time rising b x h)
  where
    room : nat_lt (length b.queue) 4 ≡ nat_lt (length x.waiting) 4
    room = ap (λ es. nat_lt (length es) 4) h.0 ∙ ap (λ n. nat_lt n 4) (kept-length x.waiting)

waits_same : (taken counter : Bool) (time : ℕ) (rising : Bool) (b : chips.Capture) (x : Capture) → Waits b x → Waits (block_by taken counter time rising b) (machine_by taken counter time rising x)
waits_same false counter time rising b x h = h
waits_same true true time rising b x h = h
waits_same true false time rising b x h = queued_same time rising b x h

count_same : (taken counter : Bool) (time : ℕ) (rising : Bool) (b : chips.Capture) (x : Capture) → b.count ≡ x.count → (block_by taken counter time rising b).count ≡ (machine_by taken counter time rising x).count
count_same false counter time rising b x h = h
count_same true true time rising b x h = ap (λ n. (n + 1) % 2 ^ 32) h
count_same true false time rising b x h = see_if (λ (y : chips.Capture). y.count) (nat_lt (length b.queue) 4) _ _ b.count refl refl ∙ h ∙ sym (see_if (λ (y : Capture). y.count) (nat_lt (length x.waiting) 4) _ _ x.count refl refl)

-- ---- what an edge leaves

take-bare : (m : Mode) (time : ℕ) (rising : Bool) (b : chips.Capture) → bare (take_edge m time rising b) ≡ bare b
take-bare Counts time rising b = refl
take-bare Keeps time rising b = see_if (λ (y : chips.Capture). bare y) (nat_lt (length b.queue) 4) _ _ (bare b) refl refl

pub caught-bare : (time : ℕ) (rising : Bool) (b : chips.Capture) → bare (caught time rising b) ≡ bare b
caught-bare time rising b = see_if (λ (y : chips.Capture). bare y) (b.gate && chip_chooses b.condition rising) _ _ (bare b) (take-bare b.mode time rising b) refl

-- ---- an edge that comes to a channel of the block comes to the machine's

-- both take it, or neither does
record Alike (k : Channel) (time : ℕ) (rising : Bool) (b : chips.Capture) (x : Capture) : Type 0 where
  taken : Bool
  block : caught time rising b ≡ block_by taken (is_counter k.mode) time rising b
  «machine» : edge_taken k time rising x ≡ machine_by taken (is_counter k.mode) time rising x

module _ (k : Channel) (g q n on moded : Bool) (time : ℕ) (rising : Bool) (b : chips.Capture) (x : Capture) (h : CaptureAgrees (Some k) g q n on moded b x) where
  alike_by : (r : Bool) → x.on ≡ r → b.gate ≡ x.on → Alike k time rising b x
  alike_by false e f = record {
    taken = false;
    block = ap (λ z. if z && chip_chooses b.condition rising then take_edge b.mode time rising b else b) (f ∙ e);
    «machine» = ap (λ z. machine_by (z && (is_measurement k.mode || chooses x.activation rising)) (is_counter k.mode) time rising x) e;
  }
  alike_by true e f =
      let started = h.starts e in
      record {
        taken = is_measurement k.mode || chooses x.activation rising;
        block = ap (λ z. if z && chip_chooses b.condition rising then take_edge b.mode time rising b else b) (f ∙ e) ∙ ap (λ z. if chip_chooses z rising then take_edge b.mode time rising b else b) (h.condition started.0) ∙ ap (λ z. if z then take_edge b.mode time rising b else b) (chooses_as k x rising) ∙ ap (λ m. if is_measurement k.mode || chooses x.activation rising then take_edge m time rising b else b) (h.mode (h.known started.0));
        «machine» = ap (λ z. machine_by (z && (is_measurement k.mode || chooses x.activation rising)) (is_counter k.mode) time rising x) e;
      }

  waits_alike : Alike k time rising b x → Waits b x → Waits (caught time rising b) (edge_taken k time rising x)
  waits_alike a i =
      let same = waits_same a.taken (is_counter k.mode) time rising b x i in
      (ap (λ (y : chips.Capture). y.queue) a.block ∙ same.0 ∙ sym (ap (λ (y : Capture). map kept y.waiting) a.«machine»), ap (λ (y : chips.Capture). y.lost) a.block ∙ same.1 ∙ sym (ap (λ (y : Capture). y.lost) a.«machine»))

  count_alike : Alike k time rising b x → b.count ≡ x.count → (caught time rising b).count ≡ (edge_taken k time rising x).count
  count_alike a i = ap (λ (y : chips.Capture). y.count) a.block ∙ count_same a.taken (is_counter k.mode) time rising b x i ∙ sym (ap (λ (y : Capture). y.count) a.«machine»)

  -- where the gate is free, the mode says that queue or count stay
  waits_counting : b.mode ≡ Counts → is_counter k.mode ≡ true → Waits b x → Waits (caught time rising b) (edge_taken k time rising x)
  waits_counting m c i =
      let chip_queue = see_if (λ (y : chips.Capture). y.queue) (b.gate && chip_chooses b.condition rising) (take_edge b.mode time rising b) b b.queue (ap (λ z. (take_edge z time rising b).queue) m) refl in
      let chip_lost = see_if (λ (y : chips.Capture). y.lost) (b.gate && chip_chooses b.condition rising) (take_edge b.mode time rising b) b b.lost (ap (λ z. (take_edge z time rising b).lost) m) refl in
      let same = ap (λ z. if not (is_taken k rising x) then x else if z then record x { count = (x.count + 1) % 2 ^ 32 } else edge_queued time rising x) c in
      let queue = ap (λ (y : Capture). map kept y.waiting) same ∙ see_if (λ (y : Capture). map kept y.waiting) (not (is_taken k rising x)) x (record x { count = (x.count + 1) % 2 ^ 32 }) (map kept x.waiting) refl refl in
      let lost = ap (λ (y : Capture). y.lost) same ∙ see_if (λ (y : Capture). y.lost) (not (is_taken k rising x)) x (record x { count = (x.count + 1) % 2 ^ 32 }) x.lost refl refl in
      (chip_queue ∙ i.0 ∙ sym queue, chip_lost ∙ i.1 ∙ sym lost)

  count_keeping : b.mode ≡ Keeps → is_counter k.mode ≡ false → b.count ≡ x.count → (caught time rising b).count ≡ (edge_taken k time rising x).count
  count_keeping m c i =
      let kept_count = see_if (λ (y : chips.Capture). y.count) (nat_lt (length b.queue) 4) _ _ b.count refl refl in
      let chip_count = see_if (λ (y : chips.Capture). y.count) (b.gate && chip_chooses b.condition rising) (take_edge b.mode time rising b) b b.count (ap (λ z. (take_edge z time rising b).count) m ∙ kept_count) refl in
      let same = ap (λ z. if not (is_taken k rising x) then x else if z then record x { count = (x.count + 1) % 2 ^ 32 } else edge_queued time rising x) c in
      let queued_count = see_if (λ (y : Capture). y.count) (nat_lt (length x.waiting) 4) _ _ x.count refl refl in
      let count = ap (λ (y : Capture). y.count) same ∙ see_if (λ (y : Capture). y.count) (not (is_taken k rising x)) x (edge_queued time rising x) x.count refl queued_count in
      chip_count ∙ i ∙ sym count

  waits_by : (r : Bool) → g ≡ r → q ≡ false → Waits (caught time rising b) (edge_taken k time rising x)
  waits_by false e f = waits_alike (alike_by x.on refl (h.gate e)) (h.queue f, h.lost f)
  waits_by true e f = waits_counting (h.mode (h.free_known e) ∙ ap (λ z. mode_by z) (h.free_queue e f)) (h.free_queue e f) (h.queue f, h.lost f)

  count_by : (r : Bool) → g ≡ r → n ≡ false → (caught time rising b).count ≡ (edge_taken k time rising x).count
  count_by false e f = count_alike (alike_by x.on refl (h.gate e)) (h.count f)
  count_by true e f = count_keeping (h.mode (h.free_known e) ∙ ap (λ z. mode_by z) (h.free_count e f)) (h.free_count e f) (h.count f)

  -- an edge at a pin: the same is caught, lost and counted, whatever is free
  pub edge_agrees : CaptureAgrees (Some k) g q n on moded (caught time rising b) (edge_taken k time rising x)
  edge_agrees =
      let left = caught-bare time rising b in
      let stays = taken-still k time rising x in
      record {
        gate = λ f. ap (λ (y : chips.Capture). y.gate) left ∙ h.gate f ∙ sym (ap (λ (y : Capture). y.on) stays);
        queue = λ f. (waits_by g refl f).0;
        lost = λ f. (waits_by g refl f).1;
        count = λ f. count_by g refl f;
        condition = λ f. ap (λ (y : chips.Capture). y.condition) left ∙ h.condition f ∙ sym (ap (λ (y : Capture). chosen k y) stays);
        mode = λ f. ap (λ (y : chips.Capture). y.mode) left ∙ h.mode f;
        starts = λ f. h.starts (sym (ap (λ (y : Capture). y.on) stays) ∙ f);
        known = h.known;
        free_known = h.free_known;
        free_queue = h.free_queue;
        free_count = h.free_count;
      }
