-- Around the steps of the start window: its frame may make them, they leave fewer, the hardware leaves the places as
-- they are, and what follows a step at a place that owes moves.
-- From spi_sequences: words.WordsOfModule, spi_sequences: services.StartSteps and 6 more.
-- Used by spi_driver: services.UnitBounds, spi_driver: bookkeeping.MaskDiscipline and 4 more.
use Rattle.std.proofs.Common.{◌≡◌, ◌≢◌, ◌+◌, ◌<◌, ◌≤◌, ◌||◌, [], ◌∷◌, ◌∙◌, ◌⊎◌, if◌then◌else◌}
use Rattle.spi_laws.specs.starting.Terms
use Terms.{and_parts, Answer, ap, arith, bank_word, banked, begins_word, block_of, Bool, Channel, channel_at_place}
use Terms.{channel_of, channel_words, channels_of, Chip, choosing_front, Chosen, control_word, Ends, false, faulted_run}
use Terms.{Fill, Find, find_gave, find_more, find_move, first_word, FitsSpi, flat_map, Front, front-lowers, front_gave}
use Terms.{front_left, front_move, front_room, gave, get_or-set_other, get_or-set_same, happened, has_channel}
use Terms.{has_ended, held_word, idle, inl, inr, internal_words, is_fill, is_shared, is_simple, is_some, IsChosen}
use Terms.{IsFree, item-other, item-same, job_at_place, length, length_by, Level, level_leaves, List, Load, LooksAt}
use Terms.{LowersTo, lt_from, MARKS, may, may_first, may_store, may_users, Memory, Move, moved, named_own, nat_lt}
use Terms.{next_gave, next_in, next_job, next_on, NEXTS, no_word, None, number_of, of_sixteen, Option, Order}
use Terms.{order_word, own-control, own_banks, own_held, own_of_channel, own_order, own_set_up, Pending, Placed}
use Terms.{placed_of, prepare_ends, refl, resets_chip, run_at, running_word, same_or_other, Search, search_move, Seen}
use Terms.{Sent, Serial, set_up_word, slice_index_or, Some, source_own, source_word, spi_bare, SpiFault, SpiState}
use Terms.{SpiTable, start_chooses, start_finds, start_found, start_left, start_looks, start_more, start_move}
use Terms.{start_owes, start_place, start_prepares, start_releases, start_takes, Started, StartPlace, starts_at, STATE}
use Terms.{subst, suc, sym, take_gave, trio_of, true, unit_at, untouched, will_give, Word, words_kept, World, zero, ℕ}
use Rattle.spi_laws.specs.starting.laws.services.StartWords.{next_owes, prepare_owes}
use Rattle.chip_blocks.specs.units.Serials as serials
use Rattle.word_shapes.specs.PriorityQueue as ranked
use Rattle.word_shapes.specs.declared.search.Search.TheVariants as search
use Rattle.word_shapes.specs.jobs.Placing as placing
use Rattle.word_shapes.specs.declared.jobs.finding.Find.TheVariants as finds
use Rattle.spi_sequences.specs.declared.service.start.StartPlace.TheVariants as start
use Rattle.spi_sequences.specs.declared.service.start.Started.TheVariants as started

-- ---- what its frame may do

module _ (d : SpiTable) (fits : FitsSpi d) (u : ℕ) (few : u < 2) where
  -- a word of a bank of what a channel sends, by its first place
  may_bank : (b : ℕ) (k : Channel) → channel_of d b ≡ Some k → k.internal ≡ true → (e : ℕ) → e < 4 → may d (Load (bank_word (placed_of d b) Sent e 0)) ≡ true
  may_bank b k known internal e lt = may_store d fits (bank_word (placed_of d b) Sent e 0) 0 (own_of_channel d b k (bank_word (placed_of d b) Sent e 0) (fits.channels b k known) (record { from = from e; below = below e lt }))
    where
      at : placing.first_word (placed_of d b) ≡ STATE + block_of d b
      at = starts_at d fits b k known

      from : (e : ℕ) → STATE + block_of d b ≤ bank_word (placed_of d b) Sent e 0
      from e = omega (arith, at)

      below : (e : ℕ) → e < 4 → bank_word (placed_of d b) Sent e 0 < STATE + block_of d b + 4 + banked k
      below (suc (suc (suc (suc e)))) lt = absurd (omega (arith, lt))
      below _ lt =
          let len : (placed_of d b).channel.length ≡ k.length = ap (λ x. x.length) (has_channel d fits b k known) in
          omega (arith, at, len, (fits.channels b k known).some, internal_words d fits b k known internal)

  pub may_find : (b : ℕ) (k : Channel) → channel_of d b ≡ Some k → (p : Find) → LooksAt d b k p → may d (find_move p) ≡ true
  may_find b k known (finds.Newest x) (is, internal) = subst (λ z. may d (Load (control_word z Sent)) ≡ true) (sym is) (may_store d fits (control_word (placed_of d b) Sent) 0 (own_banks d fits b k known internal Sent (control_word (placed_of d b) Sent) (own-control (trio_of (placed_of d b) Sent))))
  may_find b k known (finds.SetUp x) is = subst (λ z. may d (Load (set_up_word z)) ≡ true) (sym is) (may_store d fits (set_up_word (placed_of d b)) 0 (own_set_up d fits b k known))
  may_find b k known (finds.Bank x i e) (is, internal, at, lt) = subst (λ z. may d (Load (bank_word z Sent e i)) ≡ true) (sym is) (subst (λ n. may d (Load (bank_word (placed_of d b) Sent e n)) ≡ true) (sym at) (may_bank b k known internal e lt))
  may_find b k known (finds.Source x i) (is, at) =
      subst (λ z. may d (Load (source_word z i)) ≡ true) (sym is) (subst (λ n. may d (Load (source_word (placed_of d b) n)) ≡ true) (sym at)
      (may_users d fits (source_word (placed_of d b) 0) (source_own d fits b 0 (subst (λ o. 0 < length_by o) (sym known) (fits.channels b k known).some)) (let lt = of_sixteen d b k fits known in omega (arith, lt))))
  may_find b k known (finds.Default x) is = subst (λ z. may d (Load (held_word z)) ≡ true) (sym is) (may_store d fits (held_word (placed_of d b)) 0 (own_held d fits b k known))
  may_find b k known (finds.Pinned x i) is = absurd is
  may_find b k known (finds.Held x i) is = absurd is

  pub or_may : (made : Move) → may d made ≡ true → is_shared made || may d made ≡ true
  or_may made e = elim (is_shared made) as (λ q. q || may d made ≡ true) [ true ↦ refl | false ↦ e ]

  may_front : (p : Front) (n : ℕ) (m : Memory) (D : Memory → List ℕ → Type 0) → Ends choosing_front (ranked.own_of (record { at = order_word u })) n p m D → may d (front_move p) ≡ true
  may_front p zero m D ends = absurd ends
  may_front p (suc n) m D ends = (and_parts (is_simple (front_move p)) (may d (front_move p)) (named_own d fits (ranked.own_of (record { at = order_word u })) (λ j own. own_order d u j few own) (front_move p) ends.0)).1

  pub start_may : (p : StartPlace) (f : Seen) (s : SpiState) → start_place d u p f s → is_shared (start_move d u p) || may d (start_move d u p) ≡ true
  start_may start.Shut f s at = refl
  start_may start.Running f s at = may_first d fits (running_word u) (omega arith) (omega (arith, few))
  start_may start.Nexts f s at = may_first d fits NEXTS (omega arith) (omega arith)
  start_may (start.Marks v) f s at = may_first d fits MARKS (omega arith) (omega arith)
  start_may (start.Front v x p) f s (free, is, also, n, ends) = or_may (front_move p) (may_front p n f.0 _ ends)
  start_may (start.Find c p) f s (q, is, b, k, first, looks, will) = or_may (find_move p) (may_find b k first.known p looks)
  start_may (start.Select c x) f s at = lt_from u 2 few
  start_may (start.Width c x) f s at = lt_from u 2 few
  start_may (start.Begin c x) f s at = lt_from u 2 few
  start_may _ f s at = absurd at

-- a place where something stands owes no moves
pub none_owed : (d : SpiTable) (u : ℕ) (p : StartPlace) (f : Seen) (s : SpiState) → start_place d u p f s → start_owes p ≡ false
none_owed d u start.Shut f s at = refl
none_owed d u _ f s at = search

-- ---- what is left

-- a place that owes moves has these left
pub owed_left_is : (p : StartPlace) → (if start_owes p then 1 + start_more p else start_left p) ≡ start_left p
owed_left_is start.Shut = refl
owed_left_is _ = refl

-- a step leaves fewer moves, or was the last one
abbrev pub Fewer : ℕ → StartPlace × Started → Type 0
Fewer n (x, started.Goes e) = start_left x < n
Fewer n (x, started.Over) = 1 ≤ n

module _ (d : SpiTable) (u : ℕ) where
  few_finds : (i : Bool) (x : Placed) → find_more (if i then finds.Newest x else finds.SetUp x) ≤ 1
  few_finds i x = grind arith

  looks_fewer : (v m : ℕ) (p : Front) (x : ℕ) → Fewer (22 + front_room p) (start_looks d v m p x (front_gave p x) (has_ended (front_gave p x)))
  looks_fewer v m p x = by (front_gave p x).ended refl (front-lowers p x)
    where
      found : (g : ℕ) (q : Bool) → 1 ≤ front_room p → Fewer (22 + front_room p) (start_found d v m p x g q)
      found g true lt = let few = few_finds (channel_at_place d (job_at_place d g (next_in v g)) 0).channel.internal (channel_at_place d (job_at_place d g (next_in v g)) 0) in omega (arith, lt, few)
      found g false lt = omega arith

      by : (o : Option Answer) → (front_gave p x).ended ≡ o → LowersTo (front_room p) (front_room (front_left p x)) o → Fewer (22 + front_room p) (start_looks d v m p x (front_gave p x) (is_some (front_gave p x).ended))
      by None e lt = subst (λ q. Fewer (22 + front_room p) (start_looks d v m p x (front_gave p x) (is_some q))) (sym e) (omega (arith, lt))
      by (Some a) e lt = subst (λ q. Fewer (22 + front_room p) (start_looks d v m p x (front_gave p x) (is_some q))) (sym e) (found (gave (front_gave p x)) (nat_lt (gave (front_gave p x)) 8) lt)

  finds_fewer : (c : Chosen) (p : Find) (x : ℕ) → Fewer (21 + find_more p) (start_finds c p x (find_gave p x))
  finds_fewer c (finds.SetUp x) v = grind arith
  finds_fewer c _ v = grind arith

  pub start_shorter : (p : StartPlace) (v : ℕ) → start_owes p ≡ false → Fewer (start_left p) (start_takes d u p v)
  start_shorter (start.Front x m p) v e = looks_fewer x m p v
  start_shorter (start.Find c p) v e = finds_fewer c p v
  start_shorter _ v e = grind arith

  -- ---- what is no start resets nothing and begins no word

  calm_front : (z : Search) → (resets_chip (search_move z) ≡ false) × (begins_word (search_move z) ≡ false)
  calm_front (search.Tally at) = (refl, refl)
  calm_front _ = (refl, refl)

  calm_find : (p : Find) → (resets_chip (find_move p) ≡ false) × (begins_word (find_move p) ≡ false)
  calm_find (finds.Newest x) = (refl, refl)
  calm_find _ = (refl, refl)

  -- the place isn't that of the start
  abbrev pub NotStart : StartPlace → Type 0
  NotStart (start.Begin c x) = ⊥
  NotStart p = Unit {0}

  pub start_calm : (p : StartPlace) → start_owes p ≡ false → NotStart p → (resets_chip (start_move d u p) ≡ false) × (begins_word (start_move d u p) ≡ false)
  start_calm (start.Front x m p) e n = calm_front p.search
  start_calm (start.Find c p) e n = calm_find p
  start_calm (start.Begin c x) e n = absurd n
  start_calm _ e n = (cc, cc)

  -- ---- places that owe moves

  -- one goes on at another one with no event, or was the last one
  abbrev pub GoesOwing : StartPlace × Started → Type 0
  GoesOwing (x, started.Goes None) = start_owes x ≡ true
  GoesOwing (x, started.Goes (Some e)) = ⊥
  GoesOwing (x, started.Over) = Unit {0}

  pub owed_goes : (p : StartPlace) (v : ℕ) → start_owes p ≡ true → GoesOwing (start_takes d u p v)
  owed_goes (start.Choose c p) v e =
      elim (has_ended (next_gave p v)) as (λ q. GoesOwing (start_chooses c p v q))
      [ true ↦ refl | false ↦ refl ]
  owed_goes (start.Mark c) v e = prepare_owes d c.run 0
  owed_goes (start.Prepare r i p) v e =
      elim (prepare_ends p v) as (λ q. GoesOwing (start_prepares d r i p v q))
      [ true ↦ next_owes d r i | false ↦ refl ]
  owed_goes (start.Release r p) v e =
      elim (has_ended (take_gave p v)) as (λ q. GoesOwing (start_releases r p v q))
      [ true ↦ refl | false ↦ refl ]
  owed_goes (start.Run r) v e = refl
  owed_goes start.Stand v e = tt
  owed_goes _ v e = absurd (cc)

-- ---- the hardware leaves the places

module _ (d : SpiTable) (u : ℕ) (f f1 : Seen) (s s1 : SpiState) (words : f1.0 ≡ f.0) (select : f1.1 u ≡ f.1 u) (width : f1.2 u ≡ f.2 u) (pending : s1.pending ≡ s.pending) (channels : s1.channels ≡ s.channels) (free : IsFree s u → IsFree s1 u) where
  chosen_kept : (c : Chosen) (q : Pending) → IsChosen d u f.0 s c q → IsChosen d u f1.0 s1 c q
  chosen_kept c q is = record { free = free is.free; next = ap (next_on d u) pending ∙ is.next; is = is.is ∙ ap (λ (m : Memory). record { run = record { job = next_job d q; sequence = q.sequence }; nexts = m NEXTS; marks = m MARKS }) (sym words) }

  first_kept : (q : Pending) → first_word d s1 q ≡ first_word d s q
  first_kept q = ap (λ xs. slice_index_or (flat_map (λ c. channel_words c (channel_of d c) (slice_index_or xs c untouched)) (channels_of d (next_job d q))) 0 no_word) channels

  pub place_kept : (p : StartPlace) → start_place d u p f s → start_place d u p f1 s1
  place_kept start.Shut at = tt
  place_kept start.Running at = tt
  place_kept start.Nexts at = free at
  place_kept (start.Marks v) (is, at) = (free is, at ∙ ap (λ m. m NEXTS) (sym words))
  place_kept (start.Front v x p) (is, at, also, n, ends) =
      (free is, at ∙ ap (λ m. m NEXTS) (sym words), also ∙ ap (λ m. m MARKS) (sym words), n, subst (λ ps. Ends choosing_front (ranked.own_of (record { at = order_word u })) n p f1.0 (λ m ws. ws ≡ number_of (next_on d u ps) ∷ [])) (sym pending) (subst (λ m. Ends choosing_front (ranked.own_of (record { at = order_word u })) n p m (λ m ws. ws ≡ number_of (next_on d u s.pending) ∷ [])) (sym words) ends))
  place_kept (start.Find c p) (q, is, b, k, first, looks, will) = (q, chosen_kept c q is, b, k, first, looks, ap (λ m. will_give m p) words ∙ will ∙ ap (λ z. z.sent) (sym (first_kept q)))
  place_kept (start.Select c x) (q, is, sent) = (q, chosen_kept c q is, sent ∙ ap (λ z. z.sent) (sym (first_kept q)))
  place_kept (start.Width c x) (q, is, sent, at) = (q, chosen_kept c q is, sent ∙ ap (λ z. z.sent) (sym (first_kept q)), select ∙ at)
  place_kept (start.Begin c x) (q, is, sent, at, wide) = (q, chosen_kept c q is, sent ∙ ap (λ z. z.sent) (sym (first_kept q)), select ∙ at, width ∙ wide ∙ ap (λ z. z.width) (sym (first_kept q)))
  place_kept _ at = absurd at

module _ (d : SpiTable) (u : ℕ) where
  same_turn : (x : Serial) (o : Option Word) (q : Bool) → ((if q then record x { word = o } else x).select ≡ x.select) × ((if q then record x { word = o } else x).width ≡ x.width)
  same_turn x o true = (refl, refl)
  same_turn x o false = (refl, refl)

  -- a fault on the wire leaves what a unit selects, and its width
  abbrev pub SameTurn : Serial → Serial → Type 0
  SameTurn x z = (z.select ≡ x.select) × (z.width ≡ x.width)

  pub turns_kept : (chip : Chip) (n : ℕ) → length chip.serials.units ≡ 2 → u < 2 → SameTurn (unit_at chip.serials u) (unit_at (serials.after_fault chip.serials n) u)
  turns_kept chip n size few = turn_kept n (same_or_other u n)
    where
      turn_kept : (n : ℕ) → (u ≡ n) ⊎ (u ≢ n) → SameTurn (unit_at chip.serials u) (unit_at (serials.after_fault chip.serials n) u)
      turn_kept n (inl e) =
          subst (λ k. SameTurn (unit_at chip.serials u) (unit_at (serials.after_fault chip.serials k) u)) e
          (subst (λ z. SameTurn (unit_at chip.serials u) z) (sym (get_or-set_same chip.serials.units u (serials.faulted chip.serials.time (unit_at chip.serials u)) idle (omega (arith, size, few))))
          (same_turn (unit_at chip.serials u) (serials.failing (unit_at chip.serials u).word) (serials.is_busy (unit_at chip.serials u) chip.serials.time)))
      turn_kept n (inr ne) = subst (λ z. SameTurn (unit_at chip.serials u) z) (sym (get_or-set_other chip.serials.units n u (serials.faulted chip.serials.time (unit_at chip.serials n)) idle ne)) (refl, refl)

  pub start_later : (chip : Chip) (w : World) (s : SpiState) (order : Order) (p : StartPlace) → length chip.serials.units ≡ 2 → u < 2 → is_fill order ≡ false → start_place d u p ((spi_bare d).foot chip) s → start_place d u p ((spi_bare d).foot (happened chip order)) (moved d w s order)
  start_later chip w s (Fill c ws) p size few e at = absurd (cc)
  start_later chip w s (SpiFault n) p size few e at = place_kept d u ((spi_bare d).foot chip) ((spi_bare d).foot (happened chip (SpiFault n))) s (moved d w s (SpiFault n)) (words_kept chip (SpiFault n) refl) (turns_kept chip n size few).0 (turns_kept chip n size few).1 refl refl (freed n (same_or_other u n)) p at
    where
      freed : (n : ℕ) → (u ≡ n) ⊎ (u ≢ n) → IsFree s u → IsFree (moved d w s (SpiFault n)) u
      freed n (inl f) free = subst (λ k. IsFree (moved d w s (SpiFault k)) u) f (item-same None s.units u (faulted_run w.now (run_at s u)) ∙ ap (faulted_run w.now) free)
      freed n (inr ne) free = item-other None s.units n u (faulted_run w.now (run_at s n)) ne ∙ free
  start_later chip w s (Level i v) p size few e at =
      let same = level_leaves (λ c. c.serials.units) chip i v refl in
      place_kept d u ((spi_bare d).foot chip) ((spi_bare d).foot (happened chip (Level i v))) s s (words_kept chip (Level i v) refl) (ap (λ xs. (slice_index_or xs u idle).select) same) (ap (λ xs. (slice_index_or xs u idle).width) same) refl refl (λ free. free) p at
  start_later chip w s order p size few e at = place_kept d u ((spi_bare d).foot chip) ((spi_bare d).foot (happened chip order)) s s (words_kept chip order e) refl refl refl refl (λ free. free) p at
