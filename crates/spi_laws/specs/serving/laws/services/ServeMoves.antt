-- The moves of the serving window are its frame's.
-- From words.FacingWords, spi_sequences: words.WordsOfModule, spi_sequences: services.ServeSteps and 6 more.
-- Used by spi_driver: services.UnitRight, spi_driver: services.UnitSteps, sending.services.SendAround.
use Rattle.std.proofs.Common.{◌≡◌, ◌<◌, ◌==◌, ◌&&◌, ◌||◌, ◌∙◌, if◌then◌else◌}
use Rattle.spi_laws.specs.serving.Terms
use Terms.{and_parts, arith, Arrived, asked_word, asking, bank_word, Channel, channel_of, channel_served, Chip}
use Terms.{control_word, false, Find, find_move, FitsSpi, has_channel, held_word, is_shared, IsFinding, IsFurther}
use Terms.{length_by, Load, lt_from, MARKS, may, may_first, may_store, may_users, Move, NEXTS, of_sixteen, own-control}
use Terms.{own-word, own_held, Placed, placed_of, Position, position_word, Received, refl, Reservations, running_word}
use Terms.{Sent, serve_move, serve_owes, ServePlace, Some, source_own, source_word, SpiRepresents, SpiState, SpiTable}
use Terms.{subst, sym, trio_of, true, whether_as, word_of, word_place, World, ℕ}
use Rattle.spi_laws.specs.serving.laws.{services.ServeRight.{asks_load, footing}, words.FacingWords.{bank_small, known}}
use Rattle.spi_laws.specs.serving.laws.words.FacingWords.{next_at, next_channel, pinned_bank_is, placed, served_by}
use Rattle.spi_laws.specs.serving.laws.{words.FacingWords.{served_is, standing, way}, words.Positions.{part_few, part_known}}
use Rattle.spi_laws.specs.serving.laws.words.SidesApart.{banks_own, is_inside}
use Rattle.word_shapes.specs.declared.jobs.finding.Find.TheVariants as finds
use Rattle.spi_sequences.specs.declared.service.serve.ServePlace.TheVariants as serve

or_may : (d : SpiTable) (made : Move) → may d made ≡ true → is_shared made || may d made ≡ true
or_may d made e = elim (is_shared made) as (λ q. q || may d made ≡ true) [ true ↦ refl | false ↦ e ]

module _ (d : SpiTable) (fits : FitsSpi d) (below : Reservations) (chip : Chip) (w : World) (s : SpiState) (h : SpiRepresents d below chip w s) (u : ℕ) (few : u < 2) where
  -- the load that tells where a word goes
  may_ask : (c : ℕ) (k : Channel) → channel_of d c ≡ Some k → (i : ℕ) → may d (Load (asked_word (placed_of d c) i)) ≡ true
  may_ask c k e i = whether_as ((placed_of d c).channel.internal && i == 0) (λ q. may d (Load (if q then control_word (placed_of d c) Received else held_word (placed_of d c))) ≡ true)
      (λ f. may_store d fits (control_word (placed_of d c) Received) 0 (banks_own d fits c k e (is_inside d fits c k e (and_parts (placed_of d c).channel.internal (i == 0) f).0) Received (control_word (placed_of d c) Received) (own-control (trio_of (placed_of d c) Received))))
      (λ f. may_store d fits (held_word (placed_of d c)) 0 (own_held d fits c k e))

  -- the loads that find a word
  module _ (a : Arrived) (p : Position) (i : IsFurther d (word_of chip) s w.now u a p) where
    abbrev at : Placed
    at = placed d fits below chip w s h u few a p i

    abbrev there : (k : Channel) × (channel_of d (next_at d fits below chip w s h u few a p i).0.part.channel ≡ Some k)
    there = known d fits below chip w s h u few a p i

    within : p.word < at.channel.length
    within =
        let by = served_by d fits below chip w s h u few a p i in
        let under = way d fits below chip w s h u few a.served by in
        let next = (next_at d fits below chip w s h u few a p i).0 in
        let lt = next.inside in
        let le = part_few d fits u (word_of chip) under.job under.for under.represents p.channel next.part next.there in
        omega (arith, lt, le)

    may_found : (x : Find) → IsFinding (word_of chip) at p.word x → may d (find_move x) ≡ true
    may_found (finds.Pinned y j) (same, place, internal) = subst (λ z. may d (Load (control_word z Sent)) ≡ true) (sym same) (may_store d fits (control_word at Sent) 0 (banks_own d fits (next_at d fits below chip w s h u few a p i).0.part.channel there.0 there.1 (is_inside d fits (next_at d fits below chip w s h u few a p i).0.part.channel there.0 there.1 internal) Sent (control_word at Sent) (own-control (trio_of at Sent))))
    may_found (finds.Held y j) (same, place, external) = subst (λ z. may d (Load (held_word z)) ≡ true) (sym same) (may_store d fits (held_word at) 0 (own_held d fits (next_at d fits below chip w s h u few a p i).0.part.channel there.0 there.1))
    may_found (finds.Bank y j b) (same, place, internal, bank) =
        subst (λ z. may d (Load (bank_word z Sent b j)) ≡ true) (sym same) (subst (λ n. may d (Load (bank_word at Sent b n)) ≡ true) (sym place)
        (may_store d fits (bank_word at Sent b p.word) 0 (banks_own d fits (next_at d fits below chip w s h u few a p i).0.part.channel there.0 there.1 (is_inside d fits (next_at d fits below chip w s h u few a p i).0.part.channel there.0 there.1 internal) Sent (bank_word at Sent b p.word)
        (own-word (trio_of at Sent) b p.word (subst (λ n. n < 3) (sym (bank ∙ pinned_bank_is d fits below chip w s h u few a p i internal)) (bank_small d fits below chip w s h u few a p i internal)) within))))
    may_found (finds.Source y j) (same, place, external, source) =
        subst (λ z. may d (Load (source_word z j)) ≡ true) (sym same) (subst (λ n. may d (Load (source_word at n)) ≡ true) (sym place)
        (may_users d fits (source_word at p.word) (source_own d fits (next_at d fits below chip w s h u few a p i).0.part.channel p.word in_channel) (let lt = of_sixteen d (next_at d fits below chip w s h u few a p i).0.part.channel there.0 fits there.1 in let most = (fits.channels (next_at d fits below chip w s h u few a p i).0.part.channel there.0 there.1).few in let less = in_own in omega (arith, lt, most, less))))
      where
        in_own : p.word < there.0.length
        in_own = subst (λ (k : Channel). p.word < k.length) (has_channel d fits (next_at d fits below chip w s h u few a p i).0.part.channel there.0 there.1) within

        in_channel : p.word < length_by (channel_of d (next_at d fits below chip w s h u few a p i).0.part.channel)
        in_channel = subst (λ o. p.word < length_by o) (sym there.1) in_own
    may_found (finds.Default y) (same, external, source) = subst (λ z. may d (Load (held_word z)) ≡ true) (sym same) (may_store d fits (held_word at) 0 (own_held d fits (next_at d fits below chip w s h u few a p i).0.part.channel there.0 there.1))
    may_found (finds.Newest y) j = absurd j
    may_found (finds.SetUp y) j = absurd j

  pub serve_may : (p : ServePlace) → serve_owes p ≡ false → word_place d u p (footing chip) w s → is_shared (serve_move d u p) || may d (serve_move d u p) ≡ true
  serve_may serve.Shut e i = refl
  serve_may serve.State e i = lt_from u 2 few
  serve_may (serve.Running b) e i = may_first d fits (running_word u) (omega arith) (omega (arith, few))
  serve_may (serve.Position r b) e i = may_first d fits (position_word u) (omega arith) (omega (arith, few))
  serve_may (serve.Taker r) e i =
      let under = way d fits below chip w s h u few r i in
      let first = standing d fits below chip w s h u few r i in
      let k = part_known d fits u (word_of chip) under.job under.for under.represents under.job.at.channel first.part first.there in
      or_may d (asking (channel_served d r) r.at.word) (subst (λ made. may d made ≡ true) (sym (asks_load (channel_served d r) r.at.word)) (subst (λ x. may d (Load (asked_word x r.at.word)) ≡ true) (sym (served_is d fits below chip w s h u few r i)) (may_ask first.part.channel k.0 k.1 r.at.word)))
  serve_may (serve.Receive r t) e i = lt_from u 2 few
  serve_may (serve.Width a p) e i = lt_from u 2 few
  serve_may (serve.Find a p x) e (i, wide, j) = or_may d (find_move x) (may_found a p i x (subst (λ z. IsFinding (word_of chip) z p.word x) (next_channel d fits below chip w s h u few a p i) j))
  serve_may (serve.Begin a p v) e i = lt_from u 2 few
  serve_may (serve.Marks a) e i = may_first d fits MARKS (omega arith) (omega arith)
  serve_may (serve.Nexts a c) e i = may_first d fits NEXTS (omega arith) (omega arith)
  serve_may (serve.Acknowledge a c) e i = lt_from u 2 few
  serve_may _ e i = absurd i
