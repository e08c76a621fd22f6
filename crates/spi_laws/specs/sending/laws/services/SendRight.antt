-- Spi_SyncTransmit is right at each of its places, from what its windows owe.
-- From spi_sequences: services.SyncSteps, spi_sequences: services.ServeSteps, services.SendAround and 11 more.
-- Used by spi_driver: bookkeeping.Lawful, spi_driver: bookkeeping.UnpolledFrames.
use Rattle.std.proofs.Common.{◌≡◌, ◌+◌, ◌==◌, ◌&&◌, ◌||◌, ◌∙◌, if◌then◌else◌}
use Rattle.spi_laws.specs.sending.Terms
use Terms.{Act, ap, AreFree, AreLong, arith, Arrived, asking, begins_by, begins_of, begins_word, BodyTaken, Bool}
use Terms.{Call, Called, channel_next, channel_sent, channel_served, Chip, Event, FAILED, false, Fewer, Find}
use Terms.{find_gave, find_move, FitsSpi, FrameHistory, fresh_history, further_of, happened, has_further_job}
use Terms.{holds_at, is_closed, is_fill, is_last_place, is_masked, is_shared, Is_this_frame, IsThisFrame, keep_few}
use Terms.{keep_of, KeepsClean, KeepsMask, less_fuel, less_room, List, may, MayCome, Move, next_job_of, None}
use Terms.{not_filled, Option, or_none, or_owed, Order, Origin, owed_right, place_at, Placed, plain_turns, Position}
use Terms.{refl, releasing, Reservations, resets_chip, Right, room_at, same_chip, Sends, Sent, sent_owes, serve_finds}
use Terms.{serve_room, serve_takes, Served, ServePlace, ShortensTo, Some, spi_bare, spi_basis, spi_owing, spi_setting}
use Terms.{SpiState, SpiTable, spot_or, stall_of, Start, subst, sym, sync_arrives, sync_at, sync_begun, sync_comes}
use Terms.{sync_ends, sync_finds, sync_found, sync_frees, sync_goes_to, sync_job_over, sync_move, sync_owed}
use Terms.{sync_owes, sync_serves, sync_takes, sync_took, sync_work, SyncBody, SyncPlace, Taker, taker_sent, true}
use Terms.{TurnsTo, unit_named, unpacked, value_of, where_owed, whether, whether_as, windows_right, with_holds}
use Terms.{with_taken, World, world_after, ℕ}
use Rattle.run_model.specs.Frame.{is_wait}
use Rattle.word_shapes.specs.TripleBuffer.{put_move}
use Rattle.word_shapes.specs.jobs.Parts.{keep_move, prepare_move}
use Rattle.spi_machine.specs.Bounds.{may_wait}
use Rattle.spi_sequences.specs.laws.services.AtOnce.{asking_once, find_once, keep_once, never, prepare_once, put_once}
use Rattle.spi_sequences.specs.laws.services.AtOnce.{serve_once}
use Rattle.spi_sequences.specs.laws.services.ServeSteps.{serve_move}
use Rattle.spi_laws.specs.sending.Sending.{about_sent, about_steps, IsSender, sync_bodies, sync_clean, sync_fuel, sync_room}
use Rattle.spi_laws.specs.sending.Sending.{sync_spot, sync_windows}
use Rattle.spi_laws.specs.sending.laws.{services.SendAround.{asking_plain, body, calm_at, find_plain, later_at, own_at, StandAt}}
use Rattle.spi_laws.specs.sending.laws.{services.SendAround.{V}, services.SendFuel.{few_first, short_at}}
use Rattle.spi_laws.specs.sending.laws.{services.SendOwed.{sync_wins}, services.SendSteps.{steps_at}}
use Rattle.spi_laws.specs.sending.laws.{services.SendWindows.{AreWindowsRight, asks}}
use Rattle.word_shapes.specs.declared.jobs.finding.Find.TheVariants as finds
use Rattle.word_shapes.specs.declared.jobs.keeping.Taker.TheVariants as takers
use Rattle.spi_machine.specs.Machine.{moved}
use Rattle.step_runner.specs.Driver.{IsFree}
use Rattle.spi_sequences.specs.declared.service.serve.SequenceNext.TheVariants as courses
use Rattle.spi_sequences.specs.declared.service.serve.ServePlace.TheVariants as serve
use Rattle.spi_sequences.specs.declared.service.sync.SyncPlace.TheVariants as place

-- ---- clean places

-- but the first one none is
clean_not : (d : SpiTable) (k : SyncBody) (p : SyncPlace) → sync_clean p ≡ false → (V d).clean (sync_at k p) ≡ false
clean_not d k p e = whether_as (sync_owes p) (λ q. or_owed (λ z. false) (where_owed q (Sends (sync_at k p))) (sync_clean p) ≡ false)
    (λ _. refl)
    (λ _. e)

module _ (d : SpiTable) where
  abbrev CleanTo : (was : Bool) → Move → SyncBody × BodyTaken → Type 0
  CleanTo was made r = KeepsClean was made ((V d).clean r.0) r.1.done

  goes_dirty : (was : Bool) (made : Move) (k : SyncBody) (p : SyncPlace) (e : Option Event) → sync_clean p ≡ false → CleanTo was made (sync_at k p, record { event = e; done = None })
  goes_dirty was made k p e not_clean f = absurd (let g = sym (clean_not d k p not_clean) ∙ f in cc)

  found_dirty : (b : Option Arrived) (f : Find) (v : ℕ) (o : Option ℕ) → sync_clean (sync_found b f v o) ≡ false
  found_dirty b f v None = refl
  found_dirty b f v (Some x) = refl

  begun_dirty : (k : SyncBody) (b : Option Arrived) → sync_clean (sync_begun k b) ≡ false
  begun_dirty k None = refl
  begun_dirty k (Some r) = refl

  arrives_dirty : (k : SyncBody) (a : Arrived) (p : ServePlace) (made : Move) → CleanTo false made (sync_goes_to (sync_arrives k a p))
  arrives_dirty k a p made =
      elim p as (λ p. CleanTo false made (sync_goes_to (sync_arrives k a p)))
      [ serve.Width x z ↦ goes_dirty false made k (place.Serve (serve.Width x z)) None refl | _ ↦ over a.served.failed (has_further_job k) ]
    where
      over : (b c : Bool) → CleanTo false made (sync_goes_to (sync_job_over k a b c))
      over true c = goes_dirty false made k (sync_ends a FAILED) None refl
      over false true = goes_dirty false made (next_job_of k) (sync_finds (next_job_of k) (Some a)) None refl
      over false false = goes_dirty false made k (sync_ends a 0) None refl

  serves_dirty : (k : SyncBody) (p : ServePlace) (v : ℕ) (made : Move) → CleanTo false made (sync_serves k p v)
  serves_dirty k (serve.Width a p) v made = goes_dirty false made k (place.Serve (serve_takes k.table k.unit (serve.Width a p) v).0) None refl
  serves_dirty k (serve.Find a p f) v made = goes_dirty false made k (place.Serve (serve_takes k.table k.unit (serve.Find a p f) v).0) None refl
  serves_dirty k (serve.Begin a p x) v made = goes_dirty false made k (place.Serve (serve_takes k.table k.unit (serve.Begin a p x) v).0) (Some (Start (unit_named k.unit))) refl
  serves_dirty k (serve.Let a p t) v made = goes_dirty false made k (place.Serve (serve_takes k.table k.unit (serve.Let a p t) v).0) None refl
  serves_dirty k (serve.Keep x p) v made = goes_dirty false made k (place.Serve (serve_takes k.table k.unit (serve.Keep x p) v).0) None refl
  serves_dirty k (serve.Stand p) v made = λ f. absurd (cc)
  serves_dirty k (serve.Acknowledge a c) v made = goes_dirty false made k (place.Serve (serve_takes k.table k.unit (serve.Acknowledge a c) v).0) (Some Act) refl
  serves_dirty k (serve.Free a c) v made = goes_dirty false made k (place.Serve (serve_takes k.table k.unit (serve.Free a c) v).0) None refl
  serves_dirty k (serve.Release l i t) v made = goes_dirty false made k (place.Serve (serve_takes k.table k.unit (serve.Release l i t) v).0) None refl
  serves_dirty k (serve.KeepLast l x) v made = goes_dirty false made k (place.Serve (serve_takes k.table k.unit (serve.KeepLast l x) v).0) None refl
  serves_dirty k (serve.Commit l i c) v made = goes_dirty false made k (place.Serve (serve_takes k.table k.unit (serve.Commit l i c) v).0) None refl
  serves_dirty k (serve.Result l) v made = goes_dirty false made k (place.Serve (serve_takes k.table k.unit (serve.Result l) v).0) None refl
  serves_dirty k _ v made = tt

  clean_at : (k : SyncBody) (p : SyncPlace) (v : ℕ) → sync_owes p ≡ false → CleanTo (sync_clean p) (sync_move k p) (sync_took k p v)
  clean_at k place.Free v e =
      elim (v == 0) as (λ q. CleanTo true (sync_move k place.Free) (sync_frees k q))
      [ true ↦ goes_dirty true (sync_move k place.Free) k (sync_finds k None) None refl | false ↦ tt ]
  clean_at k (place.Find b f) v e = goes_dirty false (sync_move k (place.Find b f)) k (sync_found b f v (find_gave f v)) None (found_dirty b f v (find_gave f v))
  clean_at k (place.Select b x) v e = λ f. absurd (cc)
  clean_at k (place.Width b x) v e = λ f. absurd (cc)
  clean_at k (place.Begin b x) v e = goes_dirty false (sync_move k (place.Begin b x)) k (sync_begun k b) (Some (Start (unit_named k.unit))) (begun_dirty k b)
  clean_at k place.Opens v e = λ f. absurd (cc)
  clean_at k place.Wait v e = λ f. absurd (cc)
  clean_at k (place.Shut failed) v e = λ f. absurd (cc)
  clean_at k (place.Taker failed) v e = goes_dirty false (sync_move k (place.Taker failed)) (with_taken k (taker_sent k v)) (sync_comes k failed (taker_sent k v)) None refl
  clean_at k (place.Receive r t) v e = arrives_dirty k (record { served = r; taker = t; word = v }) (begins_of k.table (record { served = r; taker = t; word = v })) (sync_move k (place.Receive r t))
  clean_at k (place.Serve p) v e = serves_dirty k p v (sync_move k (place.Serve p))
  clean_at k _ v e = absurd (cc)

  -- ---- how the steps turn the mask

  abbrev TurnTo : SyncBody → ℕ → SyncBody × BodyTaken → Type 0
  TurnTo k v r = TurnsTo (V d) 32 k r

  module _ (q u n : ℕ) (at : Position) (bs : List ℕ) (below : Reservations) (chip : Chip) (w : World) (s : SpiState) (o : Origin Call) (t : FrameHistory) where
    abbrev k : SyncPlace → SyncBody
    k p = body d q u n at bs p

    abbrev Turn : SyncPlace → ℕ → Type 0
    Turn p v = TurnsTo (V d) 32 (k p) (sync_took (k p) p v)

    turn_found : (b : Option Arrived) (f : Find) (v : ℕ) → KeepsMask true (is_closed ((V d).assertion (sync_at (k (place.Find b f)) (sync_found b f v (find_gave f v))))) (sync_room (place.Find b f)) ((V d).room (sync_at (k (place.Find b f)) (sync_found b f v (find_gave f v)))) None None
    turn_found b (finds.SetUp x) v = by (or_none v x.channel).source
      where
        by : (z : Bool) → let p = place.Find b (if z then finds.Source x 0 else finds.Default x) in KeepsMask true (is_closed ((V d).assertion (k p))) (sync_room (place.Find b (finds.SetUp x))) ((V d).room (k p)) None None
        by true = (refl, omega arith)
        by false = (refl, omega arith)
    turn_found b (finds.Held x i) v = by (unpacked v).source
      where
        by : (z : Bool) → let p = place.Find b (if z then finds.Source x i else finds.Default x) in KeepsMask true (is_closed ((V d).assertion (k p))) (sync_room (place.Find b (finds.Held x i))) ((V d).room (k p)) None None
        by true = (refl, omega arith)
        by false = (refl, omega arith)
    turn_found b _ v = (refl, omega arith)

    turn_begin : (b : Option Arrived) (x v : ℕ) → Turn (place.Begin b x) v
    turn_begin None x v = (refl, omega arith)
    turn_begin (Some r) x v = let few = keep_few (channel_served d r.served) r.served.at.word r.taker r.word in (refl, omega (arith, few))

    turn_taker : (failed : Bool) (x : Taker) → KeepsMask true (is_closed ((V d).assertion (sync_at (with_taken (k (place.Taker failed)) x) (sync_comes (k (place.Taker failed)) failed x)))) 30 ((V d).room (sync_at (with_taken (k (place.Taker failed)) x) (sync_comes (k (place.Taker failed)) failed x))) None None
    turn_taker failed (takers.Bank b) = (refl, omega arith)
    turn_taker failed (takers.SetUp by) = (refl, omega arith)

    turn_receive : (r : Served) (x : Taker) (v : ℕ) → Turn (place.Receive r x) v
    turn_receive r x v = by r.failed (further_of d a)
      where
        a : Arrived
        a = record { served = r; taker = x; word = v }

        kr : SyncBody
        kr = k (place.Receive r x)

        To : SyncBody × BodyTaken → Type 0
        To z = TurnsTo (V d) 32 kr z

        over : (b c : Bool) → To (sync_goes_to (sync_job_over kr a b c))
        over false true = let few = few_first (channel_sent (next_job_of kr) 0) in (refl, omega (arith, few))
        over _ _ = (refl, omega arith)

        by : (b : Bool) (z : Option Position) → To (sync_goes_to (sync_arrives kr a (if b then serve.Marks a else begins_by a z)))
        by false (Some p) = (refl, omega arith)
        by _ _ = over r.failed (has_further_job kr)

    turn_finds : (a : Arrived) (p : Position) (f : Find) (v : ℕ) (z : Option ℕ) → Fewer (room_at d) (serve_room (serve.Find a p f)) (serve_finds a p f v z) → let g = place.Serve (serve_finds a p f v z).0 in KeepsMask true (is_closed ((V d).assertion (k g))) (serve_room (serve.Find a p f)) ((V d).room (k g)) None None
    turn_finds a p f v None less = (refl, less)
    turn_finds a p f v (Some x) less = (refl, less)

    turn_lets : (a : Arrived) (p : Position) (e : Option Event) (x : Placed) (z : Bool) → let g = place.Serve (if z then serve.Let a p (releasing x Sent) else serve.Keep (keep_of d a) p) in KeepsMask true (is_closed ((V d).assertion (k g))) 6 ((V d).room (k g)) e None
    turn_lets a p e x true = (refl, omega arith)
    turn_lets a p e x false = let few = keep_few (channel_served d a.served) a.served.at.word a.taker a.word in (refl, omega (arith, few))

    not_shut : (p : ServePlace) → Type 0
    not_shut p = p ≡ serve.Shut → ⊥

    turn_serve : (p : ServePlace) (v : ℕ) → sent_owes p ≡ false → StandAt d below chip w s (k (place.Serve p)) o t → Turn (place.Serve p) v
    turn_serve (serve.Width a p) v e h = (refl, less_room d u (serve.Width a p) v refl tt (λ f. absurd (cc)))
    turn_serve (serve.Find a p f) v e h =
        plain_turns 32 true _ (serve_room (serve.Find a p f)) _ (find_move f) None None (find_plain f) (turn_finds a p f v (find_gave f v) (less_room d u (serve.Find a p f) v refl tt (λ g. absurd (cc))))
    turn_serve (serve.Begin a p x) v e h = turn_lets a p (Some (Start (unit_named u))) (channel_next d a p) ((channel_next d a p).channel.internal && is_last_place (channel_next d a p) p.word)
    turn_serve (serve.Acknowledge a (courses.Ends x)) v e h = let few = less_fuel d u (serve.Acknowledge a (courses.Ends x)) v refl in (refl, omega (arith, few))
    turn_serve (serve.Acknowledge a (courses.Further x)) v e h = absurd h.1
    turn_serve serve.Shut v e h = absurd h.1
    turn_serve serve.State v e h = absurd h.1
    turn_serve (serve.Running failed) v e h = absurd h.1
    turn_serve (serve.Position r failed) v e h = absurd h.1
    turn_serve (serve.Taker r) v e h = absurd h.1
    turn_serve (serve.Receive r x) v e h = absurd h.1
    turn_serve (serve.Marks a) v e h = absurd h.1
    turn_serve (serve.Nexts a c) v e h = absurd h.1
    turn_serve (serve.Further r x) v e h = absurd h.1
    turn_serve (serve.Again r x) v e h = absurd h.1
    turn_serve (serve.Drop r x) v e h = absurd h.1
    turn_serve _ v e h = absurd (cc)

    turns_at : (p : SyncPlace) (v : ℕ) → sync_owes p ≡ false → StandAt d below chip w s (k p) o t → Turn p v
    turns_at place.Free v e h =
        elim (v == 0) as (λ z. TurnsTo (V d) 32 (k place.Free) (sync_frees (k place.Free) z))
        [ true ↦ (let few = few_first (channel_sent (k place.Free) 0) in (refl, omega (arith, few))) | false ↦ omega arith ]
    turns_at (place.Find b f) v e h = plain_turns 32 true _ (sync_room (place.Find b f)) _ (find_move f) None None (find_plain f) (turn_found b f v)
    turns_at (place.Select b x) v e h = (refl, omega arith)
    turns_at (place.Width b x) v e h = (refl, omega arith)
    turns_at (place.Begin b x) v e h = turn_begin b x v
    turns_at place.Opens v e h = (refl, refl, refl, refl)
    turns_at place.Wait v e h = refl
    turns_at (place.Shut failed) v e h = (refl, refl, omega arith, refl, refl)
    turns_at (place.Taker failed) v e h =
        plain_turns 32 true _ 30 _ (asking (channel_sent (k (place.Taker failed)) at.channel) at.word) None None (asking_plain (channel_sent (k (place.Taker failed)) at.channel) at.word) (turn_taker failed (taker_sent (k (place.Taker failed)) v))
    turns_at (place.Receive r x) v e h = turn_receive r x v
    turns_at (place.Serve p) v e h = turn_serve p v e h
    turns_at _ v e h = absurd (cc)

-- ---- all of it

free_when : (q : Bool) (k : SyncBody) → where_owed q (Sends k) ≡ None → q ≡ false
free_when true k e = absurd (cc)
free_when false k e = refl

free_at : (k : SyncBody) → sync_owed k ≡ None → sync_owes k.place ≡ false
free_at k e = free_when (sync_owes k.place) k e

module _ (d : SpiTable) (fits : FitsSpi d) (windows : AreWindowsRight d) where
  abbrev with_table : SyncBody → SpiTable → SyncBody
  with_table k x = record k { table = x }

  -- where something stands the table is the driver's, and the frame that of a call that has told nothing
  stands_for : (below : Reservations) (chip : Chip) (w : World) (s : SpiState) (k : SyncBody) (o : Origin Call) (t : FrameHistory) (p : SyncPlace) → sync_owes p ≡ false → StandAt d below chip w s (sync_at k p) o t → IsSender d k.table k.sequence k.unit k.banks below o t
  stands_for below chip w s k o t place.Free e h = h.1.0
  stands_for below chip w s k o t (place.Find b f) e h = h.1.0
  stands_for below chip w s k o t (place.Select b x) e h = h.1.0
  stands_for below chip w s k o t (place.Width b x) e h = h.1.0
  stands_for below chip w s k o t (place.Begin b x) e h = h.1.0
  stands_for below chip w s k o t place.Opens e h = h.1
  stands_for below chip w s k o t place.Wait e h = h.1
  stands_for below chip w s k o t (place.Shut failed) e h = h.1
  stands_for below chip w s k o t (place.Taker failed) e h = h.1
  stands_for below chip w s k o t (place.Receive r x) e h = h.1.0
  stands_for below chip w s k o t (place.Serve (serve.Width a p)) e h = h.1.0
  stands_for below chip w s k o t (place.Serve (serve.Find a p f)) e h = h.1.0
  stands_for below chip w s k o t (place.Serve (serve.Begin a p x)) e h = h.1.0
  stands_for below chip w s k o t (place.Serve (serve.Acknowledge a (courses.Ends x))) e h = h.1.0
  stands_for below chip w s k o t (place.Serve (serve.Acknowledge a (courses.Further x))) e h = absurd h.1
  stands_for below chip w s k o t (place.Serve serve.Shut) e h = absurd h.1
  stands_for below chip w s k o t (place.Serve serve.State) e h = absurd h.1
  stands_for below chip w s k o t (place.Serve (serve.Running failed)) e h = absurd h.1
  stands_for below chip w s k o t (place.Serve (serve.Position r failed)) e h = absurd h.1
  stands_for below chip w s k o t (place.Serve (serve.Taker r)) e h = absurd h.1
  stands_for below chip w s k o t (place.Serve (serve.Receive r x)) e h = absurd h.1
  stands_for below chip w s k o t (place.Serve (serve.Marks a)) e h = absurd h.1
  stands_for below chip w s k o t (place.Serve (serve.Nexts a c)) e h = absurd h.1
  stands_for below chip w s k o t (place.Serve (serve.Further r x)) e h = absurd h.1
  stands_for below chip w s k o t (place.Serve (serve.Again r x)) e h = absurd h.1
  stands_for below chip w s k o t (place.Serve (serve.Drop r x)) e h = absurd h.1
  stands_for below chip w s k o t _ e h = absurd (cc)

  -- so it is enough to look at bodies with that table
  module _ (below : Reservations) (chip : Chip) (w : World) (s : SpiState) (k : SyncBody) (o : Origin Call) (t : FrameHistory) (free : sync_owed k ≡ None) (h : StandAt d below chip w s k o t) where
    pub sender : IsSender d k.table k.sequence k.unit k.banks below o t
    sender = stands_for below chip w s k o t k.place (free_at k free) h

    abbrev now : SyncBody
    now = with_table k d

    stands_now : StandAt d below chip w s now o t
    stands_now = subst (λ x. StandAt d below chip w s (with_table k x) o t) sender.table h

    -- what is so of those is so of all
    as_now : (P : SyncBody → Type 0) → P now → P k
    as_now P p = subst (λ x. P (with_table k x)) (sym sender.table) p

  sync_free : AreFree (spi_basis d) (V d) sync_owed (λ k. None)
  sync_free = record {
    own = λ below chip w s k o t i h. as_now below chip w s k o t i h (λ z. is_shared (sync_work z) || (may_wait d (sync_work z) o || may d (sync_work z)) ≡ true) (own_at d k.sequence k.unit k.job k.at k.banks below chip w s o t fits k.place (free_at k i) (stands_now below chip w s k o t i h));
    turns = λ below chip w s k o t i h. as_now below chip w s k o t i h (λ z. TurnsTo (V d) 32 z (sync_takes z (value_of chip (sync_work z)))) (turns_at d k.sequence k.unit k.job k.at k.banks below chip w s o t k.place (value_of chip (sync_work (with_table k d))) (free_at k i) (stands_now below chip w s k o t i h));
    steps = λ below chip w s k o y t m i come few h. steps below chip w s k o y t m i come.0 h;
    later = later;
    calm = λ below chip w s k o t i h f. as_now below chip w s k o t i h (λ z. (sync_takes z (value_of chip (sync_work z))).1.event ≡ None → (resets_chip (sync_work z) ≡ false) × (begins_word (sync_work z) ≡ false)) (calm_at d k.sequence k.unit k.job k.at k.banks below chip w s o t k.place (value_of chip (sync_work (with_table k d))) (free_at k i) (stands_now below chip w s k o t i h)) f;
    shortens = λ k v i. subst (λ q. ShortensTo (or_owed (λ z. 1 + ((spi_owing d).more z + about_steps (about_sent z))) q (sync_fuel k k.place)) ((V d).fuel (sync_takes k v).0) (sync_takes k v).1.done) (sym i) (short_at d k k.place v (free_at k i));
    cleans = λ k v i. subst (λ q. CleanTo d (or_owed (λ z. false) q (sync_clean k.place)) (sync_work k) (sync_takes k v)) (sym i) (clean_at d k k.place v (free_at k i));
  }
    where
      steps : (below : Reservations) (chip : Chip) (w : World) (s : SpiState) (k : SyncBody) (o : Origin Call) (y : ℕ) (t : FrameHistory) (m : ℕ → Bool) → sync_owed k ≡ None → stall_of chip (sync_work k) ≡ 0 → StandAt d below chip w s k o t → Right (spi_basis d) (V d) below chip w s k o y t m
      steps below chip w s k o y t m i still h =
          as_now below chip w s k o t i h (λ z. stall_of chip (sync_work z) ≡ 0 → Right (spi_basis d) (V d) below chip w s z o y t m) (λ still. by (sender below chip w s k o t i h).this still (stands_now below chip w s k o t i h) (sender below chip w s k o t i h)) still
        where
          by : {o : Origin Call} {t : FrameHistory} → IsThisFrame (Called (asks k.sequence)) fresh_history o t → stall_of chip (sync_work (with_table k d)) ≡ 0 → StandAt d below chip w s (with_table k d) o t → IsSender d k.table k.sequence k.unit k.banks below o t → Right (spi_basis d) (V d) below chip w s (with_table k d) o y t m
          by Is_this_frame still g is = steps_at d fits windows k.sequence k.unit k.job k.at k.banks below chip w s y m k.place (free_at k i) still g

      -- where the mask is closed no array is filled
      later : (below : Reservations) (chip : Chip) (w : World) (s : SpiState) (order : Order) (k : SyncBody) (o : Origin Call) (t : FrameHistory) → sync_owed k ≡ None → MayCome (spi_setting d) (with_holds o t.acted (holds_at ((V d).assertion k)) below) chip w s order → (is_masked chip ≡ false → is_closed ((V d).assertion k) ≡ false) → StandAt d below chip w s k o t
          → place_at ((V d).assertion k) below ((spi_basis d).foot (happened chip order)) (world_after w chip.clock.rate order) (moved d w s order) o t
      later below chip w s order k o t i come shut h =
          let free_spot : (V d).assertion k ≡ sync_spot d k k.place = ap (λ q. spot_or (sync_windows d) q (sync_spot d k k.place)) i in
          subst (λ z. place_at z below ((spi_basis d).foot (happened chip order)) (world_after w chip.clock.rate order) (moved d w s order) o t) (sym free_spot)
          (as_now below chip w s k o t i h (λ z. (is_closed (sync_spot d z z.place) ≡ true → is_fill order ≡ false) → place_at (sync_spot d z z.place) below ((spi_basis d).foot (happened chip order)) (world_after w chip.clock.rate order) (moved d w s order) o t)
          (λ none. later_at d k.sequence k.unit k.job k.at k.banks below chip w s o t fits order k.place (free_at k i) none (stands_now below chip w s k o t i h)) (λ closed. whether (is_masked chip)
          (λ e. not_filled (spi_setting d) w s come.frames order (subst (λ q. IsFree (spi_setting d) q w s come.frames order) e come.free))
          (λ e. absurd (let f = sym (shut e) ∙ (ap (λ z. is_closed z) free_spot ∙ closed) in cc))))

  pub sync_right : AreLong (spi_basis d) (sync_bodies d)
  sync_right = windows_right (spi_bare d) (spi_owing d) same_chip (owed_right d) (sync_windows d) (λ k. None) (sync_wins d) sync_free

  -- ---- it waits with the mask open

  opens_at : (k : SyncBody) (p : SyncPlace) → is_wait (sync_move k p) ≡ true → is_closed (spot_or (sync_windows d) (where_owed (sync_owes p) (Sends k)) (sync_spot d k p)) ≡ false
  opens_at k place.Wait e = refl
  opens_at k (place.Find b f) e = never (find_move f) (find_once f) e
  opens_at k (place.Keep r p) e = never (keep_move p) (keep_once p) e
  opens_at k (place.Commit r i p) e = never (put_move p) (put_once p) e
  opens_at k (place.Prepare i p) e = never (prepare_move p) (prepare_once p) e
  opens_at k (place.Taker failed) e = never _ (asking_once (channel_sent k k.at.channel) k.at.word) e
  opens_at k (place.Serve p) e = never (serve_move k.table k.unit p) (serve_once k.table k.unit p) e
  opens_at k _ e = absurd (cc)

  pub sync_opens : (k : SyncBody) → is_wait ((sync_bodies d).work_of k) ≡ true → is_closed ((sync_bodies d).assertion k) ≡ false
  sync_opens k e = opens_at k k.place e
