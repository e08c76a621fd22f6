-- The moves that a call owes that sends a sequence and waits: after each one it owes the others, or it opens the mask and
-- waits, or ends.
-- From spi_sequences: services.ServeSteps, spi_sequences: services.SyncSteps and 2 more.
-- Used by services.SendRight.
use Rattle.std.proofs.Common.{◌≡◌, ◌+◌, ◌-◌, ◌==◌, ◌∙◌, ◌⊎◌, if◌then◌else◌}
use Rattle.spi_laws.specs.sending.Terms
use Terms.{and_parts, ap, AreWindows, arith, Arrived, begins_whole, BodyTaken, Bool, Call, Called, channel_number}
use Terms.{channel_sent, Chip, commit_by, commit_ends, commit_last, Continues, ends_of, ENotOk, EOk, false}
use Terms.{first_internal, first_pinned, FrameHistory, goes, GoesFree, GoesOwing, has_ended, inl, inr, is_simple}
use Terms.{Is_this_frame, IsThisFrame, keep_ends, keep_of, Leaving, list_of, may, MayStop, named, nat_lt, None}
use Terms.{Nothing, Option, Origin, owed_left, owed_move, PendingWrites, prepare_ends, put_gave, refl, release_by}
use Terms.{release_last, Reservations, run_sent, Sends, sent_owes, SequenceNext, serve_commits, serve_keeps}
use Terms.{serve_keeps_last, serve_lets, serve_releases, Served, ServePlace, Some, some_is, spi_bare, spi_basis}
use Terms.{spi_owing, SpiRepresents, SpiState, SpiTable, subst, sym, sync_at, sync_commits, sync_committed}
use Terms.{sync_keeps, sync_owed, sync_owes, sync_prepared, sync_prepares_at, sync_prepares_by, sync_serves}
use Terms.{sync_takes, sync_took, SyncBody, SyncPlace, SyncTransmit, take_gave, true, unless_done, where_owed}
use Terms.{whether_as, Windows, with_holds, World, ℕ}
use Rattle.spi_sequences.specs.laws.bookkeeping.RefinementRight.{frame_names}
use Rattle.spi_laws.specs.sending.Sending.{about_body, about_holds, about_sent, has_answered, SendAbout, StandsAbout}
use Rattle.spi_laws.specs.sending.Sending.{sync_ahead, sync_bodies, sync_windows}
use Rattle.spi_machine.specs.declared.call.Call.TheVariants as calls
use Rattle.spi_sequences.specs.laws.services.ServeSteps.{goes_on}
use Rattle.spi_sequences.specs.declared.service.serve.SequenceNext.TheVariants as courses
use Rattle.spi_sequences.specs.declared.service.serve.ServePlace.TheVariants as serve
use Rattle.spi_sequences.specs.declared.service.sync.SyncPlace.TheVariants as place

-- ---- a move that isn't the last one

-- it leads to another one, and what comes after them stays
abbrev Owing : SendAbout → SyncBody × BodyTaken → Type 0
Owing z t = (sync_owes t.0.place ≡ true) × (t.1 ≡ goes) × (about_body t.0 (sync_ahead t.0 t.0.place) ≡ z)

abbrev about_at : SyncBody → SyncPlace → SendAbout
about_at k p = about_body k (sync_ahead k p)

-- the channels of the job that began are made ready one after the other
prepares_on : (k : SyncBody) (i : ℕ) → Owing (about_at k place.Run) (sync_at k (sync_prepares_at k i), goes)
prepares_on k i = by (channel_number (list_of k.table (run_sent k).job) i)
  where
    by : (o : Option ℕ) → Owing (about_at k place.Run) (sync_at k (sync_prepares_by o k.table i), goes)
    by None = (refl, refl, refl)
    by (Some c) = (refl, refl, refl)

-- and the received words of those of the job before become readable
commits_on : (k : SyncBody) (r : Served) (n : ℕ) → Owing (about_at k place.Run) (sync_at k (sync_commits k r (first_internal k.table r n)), goes)
commits_on k r n =
    elim (first_internal k.table r n) as (λ o. Owing (about_at k place.Run) (sync_at k (sync_commits k r o), goes))
    [ None ↦ (refl, refl, refl) | Some i ↦ (refl, refl, refl) ]

-- the pins of a failed job end, and the received words of one that ended well become readable
release_on : (k : SyncBody) (l : Leaving) (n : ℕ) → Owing (about_at k (place.Serve (serve.Result l))) (sync_at k (place.Serve (release_last k.table l n)), goes)
release_on k l n = by (first_pinned k.table l.served n)
  where
    by : (o : Option ℕ) → Owing (about_at k (place.Serve (serve.Result l))) (sync_at k (place.Serve (release_by k.table l o)), goes)
    by None = (refl, refl, refl)
    by (Some i) = (refl, refl, refl)

commit_on : (k : SyncBody) (l : Leaving) (n : ℕ) → Owing (about_at k (place.Serve (serve.Result l))) (sync_at k (place.Serve (commit_last k.table l n)), goes)
commit_on k l n = by (first_internal k.table l.served n)
  where
    by : (o : Option ℕ) → Owing (about_at k (place.Serve (serve.Result l))) (sync_at k (place.Serve (commit_by k.table l o)), goes)
    by None = (refl, refl, refl)
    by (Some i) = (refl, refl, refl)

ends_on : (k : SyncBody) (r : Arrived) (c : SequenceNext) → Owing (about_at k (place.Serve (serve.Free r c))) (sync_at k (place.Serve (ends_of k.table r c)), goes)
ends_on k r c = by r.served.failed
  where
    l : Leaving
    l = record { served = r.served; taker = r.taker; course = c }

    by : (q : Bool) → Owing (about_at k (place.Serve (serve.Free r c))) (sync_at k (place.Serve (if q then release_last k.table l (4 - r.served.at.channel) else serve.KeepLast l (keep_of k.table r))), goes)
    by true = release_on k l (4 - r.served.at.channel)
    by false = (refl, refl, refl)

-- the place isn't that of a last move
abbrev MoreOf : SequenceNext → Type 0
MoreOf (courses.Ends x) = Unit {0}
MoreOf (courses.Further v) = ⊥

abbrev MoreIn : ServePlace → Type 0
MoreIn (serve.Stand p) = ⊥
MoreIn (serve.End r x) = ⊥
MoreIn (serve.Result l) = MoreOf l.course
MoreIn p = Unit {0}

abbrev More : SyncPlace → Type 0
More (place.Next n) = ⊥
More (place.Serve p) = MoreIn p
More p = Unit {0}

serve_more_on : (k : SyncBody) (p : ServePlace) (v : ℕ) → sent_owes p ≡ true → MoreIn p → Owing (about_at k (place.Serve p)) (sync_serves k p v)
serve_more_on k (serve.Let r x t) v e m = by (has_ended (take_gave t v))
  where
    by : (q : Bool) → Owing (about_at k (place.Serve (serve.Let r x t))) (sync_at k (place.Serve (serve_lets k.table r x t v q).0), goes)
    by true = (refl, refl, refl)
    by false = (refl, refl, refl)
serve_more_on k (serve.Keep y x) v e m =
    elim (keep_ends y) as (λ q. Owing (about_at k (place.Serve (serve.Keep y x))) (sync_at k (place.Serve (serve_keeps y x q).0), goes))
    [ true ↦ (refl, refl, refl) | false ↦ (refl, refl, refl) ]
serve_more_on k (serve.Free r c) v e m = ends_on k r c
serve_more_on k (serve.Release l i t) v e m = by (has_ended (take_gave t v))
  where
    by : (q : Bool) → Owing (about_at k (place.Serve (serve.Release l i t))) (sync_at k (place.Serve (serve_releases k.table l i t v q).0), goes)
    by true = release_on k l (3 - i)
    by false = (refl, refl, refl)
serve_more_on k (serve.KeepLast l y) v e m = whether_as (keep_ends y) (λ q. Owing (about_at k (place.Serve (serve.KeepLast l y))) (sync_at k (place.Serve (serve_keeps_last k.table l y q).0), goes))
    (λ _. commit_on k l 4)
    (λ _. (refl, refl, refl))
serve_more_on k (serve.Commit l i c) v e m = by (commit_ends c v)
  where
    by : (q : Bool) → Owing (about_at k (place.Serve (serve.Commit l i c))) (sync_at k (place.Serve (serve_commits k.table l i c v q).0), goes)
    by true = commit_on k l (3 - i)
    by false = (refl, refl, refl)
serve_more_on k (serve.Result l) v e m = by l.course m
  where
    by : (c : SequenceNext) → MoreOf c → Owing (about_at k (place.Serve (serve.Result (record { served = l.served; taker = l.taker; course = c })))) (sync_at k (place.Serve (goes_on l.served c)), goes)
    by (courses.Ends x) m = (refl, refl, refl)
    by (courses.Further y) m = absurd m
serve_more_on k (serve.Stand x) v e m = absurd m
serve_more_on k (serve.End r x) v e m = absurd m
serve_more_on k _ v e m = absurd (cc)

more_on : (k : SyncBody) (p : SyncPlace) (v : ℕ) → sync_owes p ≡ true → More p → Owing (about_at k p) (sync_took k p v)
more_on k place.Pend v e m = prepares_on k (if begins_whole (channel_sent k 0) then 1 else 0)
more_on k (place.Keep r p) v e m =
    elim (keep_ends p) as (λ q. Owing (about_at k (place.Keep r p)) (sync_at k (sync_keeps k r p q), goes))
    [ true ↦ commits_on k r 4 | false ↦ (refl, refl, refl) ]
more_on k (place.Commit r i p) v e m =
    elim (has_ended (put_gave p v)) as (λ q. Owing (about_at k (place.Commit r i p)) (sync_at k (sync_committed k r i p v q), goes))
    [ true ↦ commits_on k r (3 - i) | false ↦ (refl, refl, refl) ]
more_on k (place.Result r) v e m = prepares_on k (if begins_whole (channel_sent k 0) then 1 else 0)
more_on k (place.Prepare i p) v e m =
    elim (prepare_ends p v) as (λ q. Owing (about_at k (place.Prepare i p)) (sync_at k (sync_prepared k i p v q), goes))
    [ true ↦ next (nat_lt i 3) | false ↦ (refl, refl, refl) ]
  where
    next : (q : Bool) → Owing (about_at k (place.Prepare i p)) (sync_at k (if q then sync_prepares_at k (i + 1) else place.Run), goes)
    next true = prepares_on k (i + 1)
    next false = (refl, refl, refl)
more_on k place.Run v e m = (refl, refl, refl)
more_on k place.Stand v e m = (refl, refl, refl)
more_on k place.Nexts v e m = (refl, refl, refl)
more_on k (place.Next n) v e m = absurd m
more_on k (place.Serve p) v e m = serve_more_on k p v e m
more_on k _ v e m = absurd (cc)

-- ---- what a body owes are its moves

owed_when : (q : Bool) (k : SyncBody) (x : PendingWrites) → where_owed q (Sends k) ≡ Some x → (q ≡ true) × (Sends k ≡ x)
owed_when true k x e = (refl, some_is (Sends k) x e)
owed_when false k x e = absurd (cc)

owed_sent : (k : SyncBody) (x : PendingWrites) → sync_owed k ≡ Some x → (sync_owes k.place ≡ true) × (Sends k ≡ x)
owed_sent k x e = owed_when (sync_owes k.place) k x e

-- what is left after one of them
abbrev left_by : SyncBody × BodyTaken → Option PendingWrites
left_by t = unless_done t.1.done (sync_owed t.0)

left_of : (k : SyncBody) (v : ℕ) → sync_owes k.place ≡ true → owed_left (Sends k) v ≡ left_by (sync_takes k v)
left_of k v e = ap (λ q. if q then left_by (sync_takes k v) else None) e

-- another one is
left_more : (z : SendAbout) (t : SyncBody × BodyTaken) → Owing z t → left_by t ≡ Some (Sends t.0)
left_more z t on = ap (λ (n : BodyTaken). unless_done n.done (sync_owed t.0)) on.1 ∙ ap (λ q. where_owed q (Sends t.0)) on.0

module _ (d : SpiTable) where
  abbrev W : Windows (spi_bare d) PendingWrites (Option SendAbout) SyncBody (spi_owing d)
  W = sync_windows d

  -- after an owed move the frame owes others and is about the same, or it is the last one
  abbrev GoesSo : SendAbout → SyncBody × BodyTaken → Type 0
  GoesSo z t = Owing z t ⊎ ((left_by t ≡ None) × (t.1.event ≡ None) × GoesFree W (Some z) t.0 t.1.done)

  goes_so : (k : SyncBody) (p : SyncPlace) (v : ℕ) → sync_owes p ≡ true → GoesSo (about_at k p) (sync_took k p v)
  goes_so k (place.Next n) v e = inr (refl, refl, (refl, refl, refl, omega arith, omega arith))
  goes_so k (place.Serve (serve.Stand x)) v e = inr (refl, refl, (refl, refl, refl, omega arith, omega arith))
  goes_so k (place.Serve (serve.End r x)) v e = inr (refl, refl, tt)
  goes_so k (place.Serve (serve.Result l)) v e = by l.course refl
    where
      by : (c : SequenceNext) → l.course ≡ c → GoesSo (about_at k (place.Serve (serve.Result l))) (sync_took k (place.Serve (serve.Result l)) v)
      by (courses.Ends x) f = inl (serve_more_on k (serve.Result l) v refl (subst (λ c. MoreOf c) (sym f) tt))
      by (courses.Further x) f = subst (λ c. GoesSo (about_at k (place.Serve (serve.Result (record l { course = c })))) (sync_at k (place.Serve (goes_on l.served c)), goes)) (sym f) (inr (refl, refl, (refl, refl, refl, omega arith, omega arith)))
  goes_so k place.Pend v e = inl (more_on k place.Pend v e tt)
  goes_so k (place.Keep r p) v e = inl (more_on k (place.Keep r p) v e tt)
  goes_so k (place.Commit r i p) v e = inl (more_on k (place.Commit r i p) v e tt)
  goes_so k (place.Result r) v e = inl (more_on k (place.Result r) v e tt)
  goes_so k (place.Prepare i p) v e = inl (more_on k (place.Prepare i p) v e tt)
  goes_so k place.Run v e = inl (more_on k place.Run v e tt)
  goes_so k place.Stand v e = inl (more_on k place.Stand v e tt)
  goes_so k place.Nexts v e = inl (more_on k place.Nexts v e tt)
  goes_so k (place.Serve (serve.Let r x t)) v e = inl (more_on k (place.Serve (serve.Let r x t)) v e tt)
  goes_so k (place.Serve (serve.Keep y x)) v e = inl (more_on k (place.Serve (serve.Keep y x)) v e tt)
  goes_so k (place.Serve (serve.Free r c)) v e = inl (more_on k (place.Serve (serve.Free r c)) v e tt)
  goes_so k (place.Serve (serve.Release l i t)) v e = inl (more_on k (place.Serve (serve.Release l i t)) v e tt)
  goes_so k (place.Serve (serve.KeepLast l y)) v e = inl (more_on k (place.Serve (serve.KeepLast l y)) v e tt)
  goes_so k (place.Serve (serve.Commit l i c)) v e = inl (more_on k (place.Serve (serve.Commit l i c)) v e tt)
  goes_so k _ v e = absurd (cc)

  -- ---- after the last one the frame stands, or may end

  abbrev Continue : Reservations → Chip → World → SpiState → Origin Call → FrameHistory → (ℕ → Bool) → SyncBody × BodyTaken → Type 0
  Continue below chip w s o t m r = Continues (spi_basis d) (sync_bodies d) below chip w s o t m r.0 r.1.done

  -- more is owed
  not_last : (z : SendAbout) (t : SyncBody × BodyTaken) → Owing z t → left_by t ≡ None → ⊥
  not_last z t on none = let f = sym (left_more z t on) ∙ none in cc

  ends_so : (q x : ℕ) (m : ℕ → Bool) (o : Origin Call) (t : FrameHistory) → IsThisFrame (Called (calls.Sequence q SyncTransmit)) (has_answered x) o t → MayStop (spi_basis d) o t m (record { answer = named (if x == 0 then EOk else ENotOk); owed = Nothing })
  ends_so q x m _ _ Is_this_frame = record { may = (refl, refl); served = false; owed = refl; shown = λ i. absurd (cc); report = refl }

  stands_at : (k : SyncBody) (p : SyncPlace) (v : ℕ) (below : Reservations) (chip : Chip) (w : World) (s : SpiState) (o : Origin Call) (t : FrameHistory) (m : ℕ → Bool) → sync_owes p ≡ true → left_by (sync_took k p v) ≡ None
      → StandsAbout d (Some (about_at k p)) below o t → SpiRepresents d (with_holds o t.acted (about_holds (Some (about_at k p))) below) chip w s → Continue below chip w s o t m (sync_took k p v)
  stands_at k (place.Next n) v below chip w s o t m e none at h = (h, at)
  stands_at k (place.Serve (serve.Stand x)) v below chip w s o t m e none at h = (h, at)
  stands_at k (place.Serve (serve.End r x)) v below chip w s o t m e none at h = (h, ends_so k.sequence x m o t at)
  stands_at k (place.Serve (serve.Result l)) v below chip w s o t m e none at h = by l.course refl
    where
      by : (c : SequenceNext) → l.course ≡ c → Continue below chip w s o t m (sync_took k (place.Serve (serve.Result l)) v)
      by (courses.Ends x) f = absurd (not_last (about_at k (place.Serve (serve.Result l))) (sync_took k (place.Serve (serve.Result l)) v) (serve_more_on k (serve.Result l) v refl (subst (λ c. MoreOf c) (sym f) tt)) none)
      by (courses.Further x) f = absurd (subst (λ c. StandsAbout d (Some (about_at k (place.Serve (serve.Result (record l { course = c }))))) below o t) f at)
  stands_at k (place.Serve (serve.Let r x y)) v below chip w s o t m e none at h = absurd (not_last (about_at k (place.Serve (serve.Let r x y))) (sync_took k (place.Serve (serve.Let r x y)) v) (more_on k (place.Serve (serve.Let r x y)) v e tt) none)
  stands_at k (place.Serve (serve.Keep y x)) v below chip w s o t m e none at h = absurd (not_last (about_at k (place.Serve (serve.Keep y x))) (sync_took k (place.Serve (serve.Keep y x)) v) (more_on k (place.Serve (serve.Keep y x)) v e tt) none)
  stands_at k (place.Serve (serve.Free r c)) v below chip w s o t m e none at h = absurd (not_last (about_at k (place.Serve (serve.Free r c))) (sync_took k (place.Serve (serve.Free r c)) v) (more_on k (place.Serve (serve.Free r c)) v e tt) none)
  stands_at k (place.Serve (serve.Release l i y)) v below chip w s o t m e none at h = absurd (not_last (about_at k (place.Serve (serve.Release l i y))) (sync_took k (place.Serve (serve.Release l i y)) v) (more_on k (place.Serve (serve.Release l i y)) v e tt) none)
  stands_at k (place.Serve (serve.KeepLast l y)) v below chip w s o t m e none at h = absurd (not_last (about_at k (place.Serve (serve.KeepLast l y))) (sync_took k (place.Serve (serve.KeepLast l y)) v) (more_on k (place.Serve (serve.KeepLast l y)) v e tt) none)
  stands_at k (place.Serve (serve.Commit l i c)) v below chip w s o t m e none at h = absurd (not_last (about_at k (place.Serve (serve.Commit l i c))) (sync_took k (place.Serve (serve.Commit l i c)) v) (more_on k (place.Serve (serve.Commit l i c)) v e tt) none)
  stands_at k place.Pend v below chip w s o t m e none at h = absurd (not_last (about_at k place.Pend) (sync_took k place.Pend v) (more_on k place.Pend v e tt) none)
  stands_at k (place.Keep r p) v below chip w s o t m e none at h = absurd (not_last (about_at k (place.Keep r p)) (sync_took k (place.Keep r p) v) (more_on k (place.Keep r p) v e tt) none)
  stands_at k (place.Commit r i p) v below chip w s o t m e none at h = absurd (not_last (about_at k (place.Commit r i p)) (sync_took k (place.Commit r i p) v) (more_on k (place.Commit r i p) v e tt) none)
  stands_at k (place.Result r) v below chip w s o t m e none at h = absurd (not_last (about_at k (place.Result r)) (sync_took k (place.Result r) v) (more_on k (place.Result r) v e tt) none)
  stands_at k (place.Prepare i p) v below chip w s o t m e none at h = absurd (not_last (about_at k (place.Prepare i p)) (sync_took k (place.Prepare i p) v) (more_on k (place.Prepare i p) v e tt) none)
  stands_at k place.Run v below chip w s o t m e none at h = absurd (not_last (about_at k place.Run) (sync_took k place.Run v) (more_on k place.Run v e tt) none)
  stands_at k place.Stand v below chip w s o t m e none at h = absurd (not_last (about_at k place.Stand) (sync_took k place.Stand v) (more_on k place.Stand v e tt) none)
  stands_at k place.Nexts v below chip w s o t m e none at h = absurd (not_last (about_at k place.Nexts) (sync_took k place.Nexts v) (more_on k place.Nexts v e tt) none)
  stands_at k _ v below chip w s o t m e none at h = absurd (cc)

  -- ---- the places where moves are owed

  goes_on_so : (k : SyncBody) (z : PendingWrites) (v : ℕ) → sync_owes k.place ≡ true → left_by (sync_takes k v) ≡ Some z → GoesOwing W (Sends k) z (sync_takes k v)
  goes_on_so k z v i f = owing_on (sync_takes k v) (goes_so k k.place v i) f
    where
      owing_on : (t : SyncBody × BodyTaken) → GoesSo (about_at k k.place) t → left_by t ≡ Some z → GoesOwing W (Sends k) z t
      owing_on t (inl (q, g, same)) f =
          let left : sync_owed t.0 ≡ Some z = subst (λ (n : BodyTaken). unless_done n.done (sync_owed t.0) ≡ Some z) g f in
          (left, g, ap about_sent (sym (owed_sent t.0 z left).1) ∙ ap (λ y. Some y) same)
      owing_on t (inr (none, q, free)) f = absurd (let g = sym none ∙ f in cc)

  over_so : (k : SyncBody) (v : ℕ) → sync_owes k.place ≡ true → left_by (sync_takes k v) ≡ None → ((sync_takes k v).1.event ≡ None) × GoesFree W (Some (about_at k k.place)) (sync_takes k v).0 (sync_takes k v).1.done
  over_so k v i f = by (sync_takes k v) (goes_so k k.place v i) f
    where
      by : (t : SyncBody × BodyTaken) → GoesSo (about_at k k.place) t → left_by t ≡ None → (t.1.event ≡ None) × GoesFree W (Some (about_at k k.place)) t.0 t.1.done
      by t (inl on) f = absurd (not_last (about_at k k.place) t on f)
      by t (inr (none, q, free)) f = (q, free)

  pub sync_wins : AreWindows W (λ k. None)
  sync_wins = record {
    makes = λ k x e. ap owed_move (owed_sent k x e).1;
    on = λ k x z v e i. let is = owed_sent k x e in subst (λ y. GoesOwing W y z (sync_takes k v)) is.1 (goes_on_so k z v is.0 (sym (left_of k v is.0) ∙ ap (λ y. owed_left y v) is.1 ∙ i));
    over = λ k x v e i. let is = owed_sent k x e in subst (λ y. ((sync_takes k v).1.event ≡ None) × GoesFree W (about_sent y) (sync_takes k v).0 (sync_takes k v).1.done) is.1 (over_so k v is.0 (sym (left_of k v is.0) ∙ ap (λ y. owed_left y v) is.1 ∙ i));
    unended = λ k x v e. refl;
    may = λ x below o t made h e. frame_names d o made (and_parts (is_simple made) (may d made) e).1;
    stands = λ k x v below chip w s o t m e i p h.
        let is = owed_sent k x e in
        stands_at k k.place v below chip w s o t m is.0 (sym (left_of k v is.0) ∙ ap (λ y. owed_left y v) is.1 ∙ i) (subst (λ y. StandsAbout d (about_sent y) below o t) (sym is.1) p) (subst (λ y. SpiRepresents d (with_holds o t.acted (about_holds (about_sent y)) below) chip w s) (sym is.1) h);
  }
