-- Whatever parts of puts and takes come in whatever order, the words stand for what is told by lists.
use Rattle.std.proofs.Common.{◌≡◌, ℕ, zero, suc, ◌+◌, ◌<◌, Bool, Option, Some, None, List, [], ◌∷◌, ◌++◌, length, map, take, ◌≤◌, refl, sym, ◌∙◌, ap, subst, arith, add-one, length-append}
use Rattle.std.specs.List.{range_with_len}
use Rattle.std.specs.Prelude.{slice_index}
use Rattle.mcal_base.specs.declared.answer.Answer.{Answer}
use Rattle.word_shapes.specs.Playing.{Memory, Play, given, after, Either, Ends}
use Rattle.word_shapes.specs.Banks.{Putting, Taking, Banks}
use Rattle.word_shapes.specs.TripleBuffer.{Fits, Stands, TakeStands, TakeIn}
use Rattle.word_shapes.specs.Interleaving.{Action, Chooses, Fills, Commits, Abandons, Pins, Reads, Releases, Stores, Told, told_first, told_after, told_all, May, AllMay, played, step_on, Live, live_first, live_read, live_after, live_all, AreFilled, AreTaken, put_of, take_of, Matches, AllStay, indexes, read_all, LeavesOut, AllLeaveOut}
use Rattle.word_shapes.specs.declared.triple_buffer.TripleBuffer.{TripleBuffer}
use Rattle.word_shapes.proofs.TripleBufferLaws.{bank-word, newest-in, stands-other, chooses, fills, commits, pins, releases, abandons}

-- ---- a routine that runs to its end does what it ends with

on_step : (o : Option Answer) (going : Memory × List ℕ) (m : Memory) (Going : Type 0) (Done : Memory → List ℕ → Type 0) → (Going → Done going.0 going.1)
    → Either o Going (Done m) → Done (step_on o going m).0 (step_on o going m).1
on_step None going m Going Done more h = more h
on_step (Some a) going m Going Done more h = h.1

pub ends-played : {R : Type 0} (p : Play R) (own : ℕ → Bool) (n : ℕ) (r : R) (m : Memory) (Done : Memory → List ℕ → Type 0)
    → Ends p own n r m Done → Done (played p n r m).0 (played p n r m).1
ends-played p own zero r m Done h = absurd h
ends-played p own (suc n) r m Done h =
    let v = given m (p.move_of r) in
    let left = p.left r v in
    let later = after m (p.move_of r) in
    on_step (p.gave r v).ended (played p n left later) later (Ends p own n left later Done) Done (ends-played p own n left later Done) h.2

-- ---- the put and the take that are open

filled-some : (o : Option (ℕ × ℕ)) (xs : List ℕ) → AreFilled o (Some xs) → (p : ℕ × ℕ) × (o ≡ Some p) × (p.1 ≡ length xs)
filled-some None xs h = absurd h
filled-some (Some p) xs h = (p, refl, h)

filled-none : (o : Option (ℕ × ℕ)) → AreFilled o None → o ≡ None
filled-none None h = refl
filled-none (Some p) h = absurd h

taken-some : (o : Option ℕ) (xs : List ℕ) → AreTaken o (Some xs) → (b : ℕ) × (o ≡ Some b)
taken-some None xs h = absurd h
taken-some (Some b) xs h = (b, refl)

taken-none : (o : Option ℕ) → AreTaken o None → o ≡ None
taken-none None h = refl
taken-none (Some b) h = absurd h

-- ---- each part

abbrev banks_of : ℕ → Live → Told → Banks
banks_of b l w = record { bank = b; newest = w.newest; put = put_of l.put w.put; take = take_of l.take w.kept }

fills-step : (t : TripleBuffer) (l : Live) (w : Told) (v : ℕ) (p : ℕ × ℕ) (xs : List ℕ) → Fits t → Matches t l w → l.put ≡ Some p → w.put ≡ Some xs → p.1 ≡ length xs → length xs < t.len
    → Matches t (live_after t l (Fills v)) (told_after w (Fills v))
fills-step t l w v p xs fits h ep ew at lt =
    let q : Putting = record { bank = p.0; filled = xs } in
    let open_put : put_of l.put w.put ≡ Some q = rw (ep, ew) refl in
    record {
      bank = h.bank;
      put = rw (ep, ew) (let e = length-append xs (v ∷ []) in omega arith);
      take = rw ep h.take;
      stands = rw (ep, ew, at) (fills t l.words (banks_of h.bank l w) q v fits lt open_put h.stands);
    }

commits-step : (t : TripleBuffer) (l : Live) (w : Told) (p : ℕ × ℕ) (xs : List ℕ) → Fits t → Matches t l w → l.put ≡ Some p → w.put ≡ Some xs → length xs ≡ t.len
    → Matches t (live_after t l Commits) (told_after w Commits)
commits-step t l w p xs fits h ep ew whole =
    let q : Putting = record { bank = p.0; filled = xs } in
    let open_put : put_of l.put w.put ≡ Some q = rw (ep, ew) refl in
    record {
      bank = p.0;
      put = rw ep tt;
      take = rw ep h.take;
      stands = rw (ep, ew) (commits t l.words (banks_of h.bank l w) q fits whole open_put h.stands);
    }

no_put : (o : Option (ℕ × ℕ)) → put_of o None ≡ None
no_put None = refl
no_put (Some p) = refl

no_take : (o : Option ℕ) → take_of o None ≡ None
no_take None = refl
no_take (Some b) = refl

pins-step : (t : TripleBuffer) (l : Live) (w : Told) → Fits t → Matches t l w → w.kept ≡ None → Matches t (live_after t l Pins) (told_after w Pins)
pins-step t l w fits h e =
    let none : take_of l.take w.kept ≡ None = rw e (no_take l.take) in
    record {
      bank = h.bank;
      put = h.put;
      take = tt;
      stands =
          subst (λ (b : ℕ). Stands t (live_after t l Pins).words (record { bank = h.bank; newest = w.newest; put = put_of l.put w.put; take = Some (record { bank = b; kept = w.newest }) }))
          (sym (newest-in t l.words (banks_of h.bank l w) h.stands))
          (pins t l.words (banks_of h.bank l w) fits none h.stands);
    }

reads-words : (t : TripleBuffer) (l : Live) (i : ℕ) (o : Option ℕ) → (live_read t i l o).0 ≡ l.words
reads-words t l i None = refl
reads-words t l i (Some b) = refl

step : (t : TripleBuffer) (l : Live) (w : Told) (d : Action) → Fits t → Matches t l w → May t w d → Matches t (live_after t l d) (told_after w d)
step t l w Chooses fits h may = record { bank = h.bank; put = refl; take = h.take; stands = chooses t l.words (banks_of h.bank l w) h.stands }
step t l w (Fills v) fits h may =
    let p = filled-some l.put may.0 (subst (AreFilled l.put) may.1 h.put) in
    fills-step t l w v p.0 may.0 fits h p.1 may.1 p.2 may.2
step t l w Commits fits h may =
    let p = filled-some l.put may.0 (subst (AreFilled l.put) may.1 h.put) in
    commits-step t l w p.0 may.0 fits h p.1 may.1 may.2
step t l w Abandons fits h may = record { bank = h.bank; put = tt; take = h.take; stands = abandons t l.words (banks_of h.bank l w) h.stands }
step t l w Pins fits h may = pins-step t l w fits h may
step t l w (Reads i) fits h may = record { bank = h.bank; put = h.put; take = h.take; stands = rw (reads-words t l i l.take) h.stands }
step t l w Releases fits h may = record { bank = h.bank; put = h.put; take = tt; stands = releases t l.words (banks_of h.bank l w) fits h.stands }
step t l w (Stores k v) fits h may =
    record { bank = h.bank; put = h.put; take = h.take; stands = stands-other t l.words k v (banks_of h.bank l w) may h.stands }

-- ---- all parts

pub matches-all : (t : TripleBuffer) (l : Live) (w : Told) (ds : List Action) → Fits t → Matches t l w → AllMay t w ds → Matches t (live_all t l ds) (told_all w ds)
matches-all t l w [] fits h may = h
matches-all t l w (d ∷ ds) fits h may = matches-all t (live_after t l d) (told_after w d) ds fits (step t l w d fits h may.0) may.1

pub matches-first : (t : TripleBuffer) (m : Memory) (b : ℕ) (xs : List ℕ) → Stands t m (record { bank = b; newest = xs; put = None; take = None }) → Matches t (live_first m) (told_first xs)
matches-first t m b xs h = record { bank = b; put = tt; take = tt; stands = h }

-- ---- what a take reads

reads-at : (t : TripleBuffer) (l : Live) (w : Told) (i b : ℕ) (xs : List ℕ) → Matches t l w → i < t.len → l.take ≡ Some b → w.kept ≡ Some xs → (live_read t i l l.take).1 ≡ slice_index xs i ∷ []
reads-at t l w i b xs h lt eb ew =
    let x : Taking = record { bank = b; kept = xs } in
    let open_take : take_of l.take w.kept ≡ Some x = rw (eb, ew) refl in
    let held : TakeStands t l.words x = subst (TakeIn t l.words) open_take h.stands.take in
    rw eb (ap (λ v. v ∷ []) (bank-word t l.words b i xs lt held.kept))

pub reads-kept : (t : TripleBuffer) (l : Live) (w : Told) (i : ℕ) (xs : List ℕ) → Matches t l w → i < t.len → w.kept ≡ Some xs → (live_read t i l l.take).1 ≡ slice_index xs i ∷ []
reads-kept t l w i xs h lt e =
    let b = taken-some l.take xs (subst (AreTaken l.take) e h.take) in
    reads-at t l w i b.0 xs h lt b.1 e

pub reads-all : (t : TripleBuffer) (l : Live) (w : Told) (ds : List Action) (xs : List ℕ) → Fits t → Matches t l w → AllMay t w ds → AllStay ds → w.kept ≡ Some xs
    → read_all t l ds ≡ map (slice_index xs) (indexes ds)
reads-all t l w [] xs fits h may stay e = refl
reads-all t l w (Chooses ∷ ds) xs fits h may stay e = reads-all t (live_after t l Chooses) (told_after w Chooses) ds xs fits (step t l w Chooses fits h may.0) may.1 stay.1 e
reads-all t l w (Fills v ∷ ds) xs fits h may stay e = reads-all t (live_after t l (Fills v)) (told_after w (Fills v)) ds xs fits (step t l w (Fills v) fits h may.0) may.1 stay.1 e
reads-all t l w (Commits ∷ ds) xs fits h may stay e = reads-all t (live_after t l Commits) (told_after w Commits) ds xs fits (step t l w Commits fits h may.0) may.1 stay.1 e
reads-all t l w (Abandons ∷ ds) xs fits h may stay e = reads-all t (live_after t l Abandons) (told_after w Abandons) ds xs fits (step t l w Abandons fits h may.0) may.1 stay.1 e
reads-all t l w (Pins ∷ ds) xs fits h may stay e = (let a = may.0 in absurd (let n : ◌≡◌ {A = Option (List ℕ)} None (Some xs) = sym a ∙ e in cc))
reads-all t l w (Reads i ∷ ds) xs fits h may stay e =
    rw (reads-kept t l w i xs h may.0.0 e)
    (ap (λ ys. slice_index xs i ∷ ys) (reads-all t (live_after t l (Reads i)) (told_after w (Reads i)) ds xs fits (step t l w (Reads i) fits h may.0) may.1 stay.1 e))
reads-all t l w (Releases ∷ ds) xs fits h may stay e = absurd stay.0
reads-all t l w (Stores k v ∷ ds) xs fits h may stay e = reads-all t (live_after t l (Stores k v)) (told_after w (Stores k v)) ds xs fits (step t l w (Stores k v) fits h may.0) may.1 stay.1 e

ranged-more : (x : ℕ) (xs : List ℕ) (j n : ℕ) → map (slice_index (x ∷ xs)) (range_with_len (j + 1) n) ≡ map (slice_index xs) (range_with_len j n)
ranged-more x xs j zero = refl
ranged-more x xs j (suc n) = ap (λ y. y ∷ map (slice_index (x ∷ xs)) (range_with_len (j + 1 + 1) n)) (ap (slice_index (x ∷ xs)) (add-one j)) ∙ ap (λ ys. slice_index xs j ∷ ys) (ranged-more x xs (j + 1) n)

pub ranged-take : (xs : List ℕ) (n : ℕ) → n ≤ length xs → map (slice_index xs) (range_with_len 0 n) ≡ take n xs
ranged-take xs zero le = refl
ranged-take [] (suc n) le = absurd (omega arith)
ranged-take (x ∷ xs) (suc n) le = ap (λ ys. x ∷ ys) (ranged-more x xs 0 n ∙ ranged-take xs n (omega arith))

-- a take that has read the first words has read the front of one list
pub reads-front : (t : TripleBuffer) (l : Live) (w : Told) (ds : List Action) (xs : List ℕ) (n : ℕ) → Fits t → Matches t l w → AllMay t w ds → AllStay ds → w.kept ≡ Some xs
    → indexes ds ≡ range_with_len 0 n → n ≤ length xs → read_all t l ds ≡ take n xs
reads-front t l w ds xs n fits h may stay e at le = reads-all t l w ds xs fits h may stay e ∙ ap (map (slice_index xs)) at ∙ ranged-take xs n le

-- ---- a take among all parts

may-split : (t : TripleBuffer) (w : Told) (ds es : List Action) → AllMay t w (ds ++ es) → AllMay t w ds × AllMay t (told_all w ds) es
may-split t w [] es h = (tt, h)
may-split t w (d ∷ ds) es h = let rest = may-split t (told_after w d) ds es h.1 in ((h.0, rest.0), rest.1)

pub reads-pinned : (t : TripleBuffer) (m : Memory) (b : ℕ) (xs : List ℕ) (ds es : List Action) (n : ℕ) → Fits t → Stands t m (record { bank = b; newest = xs; put = None; take = None })
    → AllMay t (told_first xs) (ds ++ Pins ∷ es) → AllStay es → indexes es ≡ range_with_len 0 n → n ≤ t.len
    → read_all t (live_after t (live_all t (live_first m) ds) Pins) es ≡ take n (told_all (told_first xs) ds).newest
reads-pinned t m b xs ds es n fits stands may stay at le =
    let l = live_all t (live_first m) ds in
    let w = told_all (told_first xs) ds in
    let parts = may-split t (told_first xs) ds (Pins ∷ es) may in
    let h = matches-all t (live_first m) (told_first xs) ds fits (matches-first t m b xs stands) parts.0 in
    let count : length w.newest ≡ t.len = h.stands.newest.0 in
    reads-front t (live_after t l Pins) (told_after w Pins) es w.newest n fits (step t l w Pins fits h parts.1.0) parts.1.1 stay refl at (omega arith)

-- ---- a put that isn't committed

left-out : (w : Told) (d : Action) → LeavesOut d → (told_after w d).newest ≡ w.newest
left-out w Chooses h = refl
left-out w (Fills v) h = refl
left-out w Commits h = absurd h
left-out w Abandons h = refl
left-out w Pins h = refl
left-out w (Reads i) h = refl
left-out w Releases h = refl
left-out w (Stores k v) h = refl

pub all-left-out : (w : Told) (ds : List Action) → AllLeaveOut ds → (told_all w ds).newest ≡ w.newest
all-left-out w [] h = refl
all-left-out w (d ∷ ds) h = all-left-out (told_after w d) ds h.1 ∙ left-out w d h.0
