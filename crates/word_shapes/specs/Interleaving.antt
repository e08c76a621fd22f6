-- Puts and takes of three banks, in any interleaving with one another and with stores elsewhere.
use Rattle.std.specs.Prelude.{◌≡◌, ℕ, zero, suc, ◌+◌, ◌<◌, false, Option, Some, None, List, [], ◌∷◌, ◌++◌, length}
use Rattle.mcal_base.specs.declared.answer.Answer.{Answer}
use Rattle.word_shapes.specs.Playing.{Memory, Play, stored, given, after}
use Rattle.word_shapes.specs.Banks.{Putting, Taking}
use Rattle.word_shapes.specs.TripleBuffer.{own_of, Stands, putting, taking, put_start, take_start}
use Rattle.word_shapes.specs.declared.put.PutPart.TheVariants as puts
use Rattle.word_shapes.specs.declared.take.TakePart.TheVariants as takes
use Rattle.word_shapes.specs.declared.triple_buffer.TripleBuffer.{TripleBuffer}

-- A part of the put or of the take, made whole, or a store to a word that isn't theirs. A put that is left without a
-- commit is abandoned.
pub data Action : Type 0 where
  Chooses : Action
  Fills : ℕ → Action
  Commits : Action
  Abandons : Action
  Pins : Action
  Reads : ℕ → Action
  Releases : Action
  Stores : ℕ → ℕ → Action

-- ---- by lists alone

-- The list that was committed last, what the open put has filled in, and the list that the open take pinned.
pub record Told : Type 0 where
  pub newest : List ℕ
  pub put : Option (List ℕ)
  pub kept : Option (List ℕ)

-- before any part
abbrev pub told_first : List ℕ → Told
told_first xs = record { newest = xs; put = None; kept = None }

abbrev pub told_filled : ℕ → Option (List ℕ) → Option (List ℕ)
told_filled value None = None
told_filled value (Some xs) = Some (xs ++ value ∷ [])

abbrev pub told_newest : List ℕ → Option (List ℕ) → List ℕ
told_newest newest None = newest
told_newest newest (Some xs) = xs

abbrev pub told_after : Told → Action → Told
told_after w Chooses = record w { put = Some [] }
told_after w (Fills value) = record w { put = told_filled value w.put }
told_after w Commits = record w { newest = told_newest w.newest w.put; put = None }
told_after w Abandons = record w { put = None }
told_after w Pins = record w { kept = Some w.newest }
told_after w (Reads index) = w
told_after w Releases = record w { kept = None }
told_after w (Stores k value) = w

abbrev pub told_all : Told → List Action → Told
told_all w [] = w
told_all w (d ∷ ds) = told_all (told_after w d) ds

-- at most one put and one take are open, a put is committed once it is whole, and other stores fall elsewhere
abbrev pub May : TripleBuffer → Told → Action → Type 0
May t w Chooses = w.put ≡ None
May t w (Fills value) = (xs : List ℕ) × (w.put ≡ Some xs) × (length xs < t.len)
May t w Commits = (xs : List ℕ) × (w.put ≡ Some xs) × (length xs ≡ t.len)
May t w Abandons = Unit {0}
May t w Pins = w.kept ≡ None
May t w (Reads index) = (index < t.len) × ((xs : List ℕ) × (w.kept ≡ Some xs))
May t w Releases = (xs : List ℕ) × (w.kept ≡ Some xs)
May t w (Stores k value) = own_of t k ≡ false

abbrev pub AllMay : TripleBuffer → Told → List Action → Type 0
AllMay t w [] = Unit {0}
AllMay t w (d ∷ ds) = May t w d × AllMay t (told_after w d) ds

-- ---- by words and routines

abbrev pub step_on : Option Answer → Memory × List ℕ → Memory → Memory × List ℕ
step_on None going m = going
step_on (Some a) going m = (m, a.words)

-- a routine that runs to its end: the words that it leaves, and what it gives
abbrev pub played : {R : Type 0} → Play R → ℕ → R → Memory → Memory × List ℕ
played p zero r m = (m, [])
played p (suc n) r m =
    step_on (p.gave r (given m (p.move_of r))).ended
    (played p n (p.left r (given m (p.move_of r))) (after m (p.move_of r)))
    (after m (p.move_of r))

abbrev pub first : List ℕ → ℕ
first [] = 0
first (x ∷ xs) = x

-- The words, the bank of the open put with its next index, and the bank of the open take.
pub record Live : Type 0 where
  pub words : Memory
  pub put : Option (ℕ × ℕ)
  pub take : Option ℕ

abbrev pub live_first : Memory → Live
live_first m = record { words = m; put = None; take = None }

abbrev pub live_filled : TripleBuffer → ℕ → Live → Option (ℕ × ℕ) → Live
live_filled t value l None = l
live_filled t value l (Some p) = record l { words = (played putting 1 (put_start t (puts.Fill p.0 p.1 value)) l.words).0; put = Some (p.0, p.1 + 1) }

abbrev pub live_committed : TripleBuffer → Live → Option (ℕ × ℕ) → Live
live_committed t l None = l
live_committed t l (Some p) = record l { words = (played putting 2 (put_start t (puts.Commit p.0)) l.words).0; put = None }

abbrev pub live_read : TripleBuffer → ℕ → Live → Option ℕ → Memory × List ℕ
live_read t index l None = (l.words, [])
live_read t index l (Some b) = played taking 1 (take_start t (takes.Word b index)) l.words

abbrev pub live_after : TripleBuffer → Live → Action → Live
live_after t l Chooses = let o = played putting 1 (put_start t puts.Choose) l.words in record l { words = o.0; put = Some (first o.1, 0) }
live_after t l (Fills value) = live_filled t value l l.put
live_after t l Commits = live_committed t l l.put
live_after t l Abandons = record l { put = None }
live_after t l Pins = let o = played taking 2 (take_start t takes.Pin) l.words in record l { words = o.0; take = Some (first o.1) }
live_after t l (Reads index) = record l { words = (live_read t index l l.take).0 }
live_after t l Releases = record l { words = (played taking 2 (take_start t takes.Release) l.words).0; take = None }
live_after t l (Stores k value) = record l { words = stored l.words k value }

abbrev pub live_all : TripleBuffer → Live → List Action → Live
live_all t l [] = l
live_all t l (d ∷ ds) = live_all t (live_after t l d) ds

-- ---- how the two go together

abbrev pub AreFilled : Option (ℕ × ℕ) → Option (List ℕ) → Type 0
AreFilled None None = Unit {0}
AreFilled None (Some xs) = ⊥
AreFilled (Some p) None = ⊥
AreFilled (Some p) (Some xs) = p.1 ≡ length xs

abbrev pub AreTaken : Option ℕ → Option (List ℕ) → Type 0
AreTaken None None = Unit {0}
AreTaken None (Some xs) = ⊥
AreTaken (Some b) None = ⊥
AreTaken (Some b) (Some xs) = Unit {0}

abbrev pub put_of : Option (ℕ × ℕ) → Option (List ℕ) → Option Putting
put_of (Some p) (Some xs) = Some (record { bank = p.0; filled = xs })
put_of _ _ = None

abbrev pub take_of : Option ℕ → Option (List ℕ) → Option Taking
take_of (Some b) (Some xs) = Some (record { bank = b; kept = xs })
take_of _ _ = None

-- the words stand for what is told by lists, with some bank as the newest
pub record Matches (t : TripleBuffer) (l : Live) (w : Told) : Type 0 where
  pub bank : ℕ
  pub put : AreFilled l.put w.put
  pub take : AreTaken l.take w.kept
  pub stands : Stands t l.words (record { bank = bank; newest = w.newest; put = put_of l.put w.put; take = take_of l.take w.kept })

-- ---- what a take reads

-- the take isn't released
abbrev pub Stays : Action → Type 0
Stays Releases = ⊥
Stays _ = Unit {0}

abbrev pub AllStay : List Action → Type 0
AllStay [] = Unit {0}
AllStay (d ∷ ds) = Stays d × AllStay ds

-- the indexes that are read, in their order, and the words that the reads give
abbrev pub indexes : List Action → List ℕ
indexes [] = []
indexes (Reads index ∷ ds) = index ∷ indexes ds
indexes (d ∷ ds) = indexes ds

abbrev pub read_by : TripleBuffer → Live → Action → List ℕ
read_by t l (Reads index) = (live_read t index l l.take).1
read_by t l _ = []

abbrev pub read_all : TripleBuffer → Live → List Action → List ℕ
read_all t l [] = []
read_all t l (d ∷ ds) = read_by t l d ++ read_all t (live_after t l d) ds

-- no put is committed
abbrev pub LeavesOut : Action → Type 0
LeavesOut Commits = ⊥
LeavesOut _ = Unit {0}

abbrev pub AllLeaveOut : List Action → Type 0
AllLeaveOut [] = Unit {0}
AllLeaveOut (d ∷ ds) = LeavesOut d × AllLeaveOut ds
