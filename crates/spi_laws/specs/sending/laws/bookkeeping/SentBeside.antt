-- The frames below one that waits wait for words of other units; their reservations stay where those units' words and
-- registers do.
-- From spi_sequences: services.StartSteps.
-- Used by bookkeeping.SelectsNext, services.SendFurther, services.SendGoesOn, services.SendLast.
use Rattle.std.proofs.Common.{◌≡◌, ◌≢◌, ◌<◌, ◌==◌, [], ◌∷◌, ◌∙◌}
use Rattle.spi_laws.specs.sending.Terms
use Terms.{AllSend, ap, carried_at, Channel, channel_of, Chip, false, Going, held_word}
use Terms.{is_sent, KnowsEnd, list_any, Option, Part, placed_of, Reservation, Reservations}
use Terms.{run_carried, same_number, selects, Sending, SendingRight, slice_get, Some, SpiState, SpiTable}
use Terms.{some_is, subst, sym, unit_at, word_of, World, ℕ}
use Rattle.std.proofs.lemmas.Bool.{or_parts}

-- the units of other sequences go on as they were, and what they have selected and what is held of their jobs stays
pub sends_beside : (d : SpiTable) (q u : ℕ) (g : Going) (chip chip1 : Chip) (w : World) (going going1 : ℕ → Option Going) (s s1 : SpiState) → going u ≡ Some g → g.pending.sequence ≡ q → ((n : ℕ) → n ≢ u → going1 n ≡ going n) → ((n : ℕ) → n ≢ u → (unit_at chip1.serials n).select ≡ (unit_at chip.serials n).select)
    → ((n : ℕ) (k : Going) (i : ℕ) (x : Part) (z : Channel) → n ≢ u → n < 2 → going n ≡ Some k → slice_get k.parts i ≡ Some x → channel_of d x.channel ≡ Some z → word_of chip1 (held_word (placed_of d x.channel)) ≡ word_of chip (held_word (placed_of d x.channel)))
    → ((n : ℕ) → n ≢ u → carried_at s1 n ≡ carried_at s n) → (hs : Reservations) → list_any (λ h. is_sent q h.what) hs ≡ false → AllSend d chip w going s hs → AllSend d chip1 w going1 s1 hs
sends_beside d q u g chip chip1 w going going1 s s1 own of same selects banks carried [] none r = tt
sends_beside d q u g chip chip1 w going going1 s s1 own of same selects banks carried (x ∷ xs) none r =
    let parts = or_parts (is_sent q x.what) (list_any (λ h. is_sent q h.what) xs) none in
    (one x.what parts.0 r.0, sends_beside d q u g chip chip1 w going going1 s s1 own of same selects banks carried xs parts.1 r.1)
  where
    one : (y : Reservation) → is_sent q y ≡ false → SendingRight d chip w going s y → SendingRight d chip1 w going1 s1 y
    one (Sending v p n at bs failed device) other r = record {
      few = r.few;
      sync = r.sync;
      job = r.job;
      is = same v ne ∙ r.is;
      sequence = r.sequence;
      next = r.next;
      place = r.place;
      select = selects v ne ∙ r.select;
      kept = λ i x k there known internal some. banks v r.job i x k ne r.few r.is there known ∙ r.kept i x k there known internal some;
      end = subst (λ o. KnowsEnd w.now (run_carried o) failed) (sym (carried v ne)) r.end;
    }
      where
        ne : v ≢ u
        ne e = let job : r.job ≡ g = some_is r.job g (sym r.is ∙ ap going e ∙ own) in let same : p ≡ q = sym r.sequence ∙ ap (λ (k : Going). k.pending.sequence) job ∙ of in absurd (let f = sym other ∙ ap (λ i. i == q) same ∙ same_number q in cc)
    one _ other r = tt
