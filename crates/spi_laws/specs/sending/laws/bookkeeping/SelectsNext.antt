-- Before the first word of a further job its device is selected, while the word before is done: the agreement stays.
-- From bookkeeping.HeldWord, spi_sequences: words.PendingWords, serving.bookkeeping.JobEnd and 2 more.
-- Used by services.SendSteps.
use Rattle.std.proofs.Common.{◌≡◌, ◌<◌, ◌∷◌, ◌∙◌}
use Rattle.spi_laws.specs.sending.Terms
use Terms.{ap, banks_held, Bool, carried_at, CarriesAgrees, Chip, chip_after, Contains, false, Going, HoldsLike}
use Terms.{is_sent, is_sync_unit, IsSending, length-set, List, list_any, None, Option, Position, refl, Reservations}
use Terms.{run_at, run_carried, Serial, SerialSelect, set_unit, Some, SpiRepresents, SpiState, SpiTable, stands-move}
use Terms.{subst, sym, true, unit_at, unit_other, unit_same, UnitAgrees, view, word_of, WordsAgree, World, Write, ℕ}
use Rattle.spi_laws.specs.sending.laws.{bookkeeping.HeldWord.{sending_of, sendings_alike}, bookkeeping.SentBeside.{sends_beside}}

module _ (d : SpiTable) (below : Reservations) (chip : Chip) (w : World) (s : SpiState) (u q n : ℕ) (at : Position) (banks : List ℕ) (failed : Option Bool) (device : ℕ) (h : SpiRepresents d (sending_of u q n at banks failed device ∷ below) chip w s) (alone : list_any (λ z. is_sent q z.what) below ≡ false) (v y : ℕ) where
  abbrev says : IsSending d chip w h.going s u q n at banks failed device
  says = h.sending.0

  few : u < 2
  few = says.few

  abbrev chip1 : Chip
  chip1 = chip_after chip (Write (SerialSelect u) v) y

  abbrev new : Serial
  new = record (unit_at chip.serials u) { select = v }

  unit_by : (i : ℕ) → i < 2 → is_sync_unit d i ≡ false → UnitAgrees d (unit_at chip1.serials i) (run_at s i) (h.going i)
  unit_by i lt async = subst (λ x. UnitAgrees d x (run_at s i) (h.going i)) (sym (unit_other chip u i new (λ e. let f = sym async ∙ ap (is_sync_unit d) e ∙ says.sync in absurd (cc)))) (h.units i lt async)

  carried_by : (i : ℕ) → i < 2 → is_sync_unit d i ≡ true → CarriesAgrees d (unit_at chip1.serials i) (run_carried (carried_at s i)) (h.going i)
  carried_by = set_unit (λ i x. is_sync_unit d i ≡ true → CarriesAgrees d x (run_carried (carried_at s i)) (h.going i)) chip.serials.units u new h.size (λ lt sync. turned (h.going u) (h.sends u lt sync)) (λ i lt ne. h.sends i lt)
    where
      turned : (g : Option Going) → CarriesAgrees d (unit_at chip.serials u) (run_carried (carried_at s u)) g → CarriesAgrees d new (run_carried (carried_at s u)) g
      turned None a = a
      turned (Some g) a = a

  pub selected_is : (unit_at chip1.serials u).select ≡ v
  selected_is = ap (λ x. x.select) (unit_same chip u new h.size few)

  pub reselects : SpiRepresents d (sending_of u q n at banks failed v ∷ below) chip1 w s
  reselects = record {
    right = h.right;
    outside = stands-move chip w (Write (SerialSelect u) v) y h.outside;
    wired = h.wired;
    size = length-set chip.serials.units u _ ∙ h.size;
    sound = h.sound;
    going = h.going;
    nexts = h.nexts;
    units = unit_by;
    sends = carried_by;
    sending = (
      record {
        few = few;
        sync = says.sync;
        job = says.job;
        is = says.is;
        sequence = says.sequence;
        next = says.next;
        place = says.place;
        select = selected_is;
        kept = says.kept;
        end = says.end;
      },
      sends_beside d q u says.job chip chip1 w h.going h.going s s says.is says.sequence (λ i ne. refl) (λ i ne. ap (λ x. x.select) (unit_other chip u i new ne)) (λ i k j x z ne lt is there known. refl) (λ i ne. refl) below alone h.sending.1,
    );
    carriers = h.carriers;
    words = held_so;
    set_ups = h.set_ups;
    sizes = h.sizes;
    arrays = λ c. record { source = (h.arrays c).source; destination = (h.arrays c).destination };
    lines = h.lines;
    owed = h.owed;
  }
    where
      -- what is held of channels is as it was
      held_so : WordsAgree d (sending_of u q n at banks failed v ∷ below) h.going (word_of chip) (view s)
      held_so = record {
        state = h.words.state;
        on = h.words.on;
        banks = λ c k known internal. banks_held d (sending_of u q n at banks failed device ∷ below) (sending_of u q n at banks failed v ∷ below) h.going (word_of chip) (view s) c k alike (h.words.banks c k known internal);
        stored = λ j i is. h.words.stored j i (subst (λ xs. Contains xs (j, i)) alike.stored is);
      }
        where
          alike : HoldsLike d (sending_of u q n at banks failed device ∷ below) (sending_of u q n at banks failed v ∷ below)
          alike = sendings_alike d below u q n n at at banks banks failed failed device v
