-- The list registers of a free unit take the inputs that are left of a round: all else agrees meanwhile, and the round has them.
-- From adc_groups: hardware.StableUnderHardware, adc_groups: hardware.HardwareCommutes and 1 more.
-- Used by services.StartRight, words.BegunWords.
use Rattle.std.proofs.Common.{◌≡◌, ◌≢◌, ◌+◌, ◌*◌, ◌/◌, ◌%◌, ◌^◌, ◌<◌, [], ◌∷◌, ◌∙◌, ◌⊎◌}
use Rattle.adc_laws.specs.turns.Terms
use Terms.{AdcState, AdcTable, Agrees, ap, arith, Chip, chip_after, Converter, ConverterList, drop, FitsAdc}
use Terms.{four_from, get_dropped, Goes_on, inl, input_at, inr, length, length-set, List, Onward, onward_agrees, refl}
use Terms.{Reservations, same_or_other, slice_get, slice_get_within, slice_index, Some, stands-move, subst, suc, sym}
use Terms.{unit_block, unit_other, unit_set, UnitGoes, World, Write, zero, ℕ}
use Rattle.chip_blocks.specs.converter.Converters as chips
use Rattle.chip_blocks.specs.converter.Rounds as rounds

-- ---- what a list register says

-- each of four bytes
bytes : (x y z v : ℕ) → x < 256 → y < 256 → z < 256 → v < 256
    → ((x + 256 * y + 65536 * z + 16777216 * v) / 1 % 256 ≡ x) × ((x + 256 * y + 65536 * z + 16777216 * v) / 256 % 256 ≡ y) × ((x + 256 * y + 65536 * z + 16777216 * v) / 65536 % 256 ≡ z) × ((x + 256 * y + 65536 * z + 16777216 * v) / 16777216 % 256 ≡ v)
bytes x y z v a b c e = (omega (arith, a, b, c, e), omega (arith, a, b, c, e), omega (arith, a, b, c, e), omega (arith, a, b, c, e))

-- an input, or 0 after the last one
input_small : (inputs : List ℕ) → ((i x : ℕ) → slice_get inputs i ≡ Some x → x < 32) → (i : ℕ) → input_at inputs i < 256
input_small [] small i = omega arith
input_small (x ∷ xs) small zero = let lt = small 0 x refl in omega (arith, lt)
input_small (x ∷ xs) small (suc i) = input_small xs (λ j y e. small (suc j) y e) i

-- a byte of a list register is the input at its place
byte_is : (inputs : List ℕ) (j m : ℕ) → ((i x : ℕ) → slice_get inputs i ≡ Some x → x < 32) → m < 4 → four_from inputs j / 2 ^ (8 * m) % 256 ≡ input_at inputs (j + m)
byte_is inputs j m small lt = byte_at m lt
  where
    all : ((input_at inputs (j + 0) + 256 * input_at inputs (j + 1) + 65536 * input_at inputs (j + 2) + 16777216 * input_at inputs (j + 3)) / 1 % 256 ≡ input_at inputs (j + 0)) × ((input_at inputs (j + 0) + 256 * input_at inputs (j + 1) + 65536 * input_at inputs (j + 2) + 16777216 * input_at inputs (j + 3)) / 256 % 256 ≡ input_at inputs (j + 1)) × ((input_at inputs (j + 0) + 256 * input_at inputs (j + 1) + 65536 * input_at inputs (j + 2) + 16777216 * input_at inputs (j + 3)) / 65536 % 256 ≡ input_at inputs (j + 2)) × ((input_at inputs (j + 0) + 256 * input_at inputs (j + 1) + 65536 * input_at inputs (j + 2) + 16777216 * input_at inputs (j + 3)) / 16777216 % 256 ≡ input_at inputs (j + 3))
    all = bytes (input_at inputs (j + 0)) (input_at inputs (j + 1)) (input_at inputs (j + 2)) (input_at inputs (j + 3)) (input_small inputs small (j + 0)) (input_small inputs small (j + 1)) (input_small inputs small (j + 2)) (input_small inputs small (j + 3))

    byte_at : (m : ℕ) → m < 4 → four_from inputs j / 2 ^ (8 * m) % 256 ≡ input_at inputs (j + m)
    byte_at zero lt = all.0
    byte_at (suc zero) lt = all.1
    byte_at (suc (suc zero)) lt = all.2
    byte_at (suc (suc (suc zero))) lt = all.3
    byte_at (suc (suc (suc (suc m)))) lt = absurd (omega (arith, lt))

input_there : (inputs : List ℕ) (i x : ℕ) → slice_get inputs i ≡ Some x → input_at inputs i ≡ x
input_there [] i x e = absurd (cc)
input_there (z ∷ zs) zero x e = let same : z ≡ x = cc in same
input_there (z ∷ zs) (suc i) x e = input_there zs i x e

-- the inputs of a round whose list registers took those that are left
pub listed_inputs : (inputs : List ℕ) (e left : ℕ) (r : rounds.Round) → ((i x : ℕ) → slice_get inputs i ≡ Some x → x < 32) → e + left ≡ length inputs
    → ((i : ℕ) → i < (left + 3) / 4 → slice_index r.list i ≡ four_from inputs (e + 4 * i)) → (i input : ℕ) → slice_get (drop e inputs) i ≡ Some input → rounds.input_of r i ≡ input
listed_inputs inputs e left r small all lists i input is =
    let at : slice_get inputs (e + i) ≡ Some input = get_dropped e inputs i input is in
    let lt : e + i < length inputs = slice_get_within inputs (e + i) input at in
    let register : slice_index r.list (i / 4) ≡ four_from inputs (e + 4 * (i / 4)) = lists (i / 4) (omega (arith, lt, all)) in
    let place : e + 4 * (i / 4) + i % 4 ≡ e + i = omega arith in
    ap (λ v. v / 2 ^ (8 * (i % 4)) % 256) register ∙ (byte_is inputs (e + 4 * (i / 4)) (i % 4) small (omega arith) ∙ (ap (λ n. input_at inputs n) place ∙ input_there inputs (e + i) input at))

-- ---- while they are written

module _ (d : AdcTable) (fits : FitsAdc d) (held : Reservations) (a : Chip) (w : World) (s : AdcState) (h : Agrees d held a w s) (u : ℕ) (few : u < 2) (i v : ℕ) where
  abbrev b : Chip
  b = chip_after a (Write (ConverterList u i) v) 0

  within_units : u < length a.converters.units
  within_units = let all = h.block.all in omega (arith, all, few)

  pub unit_listed : chips.unit_at b.converters u ≡ chips.listed i v (chips.unit_at a.converters u)
  unit_listed = unit_set a.converters.units u (chips.listed i v (chips.unit_at a.converters u)) within_units

  other_listed : (k : ℕ) → k ≢ u → chips.unit_at b.converters k ≡ chips.unit_at a.converters k
  other_listed k ne = unit_other a.converters.units u k (chips.listed i v (chips.unit_at a.converters u)) ne

  -- rounds and results don't depend on them
  goes : (k : ℕ) → (k ≡ u) ⊎ (k ≢ u) → UnitGoes d a b w w s k
  goes k (inl e) = subst (λ n. UnitGoes d a b w w s n) (sym e) (Goes_on (record {
    round = ap (λ (x : Converter). x.round) unit_listed;
    ended = λ j less on. ap (λ x. chips.result a.converters.levels a.converters.time x j) unit_listed;
    fresh = λ j input less opened small is late early. absurd (omega (arith, late, early));
  }))
  goes k (inr ne) = Goes_on (record {
    round = ap (λ (x : Converter). x.round) (other_listed k ne);
    ended = λ j less on. ap (λ x. chips.result a.converters.levels a.converters.time x j) (other_listed k ne);
    fresh = λ j input less opened small is late early. absurd (omega (arith, late, early));
  })

  pub list_agrees : Agrees d held b w s
  list_agrees = onward_agrees d fits a b w w s s.marks on held h
    where
      on : Onward d a b w w s s.marks
      on = record {
        outside = stands-move a w (Write (ConverterList u i) v) 0 h.outside;
        block = unit_block a.converters w u (chips.listed i v (chips.unit_at a.converters u)) h.block (λ less. length-set (chips.unit_at a.converters u).list i v ∙ h.block.lists u less);
        words = λ k own. refl;
        lines = λ l e. refl;
        now = omega arith;
        time = omega arith;
        units = λ k lt. goes k (same_or_other k u);
        samples = λ j at le. refl;
        marks = h.sound.marks;
        off = h.sound.off;
        triggers = record { gates = h.triggers.gates; flags = h.triggers.flags; others = h.triggers.others };
      }
