-- Flags of trigger inputs, and gates.
use Rattle.std.proofs.Common.{◌≡◌, ◌≢◌, ℕ, ◌<◌, ◌^◌, ◌==◌, Bool, true, false, not, ◌&&◌, ◌||◌, nat_lt, List, [], ◌∷◌, ◌++◌, bit_or, refl, sym, ◌∙◌, ap, arith, ◌⊎◌, inl, inr}
use Rattle.std.specs.Prelude.{◌↔◌, if◌then◌else◌}
use Rattle.std.specs.List.{AllByRecursion}
use Rattle.std.proofs.lemmas.Bool.Decides.{nat_tests}
use Rattle.std.proofs.lemmas.Bool.{and_parts}
use Rattle.mcal_base.specs.facts.Truths.{and_false, and_true, clear_apart, or_false, or_true}
use Rattle.mcal_base.specs.facts.Numbers.{eq_is, eq_other, eq_self, same_or_other}
use Rattle.mcal_base.specs.Bits.{has_bit}
use Rattle.mcal_base.proofs.BitLaws.{has_bit-or, has_bit-without, has_bit-pow_same, has_bit-pow_other}
use Rattle.mcal_base.specs.declared.register.Reg.{Reg}
use Rattle.mcal_base.specs.declared.register.Reg.TheVariants.{ConverterList, ConverterGo, ConverterAbort, ConverterAck, TriggerSet, TriggerClear, TriggerFlags}
use Rattle.chip_blocks.specs.converter.Converters.{Converters, after_read, after_write}
use Rattle.chip_blocks.specs.converter.Accesses.{Access, after, after_all}
use Rattle.chip_blocks.specs.converter.Accesses as accesses
use Rattle.machine_laws.specs.converters.Histories.{LeavesPulse, LeavesGate, PulseIn}

-- ---- a flag

-- a pulse on the input that finds its gate on
abbrev pub hits : (input : ℕ) → Converters → Access → Bool
hits k b (accesses.Pulses j) = j == k && has_bit b.gates k
hits k b x = false

read_flags : (b : Converters) (r : Reg) (k : ℕ) → has_bit (after_read b r).pulses k ≡ has_bit b.pulses k
read_flags b (ConverterAbort u) k = refl
read_flags b _ k = refl

write_flags : (b : Converters) (r : Reg) (value k : ℕ) → k < 4 → LeavesPulse k (accesses.Writes r value) → has_bit (after_write b r value).pulses k ≡ has_bit b.pulses k
write_flags b (ConverterList u p) value k lt left = refl
write_flags b (ConverterGo u) value k lt left = refl
write_flags b (ConverterAck u) value k lt left = refl
write_flags b TriggerSet value k lt left = refl
write_flags b TriggerClear value k lt left = refl
write_flags b TriggerFlags value k lt left =
    let few : k < 32 = omega (arith, lt) in has_bit-without b.pulses value k left.0 few ∙ clear_apart (has_bit b.pulses k) (has_bit value k) left.1
write_flags b _ value k lt left = refl

pulsed_by : (b : Converters) (j k : ℕ) (q : Bool) → (j == k && has_bit b.gates k) ≡ (j == k && q) → has_bit (if q then record b { pulses = bit_or b.pulses (2 ^ j) } else b).pulses k ≡ (has_bit b.pulses k || (j == k && q))
pulsed_by b j k false e = sym (ap (λ x. has_bit b.pulses k || x) (and_false (j == k)) ∙ or_false (has_bit b.pulses k))
pulsed_by b j k true e = has_bit-or b.pulses (2 ^ j) k ∙ ap (λ x. has_bit b.pulses k || x) (by (same_or_other k j)) where
  by : (k ≡ j) ⊎ (k ≢ j) → has_bit (2 ^ j) k ≡ (j == k && true)
  by (inl at) = ap (λ i. has_bit (2 ^ i) k) (sym at) ∙ (has_bit-pow_same k ∙ sym (and_true (j == k) ∙ (ap (λ i. i == k) (sym at) ∙ eq_self k)))
  by (inr ne) = has_bit-pow_other j k ne ∙ sym (and_true (j == k) ∙ eq_other j k (λ e. ne (sym e)))

gate_of : (b : Converters) (j k : ℕ) → k < 4 → (j == k && has_bit b.gates k) ≡ (j == k && (nat_lt j 4 && has_bit b.gates j))
gate_of b j k lt = by (same_or_other j k) where
  below : (n : ℕ) → n < 4 → nat_lt n 4 ≡ true
  below n h = grind (arith, nat_tests)

  by : (j ≡ k) ⊎ (j ≢ k) → (j == k && has_bit b.gates k) ≡ (j == k && (nat_lt j 4 && has_bit b.gates j))
  by (inl at) = ap (λ i. j == k && (i && has_bit b.gates k)) (sym (below k lt)) ∙ ap (λ i. j == k && (nat_lt i 4 && has_bit b.gates i)) (sym at)
  by (inr ne) = ap (λ q. q && has_bit b.gates k) (eq_other j k ne) ∙ sym (ap (λ q. q && (nat_lt j 4 && has_bit b.gates j)) (eq_other j k ne))

step_flag : (b : Converters) (k : ℕ) (x : Access) → k < 4 → LeavesPulse k x → has_bit (after b x).pulses k ≡ (has_bit b.pulses k || hits k b x)
step_flag b k (accesses.Reads r) lt left = read_flags b r k ∙ sym (or_false (has_bit b.pulses k))
step_flag b k (accesses.Writes r value) lt left = write_flags b r value k lt left ∙ sym (or_false (has_bit b.pulses k))
step_flag b k (accesses.Sets input value) lt left = sym (or_false (has_bit b.pulses k))
step_flag b k (accesses.Pulses j) lt left =
    pulsed_by b j k (nat_lt j 4 && has_bit b.gates j) (gate_of b j k lt) ∙ ap (λ x. has_bit b.pulses k || x) (sym (gate_of b j k lt))
step_flag b k (accesses.Passes n) lt left = sym (or_false (has_bit b.pulses k))

-- ---- histories

abbrev hit_in : (input : ℕ) → Converters → List Access → Bool
hit_in k b [] = false
hit_in k b (x ∷ xs) = hits k b x || hit_in k (after b x) xs

or_assoc : (p q r : Bool) → ((p || q) || r) ≡ (p || (q || r))
or_assoc true q r = refl
or_assoc false q r = refl

flag_all : (b : Converters) (k : ℕ) (xs : List Access) → k < 4 → AllByRecursion (LeavesPulse k) xs → has_bit (after_all b xs).pulses k ≡ (has_bit b.pulses k || hit_in k b xs)
flag_all b k [] lt left = sym (or_false (has_bit b.pulses k))
flag_all b k (x ∷ xs) lt left =
    flag_all (after b x) k xs lt left.1
    ∙ (ap (λ q. q || hit_in k (after b x) xs) (step_flag b k x lt left.0)
    ∙ or_assoc (has_bit b.pulses k) (hits k b x) (hit_in k (after b x) xs))

either : (p q : Bool) → (p || q) ≡ true → (p ≡ true) ⊎ (q ≡ true)
either true q e = inl refl
either false q e = inr e

here : (k : ℕ) (b : Converters) (x : Access) (xs : List Access) → hits k b x ≡ true → PulseIn b k (x ∷ xs)
here k b (accesses.Pulses j) xs e =
    let parts = and_parts (j == k) (has_bit b.gates k) e in
    record { before = []; rest = xs; is = ap (λ i. accesses.Pulses i ∷ xs) (eq_is j k parts.0); gate = parts.1 }
here k b (accesses.Reads r) xs e = absurd (cc e)
here k b (accesses.Writes r value) xs e = absurd (cc e)
here k b (accesses.Sets input value) xs e = absurd (cc e)
here k b (accesses.Passes n) xs e = absurd (cc e)

later_on : (k : ℕ) (b : Converters) (x : Access) (xs : List Access) → PulseIn (after b x) k xs → PulseIn b k (x ∷ xs)
later_on k b x xs p = record { before = x ∷ p.before; rest = p.rest; is = ap (λ (l : List Access). x ∷ l) p.is; gate = p.gate }

by_place : (k : ℕ) (b : Converters) (x : Access) (xs : List Access) → (hit_in k (after b x) xs ≡ true → PulseIn (after b x) k xs) → (hits k b x ≡ true) ⊎ (hit_in k (after b x) xs ≡ true) → PulseIn b k (x ∷ xs)
by_place k b x xs more (inl now) = here k b x xs now
by_place k b x xs more (inr soon) = later_on k b x xs (more soon)

found : (k : ℕ) (b : Converters) (xs : List Access) → hit_in k b xs ≡ true → PulseIn b k xs
found k b [] e = absurd (cc e)
found k b (x ∷ xs) e = by_place k b x xs (λ f. found k (after b x) xs f) (either (hits k b x) (hit_in k (after b x) xs) e)

in_part : (k : ℕ) (b : Converters) (before rest : List Access) → has_bit (after_all b before).gates k ≡ true → hit_in k b (before ++ accesses.Pulses k ∷ rest) ≡ true
in_part k b [] rest e = ap (λ q. (q && has_bit b.gates k) || hit_in k (after b (accesses.Pulses k)) rest) (eq_self k) ∙ ap (λ q. q || hit_in k (after b (accesses.Pulses k)) rest) e
in_part k b (x ∷ before) rest e = ap (λ q. hits k b x || q) (in_part k (after b x) before rest e) ∙ or_true (hits k b x)

pub flag_by_pulses : (b : Converters) (k bits : ℕ) (xs : List Access) → k < 4 → bits < 2 ^ 32 → has_bit bits k ≡ true → AllByRecursion (LeavesPulse k) xs
    → (has_bit (after_all (after_write b TriggerFlags bits) xs).pulses k ≡ true) ↔ PulseIn (after_write b TriggerFlags bits) k xs
flag_by_pulses b k bits xs lt fits on left =
    let b' : Converters = after_write b TriggerFlags bits in
    let few : k < 32 = omega (arith, lt) in
    let down : has_bit b'.pulses k ≡ false = has_bit-without b.pulses bits k fits few ∙ (ap (λ q. has_bit b.pulses k && not q) on ∙ and_false (has_bit b.pulses k)) in
    let is : has_bit (after_all b' xs).pulses k ≡ hit_in k b' xs = flag_all b' k xs lt left ∙ ap (λ q. q || hit_in k b' xs) down in (
      λ e. found k b' xs (sym is ∙ e),
      λ p. is ∙ (ap (λ (l : List Access). hit_in k b' l) p.is ∙ in_part k b' p.before p.rest p.gate),
    )

-- ---- gates

read_gate : (b : Converters) (r : Reg) (k : ℕ) → has_bit (after_read b r).gates k ≡ has_bit b.gates k
read_gate b (ConverterAbort u) k = refl
read_gate b _ k = refl

write_gate : (b : Converters) (r : Reg) (value k : ℕ) → k < 32 → LeavesGate k (accesses.Writes r value) → has_bit (after_write b r value).gates k ≡ has_bit b.gates k
write_gate b (ConverterList u p) value k lt left = refl
write_gate b (ConverterGo u) value k lt left = refl
write_gate b (ConverterAck u) value k lt left = refl
write_gate b TriggerSet value k lt left = has_bit-or b.gates value k ∙ (ap (λ q. has_bit b.gates k || q) left ∙ or_false (has_bit b.gates k))
write_gate b TriggerClear value k lt left = has_bit-without b.gates value k left.0 lt ∙ clear_apart (has_bit b.gates k) (has_bit value k) left.1
write_gate b TriggerFlags value k lt left = refl
write_gate b _ value k lt left = refl

pulse_gate : (b b' : Converters) (q : Bool) → b'.gates ≡ b.gates → (if q then b' else b).gates ≡ b.gates
pulse_gate b b' true e = e
pulse_gate b b' false e = refl

step_gate : (b : Converters) (k : ℕ) (x : Access) → k < 32 → LeavesGate k x → has_bit (after b x).gates k ≡ has_bit b.gates k
step_gate b k (accesses.Reads r) lt left = read_gate b r k
step_gate b k (accesses.Writes r value) lt left = write_gate b r value k lt left
step_gate b k (accesses.Sets input value) lt left = refl
step_gate b k (accesses.Pulses j) lt left = ap (λ n. has_bit n k) (pulse_gate b (record b { pulses = bit_or b.pulses (2 ^ j) }) (nat_lt j 4 && has_bit b.gates j) refl)
step_gate b k (accesses.Passes n) lt left = refl

gate_all : (b : Converters) (k : ℕ) (xs : List Access) → k < 32 → AllByRecursion (LeavesGate k) xs → has_bit (after_all b xs).gates k ≡ has_bit b.gates k
gate_all b k [] lt left = refl
gate_all b k (x ∷ xs) lt left = gate_all (after b x) k xs lt left.1 ∙ step_gate b k x lt left.0

pub gate_on : (b : Converters) (k bits : ℕ) (xs : List Access) → k < 32 → has_bit bits k ≡ true → AllByRecursion (LeavesGate k) xs → has_bit (after_all (after_write b TriggerSet bits) xs).gates k ≡ true
gate_on b k bits xs lt on left = gate_all (after_write b TriggerSet bits) k xs lt left ∙ (has_bit-or b.gates bits k ∙ (ap (λ q. has_bit b.gates k || q) on ∙ or_true (has_bit b.gates k)))

pub gate_off : (b : Converters) (k bits : ℕ) (xs : List Access) → k < 32 → bits < 2 ^ 32 → has_bit bits k ≡ true → AllByRecursion (LeavesGate k) xs → has_bit (after_all (after_write b TriggerClear bits) xs).gates k ≡ false
gate_off b k bits xs lt fits on left = gate_all (after_write b TriggerClear bits) k xs lt left ∙ (has_bit-without b.gates bits k fits lt ∙ (ap (λ q. has_bit b.gates k && not q) on ∙ and_false (has_bit b.gates k)))
