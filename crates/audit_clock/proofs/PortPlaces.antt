-- What a word that is put to a port makes of its pins, place by place, and where the pins are that a call is about.
use Rattle.std.proofs.Common.{◌≡◌, ℕ, zero, suc, ◌+◌, ◌*◌, ◌/◌, ◌%◌, ◌^◌, ◌<◌, ◌==◌, nat_lt, Bool, true, false, ◌&&◌, Option, Some, None, refl, sym, ◌∙◌, ap, subst, arith}
use Rattle.std.specs.Prelude.{if◌then◌else◌, bit_and, not, slice_index_or}
use Rattle.std.proofs.lemmas.Bool.Decides.{nat_tests}
use Rattle.mcal_base.specs.facts.Truths.{and_first}
use Rattle.mcal_base.specs.Bits.{bit_of, bits_of, has_bit}
use Rattle.module_machines.specs.port.Machine.{PinState, with_latch}
use Rattle.module_machines.specs.dio.Table.{FitsDio, channel_of, channel_pins, configured, has_pin, pins_of, some_pins, those_configured}
use Rattle.module_machines.specs.declared.dio.table.PortPins.{PortPins}
use Rattle.module_machines.specs.declared.dio.call.Call.{Call}
use Rattle.module_machines.specs.declared.dio.call.Call.TheVariants.{ReadChannel, WriteChannel, FlipChannel, ReadPort, WritePort, ReadChannelGroup, WriteChannelGroup}
use Rattle.module_machines.specs.declared.dio.table.DioTable.{DioTable}
use Rattle.audit_clock.specs.PinStands.{latched}

-- ---- a word that is put to port q: its pin of place n is 8q + n

here_place : (q n p : ℕ) → n < 8 → (p == 8 * q + n) ≡ true → (p / 8 ≡ q) × (p % 8 ≡ n)
here_place q n p lt e =
    let at : p ≡ 8 * q + n = grind (arith, nat_tests) in
    (omega arith, omega arith)

not_done : (q n a b : ℕ) → a ≡ q → b ≡ n → (q == a && nat_lt b n) ≡ false
not_done q n a b s e = grind (arith, nat_tests)

done_now : (q n a b : ℕ) → a ≡ q → b ≡ n → (q == a && nat_lt b (n + 1)) ≡ true
done_now q n a b s e = grind (arith, nat_tests)

same_elsewhere : (q n p a b : ℕ) → p ≡ 8 * a + b → (p == 8 * q + n) ≡ false → (q == a && nat_lt b (n + 1)) ≡ (q == a && nat_lt b n)
same_elsewhere q n p a b at e = grind (arith, nat_tests)

-- one more place is done
pub put_next : (q n p word : ℕ) (old before now current : PinState) → n < 8
    → before ≡ (if q == p / 8 && nat_lt (p % 8) n then latched word (p % 8) old else old)
    → (p ≡ 8 * q + n → current ≡ before)
    → now ≡ (if p == 8 * q + n then latched word n current else before)
    → now ≡ (if q == p / 8 && nat_lt (p % 8) (n + 1) then latched word (p % 8) old else old)
put_next q n p word old before now current lt h c e = by (p == 8 * q + n) refl e
  where
    chosen : Bool → PinState
    chosen i = if i then latched word (p % 8) old else old

    by : (i : Bool) → (p == 8 * q + n) ≡ i → now ≡ (if i then latched word n current else before) → now ≡ chosen (q == p / 8 && nat_lt (p % 8) (n + 1))
    by true at f =
        let place = here_place q n p lt at in
        let was : current ≡ old = c (grind (arith, nat_tests)) ∙ h ∙ ap chosen (not_done q n (p / 8) (p % 8) place.0 place.1) in
        f ∙ ap (latched word n) was ∙ ap (λ k. latched word k old) (sym place.1) ∙ sym (ap chosen (done_now q n (p / 8) (p % 8) place.0 place.1))
    by false at f = f ∙ h ∙ sym (ap chosen (same_elsewhere q n p (p / 8) (p % 8) (omega arith) at))

none_below : (q p : ℕ) → (q == p / 8 && nat_lt (p % 8) 0) ≡ false
none_below q p = grind (arith, nat_tests)

below_eight : (p : ℕ) → nat_lt (p % 8) 8 ≡ true
below_eight p = let small : p % 8 < 8 = omega arith in grind (arith, nat_tests)

-- none is done yet, and all are
pub put_none : (q p word : ℕ) (old : PinState) → old ≡ (if q == p / 8 && nat_lt (p % 8) 0 then latched word (p % 8) old else old)
put_none q p word old = sym (ap (λ i. if i then latched word (p % 8) old else old) (none_below q p))

pub put_all : (q p word : ℕ) (old : PinState) → (if q == p / 8 && nat_lt (p % 8) 8 then latched word (p % 8) old else old) ≡ (if q == p / 8 && has_bit word (8 + p % 8) then with_latch (has_bit word (p % 8)) old else old)
put_all q p word old = by (q == p / 8)
  where
    by : (i : Bool) → (if i && nat_lt (p % 8) 8 then latched word (p % 8) old else old) ≡ (if i && has_bit word (8 + p % 8) then with_latch (has_bit word (p % 8)) old else old)
    by true = ap (λ t. if t then latched word (p % 8) old else old) (below_eight p)
    by false = refl

-- a pin whose latch is inverted, where it is the one that is named
pub inverted_there : (q p : ℕ) (old now current : PinState) → (p ≡ q → current ≡ old) → now ≡ (if p == q then with_latch (not current.latch) current else old) → now ≡ (if q == p then with_latch (not old.latch) old else old)
inverted_there q p old now current c e = by (p == q) refl e
  where
    same_test : (q == p) ≡ (p == q)
    same_test = grind (arith, nat_tests)

    by : (i : Bool) → (p == q) ≡ i → now ≡ (if i then with_latch (not current.latch) current else old) → now ≡ (if q == p then with_latch (not old.latch) old else old)
    by true at f = f ∙ ap (λ x. with_latch (not x.latch) x) (c (grind (arith, nat_tests))) ∙ sym (ap (λ i. if i then with_latch (not old.latch) old else old) (same_test ∙ at))
    by false at f = f ∙ sym (ap (λ i. if i then with_latch (not old.latch) old else old) (same_test ∙ at))

-- ---- the pins of a call

-- a channel is one of 64 pins, in one of eight ports
pin_few : (d : DioTable) (p : ℕ) (x : PortPins) (q : Bool) → has_pin d p ≡ q → (if q then Some (channel_pins p) else None) ≡ Some x → (p < 64) × (channel_pins p ≡ x)
pin_few d p x true e is =
    let low = and_first (nat_lt p 64) _ e in
    (grind (arith, nat_tests), cc)
pin_few d p x false e is = absurd (cc)

pub low_channel : (d : DioTable) (p : ℕ) (x : PortPins) → channel_of d p ≡ Some x → p < 64
low_channel d p x is = (pin_few d p x (has_pin d p) refl is).0

channel_port : (d : DioTable) (p : ℕ) (x : PortPins) → channel_of d p ≡ Some x → x.port < 8
channel_port d p x is =
    let k = pin_few d p x (has_pin d p) refl is in
    let lt : p < 64 = k.0 in
    subst (λ (y : PortPins). y.port < 8) k.1 (omega (arith, lt))

mask_by : (q mask : ℕ) (x : PortPins) (none : Bool) → (if none then None else Some (record { port = q; mask = mask; offset = 0 })) ≡ Some x → x.port ≡ q
mask_by q mask x true is = absurd (cc)
mask_by q mask x false is = let at : record { port = q; mask = mask; offset = 0 } ≡ x = cc in sym (ap (λ (y : PortPins). y.port) at)

port_few : (d : DioTable) (q : ℕ) (x : PortPins) (low : Bool) → nat_lt q 8 ≡ low → (if low then some_pins q (configured d q) else None) ≡ Some x → x.port < 8
port_few d q x true e is = let lt : q < 8 = grind (arith, nat_tests) in subst (λ n. n < 8) (sym (mask_by q (configured d q) x (configured d q == 0) is)) lt
port_few d q x false e is = absurd (cc)

-- the configured pins of a group are of the group's port
those_few : (d : DioTable) (k : Option PortPins) (x : PortPins) → ((y : PortPins) → k ≡ Some y → y.port < 8) → those_configured d k ≡ Some x → x.port < 8
those_few d None x few is = absurd (cc)
those_few d (Some k) x few is =
    let at : record { port = k.port; mask = bit_and k.mask (configured d k.port); offset = k.offset } ≡ x = cc in
    subst (λ (y : PortPins). y.port < 8) at (few k refl)

group_few : (d : DioTable) → FitsDio d → (g : ℕ) (x : PortPins) (low : Bool) → nat_lt g 8 ≡ low → (if low then those_configured d (slice_index_or d.groups g None) else None) ≡ Some x → x.port < 8
group_few d fits g x true e is = those_few d (slice_index_or d.groups g None) x (λ k on. fits.port g k (grind (arith, nat_tests)) on) is
group_few d fits g x false e is = absurd (cc)

-- the pins that a call is about are of one of eight ports
pub low_port : (d : DioTable) → FitsDio d → (c : Call) (x : PortPins) → pins_of d c ≡ Some x → x.port < 8
low_port d fits (ReadChannel p) x is = channel_port d p x is
low_port d fits (WriteChannel p high) x is = channel_port d p x is
low_port d fits (FlipChannel p) x is = channel_port d p x is
low_port d fits (ReadPort q) x is = port_few d q x (nat_lt q 8) refl is
low_port d fits (WritePort q value) x is = port_few d q x (nat_lt q 8) refl is
low_port d fits (ReadChannelGroup g) x is = group_few d fits g x (nat_lt g 8) refl is
low_port d fits (WriteChannelGroup g value) x is = group_few d fits g x (nat_lt g 8) refl is

-- ---- values

-- tests that give the same give the same value
pub same_bits : (f g : ℕ → Bool) (n : ℕ) → ((k : ℕ) → k < n → f k ≡ g k) → bits_of f n ≡ bits_of g n
unfolding bits_of
same_bits f g zero same = refl
same_bits f g (suc n) same =
    ap (λ b. bit_of b * 2 ^ n + bits_of f n) (same n (omega arith))
    ∙ ap (λ v. bit_of (g n) * 2 ^ n + v) (same_bits f g n (λ k lt. same k (omega (arith, lt))))
