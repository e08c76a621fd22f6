-- A group was stopped while its round was copied: the round is served no more, and the handler gives the bank up.
-- From adc_groups: services.Decisions, adc_groups: services.BodySteps, adc_groups: words.WordsOfModule and 5 more.
-- Used by services.ServeActRight, adc_driver: services.AllSteps.
use Rattle.std.proofs.Common.{◌≡◌, ◌≢◌, ◌+◌, ◌<◌, ◌≤◌, ◌&&◌, ◌==◌, [], ◌∷◌, ◌∙◌, if◌then◌else◌}
use Rattle.adc_laws.specs.serving.Terms
use Terms.{abandoning, abandons, adc_bodies, adc_machine, AdcBody, AdcGround, AdcState, AdcTable, Agrees, AllRight}
use Terms.{ap, arith, AssertedAt, Bank, bank_number, banks_stay, BanksAgree, body_ends, body_work, Bool, Call, cases}
use Terms.{Chip, claim_fits, claim_right, claimed_parts, Claims, claims_on, column_of, Continuation, copies_or}
use Terms.{counted, DecidedRight, ended_at, Entered, eq_is, eq_other, eq_self, false, Fills, first_held, FitsAdc}
use Terms.{foot_of, FrameHistory, fresh_history, front-ends, Full, group_of, held, HeldRight, inputs_of, InWindow}
use Terms.{is_full, is_on, is_some, Is_this_frame, IsAlone, leaves, length, List, Load, Looks, looks_right, makes}
use Terms.{missed_after, nat_lt, None, not, on_there, Option, or_else, or_parts, order_of, Origin, Outside, Place}
use Terms.{place_ends, put_of, ranks_of, refl, Reservation, Reservations, ReservedBy, RightOr, Round, round_at}
use Terms.{round_words, rounds_of, running_of, same_or_other, serve, serving, Some, some_hold, some_inputs, subst}
use Terms.{sym, Taken, Tells, trio_of, true, unit_is, unit_of, value_of, Window, Word, word_number, word_of, World}
use Terms.{WriteBatch, ℕ}
use Rattle.adc_laws.specs.serving.laws.services.ClaimRight.{claiming}
use Rattle.word_shapes.specs.declared.streams.copying.Copied.TheVariants as copied

-- a bank with so many values
abbrev a_part : ℕ → ℕ → Option (ℕ × ℕ)
a_part n i = Some (n, i)

-- ---- nobody else fills a bank of a group of the unit

module _ (d : AdcTable) (fits : FitsAdc d) (chip : Chip) (w : World) (s : AdcState) (u g : ℕ) (at : is_on u (group_of d g) ≡ true) where
  no_put : (x : ReservedBy Call Reservation) (z : Reservation) → HeldRight d chip w s x z → claims_on u z ≡ false → put_of d g z ≡ None
  no_put x z right free = one z right free
    where
      part_absent : (v k n i : ℕ) (q : Bool) → (g == k) ≡ q → is_on v (group_of d k) ≡ true → (u == v) ≡ false → (if q then a_part n i else None) ≡ None
      part_absent v k n i true e on off =
          let same : u ≡ v = sym (unit_is d fits u (group_of d g) at) ∙ (ap (λ m. unit_of (group_of d m)) (eq_is g k e) ∙ unit_is d fits v (group_of d k) on) in
          absurd (let here : (u == v) ≡ true = ap (λ m. u == m) (sym same) ∙ eq_self u in cc)
      part_absent v k n i false e on off = refl

      one : (z : Reservation) → HeldRight d chip w s x z → claims_on u z ≡ false → put_of d g z ≡ None
      one (Fills v k e b i y) h off = part_absent v k (bank_number b) i (g == k) refl h.2 off
      one (Full v k b) h off = part_absent v k (bank_number b) (length (inputs_of (group_of d g))) (g == k) refl h.2 off
      one _ h off = refl

  pub no_puts : (hs : Reservations) → AllRight d chip w s hs → some_hold (claims_on u) hs ≡ false → first_held (put_of d g) hs ≡ None
  no_puts [] right free = refl
  no_puts (x ∷ xs) right free =
      let both = or_parts (claims_on u x.what) (some_hold (claims_on u) xs) free in
      ap (λ o. or_else o (first_held (put_of d g) xs)) (no_put x x.what right.0 both.0) ∙ no_puts xs right.1 both.1

-- ---- the bank is given up

module _ (d : AdcTable) (fits : FitsAdc d) (below : Reservations) (chip : Chip) (w : World) (s : AdcState) (u g : ℕ) (b : Bank) (few : u < 2) (h : Agrees d (claiming u (Full u g b) below) chip w s) (none : round_at s u ≡ None) where
  alone : some_hold (claims_on u) below ≡ false
  alone = (claimed_parts u (word_of chip (word_number d (Word.Claim u))) below (claim_right below u (word_of chip (word_number d (Word.Claim u)))) ((h.settled h.right.0.1).claims u few)).1

  given_up : BanksAgree d (claiming u (Claims u) below) (word_of chip) s g
  given_up = let q = h.banks g (on_there u (group_of d g) h.right.0.2) in record {
    banks = abandoning q.banks;
    stands = abandons (trio_of (rounds_of d g)) (word_of chip) q.banks q.stands;
    newest = q.newest;
    put = sym (no_puts d fits chip w s u g h.right.0.2 below h.right.1.1 alone);
    take = q.take;
  }

  others : (k : ℕ) → is_some (group_of d k) ≡ true → k ≢ g → BanksAgree d (claiming u (Claims u) below) (word_of chip) s k
  others k there ne = banks_stay chip chip (h.banks k there) (λ j own. refl)
      (ap (λ z. or_else (if z then Some (bank_number b, length (inputs_of (group_of d k))) else None) (first_held (put_of d k) below)) (eq_other k g ne)) refl

  pub leaves_agree : Agrees d (claiming u (Claims u) below) chip w s
  leaves_agree = record {
    sound = h.sound;
    outside = h.outside;
    state = h.state;
    right = ((h.right.0.0, h.right.0.1, none), h.right.1);
    banks = λ k there. cases (same_or_other k g)
        (λ e. subst (λ n. BanksAgree d (claiming u (Claims u) below) (word_of chip) s n) (sym e) given_up)
        (λ ne. others k there ne);
    block = h.block;
    rounds = h.rounds;
    triggers = h.triggers;
    places = λ k n p lt free. h.places k n p lt free;
    backed = (h.backed.0, h.backed.1);
    settled = λ f. (let q = h.settled f in record { groups = q.groups; units = q.units; claims = λ n lt. q.claims n lt; lines = q.lines; promised = λ n. (let z = q.promised n in record { starts = z.starts; yields = z.yields }) });
    left = λ off. absurd (let on = h.right.0.1 in cc);
  }

-- ---- a unit that none claims

-- where none claims the unit the claim's word has to be 0
pub none_right : (u v : ℕ) (hs : Reservations) → some_hold (claims_on u) hs ≡ false → v ≡ 0 → claim_right hs u v ≡ true
none_right u v [] free e = ap (λ n. n == 0) e
none_right u v (x ∷ xs) free e =
    let both = or_parts (claims_on u x.what) (some_hold (claims_on u) xs) free in
    ap (λ q. if q then claim_fits x.what v && not (some_hold (claims_on u) xs) else claim_right xs u v) both.0 ∙ none_right u v xs both.1 e

-- ---- The handler has closed the mask after its copy: it serves the round, unless its group was stopped meanwhile.

module _ (d : AdcTable) (fits : FitsAdc d) (f r : AdcBody → ℕ) (below : Reservations) (chip : Chip) (w : World) (s : AdcState) (m : ℕ → Bool) (y : ℕ) (t : Taken) where
  abbrev missed : ℕ → Bool
  missed = missed_after (adc_machine d) w s m

  module _ (h : Agrees d (claiming t.unit (Full t.unit t.group t.bank) below) chip w s) (few : t.unit < 2) (alone : IsAlone (24 + t.unit) below) (K : Place) (k v : ℕ) (ends : place_ends K ≡ None) where
    abbrev u : ℕ
    u = t.unit

    on : s.initialised ≡ true
    on = h.right.0.1

    there : is_some (group_of d t.group) ≡ true
    there = on_there t.unit (group_of d t.group) h.right.0.2

    -- the serving, by whether there is anything to copy
    abbrev served : Bool → WriteBatch
    served q = record (serving d t (round_words d (foot_of chip) t) (counted d (foot_of chip) t) (is_full (group_of d t.group) (counted d (foot_of chip) t))) {
      after = Continuation.Goes (copies_or (if q then None else Some (record { what = copied.Bank (rounds_of d t.group) t.bank (column_of d t.group (round_words d (foot_of chip) t)); done = 0; value = None })) (Tells t.unit t.group ((round_words d (foot_of chip) t).notified == 1)) (Outside.Closes (Window.Begin t.unit)));
    }

    some : (length (inputs_of (group_of d t.group)) == 0) ≡ false
    some = eq_other (length (inputs_of (group_of d t.group))) 0 (λ i. (let lt = some_inputs d fits t.group there in omega (arith, lt, i)))

    more_running : (x : Round) → (running_of (Some x) == 0) ≡ false
    more_running x = eq_other (1 + x.group) 0 (λ e. omega (arith, e))

    few_moves : (n : ℕ) → (if nat_lt 8 n then 3 else 2) ≤ 3
    few_moves n = elim (nat_lt 8 n) as (λ q. (if q then 3 else 2) ≤ 3) [ true ↦ omega arith | false ↦ omega arith ]

    abbrev Decides : Bool → Type 0
    Decides q = DecidedRight d f r below chip w s (Entered (24 + t.unit)) (Load k) false v y fresh_history missed K (if q then leaves d t.unit else makes (served (length (inputs_of (group_of d t.group)) == 0)))

    stopped : round_at s t.unit ≡ None → DecidedRight d f r below chip w s (Entered (24 + t.unit)) (Load k) false v y fresh_history missed K (leaves d t.unit)
    stopped none =
        let xs = ((h.settled on).units t.unit few).order in
        ((leaves_agree d fits below chip w s t.unit t.group t.bank few h none, (refl, ((Is_this_frame, few, on, alone, none), ((if nat_lt 8 (length xs.0) then 3 else 2), xs.0, few_moves (length xs.0), xs.1, front-ends (order_of t.unit) (ranks_of d) (word_of chip) xs.0 xs.1)))), refl)

    serves : (x : Round) → round_at s t.unit ≡ Some x → DecidedRight d f r below chip w s (Entered (24 + t.unit)) (Load k) false v y fresh_history missed K (makes (served (length (inputs_of (group_of d t.group)) == 0)))
    serves x e = subst (λ q. DecidedRight d f r below chip w s (Entered (24 + t.unit)) (Load k) false v y fresh_history missed K (makes (served q))) (sym some) ((h, (refl, (t, x, Is_this_frame, few, alone, there, e, ap (λ q. served q) (sym some)))), refl)

    by : (q : Option Round) → round_at s t.unit ≡ q → Decides (running_of q == 0)
    by None e = stopped e
    by (Some x) e = subst Decides (sym (more_running x)) (serves x e)

    serve_decides : DecidedRight d f r below chip w s (Entered (24 + t.unit)) (Load k) false v y fresh_history missed K (serve d t (round_words d (foot_of chip) t))
    serve_decides = subst Decides (sym (ap (λ n. n == 0) ((h.settled on).units t.unit few).running)) (by (round_at s t.unit) refl)

  pub serve_looks : (o : Origin Call) (p : FrameHistory) (seen : List ℕ) → InWindow d (Window.Serve t) below w s o p → AssertedAt (AdcGround d) (adc_bodies d f r) below chip w s (record { table = d; place = Looks (Window.Serve t) seen }) o p
      → RightOr (AdcGround d) (adc_bodies d f r) below chip w s (record { table = d; place = Looks (Window.Serve t) seen }) o y p m (ended_at (adc_bodies d f r) body_ends (record { table = d; place = Looks (Window.Serve t) seen }) (value_of chip (body_work (record { table = d; place = Looks (Window.Serve t) seen }))))
  serve_looks _ _ seen (Is_this_frame, few, alone) stand = looks_right d f r below chip w s (Window.Serve t) (Entered (24 + t.unit)) y fresh_history m (omega arith) seen stand (λ k v. serve_decides stand.0 few alone (Looks (Window.Serve t) (held d fits f r below chip w s m y (Window.Serve t))) k v refl)
