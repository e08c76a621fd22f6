-- What is kept of a channel, after one more edge, after a call, and after what changes it otherwise.
use Rattle.std.proofs.Common.{◌≡◌, ℕ, ◌+◌, ◌<◌, ◌≤◌, nat_lt, length, length-append, arith, is_some, Bool, true, false, Option, Some, None, List, [], ◌∷◌, ◌++◌, ◌∙◌, refl, sym, ap}
use Rattle.std.specs.Prelude.{if◌then◌else◌, option_map, slice_index_or}
use Rattle.std.specs.List.{AllByRecursion, filter_map}
use Rattle.std.specs.Option.{option_or}
use Rattle.std.proofs.lemmas.Bool.Decides.{nat_tests}
use Rattle.std.proofs.lemmas.List.Elements.{filter_map-append}
use Rattle.mcal_base.specs.declared.config.icu.IcuSignalMeasurementProperty.{IcuSignalMeasurementProperty}
use Rattle.mcal_base.specs.declared.config.icu.IcuSignalMeasurementProperty.TheVariants.{HighTime, LowTime, PeriodTime, DutyCycle}
use Rattle.module_machines.specs.icu.Edges as edges
use Rattle.module_machines.specs.icu.Edges.{begins_rising, ends_rising, measures, newest, value_of, values_by}
use Rattle.module_machines.specs.icu.Machine as machine
use Rattle.module_machines.specs.icu.Table.{channel_of}
use Rattle.module_machines.specs.declared.icu.table.Channel.{Channel}
use Rattle.module_machines.specs.declared.icu.table.IcuTable.{IcuTable}
use Rattle.audit_captures.specs.Measures.{waiting, ended, seen_of, Nothing_seen, told_with}
use Rattle.audit_captures.specs.Stands.{seen_as, value_as, seen_by, seen_after, told_after, capture_of, Follows, FollowsIf, SameMeasures, NoMeasures, LeavesMeasures, left_served, ChannelStands, ServedWithin}
use Rattle.audit_captures.specs.declared.capture.Capture as kept
use Rattle.audit_captures.specs.declared.measure.OpenMeasure.{OpenMeasure}
use Rattle.audit_captures.specs.declared.measure.Value.{Value}
use Rattle.audit_captures.proofs.MeasureLaws.{measures_more, newest_append, one_added, seen_more, told_more}

-- a configured channel is one of eight
pub channel-below : (d : IcuTable) (c : ℕ) (k : Channel) → channel_of d c ≡ Some k → c < 8
channel-below d c k e = by (nat_lt c 8) refl e
  where
    by : (q : Bool) → nat_lt c 8 ≡ q → (if q then slice_index_or d.channels c None else None) ≡ Some k → c < 8
    by true f e = grind (arith, nat_tests)
    by false f e = absurd (cc)

-- ---- one more edge

duty_same : (p : IcuSignalMeasurementProperty) (k : Channel) → p ≡ DutyCycle → begins_rising p k ≡ ends_rising p k
duty_same HighTime k e = absurd (cc)
duty_same LowTime k e = absurd (cc)
duty_same PeriodTime k e = refl
duty_same DutyCycle k e = refl

-- the values that are added
abbrev added : IcuSignalMeasurementProperty → Channel → List edges.Edge → edges.Edge → List (List ℕ)
added p k es e = filter_map (value_of p) (ended (ends_rising p k) (waiting (begins_rising p k) (ends_rising p k) es) e)

values_more : (p : IcuSignalMeasurementProperty) (k : Channel) (es : List edges.Edge) (e : edges.Edge) → values_by (Some p) k (es ++ e ∷ []) ≡ values_by (Some p) k es ++ added p k es e
values_more p k es e =
    ap (λ ms. filter_map (value_of p) ms) (measures_more (begins_rising p k) (ends_rising p k) es e)
    ∙ filter_map-append (value_of p) (measures (begins_rising p k) (ends_rising p k) es) (ended (ends_rising p k) (waiting (begins_rising p k) (ends_rising p k) es) e)

added_is : (p : IcuSignalMeasurementProperty) (k : Channel) (es : List edges.Edge) (e : edges.Edge) → newest (added p k es e) ≡ told_with p (ends_rising p k) e (seen_of (newest (waiting (begins_rising p k) (ends_rising p k) es)))
added_is p k es e = told_more p (begins_rising p k) (ends_rising p k) es e (duty_same p k)

seen-step : (m : Option IcuSignalMeasurementProperty) (k : Channel) (es : List edges.Edge) (e : edges.Edge) → seen_after m k e (seen_by m k es) ≡ seen_by m k (es ++ e ∷ [])
seen-step None k es e = refl
seen-step (Some p) k es e = sym (seen_more (begins_rising p k) (ends_rising p k) es e)

value-step : (m : Option IcuSignalMeasurementProperty) (k : Channel) (es : List edges.Edge) (e : edges.Edge) → option_or (told_after m k e (seen_by m k es)) (newest (values_by m k es)) ≡ newest (values_by m k (es ++ e ∷ []))
value-step None k es e = refl
value-step (Some p) k es e = sym (ap newest (values_more p k es e) ∙ (newest_append (values_by (Some p) k es) (added p k es e) ∙ ap (λ o. option_or o (newest (values_by (Some p) k es))) (added_is p k es e)))

-- a value is complete exactly where the edge tells one
pub complete-step : (m : Option IcuSignalMeasurementProperty) (k : Channel) (es : List edges.Edge) (e : edges.Edge) → is_some (told_after m k e (seen_by m k es)) ≡ nat_lt (length (values_by m k es)) (length (values_by m k (es ++ e ∷ [])))
complete-step None k es e = refl
complete-step (Some p) k es e = sym (ap (λ vs. nat_lt (length (values_by (Some p) k es)) (length vs)) (values_more p k es e) ∙ (one_added (values_by (Some p) k es) (added p k es e) ∙ ap (λ o. is_some o) (added_is p k es e)))

-- what is kept follows the edge
pub follow-more : (k : Channel) (count : ℕ) (now next : OpenMeasure) (value newer : Option Value) (es : List edges.Edge) (e : edges.Edge) → Follows k count now value es
    → seen_as next ≡ seen_after k.measured k e (seen_as now) → option_map value_as newer ≡ option_or (told_after k.measured k e (seen_as now)) (option_map value_as value)
    → Follows k (count + 1) next newer (es ++ e ∷ [])
follow-more k count now next value newer es e h f g = record {
  count = ap (λ n. n + 1) h.count ∙ sym (length-append es (e ∷ []));
  seen = f ∙ (ap (λ s. seen_after k.measured k e s) h.seen ∙ seen-step k.measured k es e);
  value = g ∙ (ap (λ s. option_or (told_after k.measured k e s) (option_map value_as value)) h.seen ∙ (ap (λ o. option_or (told_after k.measured k e (seen_by k.measured k es)) o) h.value ∙ value-step k.measured k es e));
}

pub some_map : {A B : Type 0} (f : A → B) (o : Option A) → is_some (option_map f o) ≡ is_some o
some_map f None = refl
some_map f (Some x) = refl

-- a channel that is changed or isn't, by what is equal
pub changed-same : (f : machine.Capture → machine.Capture) (q r : Bool) (x y z : machine.Capture) → x ≡ (if q then f y else y) → y ≡ z → q ≡ r → x ≡ (if r then f z else z)
changed-same f q r x y z h e g = h ∙ (ap (λ v. if q then f v else v) e ∙ ap (λ p. if p then f z else z) g)

-- ---- what leaves the edges or drops them

pub same-follows : (k : Option Channel) (y z : kept.Capture) (es : List edges.Edge) → SameMeasures y z → FollowsIf k y es → FollowsIf k z es
same-follows None y z es e h = tt
same-follows (Some k) y z es e h = record { count = e.served ∙ h.count; seen = ap seen_as e.seen ∙ h.seen; value = ap (λ v. option_map value_as v) e.value ∙ h.value }

none_seen : (m : Option IcuSignalMeasurementProperty) (k : Channel) → seen_by m k [] ≡ Nothing_seen
none_seen None k = refl
none_seen (Some p) k = refl

no_value : (m : Option IcuSignalMeasurementProperty) (k : Channel) → newest (values_by m k []) ≡ None
no_value None k = refl
no_value (Some p) k = refl

pub no-follows : (k : Option Channel) (z : kept.Capture) → NoMeasures z → FollowsIf k z []
no-follows None z e = tt
no-follows (Some k) z e = record { count = e.served; seen = ap seen_as e.seen ∙ sym (none_seen k.measured k); value = ap (λ v. option_map value_as v) e.value ∙ sym (no_value k.measured k) }

pub same-stands : (k : Option Channel) (y z : kept.Capture) (x : machine.Capture) (f : machine.Capture → machine.Capture) → ChannelStands k y x
    → ((es : List edges.Edge) (stored : List machine.Stamp) → capture_of z es stored ≡ f (capture_of y es stored)) → SameMeasures y z → ChannelStands k z (f x)
same-stands k y z x f h is e = record { served = h.served; stored = h.stored; is = ap f h.is ∙ sym (is h.served h.stored); follows = same-follows k y z h.served e h.follows }

pub none-stands : (k : Option Channel) (y z : kept.Capture) (x : machine.Capture) (f : machine.Capture → machine.Capture) → ChannelStands k y x
    → ((es : List edges.Edge) (stored : List machine.Stamp) → capture_of z [] stored ≡ f (capture_of y es stored)) → NoMeasures z → ChannelStands k z (f x)
none-stands k y z x f h is e = record { served = []; stored = h.stored; is = ap f h.is ∙ sym (is h.served h.stored); follows = no-follows k z e }

pub leaves-stands : (restarts : Bool) (k : Option Channel) (y z : kept.Capture) (x : machine.Capture) (f : machine.Capture → machine.Capture) → ChannelStands k y x
    → ((es : List edges.Edge) (stored : List machine.Stamp) → capture_of z (left_served restarts es) stored ≡ f (capture_of y es stored)) → LeavesMeasures restarts y z → ChannelStands k z (f x)
leaves-stands true k y z x f h is e = none-stands k y z x f h is e
leaves-stands false k y z x f h is e = same-stands k y z x f h is e

-- the stored times stay
pub kept-stored : (k : Option Channel) (y z : kept.Capture) (x : machine.Capture) (f : machine.Capture → machine.Capture) (left : List edges.Edge → List edges.Edge) → ChannelStands k y x
    → ((es : List edges.Edge) (stored : List machine.Stamp) → capture_of z (left es) stored ≡ f (capture_of y es stored)) → (f x).stored ≡ x.stored
kept-stored k y z x f left h is =
    ap (λ (v : machine.Capture). (f v).stored) h.is
    ∙ (sym (ap (λ (v : machine.Capture). v.stored) (is h.served h.stored)) ∙ sym (ap (λ (v : machine.Capture). v.stored) h.is))

pub cleared-stored : (k : Option Channel) (x : machine.Capture) → (machine.cleared k x).stored ≡ x.stored
cleared-stored None x = refl
cleared-stored (Some k) x = refl

-- ---- how often channels served

pub within-more : (servings : ℕ) (ys : List kept.Capture) → AllByRecursion (ServedWithin servings) ys → AllByRecursion (ServedWithin (servings + 1)) ys
within-more servings [] h = tt
within-more servings (y ∷ ys) h = let few : y.served ≤ servings = h.0 in (omega (arith, few), within-more servings ys h.1)
