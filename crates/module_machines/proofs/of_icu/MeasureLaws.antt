-- Each measure is a row of served edges without a gap.
use Rattle.std.proofs.Common.{◌≡◌, ◌≢◌, Bool, true, false, List, [], ◌∷◌, ◌++◌, Option, Some, None, refl, ap, subst}
use Rattle.std.specs.Prelude.{if◌then◌else◌}
use Rattle.std.specs.List.{AllByRecursion}
use Rattle.std.specs.Option.{option_map}
use Rattle.module_machines.specs.icu.Edges.{Edge, is_same, up_to, beginning_at, measures}
use Rattle.module_machines.specs.icu.Claims.{IsMeasure}

same_by : (a b : Bool) → is_same a b ≡ true → a ≡ b
same_by true true e = refl
same_by true false e = absurd (cc)
same_by false true e = absurd (cc)
same_by false false e = refl

other_by : (a b : Bool) → is_same a b ≡ false → a ≢ b
other_by true true e = absurd (cc)
other_by true false e = λ f. absurd (cc)
other_by false true e = λ f. absurd (cc)
other_by false false e = absurd (cc)

-- the edges of a measure after its first one, among those that come after that
record IsRest (last : Bool) (es xs : List Edge) : Type 0 where
  within : List Edge
  end : Edge
  after : List Edge
  is : xs ≡ within ++ end ∷ []
  stands : es ≡ xs ++ after
  ends : end.rising ≡ last
  next : AllByRecursion (λ (e : Edge). e.rising ≢ last) within
  unbroken : AllByRecursion (λ (e : Edge). e.after_gap ≡ false) (within ++ end ∷ [])

rest_by : (last : Bool) (e : Edge) (es xs : List Edge) (gap same : Bool) (o : Option (List Edge)) → e.after_gap ≡ gap → is_same e.rising last ≡ same
    → (if gap then None else if same then Some (e ∷ []) else option_map (λ ys. e ∷ ys) o) ≡ Some xs → ((ys : List Edge) → o ≡ Some ys → IsRest last es ys) → IsRest last (e ∷ es) xs
rest_by last e es xs true same o g q f more = absurd (cc)
rest_by last e es xs false true o g q f more =
    let at : ◌≡◌ {A = List Edge} (e ∷ []) xs = cc in
    subst (λ ys. IsRest last (e ∷ es) ys) at (record { within = []; end = e; after = es; is = refl; stands = refl; ends = same_by e.rising last q; next = tt; unbroken = (g, tt) })
rest_by last e es xs false false None g q f more = absurd (cc)
rest_by last e es xs false false (Some ys) g q f more =
    let at : ◌≡◌ {A = List Edge} (e ∷ ys) xs = cc in
    let r : IsRest last es ys = more ys refl in
    subst (λ zs. IsRest last (e ∷ es) zs) at
    (record { within = e ∷ r.within; end = r.end; after = r.after; is = ap (λ zs. e ∷ zs) r.is; stands = ap (λ zs. e ∷ zs) r.stands; ends = r.ends; next = (other_by e.rising last q, r.next); unbroken = (g, r.unbroken) })

rest_of : (last : Bool) (es xs : List Edge) → up_to last es ≡ Some xs → IsRest last es xs
rest_of last [] xs f = absurd (cc)
rest_of last (e ∷ es) xs f = rest_by last e es xs e.after_gap (is_same e.rising last) (up_to last es) refl refl f (λ ys g. rest_of last es ys g)

measure_at : (first last : Bool) (e : Edge) (es xs : List Edge) → e.rising ≡ first → IsRest last es xs → IsMeasure first last (e ∷ es) (e ∷ xs)
measure_at first last e es xs f r =
    record { before = []; begin = e; within = r.within; end = r.end; after = r.after; is = ap (λ zs. e ∷ zs) r.is; stands = ap (λ zs. e ∷ zs) r.stands; begins = f; ends = r.ends; next = r.next; unbroken = r.unbroken }

later : (first last : Bool) (e : Edge) (es m : List Edge) → IsMeasure first last es m → IsMeasure first last (e ∷ es) m
later first last e es m x = record { before = e ∷ x.before; begin = x.begin; within = x.within; end = x.end; after = x.after; is = x.is; stands = ap (λ zs. e ∷ zs) x.stands; begins = x.begins; ends = x.ends; next = x.next; unbroken = x.unbroken }

all_later : (first last : Bool) (e : Edge) (es : List Edge) (ms : List (List Edge)) → AllByRecursion (IsMeasure first last es) ms → AllByRecursion (IsMeasure first last (e ∷ es)) ms
all_later first last e es [] all = tt
all_later first last e es (m ∷ ms) all = (later first last e es m all.0, all_later first last e es ms all.1)

beginning_is : (first last : Bool) (e : Edge) (es : List Edge) (same : Bool) (o : Option (List Edge)) (ms : List (List Edge)) → is_same e.rising first ≡ same → up_to last es ≡ o
    → AllByRecursion (IsMeasure first last (e ∷ es)) ms → AllByRecursion (IsMeasure first last (e ∷ es)) ((if same then beginning_at e o else []) ++ ms)
beginning_is first last e es true None ms q f all = all
beginning_is first last e es true (Some xs) ms q f all = (measure_at first last e es xs (same_by e.rising first q) (rest_of last es xs f), all)
beginning_is first last e es false o ms q f all = all

pub measures_are : (first last : Bool) (es : List Edge) → AllByRecursion (IsMeasure first last es) (measures first last es)
measures_are first last [] = tt
measures_are first last (e ∷ es) =
    beginning_is first last e es (is_same e.rising first) (up_to last es) (measures first last es) refl refl (all_later first last e es (measures first last es) (measures_are first last es))
