use Rattle.audit_serial.proofs.Terms.{[], all_looked_at, ap, arith, Bool, drop, drop-map, is_of, length, length-map, map, map-append, not, one_left_in, one_left_out, Pending, pending_as, refl, requested, slice_index_or, sym, take, take-map, ◌++◌, ◌+◌, ◌<◌, ◌∙◌, ◌≤◌}
use Rattle.audit_serial.proofs.queue.remove_all.Goals as goal

pub loop-place-init : goal.loop-place-init
loop-place-init c = record { within = omega arith; is = refl }

pub loop-place-preserved-then-is_of_at : goal.loop-place-preserved-then-is_of_at
loop-place-preserved-then-is_of_at c =
    let k = c.loop-place.place in
    let es = c.loop-place.entries.items in
    let xs = map pending_as es in
    let lt : k < length es = omega (arith, c.loop-place-test.true, c.loop-place.entries.ok.0) in
    let d = requested 0 0 [] in
    let keeps : Pending → Bool = λ p. not (is_of c.args.sequence p) in
    let isnt = ap not (ap (λ ys. is_of c.args.sequence (slice_index_or (map pending_as ys) k d)) (sym c.deref.ensures.value) ∙ (sym (c.is_of_at.ensures d) ∙ c.if-is_of_at.true)) in
    let new =
    ap (map pending_as) c.remove.ensures.by_index.2
    ∙ (map-append pending_as (take k es) (drop (k + 1) es)
    ∙ (ap (λ ys. ys ++ map pending_as (drop (k + 1) es)) (sym (take-map pending_as k es)) ∙ ap (λ ys. take k xs ++ ys) (sym (drop-map pending_as (k + 1) es)))) in
    record {
      within = omega (arith, lt, c.remove.ensures.len, c.remove.new.self.ok.0, c.loop-place.entries.ok.0);
      is = one_left_out keeps k xs (map pending_as c.remove.new.self.items) d (omega (arith, lt, length-map es pending_as)) isnt new ∙ c.loop-place.invariant.is;
    }

pub loop-place-preserved : goal.loop-place-preserved
loop-place-preserved c =
    let k = c.loop-place.place in
    let es = c.loop-place.entries.items in
    let xs = map pending_as es in
    let lt : k < length es = omega (arith, c.loop-place-test.true, c.loop-place.entries.ok.0) in
    let d = requested 0 0 [] in
    let keeps : Pending → Bool = λ p. not (is_of c.args.sequence p) in
    let is = ap not (ap (λ ys. is_of c.args.sequence (slice_index_or (map pending_as ys) k d)) (sym c.deref.ensures.value) ∙ (sym (c.is_of_at.ensures d) ∙ c.if-is_of_at.false)) in
    record {
      within = omega (arith, lt);
      is = one_left_in keeps k xs d (omega (arith, lt, length-map es pending_as)) is ∙ c.loop-place.invariant.is;
    }

pub returns : goal.returns
returns c =
    let k = c.loop-place.place in
    let es = c.loop-place.entries.items in
    let all : length (map pending_as es) ≤ k = omega (arith, c.loop-place-test.false, length-map es pending_as, c.loop-place.entries.ok.0) in
    sym (all_looked_at (λ p. not (is_of c.args.sequence p)) k (map pending_as es) all) ∙ c.loop-place.invariant.is
