-- The changes alone are kept, and none is lost.
use Rattle.std.proofs.Common.{◌≡◌, ◌≢◌, ℕ, zero, suc, ◌<◌, List, [], ◌∷◌, ◌++◌, length, Bool, true, false, Option, Some, None, refl, ◌∙◌, ap, sym, subst, append_assoc, arith, append-nil}
use Rattle.std.specs.Prelude.{◌==◌, slice_index_or, slice_set, replicate, is_some, unwrap_or, bytes_eq, if◌then◌else◌}
use Rattle.std.proofs.lemmas.Bool.{false≢true}
use Rattle.std.proofs.lemmas.Bool.Decides.{nat_tests}
use Rattle.std.proofs.lemmas.List.{get_or-set_same, get_or-set_other, length-set}
use Rattle.std.proofs.lemmas.Slice.Eq.{bytes_eq-Decides}
use Rattle.trace_waves.specs.Board.{Board, empty, added, put, put_all}
use Rattle.trace_waves.specs.Laws.{behind, behind_all, AreChanges, LeaveSame, changes_in, declared_times, DeclaresOnce}
use Rattle.trace_waves.specs.Signals.{slot, context_slot}
use Rattle.trace_waves.specs.Values.{value_text, first_at}
use Rattle.trace_waves.specs.declared.board.Change.{Change}
use Rattle.trace_waves.specs.declared.signal.Context.{Context}
use Rattle.trace_waves.specs.declared.signal.Context.TheVariants as contexts
use Rattle.trace_waves.specs.declared.signal.Signal.{Signal}
use Rattle.trace_waves.specs.declared.signal.Signal.TheVariants as signals
use Rattle.trace_waves.specs.declared.value.Value.{Value}

-- ---- numbers of signals

context_within : (a b : ℕ) (c : Context) → a < 200 → b < 200 → context_slot a b c < 250
context_within a b (contexts.Level level) h k = omega (arith, h)
context_within a b (contexts.Line line) h k = omega (arith, k)

slot_within : (s : Signal) → slot s < 270
slot_within signals.ScriptLine = omega arith
slot_within signals.Ticks = omega arith
slot_within signals.Masked = omega arith
slot_within signals.Act = omega arith
slot_within signals.Serve = omega arith
slot_within signals.Event = omega arith
slot_within signals.Notice = omega arith
slot_within signals.Error = omega arith
slot_within signals.Held = omega arith
slot_within signals.Reset = omega arith
slot_within (signals.Call level) = omega arith
slot_within (signals.Runs context) = omega (arith, context_within 20 30 context (omega arith) (omega arith))
slot_within (signals.Waits context) = omega (arith, context_within 70 80 context (omega arith) (omega arith))
slot_within (signals.Pin p) = omega arith
slot_within (signals.Polarity output) = omega arith
slot_within (signals.Output output) = omega arith
slot_within (signals.Analog input) = omega arith
slot_within (signals.Period output) = omega arith
slot_within (signals.Duty output) = omega arith

-- ---- one more change

behind_more : (values : ℕ → Value) (cs : List Change) (c : Change) (n : ℕ) → behind_all values (cs ++ c ∷ []) n ≡ (if n == slot c.signal then c.value else behind_all values cs n)
behind_more values [] c n = refl
behind_more values (d ∷ cs) c n = behind_more (behind values d) cs c n

changes_more : (values : ℕ → Value) (cs : List Change) (c : Change) → AreChanges values cs → value_text (behind_all values cs (slot c.signal)) ≢ value_text c.value → AreChanges values (cs ++ c ∷ [])
changes_more values [] c h other = (other, tt)
changes_more values (d ∷ cs) c h other = (h.0, changes_more (behind values d) cs c h.1 other)

in_case : (x y a b : Bool) → x ≡ (if b then true else y) → (if a then true else x) ≡ (if b then true else (if a then true else y))
in_case x y true true h = refl
in_case x y true false h = refl
in_case x y false true h = h
in_case x y false false h = h

in_more : (n : ℕ) (cs : List Change) (c : Change) → changes_in n (cs ++ c ∷ []) ≡ (if n == slot c.signal then true else changes_in n cs)
in_more n [] c = refl
in_more n (d ∷ cs) c = in_case (changes_in n (cs ++ c ∷ [])) (changes_in n cs) (n == slot d.signal) (n == slot c.signal) (in_more n cs c)

times_case : (x y : ℕ) (a b : Bool) → x ≡ (if b then suc y else y) → (if a then suc x else x) ≡ (if b then suc (if a then suc y else y) else (if a then suc y else y))
times_case x y true true h = ap (λ (k : ℕ). suc k) h
times_case x y true false h = ap (λ (k : ℕ). suc k) h
times_case x y false true h = h
times_case x y false false h = h

times_more : (n : ℕ) (ss : List Signal) (s : Signal) → declared_times n (ss ++ s ∷ []) ≡ (if n == slot s then suc (declared_times n ss) else declared_times n ss)
times_more n [] s = refl
times_more n (t ∷ ss) s = times_case (declared_times n (ss ++ s ∷ [])) (declared_times n ss) (n == slot t) (n == slot s) (times_more n ss s)

-- ---- a board

-- its values are those behind its changes, which are changes, and leave the same as all that was to be
record Keeps (b : Board) (cs : List Change) : Type 0 where
  size : length b.values ≡ 270
  stands : (n : ℕ) → n < 270 → unwrap_or (slice_index_or b.values n None) (first_at n) ≡ behind_all first_at b.changes n
  changes : AreChanges first_at b.changes
  same : LeaveSame b.changes cs
  told : (n : ℕ) → n < 270 → is_some (slice_index_or b.values n None) ≡ changes_in n b.changes
  once : DeclaresOnce b.signals b.changes

-- one that is to have the value that it has
same_case : (b : Board) (cs : List Change) (c : Change) (n : ℕ) (here : Bool) → (n == slot c.signal) ≡ here → Keeps b cs → value_text (behind_all first_at b.changes (slot c.signal)) ≡ value_text c.value →
    value_text (behind_all first_at b.changes n) ≡ value_text (if here then c.value else behind_all first_at cs n)
same_case b cs c n true e h is =
    let at : n ≡ slot c.signal = grind (arith, nat_tests) in
    ap (λ (k : ℕ). value_text (behind_all first_at b.changes k)) at ∙ is
same_case b cs c n false e h is = h.same n

kept_same : (b : Board) (cs : List Change) (c : Change) → Keeps b cs → value_text (behind_all first_at b.changes (slot c.signal)) ≡ value_text c.value → Keeps b (cs ++ c ∷ [])
kept_same b cs c h is = record {
  size = h.size;
  stands = h.stands;
  changes = h.changes;
  same = λ n. same_case b cs c n (n == slot c.signal) refl h is ∙ sym (ap value_text (behind_more first_at cs c n));
  told = h.told;
  once = h.once;
}

-- one that changes
stands_case : (values : List (Option Value)) (cs : List Change) (c : Change) (n : ℕ) (here : Bool) → (n == slot c.signal) ≡ here → slot c.signal < length values → unwrap_or (slice_index_or values n None) (first_at n) ≡ behind_all first_at cs n →
    unwrap_or (slice_index_or (slice_set values (slot c.signal) (Some c.value)) n None) (first_at n) ≡ (if here then c.value else behind_all first_at cs n)
stands_case values cs c n true e lt h =
    let at : n ≡ slot c.signal = grind (arith, nat_tests) in
    ap (λ (k : ℕ). unwrap_or (slice_index_or (slice_set values (slot c.signal) (Some c.value)) k None) (first_at n)) at
    ∙ ap (λ (o : Option Value). unwrap_or o (first_at n)) (get_or-set_same values (slot c.signal) (Some c.value) None lt)
stands_case values cs c n false e lt h =
    let other : n ≢ slot c.signal = grind (arith, nat_tests) in
    ap (λ (o : Option Value). unwrap_or o (first_at n)) (get_or-set_other values (slot c.signal) n (Some c.value) None other) ∙ h

both_case : (xs ys : ℕ → Value) (c : Change) (n : ℕ) (here : Bool) → value_text (xs n) ≡ value_text (ys n) → value_text (if here then c.value else xs n) ≡ value_text (if here then c.value else ys n)
both_case xs ys c n true h = refl
both_case xs ys c n false h = h

told_case : (values : List (Option Value)) (cs : List Change) (c : Change) (n : ℕ) (here : Bool) → (n == slot c.signal) ≡ here → slot c.signal < length values → is_some (slice_index_or values n None) ≡ changes_in n cs →
    is_some (slice_index_or (slice_set values (slot c.signal) (Some c.value)) n None) ≡ (if here then true else changes_in n cs)
told_case values cs c n true e lt h =
    let at : n ≡ slot c.signal = grind (arith, nat_tests) in
    ap (λ (k : ℕ). is_some (slice_index_or (slice_set values (slot c.signal) (Some c.value)) k None)) at ∙ ap (λ (o : Option Value). is_some o) (get_or-set_same values (slot c.signal) (Some c.value) None lt)
told_case values cs c n false e lt h =
    let other : n ≢ slot c.signal = grind (arith, nat_tests) in
    ap (λ (o : Option Value). is_some o) (get_or-set_other values (slot c.signal) n (Some c.value) None other) ∙ h

-- of the signal of the change there is a change already, or none
told_here : (b : Board) (c : Change) (n : ℕ) (there : Bool) → is_some (slice_index_or b.values (slot c.signal) None) ≡ there → (n == slot c.signal) ≡ true → is_some (slice_index_or b.values (slot c.signal) None) ≡ changes_in (slot c.signal) b.changes →
    changes_in n b.changes ≡ there
told_here b c n there e here told =
    let at : n ≡ slot c.signal = grind (arith, nat_tests) in
    ap (λ (k : ℕ). changes_in k b.changes) at ∙ (sym told ∙ e)

once_case : (b : Board) (c : Change) (n : ℕ) (there here : Bool) → is_some (slice_index_or b.values (slot c.signal) None) ≡ there → (n == slot c.signal) ≡ here → is_some (slice_index_or b.values (slot c.signal) None) ≡ changes_in (slot c.signal) b.changes →
    declared_times n b.signals ≡ (if changes_in n b.changes then 1 else 0) →
    declared_times n (if there then b else record b { signals = b.signals ++ c.signal ∷ [] }).signals ≡ (if (if here then true else changes_in n b.changes) then 1 else 0)
once_case b c n true true e f told h = h ∙ ap (λ (x : Bool). if x then 1 else 0) (told_here b c n true e f told)
once_case b c n true false e f told h = h
once_case b c n false true e f told h =
    times_more n b.signals c.signal
    ∙ (ap (λ (x : Bool). if x then suc (declared_times n b.signals) else declared_times n b.signals) f
    ∙ ap (λ (k : ℕ). suc k) (h ∙ ap (λ (x : Bool). if x then 1 else 0) (told_here b c n false e f told)))
once_case b c n false false e f told h =
    times_more n b.signals c.signal ∙ (ap (λ (x : Bool). if x then suc (declared_times n b.signals) else declared_times n b.signals) f ∙ h)

kept_added : (b : Board) (cs : List Change) (c : Change) → Keeps b cs → value_text (behind_all first_at b.changes (slot c.signal)) ≢ value_text c.value → Keeps (added b c) (cs ++ c ∷ [])
kept_added b cs c h other =
    let lt : slot c.signal < length b.values = omega (arith, h.size, slot_within c.signal) in
    record {
      size = length-set b.values (slot c.signal) (Some c.value) ∙ h.size;
      stands = λ n few. stands_case b.values b.changes c n (n == slot c.signal) refl lt (h.stands n few) ∙ sym (behind_more first_at b.changes c n);
      changes = changes_more first_at b.changes c h.changes other;
      same = λ n.
          ap value_text (behind_more first_at b.changes c n)
          ∙ (both_case (behind_all first_at b.changes) (behind_all first_at cs) c n (n == slot c.signal) (h.same n) ∙ sym (ap value_text (behind_more first_at cs c n)));
      told = λ n few. told_case b.values b.changes c n (n == slot c.signal) refl lt (h.told n few) ∙ sym (in_more n b.changes c);
      once = λ n.
          once_case b c n _ (n == slot c.signal) refl refl (h.told (slot c.signal) (slot_within c.signal)) (h.once n)
          ∙ sym (ap (λ (x : Bool). if x then 1 else 0) (in_more n b.changes c));
    }

put_case : (b : Board) (cs : List Change) (c : Change) (alike : Bool) → bytes_eq (value_text (unwrap_or (slice_index_or b.values (slot c.signal) None) (first_at (slot c.signal)))) (value_text c.value) ≡ alike → Keeps b cs →
    Keeps (if alike then b else added b c) (cs ++ c ∷ [])
put_case b cs c true e h =
    let at = h.stands (slot c.signal) (slot_within c.signal) in
    kept_same b cs c h (sym (ap value_text at) ∙ (bytes_eq-Decides _ (value_text c.value)).0 e)
put_case b cs c false e h =
    let at = h.stands (slot c.signal) (slot_within c.signal) in
    kept_added b cs c h (λ is. false≢true (sym e ∙ (bytes_eq-Decides _ (value_text c.value)).1 (ap value_text at ∙ is)))

put_keeps : (b : Board) (cs : List Change) (c : Change) → Keeps b cs → Keeps (put b c) (cs ++ c ∷ [])
unfolding put
put_keeps b cs c h = put_case b cs c _ refl h

all_keep : (b : Board) (cs ds : List Change) → Keeps b cs → Keeps (put_all b ds) (cs ++ ds)
all_keep b cs [] h = subst (λ (xs : List Change). Keeps b xs) (sym (append-nil cs)) h
all_keep b cs (d ∷ ds) h = subst (λ (xs : List Change). Keeps (put_all (put b d) ds) xs) (append_assoc cs (d ∷ []) ds) (all_keep (put b d) (cs ++ d ∷ []) ds (put_keeps b cs d h))

none_in : (count n : ℕ) → slice_index_or (replicate {A = Option Value} count None) n None ≡ None
none_in zero n = refl
none_in (suc count) zero = refl
none_in (suc count) (suc n) = none_in count n

empty_keeps : Keeps empty []
empty_keeps = record {
  size = refl;
  stands = λ n few. ap (λ (o : Option Value). unwrap_or o (first_at n)) (none_in 270 n);
  changes = tt;
  same = λ n. refl;
  told = λ n few. ap (λ (o : Option Value). is_some o) (none_in 270 n);
  once = λ n. refl;
}

pub are_changes : (cs : List Change) → AreChanges first_at (put_all empty cs).changes
are_changes cs = (all_keep empty [] cs empty_keeps).changes

pub leave_same : (cs : List Change) → LeaveSame (put_all empty cs).changes cs
leave_same cs = (all_keep empty [] cs empty_keeps).same

pub declares_once : (cs : List Change) → DeclaresOnce (put_all empty cs).signals (put_all empty cs).changes
declares_once cs = (all_keep empty [] cs empty_keeps).once
