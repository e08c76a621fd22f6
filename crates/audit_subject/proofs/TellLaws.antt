-- What an event of a frame is to the machine, and what comes of it.
use Rattle.std.proofs.Common.{◌≡◌, ℕ, ◌<◌, List, Option, Some, None, refl, sym, ◌∙◌, ap, subst, arith}
use Rattle.std.specs.Prelude.{IsSome, option_map, slice_index_or}
use Rattle.std.proofs.lemmas.List.FromFn.{get_or-map-range_with_len}
use Rattle.mcal_base.specs.declared.moves.Event.{Event}
use Rattle.mcal_base.specs.declared.moves.Event.TheVariants.{Serve, Abort, Start}
use Rattle.mcal_base.specs.declared.moves.Unit as units
use Rattle.run_model.specs.Frame.{Origin, Called, Entered, Brought, begun_by, caller_of, happening_of, state_by, time_or}
use Rattle.run_model.specs.Machine.{Serves, Starts, Aborts, Outcome}
use Rattle.audit_base.specs.Deeds.{begun_of}
use Rattle.audit_base.specs.declared.done.Done.{Done}
use Rattle.audit_frames.specs.Told.{IsTold}
use Rattle.audit_subject.specs.Tellings.{Came, times_at}

-- ---- events

pub serves : {C : Type 0} (o : Origin C) (b : Brought) (k : ℕ) → happening_of o b (Serve k) ≡ Some (Serves k b.received)
serves (Called c) b k = refl
serves (Entered l) b k = refl

pub starts : {C : Type 0} (o : Origin C) (b : Brought) (u : units.Unit) → happening_of o b (Start u) ≡ Some (Starts u (caller_of o) b.received)
starts (Called c) b u = refl
starts (Entered l) b u = refl

pub aborts : {C : Type 0} (o : Origin C) (b : Brought) (u : units.Unit) → happening_of o b (Abort u) ≡ Some (Aborts u)
aborts (Called c) b u = refl
aborts (Entered l) b u = refl

-- ---- times

pub time_of : (times : List (Option ℕ)) (now c : ℕ) → c < 8 → slice_index_or (times_at times now) c 0 ≡ time_or now (slice_index_or times c None)
time_of times now c lt = get_or-map-range_with_len (λ k. time_or now (slice_index_or times k None)) 0 8 c c 0 lt (omega arith)

-- ---- what comes of an event

module _ {State : Type 0} (stands : State → Type 0) (s : State) where
  -- it is told as the machine tells it
  pub told : (e : Option Event) (done : Done) (out : Option (Outcome State)) → Came stands s e (Some done) out → IsTold e done.told out
  told None done out h = h.1
  told (Some e) done None h = absurd h
  told (Some e) done (Some out) h = sym h.told

  pub begins : (e : Option Event) (done : Done) (out : Option (Outcome State)) → Came stands s e (Some done) out → option_map begun_of done.begins ≡ begun_by out
  begins None done out h = ap (λ b. option_map begun_of b) h.0 ∙ sym (ap (λ o. begun_by o) h.1)
  begins (Some e) done None h = absurd h
  begins (Some e) done (Some out) h = h.begins

  pub kept : (e : Option Event) (done : Done) (out : Option (Outcome State)) → Came stands s e (Some done) out → stands (state_by s out)
  kept None done out h = subst (λ o. stands (state_by s o)) (sym h.1) h.2
  kept (Some e) done None h = absurd h
  kept (Some e) done (Some out) h = h.kept

  pub refused : (e : Option Event) (out : Option (Outcome State)) → Came stands s e None out → IsSome e × (out ≡ None) × stands s
  refused None out h = absurd h
  refused (Some e) None h = (refl, refl, h)
  refused (Some e) (Some out) h = absurd h
