-- What signs show, as more of them are drawn.
use Rattle.std.proofs.Common.{◌≡◌, ℕ, List, [], ◌∷◌, ◌++◌, Option, Some, None, refl, ◌∙◌, ap}
use Rattle.std.specs.Prelude.{option_to_list}
use Rattle.std.specs.List.{cons_option}
use Rattle.std.proofs.lemmas.List.{append-nil}
use Rattle.std.proofs.lemmas.List.Elements.{filter_map-append}
use Rattle.mcal_base.specs.declared.moves.Move.{Move}
use Rattle.mcal_base.specs.declared.moves.Move.TheVariants as moves
use Rattle.trace_reader.specs.declared.told.Step.{Step}
use Rattle.trace_forms.specs.declared.kinds.signs.Ending.{Ending}
use Rattle.trace_forms.specs.declared.kinds.signs.Frame.{Frame}
use Rattle.trace_forms.specs.declared.kinds.signs.Sign.{Sign}
use Rattle.trace_forms.specs.declared.kinds.signs.What.{What}
use Rattle.trace_forms.specs.declared.kinds.signs.What.TheVariants as whats
use Rattle.trace_drawing.specs.signs.Drawing.{Drawing, put, shut_at, all_ended_of, before_step, behind_step, counted, stepped}
use Rattle.trace_drawing.specs.signs.Laws.{seen}

single : {T : Type 0} (o : Option T) → cons_option o [] ≡ option_to_list o
single None = refl
single (Some x) = refl

-- one more sign shows one thing more, or nothing
pub seen-put : {T : Type 0} (f : ℕ → What → Option T) (d : Drawing) (number : ℕ) (what : What) → seen f (put d number what).signs ≡ seen f d.signs ++ option_to_list (f number what)
seen-put f d number what = filter_map-append (λ (s : Sign). f s.number s.what) d.signs _ ∙ ap (λ xs. seen f d.signs ++ xs) (single (f number what))

pub seen-quiet : {T : Type 0} (f : ℕ → What → Option T) (d : Drawing) (number : ℕ) (what : What) → f number what ≡ None → seen f (put d number what).signs ≡ seen f d.signs
seen-quiet f d number what e = seen-put f d number what ∙ (ap (λ (o : Option _). seen f d.signs ++ option_to_list o) e ∙ append-nil (seen f d.signs))

pub seen-more : {T : Type 0} (f : ℕ → What → Option T) (d : Drawing) (number : ℕ) (what : What) (x : T) → f number what ≡ Some x → seen f (put d number what).signs ≡ seen f d.signs ++ x ∷ []
seen-more f d number what x e = seen-put f d number what ∙ ap (λ (o : Option _). seen f d.signs ++ option_to_list o) e

-- the mask's window shows nothing
pub seen-shut : {T : Type 0} (f : ℕ → What → Option T) → ((number step : ℕ) → f number (whats.Window step) ≡ None) → (d : Drawing) (number : ℕ) (since : Option ℕ) → seen f (shut_at d number since).signs ≡ seen f d.signs
seen-shut f quiet d number None = refl
seen-shut f quiet d number (Some step) = seen-quiet f d number (whats.Window step) (quiet number step)

-- nor do frames that are gone, where none of them does
pub seen-ended : {T : Type 0} (f : ℕ → What → Option T) (number : ℕ) (ending : Ending) → ((frame : Frame) → f number (whats.Gone frame ending) ≡ None) → (d : Drawing) (frames : List Frame) → seen f (all_ended_of d number ending frames).signs ≡ seen f d.signs
seen-ended f number ending quiet d [] = refl
seen-ended f number ending quiet d (frame ∷ frames) =
    seen-ended f number ending quiet (record (put d number (whats.Gone frame ending)) { frames = frames }) frames ∙ seen-quiet f d number (whats.Gone frame ending) (quiet frame)

pub before-signs : (d : Drawing) (made : Move) → (before_step d made).signs ≡ d.signs
before-signs d (moves.Read reg) = refl
before-signs d (moves.Write reg value) = refl
before-signs d (moves.Load word) = refl
before-signs d (moves.Store word value) = refl
before-signs d moves.Mask = refl
before-signs d moves.Unmask = refl
before-signs d (moves.Note notice) = refl
before-signs d (moves.Report found) = refl

seen-behind : {T : Type 0} (f : ℕ → What → Option T) → ((number step : ℕ) → f number (whats.Window step) ≡ None) → (d : Drawing) (number : ℕ) (made : Move) → seen f (behind_step d number made).signs ≡ seen f d.signs
seen-behind f quiet d number (moves.Read reg) = refl
seen-behind f quiet d number (moves.Write reg value) = refl
seen-behind f quiet d number (moves.Load word) = refl
seen-behind f quiet d number (moves.Store word value) = refl
seen-behind f quiet d number moves.Mask = refl
seen-behind f quiet d number moves.Unmask = seen-shut f quiet d number d.since
seen-behind f quiet d number (moves.Note notice) = refl
seen-behind f quiet d number (moves.Report found) = refl

-- a step shows what its own sign does
pub seen-stepped : {T : Type 0} (f : ℕ → What → Option T) → ((number step : ℕ) → f number (whats.Window step) ≡ None) → (d : Drawing) (number : ℕ) (step : Step) → seen f (stepped d number step).signs ≡ seen f d.signs ++ option_to_list (f number (whats.Stepped step d.fresh))
seen-stepped f quiet d number step =
    seen-behind f quiet (counted (put (before_step d step.made) number (whats.Stepped step d.fresh))) number step.made
    ∙ (seen-put f (before_step d step.made) number (whats.Stepped step d.fresh)
    ∙ ap (λ (signs : List Sign). seen f signs ++ option_to_list (f number (whats.Stepped step d.fresh))) (before-signs d step.made))
