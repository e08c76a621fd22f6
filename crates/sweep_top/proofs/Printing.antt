-- How a call of the sweep ends, by what is printed, and by what came of writing that.
use Rattle.std.proofs.Common.{◌≡◌, ◌≢◌, ◌∙◌, ℕ, List, [], Option, Some, None, append-nil, arith, refl, sym, subst}
use Rattle.std.specs.Prelude.{codes}
use Rattle.std.specs.Option.{IfSome}
use Rattle.std.specs.Io.KnownBytes.{Appends}
use Rattle.sweep_top.specs.Sweeps.{IsPrinted, IsSweepEnded, IsWritten, ending_of}
use Rattle.sweep_top.specs.declared.top.Printed.{Printed}
use Rattle.sweep_top.specs.declared.words.Asked.{Asked}

pub sink_spared : (left : Option (List ℕ)) (form : Option Asked) (rose : Type 0) (o : Option Printed) → IfSome o (IsPrinted left form rose) → IfSome o (λ p. p.status ≢ 3)
sink_spared left form rose None h = tt
sink_spared left form rose (Some p) h = h.sink

pub none_written : (taken : Option (List ℕ)) → Appends taken taken []
none_written None = tt
none_written (Some xs) = sym (append-nil xs)

pub written_exact : (left : Option (List ℕ)) (form : Option Asked) (rose : Type 0) (status : ℕ) (before after : Option (List ℕ)) (o : Option Printed) → IfSome o (IsPrinted left form rose) → IsWritten status before after o → (o ≡ None → (status ≡ 4) × Appends before after []) → status ≢ 2 → status ≢ 3 → status ≢ 4 → IfSome left (λ bytes. IsSweepEnded form bytes status before after)
written_exact left form rose status before after None h w n two three four = absurd (four (n refl).0)
written_exact None form rose status before after (Some p) h w n two three four = tt
written_exact (Some bytes) form rose status before after (Some p) h w n two three four =
    let s = w three in
    record { ending = ending_of p; ends = h.exact (λ q. two (s.0 ∙ q)) (λ q. four (s.0 ∙ q)); status_is = s.0; written = s.1 }

pub written_read : (left : Option (List ℕ)) (form : Option Asked) (rose : Type 0) (status : ℕ) (before after : Option (List ℕ)) (o : Option Printed) → IfSome o (IsPrinted left form rose) → IsWritten status before after o → (o ≡ None → (status ≡ 4) × Appends before after []) → status ≡ 2 → rose × Appends before after (codes "read fault\n")
written_read left form rose status before after None h w n two = let four : status ≡ 4 = (n refl).0 in absurd (omega (arith, two, four))
written_read left form rose status before after (Some p) h w n two =
    let s = w (λ three. let never : 2 ≡ 3 = sym two ∙ three in absurd (cc)) in
    let r = h.read (sym s.0 ∙ two) in
    (r.0, subst (λ (text : List ℕ). Appends before after text) r.1 s.1)

pub written_nothing : (left : Option (List ℕ)) (form : Option Asked) (rose : Type 0) (status : ℕ) (before after : Option (List ℕ)) (o : Option Printed) → IfSome o (IsPrinted left form rose) → IsWritten status before after o → (o ≡ None → (status ≡ 4) × Appends before after []) → status ≡ 4 → Appends before after []
written_nothing left form rose status before after None h w n four = (n refl).1
written_nothing left form rose status before after (Some p) h w n four =
    let s = w (λ three. let never : 4 ≡ 3 = sym four ∙ three in absurd (cc)) in
    subst (λ (text : List ℕ). Appends before after text) (h.silent (sym s.0 ∙ four)) s.1

-- the source met no fault, where neither its line nor want of memory, nor a fault of the sink is told
pub written_still : (status : ℕ) (before after : Option (List ℕ)) (o : Option Printed) (X : Type 0) → IfSome o (λ p. p.status ≢ 2 → X) → IsWritten status before after o → (o ≡ None → (status ≡ 4) × Appends before after []) → status ≢ 2 → status ≢ 3 → status ≢ 4 → X
written_still status before after None X h w n two three four = absurd (four (n refl).0)
written_still status before after (Some p) X h w n two three four = h (λ q. two ((w three).0 ∙ q))
