-- Results that are stored value by value.
use Rattle.std.proofs.Common.{◌≡◌, ◌≢◌, ◌⊎◌, inl, inr, ℕ, suc, ◌+◌, ◌*◌, ◌<◌, ◌≤◌, nat_lt, Bool, true, false, cond, ◌&&◌, ◌==◌, List, [], ◌∷◌, length, refl, sym, ◌∙◌, ap, subst, arith, replicate, slice_index_or, slice_set}
use Rattle.std.specs.Prelude.{if◌then◌else◌}
use Rattle.std.proofs.lemmas.List.{get_or-set_same, get_or-set_other}
use Rattle.std.proofs.Math.Nat.{suc-mul}
use Rattle.mcal_base.specs.facts.Numbers.{same_or_other, eq_self, eq_other, lt_is, lt_from}
use Rattle.run_model.specs.World.{with_at}
use Rattle.adc_machine.specs.Groups.{Results, held_in, is_same, stored_from}
use Rattle.adc_machine.specs.declared.call.ResultBuffer.{ResultBuffer}
use Rattle.adc_machine.specs.declared.call.ResultBuffer.TheVariants.{Zero, One}
use Rattle.audit_converters.specs.Stands.{HoldResults, put_at, result_at}
use Rattle.audit_converters.proofs.Places.{same_item}

-- what the words hold at the places of a buffer
abbrev pub held_by : List ℕ → (group : ℕ) → ResultBuffer → (place : ℕ) → ℕ
held_by words g b p = slice_index_or words (result_at g b p) 0

-- the buffer is this one
abbrev pub is_buffer : (group : ℕ) → ResultBuffer → (h : ℕ) → ResultBuffer → Bool
is_buffer g b h c = h == g && is_same c b

-- a place after the values were stored in a buffer from a place on
abbrev pub after_values : (group : ℕ) → ResultBuffer → (place step : ℕ) → List ℕ → List ℕ → (h : ℕ) → ResultBuffer → (p : ℕ) → ℕ
after_values g b at step vs words h c p = cond (is_buffer g b h c) (stored_from at step vs (held_by words h c) p) (held_by words h c p)

-- what a place holds in the end comes of what it holds now
pub stored_point : (at step : ℕ) (vs : List ℕ) (f g : ℕ → ℕ) (p : ℕ) → f p ≡ g p → stored_from at step vs f p ≡ stored_from at step vs g p
stored_point at step [] f g p e = e
stored_point at step (v ∷ vs) f g p e = stored_point (at + step) step vs (with_at f at v) (with_at g at v) p (ap (λ x. cond (p == at) v x) e)

-- before anything was stored
pub no_results : (n : ℕ) (words : List ℕ) → words ≡ replicate n 0 → HoldResults words []
no_results n words e g b p lt small = ap (λ ws. slice_index_or ws (result_at g b p) 0) e ∙ same_item n (result_at g b p) 0

-- ---- one value

-- at its own place
put_here : (words : List ℕ) (g : ℕ) (b : ResultBuffer) (at v p : ℕ) → length words ≡ 65536 → g < 16 → p < 2048 → held_by (put_at words g b at v) g b p ≡ with_at (held_by words g b) at v p
put_here words g b at v p size lt small = by (same_or_other p at)
  where
    room : (b : ResultBuffer) (at : ℕ) → at < 2048 → result_at g b at < length words
    room Zero at within = omega (arith, size, lt, within)
    room One at within = omega (arith, size, lt, within)

    set_or_not : (q : Bool) → nat_lt at 2048 ≡ q → p ≢ at → slice_index_or (if q then slice_set words (result_at g b at) v else words) (result_at g b p) 0 ≡ held_by words g b p
    set_or_not true f ne = get_or-set_other words (result_at g b at) (result_at g b p) v 0 (λ e. ne (omega (arith, e)))
    set_or_not false f ne = refl

    by : (p ≡ at) ⊎ (p ≢ at) → held_by (put_at words g b at v) g b p ≡ cond (p == at) v (held_by words g b p)
    by (inl e) =
        let within : at < 2048 = omega (arith, e, small) in
        ap (λ q. slice_index_or (if q then slice_set words (result_at g b at) v else words) (result_at g b p) 0) (lt_from at 2048 within)
        ∙ ap (λ i. slice_index_or (slice_set words (result_at g b at) v) (result_at g b i) 0) e
        ∙ get_or-set_same words (result_at g b at) v 0 (room b at within)
        ∙ sym (ap (λ q. cond q v (held_by words g b p)) (ap (λ i. i == at) e ∙ eq_self at))
    by (inr ne) = set_or_not (nat_lt at 2048) refl ne ∙ sym (ap (λ q. cond q v (held_by words g b p)) (eq_other p at ne))

-- in another buffer
put_elsewhere : (words : List ℕ) (g : ℕ) (b : ResultBuffer) (at v h : ℕ) (c : ResultBuffer) (p : ℕ) → p < 2048 → (at < 2048 → result_at h c p ≢ result_at g b at) → held_by (put_at words g b at v) h c p ≡ held_by words h c p
put_elsewhere words g b at v h c p small apart = by (nat_lt at 2048) refl
  where
    by : (q : Bool) → nat_lt at 2048 ≡ q → slice_index_or (if q then slice_set words (result_at g b at) v else words) (result_at h c p) 0 ≡ held_by words h c p
    by true f = get_or-set_other words (result_at g b at) (result_at h c p) v 0 (apart (lt_is at 2048 f))
    by false f = refl

other_group : (g h : ℕ) (b c : ResultBuffer) (at p : ℕ) → p < 2048 → at < 2048 → h ≢ g → result_at h c p ≢ result_at g b at
other_group g h Zero Zero at p small lt ne e = ne (omega (arith, e, small, lt))
other_group g h Zero One at p small lt ne e = ne (omega (arith, e, small, lt))
other_group g h One Zero at p small lt ne e = ne (omega (arith, e, small, lt))
other_group g h One One at p small lt ne e = ne (omega (arith, e, small, lt))

-- the values from one on, and from the next on when that one is put
pub put_next : (words : List ℕ) (g : ℕ) (b : ResultBuffer) (at step v : ℕ) (vs : List ℕ) (h : ℕ) (c : ResultBuffer) (p : ℕ) → length words ≡ 65536 → g < 16 → p < 2048
    → after_values g b (at + step) step vs (put_at words g b at v) h c p ≡ after_values g b at step (v ∷ vs) words h c p
put_next words g b at step v vs h c p size lt small = by (same_or_other h g) c b
  where
    skipped : (c b : ResultBuffer) → is_same c b ≡ false → (at < 2048 → result_at h c p ≢ result_at g b at)
        → after_values g b (at + step) step vs (put_at words g b at v) h c p ≡ after_values g b at step (v ∷ vs) words h c p
    skipped c b isnt apart =
        ap (λ q. cond (h == g && q) (stored_from (at + step) step vs (held_by (put_at words g b at v) h c) p) (held_by (put_at words g b at v) h c p)) isnt
        ∙ none (h == g) _ _
        ∙ put_elsewhere words g b at v h c p small apart
        ∙ sym (none (h == g) _ _)
        ∙ sym (ap (λ q. cond (h == g && q) (stored_from at step (v ∷ vs) (held_by words h c) p) (held_by words h c p)) isnt)
      where
        none : (q : Bool) (x y : ℕ) → cond (q && false) x y ≡ y
        none true x y = refl
        none false x y = refl

    elsewhere : h ≢ g → (c b : ResultBuffer) → after_values g b (at + step) step vs (put_at words g b at v) h c p ≡ after_values g b at step (v ∷ vs) words h c p
    elsewhere ne c b =
        ap (λ q. cond (q && is_same c b) (stored_from (at + step) step vs (held_by (put_at words g b at v) h c) p) (held_by (put_at words g b at v) h c p)) (eq_other h g ne)
        ∙ put_elsewhere words g b at v h c p small (λ within. other_group g h b c at p small within ne)
        ∙ sym (ap (λ q. cond (q && is_same c b) (stored_from at step (v ∷ vs) (held_by words h c) p) (held_by words h c p)) (eq_other h g ne))

    here : (b : ResultBuffer) → is_same b b ≡ true → after_values g b (at + step) step vs (put_at words g b at v) g b p ≡ after_values g b at step (v ∷ vs) words g b p
    here b is =
        let same : is_buffer g b g b ≡ true = ap (λ q. q && is_same b b) (eq_self g) ∙ is in
        ap (λ q. cond q (stored_from (at + step) step vs (held_by (put_at words g b at v) g b) p) (held_by (put_at words g b at v) g b p)) same
        ∙ stored_point (at + step) step vs (held_by (put_at words g b at v) g b) (with_at (held_by words g b) at v) p (put_here words g b at v p size lt small)
        ∙ sym (ap (λ q. cond q (stored_from at step (v ∷ vs) (held_by words g b) p) (held_by words g b p)) same)

    by : (h ≡ g) ⊎ (h ≢ g) → (c b : ResultBuffer) → after_values g b (at + step) step vs (put_at words g b at v) h c p ≡ after_values g b at step (v ∷ vs) words h c p
    by (inr ne) c b = elsewhere ne c b
    by (inl e) Zero Zero = subst (λ i. after_values g Zero (at + step) step vs (put_at words g Zero at v) i Zero p ≡ after_values g Zero at step (v ∷ vs) words i Zero p) (sym e) (here Zero refl)
    by (inl e) One One = subst (λ i. after_values g One (at + step) step vs (put_at words g One at v) i One p ≡ after_values g One at step (v ∷ vs) words i One p) (sym e) (here One refl)
    by (inl e) Zero One = skipped Zero One refl (λ within f. omega (arith, e, f, small, within))
    by (inl e) One Zero = skipped One Zero refl (λ within f. omega (arith, e, f, small, within))

-- before the first value, and behind the last one
pub put_none : (g : ℕ) (b : ResultBuffer) (at step : ℕ) (words : List ℕ) (h : ℕ) (c : ResultBuffer) (p : ℕ) → after_values g b at step [] words h c p ≡ held_by words h c p
put_none g b at step words h c p = by (is_buffer g b h c)
  where
    by : (q : Bool) → cond q (held_by words h c p) (held_by words h c p) ≡ held_by words h c p
    by true = refl
    by false = refl

pub put_all : (words : List ℕ) (results : Results) (g : ℕ) (b : ResultBuffer) (at step : ℕ) (vs : List ℕ) (h : ℕ) (c : ResultBuffer) (p : ℕ) → HoldResults words results → h < 16 → p < 2048
    → after_values g b at step vs words h c p ≡ held_in (record { group = g; buffer = b; place = at; step = step; values = vs } ∷ results) h c p
put_all words results g b at step vs h c p holds lt small = by (same_or_other h g) c b
  where
    F : ℕ → ResultBuffer → ResultBuffer → Bool → ℕ
    F h c b q = (cond q (stored_from at step vs (held_in results g b)) (held_in results h c)) p

    elsewhere : (c b : ResultBuffer) → is_buffer g b h c ≡ false → cond (is_buffer g b h c) (stored_from at step vs (held_by words h c) p) (held_by words h c p) ≡ (cond (is_buffer g b h c) (stored_from at step vs (held_in results g b)) (held_in results h c)) p
    elsewhere c b isnt =
        ap (λ q. cond q (stored_from at step vs (held_by words h c) p) (held_by words h c p)) isnt
        ∙ holds h c p lt small
        ∙ sym (ap (λ q. F h c b q) isnt)

    none : (q : Bool) → q && false ≡ false
    none true = refl
    none false = refl

    here : (c : ResultBuffer) → is_buffer g c h c ≡ true → h ≡ g → cond (is_buffer g c h c) (stored_from at step vs (held_by words h c) p) (held_by words h c p) ≡ (cond (is_buffer g c h c) (stored_from at step vs (held_in results g c)) (held_in results h c)) p
    here c same e =
        ap (λ q. cond q (stored_from at step vs (held_by words h c) p) (held_by words h c p)) same
        ∙ stored_point at step vs (held_by words h c) (held_in results g c) p (holds h c p lt small ∙ ap (λ i. held_in results i c p) e)
        ∙ sym (ap (λ q. F h c c q) same)

    same_at : (c : ResultBuffer) → h ≡ g → is_same c c ≡ true → is_buffer g c h c ≡ true
    same_at c e is = ap (λ i. i == g && is_same c c) e ∙ (ap (λ q. q && is_same c c) (eq_self g) ∙ is)

    by : (h ≡ g) ⊎ (h ≢ g) → (c b : ResultBuffer) → cond (is_buffer g b h c) (stored_from at step vs (held_by words h c) p) (held_by words h c p) ≡ (cond (is_buffer g b h c) (stored_from at step vs (held_in results g b)) (held_in results h c)) p
    by (inr ne) c b = elsewhere c b (ap (λ q. q && is_same c b) (eq_other h g ne))
    by (inl e) Zero Zero = here Zero (same_at Zero e refl) e
    by (inl e) One One = here One (same_at One e refl) e
    by (inl e) Zero One = elsewhere Zero One (none (h == g))
    by (inl e) One Zero = elsewhere One Zero (none (h == g))

-- a round of a group that isn't there is stored nowhere
pub held_skip : (words : List ℕ) (results : Results) (g : ℕ) (b : ResultBuffer) (at step : ℕ) (vs : List ℕ) → 16 ≤ g → HoldResults words results → HoldResults words (record { group = g; buffer = b; place = at; step = step; values = vs } ∷ results)
held_skip words results g b at step vs past holds h c p lt small =
    holds h c p lt small ∙ sym (ap (λ q. (cond (q && is_same c b) (stored_from at step vs (held_in results g b)) (held_in results h c)) p) (eq_other h g (λ e. omega (arith, e, lt, past))))

-- the place of the next value
pub next_times : (at place n step : ℕ) → at ≡ place + n * step → at + step ≡ place + (n + 1) * step
next_times at place n step e = let on : n + 1 ≡ suc n = omega arith in omega (arith, e, suc-mul n step, ap (λ m. m * step) on)
