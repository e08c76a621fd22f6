-- Items whose lists stand among words, as items and words are added.
use Rattle.std.proofs.Common.{◌≡◌, ℕ, suc, ◌≤◌, List, [], ◌∷◌, ◌++◌, length, Option, Some, None, refl, ◌∙◌, ap, arith}
use Rattle.std.proofs.lemmas.Grind.{common_steps}
use Rattle.mcal_base.specs.declared.directive.Order.TheVariants as orders
use Rattle.run_model.specs.declared.item.Span.{Span}
use Rattle.run_model.specs.declared.item.LoggedAnswer.{LoggedAnswer}
use Rattle.run_model.specs.declared.item.Hardware.{Hardware}
use Rattle.run_model.specs.declared.item.Hardware.TheVariants as hardware
use Rattle.run_model.specs.declared.item.What.{What}
use Rattle.run_model.specs.declared.item.What.TheVariants as whats
use Rattle.run_model.specs.declared.item.Item.{Item}
use Rattle.run_model.specs.Entry.{Happens, Steps, words_at, answer_at, order_at, said_at, entry_at, entries, SpanFits, AnswerFits, HardwareFits, WhatFits, AllFit}

-- a stretch of the words stays with more words behind them
pub words_at-more : (words more : List ℕ) (s : Span) → SpanFits (length words) s → words_at (words ++ more) s ≡ words_at words s
words_at-more words more s h = grind (arith, common_steps)

pub answer_at-more : (words more : List ℕ) (a : Option LoggedAnswer) → AnswerFits (length words) a → answer_at (words ++ more) a ≡ answer_at words a
answer_at-more words more None h = refl
answer_at-more words more (Some a) h = ap (λ ws. Some (record { head = a.head; words = ws })) (words_at-more words more a.words h)

order_at-more : (words more : List ℕ) (o : Hardware) → HardwareFits (length words) o → order_at (words ++ more) o ≡ order_at words o
order_at-more words more (hardware.Tick n) h = refl
order_at-more words more (hardware.Level p v) h = refl
order_at-more words more (hardware.Analog i v) h = refl
order_at-more words more (hardware.Trigger i) h = refl
order_at-more words more (hardware.Miso u s) h = ap (λ ws. orders.Miso u ws) (words_at-more words more s h)
order_at-more words more (hardware.SpiFault u) h = refl
order_at-more words more hardware.Detach h = refl
order_at-more words more (hardware.Fill c s) h = ap (λ ws. orders.Fill c ws) (words_at-more words more s h)
order_at-more words more (hardware.Show s) h = refl

pub said_at-more : (words more : List ℕ) (w : What) → WhatFits (length words) w → said_at (words ++ more) w ≡ said_at words w
said_at-more words more (whats.Happened o) h = ap (λ x. Happens x) (order_at-more words more o h)
said_at-more words more whats.Begun h = refl
said_at-more words more (whats.Held c) h = refl
said_at-more words more (whats.Stepped l) h = ap (λ a. Steps (record { made = l.made; value = l.value; received = l.received; event = l.event; ended = a })) (answer_at-more words more l.ended h)
said_at-more words more (whats.Reset r k) h = refl

pub entries-more : (words more : List ℕ) (is : List Item) → AllFit (length words) is → entries (words ++ more) is ≡ entries words is
entries-more words more [] h = refl
entries-more words more (i ∷ is) h =
    ap (λ s. (record { line = i.line; depth = i.depth; said = s }) ∷ entries (words ++ more) is) (said_at-more words more i.what h.0)
    ∙ ap (λ es. entry_at words i ∷ es) (entries-more words more is h.1)

pub entries-append : (words : List ℕ) (is js : List Item) → entries words (is ++ js) ≡ entries words is ++ entries words js
entries-append words [] js = refl
entries-append words (i ∷ is) js = ap (λ es. entry_at words i ∷ es) (entries-append words is js)

pub length-entries : (words : List ℕ) (is : List Item) → length (entries words is) ≡ length is
length-entries words [] = refl
length-entries words (i ∷ is) = ap suc (length-entries words is)

-- what fits fits with more room
span_fits_more : (n m : ℕ) (s : Span) → n ≤ m → SpanFits n s → SpanFits m s
span_fits_more n m s le h = omega arith

answer_fits_more : (n m : ℕ) (a : Option LoggedAnswer) → n ≤ m → AnswerFits n a → AnswerFits m a
answer_fits_more n m None le h = tt
answer_fits_more n m (Some a) le h = span_fits_more n m a.words le h

hardware_fits_more : (n m : ℕ) (o : Hardware) → n ≤ m → HardwareFits n o → HardwareFits m o
hardware_fits_more n m (hardware.Tick k) le h = tt
hardware_fits_more n m (hardware.Level p v) le h = tt
hardware_fits_more n m (hardware.Analog i v) le h = tt
hardware_fits_more n m (hardware.Trigger i) le h = tt
hardware_fits_more n m (hardware.Miso u s) le h = span_fits_more n m s le h
hardware_fits_more n m (hardware.SpiFault u) le h = tt
hardware_fits_more n m hardware.Detach le h = tt
hardware_fits_more n m (hardware.Fill c s) le h = span_fits_more n m s le h
hardware_fits_more n m (hardware.Show s) le h = tt

what_fits_more : (n m : ℕ) (w : What) → n ≤ m → WhatFits n w → WhatFits m w
what_fits_more n m (whats.Happened o) le h = hardware_fits_more n m o le h
what_fits_more n m whats.Begun le h = tt
what_fits_more n m (whats.Held c) le h = tt
what_fits_more n m (whats.Stepped l) le h = answer_fits_more n m l.ended le h
what_fits_more n m (whats.Reset r k) le h = tt

pub all_fit_more : (n m : ℕ) (is : List Item) → n ≤ m → AllFit n is → AllFit m is
all_fit_more n m [] le h = tt
all_fit_more n m (i ∷ is) le h = (what_fits_more n m i.what le h.0, all_fit_more n m is le h.1)

pub all_fit_append : (n : ℕ) (is js : List Item) → AllFit n is → AllFit n js → AllFit n (is ++ js)
all_fit_append n [] js h k = k
all_fit_append n (i ∷ is) js h k = (h.0, all_fit_append n is js h.1 k)

-- the stretch that was just kept
pub words_at-last : (words more : List ℕ) (s : Span) → s.at ≡ length words → s.count ≡ length more → words_at (words ++ more) s ≡ more
words_at-last words more s e f = rw (e, f) (grind (arith, common_steps))
