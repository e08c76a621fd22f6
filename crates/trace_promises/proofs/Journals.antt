-- The items of a journal have the numbers of what it holds.
use Rattle.std.proofs.Common.{◌≡◌, ℕ, suc, ◌<◌, ◌≤◌, List, [], ◌∷◌, length, Option, Some, None, take, drop, refl, ap, arith}
use Rattle.std.proofs.lemmas.List.Sums.{count_by-le-length}
use Rattle.run_model.specs.Entry.{Entry, answer_at, order_at, said_at, entry_at, entries}
use Rattle.run_model.specs.Packing.{items_of}
use Rattle.run_model.specs.Stops.{is_step, steps_in}
use Rattle.run_model.specs.declared.item.Hardware.{Hardware}
use Rattle.run_model.specs.declared.item.Hardware.TheVariants as hardware
use Rattle.run_model.specs.declared.item.Item.{Item}
use Rattle.run_model.specs.declared.item.LoggedAnswer.{LoggedAnswer}
use Rattle.run_model.specs.declared.kept.Kept.{Kept}
use Rattle.run_model.specs.declared.kept.Rest.{Rest}
use Rattle.run_model.specs.declared.item.What.{What}
use Rattle.run_model.specs.declared.item.What.TheVariants as whats
use Rattle.bench_report.specs.Numbers.{IsNumber, Each, AnswerFits, HappensFits, SaidFits, EntryFits}
use Rattle.trace_promises.specs.traces.Numbers.{HardwareFits, WhatFits, ItemFits}
use Rattle.trace_promises.proofs.Within.{each_take, each_drop}

answer_fits : (words : List ℕ) (ended : Option LoggedAnswer) → Each IsNumber words → AnswerFits (answer_at words ended)
answer_fits words None w = tt
answer_fits words (Some a) w = each_take IsNumber a.words.count (drop a.words.at words) (each_drop IsNumber a.words.at words w)

happens_fits : (words : List ℕ) (what : Hardware) → HardwareFits what → HappensFits (order_at words what)
happens_fits words (hardware.Tick ticks) h = h
happens_fits words _ h = tt

said_fits : (words : List ℕ) (what : What) → Each IsNumber words → WhatFits what → SaidFits (said_at words what)
said_fits words (whats.Happened what) w h = happens_fits words what h
said_fits words whats.Begun w h = tt
said_fits words (whats.Held cause) w h = tt
said_fits words (whats.Stepped step) w h = (h.0, h.1, h.2, h.3, answer_fits words step.ended w)
said_fits words (whats.Reset reason dropped) w h = h

pub entries_fit : (words : List ℕ) (items : List Item) → Each IsNumber words → Each ItemFits items → Each EntryFits (entries words items)
entries_fit words [] w h = tt
entries_fit words (item ∷ items) w h = ((h.0.0, h.0.1, said_fits words item.what w h.0.2), entries_fit words items w h.1)

-- ---- a journal has no more steps than items

entries_counted : (words : List ℕ) (rests : List Rest) (ks : List Kept) → length (entries words (items_of rests ks)) ≡ length ks
entries_counted words rests [] = refl
entries_counted words rests (k ∷ ks) = ap (λ (n : ℕ). suc n) (entries_counted words rests ks)

fewer : (a b c : ℕ) → a ≤ b → b ≡ c → c < 18446744073709551615 → a < 18446744073709551615
fewer a b c h e k = omega (arith, h, e, k)

pub few_steps : (words : List ℕ) (rests : List Rest) (ks : List Kept) → length ks < 18446744073709551615 → steps_in (entries words (items_of rests ks)) < 18446744073709551615
few_steps words rests ks h =
    let es = entries words (items_of rests ks) in
    fewer (steps_in es) (length es) (length ks) (count_by-le-length (λ (e : Entry). is_step e.said) es) (entries_counted words rests ks) h
