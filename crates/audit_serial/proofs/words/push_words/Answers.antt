use Rattle.audit_serial.proofs.Terms.{ap, append-nil, arith, drop, goes_as, map, map_push, next_word, no_further, one_stored, refl, sent, sym, word_as, words_from_place, ◌++◌, ◌+◌, ◌∙◌, ◌∷◌}
use Rattle.audit_serial.proofs.words.push_words.Goals as goal

pub loop-place-init : goal.loop-place-init
loop-place-init c = refl

pub loop-place-preserved : goal.loop-place-preserved
loop-place-preserved c =
    let k = c.loop-place.place in
    let vs = c.args.values.now in
    let ch = c.args.channel in
    let w = c.args.width in
    let goes = goes_as c.args.goes in
    let xs = map word_as c.loop-place.words.items in
    let word = word_as (record { channel = ch; place = k; width = w; sent = c.masked-sent.result; goes = c.args.goes }) in
    one_stored xs (map word_as c.push.new.self.items) (words_from_place ch w goes (k + 1) (drop (k + 1) vs)) _ word
    (ap (map word_as) c.in_ok-push.ensures.items ∙ map_push word_as c.loop-place.words.items _)
    (sym c.loop-place.invariant
    ∙ (ap (λ zs. xs ++ zs) (next_word ch w goes k vs (omega arith))
    ∙ ap (λ n. xs ++ record { channel = ch; place = k; width = w; sent = n; goes = goes } ∷ words_from_place ch w goes (k + 1) (drop (k + 1) vs)) (sym c.masked-sent.ensures)))

pub returns : goal.returns
returns c =
    let k = c.loop-place.place in
    let xs = map word_as c.loop-place.words.items in
    sym (append-nil xs)
    ∙ (ap (λ zs. xs ++ zs) (sym (no_further c.args.channel c.args.width (goes_as c.args.goes) k c.args.values.now (omega arith))) ∙ c.loop-place.invariant)
