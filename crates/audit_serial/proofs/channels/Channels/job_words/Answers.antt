use Rattle.audit_serial.proofs.Terms.{ap, append-nil, append_assoc, arith, at, channel_of, channel_words, drop, drop_all, drop_more, flat_map, get_or, JobWord, List, map, sym, word_as, ℕ, ◌++◌, ◌+◌, ◌∙◌}
use Rattle.audit_serial.proofs.channels.Channels.job_words.Goals as goal

pub loop-number-init : goal.loop-number-init
loop-number-init c = ap (λ xs. map word_as xs ++ flat_map (λ k. channel_words k (channel_of c.args.table.now k) (at c.args.self.now k)) c.channels_listed-number-items.result.now) c.new-words.ensures.items

pub loop-number-preserved : goal.loop-number-preserved
loop-number-preserved c =
    let k = c.loop-number.number-index in
    let cs = c.channels_listed-number-items.result.now in
    let f : ℕ → List JobWord = λ k. channel_words k (channel_of c.args.table.now k) (at c.args.self.now k) in
    let n = get_or cs k 0 in
    let old = map word_as c.loop-number.words.items in
    let new = c.in_ok-push_to.ensures ∙ ap (λ o. old ++ channel_words n o (at c.args.self.now n)) c.channel.ensures in
    ap (λ zs. zs ++ flat_map f (drop (k + 1) cs)) new
    ∙ (append_assoc old (f n) (flat_map f (drop (k + 1) cs))
    ∙ (sym (ap (λ zs. old ++ flat_map f zs) (drop_more cs k 0 (omega arith))) ∙ c.loop-number.invariant))

pub returns : goal.returns
returns c =
    let k = c.loop-number.number-index in
    let cs = c.channels_listed-number-items.result.now in
    let f : ℕ → List JobWord = λ k. channel_words k (channel_of c.args.table.now k) (at c.args.self.now k) in
    let old = map word_as c.loop-number.words.items in
    sym (ap (λ zs. old ++ flat_map f zs) (drop_all k cs (omega arith)) ∙ append-nil old)
    ∙ (c.loop-number.invariant ∙ ap (flat_map f) (c.channels_listed-number-items.ensures ∙ c.channel_list-list.ensures))
