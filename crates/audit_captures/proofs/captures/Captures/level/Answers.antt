use Rattle.std.proofs.Common.{◌≡◌, ℕ, ap, subst, sym, ◌∙◌, refl, Bool, true, false, not}
use Rattle.std.specs.Prelude.{if◌then◌else◌}
use Rattle.module_machines.specs.icu.Edges.{is_same}
use Rattle.module_machines.specs.icu.Machine.{IcuState, by_channel, capture_at, edge_at_pin}
use Rattle.module_machines.specs.icu.Table.{channel_of}
use Rattle.audit_captures.specs.Stands.{StandsFor}
use Rattle.audit_captures.proofs.captures.Captures.level.Goals as goal

-- what differs isn't the same, and what doesn't is
not_same : (q : Bool) → not q ≡ true → q ≡ false
not_same true e = absurd (cc)
not_same false e = refl

is_same_then : (q : Bool) → not q ≡ false → q ≡ true
is_same_then true e = refl
is_same_then false e = absurd (cc)

pub returns-then-differs-clause-is : goal.returns-then-differs-clause-is
returns-then-differs-clause-is c w s now was h =
    let d = c.args.self.now.driver in
    let later : ℕ → IcuState = λ t. record s { channels = by_channel (λ n. edge_at_pin (channel_of d n) t c.args.pin c.args.high (capture_at s n)) } in
    let same : is_same (w.levels c.args.pin) c.args.high ≡ false = ap (λ b. is_same b c.args.high) was ∙ not_same (is_same c.args.before c.args.high) (sym c.if-differs.ensures) in
    record {
      told = refl;
      wordless = refl;
      kept = subst (λ q. StandsFor c.edge.new.self (if q then s else later w.now)) (sym same) (subst (λ t. StandsFor c.edge.new.self (later t)) (sym now) (c.edge.ensures.is s h));
    }

pub returns-else-differs-clause-is : goal.returns-else-differs-clause-is
returns-else-differs-clause-is c w s now was h =
    let d = c.args.self.now.driver in
    let later : ℕ → IcuState = λ t. record s { channels = by_channel (λ n. edge_at_pin (channel_of d n) t c.args.pin c.args.high (capture_at s n)) } in
    let same : is_same (w.levels c.args.pin) c.args.high ≡ true = ap (λ b. is_same b c.args.high) was ∙ is_same_then (is_same c.args.before c.args.high) (sym c.if-differs.ensures) in
    record { told = refl; wordless = refl; kept = subst (λ q. StandsFor c.args.self.now (if q then s else later w.now)) (sym same) h }
