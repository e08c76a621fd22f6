use Rattle.std.proofs.Common.{◌<◌, [], ◌∷◌, arith, length, length-append, ap}
use Rattle.run_model.specs.declared.item.What.{What}
use Rattle.run_model.specs.Packing.{step_item}
use Rattle.run_model.proofs.Numbers.{item_with, length-items_of, numbered_next, items_next}
use Rattle.run_model.proofs.items.Items.push_step.Goals as goal

pub pack_step-what-requires : goal.pack_step-what-requires
pack_step-what-requires c =
    let room : length c.self.inside.kept.items < c.self.inside.room = rw length-items_of at (rw (← c.self.view_is) at c.requires) in
    omega (arith, room, c.self.inside.kept.ok.0, c.self.invariant.2, c.self.invariant.3)

pub push_reserved-requires : goal.push_reserved-requires
push_reserved-requires c =
    let room : length c.self.inside.kept.items < c.self.inside.room = rw length-items_of at (rw (← c.self.view_is) at c.requires) in
    omega (arith, room, c.self.inside.kept.ok.0, c.self.invariant.1)

pub invariant_of-self : goal.invariant_of-self
invariant_of-self c =
    let room : length c.self.inside.kept.items < c.self.inside.room = rw length-items_of at (rw (← c.self.view_is) at c.requires) in
    let added = length-append c.self.inside.rests.rests (c.args.rest ∷ []) in
    let next = rw c.pack_step-what.ensures.rests at c.pack_step-what.ensures.numbered in
    rw (c.pack_step-what.ensures.rests, c.push_reserved.ensures.items, c.push_reserved.ensures.len, c.push_reserved.ensures.capacity) (
      omega (arith, room, c.self.inside.kept.ok.0),
      c.self.invariant.1,
      omega (arith, added, c.self.invariant.2),
      c.self.invariant.3,
      numbered_next c.self.inside.rests.rests (c.args.rest ∷ []) c.self.inside.kept.items _ c.self.invariant.4 next,
    )

pub returns : goal.returns
returns c =
    let same = rw c.pack_step-what.ensures.rests at c.pack_step-what.ensures.same in
    let item = step_item c.args.line c.args.depth c.args.made c.args.rest in
    rw (c.pack_step-what.ensures.rests, c.push_reserved.ensures.items, ← c.self.view_is)
    (ap (λ is. record { items = is; room = c.self.inside.room })
    (items_next c.self.inside.rests.rests (c.args.rest ∷ []) c.self.inside.kept.items _ item c.self.invariant.4 (ap (λ (w : What). item_with c.args.line c.args.depth w) same)))
