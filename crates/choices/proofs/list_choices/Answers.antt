-- `choices::list_choices` meets its contract. Rests on Listing.antt. Assumes nothing.
use Rattle.std.proofs.Common.{◌≡◌, ◌+◌, ◌<◌, length, get_or, set, length-set, get_or-set_same, ◌∙◌, arith}
use Rattle.states.specs.States.{stride, each}
use Rattle.choices.proofs.Listing.{blocks-next, adds_low}
use Rattle.choices.proofs.list_choices.Goals as goal

pub list_block-requires : goal.list_block-requires
list_block-requires c =
    let own = adds_low c.requires.1.0 c.loop-b.b c.loop-b-test.true in
    let few = c.requires.0.0.few in
    (c.requires.0, (c.loop-b-test.true, (own, omega (arith, c.requires.1.1, c.loop-b.invariant.few, few))))

pub loop-b-preserved : goal.loop-b-preserved
loop-b-preserved c =
    let a = c.args in
    let v = c.loop-b in
    let i = v.invariant in
    let e = c.list_block.ensures in
    let r = c.list_block.result in
    let f = c.requires.1.0 in
    let one = f.shaped.counts v.b (omega (arith, c.loop-b-test.true, f.blocks)) in
    let long : v.b + 1 < length v.from = omega (arith, i.parts, c.requires.0.0.few) in
    let last : get_or (set v.from (v.b + 1) r) (v.b + 1) 0 ≡ r = get_or-set_same v.from (v.b + 1) r 0 long in
    record {
      parts = length-set v.from (v.b + 1) r ∙ i.parts;
      few = omega (arith, last, e.0.1, i.few);
      listed = blocks-next (each a.left) (stride (each a.shape.size)) v.from v.b long i.listed e.0.0 (rw one at e.1);
    }
