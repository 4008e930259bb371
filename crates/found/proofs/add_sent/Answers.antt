-- The row's bits are packed, and the bytes inserted.
use Rattle.std.proofs.Common.{◌≡◌, ℕ, sym, ◌∙◌, ◌-◌, take, drop, length, arith}
use Rattle.bits.specs.Bits.{bytes_for, pack}
use Rattle.bits.proofs.Packing.{length-pack}
use Rattle.found.proofs.Row.{front_part, row-some, row-short}
use Rattle.found.proofs.Steps.{insert_asks, grown_packed}
use Rattle.found.proofs.add_sent.Goals as goal
use Rattle.found.proofs.add_sent.Goals.{After-pack}

pub pack-requires : goal.pack-requires
pack-requires c =
    let short = row-short c.requires.0 c.args.x.now c.requires.1.0.0 in
    (c.requires.1.0.0.1, (short, omega (arith, short)))

pub slice_bounds-insert-end : goal.slice_bounds-insert-end
slice_bounds-insert-end c = omega (arith, row-short c.requires.0 c.args.x.now c.requires.1.0.0)

-- the bytes that are inserted are the row packed
bytes_are : (c : After-pack) (w : ℕ) → w ≡ bytes_for (length c.args.x.now) → take (w - 0) c.pack.new.out ≡ pack c.args.x.now
bytes_are c w e =
    let x = c.args.x.now in
    front_part (pack x) (drop (bytes_for (length x)) _) c.pack.new.out w (length-pack x ∙ sym e) c.pack.ensures

pub insert-requires : goal.insert-requires
insert-requires c =
    let w : c.div_ceil-w.result ≡ bytes_for (length c.args.x.now) = omega arith in
    insert_asks c.requires.1.1 (row-some c.requires.0) c.args.x.now c.requires.1.0.0 _
    (bytes_are (goal.at.insert-requires c).After-pack _ w)

pub returns : goal.returns
returns c =
    let w : c.div_ceil-w.result ≡ bytes_for (length c.args.x.now) = omega arith in
    grown_packed c.requires.1.1 (row-some c.requires.0) c.args.x.now c.requires.1.0.0 _
    (bytes_are (goal.at.returns c).After-pack _ w) c.requires.1.0 c.insert.ensures
