-- What the tactics leave open of `vt::find_packed`.
use Rattle.std.proofs.Common.{◌*◌, ◌+◌, ◌-◌, ◌≤◌, ℕ, List, length, drop, length-drop, length-take-le, arith}
use Rattle.bits.specs.Bits.{AllBits, unpack}
use Rattle.bits.proofs.Laws.{bits-take, bits-drop, bits-unpack}
use Rattle.bits.proofs.Packing.{fits-length}
use Rattle.vt.proofs.Weighing.{part_length, part_lent, part_ones}
use Rattle.vt.proofs.find_packed.Goals as goal

pub slice_bounds-unpack-count : goal.slice_bounds-unpack-count
slice_bounds-unpack-count c = omega (arith, fits-length c.args.n c.args.s.now c.requires.0.0)

pub slice_bounds-unpack-start : goal.slice_bounds-unpack-start
slice_bounds-unpack-start c = omega (arith, fits-length c.args.n c.args.s.now c.requires.0.0)

pub unpack-requires : goal.unpack-requires
unpack-requires c =
    let s : List ℕ = c.args.s.now in
    let q = c.find_part-part.result in
    let l = length-take-le (length s - q.byte) (drop q.byte s) (omega (arith, length-drop q.byte s)) in
    (omega (arith, l, fits-length c.args.n s c.requires.0.0), c.find_part-part.ensures.small)

pub find_place-p-requires : goal.find_place-p-requires
find_place-p-requires c =
    let q = c.find_part-part.result in
    let e = c.find_part-part.ensures in
    let s : List ℕ = c.args.s.now in
    let x : List ℕ = drop (q.byte * 8) (unpack s) in
    let fit : q.byte * 8 + q.size ≤ length s * 8 = omega (arith, fits-length c.args.n s c.requires.0.0) in
    let l = part_length s q.byte q.size fit in
    let b : AllBits x = bits-drop (q.byte * 8) (unpack s) (bits-unpack s) in
    rw (part_lent s q.byte q.size fit c.unpack.new.out _ c.unpack.ensures, l) (
      ((bits-take q.size x b, omega arith), (omega arith, omega arith)),
      (e.counted, (e.low, e.reach)),
    )

pub returns : goal.returns
returns c =
    let q = c.find_part-part.result in
    let e = c.find_part-part.ensures in
    let s : List ℕ = c.args.s.now in
    let p = c.find_place-p in
    let fit : q.byte * 8 + q.size ≤ length s * 8 = omega (arith, fits-length c.args.n s c.requires.0.0) in
    let l = part_length s q.byte q.size fit in
    let k = rw (part_lent s q.byte q.size fit c.unpack.new.out _ c.unpack.ensures) at p.ensures in
    let h : p.result.at ≤ q.size = omega (arith, k.0.0, l) in (
      (omega (arith, e.inside), k.0.1),
      omega (arith, k.1, part_ones s q.byte q.size fit p.result.at h, e.rest),
    )
