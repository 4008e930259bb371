-- What is missing of the checks is what the erased chunks bring, and only their contents bring it.
use Rattle.std.proofs.Common.{◌≡◌, true, ℕ, ◌+◌, ◌*◌, ◌^◌, ◌<◌, ◌≤◌, List, length, get_or, replicate, arith, rules, length-take}
use Rattle.std.proofs.Math.Pow.{pow_pos}
use Rattle.bits.proofs.Laws.{zeros-at}
use Rattle.field.proofs.Double.{size-high}
use Rattle.message.specs.Layout.{legal}
use Rattle.message.specs.declared.Layout.{Layout}
use Rattle.message.proofs.Legal.{legal_bounds}
use Rattle.erasures.specs.Erasures.{Places}
use Rattle.recover.specs.Recover.{Spots}
use Rattle.recover.proofs.Recovered.{reduced_at, reduced_elements, solved}
use Rattle.recover.proofs.Spots.{few-chunks, put_same}
use Rattle.recover.proofs.recover.Goals as goal

-- there are checks, so the chunks are no more than the places of the field
few : (l : Layout) → legal l ≡ true → 0 < l.r → (l.l1 * l.l2 + 1 ≤ 2 ^ l.nc) × (2 ^ l.nc ≤ 256)
few l e h = (omega (arith, few-chunks l e h, pow_pos l.nc), size-high l.nc (legal_bounds l e).nc_high)

places : (nc n size : ℕ) (ps : List ℕ) → Spots n size ps → size + 1 ≤ 2 ^ nc → Places nc n (λ w. get_or ps w 0)
places nc n size ps p h = record { low = λ w g. omega (arith, p.inside w g); apart = p.apart }

pub fill_logs-requires : goal.fill_logs-requires
fill_logs-requires c =
    let l = c.args.l in
    let b = legal_bounds l c.requires.0 in
    (c.table-t.ensures, b.nc_low, b.nc_high, (few l c.requires.0 (omega arith)).1)

pub reduce-requires : goal.reduce-requires
reduce-requires c =
    let l = c.args.l in
    let b = legal_bounds l c.requires.0 in
    ((b.nc_low, b.nc_high), omega (arith, length-take (l.l1 * l.l2) c.put.new.row, few l c.requires.0 (omega arith)))

pub slice_bounds-base-end : goal.slice_bounds-base-end
slice_bounds-base-end c =
    let long : length c.reduce.new.out ≡ 255 = search rules in
    omega (arith, few c.args.l c.requires.0 (omega arith))

pub slice_bounds-missing-end-2 : goal.slice_bounds-missing-end-2
slice_bounds-missing-end-2 c =
    let l = c.args.l in
    let long : length c.reduce.new.out ≡ 255 = search rules in
    omega (arith, length-take (l.l1 * l.l2) c.reduce.new.out, few l c.requires.0 (omega arith))

pub missing-s-requires : goal.missing-s-requires
missing-s-requires c =
    let l = c.args.l in
    let low = length-take (l.l1 * l.l2) c.reduce.new.out in (
      (c.requires.0, c.requires.1.1.0.1.1),
      (
        (c.table-t.ensures, c.fill_logs.ensures.1, c.requires.1.0),
        (
          reduced_elements l.nc (l.l1 * l.l2) c.put.new.row c.reduce.new.out
              (omega (arith, c.put.auto.row)) c.reduce.ensures,
          omega (arith, low, few l c.requires.0 (omega arith)),
        ),
      ),
    )

pub solve-contents-requires : goal.solve-contents-requires
solve-contents-requires c =
    let l = c.args.l in
    let b = legal_bounds l c.requires.0 in (
      (c.table-t.ensures, b.nc_low, b.nc_high, c.fill_logs.ensures.1),
      (
        omega arith,
        c.requires.1.1.0.0,
        places l.nc c.args.e.n (l.l1 * l.l2) c.args.e.places c.requires.1.1.1.0 (few l c.requires.0 (omega arith)).0,
        c.missing-s.ensures.0,
      ),
    )

pub returns : goal.returns
returns c =
    let a = c.args in
    let n : ℕ = a.l.l1 * a.l.l2 in
    let base = c.reduce.new.out in
    let long : length base ≡ 255 = search rules in (
      put_same c.put.ensures c.put-2.ensures,
      λ cells collected y x given sent under.
          solved a.l a.numbers.now y x a.row.now cells a.e.n a.e.places given sent under collected
          (replicate 12 0) c.put.new.row base (omega (arith, few a.l c.requires.0 (omega arith))) (zeros-at 12) c.put.ensures
          (reduced_at a.l.nc n c.put.new.row base (omega (arith, c.put.auto.row)) c.reduce.ensures)
          c.missing-s.result c.solve-contents.result c.put-2.new.row c.requires.1.1.0.1.1
          c.missing-s.ensures.1 c.solve-contents.ensures.1 c.put-2.ensures,
    )
