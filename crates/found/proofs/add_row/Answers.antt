-- The bits spread from the chunks in hand are the only row with these chunks.
use Rattle.std.proofs.Common.{◌≡◌, ◌+◌, ◌-◌, ◌*◌, ◌∙◌, sym, subst, take, drop, length, arith}
use Rattle.rows.specs.Order.{Row}
use Rattle.message.specs.Layout.{row_bits}
use Rattle.message.proofs.Legal.{legal_bounds, sizes}
use Rattle.lines.specs.Lines.{Inside}
use Rattle.found.proofs.Steps.{grown_weaken}
use Rattle.found.proofs.Row.{front_part, hand_bits, hand-row, hand-only}
use Rattle.found.proofs.add_row.Goals as goal
use Rattle.found.proofs.add_row.Goals.{After-spread}

pub spread-requires : goal.spread-requires
spread-requires c =
    let l = c.args.l in
    let bounds = legal_bounds l c.requires.0.is_legal in
    let size = sizes l bounds in
    let inside : Inside l.nc 0 1 (l.l1 * l.l2) (length c.args.row.now) = record {
      nc_high = bounds.nc_high;
      short = size.row;
      stride-high = omega arith;
      last = omega (arith, size.chunks, c.requires.1.0);
    }
    in
    (inside, omega (arith, size.row))

pub slice_bounds-add_bits-end : goal.slice_bounds-add_bits-end
slice_bounds-add_bits-end c = omega (arith, (sizes c.args.l (legal_bounds c.args.l c.requires.0.is_legal)).row)

-- the bits that are added are those of the chunks in hand
bits_are : (c : After-spread) → take (row_bits c.args.l - 0) c.spread.new.out ≡ hand_bits c.args.l c.args.row.now
bits_are c =
    let a = c.args in
    front_part (hand_bits a.l a.row.now) (drop (0 + row_bits a.l) _) c.spread.new.out (row_bits a.l)
    (hand-row a.l a.row.now).0 c.spread.ensures

pub add_bits-requires : goal.add_bits-requires
add_bits-requires c =
    let a = c.args in
    let row = subst (Row (row_bits a.l)) (sym (bits_are (goal.at.add_bits-requires c).After-spread)) (hand-row a.l a.row.now) in
    (c.requires.0, (row, c.requires.1.1))

pub returns : goal.returns
returns c =
    let a = c.args in
    grown_weaken (λ x sent h. hand-only a.l a.row.now x sent.0 h ∙ sym (bits_are (goal.at.returns c).After-spread)) c.add_bits.ensures
