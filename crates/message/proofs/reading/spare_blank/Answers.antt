use Rattle.std.proofs.Common.{List, ℕ, ◌≡◌, ◌∙◌, refl, sym, length, drop, arith}
use borrow.Author.Rules.{part_to_end}
use Rattle.bits.specs.Bits.{unpack, blank}
use Rattle.bits.proofs.Packing.{fits_by}
use Rattle.message.specs.Message.{fields_length, message_bytes}
use Rattle.message.specs.Read.{body}
use Rattle.message.specs.declared.layouts.Legal.{Legal}
use Rattle.message.proofs.Longest.{Rest, after-head}
use Rattle.message.proofs.reading.spare_blank.Goals as goal

-- what stands after the head
rest : (l : Legal) (s : List ℕ) → length s ≡ message_bytes l.layout → Rest l.layout s
rest l s e = after-head l.layout s l.is_legal e

pub slice_bounds-fits-count : goal.slice_bounds-fits-count
slice_bounds-fits-count c = (rest c.args.l c.args.s.now c.requires).long

pub slice_bounds-fits-start : goal.slice_bounds-fits-start
slice_bounds-fits-start c = (rest c.args.l c.args.s.now c.requires).long

pub fits-requires : goal.fits-requires
fits-requires c = omega (arith, (rest c.args.l c.args.s.now c.requires).low, c.fields_length.ensures)

pub returns : goal.returns
unfolding body
returns c =
    let a = c.args in
    let n : ℕ = fields_length a.l.layout in
    let d : List ℕ = drop 9 a.s.now in
    c.fits.ensures
    ∙ rw (part_to_end a.s.now 9, c.fields_length.ensures)
    (sym (fits_by n d (blank (drop n (unpack d))) (rest a.l a.s.now c.requires).bytes refl))
