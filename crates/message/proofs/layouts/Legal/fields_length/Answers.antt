-- By its definition; the sum is small.
use Rattle.std.proofs.Common.{ℕ, ◌≡◌, ◌+◌, ◌*◌, ◌≤◌, refl, arith}
use Rattle.message.specs.Layout.{block_bits, string_bits}
use Rattle.message.specs.Message.{width, fields_length}
use Rattle.message.specs.declared.layouts.Legal.{Legal}
use Rattle.message.proofs.Legal.{Sizes, legal_bounds, sizes}
use Rattle.message.proofs.Longest.{fields-high}
use Rattle.message.proofs.layouts.Legal.fields_length.Goals as goal

-- the sizes of the legal layout
within : (l : Legal) → Sizes l.layout
within l = sizes l.layout (legal_bounds l.layout l.is_legal)

-- what is added up is the length, and that is small
whole : (k : Legal) (b s : ℕ) → b ≡ width (block_bits k.layout) → s ≡ width (string_bits k.layout) → let l = k.layout in
    (l.l1 * b + l.l2 * s + l.r * l.nc ≡ fields_length l) × (fields_length l ≤ 1160)
unfolding fields_length
whole k b s e f = (rw (e, f) refl, fields-high k.layout k.is_legal)

pub overflow_mul-l2 : goal.overflow_mul-l2
overflow_mul-l2 c = omega (arith, (within c.args.self).block)

pub width-block-requires : goal.width-block-requires
width-block-requires c = (within c.args.self).block

pub overflow_mul-nc : goal.overflow_mul-nc
overflow_mul-nc c = omega (arith, (within c.args.self).string)

pub width-string-requires : goal.width-string-requires
width-string-requires c = (within c.args.self).string

pub overflow_mul-result : goal.overflow_mul-result
overflow_mul-result c =
    omega (arith, whole c.args.self c.width-block.result c.width-string.result c.width-block.ensures c.width-string.ensures)

pub overflow_mul-result-2 : goal.overflow_mul-result-2
overflow_mul-result-2 c =
    omega (arith, whole c.args.self c.width-block.result c.width-string.result c.width-block.ensures c.width-string.ensures)

pub overflow_add-result : goal.overflow_add-result
overflow_add-result c =
    omega (arith, whole c.args.self c.width-block.result c.width-string.result c.width-block.ensures c.width-string.ensures)

pub overflow_mul-result-3 : goal.overflow_mul-result-3
overflow_mul-result-3 c =
    omega (arith, whole c.args.self c.width-block.result c.width-string.result c.width-block.ensures c.width-string.ensures)

pub overflow_add-result-2 : goal.overflow_add-result-2
overflow_add-result-2 c =
    omega (arith, whole c.args.self c.width-block.result c.width-string.result c.width-block.ensures c.width-string.ensures)

pub returns : goal.returns
returns c =
    (whole c.args.self c.width-block.result c.width-string.result c.width-block.ensures c.width-string.ensures).0
