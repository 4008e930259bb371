-- What the block sums answer, and what the chunk-string sums answer.
use Rattle.std.proofs.Common.{List, ℕ, ◌≡◌, ◌∙◌, ◌+◌, ◌*◌, refl, ap, sym, length, drop, arith}
use mathlib.Core.Path.{ap₂}
use Rattle.message.specs.Layout.{block_bits, string_bits}
use Rattle.message.specs.Message.{width, message_bytes}
use Rattle.message.specs.Read.{body, fields, read_block_sums, read_string_sums, some_above}
use Rattle.message.specs.declared.Layout.{Layout}
use Rattle.bits.specs.Bits.{unpack}
use Rattle.message.specs.declared.layouts.Legal.{Legal}
use Rattle.message.proofs.Legal.{Sizes, sizes, legal_bounds}
use Rattle.message.proofs.Longest.{Rest, after-head}
use Rattle.message.proofs.Numbers.{after-head-bits}
use Rattle.message.proofs.reading.sum_high.Goals as goal

-- what stands after the head, and the sizes of the legal layout
rest : (l : Legal) (s : List ℕ) → length s ≡ message_bytes l.layout → Rest l.layout s
rest l s e = after-head l.layout s l.is_legal e

within : (l : Legal) → Sizes l.layout
within l = sizes l.layout (legal_bounds l.layout l.is_legal)

pub overflow_mul-l2 : goal.overflow_mul-l2
overflow_mul-l2 c = omega (arith, (within c.args.l).block)

pub width-block-requires : goal.width-block-requires
width-block-requires c = (within c.args.l).block

pub overflow_mul-l2-2 : goal.overflow_mul-l2-2
overflow_mul-l2-2 c = omega (arith, (within c.args.l).block)

pub some_above-requires : goal.some_above-requires
some_above-requires c =
    let t = rest c.args.l c.args.s.now c.requires in
    let size = ap (λ (k : ℕ). c.args.l.layout.l1 * k) c.width-block.ensures in (
      (omega (arith, c.width-block.ensures, t.block_width), omega (arith, t.long)),
      (omega (arith, t.few, t.whole), omega (arith, size, t.block_fields, t.whole)),
    )

-- what the block sums answer
block_answer : (l : Layout) (s : List ℕ) (k : ℕ) → k ≡ width (block_bits l)
    → some_above (block_bits l) (fields l.l1 k (drop 72 (unpack s))) ≡ some_above (block_bits l) (read_block_sums l s)
unfolding read_block_sums
block_answer l s k e =
    ap₂ (λ (k : ℕ) (x : List ℕ). some_above (block_bits l) (fields l.l1 k x)) e (after-head-bits l s 0 72 refl)

-- what the chunk-string sums answer
string_answer : (l : Layout) (s : List ℕ) (b k : ℕ) → b ≡ width (block_bits l) → k ≡ width (string_bits l)
    → some_above (string_bits l) (fields l.l2 k (drop (72 + l.l1 * b) (unpack s)))
    ≡ some_above (string_bits l) (read_string_sums l s)
unfolding read_string_sums
string_answer l s b k e f =
    ap₂ (λ (k : ℕ) (x : List ℕ). some_above (string_bits l) (fields l.l2 k x)) f
    (after-head-bits l s (l.l1 * b) (72 + l.l1 * b) refl ∙ ap (λ (k : ℕ). drop (l.l1 * k) (body s)) e)

pub returns-then-some_above : goal.returns-then-some_above
returns-then-some_above c =
    let e = c.if-some_above.ensures ∙ block_answer c.args.l.layout c.args.s.now c.width-block.result c.width-block.ensures in
    rw (sym e) refl

pub overflow_mul-nc : goal.overflow_mul-nc
overflow_mul-nc c = omega (arith, (within c.args.l).string)

pub width-string-requires : goal.width-string-requires
width-string-requires c = (within c.args.l).string

pub overflow_mul-l1 : goal.overflow_mul-l1
overflow_mul-l1 c =
    let t = rest c.args.l c.args.s.now c.requires in
    omega (arith, ap (λ (k : ℕ). c.args.l.layout.l1 * k) c.width-block.ensures, t.block_fields, t.few)

pub overflow_add-l1 : goal.overflow_add-l1
overflow_add-l1 c =
    let t = rest c.args.l c.args.s.now c.requires in
    omega (arith, ap (λ (k : ℕ). c.args.l.layout.l1 * k) c.width-block.ensures, t.block_fields, t.few)

pub overflow_mul-nc-2 : goal.overflow_mul-nc-2
overflow_mul-nc-2 c = omega (arith, (within c.args.l).string)

pub some_above-requires-2 : goal.some_above-requires-2
some_above-requires-2 c =
    let y = c.args.l.layout in
    let t = rest c.args.l c.args.s.now c.requires in
    let blocks = ap (λ (k : ℕ). y.l1 * k) c.width-block.ensures in
    let strings = ap (λ (k : ℕ). y.l2 * k) c.width-string.ensures in (
      (omega (arith, c.width-string.ensures, t.string_width), omega (arith, t.long)),
      (omega (arith, t.few, t.whole), omega (arith, blocks, strings, t.string_fields, t.whole)),
    )

pub returns : goal.returns
returns c =
    let y = c.args.l.layout in
    let s : List ℕ = c.args.s.now in
    let e = c.if-some_above.ensures ∙ block_answer y s c.width-block.result c.width-block.ensures in
    rw (sym e)
    (c.some_above-2.ensures
    ∙ string_answer y s c.width-block.result c.width-string.result c.width-block.ensures c.width-string.ensures)
