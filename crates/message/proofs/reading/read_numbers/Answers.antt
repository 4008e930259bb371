use Rattle.std.proofs.Common.{rules, List, ℕ, ◌≡◌, ◌∙◌, ◌+◌, ◌*◌, ◌≤◌, ap, length, take, drop, arith}
use Rattle.message.specs.Message.{message_bytes}
use Rattle.message.specs.declared.layouts.Legal.{Legal}
use Rattle.message.proofs.Legal.{Sizes, sizes, legal_bounds}
use Rattle.message.proofs.Longest.{Rest, after-head}
use Rattle.message.proofs.Numbers.{written}
use lib.Seq.{drop-drop}
use Rattle.message.proofs.reading.read_numbers.Goals as goal
use Rattle.message.proofs.reading.read_numbers.Goals.{After-width-string}

-- what stands after the head, and the sizes of the legal layout
rest : (l : Legal) (s : List ℕ) → length s ≡ message_bytes l.layout → Rest l.layout s
rest l s e = after-head l.layout s l.is_legal e

within : (l : Legal) → Sizes l.layout
within l = sizes l.layout (legal_bounds l.layout l.is_legal)

-- the fields lie within the bits of the message, which are few
places : (c : After-width-string) → let l = c.args.l.layout in
    (72 + (l.l1 * c.width-block.result + l.l2 * c.width-string.result + l.r * l.nc) ≤ length c.args.s.now * 8)
    × (length c.args.s.now ≤ 154)
places c =
    let l = c.args.l.layout in
    let t = rest c.args.l c.args.s.now c.requires.0 in
    let blocks = ap (λ (k : ℕ). l.l1 * k) c.width-block.ensures in
    let strings = ap (λ (k : ℕ). l.l2 * k) c.width-string.ensures in
    (omega (arith, blocks, strings, t.all-fields, t.whole), omega (arith, t.few, t.whole))

pub overflow_mul-l2 : goal.overflow_mul-l2
overflow_mul-l2 c = omega (arith, (within c.args.l).block)

pub width-block-requires : goal.width-block-requires
width-block-requires c = (within c.args.l).block

pub overflow_mul-nc : goal.overflow_mul-nc
overflow_mul-nc c = omega (arith, (within c.args.l).string)

pub width-string-requires : goal.width-string-requires
width-string-requires c = (within c.args.l).string

pub overflow_mul-strings : goal.overflow_mul-strings
overflow_mul-strings c = omega (arith, places (goal.at.overflow_mul-strings c).After-width-string)

pub overflow_add-strings : goal.overflow_add-strings
overflow_add-strings c = omega (arith, places (goal.at.overflow_add-strings c).After-width-string)

pub overflow_mul-checks : goal.overflow_mul-checks
overflow_mul-checks c = omega (arith, places (goal.at.overflow_mul-checks c).After-width-string)

pub overflow_add-checks : goal.overflow_add-checks
overflow_add-checks c = omega (arith, places (goal.at.overflow_add-checks c).After-width-string)

pub read_fields-requires : goal.read_fields-requires
read_fields-requires c =
    let t = rest c.args.l c.args.s.now c.requires.0 in
    let p = places (goal.at.read_fields-requires c).After-width-string in
    let n = c.split_at_mut-block_sums.ensures.front_len in (
      (omega (arith, c.width-block.ensures, t.block_width), omega (arith, t.long)),
      (omega (arith, p.1), rw n (omega (arith, p.0))),
    )

pub read_fields-requires-2 : goal.read_fields-requires-2
read_fields-requires-2 c =
    let t = rest c.args.l c.args.s.now c.requires.0 in
    let p = places (goal.at.read_fields-requires-2 c).After-width-string in
    let n = c.split_at_mut-string_sums.ensures.front_len in (
      (omega (arith, c.width-string.ensures, t.string_width), omega (arith, t.long)),
      (omega (arith, p.1), rw n (omega (arith, p.0))),
    )

pub read_fields-requires-3 : goal.read_fields-requires-3
read_fields-requires-3 c =
    let l = c.args.l in
    let t = rest l c.args.s.now c.requires.0 in
    let p = places (goal.at.read_fields-requires-3 c).After-width-string in
    let n : length (take l.layout.r c.split_at_mut-string_sums.result.1.now) ≡ l.layout.r = search rules in (
      (omega (arith, (legal_bounds l.layout l.is_legal).nc_high), omega (arith, t.long)),
      (omega (arith, p.1), rw n (omega (arith, p.0))),
    )

pub returns : goal.returns
returns c =
    let l = c.args.l.layout in
    let o : List ℕ = c.args.out.now in
    let h = c.split_at_mut-block_sums.ensures in
    let k = c.split_at_mut-string_sums.ensures in
    let n : length (take l.r c.split_at_mut-string_sums.result.1.now) ≡ l.r = search rules in
    let x : drop l.r c.split_at_mut-string_sums.result.1.now ≡ drop (l.l1 + l.l2 + l.r) o =
    rw (k.back, h.back) (ap (drop l.r) (drop-drop l.l2 l.l1 o) ∙ drop-drop l.r (l.l1 + l.l2) o) in
    rw (c.read_fields.ensures, c.read_fields-2.ensures, c.read_fields-3.ensures, h.front_len, k.front_len, n, x)
    (written c.args.l.layout c.args.s.now c.width-block.result c.width-string.result (drop (l.l1 + l.l2 + l.r) o)
    c.width-block.ensures c.width-string.ensures)
