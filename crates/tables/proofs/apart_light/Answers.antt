use Rattle.std.proofs.Common.{◌≡◌, ℕ, ◌+◌, ◌*◌, ◌<◌, ◌≤◌, true, arith}
use Rattle.bits.specs.Bits.{most_chunks}
use Rattle.message.specs.Layout.{legal}
use Rattle.message.specs.declared.Layout.{Layout}
use Rattle.message.proofs.Fields.{field_room}
use Rattle.message.proofs.Legal.{legal_bounds, sizes}
use Rattle.tables.proofs.Light.{counted_none, counted_heavy, counted-light, counted-all}
use Rattle.tables.proofs.apart_light.Goals as goal
use Rattle.tables.proofs.apart_light.Goals.{else-is_heavy, then-is_heavy}

-- the blocks passed and the one that is looked at stand among the chunks of the layout, which are not too many
room : (l : Layout) → legal l ≡ true → (i : ℕ) → i < l.l1 → (i * l.l2 + l.l2 ≤ l.l1 * l.l2) × (l.l1 * l.l2 ≤ most_chunks)
room l legal-l i h = (field_room l.l1 l.l2 i h, (sizes l (legal_bounds l legal-l)).chunks)

pub loop-i-init : goal.loop-i-init
loop-i-init c = counted_none c.args.l c.args.heavy c.args.row.now c.args.z.now c.requires.1.0

pub loop-i-preserved : goal.loop-i-preserved
loop-i-preserved c =
    let a = c.args in
    let p = c.loop-i in
    let less = c.loop-i-test.true in
    let q = c.is_heavy.ensures in
    elim c.if-is_heavy.branch [
      | then-is_heavy w ↦ let e = q.0 w.if-is_heavy.true in
          rw (w.count-is, w.h-is)
          (counted_heavy a.l a.heavy a.row.now a.z.now c.requires.1.0 p.count p.h p.i p.invariant less e.0 e.1)
      | else-is_heavy w ↦ let n = w.count_unlike-count.ensures in
          rw (w.count-is, w.h-is)
          (counted-light a.l a.heavy a.row.now a.z.now c.requires.1.0 p.count p.h p.i p.invariant less
          (q.1 w.if-is_heavy.false) w.count_unlike-count.result n.1 n.0)
    ]

pub returns : goal.returns
returns c =
    let a = c.args in
    let p = c.loop-i in
    let all = (sizes a.l (legal_bounds a.l c.requires.0)).chunks in
    let done : p.i ≡ a.l.l1 = omega (arith, p.invariant.blocks) in
    let low : p.count ≤ a.l.l1 * a.l.l2 = rw done at p.invariant.low in (
      counted-all a.l a.heavy a.row.now a.z.now c.requires.1.0 p.count p.h p.i p.invariant (omega (arith, done)),
      omega (arith, low, all),
    )
