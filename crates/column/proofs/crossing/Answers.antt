-- `column::crossing` meets its contract: a row that crosses the column passes each test, and where its chunks lost no
-- bit they are as they are read. Assumes nothing.
use Rattle.std.proofs.Common.{ℕ, ◌≤◌, sym, ◌∙◌, length, arith}
use Rattle.std.proofs.lemmas.Bool.{false≢true}
use borrow.Author.Tests.{not-false}
use Rattle.message.proofs.Legal.{legal_bounds}
use Rattle.states.specs.States.{each}
use Rattle.weigh.specs.Weigh.{brought}
use Rattle.column.specs.Column.{value_at, Placed}
use Rattle.column.proofs.Rows.{StringLow, string_low, known-low}
use Rattle.column.proofs.Rows.{crosses-can, crosses_as_read, crosses-brings}
use Rattle.column.proofs.crossing.Goals as goal
use Rattle.column.proofs.crossing.Goals.{Else-not-found}

-- where the chunks are found, they are placed
placed : (c : Else-not-found) → let a = c.args in
    Placed a.l (length a.y.now) a.heavy a.j (each a.left) (each a.next) c.find_chunks-found.result.chunks
placed c = c.find_chunks-found.ensures.1 (not-false _ c.if-not-found.false)

-- the sum of its chunk-string is small
low : (c : Else-not-found) → let a = c.args in StringLow a.l a.numbers.now a.j
low c = string_low c.requires.0 c.args.j c.requires.1.1.0

pub overflow_mul-modulus : goal.overflow_mul-modulus
overflow_mul-modulus c = omega (arith, (low (goal.at.overflow_mul-modulus c).Else-not-found).modulus)

pub overflow_add-modulus : goal.overflow_add-modulus
overflow_add-modulus c = omega (arith, (low (goal.at.overflow_add-modulus c).Else-not-found).modulus)

pub missing-need-requires : goal.missing-need-requires
missing-need-requires c =
    let b = low (goal.at.missing-need-requires c).Else-not-found in
    (omega (arith, b.sum, c.from.ensures), omega (arith, b.modulus))

pub can_bring-requires : goal.can_bring-requires
can_bring-requires c =
    let e = (goal.at.can_bring-requires c).Else-not-found in
    let f = c.requires.0 in
    let few : c.find_chunks-found.result.chunks.n ≤ 6 = omega (arith, f.few, (placed e).count) in (
      ((legal_bounds c.args.l f.allowed).nc_high, (omega arith, omega (arith, (low e).modulus))),
      (f.bits, (f.short, (c.requires.1.0, (few, c.missing-need.ensures.0)))),
    )

pub returns-then-not-can_bring : goal.returns-then-not-can_bring
returns-then-not-can_bring c =
    let a = c.args in
    let chunks = c.find_chunks-found.result.chunks in (
      λ row vs light x.
          let v : ℕ → ℕ = value_at a.l a.heavy vs a.j in
          let p = placed (goal.at.returns-then-not-can_bring c).Else-not-found in
          let j = c.requires.1.1.0 in
          let known = known-low a.l a.heavy row a.known.now a.j light j in
          let brings = crosses-brings x c.requires.0 j a.known.now light chunks.n chunks.block p.count p.blocks in
          let need = (rw (c.from.ensures, c.from-2.ensures) at c.missing-need.ensures.1) (brought a.l.nc chunks.block v chunks.n) known brings in
          let o = c.can_bring.ensures v (crosses-can x p) need in
          absurd (false≢true (sym c.if-not-can_bring.true ∙ o)),
      omega arith,
    )

pub returns : goal.returns
returns c = (
  λ row vs light x. c.others.ensures.0 vs (crosses_as_read x (placed (goal.at.returns c).Else-not-found)),
  c.others.ensures.1,
)
