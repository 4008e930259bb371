-- What the tactics leave open of `bits::pack_bytes`.
use Rattle.std.proofs.Common.{ℕ, List, ◌≡◌, ◌<◌, ◌≤◌, ◌++◌, length, take, drop, get_or, sym, ap, ◌∙◌, arith, append-nil, length-take, drop_of_length-le, take_all}
use Rattle.bits.specs.Bits.{bytes}
use Rattle.bits.proofs.Copy.{front_next}
use Rattle.bits.proofs.Packing.{bytes-at, length-bytes}
use Rattle.bits.proofs.pack_bytes.Goals as goal

pub loop-i-preserved : goal.loop-i-preserved
loop-i-preserved c =
    let a = c.args in
    let i : ℕ = c.loop-i.i in
    let x : List ℕ = a.bits.now in
    let o : List ℕ = take a.n a.out.now in
    let below : i < a.n = omega (arith, length-take a.n a.out.now) in
    let b : c.whole_byte.result ≡ get_or (bytes a.n x) i 0 = c.whole_byte.ensures ∙ sym (bytes-at a.n i x below) in
    rw (c.loop-i.invariant, b) (front_next o (bytes a.n x) i (omega arith) (omega (arith, length-bytes a.n x)))

pub returns : goal.returns
returns c =
    let a = c.args in
    let i : ℕ = c.loop-i.i in
    let o : List ℕ = take a.n a.out.now in
    let all : length o ≤ i = omega arith in
    let size : length (bytes a.n a.bits.now) ≤ i = omega (arith, length-bytes a.n a.bits.now, length-take a.n a.out.now) in
    let whole : take i (bytes a.n a.bits.now) ≡ bytes a.n a.bits.now = take_all i (bytes a.n a.bits.now) size in
    ap (λ (s : List ℕ). s ++ drop a.n a.out.now)
    (c.loop-i.invariant ∙ rw (whole, drop_of_length-le o all) (append-nil (bytes a.n a.bits.now)))
