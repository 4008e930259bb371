-- What the tactics leave open of `bits::Filler::end`.
use Rattle.std.proofs.Common.{◌≡◌, ◌+◌, ◌-◌, ◌*◌, ◌^◌, ◌<◌, ℕ, List, take, arith, shl_lt, rules, Fits, w8, get_or}
use Rattle.bits.specs.Bits.{AllBytes}
use Rattle.bits.proofs.Filling.{end_whole, end_part}
use Rattle.bits.proofs.Packing.{bytes_of_each, bytes_take, bytes_snoc}
use Rattle.bits.proofs.Filler.end.Goals as goal

-- the last bits as a byte
byte_low : (count held : ℕ) → count < 8 → held < 2 ^ count → held * 2 ^ (8 - count) < 256
byte_low count held h k =
    let n : count + (8 - count) ≡ 8 = omega arith in
    rw n at (shl_lt count (8 - count) k)

pub overflow_cast-out : goal.overflow_cast-out
overflow_cast-out c =
    let f = c.args.self in
    record { fits = rw c.power.ensures (byte_low f.count f.held c.requires.0.0 c.requires.0.1) }

pub returns-then-count-gt0 : goal.returns-then-count-gt0
returns-then-count-gt0 c =
    let f = c.args.self in
    let o : List ℕ = c.args.out.now in
    let each : AllBytes o = bytes_of_each o (λ j. let f : Fits w8 (get_or o j 0) = search rules in f.fits) in
    let last : f.held * 2 ^ (8 - f.count) < 256 = byte_low f.count f.held c.requires.0.0 c.requires.0.1 in
    rw c.power.ensures
    (end_part o f.at f.count f.held
    (bytes_snoc (take f.at o) (f.held * 2 ^ (8 - f.count)) (bytes_take f.at o each) last) (omega arith)
    (omega arith) c.requires.0.0)

pub returns-else-count-gt0 : goal.returns-else-count-gt0
returns-else-count-gt0 c =
    let f = c.args.self in
    let o : List ℕ = c.args.out.now in
    let each : AllBytes o = bytes_of_each o (λ j. omega (arith, c.type_inv.out j)) in
    let none : f.count ≡ 0 = omega arith in
    rw none (end_whole o f.at f.held (bytes_take f.at o each) (omega arith))
