-- The loop's invariant: where no bit differs so far, the first bits are the same.
use Rattle.std.proofs.Common.{◌≡◌, length, take}
use Rattle.consistent.proofs.starts.Given as goal

abbrev pub invariant-loop-a : goal.invariant-loop-a
invariant-loop-a l = l.differ ≡ 0 → take (length l.yielded) l.p ≡ take (length l.yielded) l.y
