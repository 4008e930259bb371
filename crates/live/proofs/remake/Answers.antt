-- What the tactics leave open of `live::remake`.
use Rattle.std.proofs.Common.{◌∙◌, arith}
use Rattle.marks.proofs.Marks.{covers_kept}
use Rattle.marks.proofs.Digits.{number-low}
use Rattle.live.proofs.Columns.{remaking_next}
use Rattle.live.proofs.remake.Goals as goal

-- the fresh marks gain by the state p
pub loop-p-preserved : goal.loop-p-preserved
loop-p-preserved c =
    let a = c.args in
    let p = c.requires.1.1 in
    let f = c.spread.ensures in
    let was = c.loop-p.invariant in
    record {
      long = f.long ∙ was.long;
      remaking = remaking_next a.l a.y.now a.numbers.now a.heavy a.known.now a.z.now a.shape a.j a.ahead a.at a.base
          a.marks.now p.0 a.digits.now p.1.0 c.loop-p.fresh _ c.loop-p.p f was.remaking;
    }

-- a fresh mark that is not above its floor covers nothing that it has to
pub returns : goal.returns
returns c =
    let p = c.requires.1.1 in
    let kept = p.0 in
    let put = c.put_column.ensures in (
      put.0,
      (
        put.1.0,
        λ own w m other w' vs n k there floor.
            let q = number-low kept own w in
            covers_kept _ _ _ _ (p.1.1.1.1 _ (omega (arith, q, kept.few))) (put.1.1 _ q) floor
            (c.loop-p.invariant.remaking.gained own w m other w' (omega (arith, number-low kept other w')) vs n k there),
      ),
    )
