-- What the tactics leave open of `vt::with_bit`.
use Rattle.bits.proofs.Spans.{put_low}
use Rattle.vt.proofs.with_bit.Goals as goal

pub overflow_cast-result : goal.overflow_cast-result
overflow_cast-result c =
    let a = c.args in
    record {
      fits = rw (c.from.ensures, c.power-low.ensures, c.power-high.ensures)
          (put_low a.b a.at a.bit c.requires.0 c.requires.1.0 c.requires.1.1);
    }
