use Rattle.std.proofs.Common.{◌≡◌, ℕ, ◌<◌, get_or, take, length, ap, ◌∙◌, arith, length-take, get_or-take}
use Rattle.std.proofs.lemmas.List.{length_push}
use Rattle.std.proofs.lemmas.Slice.Zip.{zip_turn}
use Rattle.std.specs.Iterator.Adapters.{zip_first, zip_second}
use Rattle.std.specs.Slice.Iter.{iter_rest}
use Rattle.recover.specs.Recover.{Spots}
use Rattle.recover.proofs.Spots.{put_next}
use Rattle.recover.proofs.put.Goals as goal

pub loop-place-preserved : goal.loop-place-preserved
loop-place-preserved c =
    let e = c.args.e in
    let o = c.loop-place in
    let w : ℕ = length o.yielded in
    let both = c.into_iter-place-iterator.ensures.into_iter_gives in
    let zips = c.zip-place-items.ensures in
    let turn = zip_turn (take e.n e.places) c.args.contents o.yielded c.into_iter-place-iterator.result
    o.place-iterator c.next.new.self c.next.result (ap iter_rest (ap zip_first both ∙ zips.first) ∙ c.iter.ensures.rest)
    (ap iter_rest (ap zip_second both) ∙ zips.second.0) o.yielded_by
    (c.in-Some.place, c.in-Some.content) c.in-Some.is c.next.ensures.steps in
    let more = length_push o.yielded (c.in-Some.place, c.in-Some.content) in
    let low : w < e.n = omega (arith, turn.0, length-take e.n e.places) in
    let place : c.from.result ≡ get_or e.places w 0 =
    c.from.ensures ∙ turn.2 0 ∙ get_or-take e.n e.places w 0 (omega arith) in
    let spots : Spots e.n (length o.row) e.places = rw o.auto.row c.requires.1 in
    record {
      few = omega (arith, more);
      there = rw (more, place, turn.3 0)
          (put_next e.places c.args.contents c.args.row.now e.n w o.row spots low o.invariant.there);
    }
