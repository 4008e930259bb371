use Rattle.std.proofs.Common.{List, ℕ, refl, sym, arith}
use Rattle.message.specs.Read.{layout_of, message_refusal}
use Rattle.message.proofs.Answers.{refused_answer}
use Rattle.message.proofs.Head.{mark}
use Rattle.message.proofs.Messages.{refused_1, refused_2}
use Rattle.message.proofs.reading.check.Goals as goal

pub returns-then-not-marked : goal.returns-then-not-marked
returns-then-not-marked c =
    let s : List ℕ = c.args.s.now in
    refused_answer (message_refusal s) 0 s (refused_1 s (sym c.if-not-marked.ensures))

pub version_one-requires : goal.version_one-requires
version_one-requires c = (mark c.args.s.now (sym c.if-not-marked.ensures)).long

pub returns-then-not-version_one : goal.returns-then-not-version_one
returns-then-not-version_one c =
    let s : List ℕ = c.args.s.now in
    refused_answer (message_refusal s) 1 s
    (refused_2 s (sym c.if-not-marked.ensures) (sym c.if-not-version_one.ensures))

pub bounds-s-5 : goal.bounds-s-5
bounds-s-5 c = omega (arith, (mark c.args.s.now (sym c.if-not-marked.ensures)).long)

pub bounds-s-6 : goal.bounds-s-6
bounds-s-6 c = omega (arith, (mark c.args.s.now (sym c.if-not-marked.ensures)).long)

pub bounds-s-7 : goal.bounds-s-7
bounds-s-7 c = omega (arith, (mark c.args.s.now (sym c.if-not-marked.ensures)).long)

pub bounds-s-8 : goal.bounds-s-8
bounds-s-8 c = omega (arith, (mark c.args.s.now (sym c.if-not-marked.ensures)).long)

pub check_layout-requires : goal.check_layout-requires
unfolding layout_of
check_layout-requires c =
    (sym c.if-not-marked.ensures, (sym c.if-not-version_one.ensures, rw (c.from.ensures, c.from-2.ensures, c.from-3.ensures, c.from-4.ensures) refl))
