use Rattle.std.proofs.Common.{List, ℕ, ◌∙◌, sym}
use Rattle.std.proofs.lemmas.Result.{err_from_is_err_and}
use Rattle.message.specs.Read.{message_refusal}
use Rattle.message.proofs.Answers.{refused_answer, fit_answer}
use Rattle.message.proofs.Messages.{refused_3, refused_4, refused_5, refused_6, refused_not}
use Rattle.message.proofs.reading.check_layout.Goals as goal

pub returns-in_err-l : goal.returns-in_err-l
returns-in_err-l c =
    let s : List ℕ = c.args.s.now in
    let p = err_from_is_err_and c.from_residual.result c.from_residual.ensures.1 in
    rw (p.1, p.2, c.in_err-l.ensures.1)
    (refused_answer (message_refusal s) 2 s (refused_3 s c.requires.0 c.requires.1.0 c.args.layout c.requires.1.1 c.in_err-l.ensures.0))

pub returns-then-s-message_bytes : goal.returns-then-s-message_bytes
returns-then-s-message_bytes c =
    let s : List ℕ = c.args.s.now in
    let l = c.in_ok-l.l in
    refused_answer (message_refusal s) 3 s
    (refused_4 s c.requires.0 c.requires.1.0 l.layout (c.requires.1.1 ∙ sym c.in_ok-l.ensures) l.is_legal
    (λ e. c.if-s-message_bytes.true (e ∙ sym c.message_bytes.ensures)))

pub returns-then-sum_high : goal.returns-then-sum_high
returns-then-sum_high c =
    let s : List ℕ = c.args.s.now in
    let l = c.in_ok-l.l in
    refused_answer (message_refusal s) 4 s
    (refused_5 s c.requires.0 c.requires.1.0 l.layout (c.requires.1.1 ∙ sym c.in_ok-l.ensures) l.is_legal
    (c.if-s-message_bytes.false ∙ c.message_bytes.ensures) (sym c.if-sum_high.ensures))

pub returns-then-not-spare_blank : goal.returns-then-not-spare_blank
returns-then-not-spare_blank c =
    let s : List ℕ = c.args.s.now in
    let l = c.in_ok-l.l in
    refused_answer (message_refusal s) 5 s
    (refused_6 s c.requires.0 c.requires.1.0 l.layout (c.requires.1.1 ∙ sym c.in_ok-l.ensures) l.is_legal
    (c.if-s-message_bytes.false ∙ c.message_bytes.ensures) (sym c.if-sum_high.ensures) (sym c.if-not-spare_blank.ensures))

pub returns : goal.returns
returns c =
    let s : List ℕ = c.args.s.now in
    let l = c.in_ok-l.l in
    let e = c.requires.1.1 ∙ sym c.in_ok-l.ensures in
    fit_answer (message_refusal s) s l.layout e
    (refused_not s c.requires.0 c.requires.1.0 l.layout e l.is_legal
    (c.if-s-message_bytes.false ∙ c.message_bytes.ensures) (sym c.if-sum_high.ensures) (sym c.if-not-spare_blank.ensures))
