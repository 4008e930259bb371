use Rattle.std.proofs.Common.{List, ℕ, ◌≡◌, ◌∙◌, ◌+◌, ◌≤◌, sym, ap, length, arith}
use Rattle.std.proofs.lemmas.Result.{err_from_is_err_and}
use Rattle.message.specs.Read.{layout_of, message_refusal, read_refusal, layout_answer}
use Rattle.message.specs.declared.layouts.Legal.{Legal}
use Rattle.message.proofs.Answers.{found, not_found, fit_named, refused_answer, fit_answer, refuses_message, refuses_target, refuses_nothing, untouched, numbers-count, numbers-written}
use Rattle.message.proofs.Legal.{legal_bounds, sizes}
use Rattle.message.proofs.reading.read.Goals as goal
use Rattle.message.proofs.reading.read.Goals.{In_ok-l}

pub returns-in_err-l : goal.returns-in_err-l
returns-in_err-l c =
    let s : List ℕ = c.args.s.now in
    let o : List ℕ = c.args.out.now in
    let p = err_from_is_err_and c.from_residual.result c.from_residual.ensures.1 in
    let n = not_found s c.check.result c.in_err-l.field-0.0 c.in_err-l.was c.check.ensures in
    let e : read_refusal s (length o) ≡ message_refusal s = refuses_message s o n in
    rw (p.1, p.2) (c.in_err-l.ensures ∙ ap (λ (q : ℕ). layout_answer q s) (sym e), untouched s o (λ z. n (sym e ∙ z)))

-- the message is fit, and its head names the layout that was answered
answer : (c : In_ok-l) → (message_refusal c.args.s.now ≡ 0) × (layout_of c.args.s.now ≡ c.in_ok-l.l.layout)
answer c = found c.args.s.now c.check.result c.in_ok-l.l c.in_ok-l.was c.check.ensures

-- the numbers of a legal layout are few
count : (l : Legal) → l.layout.l1 + l.layout.l2 + l.layout.r ≤ 526
count l =
    let b = legal_bounds l.layout l.is_legal in
    let z = sizes l.layout b in
    omega (arith, b.r_high, z.l1_high, z.l2_high)

pub overflow_add-l1 : goal.overflow_add-l1
overflow_add-l1 c = omega (arith, count c.in_ok-l.l)

pub overflow_add-l1-2 : goal.overflow_add-l1-2
overflow_add-l1-2 c = omega (arith, count c.in_ok-l.l)

pub returns-then-out-l1 : goal.returns-then-out-l1
returns-then-out-l1 c =
    let s : List ℕ = c.args.s.now in
    let o : List ℕ = c.args.out.now in
    let a = answer (goal.at.returns-then-out-l1 c).In_ok-l in
    let e : read_refusal s (length o) ≡ 10 =
    refuses_target s o a.0 (omega (arith, c.if-out-l1.true, numbers-count s c.in_ok-l.l.layout a.1)) in
    (refused_answer (read_refusal s (length o)) 9 s e, untouched s o (λ z. omega arith))

pub read_numbers-requires : goal.read_numbers-requires
read_numbers-requires c =
    let a = answer (goal.at.read_numbers-requires c).In_ok-l in
    ((fit_named c.args.s.now c.in_ok-l.l.layout a.0 a.1).1, c.if-out-l1.false)

pub returns : goal.returns
returns c =
    let s : List ℕ = c.args.s.now in
    let o : List ℕ = c.args.out.now in
    let l = c.in_ok-l.l in
    let a = answer (goal.at.returns c).In_ok-l in
    let e : read_refusal s (length o) ≡ 0 =
    refuses_nothing s o a.0 (omega (arith, c.if-out-l1.false, numbers-count s l.layout a.1)) in
    (fit_answer (read_refusal s (length o)) s l.layout a.1 e, numbers-written s o c.read_numbers.new.out l.layout a.1 e c.read_numbers.ensures)
