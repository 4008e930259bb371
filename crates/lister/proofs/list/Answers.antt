-- A message or a row that is refused is refused by the table; where both are fit, the rows that the search finds are listed.
use Rattle.std.proofs.Common.{rules, List, ℕ, ◌≡◌, ◌∙◌, refl, sym, ap, arith}
use Rattle.std.proofs.lemmas.Result.{err_from_is_err_and}
use Rattle.refusal.specs.Refusal.{number_of}
use Rattle.refusal.proofs.Laws.{numbered}
use Rattle.bits.specs.Bits.{AllBytes}
use Rattle.bits.proofs.Packing.{bytes_of_each}
use Rattle.message.specs.Layout.{row_bits}
use Rattle.message.specs.Read.{layout_of, message_refusal}
use Rattle.message.specs.declared.layouts.Legal.{Legal}
use Rattle.message.proofs.Answers.{found}
use Rattle.message.proofs.Legal.{legal_bounds, sizes, Sizes}
use Rattle.lister.specs.Answer.{listed_of}
use Rattle.lister.specs.Rows.{row_refusal}
use Rattle.lister.proofs.Answers.{message_decides, row_decides, refused_listing, rows-listed}
use Rattle.lister.proofs.Read.{numbers-few, Numbers, numbers-read, message-number, given}
use Rattle.lister.proofs.Row.{row_passed, enough_bytes}
use Rattle.lister.proofs.list.Goals as goal
use Rattle.lister.proofs.list.Goals.{After-read, In_ok-layout}

-- ---- the message
-- what reading gives
numbers : (c : After-read) → Numbers c.args.msg.now c.read.result c.read.new.out
numbers c = numbers-read c.args.msg.now _ c.read.new.out c.read.result refl c.read.ensures

pub returns-in_err-layout : goal.returns-in_err-layout
returns-in_err-layout c =
    let a = c.args in
    let q = c.in_err-layout.field-0.0 in
    let p = err_from_is_err_and c.from_residual.result c.from_residual.ensures.1 in
    let n = message-number a.msg.now c.read.result q c.in_err-layout.was (numbers (goal.at.returns-in_err-layout c).After-read).answer in
    let e = message_decides a.msg.now a.row.now a.m (λ z. omega (arith, numbered q, n)) in
    rw (p.1, p.2) (refused_listing a.msg.now a.row.now a.m a.out.now (number_of q) (numbered q) (e ∙ n))

-- a layout that is answered: the message is fit, and its head names it
fit : (c : In_ok-layout) → (message_refusal c.args.msg.now ≡ 0) × (layout_of c.args.msg.now ≡ c.in_ok-layout.field-0.layout)
fit c =
    found c.args.msg.now c.read.result c.in_ok-layout.field-0 c.in_ok-layout.was
    (numbers-read c.args.msg.now _ c.read.new.out c.read.result refl c.read.ensures).answer

size : (l : Legal) → Sizes l.layout
size l = sizes l.layout (legal_bounds l.layout l.is_legal)

pub overflow_mul-l1 : goal.overflow_mul-l1
overflow_mul-l1 c = omega (arith, (size c.in_ok-layout.field-0).chunks)

pub overflow_mul-l1-2 : goal.overflow_mul-l1-2
overflow_mul-l1-2 c = omega (arith, (size c.in_ok-layout.field-0).row)

pub check_row-requires : goal.check_row-requires
check_row-requires c = (size c.in_ok-layout.field-0).row

-- ---- the row
pub returns-in_err-check_row : goal.returns-in_err-check_row
returns-in_err-check_row c =
    let a = c.args in
    let l = c.in_ok-layout.field-0.layout in
    let q = c.in_err-check_row.field-0.0 in
    let f = fit (goal.at.returns-in_err-check_row c).In_ok-layout in
    let p = err_from_is_err_and c.from_residual-in_err-check_row.result c.from_residual-in_err-check_row.ensures.1 in
    let e = row_decides a.msg.now a.row.now a.m f.0 (row_bits l) (ap row_bits f.1) in
    let n : row_refusal (row_bits l) a.row.now a.m ≡ number_of q = sym c.in_err-check_row.ensures in
    rw (p.1, p.2) (refused_listing a.msg.now a.row.now a.m a.out.now (number_of q) (numbered q) (e ∙ n))

pub overflow_add-numbers : goal.overflow_add-numbers
overflow_add-numbers c = let l = c.in_ok-layout.field-0 in omega (arith, numbers-few l.layout l.is_legal)

pub overflow_add-numbers-2 : goal.overflow_add-numbers-2
overflow_add-numbers-2 c = let l = c.in_ok-layout.field-0 in omega (arith, numbers-few l.layout l.is_legal)

pub slice_bounds-numbers-end : goal.slice_bounds-numbers-end
slice_bounds-numbers-end c =
    let l = c.in_ok-layout.field-0 in let h = numbers-few l.layout l.is_legal in search rules

pub slice_bounds-list_rows-end : goal.slice_bounds-list_rows-end
slice_bounds-list_rows-end c =
    let l = c.in_ok-layout.field-0 in let h = numbers-few l.layout l.is_legal in search rules

-- ---- both are fit
pub list_rows-requires : goal.list_rows-requires
list_rows-requires c =
    let a = c.args in
    let l = c.in_ok-layout.field-0.layout in
    let f = fit (goal.at.list_rows-requires c).In_ok-layout in
    let none : row_refusal (row_bits l) a.row.now a.m ≡ 0 = sym c.in_ok-check_row.ensures in
    let r = row_passed (row_bits l) a.row.now a.m none in
    let bytes = enough_bytes (row_bits l) a.row.now a.m r.is_packed in
    let lent = (numbers (goal.at.list_rows-requires c).After-read).front f.0 l f.1 in
    (given a.msg.now a.row.now a.m f.0 bytes l _ f.1 lent r, bytes)

pub returns : goal.returns
returns c =
    let a = c.args in
    let s : List ℕ = a.msg.now in
    let l = c.in_ok-layout.field-0.layout in
    let f = fit (goal.at.returns c).In_ok-layout in
    let none : row_refusal (row_bits l) a.row.now a.m ≡ 0 = sym c.in_ok-check_row.ensures in
    let r = row_passed (row_bits l) a.row.now a.m none in
    let bytes = enough_bytes (row_bits l) a.row.now a.m r.is_packed in
    let lent = (numbers (goal.at.returns c).After-read).front f.0 l f.1 in
    let b : AllBytes s = bytes_of_each s (λ i. omega (arith, c.type_inv.msg i)) in
    let e = row_decides s a.row.now a.m f.0 (row_bits l) (ap row_bits f.1) ∙ none in
    rows-listed s a.row.now a.m l _ b f.0 f.1 lent bytes a.out.now e (listed_of c.list_rows.result) _ c.list_rows.ensures.0
    c.list_rows.ensures.1
