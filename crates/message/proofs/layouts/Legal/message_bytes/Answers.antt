use Rattle.std.proofs.Common.{arith}
use Rattle.message.proofs.Longest.{fields-high}
use Rattle.message.proofs.layouts.Legal.message_bytes.Goals as goal

pub overflow_add-result : goal.overflow_add-result
overflow_add-result c =
    let l = c.args.self in omega (arith, c.fields_length.ensures, fields-high l.layout l.is_legal)
