-- What mending answers, as document 01 numbers it: "mending only that it is done", "a refusal answers its number alone".
use Rattle.std.specs.Prelude.{Result, Ok, Err}
use Rattle.refusal.specs.Refusal.{Answer, number_of}
use Rattle.refusal.specs.declared.Refusal.{Refusal}

-- the answer's number and value: neither where mending is done, the refusal's number and no value where it refuses
abbrev pub answer_of : Result (Unit {0}) Refusal → Answer
answer_of (Ok t) = record { refusal = 0; value = 0 }
answer_of (Err q) = record { refusal = number_of q; value = 0 }
