-- What listing answers, as document 01 numbers it: "the answer holds the number of consistent rows", "a refusal answers
-- its number alone".
use Rattle.std.specs.Prelude.{ℕ, Result, Ok, Err}
use Rattle.refusal.specs.Refusal.{number_of}
use Rattle.consistent.specs.List.{ListAnswer}
use Rattle.refusal.specs.declared.Refusal.{Refusal}

-- the answer's number and count: the count where the rows are listed, the refusal's number and no count where listing
-- refuses
abbrev pub listed_of : Result ℕ Refusal → ListAnswer
listed_of (Ok n) = record { refusal = 0; count = n }
listed_of (Err q) = record { refusal = number_of q; count = 0 }
