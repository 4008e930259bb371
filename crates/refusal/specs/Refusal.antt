-- Document 01's refusal table: the number of each refusal, and "checks run in rising number".
use Rattle.std.specs.Prelude.{ℕ, Result, Ok, Err, Bool, cond, List, [], ◌∷◌}
use Rattle.refusal.specs.declared.Refusal.TheVariants.{NoMessage, Version, Layout, MessageLength, Sum, SpareBit, Losses, Packing, ListFull, ShortTarget}
use Rattle.refusal.specs.declared.Refusal.{Refusal}

-- the number that stands for a refusal in the column "Returned"
abbrev pub number_of : Refusal → ℕ
number_of NoMessage = 1
number_of Version = 2
number_of Layout = 3
number_of MessageLength = 4
number_of Sum = 5
number_of SpareBit = 6
number_of Losses = 7
number_of Packing = 8
number_of ListFull = 9
number_of ShortTarget = 10

-- an operation's answer as the papers number it: the refusal, 0 where there is none, and the value, 0 where there is none
pub record Answer : Type 0 where
  pub refusal : ℕ
  pub value : ℕ

-- what a check of the table answers, as the papers number it: the refusal, 0 where the check passes
abbrev pub refusal_in : Result (Unit {0}) Refusal → ℕ
refusal_in (Ok _) = 0
refusal_in (Err q) = number_of q

-- a line of an operation's table: the number that is returned when the condition holds
abbrev pub Check : Type 0
Check = ℕ × Bool

-- the number of the first check whose condition holds; 0 where none does
unfoldable pub first_refusal : List Check → ℕ
first_refusal [] = 0
first_refusal (c ∷ cs) = cond c.1 c.0 (first_refusal cs)
