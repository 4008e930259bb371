-- Writing a message (document 01, "Operations and their refusal table").
use Rattle.std.specs.Prelude.{ℕ, Result, Ok, Err, not, cond, List, [], ◌∷◌, ◌++◌, eqb, ltb, length, take, drop}
use Rattle.refusal.specs.Refusal.{Answer, number_of, first_refusal}
use Rattle.refusal.specs.declared.Refusal.{Refusal}
use Rattle.bits.specs.Bits.{unpack, fits}
use Rattle.message.specs.Layout.{legal, row_bits}
use Rattle.message.specs.Message.{message_bytes, message}
use Rattle.message.specs.declared.Layout.{Layout}

-- the number and the value of each answer: "writing answers the message's length in bytes"
abbrev pub written_of : Result ℕ Refusal → Answer
written_of (Ok n) = record { refusal = 0; value = n }
written_of (Err q) = record { refusal = number_of q; value = 0 }

-- what writing refuses, for a layout, a packed row and a target of so many bytes
unfoldable pub write_refusal : Layout → (packed : List ℕ) (target : ℕ) → ℕ
unfolding first_refusal legal fits message_bytes
write_refusal l packed target =
    first_refusal ((3, not (legal l)) ∷ (8, not (fits (row_bits l) packed)) ∷ (10, ltb target (message_bytes l)) ∷ [])

-- what writing answers
unfoldable pub write_answer : Layout → (packed : List ℕ) (target : ℕ) → Answer
unfolding write_refusal
write_answer l packed target =
    record {
      refusal = write_refusal l packed target;
      value = cond (eqb (write_refusal l packed target) 0) (message_bytes l) 0;
    }

-- the target afterwards: the message of the row at its start; unchanged where writing refuses
unfoldable pub write_target : Layout → (packed target : List ℕ) → List ℕ
unfolding write_refusal message unpack
write_target l packed target =
    cond (eqb (write_refusal l packed (length target)) 0)
    (message l (take (row_bits l) (unpack packed)) ++ drop (message_bytes l) target) target
