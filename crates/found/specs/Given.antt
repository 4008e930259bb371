-- What a search for the rows that are consistent with what is given may rely on, and what it looks for.
use Rattle.std.specs.Prelude.{ℕ, ◌+◌, ◌*◌, ◌<◌, ◌≤◌, ◌≡◌, true, List, length, get_or}
use Rattle.bits.specs.Bits.{AllBits}
use Rattle.rows.specs.Held.{Held}
use Rattle.rows.specs.declared.Kept.{Kept}
use Rattle.message.specs.Layout.{legal, row_bits, block_bits, string_bits}
use Rattle.message.specs.declared.Layout.{Layout}
use Rattle.consistent.specs.Consistent.{most_losses, candidate}
use Rattle.consistent.specs.Query.{Query}
use Rattle.lines.specs.Lines.{values}
use Rattle.found.specs.Sought.{Sought, Passes, all_of, held_of, Holding, Grown, Listed}

-- a legal layout, received bits of which at most 12 are missing, and the numbers of a fit message
pub record Given (q : Query) : Type 0 where
  pub is_legal : legal q.layout ≡ true
  pub bits : AllBits q.received
  pub short : length q.received ≤ row_bits q.layout
  pub few : row_bits q.layout ≤ length q.received + most_losses
  pub count : length q.numbers ≡ q.layout.l1 + q.layout.l2 + q.layout.r
  pub blocks : (i : ℕ) → i < q.layout.l1 → get_or q.numbers i 0 ≤ block_bits q.layout
  pub strings : (j : ℕ) → j < q.layout.l2 → get_or q.numbers (q.layout.l1 + j) 0 ≤ string_bits q.layout

-- the rows that are consistent with what is given
abbrev pub consistent_with : Query → Sought
consistent_with q = record { bits = row_bits q.layout; test = candidate q.layout q.numbers q.received }

-- a row of the layout that is consistent with what is given
abbrev pub Sent : Query → List ℕ → Type 0
Sent q x = Passes (consistent_with q) x

-- all of them, in dictionary order
abbrev pub all_sent : Query → List (List ℕ)
all_sent q = all_of (consistent_with q)

-- the rows that the list slice holds, and whether more were found
abbrev pub held_sent : Query → (list : List ℕ) → Kept → Held
held_sent q = held_of (consistent_with q)

-- the list slice holds consistent rows
abbrev pub HoldsSent : Query → (cap : ℕ) (list : List ℕ) → Kept → Type 0
HoldsSent q = Holding (consistent_with q)

-- a step adds consistent rows, and misses none under its state
abbrev pub AddsSent : Query → (cap : ℕ) (under : List ℕ → Type 0) (entry : List ℕ) → Kept → (exit : List ℕ) → Kept
    → Type 0
AddsSent q = Grown (consistent_with q)

-- a whole search leaves the list of all consistent rows
abbrev pub ListsSent : Query → (cap : ℕ) (entry exit : List ℕ) → Kept → Type 0
ListsSent q = Listed (consistent_with q)

-- the chunks of x are those of the row in hand
abbrev pub InHand : Layout → (row x : List ℕ) → Type 0
InHand l row x = (c : ℕ) → c < l.l1 * l.l2 → get_or (values l x) c 0 ≡ get_or row c 0
