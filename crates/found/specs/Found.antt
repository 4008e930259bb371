-- What Given.antt and Sought.antt say, over the layout, the numbers and the received bits one by one, and the number of
-- rows held and whether there are more one by one.
use Rattle.std.specs.Prelude.{ℕ, Bool, List}
use Rattle.message.specs.declared.Layout.{Layout}
use Rattle.consistent.specs.Query.{query}
use Rattle.found.specs.Given as given
pub use Rattle.found.specs.Given.{InHand}

abbrev pub Given : (l : Layout) (numbers y : List ℕ) → Type 0
Given l numbers y = given.Given (query l numbers y)

abbrev pub Sent : (l : Layout) (numbers y x : List ℕ) → Type 0
Sent l numbers y x = given.Sent (query l numbers y) x

abbrev pub Holding : (l : Layout) (numbers y : List ℕ) (cap : ℕ) (list : List ℕ) (c : ℕ) (m : Bool) → Type 0
Holding l numbers y cap list c m = given.HoldsSent (query l numbers y) cap list (record { count = c; more = m })

abbrev pub Grown : (l : Layout) (numbers y : List ℕ) (cap : ℕ) (under : List ℕ → Type 0) (entry : List ℕ) (c : ℕ)
    (m : Bool) (exit : List ℕ) (d : ℕ) (o : Bool) → Type 0
Grown l numbers y cap under entry c m exit d o =
    given.AddsSent (query l numbers y) cap under entry (record { count = c; more = m }) exit (record { count = d; more = o })

abbrev pub all_sent : (l : Layout) (numbers y : List ℕ) → List (List ℕ)
all_sent l numbers y = given.all_sent (query l numbers y)

abbrev pub Listed : (l : Layout) (numbers y : List ℕ) (cap : ℕ) (entry exit : List ℕ) (d : ℕ) (o : Bool) → Type 0
Listed l numbers y cap entry exit d o =
    given.ListsSent (query l numbers y) cap entry exit (record { count = d; more = o })
