-- What a search is given: the layout and the numbers that were read of a message, and the received bits. Whatever is
-- said of a search names this one thing, so what a later kind of message brings is added here.
use Rattle.std.specs.Prelude.{ℕ, List}
use Rattle.message.specs.declared.Layout.{Layout}

pub record Query : Type 0 where
  -- how the row is cut
  pub layout : Layout
  -- its block sums, chunk-string sums and checks
  pub numbers : List ℕ
  -- the bits that came, one to an element
  pub received : List ℕ

abbrev pub query : Layout → (numbers received : List ℕ) → Query
query l numbers received = record { layout = l; numbers = numbers; received = received }
