-- Which layouts are admitted (document 01, "Operations and their refusal table", row 3).
use Rattle.std.specs.Prelude.{◌≡◌, false, Result, Ok, Err}
use Rattle.refusal.specs.declared.Refusal.{Refusal}
use Rattle.refusal.specs.declared.Refusal.TheVariants.{Layout as NotLegal}
use Rattle.message.specs.Layout.{legal}
use Rattle.message.specs.declared.Layout.{Layout}
use Rattle.message.specs.declared.layouts.Legal.{Legal}

-- the layout itself where it is legal, refusal 3 where it is not
abbrev pub Admits : Layout → Result Legal Refusal → Type 0
Admits l (Ok k) = k.layout ≡ l
Admits l (Err q) = (legal l ≡ false) × (q ≡ NotLegal)
