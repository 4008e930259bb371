-- Bits that are put into packed bytes one field after another.
use Rattle.std.specs.Prelude.{ℕ, ◌+◌, ◌*◌, ◌^◌, ◌<◌, ◌≡◌, List, ◌++◌, length, take, drop}
use Rattle.bits.specs.Bits.{digits, unpack}
use Rattle.bits.specs.declared.Filler.{Filler}

-- the bits that a filler has taken: those of its whole bytes, and those that it holds
abbrev pub filled : Filler → List ℕ → List ℕ
filled f out = unpack (take f.at out) ++ digits f.count f.held

-- fewer than eight bits are held, and the number held has no more digits than these
abbrev pub Ready : Filler → Type 0
Ready f = (f.count < 8) × (f.held < 2 ^ f.count)

-- these bits are put behind those that were taken; the slice behind the whole bytes stays as it was
pub record Goes (f : Filler) (entry bits : List ℕ) (r : Filler) (exit : List ℕ) : Type 0 where
  pub ready : Ready r
  pub place : r.at * 8 + r.count ≡ f.at * 8 + f.count + length bits
  pub taken : filled r exit ≡ filled f entry ++ bits
  pub rest : drop r.at exit ≡ drop r.at entry
  pub long : length exit ≡ length entry
