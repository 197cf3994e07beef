-- The tallies that a pile keeps, as the lists that its calls are defined by.
use Rattle.std.specs.Prelude.{ℕ, ◌+◌, List, take, Some, None, Option}
use Rattle.tier.specs.Models.{Model}
use Rattle.pile.specs.declared.tallies.Tallies.{Tallies}
use Rattle.pile.specs.Piles.{Pile, add_at}
use Rattle.pile.specs.Recency.{total}

-- the hits of each level, top first
abbrev pub hits_of : Tallies → List ℕ
hits_of t = take t.levels t.hits

abbrev pub sum_of : Tallies → ℕ
sum_of t = total (hits_of t) + t.floor

-- a tier with its tallies
abbrev pub pile_of : Model → Tallies → Pile
pile_of m t = record { tier = m; hits = hits_of t; floor = t.floor }

-- one more for a level counted from 1, or for the floor
abbrev pub hits_with : Option ℕ → List ℕ → List ℕ
hits_with None hs = hs
hits_with (Some level) hs = add_at level hs

abbrev pub floor_with : Option ℕ → ℕ → ℕ
floor_with None n = n + 1
floor_with (Some level) n = n
