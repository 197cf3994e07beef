-- What a pile comes to by some reads, whatever device it is mounted over, and worked runs as one list of which every member is proved.
use Rattle.std.specs.Prelude.{◌≡◌, ℕ, true, List, [], ◌∷◌, map}
use Rattle.std.specs.List.{AllByRecursion}
use Rattle.device.specs.Store.{Store, Lawful}
use Rattle.row.specs.Entries.{RowModel}
use Rattle.pile.specs.Piles.{Pile, mounted, after}
use Rattle.pile.specs.Reads.{reads_of}
use Rattle.examples.specs.Examples.{names_of}

-- rows of these capacities without an entry
abbrev pub empty_rows : List ℕ → List RowModel
empty_rows cs = map (λ c. record { capacity = c; entries = [] }) cs

-- the blocks that the rows name, the hits of each level, and the touches that no level served
pub record Stands (p : Pile) (names : List (List ℕ)) (hits : List ℕ) (floor : ℕ) : Type 0 where
  pub named : names_of p.tier.rows ≡ names
  pub served : p.hits ≡ hits
  pub missed : p.floor ≡ floor

-- a pile over a device with empty rows of these capacities, after reads of these blocks
abbrev pub run : List ℕ → List ℕ → Store → Pile
run capacities touches s = after (reads_of touches) (mounted record { store = s; rows = empty_rows capacities })

-- over every lawful store in which the touched blocks are sound
abbrev pub RunStands : List ℕ → List ℕ → List (List ℕ) → List ℕ → ℕ → Type 0
RunStands capacities touches names hits floor = (s : Store) → Lawful s → AllByRecursion (λ b. s.sound b ≡ true) touches → Stands (run capacities touches s) names hits floor

-- a pile of empty rows of these capacities over any device, once these blocks are read in this order: the blocks that its rows
-- name, the latest first, the hits of each level, and the touches that no level served
pub record Run : Type 0 where
  pub capacities : List ℕ
  pub touches : List ℕ
  pub names : List (List ℕ)
  pub hits : List ℕ
  pub floor : ℕ

-- blocks read one after another
abbrev pub some_touches : List ℕ
some_touches = 0 ∷ (1 ∷ (2 ∷ (0 ∷ (3 ∷ (4 ∷ (1 ∷ (5 ∷ (2 ∷ (2 ∷ [])))))))))

abbrev pub runs : List Run
runs = record { capacities = 2 ∷ (3 ∷ []); touches = some_touches; names = (2 ∷ (5 ∷ [])) ∷ ((1 ∷ (4 ∷ (3 ∷ []))) ∷ []); hits = 1 ∷ (2 ∷ []); floor = 7 }
    ∷ (record { capacities = 5 ∷ []; touches = some_touches; names = (2 ∷ (5 ∷ (1 ∷ (4 ∷ (3 ∷ []))))) ∷ []; hits = 3 ∷ []; floor = 7 }
    ∷ (record { capacities = 3 ∷ (2 ∷ []); touches = some_touches; names = (2 ∷ (5 ∷ (1 ∷ []))) ∷ ((4 ∷ (3 ∷ [])) ∷ []); hits = 2 ∷ (1 ∷ []); floor = 7 } ∷ []))

abbrev pub RunsStand : Type 0
RunsStand = AllByRecursion (λ r. RunStands r.capacities r.touches r.names r.hits r.floor) runs
