-- What a judgement of a trace tells of its lines.
use Rattle.std.specs.Prelude.{◌≡◌, ℕ, zero, suc, ◌+◌, ◌<◌, Bool, true, false, cond, not, ◌&&◌, ◌⊎◌, List, [], ◌∷◌, length, is_some, Some, None, Ok, Err, codes, Option, Result, slice_index_or}
use Rattle.formats.specs.declared.trace.TraceFault.{TraceFault}
use Rattle.formats.specs.declared.trace.TraceFault.TheVariants.{Broken}
use Rattle.formats.specs.Traces.{Said, said, lines, lawful_line, is_header, judged, first_line}

abbrev pub heads : Option (List ℕ) → Bool
heads None = false
heads (Some text) = is_header text

-- whether the line of index k keeps the rules; a line that is not there keeps none
abbrev pub keeps : ℕ → Option (List ℕ) → Bool
keeps zero line = heads line
keeps (suc k) line = lawful_line line

abbrev pub keeps_at : List ℕ → ℕ → Bool
keeps_at trace k = keeps k (slice_index_or (lines trace) k None)

-- every line of an accepted trace keeps the rules, and those after the first are handed out; a told line breaks a rule, and none before it does
abbrev pub Judgement : List ℕ → Result (List ℕ) TraceFault → Type 0
Judgement trace (Ok body) = (lines trace ≡ Some (codes "demote-trace 1") ∷ lines body) × ((k : ℕ) → k < length (lines trace) → keeps_at trace k ≡ true)
Judgement trace (Err (Broken t)) = (k : ℕ) × (t ≡ k + 1) × (keeps_at trace k ≡ false) × ((j : ℕ) → j < k → keeps_at trace j ≡ true)

abbrev pub JudgedRightly : List ℕ → Type 0
JudgedRightly trace = Judgement trace (judged trace)

-- the line that is taken is the first of the lines, and those after it are left; none is taken only where there is none or it breaks a rule
abbrev pub Taking : List ℕ → Option (Said × List ℕ) → Type 0
Taking rest (Some p) = (text : List ℕ) × (lines rest ≡ Some text ∷ lines p.1) × (said text ≡ Some p.0)
Taking rest None = (lines rest ≡ []) ⊎ (lawful_line (slice_index_or (lines rest) 0 None) ≡ false)

abbrev pub TakenRightly : List ℕ → Type 0
TakenRightly rest = Taking rest (first_line rest)

-- some texts, and whether they are lawful lines
abbrev pub examples : List (List ℕ × Bool)
examples = (codes "R 65535", true) ∷ (codes "R 65536", false) ∷ (codes "R 07", false) ∷ (codes "R 0", true) ∷ (codes "R  1", false) ∷ (codes "r 1", false)
    ∷ (codes "W 3 a0", true) ∷ (codes "W 3 A0", false) ∷ (codes "W 3 a", false) ∷ (codes "S", true) ∷ (codes "S ", false) ∷ []

abbrev pub alike : Bool → Bool → Bool
alike a b = cond a b (not b)

abbrev pub agree : List (List ℕ × Bool) → Bool
agree [] = true
agree (e ∷ es) = alike (is_some (said e.0)) e.1 && agree es

abbrev pub ExamplesHold : Type 0
ExamplesHold = agree examples ≡ true
