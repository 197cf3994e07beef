-- How many calls of a list a pile refuses.
use Rattle.std.specs.Prelude.{ℕ, ◌+◌, Bool, false, cond, not, List, [], ◌∷◌, is_ok}
use Rattle.pile.specs.Piles.{Pile, Call, read, write, sync, answered, stepped}

-- whether a pile refuses a read or a write; a sync counts for none
abbrev pub refuses : Call → Pile → Bool
refuses (read b buffer) p = not (is_ok (answered (read b buffer) p).result)
refuses (write b bytes) p = not (is_ok (answered (write b bytes) p).result)
refuses sync p = false

-- how many reads and writes are refused, each at the pile as it then is
abbrev pub refusals : List Call → Pile → ℕ
refusals [] p = 0
refusals (c ∷ cs) p = cond (refuses c p) 1 0 + refusals cs (stepped c p)
