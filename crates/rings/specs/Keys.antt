-- What an index holds: the number that each slot is filed under.
use Rattle.std.specs.Prelude.{ℕ, Option}
use Rattle.rings.specs.declared.index.Index.{Index}
use Rattle.rings.specs.Buckets.{key_in}

-- the number that slot x is filed under, if any
abbrev pub key_of : Index → ℕ → Option ℕ
key_of ix x = key_in ix.rings ix.keys x
