-- The links of all places, read as two lists: where each place leads on to, and where back to.
use Rattle.std.specs.Prelude.{ℕ, List, map}
use Rattle.rings.specs.declared.links.Link.{Link}

abbrev pub next_of : Link → ℕ
next_of l = l.next

abbrev pub prev_of : Link → ℕ
prev_of l = l.prev

-- the link of a place to itself, both ways
abbrev pub itself : ℕ → Link
itself i = record { next = i; prev = i }

abbrev pub nexts : List Link → List ℕ
nexts links = map next_of links

abbrev pub prevs : List Link → List ℕ
prevs links = map prev_of links
