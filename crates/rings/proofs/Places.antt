-- The links of all places read as two lists: what is read of a place, and what a write of one does to each list.
use Rattle.std.proofs.Common.{◌≡◌, ℕ, ◌<◌, List, length, get_or, set, sym, refl}
use Rattle.std.proofs.lemmas.List.{map-set, get_or-map}
use Rattle.std.proofs.Math.Seq.{map-set_same}
use Rattle.rings.specs.declared.links.Link.{Link}
use Rattle.rings.specs.Places.{next_of, prev_of, nexts, prevs}

pub next_at : (ls : List Link) (i : ℕ) (d : Link) → i < length ls → (get_or ls i d).next ≡ get_or (nexts ls) i 0
next_at ls i d h = sym (get_or-map next_of ls i d 0 h)

pub prev_at : (ls : List Link) (i : ℕ) (d : Link) → i < length ls → (get_or ls i d).prev ≡ get_or (prevs ls) i 0
prev_at ls i d h = sym (get_or-map prev_of ls i d 0 h)

-- a write of a link writes to both lists
pub next_set : (ls : List Link) (i : ℕ) (l : Link) → nexts (set ls i l) ≡ set (nexts ls) i l.next
next_set ls i l = map-set next_of ls i l

pub prev_set : (ls : List Link) (i : ℕ) (l : Link) → prevs (set ls i l) ≡ set (prevs ls) i l.prev
prev_set ls i l = map-set prev_of ls i l

-- a write of one side of a link leaves the other list as it was
pub next_kept : (ls : List Link) (i v : ℕ) (d : Link) → nexts (set ls i (record { next = (get_or ls i d).next; prev = v })) ≡ nexts ls
next_kept ls i v d = map-set_same next_of ls i _ d refl

pub prev_kept : (ls : List Link) (i v : ℕ) (d : Link) → prevs (set ls i (record { next = v; prev = (get_or ls i d).prev })) ≡ prevs ls
prev_kept ls i v d = map-set_same prev_of ls i _ d refl

-- what is known of reads and writes of links
pub ruleset written = (next_at, prev_at, next_set, prev_set, next_kept, prev_kept)
