-- What holds from mounting on, over every list of calls.
use Rattle.std.specs.Prelude.{◌≡◌, ℕ, ◌<◌, min, List, [], ◌∷◌, ◌++◌, length, take}
use Rattle.device.specs.Store.{Store, Same}
use Rattle.tier.specs.Models.{Model, LawfulModel}
use Rattle.pile.specs.Bare.{bare, bare_after, bare_answers}
use Rattle.pile.specs.Piles.{Call, sync, mounted, after, answers, touches}
use Rattle.pile.specs.Recency.{once, within, flat, numbers, room, total, count_below}

-- a tier that can be mounted
pub record Mountable (m : Model) : Type 0 where
  pub lawful : LawfulModel m
  pub empty : flat m.rows ≡ []

-- the numbers touched by a list of calls on a device, latest first
abbrev pub trail_of : List Call → Store → List ℕ
trail_of cs s = (bare_after cs (bare s)).trail

-- each call answers what the bare device answers
abbrev pub Transparent : Model → Type 0
Transparent m = (cs : List Call) → answers cs (mounted m) ≡ bare_answers cs (bare m.store)

-- after a sync the stored blocks are the bare device's
abbrev pub Stored : Model → Type 0
Stored m = (cs : List Call) → (after (cs ++ sync ∷ []) (mounted m)).tier.store ≡ (bare_after cs (bare m.store)).store

-- the first j levels name the last blocks touched, latest first, as many as they have room for
abbrev pub Recent : Model → Type 0
Recent m = (cs : List Call) (j : ℕ) → numbers (flat (take j (after cs (mounted m)).tier.rows)) ≡ take (room (take j m.rows)) (once (trail_of cs m.store))

-- the first j tallies sum to the touches whose block was among the last blocks that they have room for
abbrev pub Counted : Model → Type 0
Counted m = (cs : List Call) (j : ℕ) → total (take j (after cs (mounted m)).hits) ≡ within (room (take j m.rows)) (trail_of cs m.store)

-- the tallies sum to the touches
abbrev pub Tallied : Model → Type 0
Tallied m = (cs : List Call) → touches (after cs (mounted m)) ≡ length (trail_of cs m.store)

-- how many blocks are sound
abbrev pub sound_count : Store → ℕ
sound_count s = count_below s.sound s.size

-- two piles over equal devices answer alike
abbrev pub Alike : Model → Model → Type 0
Alike m n = (cs : List Call) → answers cs (mounted m) ≡ answers cs (mounted n)

-- how many touches the first j levels serve in a list of calls from mounting
abbrev pub served : Model → ℕ → List Call → ℕ
served m j cs = total (take j (after cs (mounted m)).hits)

-- the first j levels of one pile and the first k of another serve equally many touches on every list of calls
abbrev pub ServeAlike : Model → ℕ → Model → ℕ → Type 0
ServeAlike m j n k = (cs : List Call) → served m j cs ≡ served n k cs

-- the summed capacity of the first j levels
abbrev pub sum_of : Model → ℕ → ℕ
sum_of m j = room (take j m.rows)

-- they serve alike exactly where the smaller of sum and number of sound blocks is the same for both
pub record Sharp (m : Model) (j : ℕ) (n : Model) (k : ℕ) : Type 0 where
  pub if : min (sum_of m j) (sound_count m.store) ≡ min (sum_of n k) (sound_count m.store) → ServeAlike m j n k
  pub only_if : ServeAlike m j n k → min (sum_of m j) (sound_count m.store) ≡ min (sum_of n k) (sound_count m.store)

-- with more sound blocks than the smaller sum, exactly where the sums are equal; equal sums always serve alike
pub record EqualSums (m : Model) (j : ℕ) (n : Model) (k : ℕ) : Type 0 where
  pub if : sum_of m j ≡ sum_of n k → ServeAlike m j n k
  pub only_if : min (sum_of m j) (sum_of n k) < sound_count m.store → ServeAlike m j n k → sum_of m j ≡ sum_of n k

-- what is promised of a tier that can be mounted
pub record Promised (m : Model) : Type 0 where
  pub transparent : Transparent m
  pub stored : Stored m
  pub recent : Recent m
  pub counted : Counted m
  pub tallied : Tallied m

-- what is promised of two tiers over devices that no read can tell apart
pub record Paired (m n : Model) : Type 0 where
  pub alike : Alike m n
  pub sharp : (j k : ℕ) → Sharp m j n k
  pub equal_sums : (j k : ℕ) → EqualSums m j n k

-- of every tier that can be mounted, and of every two over equal devices
pub record LawsHold : Type 0 where
  pub each : (m : Model) → Mountable m → Promised m
  pub both : (m n : Model) → Mountable m → Mountable n → Same m.store n.store → Paired m n
