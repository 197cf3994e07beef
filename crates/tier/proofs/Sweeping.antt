-- One row synced from its front, one entry after another.
use Rattle.std.proofs.Common.{◌≡◌, true, List, ◌++◌, sym, refl}
use Rattle.std.proofs.lemmas.Bool.{true≢false}
use Rattle.row.specs.declared.frame.Mark.{Mark}
use Rattle.row.specs.declared.frame.Mark.TheVariants.{Saved, Unsaved}
use Rattle.row.specs.Entries.{Entry, is_saved}
use Rattle.tier.specs.Syncs.{Swept, saved_copy}

saved_mark : (k : Mark) → is_saved k ≡ true → k ≡ Saved
saved_mark Saved h = refl
saved_mark Unsaved h = absurd (true≢false (sym h))

pub saved_same : (e : Entry) → is_saved e.mark ≡ true → e ≡ saved_copy e
saved_same e h = λ i. record { number = e.number; bytes = e.bytes; mark = saved_mark e.mark h i }

-- some entries before what a sweep leaves
abbrev pub preceded : List Entry → Swept → Swept
preceded ds w = record { entries = ds ++ w.entries; store = w.store; stopped = w.stopped }
