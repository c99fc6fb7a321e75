-- The counts of an end.
use Rattle.std.specs.Prelude.{ℕ, ◌+◌, ◌%◌, ◌^◌, List, [], ◌∷◌}
use Rattle.link_handshake.specs.declared.Phase.{Phase}
use Rattle.link_handshake.specs.declared.Phase.TheVariants.{Ready}
use Rattle.split_ring.specs.declared.steps.Note.{Note}
use Rattle.split_ring.specs.declared.steps.Note.TheVariants as note
use Rattle.ivshm_c.specs.declared.counts.Counts.{Counts}

-- A new end has counted nothing.
abbrev pub no_counts : Counts
no_counts = record { sessions = 0; accepted = 0; full = 0; down = 0; delivered = 0; refused = 0 }

-- Counts are modulo 2 ^ 64.
abbrev pub one_more : ℕ → ℕ
one_more count = (count + 1) % 2 ^ 64

-- The counts after a note.
abbrev pub noted : Note → Counts → Counts
noted note.Accept counts = record counts { accepted = one_more counts.accepted }
noted note.Full counts = record counts { full = one_more counts.full }
noted note.Down counts = record counts { down = one_more counts.down }
noted note.Deliver counts = record counts { delivered = one_more counts.delivered }
noted (note.Refuse refused) counts = record counts { refused = one_more counts.refused }
noted _ counts = counts

-- The counts after the notes of a step, in order.
abbrev pub noted_all : List Note → Counts → Counts
noted_all [] counts = counts
noted_all (n ∷ notes) counts = noted_all notes (noted n counts)

-- A session opens when the phase becomes READY.
abbrev pub opened : (old new : Phase) → Counts → Counts
opened Ready new counts = counts
opened old Ready counts = record counts { sessions = one_more counts.sessions }
opened old new counts = counts

-- The counts after a step with these notes that led from the phase `old` to the phase `new`.
abbrev pub counts_after : (old new : Phase) → List Note → Counts → Counts
counts_after old new notes counts = noted_all notes (opened old new counts)
