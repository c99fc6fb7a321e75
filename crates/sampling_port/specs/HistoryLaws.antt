-- Laws of every lawful history of ports.
use Rattle.std.specs.Prelude.{ℕ, ◌≡◌, ◌+◌, ◌-◌, ◌<◌, ◌≤◌, ◌==◌, if◌then◌else◌, true, Some, List, [], ◌∷◌, ◌++◌, length, slice_get, sum_by}
use Rattle.std.specs.List.{flat_map}
use Rattle.section_map.specs.Geometry.{section_start}
use Rattle.call_grammar.specs.Words.{words_for}
use Rattle.port_text.specs.declared.acts.Act.{Act}
use Rattle.port_text.specs.declared.acts.Act.TheVariants as act
use Rattle.port_text.specs.Scenario.{World, IsWorld, is_honest}
use Rattle.sampling_port.specs.declared.notes.PortField.{PortField}
use Rattle.sampling_port.specs.Marks.{Publish, Got, Nothing, Again, Refuse}
use Rattle.sampling_port.specs.EventRecords.{Line, Read, Wrote, Denied, Idle, Marked}
use Rattle.sampling_port.specs.Lawful.{IsLawful}

-- The messages that the acts let `writer` publish, in their order: message number n is the n-th of
-- them.
abbrev pub message_in : ℕ → Act → List (List ℕ)
message_in writer (act.Publish peer message) = if peer == writer then message ∷ [] else []
message_in writer _ = []

abbrev pub messages_of : ℕ → List Act → List (List ℕ)
messages_of writer acts = flat_map (message_in writer) acts

-- The number of messages that `writer` published in these lines.
abbrev pub publishes : ℕ → Line → ℕ
publishes writer (Marked peer (Publish number)) = if peer == writer then 1 else 0
publishes writer _ = 0

abbrev pub published_by : ℕ → List Line → ℕ
published_by writer lines = sum_by (publishes writer) lines

-- The number of these lines that are of `reader`, and the number of its reads among them.
abbrev pub is_of : ℕ → Line → ℕ
is_of reader (Read peer word value) = if peer == reader then 1 else 0
is_of reader (Wrote peer word value) = if peer == reader then 1 else 0
is_of reader (Denied peer word) = if peer == reader then 1 else 0
is_of reader (Idle peer) = if peer == reader then 1 else 0
is_of reader (Marked peer mark) = if peer == reader then 1 else 0

abbrev pub is_read_of : ℕ → Line → ℕ
is_read_of reader (Read peer word value) = if peer == reader then 1 else 0
is_read_of reader _ = 0

abbrev pub lines_by_peer : ℕ → List Line → ℕ
lines_by_peer reader lines = sum_by (is_of reader) lines

abbrev pub reads_by_peer : ℕ → List Line → ℕ
reads_by_peer reader lines = sum_by (is_read_of reader) lines

-- The numbers of the messages that a reader got of a writer never fall.
abbrev pub NumbersNeverFall : Type 0
NumbersNeverFall = (world : World) (before mid after : List Line) (reader writer number later : ℕ) (message other : List ℕ) → IsWorld world
    → IsLawful world (before ++ Marked reader (Got writer number message) ∷ mid ++ Marked reader (Got writer later other) ∷ after) → number ≤ later

-- The message that a reader got from a writer, after these lines and in this schedule. The first
-- look is the oldest of the reads that such a sample makes. At that look the writer had published
-- exactly the messages up to this one. The bytes are those of that message in the schedule.
pub record IsGot (world : World) (before : List Line) (reader writer number : ℕ) (message : List ℕ) : Type 0 where
  pub early : List Line
  pub late : List Line
  pub first_look : before ≡ early ++ Read reader (section_start world.geometry writer) number ∷ late
  pub lines : lines_by_peer reader late ≡ words_for (length message) + 2
  pub reads : reads_by_peer reader late ≡ words_for (length message) + 2
  pub published : published_by writer early ≡ number
  pub some : 1 ≤ number
  pub message_is : slice_get (messages_of writer world.acts) (number - 1) ≡ Some message

-- A reader that got a message of an honest writer got the one published last before its first look,
-- whole.
abbrev pub GotIsPublished : Type 0
GotIsPublished = (world : World) (before after : List Line) (reader writer number : ℕ) (message : List ℕ) → IsWorld world → is_honest world writer ≡ true
    → IsLawful world (before ++ Marked reader (Got writer number message) ∷ after) → IsGot world before reader writer number message

-- A look at the sequence of an honest writer reads the number of messages that it published.
abbrev pub LooksCountPublishes : Type 0
LooksCountPublishes = (world : World) (before after : List Line) (reader writer value : ℕ) → IsWorld world → is_honest world writer ≡ true
    → IsLawful world (before ++ Read reader (section_start world.geometry writer) value ∷ after) → value ≡ published_by writer before

-- A look that gives 0 is followed by `none`.
abbrev pub ZeroIsNothing : Type 0
ZeroIsNothing = (world : World) (before after : List Line) (reader writer : ℕ) → IsWorld world → is_honest world writer ≡ true
    → IsLawful world (before ++ Read reader (section_start world.geometry writer) 0 ∷ after)
    → (rest : List Line) × (after ≡ Marked reader (Nothing writer) ∷ rest)

-- `none` occurs only if an honest writer published nothing.
abbrev pub NothingIsUnpublished : Type 0
NothingIsUnpublished = (world : World) (before after : List Line) (reader writer : ℕ) → IsWorld world → is_honest world writer ≡ true
    → IsLawful world (before ++ Marked reader (Nothing writer) ∷ after) → published_by writer before ≡ 0

-- If the sequence of an honest writer changed during a sample, it rose to the number of messages
-- published.
abbrev pub AgainIsLater : Type 0
AgainIsLater = (world : World) (before after : List Line) (reader writer first second : ℕ) → IsWorld world → is_honest world writer ≡ true
    → IsLawful world (before ++ Marked reader (Again writer first second) ∷ after) → (first < second) × (second ≡ published_by writer before)

-- An honest writer is never refused.
abbrev pub HonestIsNotRefused : Type 0
HonestIsNotRefused = (world : World) (before after : List Line) (reader writer value : ℕ) (field : PortField) → IsWorld world → is_honest world writer ≡ true
    → ¬ IsLawful world (before ++ Marked reader (Refuse writer field value) ∷ after)
