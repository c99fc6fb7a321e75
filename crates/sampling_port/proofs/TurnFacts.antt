-- A turn of a peer, with an honest writer in the world. The facts of the lines hold, and the reader
-- and the writer are at their next places.
use Rattle.std.proofs.Common.{◌⊎◌, ◌≡◌, ◌≢◌, ℕ, zero, suc, ◌+◌, ◌/◌, ◌%◌, ◌<◌, ◌≤◌, Bool, true, false, List, [], ◌∷◌, ◌++◌, length, refl, sym, ◌∙◌, ap, subst, arith, eq-eqb}
use Rattle.std.specs.Prelude.{◌==◌, nat_lt, if◌then◌else◌, Option, Some, None, reverse, slice_index, slice_set}
use Rattle.std.proofs.lemmas.Bool.{eqb-true, eqb-false, ne_eqb}
use Rattle.std.proofs.lemmas.Bool.Decides.{nat_tests}
use Rattle.std.proofs.lemmas.Grind.{common_steps}
use Rattle.std.proofs.lemmas.List.{append-nil, reverse-append}
use Rattle.std.proofs.lemmas.List.Sums.{sum_by-cons}
use Rattle.section_map.specs.Geometry.{Shape, section_start}
use Rattle.section_map.specs.MayWrite.{InSection}
use Rattle.section_map.proofs.SectionsAreApart.{sections_are_apart}
use Rattle.call_grammar.specs.Words.{words_for}
use Rattle.port_text.specs.Scenario.{World, IsWorld}
use Rattle.sampling_port.specs.declared.notes.PortField.TheVariants.{Sequence, Length}
use Rattle.sampling_port.specs.declared.notes.PortNote.{PortNote}
use Rattle.sampling_port.specs.declared.notes.PortNote.TheVariants as note
use Rattle.sampling_port.specs.declared.place.Place.{Place}
use Rattle.sampling_port.specs.declared.place.Place.TheVariants as place
use Rattle.sampling_port.specs.Layout.{length_place, data_place}
use Rattle.sampling_port.specs.Marks.{PortMark, Publish, Got, Nothing, Again, Refuse, marked}
use Rattle.sampling_port.specs.Calls.{is_length}
use Rattle.sampling_port.specs.Views.{PortView, IsPort, IsPlace, from_at, note_at, port_after, closed, got, reading_place, writing_place, other_start}
use Rattle.sampling_port.specs.EventRecords.{Line, Read, Wrote, Marked, mark_lines}
use Rattle.sampling_port.specs.Memory.{last_write}
use Rattle.sampling_port.specs.HistoryLaws.{is_of, is_read_of, publishes, published_by}
use Rattle.sampling_port.proofs.Buffers.{head_of, length_at, data_at, IsMessage, Opened, Writer, Same, head_in, length_in, data_in, same_beside, writer_same, wrote_sequence}
use Rattle.sampling_port.proofs.ReaderInSample.{Reader, At, Facts, facts_before, Looked, Before, reader_past, reader_published, published_read, first_look, length_look, word_look, second_look}

-- The message in hand of a peer that publishes

abbrev pub hand_at : PortView → Place → List (List ℕ)
hand_at port place.WritingLength = port.hand ∷ []
hand_at port (place.WritingWord at more) = port.hand ∷ []
hand_at port place.WritingSequence = port.hand ∷ []
hand_at port _ = []

abbrev pub hand_messages : PortView → List (List ℕ)
hand_messages port = hand_at port port.place

-- Lines of other peers

pub not_of : (p me word value : ℕ) → p ≢ me → (is_of p (Read me word value) ≡ 0) × (is_read_of p (Read me word value) ≡ 0)
not_of p me word value other = let e : (me == p) ≡ false = ne_eqb me p (λ s. other (sym s)) in (rw e refl, rw e refl)

pub not_wrote : (p me word value : ℕ) → p ≢ me → is_of p (Wrote me word value) ≡ 0
not_wrote p me word value other = let e : (me == p) ≡ false = ne_eqb me p (λ s. other (sym s)) in rw e refl

pub not_marked : (p me : ℕ) (mark : PortMark) → p ≢ me → is_of p (Marked me mark) ≡ 0
not_marked p me mark other = let e : (me == p) ≡ false = ne_eqb me p (λ s. other (sym s)) in rw e refl

other_reads : (world : World) (q p me word value : ℕ) (mark : Option PortMark) (past : List Line) (port : PortView) (done : List (List ℕ)) → p ≢ me → Reader world q p past port done → Reader world q p (mark_lines me mark ++ Read me word value ∷ past) port done
other_reads world q p me word value None past port done other r = let n = not_of p me word value other in reader_past world q p past port done (Read me word value) n.0 n.1 r
other_reads world q p me word value (Some mark) past port done other r =
    let n = not_of p me word value other in
    reader_past world q p (Read me word value ∷ past) port done (Marked me mark) (not_marked p me mark other) refl (reader_past world q p past port done (Read me word value) n.0 n.1 r)

-- A read changes no word, and publishes nothing

same_read : (world : World) (q me word value : ℕ) (mark : Option PortMark) (past : List Line) → Same world q past (mark_lines me mark ++ Read me word value ∷ past)
same_read world q me word value None past = λ w inside. refl
same_read world q me word value (Some mark) past = λ w inside. refl

no_publish : (q me : ℕ) (line : Line) (past : List Line) → publishes q line ≡ 0 → published_by q (line ∷ past) ≡ published_by q past
no_publish q me line past none = let s = sum_by-cons (publishes q) line past in omega arith

-- A mark of a sample publishes nothing.
abbrev IsOfSample : Option PortMark → Type 0
IsOfSample None = Unit {0}
IsOfSample (Some (Publish number)) = ⊥
IsOfSample (Some _) = Unit {0}

counted_read : (q me word value : ℕ) (mark : Option PortMark) (past : List Line) → IsOfSample mark → published_by q (mark_lines me mark ++ Read me word value ∷ past) ≡ published_by q past
counted_read q me word value None past is = published_read q me word value past
counted_read q me word value (Some (Publish number)) past is = absurd is
counted_read q me word value (Some (Got from number message)) past is = no_publish q me (Marked me (Got from number message)) (Read me word value ∷ past) refl ∙ published_read q me word value past
counted_read q me word value (Some (Nothing from)) past is = no_publish q me (Marked me (Nothing from)) (Read me word value ∷ past) refl ∙ published_read q me word value past
counted_read q me word value (Some (Again from first second)) past is = no_publish q me (Marked me (Again from first second)) (Read me word value ∷ past) refl ∙ published_read q me word value past
counted_read q me word value (Some (Refuse from field v)) past is = no_publish q me (Marked me (Refuse from field v)) (Read me word value ∷ past) refl ∙ published_read q me word value past

-- A sample of another peer

abbrev Beside : ℕ → Place → Type 0
Beside q (place.AtLength from sequence) = from ≢ q
Beside q (place.AtWord from sequence bytes at more) = from ≢ q
Beside q (place.AtSecond from sequence) = from ≢ q
Beside q _ = Unit {0}

at_beside : (world : World) (q p : ℕ) (past : List Line) (port : PortView) (done : List (List ℕ)) (at : Place) → Beside q at → At world q p past port done at
at_beside world q p past port done (place.AtLength from sequence) beside = λ e. absurd (beside e)
at_beside world q p past port done (place.AtWord from sequence bytes k more) beside = λ e. absurd (beside e)
at_beside world q p past port done (place.AtSecond from sequence) beside = λ e. absurd (beside e)
at_beside world q p past port done _ beside = tt

facts_beside : (world : World) (q p from word value : ℕ) (messages : List (List ℕ)) (hand : List ℕ) (n : Option PortNote) (past : List Line) → from ≢ q → word ≢ head_of world q → Facts world q messages None past →
    Facts world q messages None (mark_lines p (marked from hand n) ++ Read p word value ∷ past)
facts_beside world q p from word value messages hand None past other away facts = ((λ e. absurd (away e)), facts_before world q messages _ past facts)
facts_beside world q p from word value messages hand (Some (note.Publish number)) past other away facts = (tt, ((λ e. absurd (away e)), facts_before world q messages _ past facts))
facts_beside world q p from word value messages hand (Some (note.Got number)) past other away facts = ((λ e. absurd (other e)), ((λ e. absurd (away e)), facts_before world q messages _ past facts))
facts_beside world q p from word value messages hand (Some note.Nothing) past other away facts = ((λ e. absurd (other e)), ((λ e. absurd (away e)), facts_before world q messages _ past facts))
facts_beside world q p from word value messages hand (Some (note.Again first second)) past other away facts = ((λ e. absurd (other e)), ((λ e. absurd (away e)), facts_before world q messages _ past facts))
facts_beside world q p from word value messages hand (Some (note.Refuse field v)) past other away facts = ((λ e. absurd (other e)), ((λ e. absurd (away e)), facts_before world q messages _ past facts))

look_beside : (world : World) (q p from word value : ℕ) (messages : List (List ℕ)) (n : Option PortNote) (past : List Line) (port new : PortView) (done : List (List ℕ)) → IsWorld world → from ≢ q → InSection world.geometry from word →
    Facts world q messages None past → slice_index port.lasts q ≤ length done → slice_index new.lasts q ≡ slice_index port.lasts q → Beside q new.place →
    Looked world q p messages past word value (marked from port.hand n) new done
look_beside world q p from word value messages n past port new done is other inside facts last same beside = record {
  reader = record { last = omega arith; at = at_beside world q p _ new done new.place beside };
  facts = facts_beside world q p from word value messages port.hand n past other (λ e. sections_are_apart world.geometry from q word other inside (subst (λ (w : ℕ). InSection world.geometry q w) (sym e) (head_in world q is))) facts;
}

-- A step of a sample

-- The word that a sample reads next.
abbrev pub ReadsFrom : PortView → Place → ℕ → Type 0
ReadsFrom port (place.AtSequence from) word = word ≡ other_start port from
ReadsFrom port (place.AtLength from sequence) word = word ≡ other_start port from + length_place port.most sequence
ReadsFrom port (place.AtWord from sequence bytes at more) word = word ≡ other_start port from + data_place port.most sequence + at
ReadsFrom port (place.AtSecond from sequence) word = word ≡ other_start port from
ReadsFrom port _ word = ⊥

set_other : (lasts : List ℕ) (from q number : ℕ) → from ≢ q → slice_index (slice_set lasts from number) q ≡ slice_index lasts q
set_other lasts from q number other = grind (arith, common_steps, nat_tests)

first_beside : (port : PortView) (q from value : ℕ) (b c : Bool) → from ≢ q →
    (slice_index (if b then closed port else if c then closed port else record port { place = place.AtLength from value }).lasts q ≡ slice_index port.lasts q)
    × Beside q (if b then closed port else if c then closed port else record port { place = place.AtLength from value }).place
first_beside port q from value true c other = (refl, tt)
first_beside port q from value false true other = (refl, tt)
first_beside port q from value false false other = (refl, other)

reading_beside : (q from sequence bytes at count : ℕ) → from ≢ q → Beside q (reading_place from sequence bytes at count)
reading_beside q from sequence bytes at zero other = other
reading_beside q from sequence bytes at (suc more) other = other

length_beside : (port : PortView) (q from sequence value : ℕ) (b : Bool) → from ≢ q →
    (slice_index (if b then record port { place = reading_place from sequence value 0 (words_for value); hand = [] } else closed port).lasts q ≡ slice_index port.lasts q)
    × Beside q (if b then record port { place = reading_place from sequence value 0 (words_for value); hand = [] } else closed port).place
length_beside port q from sequence value true other = (refl, reading_beside q from sequence value 0 (words_for value) other)
length_beside port q from sequence value false other = (refl, tt)

second_beside : (port : PortView) (q from sequence : ℕ) (b : Bool) → from ≢ q → (slice_index (if b then got port from sequence else closed port).lasts q ≡ slice_index port.lasts q) × Beside q (if b then got port from sequence else closed port).place
second_beside port q from sequence true other = (set_other port.lasts from q sequence other, tt)
second_beside port q from sequence false other = (refl, tt)

-- One read of a sample, of any peer.
pub sample_step : (world : World) (q me : ℕ) (messages : List (List ℕ)) (past : List Line) (port : PortView) (done : List (List ℕ)) (p : Place) (word value : ℕ) → IsWorld world → q < world.geometry.peers → port.shape ≡ world.geometry → port.most ≡ world.most →
    IsPort port → IsPlace port p → port.place ≡ p → Before world q messages past done → Reader world q me past port done → ReadsFrom port p word → value ≡ last_write past word →
    Looked world q me messages past word value (marked (from_at p) port.hand (note_at port p value)) (port_after port p value) done
sample_step world q me messages past port done place.Closed word value is there shape most port_is place_is at before reader from same = absurd from
sample_step world q me messages past port done place.WritingLength word value is there shape most port_is place_is at before reader from same = absurd from
sample_step world q me messages past port done (place.WritingWord k more) word value is there shape most port_is place_is at before reader from same = absurd from
sample_step world q me messages past port done place.WritingSequence word value is there shape most port_is place_is at before reader from same = absurd from
sample_step world q me messages past port done (place.AtSequence from) word value is there shape most port_is place_is at before reader reads same =
    let word_is : word ≡ head_of world from = reads ∙ ap (λ (g : Shape). section_start g from) shape in
    by (from == q) refl word_is
  where
    by : (b : Bool) → (from == q) ≡ b → word ≡ head_of world from → Looked world q me messages past word value (marked from port.hand (note_at port (place.AtSequence from) value)) (port_after port (place.AtSequence from) value) done
    by true e word_is =
        let one : from ≡ q = eqb-true _ _ e in
        let head : word ≡ head_of world q = word_is ∙ ap (λ k. head_of world k) one in
        let v : value ≡ length done = same ∙ ap (λ k. last_write past k) head ∙ before.sequence in
        subst (λ (w : ℕ). Looked world q me messages past w value (marked from port.hand (note_at port (place.AtSequence from) value)) (port_after port (place.AtSequence from) value) done) (sym head)
        (subst (λ (f : ℕ). Looked world q me messages past (head_of world q) value (marked f port.hand (note_at port (place.AtSequence f) value)) (port_after port (place.AtSequence f) value) done) (sym one)
        (first_look world q me messages past port done value _ _ before reader.last v refl refl))
    by false e word_is =
        let other : from ≢ q = eqb-false _ _ e in
        let beside = first_beside port q from value (nat_lt value (slice_index port.lasts from)) (value == 0) other in
        look_beside world q me from word value messages (note_at port (place.AtSequence from) value) past port _ done is other (rw word_is (head_in world from is)) before.facts reader.last beside.0 beside.1
sample_step world q me messages past port done (place.AtLength from sequence) word value is there shape most port_is place_is at before reader reads same =
    let word_is : word ≡ length_at world from sequence = reads ∙ ap (λ (g : Shape). section_start g from + length_place port.most sequence) shape ∙ ap (λ m. head_of world from + length_place m sequence) most in
    by (from == q) refl word_is (subst (λ (x : Place). At world q me past port done x) at reader.at)
  where
    by : (b : Bool) → (from == q) ≡ b → word ≡ length_at world from sequence → At world q me past port done (place.AtLength from sequence) →
        Looked world q me messages past word value (marked from port.hand (note_at port (place.AtLength from sequence) value)) (port_after port (place.AtLength from sequence) value) done
    by true e word_is here =
        let one : from ≡ q = eqb-true _ _ e in
        let h = here one in
        let head : word ≡ length_at world q sequence = word_is ∙ ap (λ k. length_at world k sequence) one in
        let v : value ≡ last_write past (length_at world q sequence) = same ∙ ap (λ k. last_write past k) head in
        subst (λ (w : ℕ). Looked world q me messages past w value (marked from port.hand (note_at port (place.AtLength from sequence) value)) (port_after port (place.AtLength from sequence) value) done) (sym head)
        (subst (λ (f : ℕ). Looked world q me messages past (length_at world q sequence) value (marked f port.hand (note_at port (place.AtLength f sequence) value)) (port_after port (place.AtLength f sequence) value) done) (sym one)
        (length_look world q me messages past port done sequence value _ is most before reader h.0 h.1 v refl))
    by false e word_is here =
        let other : from ≢ q = eqb-false _ _ e in
        let beside = length_beside port q from sequence value (is_length port.most value) other in
        look_beside world q me from word value messages (note_at port (place.AtLength from sequence) value) past port _ done is other (rw word_is (length_in world from sequence is)) before.facts reader.last beside.0 beside.1
sample_step world q me messages past port done (place.AtWord from sequence bytes k more) word value is there shape most port_is place_is at before reader reads same =
    let word_is : word ≡ data_at world from sequence k = reads ∙ ap (λ (g : Shape). section_start g from + data_place port.most sequence + k) shape ∙ ap (λ m. head_of world from + data_place m sequence + k) most in
    by (from == q) refl word_is (subst (λ (x : Place). At world q me past port done x) at reader.at)
  where
    few : (k more bytes m : ℕ) → k + more + 1 ≡ words_for bytes → bytes ≤ m → m % 4 ≡ 0 → k < m / 4
    few k more bytes m all fits four = omega arith

    by : (b : Bool) → (from == q) ≡ b → word ≡ data_at world from sequence k → At world q me past port done (place.AtWord from sequence bytes k more) →
        Looked world q me messages past word value None (port_after port (place.AtWord from sequence bytes k more) value) done
    by true e word_is here =
        let one : from ≡ q = eqb-true _ _ e in
        let h = here one in
        let head : word ≡ data_at world q sequence k = word_is ∙ ap (λ i. data_at world i sequence k) one in
        let v : value ≡ last_write past (data_at world q sequence k) = same ∙ ap (λ i. last_write past i) head in
        subst (λ (w : ℕ). Looked world q me messages past w value None (port_after port (place.AtWord from sequence bytes k more) value) done) (sym head)
        (subst (λ (f : ℕ). Looked world q me messages past (data_at world q sequence k) value None (port_after port (place.AtWord f sequence bytes k more) value) done) (sym one)
        (word_look world q me messages past port done sequence bytes k more value before reader place_is.2 place_is.3 h.0 h.1 h.2 v))
    by false e word_is here =
        let other : from ≢ q = eqb-false _ _ e in
        look_beside world q me from word value messages None past port (port_after port (place.AtWord from sequence bytes k more) value) done is other
        (rw word_is (data_in world from sequence k is (few k more bytes world.most place_is.3 (omega (arith, place_is.1)) is.size.0))) before.facts reader.last refl (reading_beside q from sequence bytes (k + 1) more other)
sample_step world q me messages past port done (place.AtSecond from sequence) word value is there shape most port_is place_is at before reader reads same =
    let word_is : word ≡ head_of world from = reads ∙ ap (λ (g : Shape). section_start g from) shape in
    by (from == q) refl word_is (subst (λ (x : Place). At world q me past port done x) at reader.at)
  where
    by : (b : Bool) → (from == q) ≡ b → word ≡ head_of world from → At world q me past port done (place.AtSecond from sequence) →
        Looked world q me messages past word value (marked from port.hand (note_at port (place.AtSecond from sequence) value)) (port_after port (place.AtSecond from sequence) value) done
    by true e word_is here =
        let one : from ≡ q = eqb-true _ _ e in
        let h = here one in
        let head : word ≡ head_of world q = word_is ∙ ap (λ k. head_of world k) one in
        let v : value ≡ length done = same ∙ ap (λ k. last_write past k) head ∙ before.sequence in
        let eight = port_is.lasts in
        let few = is.few in
        subst (λ (w : ℕ). Looked world q me messages past w value (marked from port.hand (note_at port (place.AtSecond from sequence) value)) (port_after port (place.AtSecond from sequence) value) done) (sym head)
        (subst (λ (f : ℕ). Looked world q me messages past (head_of world q) value (marked f port.hand (note_at port (place.AtSecond f sequence) value)) (port_after port (place.AtSecond f sequence) value) done) (sym one)
        (second_look world q me messages past port done sequence value _ (omega arith) before reader h.0 h.1 h.2 v refl))
    by false e word_is here =
        let other : from ≢ q = eqb-false _ _ e in
        let beside = second_beside port q from sequence (value == sequence) other in
        look_beside world q me from word value messages (note_at port (place.AtSecond from sequence) value) past port _ done is other (rw word_is (head_in world from is)) before.facts reader.last beside.0 beside.1

-- A step of an open call

abbrev pub Grown : List (List ℕ) → List (List ℕ) → Type 0
Grown done new = (new ≡ done) ⊎ ((m : List ℕ) × (new ≡ m ∷ done))

-- The state after a peer's step.
pub record Stepped (world : World) (q me : ℕ) (messages : List (List ℕ)) (past next : List Line) (old new : PortView) (done : List (List ℕ)) : Type 0 where
  pub then_done : List (List ℕ)
  pub facts : Facts world q messages None next
  pub counted : published_by q next ≡ length then_done
  pub reader : Reader world q me next new then_done
  pub others : (p : ℕ) (port : PortView) → p ≢ me → Reader world q p past port done → Reader world q p next port then_done
  pub mine : me ≡ q → Writer world q next new then_done × (reverse then_done ++ hand_messages new ≡ reverse done ++ hand_messages old)
  pub beside : me ≢ q → Same world q past next × (then_done ≡ done)

-- The facts known of the peer that makes the step.
pub record Stands (world : World) (q me : ℕ) (port : PortView) (past : List Line) (done : List (List ℕ)) : Type 0 where
  pub port_is : IsPort port
  pub shape : port.shape ≡ world.geometry
  pub me_is : port.me ≡ me
  pub most : port.most ≡ world.most
  pub reader : Reader world q me past port done
  pub writer : me ≡ q → Writer world q past port done
  pub message : me ≡ q → (p : Place) → port.place ≡ p → (m : List ℕ) → hand_at port p ≡ m ∷ [] → IsMessage world m

-- a sample's step

note_of_sample : (port : PortView) (p : Place) (value : ℕ) (hand : List ℕ) (word : ℕ) → ReadsFrom port p word → IsOfSample (marked (from_at p) hand (note_at port p value))
note_of_sample port place.Closed value hand word reads = absurd reads
note_of_sample port place.WritingLength value hand word reads = absurd reads
note_of_sample port (place.WritingWord k more) value hand word reads = absurd reads
note_of_sample port place.WritingSequence value hand word reads = absurd reads
note_of_sample port (place.AtSequence from) value hand word reads = by _ _
  where
    by : (b c : Bool) → IsOfSample (marked from hand (if b then Some (note.Refuse Sequence value) else if c then Some note.Nothing else None))
    by true c = tt
    by false true = tt
    by false false = tt
note_of_sample port (place.AtLength from sequence) value hand word reads = by _
  where
    by : (b : Bool) → IsOfSample (marked from hand (if b then None else Some (note.Refuse Length value)))
    by true = tt
    by false = tt
note_of_sample port (place.AtWord from sequence bytes k more) value hand word reads = tt
note_of_sample port (place.AtSecond from sequence) value hand word reads = by _
  where
    by : (b : Bool) → IsOfSample (marked from hand (if b then Some (note.Got sequence) else Some (note.Again sequence value)))
    by true = tt
    by false = tt

-- A port that samples writes nothing after a step either.
record Reading (world : World) (q : ℕ) (past : List Line) (port new : PortView) : Type 0 where
  published : new.published ≡ port.published
  writing : Opened world q past new new.place
  none : hand_messages new ≡ []

reading_at : (world : World) (q : ℕ) (past : List Line) (port new : PortView) (from sequence bytes at count : ℕ) → new.published ≡ port.published → new.place ≡ reading_place from sequence bytes at count → Reading world q past port new
reading_at world q past port new from sequence bytes at zero same is = record { published = same; writing = rw is tt; none = rw is refl }
reading_at world q past port new from sequence bytes at (suc more) same is = record { published = same; writing = rw is tt; none = rw is refl }

reading_after : (world : World) (q : ℕ) (past : List Line) (port : PortView) (p : Place) (value word : ℕ) → ReadsFrom port p word → Reading world q past port (port_after port p value)
reading_after world q past port place.Closed value word reads = absurd reads
reading_after world q past port place.WritingLength value word reads = absurd reads
reading_after world q past port (place.WritingWord k more) value word reads = absurd reads
reading_after world q past port place.WritingSequence value word reads = absurd reads
reading_after world q past port (place.AtSequence from) value word reads = by _ _
  where
    by : (b c : Bool) → Reading world q past port (if b then closed port else if c then closed port else record port { place = place.AtLength from value })
    by true c = record { published = refl; writing = tt; none = refl }
    by false true = record { published = refl; writing = tt; none = refl }
    by false false = record { published = refl; writing = tt; none = refl }
reading_after world q past port (place.AtLength from sequence) value word reads = by _
  where
    by : (b : Bool) → Reading world q past port (if b then record port { place = reading_place from sequence value 0 (words_for value); hand = [] } else closed port)
    by true = reading_at world q past port (record port { place = reading_place from sequence value 0 (words_for value); hand = [] }) from sequence value 0 (words_for value) refl refl
    by false = record { published = refl; writing = tt; none = refl }
reading_after world q past port (place.AtWord from sequence bytes k more) value word reads = reading_at world q past port (port_after port (place.AtWord from sequence bytes k more) value) from sequence bytes (k + 1) more refl refl
reading_after world q past port (place.AtSecond from sequence) value word reads = by _
  where
    by : (b : Bool) → Reading world q past port (if b then got port from sequence else closed port)
    by true = record { published = refl; writing = tt; none = refl }
    by false = record { published = refl; writing = tt; none = refl }

no_hand : (port : PortView) (p : Place) (word : ℕ) → ReadsFrom port p word → hand_at port p ≡ []
no_hand port (place.AtSequence from) word reads = refl
no_hand port (place.AtLength from sequence) word reads = refl
no_hand port (place.AtWord from sequence bytes k more) word reads = refl
no_hand port (place.AtSecond from sequence) word reads = refl
no_hand port _ word reads = absurd reads

pub sample_stepped : (world : World) (q me : ℕ) (messages : List (List ℕ)) (past : List Line) (port : PortView) (done : List (List ℕ)) (p : Place) (word value : ℕ) → IsWorld world → q < world.geometry.peers → Before world q messages past done →
    Stands world q me port past done → port.place ≡ p → IsPlace port p → ReadsFrom port p word → value ≡ last_write past word →
    Stepped world q me messages past (mark_lines me (marked (from_at p) port.hand (note_at port p value)) ++ Read me word value ∷ past) port (port_after port p value) done
sample_stepped world q me messages past port done p word value is there before refines at place_is reads same =
    let mark = marked (from_at p) port.hand (note_at port p value) in
    let looked = sample_step world q me messages past port done p word value is there refines.shape refines.most refines.port_is place_is at before refines.reader reads same in
    let after = reading_after world q (mark_lines me mark ++ Read me word value ∷ past) port p value word reads in
    record {
      then_done = done;
      facts = looked.facts;
      counted = counted_read q me word value mark past (note_of_sample port p value port.hand word reads) ∙ before.counted;
      reader = looked.reader;
      others = λ o other_port other r. other_reads world q o me word value mark past other_port done other r;
      mine = λ e. (
        writer_same world q past _ port (port_after port p value) done is (same_read world q me word value mark past) (refines.writer e) after.published after.writing,
        ap (λ hs. reverse done ++ hs) (after.none ∙ sym (rw at (no_hand port p word reads))),
      );
      beside = λ other. (same_read world q me word value mark past, refl);
    }

-- a publish's step

counted_write : (q me at value : ℕ) (past : List Line) → published_by q (Wrote me at value ∷ past) ≡ published_by q past
counted_write q me at value past = no_publish q me (Wrote me at value) past refl

other_writes : (world : World) (q p me at value : ℕ) (past : List Line) (port : PortView) (done : List (List ℕ)) → p ≢ me → Reader world q p past port done → Reader world q p (Wrote me at value ∷ past) port done
other_writes world q p me at value past port done other r = reader_past world q p past port done (Wrote me at value) (not_wrote p me at value other) refl r

writing_at : (world : World) (q me : ℕ) (past : List Line) (port : PortView) (done : List (List ℕ)) (at count : ℕ) → At world q me past (record port { place = writing_place at count }) done (writing_place at count)
writing_at world q me past port done at zero = tt
writing_at world q me past port done at (suc more) = tt

hand_writing : (port : PortView) (at count : ℕ) → hand_at (record port { place = writing_place at count }) (writing_place at count) ≡ port.hand ∷ []
hand_writing port at zero = refl
hand_writing port at (suc more) = refl

-- A word of the message, or its length.
pub write_stepped : (world : World) (q me : ℕ) (messages : List (List ℕ)) (past : List Line) (port : PortView) (done : List (List ℕ)) (word written k count : ℕ) → IsWorld world → Before world q messages past done → Stands world q me port past done →
    InSection world.geometry me word → hand_messages port ≡ port.hand ∷ [] → (me ≡ q → Writer world q (Wrote me word written ∷ past) (record port { place = writing_place k count }) done) →
    Stepped world q me messages past (Wrote me word written ∷ past) port (record port { place = writing_place k count }) done
write_stepped world q me messages past port done word written k count is before refines inside hand writer = record {
  then_done = done;
  facts = (tt, facts_before world q messages _ past before.facts);
  counted = counted_write q me word written past ∙ before.counted;
  reader = record { last = refines.reader.last; at = writing_at world q me _ port done k count };
  others = λ o other_port other r. other_writes world q o me word written past other_port done other r;
  mine = λ e. (writer e, ap (λ hs. reverse done ++ hs) (hand_writing port k count ∙ sym hand));
  beside = λ other. (same_beside world q me word written past other inside, refl);
}

published_mine : (q me number : ℕ) (past : List Line) → me ≡ q → published_by q (Marked me (Publish number) ∷ past) ≡ published_by q past + 1
published_mine q me number past e =
    let one : publishes q (Marked me (Publish number)) ≡ 1 = rw (eq-eqb me q e) refl in
    let s = sum_by-cons (publishes q) (Marked me (Publish number)) past in
    omega arith

published_other : (q me number : ℕ) (past : List Line) → me ≢ q → published_by q (Marked me (Publish number) ∷ past) ≡ published_by q past
published_other q me number past other = no_publish q me (Marked me (Publish number)) past (rw (ne_eqb me q other) refl)

-- The number of the message, with which it is published.
pub sequence_stepped : (world : World) (q me : ℕ) (messages : List (List ℕ)) (past : List Line) (port : PortView) (done : List (List ℕ)) → IsWorld world → Before world q messages past done → Stands world q me port past done → port.place ≡ place.WritingSequence → (b : Bool) → (me == q) ≡ b →
    Stepped world q me messages past (Marked me (Publish (port.published + 1)) ∷ Wrote me (head_of world me) (port.published + 1) ∷ past) port (port_after port place.WritingSequence 0) done
sequence_stepped world q me messages past port done is before refines at true e =
    let same : me ≡ q = eqb-true _ _ e in
    let n = port.published + 1 in
    let wrote = Wrote me (head_of world me) n ∷ past in
    let message : IsMessage world port.hand = refines.message same place.WritingSequence at port.hand refl in
    let new = port_after port place.WritingSequence 0 in
    let writer : Writer world q (Marked q (Publish n) ∷ Wrote q (head_of world q) n ∷ past) new (port.hand ∷ done) = wrote_sequence world q (Publish n) past port new done is message at refl refl (refines.writer same) in
    let counted = published_mine q me n wrote same in
    let before_counted = before.counted in
    let written = counted_write q me (head_of world me) n past in
    record {
      then_done = port.hand ∷ done;
      facts = (tt, (tt, facts_before world q messages _ past before.facts));
      counted = omega arith;
      reader = record { last = omega (arith, refines.reader.last); at = tt };
      others = λ o other_port other r.
          reader_published world q o _ other_port done port.hand (reader_past world q o wrote other_port done (Marked me (Publish n)) (not_marked o me (Publish n) other) refl (other_writes world q o me (head_of world me) n past other_port done other r));
      mine = λ s. (subst (λ (k : ℕ). Writer world q (Marked k (Publish n) ∷ Wrote k (head_of world k) n ∷ past) new (port.hand ∷ done)) (sym same) writer, order);
      beside = λ other. absurd (other same);
    }
  where
    order : reverse (port.hand ∷ done) ++ [] ≡ reverse done ++ hand_messages port
    order = append-nil (reverse (port.hand ∷ done)) ∙ reverse-append (port.hand ∷ []) done ∙ ap (λ hs. reverse done ++ hs) (sym (ap (hand_at port) at))
sequence_stepped world q me messages past port done is before refines at false e =
    let other : me ≢ q = eqb-false _ _ e in
    let n = port.published + 1 in
    let wrote = Wrote me (head_of world me) n ∷ past in
    let counted = published_other q me n wrote other in
    record {
      then_done = done;
      facts = (tt, (tt, facts_before world q messages _ past before.facts));
      counted = counted ∙ counted_write q me (head_of world me) n past ∙ before.counted;
      reader = record { last = refines.reader.last; at = tt };
      others = λ o other_port away r. reader_past world q o wrote other_port done (Marked me (Publish n)) (not_marked o me (Publish n) away) refl (other_writes world q o me (head_of world me) n past other_port done away r);
      mine = λ same. absurd (other same);
      beside = λ away. ((λ w inside. same_beside world q me (head_of world me) n past away (head_in world me is) w inside), refl);
    }
