-- The invariant of every port, step by step.
use Rattle.std.proofs.Common.{◌≡◌, ℕ, zero, suc, ◌+◌, ◌*◌, ◌^◌, ◌<◌, ◌≤◌, Bool, true, false, List, [], ◌++◌, length, take, arith, refl, ◌∙◌, length-set}
use Rattle.std.specs.Prelude.{if◌then◌else◌, slice_set}
use Rattle.std.proofs.lemmas.Bool.Decides.{nat_tests}
use Rattle.std.proofs.lemmas.List.{length-take, length-append}
use Rattle.call_grammar.specs.Words.{words_for, word_bytes}
use Rattle.sampling_port.specs.declared.place.Place.{Place}
use Rattle.sampling_port.specs.declared.place.Place.TheVariants as place
use Rattle.sampling_port.specs.Calls.{is_length}
use Rattle.sampling_port.specs.Views.{PortView, IsPort, IsPlace, writing_place, reading_place, closed, got, port_after}

-- A port with these counts, place and bytes.
changed : (port : PortView) (published : ℕ) (lasts : List ℕ) (at : Place) (hand message : List ℕ) → IsPort port → length lasts ≡ length port.lasts → length hand ≤ port.most → length message ≤ port.most →
    IsPlace (record port { published = published; lasts = lasts; place = at; hand = hand; message = message }) at → IsPort (record port { published = published; lasts = lasts; place = at; hand = hand; message = message })
changed port published lasts at hand message is count few short there = record {
  shaped = is.shaped;
  few = is.few;
  me = is.me;
  size = is.size;
  room = is.room;
  lasts = count ∙ is.lasts;
  hand = few;
  message = short;
  place = there;
}

-- A port at another place, with other bytes in hand.
pub moved : (port : PortView) (at : Place) (hand : List ℕ) → IsPort port → length hand ≤ port.most → IsPlace (record port { place = at; hand = hand }) at → IsPort (record port { place = at; hand = hand })
moved port at hand is few there = changed port _ _ at hand _ is refl few is.message there

writing : (port : PortView) (at count : ℕ) → IsPort port → at + count ≡ words_for (length port.hand) → port.published + 1 < 2 ^ 32 → IsPort (record port { place = writing_place at count })
writing port at zero is all number = moved port place.WritingSequence port.hand is is.hand number
writing port at (suc more) is all number = moved port (place.WritingWord at more) port.hand is is.hand (omega arith, number)

reading : (port : PortView) (from sequence bytes at count : ℕ) (hand : List ℕ) → IsPort port → from < port.shape.peers → bytes ≤ port.most → length hand ≤ port.most → (0 < count → length hand ≡ 4 * at) → at + count ≡ words_for bytes →
    IsPort (record port { place = reading_place from sequence bytes at count; hand = hand })
reading port from sequence bytes at zero hand is there few fits full all = moved port (place.AtSecond from sequence) hand is fits there
reading port from sequence bytes at (suc more) hand is there few fits full all = moved port (place.AtWord from sequence bytes at more) hand is fits (there, few, full (omega arith), omega arith)

pub closed_kept : (port : PortView) → IsPort port → IsPort (closed port)
closed_kept port is = moved port place.Closed [] is (omega arith) tt

length_ok : (most value : ℕ) → is_length most value ≡ true → (1 ≤ value) × (value ≤ most)
length_ok most value is = (grind (arith, nat_tests), grind (arith, nat_tests))

first_kept : (port : PortView) (from value : ℕ) (b c : Bool) → IsPort port → from < port.shape.peers →
    IsPort (if b then closed port else if c then closed port else record port { place = place.AtLength from value })
first_kept port from value true c is there = closed_kept port is
first_kept port from value false true is there = closed_kept port is
first_kept port from value false false is there = moved port (place.AtLength from value) port.hand is is.hand there

length_kept : (port : PortView) (from sequence value : ℕ) (b : Bool) → is_length port.most value ≡ b → IsPort port → from < port.shape.peers →
    IsPort (if b then record port { place = reading_place from sequence value 0 (words_for value); hand = [] } else closed port)
length_kept port from sequence value true ok is there =
    let within = length_ok port.most value ok in
    reading port from sequence value 0 (words_for value) [] is there within.1 (omega arith) (λ some. refl) (omega arith)
length_kept port from sequence value false ok is there = closed_kept port is

second_kept : (port : PortView) (from sequence : ℕ) (b : Bool) → IsPort port → IsPort (if b then got port from sequence else closed port)
second_kept port from sequence true is = changed port _ (slice_set port.lasts from sequence) place.Closed [] port.hand is (length-set port.lasts from sequence) (omega arith) is.hand tt
second_kept port from sequence false is = closed_kept port is

four : (value : ℕ) → length (word_bytes value) ≡ 4
four value = refl

-- A step of an open call preserves the invariant.
pub port_kept : (port : PortView) (p : Place) (value : ℕ) → port.place ≡ p → IsPort port → IsPlace port p → IsPort (port_after port p value)
port_kept port place.Closed value at is there = is
port_kept port place.WritingLength value at is there = writing port 0 (words_for (length port.hand)) is (omega arith) there.1
port_kept port (place.WritingWord more rest) value at is there = writing port (more + 1) rest is (omega (arith, there.0)) there.1
port_kept port place.WritingSequence value at is there = changed port (port.published + 1) _ place.Closed [] _ is refl (omega arith) is.message tt
port_kept port (place.AtSequence from) value at is there = first_kept port from value _ _ is there
port_kept port (place.AtLength from sequence) value at is there = length_kept port from sequence value _ refl is there
port_kept port (place.AtWord from sequence bytes k more) value at is there =
    let hand = take bytes (port.hand ++ word_bytes value) in
    let size = length-take bytes (port.hand ++ word_bytes value) in
    let both = length-append port.hand (word_bytes value) in
    let four_more = four value in
    let before = there.2 in
    let all = there.3 in
    let few = there.1 in
    reading port from sequence bytes (k + 1) more hand is there.0 few (omega arith) (λ some. omega arith) (omega arith)
port_kept port (place.AtSecond from sequence) value at is there = second_kept port from sequence _ is
