-- The frames in flight of an honest peer, as its section spells them.
use Rattle.std.proofs.Common.{◌≡◌, ℕ, ◌+◌, ◌%◌, ◌<◌, ◌≤◌, inl, inr, true, List, length, refl, sym, ◌∙◌, subst, arith}
use Rattle.std.proofs.lemmas.Nat.{mod_below}
use Rattle.split_ring.specs.Layout.{size_of, limit_of, word_offset, DescAddress}
use Rattle.split_ring.specs.Spelling.{address_at, Spells}
use Rattle.link_handshake.specs.declared.Phase.{Phase}
use Rattle.call_grammar.specs.Ends.{End}
use Rattle.call_grammar.specs.Offers.{PendingOffer}
use Rattle.call_grammar.specs.Places.{Place, ReadingUsedIndex, ReadingUsedId}
use Rattle.link_invariant.specs.Fields.{AddressLow, AddressHigh}
use Rattle.link_invariant.specs.LinkConfig.{LinkConfig, IsLinkConfig, section_of, fields}
use Rattle.link_invariant.specs.EndInvariant.{frame_at, start_in, Spelled, Opened, EndInvariant}
use Rattle.link_invariant.specs.Pair.{freed_at}
use Rattle.link_invariant.specs.LinkInvariant.{SectionSpells}
use Rattle.link_invariant.proofs.Fields.{numbers, one_test, field_read}
use Rattle.link_invariant.proofs.EndObligations.{run_ready}
use Rattle.link_invariant.proofs.PairObligations.{room_at}
use Rattle.link_invariant.proofs.LinkInvariantKept.{frames_are_spelled}
use Rattle.shared_words.specs.declared.run_setup.RunSetup.{RunSetup}
use Rattle.shared_words.specs.RunSetups.{link_config_of, honest_of, IsFit}
use Rattle.shared_words.specs.DerivedStates.{CallAccess, MemoryOp}
use Rattle.shared_words.specs.SharedMemory.{OperationsMade}
use Rattle.peer_runner.specs.RunningLaws.{end_by, place_by, InSession, FlightIsSpelled}
use Rattle.shared_words.proofs.LinkOfSetup.{same_section, is_link_config, honest_below}
use Rattle.peer_runner.proofs.EndsAlong.{alone_at}
use Rattle.peer_runner.proofs.Flight.{SpelledFrom, spelled_same, flight_is}

pub freed_below : (link_config : LinkConfig) (memory : ℕ → ℕ) (p : ℕ) (end : End) (place : Place) → EndInvariant link_config memory p end place → freed_at end.freed place ≤ end.freed
freed_below link_config memory p end (ReadingUsedId pending freed more) a = let h = a.holds.2 in omega arith
freed_below link_config memory p end place a = omega arith

-- An end in the middle of its ids is alone as one that is to read the used index, and has freed
-- what it read.
as_counted : (link_config : LinkConfig) (memory : ℕ → ℕ) (p : ℕ) (end : End) (pending : PendingOffer) (freed more : ℕ) → EndInvariant link_config memory p end (ReadingUsedId pending freed more) → SpelledFrom link_config memory p end.accepted freed → EndInvariant link_config memory p (record end { freed = freed }) (ReadingUsedIndex pending freed)
as_counted link_config memory p end pending freed more a s = let run = a.holds.0 in let sum = a.holds.2 in let most = a.freed in record {
  state = a.state;
  written = a.written;
  holds = (run, a.holds.1, refl);
  rests = a.rests;
  ready = λ e. absurd (run_ready run e);
  level = a.level;
  sent = λ o. record { available = (a.sent o).available; used = (a.sent o).used; spelled = s };
  freed = omega arith;
  room = a.holds.3;
}

section_spells : (link_config : LinkConfig) (memory : ℕ → ℕ) (p : ℕ) (end : End) (place : Place) (k : ℕ) → IsLinkConfig link_config → Opened end.handshake.phase → EndInvariant link_config memory p end place → SpelledFrom link_config memory p end.accepted (freed_at end.freed place) → freed_at end.freed place ≤ k → k < length end.accepted → SectionSpells link_config memory p k (frame_at end.accepted k)
section_spells link_config memory p end (ReadingUsedId pending freed more) k is o a s low high = frames_are_spelled.in_flight link_config memory p (record end { freed = freed }) (ReadingUsedIndex pending freed) k is (as_counted link_config memory p end pending freed more a s) o low high
section_spells link_config memory p end place k is o a s low high = frames_are_spelled.in_flight link_config memory p end place k is a o low high

address_is : (link_config : LinkConfig) (memory : ℕ → ℕ) (p k start : ℕ) (frame : List ℕ) → IsLinkConfig link_config → Spelled link_config (fields link_config memory p) k start frame → address_at link_config.sizes (λ w. memory (section_of link_config p + w)) (k % limit_of link_config.sizes) ≡ start
address_is link_config memory p k start frame is s = let d = k % limit_of link_config.sizes in let b = numbers link_config is in let low : d < limit_of link_config.sizes = mod_below k (limit_of link_config.sizes) b.limit_least in let few = b.limit_most in
    let size : d < size_of link_config.sizes = omega arith in let words : ℕ → ℕ = λ w. memory (section_of link_config p + w) in
    let low_is : words (word_offset link_config.sizes (DescAddress d)) ≡ start = field_read link_config memory p (AddressLow d) (words (word_offset link_config.sizes (DescAddress d))) (one_test d (size_of link_config.sizes) size) refl ∙ s.low in
    let high_is : words (word_offset link_config.sizes (DescAddress d) + 1) ≡ 0 = field_read link_config memory p (AddressHigh d) (words (word_offset link_config.sizes (DescAddress d) + 1)) (one_test d (size_of link_config.sizes) size) refl ∙ s.high in omega arith

open_session : (phase : Phase) → InSession phase → Opened phase
open_session phase (inl e) = subst Opened (sym e) tt
open_session phase (inr e) = subst Opened (sym e) tt

module _ (key : RunSetup) (fit : IsFit key) (p : ℕ) (hp : honest_of key p ≡ true) where
  pub flight_is_spelled : (memory words : ℕ → ℕ) (acc : ℕ → List (MemoryOp CallAccess)) → OperationsMade key memory words acc → FlightIsSpelled key memory acc p
  flight_is_spelled memory words acc m = let link_config = link_config_of key in let is = is_link_config key fit in let end = end_by key acc p in let place = place_by key acc p in let a = alone_at key fit memory words acc m p hp in
      let start = same_section key p (honest_below key p hp) in
      let from : Opened end.handshake.phase → SpelledFrom link_config memory p end.accepted (freed_at end.freed place) = λ o. spelled_same link_config end.written memory p (freed_at end.freed place) end.accepted is a.written (flight_is key fit p hp memory words acc m o) in record {
        least = let f = freed_below link_config memory p end place a in let g = a.freed in omega arith;
        most = room_at link_config memory p end place a;
        spelled = λ k in' low high. let o = open_session end.handshake.phase in' in
            subst (λ x. Spells key.queue (λ w. memory (x + w)) k (k % limit_of key.queue) (frame_at end.accepted k)) (sym start) (section_spells link_config memory p end place k is o a (from o) low high);
        own_place = λ k in' low high. let o = open_session end.handshake.phase in' in
            subst (λ x. address_at key.queue (λ w. memory (x + w)) (k % limit_of key.queue) ≡ start_in link_config end.accepted k) (sym start) (address_is link_config memory p k (start_in link_config end.accepted k) (frame_at end.accepted k) is (from o k low high));
      }
