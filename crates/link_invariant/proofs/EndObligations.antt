-- The proof obligations of a step for the invariant of one end.
use Rattle.std.proofs.Common.{◌≡◌, ◌≢◌, ℕ, zero, ◌+◌, ◌*◌, ◌/◌, ◌%◌, ◌<◌, ◌≤◌, inl, inr, Bool, true, false, List, [], ◌∷◌, ◌++◌, length, refl, sym, ap, ◌∙◌, subst, arith}
use Rattle.std.specs.Prelude.{◌==◌, if◌then◌else◌}
use Rattle.split_ring.specs.declared.sizes.TheConstants.{FRAME_OVERHEAD}
use Rattle.split_ring.specs.Layout.{size_of, limit_of}
use Rattle.split_ring.specs.Frames.{footprint_of, start_of, AreApart}
use Rattle.split_ring.proofs.FramesAreLaidOut.{frames_are_laid_out}
use Rattle.link_handshake.specs.declared.Phase.{Phase}
use Rattle.link_handshake.specs.declared.Phase.TheVariants.{Ready, Run}
use Rattle.link_handshake.specs.PhaseTable.{state_of}
use Rattle.call_grammar.specs.Steps.{Mark}
use Rattle.call_grammar.specs.Ends.{End}
use Rattle.call_grammar.specs.Words.{words_for, lengths_of, frame_word}
use Rattle.call_grammar.specs.Offers.{PendingOffer}
use Rattle.call_grammar.specs.Places.{Place, Closed, ReadingOtherState, WritingState, Refusing, NotInRun, WritingFrameWord, WritingDescAddressLow, WritingDescAddressHigh, WritingDescLength, WritingDescFlags, WritingAvailEntry, WritingAvailIndex, WritingAvailEvent, WritingUsedId, WritingUsedLength, WritingUsedIndex}
use Rattle.link_invariant.specs.Fields.{Field, AvailIndex, UsedIndex, AvailEvent, AvailEntry, UsedId, UsedLength, AddressLow, AddressHigh, DescLength, DescFlags, DataWord}
use Rattle.call_grammar.proofs.Lengths.{last_length, length_before}
use Rattle.link_invariant.specs.LinkConfig.{LinkConfig, IsLinkConfig, section_of}
use Rattle.link_invariant.specs.Steps.{Stored}
use Rattle.link_invariant.specs.EndInvariant.{Opened, frame_at, start_in, Spelled, IsNext, start_for, HasRoom, Filled, PlaceInvariant, counts, RefusalIsFinal, OwnSection, EndInvariant}
use Rattle.link_invariant.proofs.Fields.{ring_apart, IsGood, start_good, Put, written_kept}

-- The test of a read determines marks and place.
pub by_test : (P : List Mark → Place → Type 0) (b : Bool) (m n : List Mark) (x y : Place) → (b ≡ true → P m x) → (b ≡ false → P n y) → P (if b then m else n) (if b then x else y)
by_test P true m n x y good bad = good refl
by_test P false m n x y good bad = bad refl

pub run_ready : {phase : Phase} → phase ≡ Run → phase ≡ Ready → ⊥
run_ready run two = let e = sym (ap state_of run) ∙ ap state_of two in omega arith

pub opened : {phase : Phase} → phase ≡ Run → Opened phase
opened run = subst Opened (sym run) tt

-- The fields of the own section that hold the frame at position k, which starts at `start` and has
-- `bytes` bytes.
abbrev pub SpellsBy : LinkConfig → (k start bytes : ℕ) → Field → Type 0
SpellsBy link_config k start bytes (AvailEntry e) = e ≡ k % size_of link_config.sizes
SpellsBy link_config k start bytes (AddressLow i) = i ≡ k % limit_of link_config.sizes
SpellsBy link_config k start bytes (AddressHigh i) = i ≡ k % limit_of link_config.sizes
SpellsBy link_config k start bytes (DescLength i) = i ≡ k % limit_of link_config.sizes
SpellsBy link_config k start bytes (DescFlags i) = i ≡ k % limit_of link_config.sizes
SpellsBy link_config k start bytes (DataWord w) = (start ≤ 4 * w) × (4 * w < start + bytes)
SpellsBy link_config k start bytes field = ⊥

-- The fields on which the frames in flight and the two counts depend.
abbrev pub Live : LinkConfig → (freed : ℕ) → (accepted : List (List ℕ)) → Field → Type 0
Live link_config freed accepted AvailIndex = Unit {0}
Live link_config freed accepted UsedIndex = Unit {0}
Live link_config freed accepted f = (k : ℕ) × (freed ≤ k) × (k < length accepted) × SpellsBy link_config k (start_in link_config accepted k) (footprint_of link_config.sizes (lengths_of accepted k)) f

pub spelled_kept : {link_config : LinkConfig} {field now : Field → ℕ} {k start : ℕ} {frame : List ℕ} → start % 4 ≡ 0 → ((f : Field) → SpellsBy link_config k start (4 * words_for (length frame)) f → f ≢ AvailIndex → f ≢ UsedIndex → now f ≡ field f) → Spelled link_config field k start frame → Spelled link_config now k start frame
spelled_kept {link_config} {field} {now} {k} {start} {frame} even same h = record {
  offered = h.offered;
  entry = same _ refl (λ e. cc) (λ e. cc) ∙ h.entry;
  low = same _ refl (λ e. cc) (λ e. cc) ∙ h.low;
  high = same _ refl (λ e. cc) (λ e. cc) ∙ h.high;
  size = same _ refl (λ e. cc) (λ e. cc) ∙ h.size;
  flags = same _ refl (λ e. cc) (λ e. cc) ∙ h.flags;
  words = λ j lt. same (DataWord (start / 4 + j)) (omega arith, omega arith) (λ e. cc) (λ e. cc) ∙ h.words j lt;
}

-- The field of the own section that the step at a place writes, and its value.
abbrev pub Puts : LinkConfig → ℕ → (memory after : ℕ → ℕ) → Place → Type 0
Puts link_config p memory after (WritingFrameWord pending at more) = Put link_config memory after p (DataWord (start_for link_config pending / 4 + at)) (frame_word pending.frame at)
Puts link_config p memory after (WritingDescAddressLow pending) = Put link_config memory after p (AddressLow (pending.number % limit_of link_config.sizes)) (start_for link_config pending)
Puts link_config p memory after (WritingDescAddressHigh pending) = Put link_config memory after p (AddressHigh (pending.number % limit_of link_config.sizes)) 0
Puts link_config p memory after (WritingDescLength pending) = Put link_config memory after p (DescLength (pending.number % limit_of link_config.sizes)) (length pending.frame)
Puts link_config p memory after (WritingDescFlags pending) = Put link_config memory after p (DescFlags (pending.number % limit_of link_config.sizes)) 0
Puts link_config p memory after (WritingAvailEntry pending) = Put link_config memory after p (AvailEntry (pending.number % size_of link_config.sizes)) (pending.number % limit_of link_config.sizes)
Puts link_config p memory after (WritingAvailIndex pending) = Put link_config memory after p AvailIndex ((pending.number + 1) % 65536)
Puts link_config p memory after (WritingAvailEvent taken) = Put link_config memory after p AvailEvent (taken % 65536)
Puts link_config p memory after (WritingUsedId number more entry) = Put link_config memory after p (UsedId (number % size_of link_config.sizes)) entry
Puts link_config p memory after (WritingUsedLength number more) = Put link_config memory after p (UsedLength (number % size_of link_config.sizes)) 1
Puts link_config p memory after (WritingUsedIndex number more) = Put link_config memory after p UsedIndex ((number + 1) % 65536)
Puts link_config p memory after place = Unit {0}

-- A field that holds a frame in flight is live.
live_of : (link_config : LinkConfig) (freed : ℕ) (accepted : List (List ℕ)) (k bytes : ℕ) (f : Field) → freed ≤ k → k < length accepted → bytes ≤ footprint_of link_config.sizes (lengths_of accepted k) → SpellsBy link_config k (start_in link_config accepted k) bytes f → Live link_config freed accepted f
live_of link_config freed accepted k bytes AvailIndex from below fits h = tt
live_of link_config freed accepted k bytes UsedIndex from below fits h = tt
live_of link_config freed accepted k bytes (DataWord w) from below fits h = (k, from, below, (h.0, (let high = h.1 in omega arith)))
live_of link_config freed accepted k bytes f from below fits h = (k, from, below, h)

pub sent_kept : {link_config : LinkConfig} {field now : Field → ℕ} {accepted : List (List ℕ)} {freed returned : ℕ} → IsLinkConfig link_config → ((f : Field) → Live link_config freed accepted f → now f ≡ field f) → OwnSection link_config field accepted freed returned → OwnSection link_config now accepted freed returned
sent_kept {link_config} {field} {now} {accepted} {freed} {returned} is same h = record {
  available = same AvailIndex tt ∙ h.available;
  used = same UsedIndex tt ∙ h.used;
  spelled = λ k from below.
      let s = h.spelled k from below in
      let placed = frames_are_laid_out.placed link_config.sizes (lengths_of accepted) k is.queue in
      spelled_kept placed.even (λ f live na nu. same f (live_of link_config freed accepted k (4 * words_for (length (frame_at accepted k))) f from below (placed.holds s.offered.most) live)) s;
}

-- If no field changes, the fields hold the same frame.
pub spelled_same : {link_config : LinkConfig} {field now : Field → ℕ} {k start : ℕ} {frame : List ℕ} → ((f : Field) → now f ≡ field f) → Spelled link_config field k start frame → Spelled link_config now k start frame
spelled_same same h = record { offered = h.offered; entry = same _ ∙ h.entry; low = same _ ∙ h.low; high = same _ ∙ h.high; size = same _ ∙ h.size; flags = same _ ∙ h.flags; words = λ j lt. same _ ∙ h.words j lt }

pub sent_same : {link_config : LinkConfig} {field now : Field → ℕ} {accepted : List (List ℕ)} {freed returned : ℕ} → ((f : Field) → now f ≡ field f) → OwnSection link_config field accepted freed returned → OwnSection link_config now accepted freed returned
sent_same same h = record { available = same AvailIndex ∙ h.available; used = same UsedIndex ∙ h.used; spelled = λ k from below. spelled_same same (h.spelled k from below) }

-- The length and the start of the frame of a pending offer.
long_of : (accepted : List (List ℕ)) (pending : PendingOffer) → pending.number ≡ length accepted → pending.lengths ≡ lengths_of (accepted ++ pending.frame ∷ []) → pending.lengths pending.number ≡ length pending.frame
long_of accepted pending number lengths = ap (λ (l : ℕ → ℕ). l pending.number) lengths ∙ (ap (lengths_of (accepted ++ pending.frame ∷ [])) number ∙ last_length accepted pending.frame)

pending_length : {link_config : LinkConfig} {field : Field → ℕ} {accepted : List (List ℕ)} {pending : PendingOffer} → IsNext link_config field accepted pending → pending.lengths pending.number ≡ length pending.frame
pending_length {link_config} {field} {accepted} {pending} next = long_of accepted pending next.number next.lengths

pub pending_is_good_at : (link_config : LinkConfig) → IsLinkConfig link_config → (accepted : List (List ℕ)) (pending : PendingOffer) → pending.number ≡ length accepted → pending.lengths ≡ lengths_of (accepted ++ pending.frame ∷ []) → length pending.frame ≤ link_config.sizes.mtu + FRAME_OVERHEAD →
    IsGood link_config (start_for link_config pending) (length pending.frame)
pending_is_good_at link_config is accepted pending number lengths most =
    let long : pending.lengths pending.number ≡ length pending.frame = long_of accepted pending number lengths in
    subst (IsGood link_config (start_for link_config pending)) long (start_good link_config is pending.lengths pending.number (omega arith))

pub pending_is_good : {link_config : LinkConfig} {field : Field → ℕ} {accepted : List (List ℕ)} {pending : PendingOffer} → IsLinkConfig link_config → IsNext link_config field accepted pending → IsGood link_config (start_for link_config pending) (length pending.frame)
pending_is_good {link_config} {field} {accepted} {pending} is next = pending_is_good_at link_config is accepted pending next.number next.lengths next.frame.most

-- A frame stays at its place when one more is accepted.
pub start_before : (link_config : LinkConfig) (frames : List (List ℕ)) (g : List ℕ) (k : ℕ) → k < length frames → start_in link_config (frames ++ g ∷ []) k ≡ start_in link_config frames k
start_before link_config frames g k low = frames_are_laid_out.by_prefix link_config.sizes (lengths_of (frames ++ g ∷ [])) (lengths_of frames) k (λ j le. length_before frames g j (omega arith))

pub next_kept : {link_config : LinkConfig} {field now : Field → ℕ} {accepted : List (List ℕ)} {pending : PendingOffer} → ((e : ℕ) → e ≢ pending.number % size_of link_config.sizes → now (AvailEntry e) ≡ field (AvailEntry e)) → IsNext link_config field accepted pending → IsNext link_config now accepted pending
next_kept same h = record { frame = h.frame; number = h.number; lengths = h.lengths; neighbour_word = λ e ne half. h.neighbour_word e ne half ∙ sym (same e ne) }

pub filled_kept : {link_config : LinkConfig} {field now : Field → ℕ} {accepted : List (List ℕ)} {freed : ℕ} {pending : PendingOffer} {count : ℕ} → ((e : ℕ) → e ≢ pending.number % size_of link_config.sizes → now (AvailEntry e) ≡ field (AvailEntry e)) → ((w : ℕ) → now (DataWord w) ≡ field (DataWord w)) →
    Filled link_config field accepted freed pending count → Filled link_config now accepted freed pending count
filled_kept entries words h = record { next = next_kept entries h.next; room = h.room; words = λ j lt. words _ ∙ h.words j lt }

-- The fields of the next position are free.
pub free_descriptor : (link_config : LinkConfig) (freed accepted number : ℕ) → 0 < limit_of link_config.sizes → number ≡ accepted → number < freed + limit_of link_config.sizes → (k : ℕ) × (freed ≤ k) × (k < accepted) × (number % limit_of link_config.sizes ≡ k % limit_of link_config.sizes) → ⊥
free_descriptor link_config freed accepted number some is room live = ring_apart (limit_of link_config.sizes) live.0 number some (let b = live.2 in omega arith) (let a = live.1 in omega arith) live.3

pub free_entry : (link_config : LinkConfig) (freed accepted number : ℕ) → 0 < limit_of link_config.sizes → limit_of link_config.sizes ≤ size_of link_config.sizes → number ≡ accepted → number < freed + limit_of link_config.sizes → (k : ℕ) × (freed ≤ k) × (k < accepted) × (number % size_of link_config.sizes ≡ k % size_of link_config.sizes) → ⊥
free_entry link_config freed accepted number some few is room live = ring_apart (size_of link_config.sizes) live.0 number (omega arith) (let b = live.2 in omega arith) (let a = live.1 in omega arith) live.3

-- The words of the next frame are free.
pub free_word : {link_config : LinkConfig} {field : Field → ℕ} {accepted : List (List ℕ)} {pending : PendingOffer} (freed at : ℕ) → IsLinkConfig link_config → IsNext link_config field accepted pending → HasRoom link_config pending freed → at < words_for (length pending.frame) →
    Live link_config freed accepted (DataWord (start_for link_config pending / 4 + at)) → ⊥
free_word {link_config} {field} {accepted} {pending} freed at is next room below live =
    let k = live.0 in let from = live.1 in let in_flight = live.2 in let low = live.3.0 in let high = live.3.1 in
    let number = next.number in let long = pending_length next in let most = next.frame.most in
    let placed = frames_are_laid_out.placed link_config.sizes pending.lengths pending.number is.queue in
    let holds = placed.holds (omega arith) in let even = placed.even in
    let same : (j : ℕ) → j < length accepted → pending.lengths j ≡ lengths_of accepted j =
    λ j lt. ap (λ (l : ℕ → ℕ). l j) next.lengths ∙ length_before accepted pending.frame j lt in
    let start : start_of link_config.sizes pending.lengths k ≡ start_in link_config accepted k = frames_are_laid_out.by_prefix link_config.sizes pending.lengths (lengths_of accepted) k (λ j le. same j (omega arith)) in
    let bytes : footprint_of link_config.sizes (pending.lengths k) ≡ footprint_of link_config.sizes (lengths_of accepted k) = ap (footprint_of link_config.sizes) (same k in_flight) in
    meets_none _ _ _ _ (4 * (start_for link_config pending / 4 + at)) (frames_are_laid_out.apart link_config.sizes pending.lengths freed pending.number k is.queue room from (omega arith)) (omega arith) (omega arith) (omega arith) (omega arith)
  where
    meets_none : (from bytes other others word : ℕ) → AreApart from bytes other others → from ≤ word → word < from + bytes → other ≤ word → word < other + others → ⊥
    meets_none from bytes other others word (inl h) a b c d = omega arith
    meets_none from bytes other others word (inr h) a b c d = omega arith

-- An end without the mark satisfies `RefusalIsFinal` at every place.
pub free : (end : End) (place : Place) → end.handshake.mark ≡ false → RefusalIsFinal end place
free end Refusing e = tt
free end Closed e = λ t. let f : true ≡ false = sym t ∙ e in cc
free end (ReadingOtherState handshake) e = λ t. let f : true ≡ false = sym t ∙ e in cc
free end (WritingState zero) e = λ t. let f : true ≡ false = sym t ∙ e in cc
free end NotInRun e = λ t. let f : true ≡ false = sym t ∙ e in cc
free end place e = e

-- The same end at another place.
pub comes : {link_config : LinkConfig} {memory : ℕ → ℕ} {p : ℕ} {end : End} {place : Place} (next : Place) → PlaceInvariant link_config memory p end next → counts next ≡ counts place → RefusalIsFinal end next → EndInvariant link_config memory p end place → EndInvariant link_config memory p end next
comes {link_config} {memory} {p} {end} {place} next holds same rests a = record { state = a.state; written = a.written; holds = holds; rests = rests; ready = a.ready; level = λ o. a.level o ∙ ap (λ (c : ℕ × ℕ). end.returned + c.0) (sym same); sent = a.sent; freed = a.freed; room = a.room }

-- The same end without the mark at another place.
pub moves : {link_config : LinkConfig} {memory : ℕ → ℕ} {p : ℕ} {end : End} {place : Place} (next : Place) → PlaceInvariant link_config memory p end next → counts next ≡ counts place → end.handshake.mark ≡ false → EndInvariant link_config memory p end place → EndInvariant link_config memory p end next
moves {link_config} {memory} {p} {end} {place} next holds same mark a = comes next holds same (free end next mark) a

-- A refusal.
pub refuses : {link_config : LinkConfig} {memory : ℕ → ℕ} {p : ℕ} {end : End} {place : Place} → end.handshake.phase ≡ Run → counts place ≡ (0, 0) → EndInvariant link_config memory p end place → EndInvariant link_config memory p (record end { handshake = record (end.handshake) { mark = true } }) Refusing
refuses {link_config} {memory} {p} {end} {place} run none a = record { state = a.state; written = a.written; holds = run; rests = tt; ready = λ two. absurd (run_ready run two); level = λ o. a.level o ∙ ap (λ (c : ℕ × ℕ). end.returned + c.0) none; sent = a.sent; freed = a.freed; room = a.room }

-- A write in RUN of a field of the own section.
pub writes : (link_config : LinkConfig) → IsLinkConfig link_config → (memory after : ℕ → ℕ) (p : ℕ) (end : End) (place next : Place) (f : Field) (x v n : ℕ) → end.handshake.phase ≡ Run → end.handshake.mark ≡ false → Stored memory after x v → Put link_config memory after p f n → (Live link_config end.freed end.accepted f → ⊥) →
    PlaceInvariant link_config after p (record end { written = λ w. if w == x then v else end.written w }) next → counts next ≡ counts place → EndInvariant link_config memory p end place → EndInvariant link_config after p (record end { written = λ w. if w == x then v else end.written w }) next
writes link_config is memory after p end place next f x v n run mark stored put unused holds same a = record {
  state = put.state ∙ a.state;
  written = written_kept memory after (section_of link_config p) x v link_config.words end.written stored a.written;
  holds = holds;
  rests = free (record end { written = λ w. if w == x then v else end.written w }) next mark;
  ready = λ two. absurd (run_ready run two);
  level = λ o. a.level o ∙ ap (λ (c : ℕ × ℕ). end.returned + c.0) (sym same);
  sent = λ o. sent_kept is (λ g live. put.neighbour_word g (λ e. unused (subst (Live link_config end.freed end.accepted) e live))) (a.sent o);
  freed = a.freed;
  room = a.room;
}
