-- Every call has permitted accesses only.
use Rattle.std.proofs.Common.{◌≡◌, ℕ, zero, suc, ◌+◌, ◌-◌, ◌*◌, ◌%◌, ◌<◌, ◌≤◌, Bool, true, false, List, [], ◌∷◌, ◌++◌, length, refl, sym, subst, arith, inl, inr, All, length-append}
use Rattle.std.specs.Prelude.{◌==◌, if◌then◌else◌}
use Rattle.std.proofs.lemmas.Nat.{mod_below}
use Rattle.split_ring.specs.Layout.{Field, DescAddress, DescLength, DescFlags, AvailIndex, AvailEntry, UsedIndex, UsedId, UsedLength, AvailEvent, IsField, has_events, size_of, limit_of, width_of, word_offset}
use Rattle.split_ring.specs.Spelling.{low_half, entry_half, high_half, desc_flags}
use Rattle.split_ring.proofs.QueueHasBounds.{bounds}
use Rattle.split_ring.proofs.QueuesAreLaidOut.{queues_are_laid_out}
use Rattle.std.proofs.lemmas.List.Elements.{All-nil, All-cons}
use Rattle.link_handshake.specs.HandshakeState.{move_of}
use Rattle.link_handshake.specs.declared.Move.{Move}
use Rattle.link_handshake.specs.declared.Move.TheVariants.{Stay, Set, ClearThenSet}
use Rattle.split_ring.specs.declared.steps.Access.{Access}
use Rattle.split_ring.specs.declared.steps.Access.TheVariants as access
use Rattle.split_ring.specs.Ranges.{is_avail_entry, is_desc_address, is_desc_length, is_desc_flags, is_used_index, is_used_id, is_avail_index}
use Rattle.split_ring.proofs.TestsDecideRanges.{entry_of_test, address_of_test, length_of_test}
use Rattle.call_grammar.specs.Steps.{Step}
use Rattle.call_grammar.specs.Trees.{CallTree, Ended, Does, Reads, Goes, GoesAlong}
use Rattle.call_grammar.specs.Ends.{End}
use Rattle.call_grammar.specs.Ticks.{EndConfig, clear, set_state, after_tick}
use Rattle.call_grammar.specs.Words.{address_of, words_for}
use Rattle.call_grammar.specs.Offers.{PendingOffer, start_at, frame_fits, avail_entry_of, descriptor_of, ring_doorbell, wants_doorbell, read_avail_event, notify, write_frame_words, read_used_ids, returned_by, offer}
use Rattle.call_grammar.proofs.Lengths.{words_fit}
use Rattle.call_grammar.specs.Polls.{read_words, read_flags, read_length, read_low, item, items, published_by, is_last, read_avail_index, write_avail_event, poll}
use Rattle.call_grammar.specs.Calls.{Call, Tick, Stop, Offer, Poll, in_run, pending_of, down, tree_of}
use Rattle.call_grammar.specs.Permitted.{MayDo, MayRead, MayStore, IsPermittedAccess, IsPermittedTree, HasSections, IsPermittedCall, CallsArePermitted}

clear_stays : (config : EndConfig) (at more : ℕ) (after : CallTree) → config.own ≤ at → at + more ≤ config.own + config.words → IsPermittedTree config after → IsPermittedTree config (clear at more after)
clear_stays config at zero after low high stays = stays
clear_stays config at (suc more) after low high stays = ((low, omega arith), clear_stays config (at + 1) more after (omega arith) (omega arith) stays)

after_tick_stays : (config : EndConfig) (move : Move) → IsPermittedTree config (after_tick config move)
after_tick_stays config Stay = tt
after_tick_stays config (Set state) = (tt, tt)
after_tick_stays config (ClearThenSet state) = clear_stays config config.own config.words (set_state state) (omega arith) (omega arith) (tt, tt)

-- The words of a field are in the section

within : (config : EndConfig) → HasSections config → (f : Field) (more : ℕ) → IsField config.sizes f → 4 * more < width_of config.sizes f → word_offset config.sizes f + more < config.words
within config has f more is room = let inside = (queues_are_laid_out config.sizes has.queue).inside f is in let words = has.words in omega arith

own_word : (config : EndConfig) → HasSections config → (f : Field) (more : ℕ) → IsField config.sizes f → 4 * more < width_of config.sizes f → MayStore config (config.own + word_offset config.sizes f + more)
own_word config has f more is room = let low = within config has f more is room in (omega arith, omega arith)

first_own : (config : EndConfig) → HasSections config → (f : Field) → IsField config.sizes f → 0 < width_of config.sizes f → MayStore config (config.own + word_offset config.sizes f)
first_own config has f is room = let low = within config has f 0 is (omega arith) in (omega arith, omega arith)

their_word : (config : EndConfig) → HasSections config → (f : Field) (more : ℕ) → IsField config.sizes f → 4 * more < width_of config.sizes f → MayRead config (config.other_start + word_offset config.sizes f + more)
their_word config has f more is room = let low = within config has f more is room in inr (omega arith, omega arith)

first_their : (config : EndConfig) → HasSections config → (f : Field) → IsField config.sizes f → 0 < width_of config.sizes f → MayRead config (config.other_start + word_offset config.sizes f)
first_their config has f is room = let low = within config has f 0 is (omega arith) in inr (omega arith, omega arith)

in_ring : (config : EndConfig) → HasSections config → (number : ℕ) → avail_entry_of config number < size_of config.sizes
in_ring config has number = let least = (bounds config.sizes has.queue).size_least in mod_below number (size_of config.sizes) (omega arith)

in_slots : (config : EndConfig) → HasSections config → (number : ℕ) → descriptor_of config number < limit_of config.sizes
in_slots config has number = mod_below number (limit_of config.sizes) (bounds config.sizes has.queue).limit_least

in_table : (config : EndConfig) → HasSections config → (number : ℕ) → descriptor_of config number < size_of config.sizes
in_table config has number = let low = in_slots config has number in let most = (bounds config.sizes has.queue).limit_most in omega arith

-- A choice, if the test is known in each part.
choice : (config : EndConfig) (b : Bool) (t u : CallTree) → (b ≡ true → IsPermittedTree config t) → IsPermittedTree config u → IsPermittedTree config (if b then t else u)
choice config true t u first second = first refl
choice config false t u first second = second

notify_is_permitted : (config : EndConfig) → HasSections config → (number : ℕ) → IsPermittedTree config (notify config number)
notify_is_permitted config has number = choice config (has_events config.sizes) (read_avail_event config number) (ring_doorbell config) (λ _. (
  first_their config has AvailEvent tt (omega arith),
  λ value. choice config (wants_doorbell (low_half value) number) (ring_doorbell config) Ended (λ _. (refl, tt)) tt,
)) (refl, tt)

fill_stays : (config : EndConfig) → HasSections config → (pending : PendingOffer) (at more : ℕ) → start_at config pending + 4 * (at + more) ≤ config.sizes.out → IsPermittedTree config (write_frame_words config pending at more)
fill_stays config has pending at zero room = let i = in_table config has pending.number in (
  first_own config has (DescAddress (descriptor_of config pending.number)) i (omega arith),
  (
    own_word config has (DescAddress (descriptor_of config pending.number)) 1 i (omega arith),
    (
      first_own config has (DescLength (descriptor_of config pending.number)) i (omega arith),
      (
        first_own config has (DescFlags (descriptor_of config pending.number)) i (omega arith),
        (
          first_own config has (AvailEntry (avail_entry_of config pending.number)) (in_ring config has pending.number) (omega arith),
          (first_own config has AvailIndex tt (omega arith), notify_is_permitted config has pending.number),
        ),
      ),
    ),
  ),
)
fill_stays config has pending at (suc more) room =
    (let words = has.words in (omega arith, omega arith), fill_stays config has pending (at + 1) more (omega arith))

ids_stay : (config : EndConfig) → HasSections config → (pending : PendingOffer) (freed more : ℕ) → start_at config pending + 4 * words_for (length pending.frame) ≤ config.sizes.out → IsPermittedTree config (read_used_ids config pending freed more)
ids_stay config has pending freed zero room = choice config (frame_fits config pending freed) (write_frame_words config pending 0 (words_for (length pending.frame))) Ended (λ _. fill_stays config has pending 0 (words_for (length pending.frame)) (omega arith)) tt
ids_stay config has pending freed (suc more) room = (
  first_their config has (UsedId (avail_entry_of config freed)) (in_ring config has freed) (omega arith),
  λ value. choice config (is_used_id (descriptor_of config freed) value) (read_used_ids config pending (freed + 1) more) (set_state 0) (λ _. ids_stay config has pending (freed + 1) more room) (tt, tt),
)

offer_stays : (config : EndConfig) → HasSections config → (pending : PendingOffer) (freed : ℕ) → start_at config pending + 4 * words_for (length pending.frame) ≤ config.sizes.out → IsPermittedTree config (offer config pending freed)
offer_stays config has pending freed fits = (
  first_their config has UsedIndex tt (omega arith),
  λ value. choice config (is_used_index (freed % 65536) (high_half value) (pending.number - freed)) (read_used_ids config pending freed (returned_by freed value)) (set_state 0) (λ _. ids_stay config has pending freed (returned_by freed value) fits) (tt, tt),
)

words_stay : (config : EndConfig) → HasSections config → (number entry address bytes : ℕ) (read : List ℕ) (more : ℕ) (after : CallTree) → address % 4 ≡ 0 → address + bytes ≤ config.sizes.out → length read + more ≡ words_for bytes → IsPermittedTree config after → IsPermittedTree config (read_words config number entry address bytes read more after)
words_stay config has number entry address bytes read zero after even ends n stays = let i = in_ring config has number in
    (first_own config has (UsedId (avail_entry_of config number)) i (omega arith), (first_own config has (UsedLength (avail_entry_of config number)) i (omega arith), (first_own config has UsedIndex tt (omega arith), stays)))
words_stay config has number entry address bytes read (suc more) after even ends n stays = (
  (let words = has.words in inr (omega arith, omega arith)),
  λ value. words_stay config has number entry address bytes (read ++ value ∷ []) more after even ends (omega (arith, length-append read (value ∷ []))) stays,
)

item_stays : (config : EndConfig) → HasSections config → (number : ℕ) (after : CallTree) → IsPermittedTree config after → IsPermittedTree config (item config number after)
item_stays config has number after stays = (
  first_their config has (AvailEntry (avail_entry_of config number)) (in_ring config has number) (omega arith),
  λ value. let e = entry_half (avail_entry_of config number) value in choice config (is_avail_entry config.sizes e) (read_low config number e after) (set_state 0) (λ test. let i = entry_of_test config.sizes e test in (
    first_their config has (DescAddress e) i (omega arith),
    λ low. (
      their_word config has (DescAddress e) 1 i (omega arith),
      λ high. let a = address_of low high in choice config (is_desc_address config.sizes a) (read_length config number e a after) (set_state 0) (λ atest. (
        first_their config has (DescLength e) i (omega arith),
        λ l. choice config (is_desc_length config.sizes a l) (read_flags config number e a l after) (set_state 0) (λ ltest. (
          first_their config has (DescFlags e) i (omega arith),
          λ flags. choice config (is_desc_flags (desc_flags flags)) (read_words config number e a l [] (words_for l) after) (set_state 0) (λ _. words_stay config has number e a l [] (words_for l) after (address_of_test config.sizes a atest).0 (length_of_test config.sizes a l ltest).2 (omega arith) stays) (tt, tt),
        )) (tt, tt),
      )) (tt, tt),
    ),
  )) (tt, tt),
)

items_stay : (config : EndConfig) → HasSections config → (number more : ℕ) → IsPermittedTree config (items config number more)
items_stay config has number zero = (refl, tt)
items_stay config has number (suc more) = item_stays config has number (items config (number + 1) more) (items_stay config has (number + 1) more)

look_stays : (config : EndConfig) → HasSections config → (taken : ℕ) (last : Bool) (none : CallTree) → IsPermittedTree config none → IsPermittedTree config (read_avail_index config taken last none)
look_stays config has taken last none stays = (
  first_their config has AvailIndex tt (omega arith),
  λ value. let d = published_by taken value in choice config (is_avail_index config.sizes (taken % 65536) (high_half value)) (if d == 0 then none else items config taken d) (set_state 0)
      (λ _. choice config (d == 0) none (items config taken d) (λ _. stays) (items_stay config has taken d)) (tt, tt),
)

poll_stays : (config : EndConfig) → HasSections config → (taken : ℕ) (last : Bool) → IsPermittedTree config (poll config taken last)
poll_stays config has taken true = look_stays config has taken true Ended tt
poll_stays config has taken false = look_stays config has taken false (write_avail_event config taken (read_avail_index config taken true Ended))
    (first_own config has AvailEvent tt (omega arith), look_stays config has taken true Ended tt)

pub call_stays : (config : EndConfig) (end : End) (call : Call) → HasSections config → IsPermittedCall config call → IsPermittedTree config (tree_of config end call)
call_stays config end Tick has given = (inl refl, λ value. after_tick_stays config (move_of end.handshake value))
call_stays config end Stop has given = (tt, tt)
call_stays config end (Offer frame) has given = choice config (in_run end.handshake.phase) (offer config (pending_of config end frame) end.freed) down (λ _. offer_stays config has (pending_of config end frame) end.freed (words_fit config end frame has given.1)) (tt, tt)
call_stays config end Poll has given = choice config (in_run end.handshake.phase) (poll config (length end.delivered) (is_last config end.found_none)) down (λ _. poll_stays config has (length end.delivered) (is_last config end.found_none)) (tt, tt)

reach_of : (config : EndConfig) (a : Access) → MayDo config a → IsPermittedAccess config a
reach_of config (access.Read word) may = absurd may
reach_of config (access.Write word written) may = may
reach_of config (access.State state) may = tt
reach_of config (access.Ring target vector) may = may
reach_of config access.Nothing may = tt

step_stays : (config : EndConfig) (tree new : CallTree) (step : Step) → IsPermittedTree config tree → Goes tree step new → IsPermittedAccess config step.access × IsPermittedTree config new
step_stays config Ended new step stays goes = absurd goes
step_stays config (Does access marks rest) new step stays goes =
    (subst (λ (s : Step). IsPermittedAccess config s.access) (sym goes.0) (reach_of config access stays.0), subst (λ (t : CallTree). IsPermittedTree config t) (sym goes.1) stays.1)
step_stays config (Reads word marks rest) new step stays goes =
    (subst (λ (s : Step). IsPermittedAccess config s.access) (sym goes.1) stays.0, subst (λ (t : CallTree). IsPermittedTree config t) (sym goes.2) (stays.1 goes.0))

steps_stay : (config : EndConfig) (tree left : CallTree) (steps : List Step) → IsPermittedTree config tree → GoesAlong tree steps left → All (λ step. IsPermittedAccess config step.access) steps
steps_stay config tree left [] stays along = All-nil (λ (s : Step). IsPermittedAccess config s.access)
steps_stay config tree left (step ∷ steps) stays along =
    let first = step_stays config tree along.0 step stays along.1 in
    All-cons (λ (s : Step). IsPermittedAccess config s.access) step steps first.0 (steps_stay config along.0 left steps first.1 along.2)

pub reaching : CallsArePermitted
reaching = record {
  calls = call_stays;
  step = step_stays;
  steps = λ config end call steps left has given along. steps_stay config (tree_of config end call) left steps (call_stays config end call has given) along;
}
