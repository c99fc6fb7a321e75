-- The stores of an honest peer's open offer.
use Rattle.std.proofs.Common.{◌≡◌, ℕ, zero, suc, ◌+◌, ◌*◌, ◌/◌, ◌%◌, ◌<◌, ◌≤◌, ◌⊎◌, inl, inr, ⊎_elim, true, List, [], ◌∷◌, ◌++◌, length, refl, sym, ap, ◌∙◌, subst, arith, append-nil}
use Rattle.std.specs.Prelude.{Option, Some, None, Contains}
use Rattle.std.proofs.lemmas.List.Elements.{Contains-append_cases}
use Rattle.split_ring.specs.declared.sizes.TheConstants.{FRAME_OVERHEAD}
use Rattle.split_ring.specs.declared.steps.Access.{Access}
use Rattle.split_ring.specs.Layout.{Sizes, IsQueue, limit_of}
use Rattle.split_ring.specs.Frames.{start_of, footprint_of, AreApart}
use Rattle.split_ring.proofs.FramesAreLaidOut.{frames_are_laid_out}
use Rattle.call_grammar.specs.Words.{lengths_of}
use Rattle.call_grammar.proofs.Lengths.{last_length}
use Rattle.call_grammar.specs.Ends.{End}
use Rattle.call_grammar.specs.Calls.{EndConfig, Call}
use Rattle.call_grammar.specs.Offers.{PendingOffer}
use Rattle.call_grammar.specs.Places.{Place, ReadingUsedIndex, ReadingUsedId, WritingFrameWord, WritingDescAddressLow, WritingDescAddressHigh, WritingDescLength, WritingDescFlags, WritingAvailEntry, WritingAvailIndex, fill_place, notify_place, access_at, next_place}
use Rattle.link_invariant.specs.LinkConfig.{LinkConfig, config_of}
use Rattle.link_invariant.specs.EndInvariant.{HasRoom, EndInvariant}
use Rattle.link_invariant.specs.Pair.{freed_at}
use Rattle.link_invariant.proofs.Fields.{numbers, ring_apart}
use Rattle.shared_words.specs.declared.run_setup.RunSetup.{RunSetup}
use Rattle.shared_words.specs.RunSetups.{link_config_of, honest_of, IsFit}
use Rattle.shared_words.specs.DerivedStates.{CallAccess, MemoryOp, called, numbered, carried, restarted, DerivedState, begun_if, settled_place, derived_state}
use Rattle.shared_words.specs.SharedMemory.{OperationsMade}
use Rattle.peer_runner.specs.ListStates.{access_of, words_of, unless_call, unless_begun, call_writes}
use Rattle.peer_runner.specs.RunningLaws.{end_by, place_by, offered_at, IsOfFrame, OpenOfferStores}
use Rattle.shared_words.proofs.FoldOfOperations.{standing_none}
use Rattle.shared_words.proofs.LinkOfSetup.{same_section, is_link_config, honest_below}
use Rattle.peer_runner.proofs.EndsAlong.{IsQuiet, alone_at, place_before, Turn, along}
use Rattle.peer_runner.proofs.StatesFromLists.{fold_more}
use Rattle.peer_runner.proofs.Flight.{report_none, none_some, goes_on}

-- The frame offered is the next one.
number_is : (link_config : LinkConfig) (memory : ℕ → ℕ) (p : ℕ) (end : End) (place : Place) (pending : PendingOffer) → EndInvariant link_config memory p end place → offered_at place ≡ Some pending → pending.number ≡ length end.accepted
number_is link_config memory p end (ReadingUsedIndex j freed) pending a e = let same : j ≡ pending = cc in ap (λ (x : PendingOffer). x.number) (sym same) ∙ a.holds.1.number
number_is link_config memory p end (ReadingUsedId j freed more) pending a e = let same : j ≡ pending = cc in ap (λ (x : PendingOffer). x.number) (sym same) ∙ a.holds.1.number
number_is link_config memory p end (WritingFrameWord j at more) pending a e = let same : j ≡ pending = cc in ap (λ (x : PendingOffer). x.number) (sym same) ∙ a.holds.1.next.number
number_is link_config memory p end (WritingDescAddressLow j) pending a e = let same : j ≡ pending = cc in ap (λ (x : PendingOffer). x.number) (sym same) ∙ a.holds.1.next.number
number_is link_config memory p end (WritingDescAddressHigh j) pending a e = let same : j ≡ pending = cc in ap (λ (x : PendingOffer). x.number) (sym same) ∙ a.holds.1.next.number
number_is link_config memory p end (WritingDescLength j) pending a e = let same : j ≡ pending = cc in ap (λ (x : PendingOffer). x.number) (sym same) ∙ a.holds.1.next.number
number_is link_config memory p end (WritingDescFlags j) pending a e = let same : j ≡ pending = cc in ap (λ (x : PendingOffer). x.number) (sym same) ∙ a.holds.1.next.number
number_is link_config memory p end (WritingAvailEntry j) pending a e = let same : j ≡ pending = cc in ap (λ (x : PendingOffer). x.number) (sym same) ∙ a.holds.1.next.number
number_is link_config memory p end (WritingAvailIndex j) pending a e = let same : j ≡ pending = cc in ap (λ (x : PendingOffer). x.number) (sym same) ∙ a.holds.1
number_is link_config memory p end place pending a e = absurd (none_some pending e)

-- And its lengths are those of the session.
lengths_are : (link_config : LinkConfig) (memory : ℕ → ℕ) (p : ℕ) (end : End) (place : Place) (pending : PendingOffer) → EndInvariant link_config memory p end place → offered_at place ≡ Some pending → pending.lengths ≡ lengths_of (end.accepted ++ pending.frame ∷ [])
lengths_are link_config memory p end (ReadingUsedIndex j freed) pending a e = let same : j ≡ pending = cc in subst (λ (x : PendingOffer). x.lengths ≡ lengths_of (end.accepted ++ x.frame ∷ [])) same a.holds.1.lengths
lengths_are link_config memory p end (ReadingUsedId j freed more) pending a e = let same : j ≡ pending = cc in subst (λ (x : PendingOffer). x.lengths ≡ lengths_of (end.accepted ++ x.frame ∷ [])) same a.holds.1.lengths
lengths_are link_config memory p end (WritingFrameWord j at more) pending a e = let same : j ≡ pending = cc in subst (λ (x : PendingOffer). x.lengths ≡ lengths_of (end.accepted ++ x.frame ∷ [])) same a.holds.1.next.lengths
lengths_are link_config memory p end (WritingDescAddressLow j) pending a e = let same : j ≡ pending = cc in subst (λ (x : PendingOffer). x.lengths ≡ lengths_of (end.accepted ++ x.frame ∷ [])) same a.holds.1.next.lengths
lengths_are link_config memory p end (WritingDescAddressHigh j) pending a e = let same : j ≡ pending = cc in subst (λ (x : PendingOffer). x.lengths ≡ lengths_of (end.accepted ++ x.frame ∷ [])) same a.holds.1.next.lengths
lengths_are link_config memory p end (WritingDescLength j) pending a e = let same : j ≡ pending = cc in subst (λ (x : PendingOffer). x.lengths ≡ lengths_of (end.accepted ++ x.frame ∷ [])) same a.holds.1.next.lengths
lengths_are link_config memory p end (WritingDescFlags j) pending a e = let same : j ≡ pending = cc in subst (λ (x : PendingOffer). x.lengths ≡ lengths_of (end.accepted ++ x.frame ∷ [])) same a.holds.1.next.lengths
lengths_are link_config memory p end (WritingAvailEntry j) pending a e = let same : j ≡ pending = cc in subst (λ (x : PendingOffer). x.lengths ≡ lengths_of (end.accepted ++ x.frame ∷ [])) same a.holds.1.next.lengths
lengths_are link_config memory p end (WritingAvailIndex j) pending a e = let same : j ≡ pending = cc in subst (λ (x : PendingOffer). x.lengths ≡ lengths_of (end.accepted ++ x.frame ∷ [])) same a.holds.2
lengths_are link_config memory p end place pending a e = absurd (none_some pending e)

-- It still reads the used ring, or has room for its frame.
abbrev IsReading : Place → Type 0
IsReading (ReadingUsedIndex pending freed) = Unit {0}
IsReading (ReadingUsedId pending freed more) = Unit {0}
IsReading place = ⊥

room_is : (link_config : LinkConfig) (memory : ℕ → ℕ) (p : ℕ) (end : End) (place : Place) (pending : PendingOffer) → EndInvariant link_config memory p end place → offered_at place ≡ Some pending → IsReading place ⊎ HasRoom link_config pending (freed_at end.freed place)
room_is link_config memory p end (ReadingUsedIndex j freed) pending a e = inl tt
room_is link_config memory p end (ReadingUsedId j freed more) pending a e = inl tt
room_is link_config memory p end (WritingFrameWord j at more) pending a e = let same : j ≡ pending = cc in inr (subst (λ (x : PendingOffer). HasRoom link_config x end.freed) same a.holds.1.room)
room_is link_config memory p end (WritingDescAddressLow j) pending a e = let same : j ≡ pending = cc in inr (subst (λ (x : PendingOffer). HasRoom link_config x end.freed) same a.holds.1.room)
room_is link_config memory p end (WritingDescAddressHigh j) pending a e = let same : j ≡ pending = cc in inr (subst (λ (x : PendingOffer). HasRoom link_config x end.freed) same a.holds.1.room)
room_is link_config memory p end (WritingDescLength j) pending a e = let same : j ≡ pending = cc in inr (subst (λ (x : PendingOffer). HasRoom link_config x end.freed) same a.holds.1.room)
room_is link_config memory p end (WritingDescFlags j) pending a e = let same : j ≡ pending = cc in inr (subst (λ (x : PendingOffer). HasRoom link_config x end.freed) same a.holds.1.room)
room_is link_config memory p end (WritingAvailEntry j) pending a e = let same : j ≡ pending = cc in inr (subst (λ (x : PendingOffer). HasRoom link_config x end.freed) same a.holds.1.room)
room_is link_config memory p end (WritingAvailIndex j) pending a e = let same : j ≡ pending = cc in inr (subst (λ (x : PendingOffer). HasRoom link_config x end.freed) same a.holds.3)
room_is link_config memory p end place pending a e = absurd (none_some pending e)

fill_reads : (pending : PendingOffer) (at count : ℕ) → IsReading (settled_place (fill_place pending at count)) → ⊥
unfolding settled_place
fill_reads pending at zero r = r
fill_reads pending at (suc more) r = r

reading_offers : (place : Place) → IsReading place → (pending : PendingOffer) × (offered_at place ≡ Some pending)
reading_offers (ReadingUsedIndex pending freed) r = (pending, refl)
reading_offers (ReadingUsedId pending freed more) r = (pending, refl)
reading_offers place r = absurd r

-- It read before, if it still reads.
reading_on : (config : EndConfig) (place : Place) (value : ℕ) → IsReading (settled_place (next_place config place value)) → IsReading place
unfolding settled_place
reading_on config (ReadingUsedIndex pending freed) value r = tt
reading_on config (ReadingUsedId pending freed more) value r = tt
reading_on config (WritingFrameWord pending at more) value r = fill_reads pending (at + 1) more r
reading_on config (WritingDescAddressLow pending) value r = r
reading_on config (WritingDescAddressHigh pending) value r = r
reading_on config (WritingDescLength pending) value r = r
reading_on config (WritingDescFlags pending) value r = r
reading_on config (WritingAvailEntry pending) value r = r
reading_on config (WritingAvailIndex pending) value r = let o = reading_offers (settled_place (notify_place config pending.number)) r in none_some o.0 (sym (report_none config pending.number) ∙ o.1)
reading_on config place value r = let o = reading_offers (settled_place (next_place config place value)) r in absurd (none_some o.0 (goes_on config place value o.0 o.1))

reads_words : (config : EndConfig) (place : Place) → IsReading place → words_of (access_at config place) ≡ []
reads_words config (ReadingUsedIndex pending freed) r = refl
reads_words config (ReadingUsedId pending freed more) r = refl
reads_words config place r = absurd r

none_in : (w : ℕ) → Contains [] w → ⊥
none_in w (k, lt, e) = omega arith

one_in : (word w : ℕ) → Contains (word ∷ []) w → w ≡ word
one_in word w (zero, lt, e) = sym e
one_in word w (suc k, lt, e) = absurd (omega arith)

-- The length of its frame, by its number.
long_is : (accepted : List (List ℕ)) (pending : PendingOffer) → pending.number ≡ length accepted → pending.lengths ≡ lengths_of (accepted ++ pending.frame ∷ []) → pending.lengths pending.number ≡ length pending.frame
long_is accepted pending number lengths = ap (λ (l : ℕ → ℕ). l pending.number) lengths ∙ (ap (lengths_of (accepted ++ pending.frame ∷ [])) number ∙ last_length accepted pending.frame)

-- Its words are among the bytes that it takes.
word_fits : (sizes : Sizes) (pending : PendingOffer) (at : ℕ) → IsQueue sizes → pending.lengths pending.number ≡ length pending.frame → length pending.frame ≤ sizes.mtu + FRAME_OVERHEAD → at < (length pending.frame + 3) / 4 → at < footprint_of sizes (length pending.frame) / 4
word_fits sizes pending at queue long most lt = let placed = frames_are_laid_out.placed sizes pending.lengths pending.number queue in let holds = subst (λ n. n ≤ sizes.mtu + FRAME_OVERHEAD → 4 * ((n + 3) / 4) ≤ footprint_of sizes n) long placed.holds in let h = holds most in omega arith

-- An access to a session word begins no call and stores nothing in the region.
quiet_writes : (was : List ℕ) (d : MemoryOp CallAccess) → IsQuiet d → unless_begun was d ++ words_of (access_of d) ≡ was
quiet_writes was (called t) is = absurd is
quiet_writes was restarted is = absurd is
quiet_writes was (numbered number) is = append-nil was
quiet_writes was (carried number) is = append-nil was

module _ (key : RunSetup) (fit : IsFit key) (p : ℕ) (hp : honest_of key p ≡ true) where
  -- The store of an offer, whose frame isn't accepted by it.
  stored_at : (memory : ℕ → ℕ) (end : End) (place : Place) (value : ℕ) (pending : PendingOffer) (w : ℕ) → EndInvariant (link_config_of key) memory p end place → offered_at (settled_place (next_place (config_of (link_config_of key) p) place value)) ≡ Some pending →
      Contains (words_of (access_at (config_of (link_config_of key) p) place)) w → IsOfFrame key p pending w
  unfolding settled_place
  stored_at memory end (ReadingUsedIndex j freed) value pending w a e c = absurd (none_in w c)
  stored_at memory end (ReadingUsedId j freed more) value pending w a e c = absurd (none_in w c)
  stored_at memory end (WritingFrameWord j at more) value pending w a e c = let is = one_in _ w c in let start = same_section key p (honest_below key p hp) in let going = goes_on (config_of (link_config_of key) p) (WritingFrameWord j at more) value pending e in let same : j ≡ pending = cc in
      let f = a.holds.1.next.frame in let sum = a.holds.2 in let fits = word_fits key.queue j at fit.queue (long_is end.accepted j a.holds.1.next.number a.holds.1.next.lengths) f.most (omega arith) in
      subst (λ (x : PendingOffer). IsOfFrame key p x w) same (inl (omega arith, omega arith))
  stored_at memory end (WritingDescAddressLow j) value pending w a e c = let is = one_in _ w c in let start = same_section key p (honest_below key p hp) in let same : j ≡ pending = cc in subst (λ (x : PendingOffer). IsOfFrame key p x w) same (inr (inl (omega arith, omega arith)))
  stored_at memory end (WritingDescAddressHigh j) value pending w a e c = let is = one_in _ w c in let start = same_section key p (honest_below key p hp) in let same : j ≡ pending = cc in subst (λ (x : PendingOffer). IsOfFrame key p x w) same (inr (inl (omega arith, omega arith)))
  stored_at memory end (WritingDescLength j) value pending w a e c = let is = one_in _ w c in let start = same_section key p (honest_below key p hp) in let same : j ≡ pending = cc in subst (λ (x : PendingOffer). IsOfFrame key p x w) same (inr (inl (omega arith, omega arith)))
  stored_at memory end (WritingDescFlags j) value pending w a e c = let is = one_in _ w c in let start = same_section key p (honest_below key p hp) in let same : j ≡ pending = cc in subst (λ (x : PendingOffer). IsOfFrame key p x w) same (inr (inl (omega arith, omega arith)))
  stored_at memory end (WritingAvailEntry j) value pending w a e c = let is = one_in _ w c in let start = same_section key p (honest_below key p hp) in let same : j ≡ pending = cc in subst (λ (x : PendingOffer). IsOfFrame key p x w) same (inr (inr (omega arith)))
  stored_at memory end (WritingAvailIndex j) value pending w a e c = absurd (none_some pending (sym (report_none (config_of (link_config_of key) p) j.number) ∙ e))
  stored_at memory end place value pending w a e c = absurd (none_some pending (goes_on (config_of (link_config_of key) p) place value pending e))

  -- The stores of the offer up to a place.
  abbrev Had : List ℕ → Place → PendingOffer → Type 0
  Had writes place pending = ((w : ℕ) → Contains writes w → IsOfFrame key p pending w) × (IsReading place → writes ≡ [])

  abbrev Stored : List (MemoryOp CallAccess) → Type 0
  Stored l = (pending : PendingOffer) → offered_at (derived_state key p l).place ≡ Some pending → Had (call_writes l) (derived_state key p l).place pending

  before : (s : DerivedState) (call : Option Call) (writes : List ℕ) (pending : PendingOffer) → (offered_at s.place ≡ Some pending → Had writes s.place pending) → offered_at (begun_if (config_of (link_config_of key) p) s call).place ≡ Some pending →
      Had (unless_call writes call) (begun_if (config_of (link_config_of key) p) s call).place pending
  before s None writes pending was e = was e
  before s (Some call) writes pending was e = (λ w c. absurd (none_in w c), λ r. refl)

  stored_more : (memory after words : ℕ → ℕ) (acc next : ℕ → List (MemoryOp CallAccess)) (t : CallAccess) → OperationsMade key memory words acc → OperationsMade key after words next → next p ≡ acc p ++ called t ∷ [] → Turn key p memory after (acc p) t → Stored (acc p) → Stored (acc p ++ called t ∷ [])
  stored_more memory after words acc next t k m here turn was pending e = let config = config_of (link_config_of key) p in let place = place_before key p (acc p) t in let s = derived_state key p (acc p ++ called t ∷ []) in
      let e' : offered_at (settled_place (next_place config place t.value)) ≡ Some pending = ap offered_at (sym turn.next_place) ∙ e in
      let had = before (derived_state key p (acc p)) t.begins (call_writes (acc p)) pending (was pending) (goes_on config place t.value pending e') in
      let writes : call_writes (acc p ++ called t ∷ []) ≡ unless_call (call_writes (acc p)) t.begins ++ words_of (access_at config place) =
      fold_more (λ l (x : MemoryOp CallAccess). unless_begun l x ++ words_of (access_of x)) [] (acc p) (called t) ∙ ap (λ (a : Access). unless_call (call_writes (acc p)) t.begins ++ words_of a) turn.is in (
        λ w c. ⊎_elim (λ h. had.0 w h) (λ h. stored_at memory (end_by key acc p) place t.value pending w turn.alone e' h)
            (Contains-append_cases (unless_call (call_writes (acc p)) t.begins) (words_of (access_at config place)) w (subst (λ l. Contains l w) writes c)),
        λ r. let reads = reading_on config place t.value (subst IsReading turn.next_place r) in writes ∙ (ap (λ l. l ++ words_of (access_at config place)) (had.1 reads) ∙ reads_words config place reads),
      )

  stored_is : (memory words : ℕ → ℕ) (acc : ℕ → List (MemoryOp CallAccess)) → OperationsMade key memory words acc → Stored (acc p)
  stored_is = along key fit p hp Stored (λ pending e. absurd (none_some pending (ap (λ (s : DerivedState). offered_at s.place) (sym (standing_none key p)) ∙ e))) stored_more
      (λ list d quiet was pending e. subst (λ l. Had l (derived_state key p (list ++ d ∷ [])).place pending) (sym (fold_more (λ l (x : MemoryOp CallAccess). unless_begun l x ++ words_of (access_of x)) [] list d ∙ quiet_writes (call_writes list) d quiet.kind))
      (subst (λ (x : Place). Had (call_writes list) x pending) (sym quiet.place) (was pending (ap offered_at (sym quiet.place) ∙ e))))
      (λ memory after list reset was pending e. absurd (none_some pending (ap offered_at (sym reset.place) ∙ e)))

  pub open_offer_stores : (memory words : ℕ → ℕ) (acc : ℕ → List (MemoryOp CallAccess)) → OperationsMade key memory words acc → OpenOfferStores key memory acc p
  open_offer_stores memory words acc m pending e = let link_config = link_config_of key in let end = end_by key acc p in let place = place_by key acc p in let a = alone_at key fit memory words acc m p hp in let st = stored_is memory words acc m pending e in
      let number = number_is link_config memory p end place pending a e in let lengths = lengths_are link_config memory p end place pending a e in let is = is_link_config key fit in record {
        number = number;
        lengths = lengths;
        stores = st.0;
        free = λ k some low high same. ⊎_elim (λ r. some (st.1 r))
            (λ room. let few = frames_are_laid_out.few key.queue pending.lengths (freed_at end.freed place) pending.number room in let b = numbers link_config is in ring_apart (limit_of key.queue) k (length end.accepted) b.limit_least high (omega arith) (ap (λ n. n % limit_of key.queue) (sym number) ∙ sym same))
            (room_is link_config memory p end place pending a e);
        apart = λ k some low high. ⊎_elim (λ r. absurd (some (st.1 r)))
            (λ room. subst (λ n. AreApart (start_of key.queue pending.lengths k) (footprint_of key.queue (pending.lengths k)) (start_of key.queue pending.lengths pending.number) (footprint_of key.queue n)) (long_is end.accepted pending number lengths)
            (frames_are_laid_out.apart key.queue pending.lengths (freed_at end.freed place) pending.number k fit.queue room low (omega arith)))
            (room_is link_config memory p end place pending a e);
      }
