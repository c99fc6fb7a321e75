-- The steps of an offer, between two honest ends.
use Rattle.std.proofs.Common.{◌≡◌, ◌≢◌, ℕ, zero, suc, ◌+◌, ◌-◌, ◌%◌, ◌≤◌, Bool, true, false, List, [], ◌∷◌, ◌++◌, length, refl, sym, ap, ◌∙◌, subst, arith, append_assoc, length-append}
use Rattle.std.specs.Prelude.{◌==◌, if◌then◌else◌}
use Rattle.std.proofs.lemmas.Bool.Decides.{nat_tests}
use Rattle.std.proofs.lemmas.Nat.{mod_below}
use Rattle.split_ring.specs.declared.ranges.FieldName.TheVariants as field_name
use Rattle.split_ring.specs.Layout.{has_events, size_of, limit_of, word_offset, UsedIndex, UsedId}
use Rattle.split_ring.specs.Spelling.{high_half}
use Rattle.split_ring.specs.Ranges.{is_used_id, is_used_index}
use Rattle.link_handshake.specs.declared.Phase.TheVariants.{Run}
use Rattle.call_grammar.specs.Ends.{End, with_marks, end_after}
use Rattle.call_grammar.specs.Words.{words_for}
use Rattle.call_grammar.specs.Offers.{PendingOffer, frame_fits, refusal, full_marks, returned_by, reclaim_marks, descriptor_of}
use Rattle.call_grammar.specs.Places.{Place, Closed, Refusing, ReadingUsedIndex, ReadingUsedId, WritingAvailIndex, ReadingAvailEvent, RingingOffer, fill_place, ids_place, notify_place, next_place, step_at}
use Rattle.link_invariant.specs.Fields.{Field}
use Rattle.link_invariant.specs.Fields as field
use Rattle.link_invariant.specs.LinkConfig.{LinkConfig, IsLinkConfig, section_of, config_of, fields}
use Rattle.link_invariant.specs.EndInvariant.{EndInvariant}
use Rattle.link_invariant.specs.Pair.{freed_at, Polls, InFlight}
use Rattle.link_invariant.proofs.Fields.{numbers, one_test, field_read, Put}
use Rattle.link_invariant.proofs.EndObligations.{by_test, Puts}
use Rattle.link_invariant.proofs.ReadSteps.{full_quiet, freed_by, ids_quiet}
use Rattle.link_invariant.proofs.PairObligations.{Facing, IsCalm, Works, takes_on, polls_more}

-- The place before ids.
abbrev IdsAt : LinkConfig → (Field → ℕ) → List (List ℕ) → (now freed : ℕ) → Place → Type 0
IdsAt link_config field frames now freed place = IsCalm place × (freed_at now place ≡ freed) × Polls link_config field frames place

fill_at : (link_config : LinkConfig) (field : Field → ℕ) (frames : List (List ℕ)) (now freed : ℕ) (pending : PendingOffer) (at count : ℕ) → now ≡ freed → IdsAt link_config field frames now freed (fill_place pending at count)
fill_at link_config field frames now freed pending at zero e = (tt, e, tt)
fill_at link_config field frames now freed pending at (suc more) e = (tt, e, tt)

ids_at : (link_config : LinkConfig) (p : ℕ) (field : Field → ℕ) (frames : List (List ℕ)) (now freed : ℕ) (pending : PendingOffer) (count : ℕ) → now ≡ freed + count → IdsAt link_config field frames now freed (ids_place (config_of link_config p) pending freed count)
ids_at link_config p field frames now freed pending zero e = by_room (frame_fits (config_of link_config p) pending freed)
  where
    same : now ≡ freed
    same = omega arith

    by_room : (b : Bool) → IdsAt link_config field frames now freed (if b then fill_place pending 0 (words_for (length pending.frame)) else Closed)
    by_room true = fill_at link_config field frames now freed pending 0 (words_for (length pending.frame)) same
    by_room false = (tt, same, tt)
ids_at link_config p field frames now freed pending (suc more) e = (tt, refl, tt)

-- The place after the write of the available index.
notify_has_ids : (link_config : LinkConfig) (p : ℕ) (field : Field → ℕ) (frames : List (List ℕ)) (freed number : ℕ) → IdsAt link_config field frames freed freed (notify_place (config_of link_config p) number)
notify_has_ids link_config p field frames freed number = by_bool (has_events link_config.sizes)
  where
    by_bool : (b : Bool) → IdsAt link_config field frames freed freed (if b then ReadingAvailEvent number else RingingOffer)
    by_bool true = (tt, refl, tt)
    by_bool false = (tt, refl, tt)

module _ (link_config : LinkConfig) (is : IsLinkConfig link_config) (p : ℕ) (memory : ℕ → ℕ) (end u : End) (w : Place) (mark : end.handshake.mark ≡ false) where
  abbrev Goes : Place → ℕ → Type 0
  Goes place value = Works link_config memory memory p u w (end_after end (step_at (config_of link_config p) place value)) (next_place (config_of link_config p) place value)

  -- The number of frames returned since the last read.
  pub returned_is : (pending : PendingOffer) (freed value : ℕ) → value ≡ memory (section_of link_config (1 - p) + word_offset link_config.sizes UsedIndex) → EndInvariant link_config memory p end (ReadingUsedIndex pending freed) → Facing link_config memory p end (ReadingUsedIndex pending freed) u w →
      (end.freed + returned_by freed value ≡ u.returned) × (u.returned ≤ length end.accepted)
  returned_is pending freed value met a f = let h = a.holds in let l = f.sends in let same = h.2 in let r = l.returns in let v = l.delivers in let room = a.room in let b = numbers link_config is in let few = b.size_most in let lim = b.limit_most in
      let index : high_half value ≡ u.returned % 65536 = field_read link_config memory (1 - p) field.UsedIndex value refl met ∙ f.opposite.used in
      let most : length u.delivered ≤ length end.accepted = prefix_most end.accepted u.delivered l.prefix.0 l.prefix.1 in (omega arith, omega arith)
    where
      prefix_most : (frames done rest : List (List ℕ)) → frames ≡ done ++ rest → length done ≤ length frames
      prefix_most frames done rest e = let h = ap length e in let n = length-append done rest in omega arith

  pub sends_used_index : (pending : PendingOffer) (freed value : ℕ) → value ≡ memory (section_of link_config (1 - p) + word_offset link_config.sizes UsedIndex) → EndInvariant link_config memory p end (ReadingUsedIndex pending freed) → Facing link_config memory p end (ReadingUsedIndex pending freed) u w → Goes (ReadingUsedIndex pending freed) value
  sends_used_index pending freed value met a f = let h = a.holds in let l = f.sends in let d = returned_by freed value in let number = h.1.number in let same = h.2 in let r = l.returns in let v = l.delivers in let room = a.room in let b = numbers link_config is in let few = b.size_most in let lim = b.limit_most in
      let fact = returned_is pending freed value met a f in let exact = fact.0 in let most = fact.1 in
      by_test (λ m x. Works link_config memory memory p u w (with_marks end m) x) (is_used_index (freed % 65536) (high_half value) (pending.number - freed)) (reclaim_marks (config_of link_config p) pending freed d) (refusal field_name.UsedIndex (high_half value)) (ids_place (config_of link_config p) pending freed d) Refusing
      (λ test. let x = ids_at link_config p (fields link_config memory p) u.accepted (end.freed + d) freed pending d (omega arith) in
      subst (λ (e : End). Works link_config memory memory p u w e (ids_place (config_of link_config p) pending freed d)) (sym (freed_by end d (full_marks (config_of link_config p) pending freed) (λ e. full_quiet e (frame_fits (config_of link_config p) pending freed)))) record {
        run = h.0;
        mark = mark;
        calm = x.0;
        sends = record { returns = omega arith; delivers = v; prefix = l.prefix; named = λ k from below. l.named k (let e = x.1 in omega arith) below; polls = l.polls };
        takes = takes_on (ids_place (config_of link_config p) pending freed d) (λ k. refl) x.2 f.takes;
      })
      (λ test. absurd (let low : d ≤ pending.number - freed = omega arith in grind (arith, nat_tests)))

  pub sends_id : (pending : PendingOffer) (freed more value : ℕ) → value ≡ memory (section_of link_config (1 - p) + word_offset link_config.sizes (UsedId (freed % size_of link_config.sizes))) → EndInvariant link_config memory p end (ReadingUsedId pending freed more) → Facing link_config memory p end (ReadingUsedId pending freed more) u w → Goes (ReadingUsedId pending freed more) value
  sends_id pending freed more value met a f = let h = a.holds in let l = f.sends in let all = h.2 in let r = l.returns in let least = (numbers link_config is).size_least in let k = freed % size_of link_config.sizes in
      let good : value ≡ freed % limit_of link_config.sizes = field_read link_config memory (1 - p) (field.UsedId k) value (one_test _ _ (mod_below freed (size_of link_config.sizes) (omega arith))) met ∙ l.named freed (omega arith) (omega arith) in
      by_test (λ m x. Works link_config memory memory p u w (with_marks end m) x) (is_used_id (descriptor_of (config_of link_config p) freed) value) (if more == 0 then full_marks (config_of link_config p) pending (freed + 1) else []) (refusal field_name.UsedId value) (ids_place (config_of link_config p) pending (freed + 1) more) Refusing
      (λ test. let x = ids_at link_config p (fields link_config memory p) u.accepted end.freed (freed + 1) pending more (omega arith) in
      subst (λ (e : End). Works link_config memory memory p u w e (ids_place (config_of link_config p) pending (freed + 1) more)) (sym (ids_quiet end (more == 0) (frame_fits (config_of link_config p) pending (freed + 1)))) record {
        run = h.0;
        mark = mark;
        calm = x.0;
        sends = record { returns = r; delivers = l.delivers; prefix = l.prefix; named = λ i from below. l.named i (let e = x.1 in omega arith) below; polls = l.polls };
        takes = takes_on (ids_place (config_of link_config p) pending (freed + 1) more) (λ k. refl) x.2 f.takes;
      })
      (λ test. absurd (grind (arith, nat_tests)))

module _ (link_config : LinkConfig) (p : ℕ) (memory after : ℕ → ℕ) (end u : End) (w : Place) (mark : end.handshake.mark ≡ false) where
  -- A write of a field other than a used id.
  pub sends_word : (place next : Place) (f : Field) (x v n : ℕ) → end.handshake.phase ≡ Run → ((k : ℕ) → field.UsedId k ≢ f) → IsCalm next → freed_at end.freed place ≡ freed_at end.freed next → Polls link_config (fields link_config after p) u.accepted next →
      Put link_config memory after p f n → Facing link_config memory p end place u w → Works link_config memory after p u w (record end { written = λ w. if w == x then v else end.written w }) next
  sends_word place next f x v n run apart calm read polls put facing = record {
    run = run;
    mark = mark;
    calm = calm;
    sends = subst (λ k. InFlight link_config (fields link_config memory (1 - p)) end.accepted end.freed k u.delivered u.returned w) read facing.sends;
    takes = takes_on next (λ k. put.neighbour_word _ (apart k)) polls facing.takes;
  }

  pub sends_index : (pending : PendingOffer) (value : ℕ) → Puts link_config p memory after (WritingAvailIndex pending) → EndInvariant link_config memory p end (WritingAvailIndex pending) → Facing link_config memory p end (WritingAvailIndex pending) u w → Works link_config memory after p u w (end_after end (step_at (config_of link_config p) (WritingAvailIndex pending) value)) (notify_place (config_of link_config p) pending.number)
  sends_index pending value put a f = let h = a.holds in let l = f.sends in let frame = pending.frame in let x = notify_has_ids link_config p (fields link_config after p) u.accepted end.freed pending.number in record {
    run = h.0;
    mark = mark;
    calm = x.0;
    sends = record { returns = l.returns; delivers = l.delivers; prefix = (l.prefix.0 ++ frame ∷ [], ap (λ (x : List (List ℕ)). x ++ frame ∷ []) l.prefix.1 ∙ append_assoc u.delivered l.prefix.0 (frame ∷ [])); named = λ k from below. l.named k (let e = x.1 in omega arith) below; polls = polls_more link_config (fields link_config memory (1 - p)) end.accepted frame w l.polls };
    takes = takes_on (notify_place (config_of link_config p) pending.number) (λ k. put.neighbour_word _ (λ e. cc)) x.2 f.takes;
  }
