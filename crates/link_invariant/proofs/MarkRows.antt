-- The marks of each kind of step satisfy their rows.
use Rattle.std.proofs.Common.{◌≡◌, ℕ, zero, suc, ◌+◌, ◌<◌, ◌≤◌, inl, inr, Bool, true, false, List, [], ◌∷◌, ◌++◌, length, refl, sym, ap, ◌∙◌, subst, arith, ne_eqb}
use Rattle.std.specs.Prelude.{◌==◌, if◌then◌else◌, map}
use Rattle.split_ring.specs.declared.ranges.FieldName.{FieldName}
use Rattle.split_ring.specs.Layout.{limit_of}
use Rattle.split_ring.specs.Frames.{has_room}
use Rattle.link_handshake.specs.declared.Move.TheVariants.{Stay, Set, ClearThenSet}
use Rattle.link_handshake.specs.PhaseTable.{phase_move}
use Rattle.link_handshake.specs.HandshakeState.{move_of}
use Rattle.call_grammar.specs.Steps.{Mark, Reclaim, Full, Look}
use Rattle.call_grammar.specs.Ends.{End, with_marks}
use Rattle.call_grammar.specs.Words.{words_for, lengths_of}
use Rattle.call_grammar.specs.Ticks.{EndConfig}
use Rattle.call_grammar.specs.Rows.{MovesTo}
use Rattle.call_grammar.specs.Calls.{Call, Tick, Stop, Offer, Poll, in_run, pending_of}
use Rattle.call_grammar.specs.Offers.{PendingOffer, frame_fits, refusal, full_marks}
use Rattle.call_grammar.specs.Polls.{is_last, look_marks}
use Rattle.call_grammar.specs.Places.{Closed, Refusing, NotInRun, ReadingUsedIndex, ReadingUsedId, ReadingAvailIndex, ReadingAvailEntry, fill_place, ids_place, none_place, items_place, words_place, first_place}
use Rattle.call_grammar.proofs.OfferLists.{yes, no}
use Rattle.link_machine.specs.LinkMachine.{Side, IsFull, Marked, ReadsIndex, MayReclaim, MayLook, IsBeyond}
use Rattle.link_invariant.specs.LinkConfig.{LinkConfig, config_of, IsOffered}
use Rattle.link_invariant.specs.Sides.{HasLeft, CallIs, SideIs}
use Rattle.link_invariant.proofs.StateRows.{Follows, Same, same_of, side_is, silent, anew, same_anew, same_looked}

-- A refusal against a hostile other.
pub refused_row : (link_config : LinkConfig) (other side : Side) (end : End) (f : FieldName) (v : ℕ) → Same end side → side.state ≡ 3 → IsBeyond link_config.sizes side f v → Follows link_config false other side (map Marked (refusal f v)) (with_marks end (refusal f v)) Refusing
refused_row link_config other side end f v same run beyond = let new = record side { refused = true; read = [] } in
    (new, (new, (refl, (refl, run, beyond, refl)), refl), record { state = same.state; refused = refl; accepted = same.accepted; delivered = same.delivered; returned = same.returned; freed = same.freed; call = refl })

-- Ticks

-- An end that refused stays.
pub moves_set : (end : End) (value n : ℕ) → move_of end.handshake value ≡ Set n → MovesTo end.handshake.phase value n
moves_set end value n is = by_mark end.handshake.mark refl
  where
    by_mark : (b : Bool) → end.handshake.mark ≡ b → MovesTo end.handshake.phase value n
    by_mark true e = absurd (let stay : move_of end.handshake value ≡ Stay = yes end.handshake.mark Stay (phase_move end.handshake.phase value) e in let f : Stay ≡ Set n = sym stay ∙ is in cc)
    by_mark false e = inl (sym (no end.handshake.mark Stay (phase_move end.handshake.phase value) e) ∙ is)

pub moves_clear : (end : End) (value n : ℕ) → move_of end.handshake value ≡ ClearThenSet n → MovesTo end.handshake.phase value n
moves_clear end value n is = by_mark end.handshake.mark refl
  where
    by_mark : (b : Bool) → end.handshake.mark ≡ b → MovesTo end.handshake.phase value n
    by_mark true e = absurd (let stay : move_of end.handshake value ≡ Stay = yes end.handshake.mark Stay (phase_move end.handshake.phase value) e in let f : Stay ≡ ClearThenSet n = sym stay ∙ is in cc)
    by_mark false e = inr (sym (no end.handshake.mark Stay (phase_move end.handshake.phase value) e) ∙ is)

-- Offers

pub fill_call : (end : End) (pending : PendingOffer) (at count : ℕ) (side : Side) → CallIs end (fill_place pending at count) side
fill_call end pending at zero side = tt
fill_call end pending at (suc more) side = tt

-- The pending offer is of a frame that may be offered next.
pub record IsNextOf (link_config : LinkConfig) (accepted : List (List ℕ)) (pending : PendingOffer) : Type 0 where
  pub frame : IsOffered link_config pending.frame
  pub number : pending.number ≡ length accepted
  pub lengths : pending.lengths ≡ lengths_of (accepted ++ pending.frame ∷ [])

-- If the frame doesn't fit, the side is full.
full_of : (link_config : LinkConfig) (side : Side) (pending : PendingOffer) (freed : ℕ) → IsNextOf link_config side.accepted pending → has_room link_config.sizes pending.lengths freed pending.number ≡ false → side.freed ≡ freed → length side.accepted ≤ freed + limit_of link_config.sizes → IsFull link_config.sizes side
full_of link_config side pending freed next none f room = record {
  frame = pending.frame;
  least = next.frame.least;
  most = next.frame.most;
  none = ap (λ (l : ℕ → ℕ). has_room link_config.sizes l side.freed (length side.accepted)) (sym next.lengths) ∙ (ap (has_room link_config.sizes pending.lengths side.freed) (sym next.number) ∙ (ap (λ n. has_room link_config.sizes pending.lengths n pending.number) f ∙ none));
  in_flight = omega arith;
}

-- The place before ids of which none was read.
ids_call : (config : EndConfig) (end : End) (pending : PendingOffer) (freed count : ℕ) (side : Side) → side.read ≡ [] → side.reclaimed ≡ count → CallIs end (ids_place config pending freed count) side
ids_call config end pending freed zero side none is = by_bool (frame_fits config pending freed)
  where
    by_bool : (b : Bool) → CallIs end (if b then fill_place pending 0 (words_for (length pending.frame)) else Closed) side
    by_bool true = fill_call end pending 0 (words_for (length pending.frame)) side
    by_bool false = none
ids_call config end pending freed (suc more) side none is = let e = ap length none in (omega arith, omega arith)

-- The marks of a reclaim.
pub reclaim_rows : (link_config : LinkConfig) (other_honest : Bool) (other side : Side) (end : End) (config : EndConfig) (pending : PendingOffer) (freed count : ℕ) (c : Bool) → has_room link_config.sizes pending.lengths freed pending.number ≡ c → Same end side → side.state ≡ 3 → ReadsIndex side side.freed count → MayReclaim other_honest side other count →
    IsNextOf link_config side.accepted pending → length side.accepted ≤ freed + limit_of link_config.sizes → side.freed ≡ freed →
    Follows link_config other_honest other side (map Marked (if count == 0 then Reclaim 0 ∷ (if c then [] else Full ∷ []) else Reclaim count ∷ [])) (with_marks end (if count == 0 then Reclaim 0 ∷ (if c then [] else Full ∷ []) else Reclaim count ∷ [])) (ids_place config pending freed count)
reclaim_rows link_config other_honest other side end config pending freed zero false none same run read may next room f = let mid = record side { freed = side.freed + 0; reclaimed = 0; read = [] } in (
  mid,
  (mid, (refl, (run, read, may, refl)), (mid, (refl, (run, full_of link_config mid pending freed next none (let z : side.freed + 0 ≡ freed = omega arith in z) room, refl)), refl)),
  record { state = same.state; refused = same.refused; accepted = same.accepted; delivered = same.delivered; returned = same.returned; freed = ap (λ k. k + 0) same.freed; call = ids_call config (record end { freed = end.freed + 0 }) pending freed 0 mid refl refl },
)
reclaim_rows link_config other_honest other side end config pending freed zero true has same run read may next room f = let mid = record side { freed = side.freed + 0; reclaimed = 0; read = [] } in (
  mid,
  (mid, (refl, (run, read, may, refl)), refl),
  record { state = same.state; refused = same.refused; accepted = same.accepted; delivered = same.delivered; returned = same.returned; freed = ap (λ k. k + 0) same.freed; call = ids_call config (record end { freed = end.freed + 0 }) pending freed 0 mid refl refl },
)
reclaim_rows link_config other_honest other side end config pending freed (suc count) c test same run read may next room f = let mid = record side { freed = side.freed + suc count; reclaimed = suc count; read = [] } in
    subst (λ (m : List Mark). Follows link_config other_honest other side (map Marked m) (with_marks end m) (ReadingUsedId pending freed count)) (sym (no (suc count == 0) (Reclaim 0 ∷ (if c then [] else Full ∷ [])) (Reclaim (suc count) ∷ []) (ne_eqb (suc count) 0 (λ e. omega arith)))) (
      mid,
      (mid, (refl, (run, read, may, refl)), refl),
      record { state = same.state; refused = same.refused; accepted = same.accepted; delivered = same.delivered; returned = same.returned; freed = ap (λ k. k + suc count) same.freed; call = ids_call config (record end { freed = end.freed + suc count }) pending freed (suc count) mid refl refl },
    )

-- The marks of an id that passed its test.
pub id_rows : (link_config : LinkConfig) (other_honest : Bool) (other side : Side) (end : End) (p : ℕ) (pending : PendingOffer) (freed more : ℕ) → Same end side → side.state ≡ 3 → IsNextOf link_config side.accepted pending → length side.accepted ≤ freed + limit_of link_config.sizes → side.freed ≡ freed + suc more → side.reclaimed ≡ length side.read + more → length side.read ≤ freed + 1 →
    Follows link_config other_honest other side (map Marked (if more == 0 then full_marks (config_of link_config p) pending (freed + 1) else [])) (with_marks end (if more == 0 then full_marks (config_of link_config p) pending (freed + 1) else [])) (ids_place (config_of link_config p) pending (freed + 1) more)
id_rows link_config other_honest other side end p pending freed zero same run next room f r l = by_bool (has_room link_config.sizes pending.lengths (freed + 1) pending.number) refl
  where
    by_bool : (c : Bool) → has_room link_config.sizes pending.lengths (freed + 1) pending.number ≡ c → Follows link_config other_honest other side (map Marked (if c then [] else Full ∷ [])) (with_marks end (if c then [] else Full ∷ [])) (if c then fill_place pending 0 (words_for (length pending.frame)) else Closed)
    by_bool false none = (anew side, (anew side, (refl, (run, full_of link_config side pending (freed + 1) next none f (omega arith), refl)), refl), side_is (same_anew same) refl)
    by_bool true has = silent link_config other_honest other side same (fill_call end pending 0 (words_for (length pending.frame)) side)
id_rows link_config other_honest other side end p pending freed (suc more) same run next room f r l =
    subst (λ (m : List Mark). Follows link_config other_honest other side (map Marked m) (with_marks end m) (ReadingUsedId pending (freed + 1) more)) (sym (no (suc more == 0) (full_marks (config_of link_config p) pending (freed + 1)) [] (ne_eqb (suc more) 0 (λ e. omega arith))))
    (silent link_config other_honest other side same (omega arith, l))

-- Polls

-- The place before items.
pub items_call : (end : End) (number count : ℕ) (side : Side) → HasLeft end side count → side.read ≡ [] → CallIs end (items_place number count) side
items_call end number zero side left none = (left, none)
items_call end number (suc more) side left none = (left, none)

pub words_call : (end : End) (number more entry address bytes count : ℕ) (side : Side) → 0 < count → HasLeft end side (suc more) → CallIs end (words_place number more entry address bytes [] count) side
words_call end number more entry address bytes zero side some left = absurd (omega arith)
words_call end number more entry address bytes (suc m) side some left = left

pub look_rows : (link_config : LinkConfig) (other_honest : Bool) (other side : Side) (end : End) (taken : ℕ) (last : Bool) (count : ℕ) → Same end side → side.state ≡ 3 → ReadsIndex side (length side.delivered) count → MayLook link_config.sizes other_honest side other count →
    Follows link_config other_honest other side (map Marked (look_marks last count)) (with_marks end (look_marks last count)) (if count == 0 then none_place taken last else items_place taken count)
look_rows link_config other_honest other side end taken true zero same run read may = let mid = record side { looked = length side.delivered + 0; read = [] } in (
  mid,
  (mid, (refl, (run, read, may, refl)), (mid, (refl, (run, (let z : length side.delivered ≡ length side.delivered + 0 = omega arith in z), refl)), refl)),
  side_is (same_looked true mid.looked [] same) refl,
)
look_rows link_config other_honest other side end taken false zero same run read may = let mid = record side { looked = length side.delivered + 0; read = [] } in (
  mid,
  (mid, (refl, (run, read, may, refl)), refl),
  side_is (same_looked true mid.looked [] same) refl,
)
look_rows link_config other_honest other side end taken last (suc more) same run read may = let mid = record side { looked = length side.delivered + suc more; read = [] } in let test = ne_eqb (suc more) 0 (λ e. omega arith) in
    subst (λ (b : Bool). Follows link_config other_honest other side (map Marked (if b then look_marks last 0 else Look (suc more) ∷ [])) (with_marks end (if b then look_marks last 0 else Look (suc more) ∷ [])) (if b then none_place taken last else ReadingAvailEntry taken more)) (sym test) (
      mid,
      (mid, (refl, (run, read, may, refl)), refl),
      side_is (same_looked (suc more == 0) mid.looked [] same) (ap (λ (d : List (List ℕ)). length d + suc more) same.delivered, refl),
    )

-- A call begins

pub begin_follows : (config : EndConfig) (end : End) (call : Call) (side : Side) → SideIs end Closed side → SideIs end (first_place config end call) side
begin_follows config end Tick side si = side_is (same_of si) si.call
begin_follows config end Stop side si = side_is (same_of si) (inl refl, si.call)
begin_follows config end (Offer frame) side si = by_bool (in_run end.handshake.phase)
  where
    by_bool : (b : Bool) → SideIs end (if b then ReadingUsedIndex (pending_of config end frame) end.freed else NotInRun) side
    by_bool true = side_is (same_of si) si.call
    by_bool false = side_is (same_of si) si.call
begin_follows config end Poll side si = by_bool (in_run end.handshake.phase)
  where
    by_bool : (b : Bool) → SideIs end (if b then ReadingAvailIndex (length end.delivered) (is_last config end.found_none) else NotInRun) side
    by_bool true = side_is (same_of si) si.call
    by_bool false = side_is (same_of si) si.call
