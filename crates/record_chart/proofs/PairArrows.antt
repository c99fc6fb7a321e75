-- A delivery of an honest pair has the arrow from the acceptance of the same frame. The counts of
-- acceptances and deliveries are the lengths of the lists of the link machine.
use Rattle.std.proofs.Common.{ℕ, zero, suc, ◌≡◌, ◌==◌, ◌&&◌, ◌+◌, ◌-◌, ◌<◌, Bool, true, false, if◌then◌else◌, List, [], ◌∷◌, ◌++◌, length, reverse, Some, slice_get, refl, ap, sym, ◌∙◌, subst, arith, append_assoc}
use Rattle.std.proofs.lemmas.Bool.{eqb-true}
use Rattle.std.proofs.lemmas.List.{reverse-append, reverse-reverse, length-reverse, length_push}
use Rattle.scenario_text.specs.Scenario.{World, is_link}
use Rattle.link_machine.specs.LinkMachine.{Side, side_with, MayDeliver}
use Rattle.lawful_history.specs.declared.line.Line.{Line}
use Rattle.lawful_history.specs.declared.line.Line.TheVariants as kinds
use Rattle.history_laws.specs.SideEvents.{line_side_event_of, side_after_line, side_of}
use Rattle.history_laws.specs.Rows.{EachLine, HasRow, KeepsRows, HistoriesRunTheMachine}
use Rattle.record_chart.specs.Arrows.{begins_session, accepts, acceptances, delivered_after, delivery_count, source_of}
use Rattle.record_chart.specs.Own.{DeliveriesHaveTheirArrows}

-- ---- what a line does to the lists of a side

abbrev frame_of : Line → List ℕ
frame_of (kinds.Accept peer frame) = frame
frame_of _ = []

abbrev accepted_then : Line → ℕ → List (List ℕ) → List (List ℕ)
accepted_then line q frames = if begins_session q line then [] else if accepts q line then frames ++ frame_of line ∷ [] else frames

accepted_kept : (b : Bool) (new side : Side) (frames : List (List ℕ)) → new.accepted ≡ frames → side.accepted ≡ frames →
    (if b then new else side).accepted ≡ frames
accepted_kept true new side frames e f = e
accepted_kept false new side frames e f = f

state_accepted : (b : Bool) (value : ℕ) (side : Side) → (if b then side_with side value else side).accepted ≡ (if b && (value == 2) then [] else side.accepted)
state_accepted true value side = refl
state_accepted false value side = refl

accept_accepted : (b : Bool) (frame : List ℕ) (side : Side) →
    (if b then record side { accepted = side.accepted ++ frame ∷ []; read = [] } else side).accepted ≡
    (if b then side.accepted ++ frame ∷ [] else side.accepted)
accept_accepted true frame side = refl
accept_accepted false frame side = refl

delivered_kept : (b : Bool) (new side : Side) (count : ℕ) → length new.delivered ≡ count → length side.delivered ≡ count →
    length (if b then new else side).delivered ≡ count
delivered_kept true new side count e f = e
delivered_kept false new side count e f = f

emptied : (c : Bool) (frames : List (List ℕ)) → length (if c then [] else frames) ≡ (if c then 0 else length frames)
emptied true frames = refl
emptied false frames = refl

state_delivered : (b : Bool) (value : ℕ) (side : Side) →
    length (if b then side_with side value else side).delivered ≡ (if b && (value == 2) then 0 else length side.delivered)
state_delivered true value side = emptied (value == 2) side.delivered
state_delivered false value side = refl

deliver_delivered : (b : Bool) (frame : List ℕ) (side : Side) →
    length (if b then record side { delivered = side.delivered ++ frame ∷ []; read = [] } else side).delivered ≡
    (if b then length side.delivered + 1 else length side.delivered)
deliver_delivered true frame side = length_push side.delivered frame
deliver_delivered false frame side = refl

both_kept : (b : Bool) (new side : Side) (frames : List (List ℕ)) (count : ℕ) → new.accepted ≡ frames → side.accepted ≡ frames → length new.delivered ≡ count → length side.delivered ≡ count →
    ((if b then new else side).accepted ≡ frames) × (length (if b then new else side).delivered ≡ count)
both_kept b new side frames count e f g h = (accepted_kept b new side frames e f, delivered_kept b new side count g h)

line_lists : (line : Line) (p : ℕ) (side : Side) →
    ((side_after_line (line_side_event_of line) p side).accepted ≡ accepted_then line p side.accepted) ×
    (length (side_after_line (line_side_event_of line) p side).delivered ≡ delivered_after p line (length side.delivered))
line_lists (kinds.State peer value) p side = (state_accepted (peer == p) value side, state_delivered (peer == p) value side)
line_lists (kinds.Accept peer frame) p side = (accept_accepted (peer == p) frame side, delivered_kept (peer == p) _ side _ refl refl)
line_lists (kinds.Deliver peer frame) p side = (accepted_kept (peer == p) _ side _ refl refl, deliver_delivered (peer == p) frame side)
line_lists (kinds.Read peer word value) p side = both_kept (peer == p) _ side _ _ refl refl refl refl
line_lists (kinds.Reset peer) p side = both_kept (peer == p) _ side _ _ refl refl refl refl
line_lists (kinds.Saw peer value) p side = both_kept (peer == p) _ side _ _ refl refl refl refl
line_lists (kinds.Reclaim peer count) p side = both_kept (peer == p) _ side _ _ refl refl refl refl
line_lists (kinds.Look peer count) p side = both_kept (peer == p) _ side _ _ refl refl refl refl
line_lists (kinds.Full peer) p side = both_kept (peer == p) _ side _ _ refl refl refl refl
line_lists (kinds.Done peer) p side = both_kept (peer == p) _ side _ _ refl refl refl refl
line_lists (kinds.Over peer) p side = both_kept (peer == p) _ side _ _ refl refl refl refl
line_lists (kinds.Down peer) p side = both_kept (peer == p) _ side _ _ refl refl refl refl
line_lists (kinds.Return peer) p side = both_kept (peer == p) _ side _ _ refl refl refl refl
line_lists (kinds.Refuse peer refused) p side = both_kept (peer == p) _ side _ _ refl refl refl refl
line_lists _ p side = (refl, refl)

deliveries_are : (p : ℕ) (older : List Line) → delivery_count p older ≡ length (side_of older p).delivered
deliveries_are p [] = refl
deliveries_are p (line ∷ older) = ap (delivered_after p line) (deliveries_are p older) ∙ sym (line_lists line p (side_of older p)).1

-- ---- the lines at which the frames of a side were accepted

-- This is the number of a line, counted from 1, at which this frame was accepted.
record IsAcceptance (q : ℕ) (before : List Line) (number : ℕ) (frame : List ℕ) : Type 0 where
  pub place : ℕ
  pub number_is : number ≡ place + 1
  pub refines : slice_get before place ≡ Some (kinds.Accept q frame)

abbrev Paired : ℕ → List Line → List ℕ → List (List ℕ) → Type 0
Paired q before [] [] = Unit {0}
Paired q before [] (frame ∷ frames) = ⊥
Paired q before (n ∷ ns) [] = ⊥
Paired q before (n ∷ ns) (frame ∷ frames) = IsAcceptance q before n frame × Paired q before ns frames

get_left : (xs ys : List Line) (k : ℕ) (x : Line) → slice_get xs k ≡ Some x → slice_get (xs ++ ys) k ≡ Some x
get_left [] ys k x e = cc
get_left (y ∷ xs) ys zero x e = e
get_left (y ∷ xs) ys (suc k) x e = get_left xs ys k x e

get_last : (xs : List Line) (x : Line) → slice_get (xs ++ x ∷ []) (length xs) ≡ Some x
get_last [] x = refl
get_last (y ∷ xs) x = get_last xs x

paired_more : (q : ℕ) (before more : List Line) (ns : List ℕ) (frames : List (List ℕ)) → Paired q before ns frames → Paired q (before ++ more) ns frames
paired_more q before more [] [] paired = tt
paired_more q before more [] (frame ∷ frames) paired = absurd paired
paired_more q before more (n ∷ ns) [] paired = absurd paired
paired_more q before more (n ∷ ns) (frame ∷ frames) (is, paired) = (
  record { place = is.place; number_is = is.number_is; refines = get_left before more is.place (kinds.Accept q frame) is.refines },
  paired_more q before
      more ns frames paired,
)

paired_push : (q : ℕ) (before : List Line) (n : ℕ) (frame : List ℕ) → IsAcceptance q before n frame → (ns : List ℕ) (frames : List (List ℕ)) →
    Paired q before ns frames →
    Paired q before (ns ++ n ∷ []) (frames ++ frame ∷ [])
paired_push q before n frame is [] [] paired = (is, tt)
paired_push q before n frame is [] (f ∷ frames) paired = absurd paired
paired_push q before n frame is (m ∷ ns) [] paired = absurd paired
paired_push q before n frame is (m ∷ ns) (f ∷ frames) (first, paired) = (first, paired_push q before n frame is ns frames paired)

record PairedAt (q : ℕ) (before : List Line) (ns : List ℕ) (k : ℕ) (frame : List ℕ) : Type 0 where
  pub number : ℕ
  pub found : slice_get ns k ≡ Some number
  pub accepted : IsAcceptance q before number frame

paired_at : (q : ℕ) (before : List Line) (ns : List ℕ) (frames : List (List ℕ)) (k : ℕ) (frame : List ℕ) → Paired q before ns frames →
    slice_get frames k ≡ Some frame →
    PairedAt q before ns k frame
paired_at q before [] [] k frame paired e = absurd cc
paired_at q before [] (f ∷ frames) k frame paired e = absurd paired
paired_at q before (n ∷ ns) [] k frame paired e = absurd paired
paired_at q before (n ∷ ns) (f ∷ frames) zero frame (is, paired) e =
    let same : f ≡ frame = cc in
    record { number = n; found = refl; accepted = subst (λ (g : List ℕ). IsAcceptance q before n g) same is }
paired_at q before (n ∷ ns) (f ∷ frames) (suc k) frame (is, paired) e =
    let later = paired_at q before ns frames k frame paired e in
    record { number = later.number; found = later.found; accepted = later.accepted }

same_sender : (sender q : ℕ) (frame : List ℕ) → (sender == q) ≡ true → kinds.Accept sender frame ≡ kinds.Accept q frame
same_sender sender q frame e = let same : sender ≡ q = eqb-true sender q e in ap (λ (s : ℕ). kinds.Accept s frame) same

is_accept : (q : ℕ) (line : Line) → accepts q line ≡ true → line ≡ kinds.Accept q (frame_of line)
is_accept q (kinds.Accept sender frame) e = same_sender sender q frame e
is_accept q _ e = cc

paired_step : (b d : Bool) (q : ℕ) (line : Line) (before : List Line) (count : ℕ) (ns : List ℕ) (frames : List (List ℕ)) → d ≡ accepts q line →
    count ≡ length before →
    Paired q before ns frames → Paired q (before ++ line ∷ []) (if b then [] else if d then ns ++ (count + 1) ∷ [] else ns)
    (if b then [] else if d then frames ++ frame_of line ∷ [] else frames)
paired_step true d q line before count ns frames is counted paired = tt
paired_step false true q line before count ns frames is counted paired =
    let refines : slice_get (before ++ line ∷ []) (length before) ≡ Some (kinds.Accept q (frame_of line)) = get_last before line
    ∙ ap (λ (l : Line). Some l) (is_accept q line (sym is)) in
    paired_push q (before ++ line ∷ []) (count + 1) (frame_of line)
    (record { place = length before; number_is = ap (λ (n : ℕ). n + 1) counted; refines = refines }) ns frames
    (paired_more q before (line ∷ []) ns frames paired)
paired_step false false q line before count ns frames is counted paired = paired_more q before (line ∷ []) ns frames paired

reversed : (line : Line) (older : List Line) → reverse (line ∷ older) ≡ reverse older ++ line ∷ []
reversed line older = reverse-append (line ∷ []) older

paired_after : (q : ℕ) (older : List Line) → Paired q (reverse older) (acceptances q older) (side_of older q).accepted
paired_after q [] = tt
paired_after q (line ∷ older) =
    let step = paired_step (begins_session q line) (accepts q line) q line (reverse older) (length older) (acceptances q older) (side_of older q).accepted
    refl (sym (length-reverse older))
    (paired_after q older) in
    let here = subst (λ (before : List Line). Paired q before (acceptances q (line ∷ older)) (accepted_then line q (side_of older q).accepted))
    (sym (reversed line older)) step in
    subst (λ (frames : List (List ℕ)). Paired q (reverse (line ∷ older)) (acceptances q (line ∷ older)) frames)
    (sym (line_lists line q (side_of older q)).0) here

-- ---- the rows of a lawful history

each_back : (P : List Line → Line → Type 0) (newer older : List Line) → EachLine P (newer ++ older) → EachLine P older
each_back P [] older each = each
each_back P (line ∷ newer) older (is, each) = each_back P newer older each

split : (before after : List Line) (d : Line) → reverse (before ++ d ∷ after) ≡ reverse after ++ d ∷ reverse before
split before after d =
    reverse-append before (d ∷ after) ∙ ap (λ (ls : List Line). ls ++ reverse before) (reversed d after)
    ∙ append_assoc (reverse after) (d ∷ []) (reverse before)

other_link : (world : World) (p : ℕ) → is_link world 0 ≡ true → is_link world 1 ≡ true → p < 2 → is_link world (1 - p) ≡ true
other_link world zero zeroth first below = first
other_link world (suc zero) zeroth first below = zeroth
other_link world (suc (suc p)) zeroth first below = absurd (omega arith)

pub own_arrows : HistoriesRunTheMachine → DeliveriesHaveTheirArrows
own_arrows machine world before after p frame is_world lawful zeroth first below =
    let older : List Line = reverse before in
    let rows : KeepsRows world (reverse after ++ kinds.Deliver p frame ∷ older) =
    subst (KeepsRows world) (split before after (kinds.Deliver p frame)) (machine world (before ++ kinds.Deliver p frame ∷ after) is_world lawful) in
    let here = each_back (λ older line. HasRow world older line (line_side_event_of line)) (reverse after) (kinds.Deliver p frame ∷ older) rows in
    let may : MayDeliver (is_link world (1 - p)) (side_of older p) (side_of older (1 - p)) frame = here.0.1.1.2 in
    let due : slice_get (side_of older (1 - p)).accepted (length (side_of older p).delivered) ≡ Some frame =
    subst (λ (b : Bool). MayDeliver b (side_of older p) (side_of older (1 - p)) frame) (other_link world p zeroth first below) may in
    let found = paired_at (1 - p) (reverse older) (acceptances (1 - p) older) (side_of older (1 - p)).accepted (length (side_of older p).delivered) frame
    (paired_after (1 - p) older) due in
    let source : source_of p older ≡ Some (found.accepted.place + 1) =
    ap (slice_get (acceptances (1 - p) older)) (deliveries_are p older) ∙ found.found ∙ ap (λ (n : ℕ). Some n) found.accepted.number_is in (
      found.accepted.place,
      source,
      subst (λ (ls : List Line). slice_get ls found.accepted.place ≡ Some (kinds.Accept (1 - p) frame))
          (reverse-reverse before) found.accepted.refines,
    )
