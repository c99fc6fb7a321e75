-- Answers with their causes, and the outcomes of notes.
use Rattle.std.proofs.Common.{◌≡◌, ◌++◌, ℕ, List, [], ◌∷◌, refl, sym, ap, ◌∙◌, subst, length, take, drop, Option, Some, None, true, false, nat_lt, if◌then◌else◌, is_none}
use Rattle.std.proofs.Math.Seq.{take-append_seam, drop-append_seam}
use Rattle.std.proofs.lemmas.List.{take-append-drop}
use Rattle.section_map.specs.Geometry.{Shape}
use Rattle.split_ring.specs.Layout.{Sizes, IsQueue}
use Rattle.ivshm_c.specs.declared.device.Found.{Found}
use Rattle.ivshm_c.specs.declared.device.Layout.{Layout}
use Rattle.ivshm_c.specs.declared.end_state.EndState.{EndState}
use Rattle.c_status.specs.declared.status.Status.{Status}
use Rattle.c_status.specs.declared.status.Status.TheVariants.{Done, NoCall, HasEnd, ShortRoom, OtherAccess}
use Rattle.tx_engine.specs.declared.ahead.Bursts.{Bursts}
use Rattle.tx_engine.specs.declared.ahead.Publication.{Publication}
use Rattle.split_ring.specs.declared.steps.Note.TheVariants as note
use Rattle.link_endpoint.specs.Publishing.{Publishes}
use Rattle.ivshm_c.specs.Items.{FramePublished, PublishesFrame, GoesOn}
use Rattle.link_endpoint.specs.Engine.{is_busy, bursts_of}
use Rattle.ivshm_c.specs.declared.crossing.Access.{Access}
use Rattle.ivshm_c.specs.declared.crossing.Publication as crossed_publication
use Rattle.ivshm_c.specs.Crossing.{publication_crossed}
use Rattle.ivshm_c.specs.Sizes.{shape_found, sizes_found, HasSizes, layout_of, LaysOut, laid_out}
use Rattle.ivshm_c.specs.Answers.{Follows, IsNew, MayMake, RefusesNew, MakesAnswered, Where, publish_answer, made, has_end, refused}

-- The words of the sizes that were found.
pub words_are_those : (found : Found) (peers mtu : ℕ) (before after : Layout) (shape : Shape) (queue : Sizes) → shape ≡ shape_found found peers → HasSizes found peers
    → queue ≡ sizes_found found 1 mtu → IsQueue queue → after ≡ layout_of shape queue → LaysOut found peers mtu before Done after
words_are_those found peers mtu before after shape queue s sizes q queued is =
    subst (LaysOut found peers mtu before Done) (sym (is ∙ ap (λ (x : Shape). layout_of x queue) s ∙ ap (layout_of (shape_found found peers)) q))
    (laid_out sizes (subst IsQueue q queued))

-- The answer of an open call in which these bursts are next.
abbrev frame_answered : Option Bursts → (room : ℕ) → Status
frame_answered bursts room = if is_none bursts then OtherAccess else if nat_lt room 20 then ShortRoom else Done

-- A frame is published, with the words after it at the front of `room`, and the end goes on.
pub frame_is_published : (old mid new : EndState) (before after : crossed_publication.Publication) (room front : List ℕ) (was next : Access) (published : Publication) → is_busy old.endpoint ≡ true → nat_lt (length room) 20 ≡ false → length front ≡ 20 →
    after ≡ publication_crossed published → Publishes old.endpoint front published mid.endpoint → Follows (note.Accept ∷ []) old mid → GoesOn next mid new → PublishesFrame before after room (front ++ drop 20 room) was next old new
frame_is_published old mid new before after room front was next published busy fits sized crossed_is steps follows goes_on =
    let filled = front ++ drop 20 room in
    let done : publish_answer (length room) old ≡ Done =
    ap (λ b. if b then frame_answered (bursts_of old.endpoint) (length room) else NoCall) busy ∙ ap (λ s. frame_answered s (length room)) steps.bursts
    ∙ ap (λ b. if b then ShortRoom else Done) fits in
    let front_is : take 20 filled ≡ front = ap (λ k. take k filled) (sym sized) ∙ take-append_seam front (drop 20 room) in
    let rest_is : drop 20 filled ≡ drop 20 room = ap (λ k. drop k filled) (sym sized) ∙ drop-append_seam front (drop 20 room) in
    subst (λ status. Where status (FramePublished after room filled next old new) ((new ≡ old) × (after ≡ before) × (filled ≡ room) × (next ≡ was))) (sym done)
    (record { made = published; published = mid; crossed_is = crossed_is; steps = subst (λ b. Publishes old.endpoint b published mid.endpoint) (sym front_is) steps; rest = rest_is; follows = follows; goes_on = goes_on })

-- No frame is published: the room stays.
pub frame_is_left : (old new : EndState) (before : crossed_publication.Publication) (room front : List ℕ) (was : Access) → is_busy old.endpoint ≡ true → bursts_of old.endpoint ≡ None → new ≡ old → front ≡ take 20 room →
    PublishesFrame before before room (front ++ drop 20 room) was was old new
frame_is_left old new before room front was busy none same front_is =
    let other : publish_answer (length room) old ≡ OtherAccess =
    ap (λ b. if b then frame_answered (bursts_of old.endpoint) (length room) else NoCall) busy ∙ ap (λ s. frame_answered s (length room)) none in
    let whole : front ++ drop 20 room ≡ room = ap (λ f. f ++ drop 20 room) front_is ∙ take-append-drop 20 room in
    subst (λ status. Where status (FramePublished before room (front ++ drop 20 room) was old new) ((new ≡ old) × (before ≡ before) × (front ++ drop 20 room ≡ room) × (was ≡ was))) (sym other) (same, refl, whole, refl)

module _ (found : Found) (version peers me mtu vector : ℕ) (old new : Option EndState) where
  -- A handle with an end keeps it.
  pub holds_one : (port : EndState) → old ≡ Some port → new ≡ Some port → MakesAnswered old found version peers me mtu vector HasEnd new
  holds_one port was is = subst (MakesAnswered old found version peers me mtu vector HasEnd) (was ∙ sym is) (has_end (λ e. let wrong : Some port ≡ None = sym was ∙ e in absurd cc))

  -- An empty handle gets the new end.
  pub new_one : (port : EndState) → old ≡ None → MayMake found version peers me mtu vector → IsNew found version peers me mtu vector port → new ≡ Some port → MakesAnswered old found version peers me mtu vector Done new
  new_one port was right is_new is = subst (MakesAnswered old found version peers me mtu vector Done) (sym is) (made port was right is_new)

  -- An empty handle stays empty if no end is made.
  pub none_made : (status : Status) → RefusesNew found version peers me mtu vector status → old ≡ None → old ≡ new → MakesAnswered old found version peers me mtu vector status new
  none_made status why was is = subst (MakesAnswered old found version peers me mtu vector status) is (refused status was why)
