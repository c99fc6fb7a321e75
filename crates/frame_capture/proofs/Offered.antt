-- The frames that are offered, packet by packet.
use Rattle.std.proofs.Common.{◌≡◌, ℕ, ◌+◌, ◌<◌, Bool, true, false, List, [], ◌∷◌, ◌++◌, length, get_or, take, map, sym, ap, subst, ◌∙◌, arith}
use Rattle.std.specs.Prelude.{All, filter, sum_by, if◌then◌else◌}
use Rattle.std.proofs.lemmas.List.{append-nil, take_more, map-append}
use Rattle.std.proofs.lemmas.List.Elements.{filter-append, All-append, All-nil, All-cons}
use Rattle.std.proofs.lemmas.List.Sums.{sum_by-append, sum_by-cons}
use Rattle.std.proofs.lemmas.Bool.{leb-true}
use Rattle.line_format.proofs.SpellingsAreRead.{both_true}
use Rattle.scenario_text.specs.declared.acts.Act.{Act}
use Rattle.scenario_text.specs.declared.acts.Act.TheVariants.{Offer}
use Rattle.scenario_text.specs.Loads.{IsFrame, offers_of}
use Rattle.scenario_text.proofs.LinkIsScenario.{offers_more}
use Rattle.frame_capture.specs.declared.feeding.TheConstants.{FEED_MTU, LONGEST_OFFERED}
use Rattle.frame_capture.specs.declared.packets.Packet.{Packet}
use Rattle.frame_capture.specs.Feed.{is_offered, offered_frames, weight}
use Rattle.frame_capture.proofs.Bytes.{AreBytes}

one : (p : Packet) (b : Bool) → is_offered p ≡ b → filter is_offered (p ∷ []) ≡ (if b then p ∷ [] else [])
one p b is = ap (λ (t : Bool). if t then p ∷ [] else []) is

-- The frames of one more packet.
frames-append : (ps : List Packet) (p : Packet) (b : Bool) → is_offered p ≡ b → offered_frames (ps ++ p ∷ []) ≡ offered_frames ps ++ map (λ q. q.frame) (if b then p ∷ [] else [])
frames-append ps p b is =
    ap (λ (qs : List Packet). map (λ q. q.frame) qs) (filter-append is_offered ps (p ∷ []) ∙ ap (λ (qs : List Packet). filter is_offered ps ++ qs) (one p b is))
    ∙ map-append (λ q. q.frame) (filter is_offered ps) (if b then p ∷ [] else [])

next : (all : List Packet) (i : ℕ) (p : Packet) → i < length all → p ≡ get_or all i p → take (i + 1) all ≡ take i all ++ p ∷ []
next all i p lt is = take_more all i p lt ∙ ap (λ (q : Packet). take i all ++ q ∷ []) (sym is)

-- A packet whose frame is offered.
pub frames-with : (all : List Packet) (i : ℕ) (p : Packet) → i < length all → p ≡ get_or all i p → is_offered p ≡ true → offered_frames (take (i + 1) all) ≡ offered_frames (take i all) ++ p.frame ∷ []
frames-with all i p lt is offered = ap offered_frames (next all i p lt is) ∙ frames-append (take i all) p true offered

-- A packet whose frame isn't.
pub frames-without : (all : List Packet) (i : ℕ) (p : Packet) → i < length all → p ≡ get_or all i p → is_offered p ≡ false → offered_frames (take (i + 1) all) ≡ offered_frames (take i all)
frames-without all i p lt is passed = ap offered_frames (next all i p lt is) ∙ frames-append (take i all) p false passed ∙ append-nil (offered_frames (take i all))

-- The frame of an offered packet.
pub is_frame : (p : Packet) → AreBytes p.frame → is_offered p ≡ true → IsFrame FEED_MTU p.frame
is_frame p bytes offered =
    let most = both_true _ _ offered in
    let least = both_true _ _ most.0 in
    record { least = leb-true 14 (length p.frame) least.1; most = leb-true (length p.frame) LONGEST_OFFERED most.1; bytes = bytes }

pub weight-more : (frames : List (List ℕ)) (frame : List ℕ) → sum_by weight (frames ++ frame ∷ []) ≡ sum_by weight frames + weight frame
weight-more frames frame = let a = sum_by-append weight frames (frame ∷ []) in let b = sum_by-cons weight frame [] in omega arith

-- ---- offers

pub offers-with : (front acts now : List Act) (peer : ℕ) (all : List Packet) (i : ℕ) (p : Packet) (act : Act) → i < length all → p ≡ get_or all i p → is_offered p ≡ true
    → now ≡ acts ++ act ∷ [] → act ≡ Offer peer p.frame → acts ≡ front ++ offers_of peer (offered_frames (take i all)) → now ≡ front ++ offers_of peer (offered_frames (take (i + 1) all))
offers-with front acts now peer all i p act lt is offered pushed same before =
    offers_more peer acts front now (offered_frames (take i all)) p.frame before (pushed ∙ ap (λ (a : Act). acts ++ a ∷ []) same)
    ∙ ap (λ (fs : List (List ℕ)). front ++ offers_of peer fs) (sym (frames-with all i p lt is offered))

pub frames-more : (all : List Packet) (i : ℕ) (p : Packet) → i < length all → p ≡ get_or all i p → is_offered p ≡ true → IsFrame FEED_MTU p.frame → All (IsFrame FEED_MTU) (offered_frames (take i all)) → All (IsFrame FEED_MTU) (offered_frames (take (i + 1) all))
frames-more all i p lt is offered frame before =
    subst (All (IsFrame FEED_MTU)) (sym (frames-with all i p lt is offered))
    (All-append (IsFrame FEED_MTU) (offered_frames (take i all)) (p.frame ∷ []) before (All-cons (IsFrame FEED_MTU) p.frame [] frame (All-nil (IsFrame FEED_MTU))))

pub offers-without : (front acts now : List Act) (peer : ℕ) (all : List Packet) (i : ℕ) (p : Packet) → i < length all → p ≡ get_or all i p → is_offered p ≡ false
    → now ≡ acts → acts ≡ front ++ offers_of peer (offered_frames (take i all)) → now ≡ front ++ offers_of peer (offered_frames (take (i + 1) all))
offers-without front acts now peer all i p lt is passed same before =
    same ∙ before ∙ ap (λ (fs : List (List ℕ)). front ++ offers_of peer fs) (sym (frames-without all i p lt is passed))

pub frames-same : (all : List Packet) (i : ℕ) (p : Packet) → i < length all → p ≡ get_or all i p → is_offered p ≡ false → All (IsFrame FEED_MTU) (offered_frames (take i all)) → All (IsFrame FEED_MTU) (offered_frames (take (i + 1) all))
frames-same all i p lt is passed before = subst (All (IsFrame FEED_MTU)) (sym (frames-without all i p lt is passed)) before
