-- The notes of a step, and the marks that they make.
use Rattle.std.proofs.Common.{◌≡◌, ℕ, Bool, true, false, Option, Some, None, List, [], ◌∷◌, refl, ap, All}
use Rattle.std.specs.Prelude.{is_some}
use Rattle.std.proofs.lemmas.List.Elements.{All-nil, All-cons, All-head, All-tail}
use Rattle.split_ring.specs.declared.ranges.Refused.{Refused}
use Rattle.split_ring.specs.declared.steps.Note.{Note}
use Rattle.split_ring.specs.declared.steps.Note.TheVariants as note
use Rattle.call_grammar.specs.Steps.{Mark, Accept, Deliver, Refuse, mark_of, marks_of}
use Rattle.link_endpoint.specs.declared.place.Place.TheVariants.{Offering, Polling}
use Rattle.link_endpoint.specs.Engine.{refused_after, IsNoteAt}
use Rattle.link_endpoint.specs.Refinement.{mark_between, marks_between}

-- One of the marks is the mark of a refused value.
abbrev pub refuses : List Mark → Bool
refuses [] = false
refuses (Refuse refused ∷ marks) = true
refuses (_ ∷ marks) = refuses marks

-- The mark is neither of a frame delivered nor of a frame accepted.
abbrev pub IsOfOffer : Mark → Type 0
IsOfOffer (Deliver frame) = ⊥
IsOfOffer _ = Unit {0}

abbrev pub IsOfPoll : Mark → Type 0
IsOfPoll (Accept frame) = ⊥
IsOfPoll _ = Unit {0}

offer_note : (frame : List ℕ) (n : Note) → IsOfOffer (mark_of frame n) → IsNoteAt Offering n
offer_note frame note.Deliver is = absurd is
offer_note frame _ is = tt

poll_note : (frame : List ℕ) (n : Note) → IsOfPoll (mark_of frame n) → IsNoteAt Polling n
poll_note frame note.Accept is = absurd is
poll_note frame _ is = tt

-- Notes whose marks are an offer's are notes of an offer. The same holds of a poll.
pub offer_notes : (frame : List ℕ) (notes : List Note) → All IsOfOffer (marks_of frame notes) → All (IsNoteAt Offering) notes
offer_notes frame [] all = All-nil (IsNoteAt Offering)
offer_notes frame (n ∷ notes) all = All-cons (IsNoteAt Offering) n notes (offer_note frame n (All-head IsOfOffer _ _ all)) (offer_notes frame notes (All-tail IsOfOffer _ _ all))

pub poll_notes : (frame : List ℕ) (notes : List Note) → All IsOfPoll (marks_of frame notes) → All (IsNoteAt Polling) notes
poll_notes frame [] all = All-nil (IsNoteAt Polling)
poll_notes frame (n ∷ notes) all = All-cons (IsNoteAt Polling) n notes (poll_note frame n (All-head IsOfPoll _ _ all)) (poll_notes frame notes (All-tail IsOfPoll _ _ all))

offer_mark : (frame delivered : List ℕ) (n : Note) → IsNoteAt Offering n → mark_between frame delivered n ≡ mark_of frame n
offer_mark frame delivered note.Deliver is = absurd is
offer_mark frame delivered _ is = refl

poll_mark : (offered frame : List ℕ) (n : Note) → IsNoteAt Polling n → mark_between offered frame n ≡ mark_of frame n
poll_mark offered frame note.Accept is = absurd is
poll_mark offered frame _ is = refl

-- The marks of an offer's notes are over the frame offered; the marks of a poll's notes are over
-- the frame delivered.
pub offer_marks : (frame delivered : List ℕ) (notes : List Note) → All (IsNoteAt Offering) notes → marks_between frame delivered notes ≡ marks_of frame notes
offer_marks frame delivered [] all = refl
offer_marks frame delivered (n ∷ notes) all =
    let one = offer_mark frame delivered n (All-head (IsNoteAt Offering) n notes all) in
    let more = offer_marks frame delivered notes (All-tail (IsNoteAt Offering) n notes all) in
    cc

pub poll_marks : (offered frame : List ℕ) (notes : List Note) → All (IsNoteAt Polling) notes → marks_between offered frame notes ≡ marks_of frame notes
poll_marks offered frame [] all = refl
poll_marks offered frame (n ∷ notes) all =
    let one = poll_mark offered frame n (All-head (IsNoteAt Polling) n notes all) in
    let more = poll_marks offered frame notes (All-tail (IsNoteAt Polling) n notes all) in
    cc

-- A refusal in the notes replaces what was refused before.
pub refused_again : (notes : List Note) (old : Option Refused) (refused : Refused) → refused_after notes None ≡ Some refused → refused_after notes old ≡ Some refused
refused_again [] old refused is = cc
refused_again (note.Refuse found ∷ notes) old refused is = is
refused_again (_ ∷ notes) old refused is = refused_again notes old refused is

some_stays : (notes : List Note) (found : Refused) → is_some (refused_after notes (Some found)) ≡ true
some_stays [] found = refl
some_stays (note.Refuse other ∷ notes) found = some_stays notes other
some_stays (_ ∷ notes) found = some_stays notes found

-- Notes that refuse nothing leave what was refused before.
pub refused_kept : (notes : List Note) (old : Option Refused) → refused_after notes None ≡ None → refused_after notes old ≡ old
refused_kept [] old is = refl
refused_kept (note.Refuse found ∷ notes) old is = let some = some_stays notes found in let none = ap is_some is in absurd (cc)
refused_kept (_ ∷ notes) old is = refused_kept notes old is

-- Notes refuse a value exactly if their marks do.
pub refusal_marked : (frame : List ℕ) (notes : List Note) → is_some (refused_after notes None) ≡ refuses (marks_of frame notes)
refusal_marked frame [] = refl
refusal_marked frame (note.Refuse found ∷ notes) = some_stays notes found
refusal_marked frame (_ ∷ notes) = refusal_marked frame notes
