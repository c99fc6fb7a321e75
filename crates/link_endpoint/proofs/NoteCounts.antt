-- The counts of a step, note by note.
use Rattle.std.proofs.Common.{◌≡◌, ℕ, ◌+◌, ◌<◌, List, [], ◌∷◌, ◌++◌, length, get_or, take, drop, refl, sym, ap, ◌∙◌, subst, arith, add-zero, length-append}
use Rattle.std.proofs.lemmas.List.{map-append, take_more}
use Rattle.split_ring.specs.declared.steps.Note.{Note}
use Rattle.call_grammar.specs.Steps.{Mark, Accept, Deliver}
use Rattle.link_endpoint.specs.Refinement.{mark_between, marks_between}
use Rattle.link_endpoint.specs.Plan.{Plan, HasCounted, left_after, delivered_by, Counts}

left_snoc : (frames : List (List ℕ)) (marks : List Mark) (mark : Mark) → left_after frames (marks ++ mark ∷ []) ≡ left_after (left_after frames marks) (mark ∷ [])
left_snoc frames [] mark = refl
left_snoc frames (Accept frame ∷ marks) mark = left_snoc (drop 1 frames) marks mark
left_snoc frames (_ ∷ marks) mark = left_snoc frames marks mark

delivered_snoc : (marks : List Mark) (mark : Mark) → delivered_by (marks ++ mark ∷ []) ≡ delivered_by marks ++ delivered_by (mark ∷ [])
delivered_snoc [] mark = refl
delivered_snoc (Deliver frame ∷ marks) mark = ap (λ (l : List (List ℕ)). frame ∷ l) (delivered_snoc marks mark)
delivered_snoc (_ ∷ marks) mark = delivered_snoc marks mark

-- No marks count nothing.
pub counts_none : (plan : Plan) → Counts plan [] plan
counts_none plan = record { frames = refl; expected = refl; delivered = λ count has. subst (λ (n : ℕ). HasCounted plan n) (sym (add-zero count)) has; round = refl }

-- One more count.
pub counts_more : (old mid new : Plan) (one other : List ℕ) (notes : List Note) (i : ℕ) (note : Note) → i < length notes → note ≡ get_or notes i note →
    Counts old (marks_between one other (take i notes)) mid → Counts mid (mark_between one other note ∷ []) new → Counts old (marks_between one other (take (i + 1) notes)) new
counts_more old mid new one other notes i note inside is before next =
    let marks : List Mark = marks_between one other (take i notes) in
    let mark : Mark = mark_between one other note in
    let taken : take (i + 1) notes ≡ take i notes ++ note ∷ [] = take_more notes i note inside ∙ ap (λ (n : Note). take i notes ++ n ∷ []) (sym is) in
    let more : marks_between one other (take (i + 1) notes) ≡ marks ++ mark ∷ [] =
    ap (λ (ns : List Note). marks_between one other ns) taken ∙ map-append (mark_between one other) (take i notes) (note ∷ []) in
    let all : length (delivered_by (marks ++ mark ∷ [])) ≡ length (delivered_by marks) + length (delivered_by (mark ∷ [])) =
    ap length (delivered_snoc marks mark) ∙ length-append (delivered_by marks) (delivered_by (mark ∷ [])) in
    subst (λ (ms : List Mark). Counts old ms new) (sym more) (record {
      frames = next.frames ∙ (ap (λ (fs : List (List ℕ)). left_after fs (mark ∷ [])) before.frames ∙ sym (left_snoc old.frames marks mark));
      expected = next.expected ∙ before.expected;
      delivered = λ count has. subst (λ (n : ℕ). HasCounted new n) (omega (arith, all)) (next.delivered (count + length (delivered_by marks)) (before.delivered count has));
      round = next.round ∙ before.round;
    })
