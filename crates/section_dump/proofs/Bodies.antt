-- A listing from its parts.
use Rattle.std.proofs.Common.{◌≡◌, ℕ, suc, ◌+◌, ◌-◌, List, [], ◌∷◌, ◌++◌, Some, None, refl, sym, ap, subst, ◌∙◌, arith, append_assoc}
use Rattle.std.proofs.lemmas.List.{append-nil}
use Rattle.std.proofs.lemmas.Grind.{flat_map-append}
use Rattle.section_map.specs.Geometry.{section_start}
use Rattle.split_ring.specs.Layout.{Sizes, queue_size, size_of, rings_len}
use Rattle.section_dump.specs.Image.{words_from, region_words, section_words, shape_in, queue_in, peers_in, out_in}
use Rattle.section_dump.specs.Lines.{Line, QueueSizes, NoQueue, State, End, line_of, text_of, Puts}
use Rattle.section_dump.specs.Listing.{IsSection, AreTwoSections, AreSections, head_lines, queue_line, state_lines, IsBody, IsListing}

-- Lines and then more lines.
lines_then : (first second : List Line) (old text new : List ℕ) → text ≡ old ++ text_of first → new ≡ text ++ text_of second → new ≡ old ++ text_of (first ++ second)
lines_then first second old text new a b =
    b ∙ ap (λ bytes. bytes ++ text_of second) a ∙ append_assoc old (text_of first) (text_of second) ∙ ap (λ bytes. old ++ bytes) (sym (flat_map-append line_of first second))

one_line : (line : Line) (old new : List ℕ) → new ≡ old ++ line_of line → new ≡ old ++ text_of (line ∷ [])
one_line line old new is = is ∙ ap (λ bytes. old ++ bytes) (sym (append-nil (line_of line)))

-- The state of one more peer.
pub state_more : (words : ℕ → ℕ) (peer value : ℕ) (old text new : List ℕ) → text ≡ old ++ text_of (state_lines words peer) → value ≡ words peer
    → new ≡ text ++ line_of (State peer value) → new ≡ old ++ text_of (state_lines words (peer + 1))
state_more words peer value old text new before is puts =
    subst (λ n. new ≡ old ++ text_of (state_lines words n)) (let e : suc peer ≡ peer + 1 = omega arith in e)
    (lines_then (state_lines words peer) (State peer (words peer) ∷ []) old text new before
    (one_line (State peer (words peer)) text new (puts ∙ ap (λ v. text ++ line_of (State peer v)) is)))

section_at : (q r : Sizes) (v w x y : ℕ → ℕ) (peer : ℕ) (old new : List ℕ) → q ≡ r → v ≡ w → x ≡ y → Puts (IsSection q v x peer) old new → Puts (IsSection r w y peer) old new
section_at q r v w x y peer old new e f g h =
    subst (λ z. Puts (IsSection r w z peer) old new) g
    (subst (λ z. Puts (IsSection r z x peer) old new) f
    (subst (λ z. Puts (IsSection z v x peer) old new) e h))

same_words : (a image : List ℕ) (f g : ℕ) → a ≡ image → f ≡ g → words_from a f ≡ words_from image g
same_words a image f g e h = ap (λ z. words_from z f) e ∙ ap (λ z. words_from image z) h

-- The sections of peers 0 and 1.
pub two_sections : (image a b : List ℕ) (q r : Sizes) (f g : ℕ) (old text new : List ℕ)
    → q ≡ queue_in image → r ≡ queue_in image → a ≡ image → b ≡ image
    → f ≡ 8 + section_start (shape_in image) 0 → g ≡ 8 + section_start (shape_in image) 1
    → Puts (IsSection q (words_from a f) (words_from b g) 0) old text → Puts (IsSection r (words_from b g) (words_from a f) 1) text new
    → Puts (AreTwoSections image) old new
two_sections image a b q r f g old text new eq er ea eb ef eg first second =
    let w = same_words a image f (8 + section_start (shape_in image) 0) ea ef in
    let v = same_words b image g (8 + section_start (shape_in image) 1) eb eg in
    let s : Puts (IsSection (queue_in image) (section_words image 0) (section_words image 1) 0) old text = section_at q (queue_in image) (words_from a f) (section_words image 0) (words_from b g) (section_words image 1) 0 old text eq w v first in
    let t : Puts (IsSection (queue_in image) (section_words image 1) (section_words image 0) 1) text new = section_at r (queue_in image) (words_from b g) (section_words image 1) (words_from a f) (section_words image 0) 1 text new er v w second in
    (s.0 ++ t.0, (s.0, t.0, s.1, t.1, refl), lines_then s.0 t.0 old text new s.2 t.2)

-- The body without a queue.
pub body_without : (image : List ℕ) (out peers : ℕ) (old text new : List ℕ) → out ≡ out_in image → peers ≡ peers_in image → queue_size out ≡ None
    → text ≡ old ++ line_of NoQueue → new ≡ text ++ text_of (state_lines (region_words image) peers) → Puts (IsBody image) old new
body_without image out peers old text new eo ep none first states =
    let is : queue_size (out_in image) ≡ None = ap queue_size (sym eo) ∙ none in
    let all = state_lines (region_words image) (peers_in image) in (
      NoQueue ∷ (all ++ []),
      record {
        sections = [];
        are_sections = subst (λ o. AreSections image o []) (sym is) refl;
        lines_are = ap (λ o. queue_line (out_in image) o ∷ (all ++ [])) (sym is);
      },
      lines_then (NoQueue ∷ []) (all ++ []) old text new (one_line NoQueue old text first)
          (states ∙ ap (λ n. text ++ text_of (state_lines (region_words image) n)) ep ∙ ap (λ lines. text ++ text_of lines) (sym (append-nil all))),
    )

-- The body with a queue.
pub body_with : (image : List ℕ) (q : Sizes) (out peers : ℕ) (old text more new : List ℕ) → out ≡ out_in image → peers ≡ peers_in image
    → q ≡ record { version = 1; out = out; mtu = 256 } → queue_size out ≡ Some (size_of q)
    → text ≡ old ++ line_of (QueueSizes (size_of q) (rings_len (size_of q)) (q.out - rings_len (size_of q)))
    → more ≡ text ++ text_of (state_lines (region_words image) peers) → Puts (AreTwoSections image) more new → Puts (IsBody image) old new
body_with image q out peers old text more new eo ep eq some first states sections =
    let is : queue_size (out_in image) ≡ Some (size_of q) = ap queue_size (sym eo) ∙ some in
    let room : q.out ≡ out_in image = ap (λ z. z.out) eq ∙ eo in
    let all = state_lines (region_words image) (peers_in image) in
    let line = QueueSizes (size_of q) (rings_len (size_of q)) (out_in image - rings_len (size_of q)) in (
      line ∷ (all ++ sections.0),
      record {
        sections = sections.0;
        are_sections = subst (λ o. AreSections image o sections.0) (sym is) sections.1;
        lines_are = ap (λ o. queue_line (out_in image) o ∷ (all ++ sections.0)) (sym is);
      },
      lines_then (line ∷ []) (all ++ sections.0) old text new
          (one_line line old text (first ∙ ap (λ n. old ++ line_of (QueueSizes (size_of q) (rings_len (size_of q)) (n - rings_len (size_of q)))) room))
          (lines_then all sections.0 text more new (states ∙ ap (λ n. text ++ text_of (state_lines (region_words image) n)) ep) sections.2),
    )

-- The listing from its head, its body and its end.
pub listing : (image : List ℕ) (head : List Line) (start text more new : List ℕ) → start ≡ [] → head ≡ head_lines image
    → text ≡ start ++ text_of head → Puts (IsBody image) text more → new ≡ more ++ line_of End → IsListing image new
listing image head start text more new empty is first body last = record {
  body = body.0;
  is_body = body.1;
  text_is =
      lines_then (head ++ body.0) (End ∷ []) start more new (lines_then head body.0 start text more first body.2) (one_line End more new last)
      ∙ ap (λ bytes. bytes ++ text_of ((head ++ body.0) ++ End ∷ [])) empty
      ∙ ap (λ lines. text_of ((lines ++ body.0) ++ End ∷ [])) is;
}
