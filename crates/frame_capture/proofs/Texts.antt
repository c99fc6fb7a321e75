-- The text of a scenario with few enough acts is short enough.
use Rattle.std.proofs.Common.{◌≡◌, ℕ, zero, suc, ◌+◌, ◌-◌, ◌*◌, ◌<◌, ◌≤◌, List, [], ◌∷◌, ◌++◌, length, map, ap, ◌∙◌, arith}
use Rattle.std.specs.Prelude.{sum_by, decimal}
use Rattle.std.specs.List.{range_with_len, flat_map}
use Rattle.std.proofs.lemmas.Fmt.{length-decimal-le}
use Rattle.std.proofs.lemmas.List.{map-append}
use Rattle.std.proofs.lemmas.List.Sums.{sum_by-cons}
use Rattle.hex.specs.Hex.{lower_digits}
use Rattle.hex.proofs.HexLemmas.{length-encode_with}
use Rattle.line_format.specs.Rows.{Row, row, line_of_row, text_of}
use Rattle.line_format.proofs.TextLengths.{line_most, text_cons, text_append, text_most}
use Rattle.scenario_text.specs.declared.limits.TheConstants.{LONGEST_TEXT, MOST_ACTS}
use Rattle.scenario_text.specs.declared.acts.Act.{Act}
use Rattle.scenario_text.specs.declared.acts.Act.TheVariants.{Auto, Offer, Turn}
use Rattle.scenario_text.specs.declared.forms.Form.{Form}
use Rattle.scenario_text.specs.declared.forms.Form.TheVariants.{Begin, End}
use Rattle.scenario_text.specs.Table.{pieces_of}
use Rattle.scenario_text.specs.ActRows.{row_of_act}
use Rattle.scenario_text.specs.Loads.{rounds}
use Rattle.scenario_text.specs.Spelling.{head_rows, spelling}
use Rattle.frame_capture.specs.declared.feeding.TheConstants.{FEED_MTU, FEED_OUT, FEED_STEPS}
use Rattle.frame_capture.specs.Feed.{weight, round_count, act_count, feed_acts, feed_world}

digits_most : (n : ℕ) → n < 10000000 → length (decimal n) ≤ 7
digits_most n few = length-decimal-le 7 n (omega arith) (omega arith) (omega arith)

-- ---- the lines

offer_most : (peer : ℕ) (frame : List ℕ) → peer < 2 → length (line_of_row pieces_of (row_of_act (Offer peer frame))) ≤ 8 * weight frame
offer_most peer frame below =
    let line = line_most pieces_of (row_of_act (Offer peer frame)) in
    omega (arith, line, digits_most peer (omega arith), length-encode_with lower_digits frame)

auto_most : (peer expect : ℕ) → peer < 2 → expect ≤ MOST_ACTS → length (line_of_row pieces_of (row_of_act (Auto peer expect))) ≤ 100
auto_most peer expect below few =
    let line = line_most pieces_of (row_of_act (Auto peer expect)) in
    omega (arith, line, digits_most peer (omega arith), digits_most expect (omega arith))

turn_most : (peer : ℕ) → peer < 2 → length (line_of_row pieces_of (row_of_act (Turn peer FEED_STEPS))) ≤ 100
turn_most peer below =
    let line = line_most pieces_of (row_of_act (Turn peer FEED_STEPS)) in
    omega (arith, line, digits_most peer (omega arith), digits_most FEED_STEPS (omega arith))

-- ---- the text

abbrev text_length : List Act → ℕ
text_length acts = length (text_of pieces_of (map row_of_act acts))

offers_most : (peer : ℕ) (frames : List (List ℕ)) → peer < 2 → text_length (map (λ f. Offer peer f) frames) ≤ 8 * sum_by weight frames
offers_most peer [] below = omega arith
offers_most peer (frame ∷ frames) below =
    let rest = offers_most peer frames below in
    omega (arith, offer_most peer frame below, text_cons pieces_of (row_of_act (Offer peer frame)) (map row_of_act (map (λ f. Offer peer f) frames)), sum_by-cons weight frame frames)

turns_most : (a n : ℕ) → text_length (flat_map (λ _. Turn 0 FEED_STEPS ∷ Turn 1 FEED_STEPS ∷ []) (range_with_len a n)) ≤ 200 * n
turns_most a zero = omega arith
turns_most a (suc n) =
    let later = flat_map (λ _. Turn 0 FEED_STEPS ∷ Turn 1 FEED_STEPS ∷ []) (range_with_len (a + 1) n) in
    let rest = turns_most (a + 1) n in
    omega (arith, turn_most 0 (omega arith), turn_most 1 (omega arith), text_cons pieces_of (row_of_act (Turn 0 FEED_STEPS)) (map row_of_act (Turn 1 FEED_STEPS ∷ later)), text_cons pieces_of (row_of_act (Turn 1 FEED_STEPS)) (map row_of_act later))

rounds_most : (count : ℕ) → text_length (rounds FEED_STEPS count) ≤ 200 * count
unfolding rounds
rounds_most count = turns_most 0 count

acts_most : (peer : ℕ) (frames : List (List ℕ)) → peer < 2 → length frames ≤ MOST_ACTS → text_length (feed_acts peer frames) ≤ 200 + 8 * sum_by weight frames + 200 * round_count frames
acts_most peer frames below few =
    let offers = map (λ f. Offer peer f) frames in
    let all = offers ++ rounds FEED_STEPS (round_count frames) in
    let split : text_length all ≡ text_length offers + text_length (rounds FEED_STEPS (round_count frames)) =
    ap (λ (rs : List (Row Form)). length (text_of pieces_of rs)) (map-append row_of_act offers (rounds FEED_STEPS (round_count frames))) ∙ text_append pieces_of (map row_of_act offers) (map row_of_act (rounds FEED_STEPS (round_count frames))) in
    omega (
      arith,
      auto_most peer 0 below (omega arith),
      auto_most (1 - peer) (length frames) (omega arith) few,
      offers_most peer frames below,
      rounds_most (round_count frames),
      text_cons pieces_of (row_of_act (Auto peer 0)) (map row_of_act (Auto (1 - peer) (length frames) ∷ all)),
      text_cons pieces_of (row_of_act (Auto (1 - peer) (length frames))) (map row_of_act all),
    )

head_most : (peer : ℕ) (frames : List (List ℕ)) → length (text_of pieces_of (head_rows (feed_world peer frames))) ≤ 1000
unfolding feed_world
head_most peer frames =
    omega (
      arith,
      text_most pieces_of (head_rows (feed_world peer frames)),
      digits_most 0 (omega arith),
      digits_most 1 (omega arith),
      digits_most 2 (omega arith),
      digits_most 4096 (omega arith),
      digits_most FEED_OUT (omega arith),
      digits_most FEED_MTU (omega arith),
    )

-- So the text is short if the acts are few.
pub feed_text : (peer : ℕ) (frames : List (List ℕ)) → peer < 2 → act_count frames ≤ MOST_ACTS → length (spelling (feed_world peer frames)) ≤ LONGEST_TEXT
unfolding feed_world
feed_text peer frames below few =
    let w = feed_world peer frames in
    let acts = map row_of_act w.acts in
    omega (
      arith,
      head_most peer frames,
      acts_most peer frames below (omega arith),
      text_most pieces_of (row Begin [] [] ∷ []),
      text_most pieces_of (row End [] [] ∷ []),
      text_append pieces_of (head_rows w ++ row Begin [] [] ∷ [] ++ acts) (row End [] [] ∷ []),
      text_append pieces_of (head_rows w ++ row Begin [] [] ∷ []) acts,
      text_append pieces_of (head_rows w) (row Begin [] [] ∷ []),
    )
