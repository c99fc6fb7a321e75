-- The running form, act by act.
use Rattle.std.proofs.Common.{◌≡◌, ℕ, get_or, take, drop, length, ◌+◌, ◌<◌, ◌≤◌, nat_lt, Bool, true, false, eqb, not, ◌&&◌, ◌||◌, All, List, [], ◌∷◌, ◌++◌, refl, sym, ap, subst, ◌∙◌, arith}
use Rattle.std.specs.Prelude.{slice_get, Some, if◌then◌else◌}
use Rattle.std.proofs.lemmas.Bool.Decides.{nat_tests}
use Rattle.std.proofs.lemmas.List.{take_more, at_drop_more, get_or_default}
use Rattle.std.proofs.lemmas.Option.{slice_get_read}
use Rattle.scenario_text.specs.declared.acts.Act.{Act}
use Rattle.scenario_text.specs.declared.acts.Act.TheVariants.{Tick, Offer, Poll, Stop, Auto, Storm, Turn, Reset, Poke, Peek, Set, Ring, CfgRead, CfgWrite, MmioRead, MmioWrite, MsixRead, MsixWrite, Lose, Again}
use Rattle.scenario_text.specs.Acts.{peer_of}
use Rattle.scenario_text.specs.ActRows.{row_of_act}
use Rattle.scenario_text.specs.Scenario.{World, IsWorld, is_peer, is_hostile, is_its_peer}
use Rattle.scenario_text.specs.Running.{is_turn_of, is_reset_of, is_other, has_turn, is_reset_last, has_setting, sets_device, breaks, first_break}
use Rattle.scenario_text.proofs.OneMoreAct.{any_added, eqb_refl}
use Rattle.scenario_text.proofs.LastActs.{turn_at}

pub turn_added : (acts : List Act) (act : Act) (p : ℕ) (old new on : Bool) → old ≡ has_turn acts p → on ≡ is_turn_of (peer_of act) act → new ≡ (old || (on && eqb (peer_of act) p)) → new ≡ has_turn (acts ++ act ∷ []) p
unfolding has_turn
turn_added acts act p old new on e f g = g ∙ rw (e, f) (rw (← turn_at act p) (sym (any_added (is_turn_of p) acts act)))

pub setting_added : (acts : List Act) (act : Act) (p : ℕ) (old new on : Bool) → old ≡ has_setting acts p → on ≡ sets_device act → new ≡ (old || (on && eqb (peer_of act) p)) → new ≡ has_setting (acts ++ act ∷ []) p
unfolding has_setting
setting_added acts act p old new on e f g = g ∙ rw (e, f) (sym (any_added (λ (a : Act). sets_device a && eqb (peer_of a) p) acts act))

pub no_settings : (p : ℕ) → has_setting [] p ≡ false
unfolding has_setting
no_settings p = refl

pub none_last : (p : ℕ) → is_reset_last [] p ≡ false
unfolding is_reset_last
none_last p = refl

-- After one more act, a turn, no reset is the last; after a reset it is; any other act changes
-- nothing.
last_added : (acts : List Act) (act : Act) (p : ℕ) → is_reset_last (acts ++ act ∷ []) p ≡ ((is_reset_of p act || is_reset_last acts p) && not (is_turn_of p act))
unfolding is_reset_last has_turn
last_added [] (Turn q steps) p = none (eqb q p)
  where
    none : (b : Bool) → false ≡ (false && not b)
    none b = refl
last_added [] (Reset q) p = one (eqb q p)
  where
    one : (b : Bool) → ((b && true) || false) ≡ ((b || false) && true)
    one true = refl
    one false = refl
last_added [] act p = refl
last_added (first ∷ acts) act p = ap (λ (b : Bool). (is_reset_of p first && not b) || is_reset_last (acts ++ act ∷ []) p) (any_added (is_turn_of p) acts act)
    ∙ (ap (λ (b : Bool). (is_reset_of p first && not (has_turn acts p || is_turn_of p act)) || b) (last_added acts act p) ∙ joined (is_reset_of p first) (has_turn acts p) (is_turn_of p act) (is_reset_of p act) (is_reset_last acts p))
  where
    joined : (begins turned turns resets last : Bool) → ((begins && not (turned || turns)) || ((resets || last) && not turns)) ≡ ((resets || ((begins && not turned) || last)) && not turns)
    joined begins turned true resets last = grind (arith, nat_tests)
    joined begins turned false resets last = grind (arith, nat_tests)

ended : (b last : Bool) → (if b then false else last) ≡ (last && not b)
ended true true = refl
ended true false = refl
ended false true = refl
ended false false = refl

begun : (b last : Bool) → (if b then true else last) ≡ ((b || last) && true)
begun true last = refl
begun false true = refl
begun false false = refl

-- The same by a flag that is set if the act is a turn or a reset.
chosen : (act : Act) (p : ℕ) (last : Bool) → (if not (is_other act) && eqb (peer_of act) p then is_reset_of (peer_of act) act else last) ≡ ((is_reset_of p act || last) && not (is_turn_of p act))
chosen (Turn q steps) p last = ended (eqb q p) last
chosen (Reset q) p last = rw eqb_refl (begun (eqb q p) last)
chosen act p last = begun false last

pub reset_added : (acts : List Act) (act : Act) (p : ℕ) (old new on value : Bool) → old ≡ is_reset_last acts p → on ≡ not (is_other act) → value ≡ is_reset_of (peer_of act) act → new ≡ (if on && eqb (peer_of act) p then value else old) →
    new ≡ is_reset_last (acts ++ act ∷ []) p
reset_added acts act p old new on value e f g is = is ∙ (rw (e, f, g) (chosen act p (is_reset_last acts p)) ∙ sym (last_added acts act p))

-- The step of the search for the first act that breaks the form.
pub break_at : (acts : List Act) (i line : ℕ) (act : Act) → i < length acts → act ≡ get_or acts i act →
    first_break (take i acts) (drop i acts) line ≡ (if breaks (take i acts) act (drop (i + 1) acts) then Some line else first_break (take (i + 1) acts) (drop (i + 1) acts) (line + 1))
break_at acts i line act inside is = ap (λ l. first_break (take i acts) l line) (at_drop_more (λ l. l) acts i act inside ∙ ap (λ (a : Act). a ∷ drop (i + 1) acts) (sym is))
    ∙ ap (λ l. if breaks (take i acts) act (drop (i + 1) acts) then Some line else first_break l (drop (i + 1) acts) (line + 1)) (sym (take_more acts i act inside ∙ ap (λ (a : Act). take i acts ++ a ∷ []) (sym is)))

link_below : (p : ℕ) (flag : Bool) → (nat_lt p 2 && flag) ≡ true → p < 8
link_below p flag is = grind (arith, nat_tests)

hostile_below : (p peers : ℕ) (flag : Bool) → peers ≤ 8 → (nat_lt p peers && flag) ≡ true → p < 8
hostile_below p peers flag few is = grind (arith, nat_tests)

peer_below : (p peers : ℕ) → peers ≤ 8 → nat_lt p peers ≡ true → p < 8
peer_below p peers few is = grind (arith, nat_tests)

peer_in : (w : World) (act : Act) → w.geometry.peers ≤ 8 → is_its_peer w (row_of_act act).form (row_of_act act).numbers ≡ true → peer_of act < 8
peer_in w (Tick p) few is = link_below p _ is
peer_in w (Offer p frame) few is = link_below p _ is
peer_in w (Poll p) few is = link_below p _ is
peer_in w (Stop p) few is = link_below p _ is
peer_in w (Auto p expect) few is = link_below p _ is
peer_in w (Storm p seed) few is = hostile_below p _ _ few is
peer_in w (Turn p steps) few is = peer_below p _ few is
peer_in w (Reset p) few is = peer_below p _ few is
peer_in w (Poke p word value) few is = hostile_below p _ _ few is
peer_in w (Peek p word) few is = hostile_below p _ _ few is
peer_in w (Set p value) few is = hostile_below p _ _ few is
peer_in w (Ring p target vector) few is = peer_below p _ few is
peer_in w (CfgRead p offset width) few is = peer_below p _ few is
peer_in w (CfgWrite p offset width value) few is = peer_below p _ few is
peer_in w (MmioRead p offset) few is = peer_below p _ few is
peer_in w (MmioWrite p offset value) few is = either (eqb offset 16) is
  where
    either : (b : Bool) → (if b then is_hostile w p else is_peer w p) ≡ true → p < 8
    either true of = hostile_below p _ _ few of
    either false of = peer_below p _ few of
peer_in w (MsixRead p offset) few is = peer_below p _ few is
peer_in w (MsixWrite p offset value) few is = peer_below p _ few is
peer_in w (Lose p) few is = peer_below p _ few is
peer_in w (Again p vector) few is = peer_below p _ few is

-- The acts of a scenario name peers below 8.
pub all_below : (w : World) (acts : List Act) → IsWorld w → acts ≡ w.acts → All (λ (act : Act). peer_of act < 8) acts
all_below w acts is same k default inside = let act = get_or acts k default in
    let at : slice_get acts k ≡ Some act = slice_get_read acts (length acts) k act refl inside (get_or_default acts k default act inside) in
    peer_in w act is.few (is.allowed k act (subst (λ (xs : List Act). slice_get xs k ≡ Some act) same at)).peer

-- One of them.
pub below : (acts : List Act) (k : ℕ) (act : Act) → All (λ (a : Act). peer_of a < 8) acts → k < length acts → act ≡ get_or acts k act → peer_of act < 8
below acts k act all inside is = subst (λ (a : Act). peer_of a < 8) (sym is) (all k act inside)
