-- Looks between the turns of an automatic peer.
use Rattle.std.proofs.Common.{◌≡◌, ℕ, zero, suc, ◌+◌, ◌/◌, ◌^◌, ◌<◌, ◌≤◌, Bool, true, false, List, [], ◌∷◌, ◌++◌, refl, sym, ap, ◌∙◌, subst, arith, append_assoc, append-nil}
use Rattle.std.specs.Prelude.{◌-◌, ◌*◌, ◌==◌, ◌&&◌, Option, Some, None, if◌then◌else◌}
use Rattle.std.proofs.Math.Nat.{lt-div-mul-add}
use Rattle.std.proofs.lemmas.Nat.{pow_pos}
use Rattle.std.proofs.lemmas.Nat.Bits.{bit_at_above}
use Rattle.std.proofs.lemmas.Bool.{le-ltb}
use Rattle.call_grammar.specs.Calls.{EndConfig}
use Rattle.call_grammar.specs.Places.{Place, RingingOffer, RingingPoll, access_at, is_open}
use Rattle.link_endpoint.specs.Engine.{Engine}
use Rattle.doorbell_irq.specs.declared.route.Route.{Route}
use Rattle.shared_words.specs.declared.run_setup.RunSetup.{RunSetup}
use Rattle.shared_words.specs.DerivedStates.{CallAccess, MemoryOp}
use Rattle.shared_words.specs.Actions.{Action}
use Rattle.shared_words.specs.RunSetups.{config_in}
use Rattle.lawful_history.specs.declared.line.Line.{Line}
use Rattle.lawful_history.specs.declared.line.Line.TheVariants as line
use Rattle.peer_runner.specs.Turns.{interrupt_line, interrupt_lines, sleeps, is_below}
use Rattle.peer_runner.specs.Runners.{Runner, MayRingBy, due_of, looks_now, RunnerRefines}
use Rattle.shared_words.proofs.LinkOfSetup.{clash}

pub looks_at : (own mine : Route) (due dues : ℕ) (looks before : Option ℕ) (result : Bool) → result ≡ looks_now own due looks → own ≡ mine → due ≡ dues → before ≡ looks → looks_now mine dues before ≡ result
looks_at own mine due dues looks before result is same now was = sym (is ∙ (λ i. looks_now (same i) (now i) (sym was i)))

none_below : (looks : Option ℕ) → is_below looks 0 ≡ false
none_below None = refl
none_below (Some taken) = le-ltb taken 0 (omega arith)

-- No look is due if a call is open.
pub looks_shut : (config : EndConfig) (own : Route) (r : Runner) → looks_now own (due_of config r) r.looks ≡ true → is_open r.place ≡ false
looks_shut config own r is = by (is_open r.place) refl
  where
    never : (a b : Bool) → b ≡ false → (a && b) ≡ false
    never true b e = e
    never false b e = refl

    by : (b : Bool) → is_open r.place ≡ b → is_open r.place ≡ false
    by true e = let none : due_of config r ≡ 0 = ap (λ (b : Bool). if b then 0 else if sleeps config r.end r.auto then 64 else 1) e in
        absurd (clash (sym (never own.enabled (is_below r.looks 0) (none_below r.looks)) ∙ (ap (λ n. looks_now own n r.looks) (sym none) ∙ is)))
    by false e = e

rings_open : (routes : List Route) (config : EndConfig) (place : Place) (list : List (Action (MemoryOp CallAccess))) → MayRingBy routes (access_at config place) list → is_open place ≡ true
rings_open routes config RingingOffer list may = refl
rings_open routes config RingingPoll list may = refl
rings_open routes config place list may = absurd may

-- No ring is to come if no call is open.
pub still_shut : (key : RunSetup) (me : ℕ) (routes : List Route) (r : Runner) (end : Engine) → RunnerRefines key me routes r end → is_open r.place ≡ false → r.ringing ≡ false
still_shut key me routes r end s shut = by r.ringing refl
  where
    by : (b : Bool) → r.ringing ≡ b → r.ringing ≡ false
    by true e = absurd (clash (sym shut ∙ rings_open routes (config_in key me) r.place r.actions (s.rings e)))
    by false e = e

-- A look records the bits that it found, one after another.
pub found_none : (me found : ℕ) → interrupt_lines 0 me found ≡ []
unfolding interrupt_lines
found_none me found = refl

pub found_more : (n me found : ℕ) (first was now : List Line) → was ≡ first ++ interrupt_lines n me found → now ≡ was ++ interrupt_line me n found → now ≡ first ++ interrupt_lines (n + 1) me found
unfolding interrupt_lines
found_more n me found first was now is more = let next : n + 1 ≡ suc n = omega arith in
    more ∙ (ap (λ ls. ls ++ interrupt_line me n found) is ∙ (append_assoc first (interrupt_lines n me found) (interrupt_line me n found) ∙ sym (ap (λ k. first ++ interrupt_lines k me found) next)))

-- If no bit from n on is set, the lines of all bits are the lines of the bits below n.
found_below : (n k me found : ℕ) → found < 2 ^ n → interrupt_lines (n + k) me found ≡ interrupt_lines n me found
unfolding interrupt_lines
found_below n zero me found small = let same : n + 0 ≡ n = omega arith in ap (λ (m : ℕ). interrupt_lines m me found) same
found_below n (suc k) me found small = let next : n + suc k ≡ suc (n + k) = omega arith in
    let clear : interrupt_line me (n + k) found ≡ [] = ap (λ (b : ℕ). if b == 0 then [] else line.Interrupt me (n + k) ∷ []) (bit_at_above found n (n + k) small (omega arith)) in
    ap (λ (m : ℕ). interrupt_lines m me found) next ∙ ((λ i. found_below n k me found small i ++ clear i) ∙ append-nil (interrupt_lines n me found))

pub found_rest : (bit me found : ℕ) (first now : List Line) → bit ≤ 64 → found / 2 ^ bit ≡ 0 → now ≡ first ++ interrupt_lines bit me found → now ≡ first ++ interrupt_lines 64 me found
found_rest bit me found first now most none is = let all : bit + (64 - bit) ≡ 64 = omega arith in
    let under : found < found / 2 ^ bit * 2 ^ bit + 2 ^ bit = lt-div-mul-add (pow_pos bit) in let small : found < 2 ^ bit = let at = subst (λ (q : ℕ). found < q * 2 ^ bit + 2 ^ bit) none under in omega (arith, at) in
    is ∙ ap (λ (ls : List Line). first ++ ls) (sym (found_below bit (64 - bit) me found small) ∙ ap (λ (n : ℕ). interrupt_lines n me found) all)
