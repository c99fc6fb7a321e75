-- The marks of sessions, and their session numbers.
use Rattle.std.proofs.Common.{◌≡◌, ℕ, ◌+◌, ◌-◌, ◌<◌, Bool, true, false, List, [], ◌∷◌, ◌++◌, refl, sym, ◌∙◌, ap, subst, append_assoc, arith, inl, inr, ◌⊎◌}
use Rattle.std.specs.Prelude.{◌==◌, ◌&&◌, not, if◌then◌else◌, reverse, All}
use Rattle.std.proofs.lemmas.List.{append-nil}
use Rattle.std.proofs.lemmas.List.Elements.{All-head, All-tail, filter_passes}
use Rattle.std.proofs.lemmas.Bool.Decides.{nat_tests}
use Rattle.scenario_text.specs.Scenario.{World, is_link}
use Rattle.call_grammar.proofs.OfferLists.{yes, no}
use Rattle.link_machine.specs.LinkMachine.{Side, Log, Wrote, log_after, side_with}
use Rattle.lawful_history.specs.declared.line.Line.{Line}
use Rattle.lawful_history.specs.declared.line.Line.TheVariants as line
use Rattle.lawful_history.specs.Sides.{partner}
use Rattle.lawful_history.specs.Sessions.{writes_state, opened_in, enters_run, session_mark, marks_before, with_sessions, is_session, without_sessions}
use Rattle.lawful_history.specs.Lawful.{HasMarksInTwo}
use Rattle.history_laws.specs.SideEvents.{LineSideEvent, side_after_line, line_side_event_of, side_of}
use Rattle.history_laws.specs.Rows.{EachLine}
use Rattle.history_laws.specs.Sessions.{log_after_line, log_of}
use Rattle.history_laws.specs.Marks.{IsNumbered, SessionsAreNumbered}
use Rattle.history_laws.proofs.PlacesAlong.{two_links}
use Rattle.history_laws.proofs.LinkPeers.{partner_is}
use Rattle.history_laws.proofs.Lines.{middle, at_line}

-- The number of sessions that a peer opened

kept_opened : (here : Bool) (l x : Log) (n : ℕ) → l.opened ≡ n → x.opened ≡ l.opened → (if here then x else l).opened ≡ n
kept_opened true l x n is same = same ∙ is
kept_opened false l x n is same = is

wrote_opened : (here two : Bool) (l x : Log) (n : ℕ) → l.opened ≡ n → x.opened ≡ (if two then l.opened + 1 else l.opened) →
    (if here then x else l).opened ≡ (if here && two then n + 1 else n)
wrote_opened true true l x n is more = more ∙ ap (λ k. k + 1) is
wrote_opened true false l x n is more = more ∙ is
wrote_opened false two l x n is more = is

side_event_opened : (line : Line) (p : ℕ) (s : Side) (l o : Log) (n : ℕ) → l.opened ≡ n →
    (log_after_line (line_side_event_of line) p s l o).opened ≡ (if writes_state p 2 line then n + 1 else n)
side_event_opened (line.State q v) p s l o n is = wrote_opened (q == p) (v == 2) l (log_after l o s (Wrote v)) n is refl
side_event_opened (line.Read q word value) p s l o n is = kept_opened (q == p) l l n is refl
side_event_opened (line.Reset q) p s l o n is = kept_opened (q == p) l _ n is refl
side_event_opened (line.Saw q value) p s l o n is = kept_opened (q == p) l l n is refl
side_event_opened (line.Reclaim q count) p s l o n is = kept_opened (q == p) l l n is refl
side_event_opened (line.Look q count) p s l o n is = kept_opened (q == p) l l n is refl
side_event_opened (line.Full q) p s l o n is = kept_opened (q == p) l l n is refl
side_event_opened (line.Done q) p s l o n is = kept_opened (q == p) l l n is refl
side_event_opened (line.Over q) p s l o n is = kept_opened (q == p) l l n is refl
side_event_opened (line.Down q) p s l o n is = kept_opened (q == p) l l n is refl
side_event_opened (line.Accept q frame) p s l o n is = kept_opened (q == p) l l n is refl
side_event_opened (line.Deliver q frame) p s l o n is = kept_opened (q == p) l l n is refl
side_event_opened (line.Return q) p s l o n is = kept_opened (q == p) l l n is refl
side_event_opened (line.Refuse q refused) p s l o n is = kept_opened (q == p) l l n is refl
side_event_opened _ p s l o n is = is

opened_is : (past : List Line) (p : ℕ) → (log_of past p).opened ≡ opened_in past p
opened_is [] p = refl
opened_is (line ∷ older) p = side_event_opened line p (side_of older p) (log_of older p) (log_of older (1 - p)) (opened_in older p) (opened_is older p)

-- The entry of a peer into RUN

both : (q p v : ℕ) → (q == p && v == 3) ≡ true → (q ≡ p) × (v ≡ 3)
both q p v is = (grind (arith, nat_tests), grind (arith, nat_tests))

record Entered (past : List Line) (p : ℕ) : Type 0 where
  run : (side_of past p).state ≡ 3
  carried : (log_of past p).carried ≡ (log_of past (1 - p)).opened

wrote_three : (older : List Line) (p q v : ℕ) → p < 2 → q ≡ p → v ≡ 3 → Entered (line.State q v ∷ older) p
wrote_three older p q v below is three =
    let here : (q == p) ≡ true = grind (arith, nat_tests) in
    let beside : (q == 1 - p) ≡ false = grind (arith, nat_tests) in
    let of_three : (v == 3) ≡ true = grind (arith, nat_tests) in
    let mine = log_of older p in
    let opposite = log_of older (1 - p) in
    record {
      run = ap (λ (s : Side). s.state) (yes (q == p) (side_with (side_of older p) v) (side_of older p) here) ∙ three;
      carried = ap (λ (l : Log). l.carried) (yes (q == p) (log_after mine opposite (side_of older p) (Wrote v)) mine here)
          ∙ (yes (v == 3) opposite.opened mine.carried of_three
          ∙ ap (λ (l : Log). l.opened) (sym (no (q == 1 - p) (log_after opposite (log_of older (1 - (1 - p))) (side_of older (1 - p)) (Wrote v)) opposite beside)));
    }

entered : (past : List Line) (p : ℕ) → p < 2 → enters_run past p ≡ true → Entered past p
entered [] p below is = absurd (let e : false ≡ true = is in cc)
entered (line.Interrupt q v ∷ older) p below is = let e = entered older p below is in record { run = e.run; carried = e.carried }
entered (line.Lost q v ∷ older) p below is = let e = entered older p below is in record { run = e.run; carried = e.carried }
entered (line.State q v ∷ older) p below is = let b = both q p v is in wrote_three older p q v below b.0 b.1
entered (_ ∷ older) p below is = absurd (let e : false ≡ true = is in cc)

-- A history with marks has the same side events as the history without them

record Same (older side_event : List Line) : Type 0 where
  sides : (p : ℕ) → side_of side_event p ≡ side_of older p
  logs : (p : ℕ) → log_of side_event p ≡ log_of older p

log_alike : (t : LineSideEvent) (p : ℕ) (s s' : Side) (l l' o o' : Log) → s ≡ s' → l ≡ l' → o ≡ o' → log_after_line t p s l o ≡ log_after_line t p s' l' o'
log_alike t p s s' l l' o o' sides mine opposite =
    ap (λ (x : Side). log_after_line t p x l o) sides ∙ (ap (λ (x : Log). log_after_line t p s' x o) mine ∙ ap (λ (x : Log). log_after_line t p s' l' x) opposite)

same_more : (older side_event : List Line) (line : Line) → Same older side_event → Same (line ∷ older) (line ∷ side_event)
same_more older side_event line same = record {
  sides = λ p. ap (side_after_line (line_side_event_of line) p) (same.sides p);
  logs = λ p. log_alike (line_side_event_of line) p (side_of side_event p) (side_of older p) (log_of side_event p) (log_of older p) (log_of side_event (1 - p)) (log_of older (1 - p))
      (same.sides p) (same.logs p) (same.logs (1 - p));
}

-- Each mark

abbrev OfMark : World → List Line → Line → Type 0
OfMark world past (line.Session p opened other) = IsNumbered world past p opened other
OfMark world past _ = Unit {0}

of_no_mark : (world : World) (past : List Line) (line : Line) → is_session line ≡ false → OfMark world past line
of_no_mark world past (line.Session p opened other) is = absurd (let e : true ≡ false = is in cc)
of_no_mark world past _ is = tt

by_flag : (flag : Bool) (x y : ℕ) → x ≡ y → (if flag then x else 0) ≡ (if flag then y else 0)
by_flag flag x y same = ap (λ n. if flag then n else 0) same

numbered : (world : World) (older side_event : List Line) (p : ℕ) → Same older side_event → (is_link world p && enters_run older p) ≡ true →
    OfMark world side_event (session_mark world older p)
numbered world older side_event p same test =
    let honest : is_link world p ≡ true = grind (arith, nat_tests) in
    let enters : enters_run older p ≡ true = grind (arith, nat_tests) in
    let below = two_links world p honest in
    let e = entered older p below enters in
    let other = partner_is p below in
    let opposite : opened_in older (partner p) ≡ (log_of side_event (1 - p)).opened =
    ap (opened_in older) other ∙ (sym (opened_is older (1 - p)) ∙ ap (λ (l : Log). l.opened) (sym (same.logs (1 - p)))) in
    let others : (if is_link world (partner p) then opened_in older (partner p) else 0) ≡ (if is_link world (1 - p) then (log_of side_event (1 - p)).opened else 0) =
    ap (λ q. if is_link world q then opened_in older (partner p) else 0) other ∙ by_flag (is_link world (1 - p)) (opened_in older (partner p)) (log_of side_event (1 - p)).opened opposite in
    record {
      honest = honest;
      run = ap (λ (s : Side). s.state) (same.sides p) ∙ e.run;
      own = sym (opened_is older p) ∙ ap (λ (l : Log). l.opened) (sym (same.logs p));
      others = others;
      carried = λ link. others ∙ (yes (is_link world (1 - p)) (log_of side_event (1 - p)).opened 0 link
          ∙ (ap (λ (l : Log). l.opened) (same.logs (1 - p)) ∙ (sym e.carried ∙ ap (λ (l : Log). l.carried) (sym (same.logs p)))));
    }

-- The marks before a line: none, or the one of a link peer that enters RUN.
test_cases : (test : Bool) (mark : Line) → ((if test then mark ∷ [] else []) ≡ []) ⊎ (((if test then mark ∷ [] else []) ≡ mark ∷ []) × (test ≡ true))
test_cases true mark = inr (refl, refl)
test_cases false mark = inl refl

record OneMark (world : World) (older marks : List Line) : Type 0 where
  peer : ℕ
  is : marks ≡ session_mark world older peer ∷ []
  enters : (is_link world peer && enters_run older peer) ≡ true

mark_cases : (world : World) (older : List Line) (line : Line) → (marks_before world older line ≡ []) ⊎ OneMark world older (marks_before world older line)
mark_cases world older (line.Over p) = elim (test_cases (is_link world p && enters_run older p) (session_mark world older p)) [
  | inl none ↦ inl none
  | inr one ↦ inr (record { peer = p; is = one.0; enters = one.1 })
]
mark_cases world older _ = inl refl

reversed : (marks rest side_event : List Line) (line : Line) → reverse (marks ++ line ∷ rest) ++ side_event ≡ reverse rest ++ (line ∷ (reverse marks ++ side_event))
reversed marks rest side_event line = ap (λ ls. ls ++ side_event) (middle marks rest line) ∙ append_assoc (reverse rest) (line ∷ reverse marks) side_event

not_session : (line : Line) → not (is_session line) ≡ true → is_session line ≡ false
not_session line is = from (is_session line) is where
  from : (b : Bool) → not b ≡ true → b ≡ false
  from true e = absurd (let f : false ≡ true = e in cc)
  from false e = refl

all_marks : (world : World) (older side_event lines : List Line) → All (λ line. not (is_session line) ≡ true) lines → Same older side_event → EachLine (OfMark world) side_event →
    EachLine (OfMark world) (reverse (with_sessions world older lines) ++ side_event)
all_marks world older side_event [] plain same each = each
all_marks world older side_event (line ∷ lines) plain same each =
    let P : Line → Type 0 = λ l. not (is_session l) ≡ true in
    let marks = marks_before world older line in
    let rest = with_sessions world (line ∷ older) lines in
    let here = not_session line (All-head P line lines plain) in
    let later = All-tail P line lines plain in
    elim (mark_cases world older line) [
      | inl none ↦ (
          let all = all_marks world (line ∷ older) (line ∷ side_event) lines later (same_more older side_event line same) (of_no_mark world side_event line here, each) in
          subst (λ (ls : List Line). EachLine (OfMark world) ls) (sym (reversed marks rest side_event line ∙ ap (λ m. reverse rest ++ (line ∷ (reverse m ++ side_event))) none)) all
          )
      | inr one ↦ (
          let p = one.peer in
          let mark = session_mark world older p in
          let marked : Same older (mark ∷ side_event) = record { sides = same.sides; logs = same.logs } in
          let all = all_marks world (line ∷ older) (line ∷ mark ∷ side_event) lines later (same_more older (mark ∷ side_event) line marked)
          (of_no_mark world (mark ∷ side_event) line here, (numbered world older side_event p same one.enters, each)) in
          subst (λ (ls : List Line). EachLine (OfMark world) ls) (sym (reversed marks rest side_event line ∙ ap (λ m. reverse rest ++ (line ∷ (reverse m ++ side_event))) one.is)) all
          )
    ]

pub sessions_are_numbered : HasMarksInTwo → SessionsAreNumbered
sessions_are_numbered two world before after p opened other is lawful =
    let mark = line.Session p opened other in
    let lines = before ++ mark ∷ after in
    let plain = filter_passes (λ l. not (is_session l)) lines in
    let start : Same [] [] = record { sides = λ q. refl; logs = λ q. refl } in
    let bare = without_sessions lines in
    let all = all_marks world [] [] bare plain start tt in
    let each : EachLine (OfMark world) (reverse lines) =
    subst (λ (ls : List Line). EachLine (OfMark world) ls) (append-nil (reverse (with_sessions world [] bare)) ∙ ap reverse (sym (two world lines lawful).1)) all in
    at_line (OfMark world) before after mark each
