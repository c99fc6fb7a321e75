-- Lines of peers that aren't honest link peers leave the honest ones at their places.
use Rattle.std.proofs.Common.{◌≡◌, ◌≢◌, ℕ, ◌+◌, ◌*◌, ◌<◌, ◌≤◌, Bool, true, false, List, [], ◌∷◌, ◌++◌, refl, sym, ◌∙◌, ap, subst, arith, eq-eqb, ne_eqb, inl, inr}
use mathlib.Core.Logic.{dite}
use native.Mathlib.Decide.{ℕ_discrete}
use Rattle.std.specs.Prelude.{◌==◌, if◌then◌else◌}
use Rattle.std.proofs.Math.Nat.{mul_comm}
use Rattle.section_map.specs.Geometry.{Shape, section_start}
use Rattle.section_map.specs.MayWrite.{InSection, MayWrite}
use Rattle.section_map.proofs.SectionsAreApart.{sections_are_apart}
use Rattle.scenario_text.specs.Scenario.{World, IsWorld, is_link}
use Rattle.call_grammar.specs.Ends.{End}
use Rattle.call_grammar.specs.Places.{Place}
use Rattle.link_machine.specs.LinkMachine.{Side, MayWriteState}
use Rattle.link_machine.specs.LinkMachine as side_event
use Rattle.call_grammar.proofs.OfferLists.{yes, no}
use Rattle.link_invariant.specs.Steps.{IsUntouched}
use Rattle.link_invariant.specs.LinkConfig.{section_of}
use Rattle.link_invariant.specs.Sides.{SideIs}
use Rattle.link_invariant.proofs.LinkInvariantKept.{whole_kept}
use Rattle.link_invariant.specs.LinkConfig as pair
use Rattle.history_laws.specs.Reads.{Got, got, reads_of}
use Rattle.history_laws.proofs.ReadPlaces.{ReadsAre}
use Rattle.history_laws.proofs.Unrung.{IsAccept, line_is}
use Rattle.history_laws.proofs.Armed.{ArmedIs}
use Rattle.link_invariant.specs.Fields.{AvailEvent}
use Rattle.link_invariant.proofs.Fields.{fields_same}
use Rattle.lawful_history.specs.declared.line.Line.{Line}
use Rattle.lawful_history.specs.declared.line.Line.TheVariants as line
use Rattle.lawful_history.specs.Memory.{last_write}
use Rattle.history_laws.specs.SideEvents.{side_after, side_of, line_side_event_of}
use Rattle.history_laws.proofs.PermittedEvents.{link_config_of, is_link_config}
use Rattle.history_laws.proofs.LinkPlaces.{Stands, Settled, Rests, WritesIn, answers}
use Rattle.history_laws.specs.Rows.{HasRow}

record Outside (world : World) (past : List Line) (line : Line) : Type 0 where
  untouched : (q : ℕ) → q < 2 → is_link world q ≡ true → IsUntouched (link_config_of world) (last_write past) (last_write (line ∷ past)) q
  sides : (q : ℕ) → q < 2 → is_link world q ≡ true → side_of (line ∷ past) q ≡ side_of past q
  states : (q : ℕ) → q < 2 → last_write past q ≡ (side_of past q).state → last_write (line ∷ past) q ≡ (side_of (line ∷ past) q).state
  reads : (q : ℕ) → q < 2 → is_link world q ≡ true → reads_of (line ∷ past) q ≡ reads_of past q
  accepts : (p : ℕ) → IsAccept p line → ⊥
  settles : Settled world (line ∷ past)
  fine : HasRow world past line (line_side_event_of line) × Rests world past (line_side_event_of line)
  writes : WritesIn world past line

outside_stands : (world : World) (past : List Line) (line : Line) (ends : ℕ → End) (places : ℕ → Place) → IsWorld world → Outside world past line → Stands world past ends places → Stands world (line ∷ past) ends places
outside_stands world past line ends places is o s = record {
  holds = whole_kept.others (link_config_of world) (is_link world) (last_write past) (last_write (line ∷ past)) ends places (is_link_config world is) o.untouched s.holds;
  sides = λ p below honest. subst (λ (x : Side). SideIs (ends p) (places p) x) (sym (o.sides p below honest)) (s.sides p below honest);
  states = λ p below. o.states p below (s.states p below);
  reads = λ p below honest. subst (λ (r : List Got). ReadsAre (pair.config_of (link_config_of world) p) (places p) r) (sym (o.reads p below honest)) (s.reads p below honest);
  armed = λ has p below honest. subst (λ (event : ℕ). ArmedIs event (ends p) (places p))
      (sym (fields_same (link_config_of world) (last_write past) (last_write (line ∷ past)) p (is_link_config world is) (o.untouched p below honest).section AvailEvent)) (s.armed has p below honest);
  unrung = λ p below honest. line_is world p (places p) line past (o.accepts p) (s.unrung p below honest);
  settled = o.settles;
  fine = ((o.fine.0, o.fine.1, answers world past line s.settled, o.writes), s.fine);
}

-- An update of one word or one side leaves every other one.
pub here_is : {A : Type 0} → (p : ℕ) (a b : A) → (if p == p then a else b) ≡ a
here_is p a b = yes (p == p) a b (eq-eqb p p refl)

pub there_is : {A : Type 0} → (p q : ℕ) (a b : A) → p ≢ q → (if p == q then a else b) ≡ b
there_is p q a b ne = no (p == q) a b (ne_eqb p q ne)

-- An honest link peer differs from a peer that isn't one.
pub differ : (world : World) (p q : ℕ) → is_link world p ≡ false → is_link world q ≡ true → p ≢ q
differ world p q no_link honest e = let same : is_link world p ≡ is_link world q = ap (is_link world) e in cc

-- The section of a link peer.
pub section_is : (world : World) (q : ℕ) → section_of (link_config_of world) q ≡ section_start world.geometry q
section_is world q = let turn : world.geometry.out * q ≡ q * world.geometry.out = mul_comm world.geometry.out q in omega arith

in_section : (world : World) (q j : ℕ) → j < world.geometry.out → InSection world.geometry q (section_of (link_config_of world) q + j)
in_section world q j small = let e = section_is world q in (omega arith, omega arith)

apart_from : (world : World) (p q word j : ℕ) → MayWrite world.geometry p word → p ≢ q → j < world.geometry.out → word ≢ section_of (link_config_of world) q + j
apart_from world p q word j (inl mine) ne small e = sections_are_apart world.geometry p q word ne mine (subst (λ (w : ℕ). InSection world.geometry q w) (sym e) (in_section world q j small))
apart_from world p q word j (inr common) ne small e = let opposite = in_section world q j small in absurd (omega arith)

above_table : (g : Shape) (p word : ℕ) → MayWrite g p word → g.table ≤ word
above_table g p word (inl mine) = omega arith
above_table g p word (inr common) = common.0

-- A read of a peer that isn't an honest link peer.
pub read_stands : (world : World) (past : List Line) (p word value : ℕ) (ends : ℕ → End) (places : ℕ → Place) → IsWorld world → is_link world p ≡ false → Stands world past ends places → Stands world (line.Read p word value ∷ past) ends places
read_stands world past p word value ends places is no_link = outside_stands world past (line.Read p word value) ends places is record {
  untouched = λ q below honest. record { state = refl; section = λ j small. refl };
  sides = λ q below honest. there_is p q (side_after (side_event.Gave value) (side_of past q)) (side_of past q) (differ world p q no_link honest);
  states = λ q below old. old ∙ sym (gave (p == q) q);
  reads = λ q below honest. there_is p q (reads_of past q ++ got word value ∷ []) (reads_of past q) (differ world p q no_link honest);
  accepts = λ q accept. let e = accept.1 in cc;
  settles = λ refused honest beyond. let no : false ≡ true = sym no_link ∙ honest in cc;
  fine = ((λ below. here_is p (side_after (side_event.Gave value) (side_of past p)) (side_of past p)), tt);
  writes = tt;
}
  where
    gave : (b : Bool) (q : ℕ) → (if b then side_after (side_event.Gave value) (side_of past q) else side_of past q).state ≡ (side_of past q).state
    gave true q = refl
    gave false q = refl

pub write_stands : (world : World) (past : List Line) (p word value : ℕ) (ends : ℕ → End) (places : ℕ → Place) → IsWorld world → is_link world p ≡ false → MayWrite world.geometry p word → Stands world past ends places →
    Stands world (line.Write p word value ∷ past) ends places
write_stands world past p word value ends places is no_link may = outside_stands world past (line.Write p word value) ends places is record {
  untouched = λ q below honest. record {
    state = there_is word q value (last_write past q) (below_table q below);
    section = λ j small. there_is word (section_of (link_config_of world) q + j) value (last_write past (section_of (link_config_of world) q + j)) (apart_from world p q word j may (differ world p q no_link honest) small);
  };
  sides = λ q below honest. refl;
  states = λ q below old. there_is word q value (last_write past q) (below_table q below) ∙ old;
  reads = λ q below honest. refl;
  accepts = λ q accept. let e = accept.1 in cc;
  settles = tt;
  fine = (tt, tt);
  writes = λ honest. let no : false ≡ true = sym no_link ∙ honest in absurd (cc);
}
  where
    below_table : (q : ℕ) → q < 2 → word ≢ q
    below_table q below e = let high = above_table world.geometry p word may in let page = is.geometry.table_page in absurd (omega arith)

-- A line that sets the State of a peer that isn't an honest link peer.
state_untouched : (world : World) (past : List Line) (p value : ℕ) → IsWorld world → p < world.geometry.peers → is_link world p ≡ false → (q : ℕ) → q < 2 → is_link world q ≡ true →
    IsUntouched (link_config_of world) (last_write past) (λ at. (if p == at then value else last_write past at)) q
state_untouched world past p value is few no_link q below honest = record {
  state = there_is p q value (last_write past q) (differ world p q no_link honest);
  section = λ j small. there_is p (section_of (link_config_of world) q + j) value (last_write past (section_of (link_config_of world) q + j)) (λ e. let opposite = in_section world q j small in let table = is.geometry.states in absurd (omega arith));
}

state_there : (past : List Line) (p value q : ℕ) (new : Side) → new.state ≡ value → last_write past q ≡ (side_of past q).state → (if p == q then value else last_write past q) ≡ (if p == q then new else side_of past q).state
state_there past p value q new is old = dite (ℕ_discrete p q)
    (λ e. yes (p == q) value (last_write past q) (eq-eqb p q e) ∙ (sym is ∙ ap (λ (x : Side). x.state) (sym (yes (p == q) new (side_of past q) (eq-eqb p q e)))))
    (λ ne. there_is p q value (last_write past q) ne ∙ (old ∙ ap (λ (x : Side). x.state) (sym (there_is p q new (side_of past q) ne))))

pub state_stands : (world : World) (past : List Line) (p value : ℕ) (ends : ℕ → End) (places : ℕ → Place) → IsWorld world → p < world.geometry.peers → is_link world p ≡ false → Stands world past ends places →
    Stands world (line.State p value ∷ past) ends places
state_stands world past p value ends places is few no_link = let new = side_after (side_event.Wrote value) (side_of past p) in outside_stands world past (line.State p value) ends places is record {
  untouched = state_untouched world past p value is few no_link;
  sides = λ q below honest. there_is p q (side_after (side_event.Wrote value) (side_of past q)) (side_of past q) (differ world p q no_link honest);
  states = λ q below old. state_there past p value q (side_after (side_event.Wrote value) (side_of past q)) refl old;
  reads = λ q below honest. refl;
  accepts = λ q accept. let e = accept.1 in cc;
  settles = tt;
  fine = (
    λ below. (subst (λ (b : Bool). MayWriteState b (side_of past p) value) (sym no_link) tt, here_is p new (side_of past p)),
    λ honest refused. let no : false ≡ true = sym no_link ∙ honest in absurd (cc),
  );
  writes = tt;
}

pub reset_stands : (world : World) (past : List Line) (p : ℕ) (ends : ℕ → End) (places : ℕ → Place) → IsWorld world → p < world.geometry.peers → is_link world p ≡ false → Stands world past ends places →
    Stands world (line.Reset p ∷ past) ends places
reset_stands world past p ends places is few no_link = let new = side_after side_event.WasReset (side_of past p) in outside_stands world past (line.Reset p) ends places is record {
  untouched = state_untouched world past p 0 is few no_link;
  sides = λ q below honest. there_is p q (side_after side_event.WasReset (side_of past q)) (side_of past q) (differ world p q no_link honest);
  states = λ q below old. state_there past p 0 q (side_after side_event.WasReset (side_of past q)) refl old;
  reads = λ q below honest. there_is p q [] (reads_of past q) (differ world p q no_link honest);
  accepts = λ q accept. let e = accept.1 in cc;
  settles = tt;
  fine = (λ below. here_is p new (side_of past p), tt);
  writes = tt;
}
