-- Each record that `sim` writes keeps the laws of lawful histories.
use Rattle.std.proofs.Common.{◌≡◌, List, subst}
use Rattle.scenario_text.specs.Scenario.{World, IsWorld}
use Rattle.lawful_history.specs.declared.line.Line.{Line}
use Rattle.lawful_history.specs.Sessions.{without_sessions}
use Rattle.lawful_history.specs.Lawful.{IsLawful, IsLawfulIn, HasMarksInTwo, ReadsWhatWasWritten, WritesWhereItMay}
use Rattle.history_laws.specs.Calls.{CallsEndWithinBounds}
use Rattle.history_laws.specs.Indexes.{IndexesAreReadOnce}
use Rattle.history_laws.specs.Polls.{DonePollsDeliverAll}
use Rattle.history_laws.specs.Quiet.{ResetsAreQuiet}
use Rattle.history_laws.specs.Rows.{HistoriesRunTheMachine}
use Rattle.history_laws.specs.Reads.{DeliveredFramesAreRead, OutOfRangeIsRefused, RefusedValuesAreRead}
use Rattle.history_laws.specs.Refusals.{HonestPeersNeverRefuse, RefusedPeersStayInReset, RefusesOutOfRange}
use Rattle.history_laws.specs.Sessions.{HistoriesDeliver}
use Rattle.history_laws.specs.Marks.{SessionsAreNumbered}
use Rattle.history_laws.specs.Spelled.{HistoriesSpellAccepted}
use Rattle.history_laws.specs.Wake.{WakesAreRung}
use Rattle.ivshm_cli.specs.Headline.{Simulates}
use Rattle.ivshm_cli.specs.Whole.{KeepsTheLaws, RecordsKeepTheLaws}

-- The laws that are cited.
pub record Laws : Type 0 where
  pub write : WritesWhereItMay
  pub read : ReadsWhatWasWritten
  pub machine : HistoriesRunTheMachine
  pub call : CallsEndWithinBounds
  pub deliver : DeliveredFramesAreRead
  pub accept : HistoriesSpellAccepted
  pub index : IndexesAreReadOnce
  pub poll : DonePollsDeliverAll
  pub still : ResetsAreQuiet
  pub wake : WakesAreRung
  pub refuse : OutOfRangeIsRefused
  pub beyond : RefusesOutOfRange
  pub value : RefusedValuesAreRead
  pub rest : RefusedPeersStayInReset
  pub never : HonestPeersNeverRefuse
  pub order : HistoriesDeliver
  pub marked : HasMarksInTwo
  pub number : SessionsAreNumbered

keeps : Laws → (world : World) (history : List Line) → IsWorld world → IsLawful world history → KeepsTheLaws world history
keeps laws world history is lawful =
    let so : (lines : List Line) → history ≡ lines → IsLawful world lines = λ lines same. subst (λ (ls : List Line). IsLawful world ls) same lawful in
    record {
      writes = λ older newer peer word value same. laws.write world older newer peer word value (so _ same);
      reads = λ older newer peer word value same. laws.read world older newer peer word value (so _ same);
      rows = laws.machine world history is lawful;
      calls = λ entries older newer p by honest cut. laws.call world history entries older newer p is by honest cut;
      once = λ older newer p frame same. laws.deliver world older newer p frame is (so _ same);
      spelled = λ older newer p frame same. laws.accept world older newer p frame is (so _ same);
      indexes = record {
        looks = λ older newer p count same. laws.index.looks world older newer p count is (so _ same);
        reclaims = λ older newer p count same. laws.index.reclaims world older newer p count is (so _ same);
        refusals = λ older newer p refused same. laws.index.refusals world older newer p refused is (so _ same);
      };
      done = λ older between newer p count same within. laws.poll world older between newer p count is (so _ same) within;
      quiet = λ older newer p word value honest same. laws.still world older newer p word value is honest (so _ same);
      wakes = record {
        armed = λ older newer p has same. laws.wake.armed world older newer p is has (so _ same);
        next = λ older newer p honest same. laws.wake.next world older newer p is honest (so _ same);
        rung = λ older since offer newer p frame below honest same event left kept on. laws.wake.rung world older since offer newer p frame is below honest (so _ same) event left kept on;
        wakes = λ older since offer newer p frame has below honest same left nothing kept on. laws.wake.wakes world older since offer newer p frame is has below honest (so _ same) left nothing kept on;
      };
      refused = λ older newer p word value refused honest same beyond. laws.refuse world older newer p word value refused is honest (so _ same) beyond;
      cause = λ older newer p refused same. (laws.beyond world older newer p refused is (so _ same), laws.value world older newer p refused is (so _ same));
      stays = λ older between newer p value refused same none. laws.rest world older between newer p value refused is (so _ same) none;
      agree = λ older newer p refused zero one same. laws.never world older newer p refused is zero one (so _ same);
      prefix = λ older newer p zero one p2 same. laws.order world older newer p is (so _ same) zero one p2;
    }

pub kept : Laws → RecordsKeepTheLaws
kept laws before now before' now' s = record {
  laws = keeps laws s.world (without_sessions s.history) s.spelled.0 (laws.marked s.world s.history s.lawful).0;
  marks = λ older newer p opened other same. laws.number s.world older newer p opened other s.spelled.0 (subst (λ (ls : List Line). IsLawfulIn s.world 2 ls) same s.lawful);
}
