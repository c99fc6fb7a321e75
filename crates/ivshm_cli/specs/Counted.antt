-- The counts of a history while it is made.
use Rattle.std.specs.Prelude.{ℕ, ◌≡◌, ◌+◌, if◌then◌else◌, List, ◌++◌, codes, count_by, fold, unwrap_or}
use Rattle.split_ring.specs.Spelling.{high_half}
use Rattle.scenario_text.specs.Scenario.{World}
use Rattle.lawful_history.specs.declared.line.Line.{Line}
use Rattle.ivshm_cli.specs.declared.summary.Counts.{Counts}
use Rattle.ivshm_cli.specs.Load.{is_accept, is_deliver, is_refuse, written_to, index_word, number_line}

-- The counts of an empty history.
abbrev pub none_of : World → Counts
none_of world = record { word = index_word world; accepted = 0; delivered = 0; refused = 0; last = 0 }

-- The counts after one more line.
abbrev pub with_line : Counts → Line → Counts
with_line c line = record {
  word = c.word;
  accepted = c.accepted + (if is_accept line then 1 else 0);
  delivered = c.delivered + (if is_deliver line then 1 else 0);
  refused = c.refused + (if is_refuse line then 1 else 0);
  last = unwrap_or (written_to c.word line) c.last;
}

-- The last value that peer 0 wrote to `word` in `lines`, or `before`.
abbrev pub last_from : ℕ → ℕ → List Line → ℕ
last_from word before lines = fold (λ last line. unwrap_or (written_to word line) last) before lines

-- `counts` are `began` and the counts of these lines.
pub record HasCounted (began counts : Counts) (lines : List Line) : Type 0 where
  pub word : counts.word ≡ began.word
  pub accepted : counts.accepted ≡ began.accepted + count_by is_accept lines
  pub delivered : counts.delivered ≡ began.delivered + count_by is_deliver lines
  pub refused : counts.refused ≡ began.refused + count_by is_refuse lines
  pub last : counts.last ≡ last_from began.word began.last lines

-- The five lines of `load`.
abbrev pub lines_of_counts : ℕ → Counts → List ℕ
lines_of_counts count counts =
    number_line (codes "load") count
    ++ number_line (codes "accepted") counts.accepted
    ++ number_line (codes "delivered") counts.delivered
    ++ number_line (codes "refused") counts.refused
    ++ number_line (codes "index") (high_half counts.last)
