use Rattle.ivshm_cli.proofs.RecordsKeepLaws.{kept}
use Rattle.ivshm_cli.proofs.laws.records_keep_the_laws.Goals as goal

pub returns : goal.returns
returns c = kept (record {
  write = c.memory_is_kept.ensures.writes;
  read = c.memory_is_kept.ensures.reads;
  machine = c.histories_run_the_machine.ensures;
  call = c.calls_end_within_bounds.ensures;
  deliver = c.delivered_frames_are_read.ensures;
  accept = c.accepted_frames_are_spelled.ensures;
  index = c.indexes_are_read_once.ensures;
  poll = c.done_polls_deliver_all.ensures;
  still = c.resets_are_quiet.ensures;
  wake = c.wakes_are_rung.ensures;
  refuse = c.values_out_of_range_are_refused.ensures;
  beyond = c.refused_values_are_out_of_range.ensures;
  value = c.refused_values_are_read.ensures;
  rest = c.refused_peers_stay_in_reset.ensures;
  never = c.honest_peers_never_refuse.ensures;
  order = c.histories_deliver.ensures;
  marked = c.versions_differ_in_marks.ensures.second;
  number = c.sessions_are_numbered.ensures;
})
