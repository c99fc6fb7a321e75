-- A draft as the value of its lines.
use Rattle.scenario_text.specs.declared.drafts.Draft.{Draft}
use Rattle.scenario_text.specs.Judge.{DraftView}

abbrev pub draft_view : Draft → DraftView
draft_view d = record {
  position = d.position;
  version = d.version;
  peers = d.peers;
  table = d.table;
  common = d.common;
  out = d.out;
  mtu = d.mtu;
  wiring = d.wiring;
  honest = d.honest;
  acts = d.acts;
}
