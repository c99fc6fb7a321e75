-- A draft as the value of its lines.
use Rattle.std.specs.Prelude.{◌≡◌, true}
use Rattle.section_map.specs.declared.limits.TheConstants.{PAGE}
use Rattle.scenario_text.specs.Sizes.{is_geometry}
use Rattle.port_text.specs.declared.drafts.Draft.{Draft}
use Rattle.port_text.specs.Scenario.{IsWorld}
use Rattle.port_text.specs.Judge.{DraftView, world_of_draft}

abbrev pub draft_view : Draft → DraftView
draft_view d = record { position = d.position; peers = d.peers; out = d.out; most = d.most; honest = d.honest; acts = d.acts }

-- The value of the lines is a schedule of ports.
pub record IsWhole (d : DraftView) : Type 0 where
  pub geometry : is_geometry d.peers PAGE 0 d.out ≡ true
  pub world : IsWorld (world_of_draft d)
