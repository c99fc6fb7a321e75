-- A draft as the value of its lines.
use Rattle.frame_bridge.specs.declared.drafts.Draft.{Draft}
use Rattle.frame_bridge.specs.Judge.{DraftView}

abbrev pub draft_view : Draft → DraftView
draft_view d = record { position = d.position; ports = d.ports; rounds = d.rounds; sent = d.sent }
